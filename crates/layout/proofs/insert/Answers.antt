use Rattle.layout.proofs.Puts.{insert_end}
use Rattle.layout.proofs.insert.Goals as goal

pub returns : goal.returns
returns c = insert_end _ _ _ c.args.at c.args.end c.args.part.now c.requires.0 c.requires.1 c.copy_within.ensures.after c.copy.ensures
