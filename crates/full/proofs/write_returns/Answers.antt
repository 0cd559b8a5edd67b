use Rattle.full.proofs.Lines.{returns-wrote}
use Rattle.full.proofs.write_returns.Goals as goal

pub returns-in-Some : goal.returns-in-Some
returns-in-Some c = rw c.in-Some.is (returns-wrote _ _ _ _ c.write_word-n.ensures (rw c.in-Some.is at c.requires) _ _ c.write_fields.ensures)
