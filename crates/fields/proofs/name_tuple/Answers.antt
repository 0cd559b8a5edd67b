use Rattle.fields.proofs.Naming.{named_put}
use Rattle.fields.proofs.name_tuple.Goals as goal

pub returns : goal.returns
returns c = named_put _ _ _ _ _ c.requires _ _ _ c.mark_name-named.ensures _ _ _ c.from.ensures c.insert.ensures c.front.ensures
