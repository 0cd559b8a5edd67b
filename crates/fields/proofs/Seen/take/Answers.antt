use Rattle.fields.proofs.Spots.{taken-by}
use Rattle.fields.proofs.Seen.take.Goals as goal

pub returns-in-Some : goal.returns-in-Some
returns-in-Some c = taken-by _ _ _ _ _ _ c.in-Some.is c.behind.ensures c.ok_or.ensures.value
