use Rattle.record.proofs.Places.{front-name, front-kind}
use Rattle.record.proofs.lone.Goals as goal

pub returns-clause-within : goal.returns-clause-within
returns-clause-within c = let front = c.in_ok-name.ensures in (front-name _ _ c.in_ok-name.name front, front-kind _ _ c.in_ok-name.name front)
