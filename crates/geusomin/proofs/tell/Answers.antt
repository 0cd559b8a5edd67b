use Rattle.geusomin.proofs.Telling.{tells-accepted, tells-refused}
use Rattle.geusomin.proofs.tell.Goals as goal

pub returns-in-Ok-clause-tells : goal.returns-in-Ok-clause-tells
returns-in-Ok-clause-tells c = (tells-accepted _ _ c.in-Ok.is).0

pub returns-in-Ok-clause-shows : goal.returns-in-Ok-clause-shows
returns-in-Ok-clause-shows c = (tells-accepted _ _ c.in-Ok.is).1

pub returns-in-Err-clause-tells : goal.returns-in-Err-clause-tells
returns-in-Err-clause-tells c = (tells-refused _ _ _ c.in-Err.is c.into.ensures).0

pub returns-in-Err-clause-shows : goal.returns-in-Err-clause-shows
returns-in-Err-clause-shows c = (tells-refused _ _ _ c.in-Err.is c.into.ensures).1
