use Rattle.geusomin.proofs.Telling.{told-found, told-missing}
use Rattle.geusomin.proofs.geusomin_find.Goals as goal

pub returns-in-Ok-clause-tells : goal.returns-in-Ok-clause-tells
returns-in-Ok-clause-tells c = (told-found _ _ c.find.ensures _ c.in-Ok.is).0

pub returns-in-Ok-clause-placed : goal.returns-in-Ok-clause-placed
returns-in-Ok-clause-placed c = (told-found _ _ c.find.ensures _ c.in-Ok.is).1.0

pub returns-in-Ok-clause-counted : goal.returns-in-Ok-clause-counted
returns-in-Ok-clause-counted c = (told-found _ _ c.find.ensures _ c.in-Ok.is).1.1

pub returns-in-Err-clause-tells : goal.returns-in-Err-clause-tells
returns-in-Err-clause-tells c = (told-missing _ _ c.find.ensures _ _ c.in-Err.is c.into.ensures).0

pub returns-in-Err-clause-placed : goal.returns-in-Err-clause-placed
returns-in-Err-clause-placed c = (told-missing _ _ c.find.ensures _ _ c.in-Err.is c.into.ensures).1.0

pub returns-in-Err-clause-counted : goal.returns-in-Err-clause-counted
returns-in-Err-clause-counted c = (told-missing _ _ c.find.ensures _ _ c.in-Err.is c.into.ensures).1.1
