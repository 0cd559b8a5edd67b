use mathlib.Core.Path.{ap}
use Rattle.std.specs.Prelude.{Err}
use Rattle.geusomin.proofs.Telling.{name-refused}
use Rattle.geusomin.proofs.geusomin_copy_name.Goals as goal

pub returns-in-Err-clause-tells : goal.returns-in-Err-clause-tells
returns-in-Err-clause-tells c = (name-refused _ _ _ _ _ _ c.in-Err.ensures (ap Err c.into.ensures) c.tell-in-Err.ensures.tells c.tell-in-Err.ensures.shows).0

pub returns-in-Err-clause-shows : goal.returns-in-Err-clause-shows
returns-in-Err-clause-shows c = (name-refused _ _ _ _ _ _ c.in-Err.ensures (ap Err c.into.ensures) c.tell-in-Err.ensures.tells c.tell-in-Err.ensures.shows).1.0

pub returns-in-Err-clause-left : goal.returns-in-Err-clause-left
returns-in-Err-clause-left c = (name-refused _ _ _ _ _ _ c.in-Err.ensures (ap Err c.into.ensures) c.tell-in-Err.ensures.tells c.tell-in-Err.ensures.shows).1.1
