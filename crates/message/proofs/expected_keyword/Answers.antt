use mathlib.Core.Path.{refl}
use native.Mathlib.Omega.{arith}
use Rattle.model.specs.Reading.{keyword_text}
use Rattle.message.proofs.expected_keyword.Goals as goal

pub returns-in-Function : goal.returns-in-Function
unfolding keyword_text
returns-in-Function c = (rw c.in-Function.is refl, omega arith)

pub returns-in-Constructor : goal.returns-in-Constructor
unfolding keyword_text
returns-in-Constructor c = (rw c.in-Constructor.is refl, omega arith)

pub returns-in-Event : goal.returns-in-Event
unfolding keyword_text
returns-in-Event c = (rw c.in-Event.is refl, omega arith)

pub returns-in-Error : goal.returns-in-Error
unfolding keyword_text
returns-in-Error c = (rw c.in-Error.is refl, omega arith)
