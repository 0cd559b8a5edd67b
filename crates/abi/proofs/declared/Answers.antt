use Rattle.abi.proofs.Calls.{declared-is, nothing, constructor-is}
use Rattle.abi.proofs.declared.Goals as goal

pub returns-in_default : goal.returns-in_default
returns-in_default c = nothing _ c.in_default.ensures.says.0

pub returns-in-Declared : goal.returns-in-Declared
returns-in-Declared c = declared-is _ _ _ _ c.in-Declared.keyword (rw c.in-Declared.is at c.in-Some.ensures.says).0

pub returns-in-Constructor : goal.returns-in-Constructor
returns-in-Constructor c = constructor-is _ _ (rw c.in-Constructor.is at c.in-Some.ensures.says).0

pub returns-in-Field : goal.returns-in-Field
returns-in-Field c = nothing _ (rw c.in-Field.is at c.in-Some.ensures.says).0
