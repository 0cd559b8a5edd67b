use Rattle.abi.proofs.Calls.{declared-name, constructor-name, field_named, nameless}
use Rattle.abi.proofs.name.Goals as goal

pub returns-in-Some-Declared : goal.returns-in-Some-Declared
returns-in-Some-Declared c = declared-name _ _ _ _ c.in-Some-Declared.field-0-0 (rw c.in-Some-Declared.field-0-is at c.in-Some-Declared.ensures.says).0

pub returns-in-Some-Field : goal.returns-in-Some-Field
returns-in-Some-Field c = field_named _ (rw c.in-Some-Field.field-0-is at c.in-Some-Field.ensures.says).0 _ _ (rw c.in-Some-Field.field-0-is at c.in-Some-Field.ensures.says).1

pub returns-in-Some-Constructor : goal.returns-in-Some-Constructor
returns-in-Some-Constructor c = constructor-name _ _ (rw c.in-Some-Constructor.field-0-is at c.in-Some-Constructor.ensures.says).0

pub returns-in-None : goal.returns-in-None
returns-in-None c = nameless _ c.in-None.ensures.says.0 c.in-None.ensures.says.1
