use Rattle.std.proofs.Common.{ap}
use Rattle.std.specs.Prelude.{Err}
use Rattle.abi.proofs.Calls.{no_kind_text, kind_text_ends}
use Rattle.abi.proofs.kind_text.Goals as goal

pub returns-in-Some-Field-clause-says : goal.returns-in-Some-Field-clause-says
returns-in-Some-Field-clause-says c = (kind_text_ends _ _ _ _ (rw c.in-Some-Field.field-0-is at c.in-Some-Field.ensures.says).1 _ _ c.kind_line.ensures).0

pub returns-in-Some-Field-clause-left : goal.returns-in-Some-Field-clause-left
returns-in-Some-Field-clause-left c = (kind_text_ends _ _ _ _ (rw c.in-Some-Field.field-0-is at c.in-Some-Field.ensures.says).1 _ _ c.kind_line.ensures).1

pub returns-in-Some-Declared-clause-says : goal.returns-in-Some-Declared-clause-says
returns-in-Some-Declared-clause-says c = (no_kind_text _ _ _ (rw c.in-Some-Declared.field-0-is at c.in-Some-Declared.ensures.says).1 (ap Err c.into.ensures)).0

pub returns-in-Some-Declared-clause-left : goal.returns-in-Some-Declared-clause-left
returns-in-Some-Declared-clause-left c = (no_kind_text _ _ _ (rw c.in-Some-Declared.field-0-is at c.in-Some-Declared.ensures.says).1 (ap Err c.into.ensures)).1

pub returns-in-Some-Constructor-clause-says : goal.returns-in-Some-Constructor-clause-says
returns-in-Some-Constructor-clause-says c = (no_kind_text _ _ _ (rw c.in-Some-Constructor.field-0-is at c.in-Some-Constructor.ensures.says).1 (ap Err c.into-in-Some-Constructor.ensures)).0

pub returns-in-Some-Constructor-clause-left : goal.returns-in-Some-Constructor-clause-left
returns-in-Some-Constructor-clause-left c = (no_kind_text _ _ _ (rw c.in-Some-Constructor.field-0-is at c.in-Some-Constructor.ensures.says).1 (ap Err c.into-in-Some-Constructor.ensures)).1

pub returns-in-None-clause-says : goal.returns-in-None-clause-says
returns-in-None-clause-says c = (no_kind_text _ _ _ c.in-None.ensures.says.1 (ap Err c.into-in-None.ensures)).0

pub returns-in-None-clause-left : goal.returns-in-None-clause-left
returns-in-None-clause-left c = (no_kind_text _ _ _ c.in-None.ensures.says.1 (ap Err c.into-in-None.ensures)).1
