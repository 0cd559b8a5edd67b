use Rattle.kind_call.proofs.Answering.{lone-refused, lone-full, lone-done}
use Rattle.kind_call.proofs.elementary.Goals as goal

pub returns-in-Err : goal.returns-in-Err
returns-in-Err c = lone-refused _ _ _ _ c.into.ensures c.in-Err.ensures

pub returns-then-record-need : goal.returns-then-record-need
returns-then-record-need c = lone-full _ _ _ c.in-Ok.ensures _ c.field_length-need.ensures _ c.into-then-record-need.ensures c.if-record-need.true

pub returns : goal.returns
returns c = lone-done _ _ _ c.in-Ok.ensures _ c.field_length-need.ensures _ _ c.if-record-need.false c.from.ensures c.write_field.ensures
