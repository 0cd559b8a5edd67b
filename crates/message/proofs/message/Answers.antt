use Rattle.message.proofs.Calls.{message-accepted, message-refused}
use Rattle.message.proofs.message.Goals as goal

pub returns-in-Ok-clause-says : goal.returns-in-Ok-clause-says
returns-in-Ok-clause-says c = (message-accepted _ _ _ _ c.read.ensures _ c.in-Ok.is).0

pub returns-in-Ok-clause-left : goal.returns-in-Ok-clause-left
returns-in-Ok-clause-left c = (message-accepted _ _ _ _ c.read.ensures _ c.in-Ok.is).1

pub returns-in-Err-clause-says : goal.returns-in-Err-clause-says
returns-in-Err-clause-says c = (message-refused _ _ _ _ c.read.ensures _ _ _ c.in-Err.is c.display.ensures.says c.display.ensures.left).0

pub returns-in-Err-clause-left : goal.returns-in-Err-clause-left
returns-in-Err-clause-left c = (message-refused _ _ _ _ c.read.ensures _ _ _ c.in-Err.is c.display.ensures.says c.display.ensures.left).1
