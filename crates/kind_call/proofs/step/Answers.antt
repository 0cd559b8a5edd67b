use Rattle.std.proofs.Common.{arith}
use Rattle.kind_call.proofs.Scanning.{step_open, step-close, step_other}
use Rattle.kind_call.proofs.step.Goals as goal

pub returns-in-40 : goal.returns-in-40
returns-in-40 c = step_open _ _ _ c.in-40.is c.checked_sub.ensures

pub returns-in-41 : goal.returns-in-41
returns-in-41 c = step-close _ _ c.in-41.is

pub returns-in_default : goal.returns-in_default
returns-in_default c = step_other _ _ (λ q. omega arith) (λ q. omega arith)
