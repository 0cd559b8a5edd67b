use native.Mathlib.Omega.{arith}
use Rattle.extent.proofs.Reaches.{not_open_ended}
use Rattle.extent.proofs.is_open_ended.Goals as goal

pub returns-in_default : goal.returns-in_default
returns-in_default c = not_open_ended _ (omega arith) (omega arith)
