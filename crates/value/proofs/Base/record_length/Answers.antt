use Rattle.std.proofs.Common.{arith}
use Rattle.value.proofs.Written.{length-numbered, length-bare}
use Rattle.value.proofs.Base.record_length.Goals as goal

pub returns-in_default-Some : goal.returns-in_default-Some
returns-in_default-Some c = let l = length-numbered _ _ _ c.parts.ensures _ c.in_default-Some.is-1 in (omega arith, omega arith)

pub returns-in_default-None : goal.returns-in_default-None
returns-in_default-None c = let l = length-bare _ _ _ c.parts.ensures c.in_default-None.is-1 in (omega arith, omega arith)
