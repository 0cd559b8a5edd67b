use native.Mathlib.Omega.{arith}
use Rattle.sampler.proofs.KindAt.new.Goals as goal

pub invariant_of-result : goal.invariant_of-result
invariant_of-result c = record { there = omega arith }
