use native.Mathlib.Nat.{mul_comm}
use native.Mathlib.Omega.{arith}
use Rattle.extent.proofs.times.Goals as goal

pub returns : goal.returns
returns c = omega (arith, mul_comm c.args.length c.args.n)
