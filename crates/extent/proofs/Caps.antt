-- Products of lengths that are told apart up to a limit.
-- Assumes nothing.
use mathlib.Core.Path.{◌≡◌, refl, sym, ap}
use Rattle.std.specs.Prelude.{min}
use Prim.Native.Nat.{ℕ, zero, suc, ◌+◌, ◌*◌, ◌≤◌, ◌<◌}
use native.Mathlib.Nat.{mul_comm, zero-mul, suc-mul}
use native.Mathlib.Omega.{arith}
use Rattle.words.specs.Places.{capped}
use Rattle.words.proofs.Caps.{cap_cases}

-- what was cut off is over the limit in each product
over_each : (m l : ℕ) → 65536 < l → capped (m * 65537) ≡ capped (m * l)
over_each zero l h = rw (zero-mul l)
over_each (suc m) l h = omega (arith, suc-mul m 65537, suc-mul m l)

pub cap_times : (n l : ℕ) → capped (n * capped l) ≡ capped (n * l)
cap_times n l = cap_cases l (λ h e. ap (λ x. capped (n * x)) e) (λ h e. rw e (over_each n l h))
