-- Numbers that are told apart up to a limit. Their definition is `min`, which `omega` knows: a law is needed where it stands in a product.
-- Assumes nothing.
use mathlib.Core.Path.{◌≡◌, refl}
use mathlib.Core.Bool.{Bool, true, false}
use Prim.Native.Nat.{ℕ, ◌≤◌, ◌<◌}
use native.Mathlib.Omega.{arith}
use lib.Dec.{ltb}
use borrow.Author.Tests.{ltb-true, ltb-false}
use Rattle.words.specs.Places.{capped}

-- a number by its two cases
pub cap_cases : {Q : Type 0} (n : ℕ) → (n ≤ 65536 → capped n ≡ n → Q) → (65536 < n → capped n ≡ 65537 → Q) → Q
cap_cases {Q} n f g = go (ltb 65536 n) refl
  where
    go : (b : Bool) → ltb 65536 n ≡ b → Q
    go false e = let h : n ≤ 65536 = ltb-false 65536 n e in f h (omega arith)
    go true e = let h : 65536 < n = ltb-true 65536 n e in g h (omega arith)
