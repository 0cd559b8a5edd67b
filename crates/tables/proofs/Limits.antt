-- A number that is read in plain decimal is at most its limit.
-- Assumes nothing.
use mathlib.Core.Path.{◌≡◌, refl, ◌∙◌}
use mathlib.Core.Bool.{Bool, true, false}
use mathlib.Core.List.{List}
use Rattle.std.specs.Prelude.{Option, None, Some}
use Prim.Native.Nat.{ℕ, ◌≤◌}
use native.Mathlib.Omega.{arith}
use lib.Dec.{leb}
use borrow.Author.Tests.{leb-true}
use Rattle.kinds.specs.Decimal.{unsigned, at_most, plain}

within : (m n : ℕ) (o : Option ℕ) → Some n ≡ at_most m o → n ≤ m
within m n None e = absurd (cc)
within m n (Some x) e = go (leb x m) refl
  where
    go : (b : Bool) → leb x m ≡ b → n ≤ m
    go true q =
        let f : Some n ≡ Some x = e ∙ rw (at_most, q) in
        let g : n ≡ x = cc in
        omega (arith, g, leb-true x m q)
    go false q = let f : Some n ≡ None = e ∙ rw (at_most, q) in absurd (cc)

pub plain_within : (m n : ℕ) (t : List ℕ) → Some n ≡ plain m t → n ≤ m
unfolding plain
plain_within m n t e = within m n (unsigned t) e
