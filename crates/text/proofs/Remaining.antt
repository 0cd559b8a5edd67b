-- What is left of a text, for loops that take items off its front.
-- Assumes nothing.
use mathlib.Core.Path.{◌≡◌, sym}
use mathlib.Core.List.{List}
use Prim.Native.Nat.{ℕ, zero, suc, ◌+◌, ◌-◌, ◌≤◌, ◌<◌}
use native.Mathlib.Omega.{arith}
use lib.ListN.{length, take, drop, length-drop}
use Rattle.model.specs.Text.{span}
use Rattle.model.proofs.Scans.{span_none, span-item, part-rest}

-- the items that f finds reach n bytes into the text, of which the first are taken off
pub record Left (f : List ℕ → ℕ) (t : List ℕ) (n : ℕ) (left : List ℕ) : Type 0 where
  pub inside : length left ≤ length t
  pub reach : length t + span f left ≡ n + length left

module _ (f : List ℕ → ℕ) (t : List ℕ) (n : ℕ) where
  pub left_start : n ≡ span f t → Left f t n t
  left_start e = record { inside = omega arith; reach = omega arith }

  pub left_from : (c : ℕ) → c ≤ length t → c + span f (drop c t) ≡ n → Left f t n (take (length t - c) (drop c t))
  left_from c h e = rw part-rest (record { inside = omega (arith, length-drop c t); reach = omega (arith, length-drop c t) })

  module _ (left : List ℕ) (s : Left f t n left) where
    pub left_end : 0 ≡ f left → length t - length left ≡ n
    left_end e = omega (arith, s.inside, s.reach, span_none f left (sym e))

    pub left_more : (k : ℕ) → k ≡ f left → 0 < k → k ≤ length left → Left f t n (take (length left - k) (drop k left))
    left_more zero e z l = absurd (omega arith)
    left_more (suc k) e z l =
        rw part-rest (record {
          inside = omega (arith, s.inside, length-drop (suc k) left);
          reach = omega (arith, s.inside, s.reach, span-item f left k (sym e) l, length-drop (suc k) left);
        })

pub ruleset remaining = (left_start, left_from, left_end, left_more)
