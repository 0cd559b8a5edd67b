-- Numbers digit by digit, within a limit.
-- Assumes nothing.
use mathlib.Core.Path.{◌≡◌, refl, sym, ◌∙◌}
use mathlib.Core.Bool.{Bool, true, false}
use mathlib.Core.List.{List, [], ◌∷◌}
use Rattle.std.specs.Prelude.{Option, None, Some}
use Prim.Native.Nat.{ℕ, suc, ◌+◌, ◌*◌, ◌-◌, ◌≤◌, ◌<◌}
use native.Mathlib.Omega.{arith}
use native.Mathlib.Numerals.{add-one}
use lib.Dec.{leb}
use lib.ListN.{length, drop, get_or, drop_of_length-le}
use lib.Seq.{drop-cons}
use borrow.Author.Tests.{le-leb, lt-leb, leb-true, leb-false}
use Rattle.kinds.specs.Bytes.{all, is_digit}
use Rattle.kinds.specs.Decimal.{value, unsigned, at_most, plain}
use Rattle.text.specs.Found.{digit_of}

digit_some : (c d : ℕ) → Some d ≡ digit_of c → (is_digit c ≡ true) × (d ≡ c - 48)
unfolding digit_of
digit_some c d e = go (is_digit c) refl
  where
    go : (b : Bool) → is_digit c ≡ b → (is_digit c ≡ true) × (d ≡ c - 48)
    go true q = let f : Some d ≡ Some (c - 48) = e ∙ rw (digit_of, q) in (q, cc)
    go false q = let f : Some d ≡ None = e ∙ rw (digit_of, q) in absurd (cc)

digit_none : (c : ℕ) → None ≡ digit_of c → is_digit c ≡ false
unfolding digit_of
digit_none c e = go (is_digit c) refl
  where
    go : (b : Bool) → is_digit c ≡ b → is_digit c ≡ false
    go true q = let f : None ≡ Some (c - 48) = e ∙ rw (digit_of, q) in absurd (cc)
    go false q = q

-- within the limit, or over it
within : (m x n : ℕ) → Some n ≡ at_most m (Some x) → (n ≡ x) × (x ≤ m)
within m x n e = go (leb x m) refl
  where
    go : (b : Bool) → leb x m ≡ b → (n ≡ x) × (x ≤ m)
    go true q = let f : Some n ≡ Some x = e ∙ rw (at_most, q) in (cc, leb-true x m q)
    go false q = let f : Some n ≡ None = e ∙ rw (at_most, q) in absurd (cc)

over : (m x : ℕ) → None ≡ at_most m (Some x) → m < x
over m x e = go (leb x m) refl
  where
    go : (b : Bool) → leb x m ≡ b → m < x
    go true q = let f : None ≡ Some x = e ∙ rw (at_most, q) in absurd (cc)
    go false q = leb-false x m q

value_le : (v : ℕ) (t : List ℕ) → v ≤ value v t
value_le v [] = omega arith
value_le v (c ∷ t) = omega (arith, value_le (v * 10 + (c - 48)) t)

-- what digits behind the number v come to
abbrev pub digits_behind : ℕ → List ℕ → Option ℕ
digits_behind v t = elim (all is_digit t) [ true ↦ Some (value v t) | false ↦ None ]

beyond : (m v : ℕ) (t : List ℕ) → m < v → at_most m (digits_behind v t) ≡ None
beyond m v t h = go (all is_digit t)
  where
    go : (b : Bool) → at_most m (elim b [ true ↦ Some (value v t) | false ↦ None ]) ≡ None
    go true = rw (at_most, lt-leb (value v t) m (omega (arith, value_le v t)))
    go false = refl

-- the number n of the first i digits, within the limit m; with the rest they come to the whole
pub record Digits (m : ℕ) (t : List ℕ) (n i : ℕ) : Type 0 where
  pub low : n ≤ m
  pub whole : at_most m (digits_behind n (drop i t)) ≡ plain m t

pub digits_none : (m : ℕ) (t : List ℕ) → length t ≡ 0 → None ≡ plain m t
unfolding plain unsigned
digits_none m [] h = refl
digits_none m (c ∷ t) h = absurd (omega arith)

pub digits_start : (m : ℕ) (t : List ℕ) → (length t ≡ 0 → ⊥) → Digits m t 0 0
unfolding plain unsigned
digits_start m [] h = absurd (h refl)
digits_start m (c ∷ t) h = record { low = omega arith; whole = refl }

module _ (m : ℕ) (t : List ℕ) (n i : ℕ) (s : Digits m t n i) where
  pub digits_end : length t ≤ i → Some n ≡ plain m t
  digits_end h = rw (at_most, le-leb n m s.low) at (rw (drop_of_length-le t h) at s.whole)

  module _ (h : i < length t) where
    step : at_most m (digits_behind n (get_or t i 0 ∷ drop (suc i) t)) ≡ plain m t
    step = rw (drop-cons t i 0 h) at s.whole

    pub digits_wrong : None ≡ digit_of (get_or t i 0) → None ≡ plain m t
    digits_wrong e = rw (at_most, digits_behind, digit_none (get_or t i 0) e) at step

    pub digits_over : (d : ℕ) → Some d ≡ digit_of (get_or t i 0) → None ≡ at_most m (Some (n * 10 + d)) → None ≡ plain m t
    digits_over d e f =
        let z = digit_some (get_or t i 0) d e in
        let o = over m (n * 10 + d) f in
        sym (beyond m (n * 10 + d) (drop (suc i) t) o) ∙ rw z.1 (rw (digits_behind, z.0) at step)

    pub digits_more : (d x : ℕ) → Some d ≡ digit_of (get_or t i 0) → Some x ≡ at_most m (Some (n * 10 + d)) → Digits m t x (i + 1)
    digits_more d x e f =
        let z = digit_some (get_or t i 0) d e in
        let w = within m (n * 10 + d) x f in
        record { low = omega arith; whole = rw (add-one, w.0, z.1) (rw (digits_behind, z.0) at step) }

pub ruleset numbers = (digits_none, digits_start, digits_end, digits_wrong, digits_over)
