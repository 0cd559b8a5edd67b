-- The checks by the tests that the code makes, and what is known of a number that was checked.
-- Assumes nothing.
use mathlib.Core.Path.{◌≡◌, refl, sym, ◌∙◌}
use mathlib.Core.Bool.{Bool, true, false}
use Rattle.std.specs.Prelude.{None, Some}
use Rattle.std.proofs.lemmas.Option.{none-some, same_Some}
use Prim.Native.Nat.{ℕ, zero, suc, ◌%◌, ◌≤◌, ◌<◌}
use native.Mathlib.Omega.{arith}
use borrow.Author.Tests.{le-leb, lt-leb, ne_eqb}
use Rattle.kinds.specs.Kind.{is_bit_width, is_byte_length}
use Rattle.kinds.proofs.Logic.{width-most, byte-length-most}
use Rattle.sizes.specs.Checked.{checked}

module _ (t : ℕ → Bool) (n : ℕ) where
  pub checked-true : t n ≡ true → checked t n ≡ Some n
  unfolding checked
  checked-true e = rw (checked, e)

  pub checked-false : t n ≡ false → checked t n ≡ None
  unfolding checked
  checked-false e = rw (checked, e)

  -- a number that is there passed the test, and is that number
  pub checked-some : (v : ℕ) → checked t n ≡ Some v → (t n ≡ true) × (v ≡ n)
  checked-some v e = go (t n) refl
    where
      go : (b : Bool) → t n ≡ b → (t n ≡ true) × (v ≡ n)
      go true p = (p, sym (same_Some _ _ (sym (checked-true p) ∙ e)))
      go false p = absurd (none-some v (sym (checked-false p) ∙ e))

  pub checked-none : checked t n ≡ None → t n ≡ false
  checked-none e = go (t n) refl
    where
      go : (b : Bool) → t n ≡ b → t n ≡ false
      go true p = absurd (none-some n (sym e ∙ checked-true p))
      go false p = p

-- widths
pub width_low : (n : ℕ) → n < 8 → None ≡ checked is_bit_width n
width_low zero h = sym (checked-false is_bit_width zero refl)
width_low (suc n) h = sym (checked-false is_bit_width (suc n) (rw (le-leb 1 (suc n) (omega arith), le-leb (suc n) 256 (omega arith), ne_eqb (suc n % 8) 0 (λ e. omega arith))))

pub width-high : (n : ℕ) → 256 < n → None ≡ checked is_bit_width n
width-high n h = sym (checked-false is_bit_width n (rw (le-leb 1 n (omega arith), lt-leb n 256 h)))

pub width_odd : (n : ℕ) → 8 ≤ n → n ≤ 256 → (n % 8 ≡ 0 → ⊥) → None ≡ checked is_bit_width n
width_odd n h k e = sym (checked-false is_bit_width n (rw (le-leb 1 n (omega arith), le-leb n 256 k, ne_eqb (n % 8) 0 e)))

pub is-width : (n : ℕ) → 8 ≤ n → n ≤ 256 → n % 8 ≡ 0 → is_bit_width n ≡ true
is-width n h k e = rw (le-leb 1 n (omega arith), le-leb n 256 k, e)

pub width-valid : (n : ℕ) → is_bit_width n ≡ true → Some n ≡ checked is_bit_width n
width-valid n h = sym (checked-true is_bit_width n h)

-- byte lengths
pub length-low : (n : ℕ) → n < 1 → None ≡ checked is_byte_length n
length-low n h = sym (checked-false is_byte_length n (rw (lt-leb 1 n h)))

pub length_high : (n : ℕ) → 1 ≤ n → 32 < n → None ≡ checked is_byte_length n
length_high n h k = sym (checked-false is_byte_length n (rw (le-leb 1 n h, lt-leb n 32 k)))

pub is-length : (n : ℕ) → 1 ≤ n → n ≤ 32 → is_byte_length n ≡ true
is-length n h k = rw (le-leb 1 n h, le-leb n 32 k)

pub length-valid : (n : ℕ) → is_byte_length n ≡ true → Some n ≡ checked is_byte_length n
length-valid n h = sym (checked-true is_byte_length n h)

pub ruleset checks = (width_low, width-high, width_odd, is-width, width-valid, length-low, length_high, is-length, length-valid)

-- a number that passed a check has three digits at most
pub width_small : (n v : ℕ) → Some v ≡ checked is_bit_width n → v < 1000
width_small n v e = let (p, q) = checked-some is_bit_width n v (sym e) in omega (arith, width-most n p)

pub length-small : (n v : ℕ) → Some v ≡ checked is_byte_length n → v < 1000
length-small n v e = let (p, q) = checked-some is_byte_length n v (sym e) in omega (arith, byte-length-most n p)
