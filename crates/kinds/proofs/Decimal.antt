-- A number written in decimal is read back exactly where it keeps to the limit, for every number and every limit; and nothing else is read as a number.
-- Assumes nothing.
use mathlib.Core.Path.{◌≡◌, refl, sym, ◌∙◌, ap}
use mathlib.Core.Logic.{◌↔◌}
use mathlib.Core.Bool.{Bool, true, false}
use mathlib.Core.List.{List, [], ◌∷◌, ◌++◌, append-nil, append_assoc}
use Rattle.std.specs.Prelude.{Option, None, Some}
use Prim.Native.Nat.{ℕ, zero, suc, ◌+◌, ◌*◌, ◌-◌, ◌/◌, ◌%◌, ◌^◌, ◌≤◌, ◌<◌}
use native.Mathlib.Omega.{arith}
use native.Mathlib.Decide.{dec_lt}
use lib.Dec.{leb, ltb}
use lib.ListN.{length, length-append}
use borrow.Author.Tests.{ltb-false, lt-ltb, le-ltb, leb-true, le-leb, lt-leb, ne_eqb, eqb-false}
use Rattle.std.specs.Fmt as fmt
use Rattle.std.proofs.lemmas.Fmt.{decimal_by_steps}
use Rattle.kinds.specs.Bytes.{all, is_digit, is_word_byte}
use Rattle.kinds.specs.Decimal.{digits, decimal, value, unsigned, at_most, plain, leading_zero, number}
use Rattle.kinds.proofs.Logic.{both, left, right, all_append, all_weaken, digit-word}

-- more digits asked for than there are change nothing
digits-enough : (f g n : ℕ) → n < f → n < g → digits f n ≡ digits g n
unfolding digits
digits-enough zero g n h k = absurd (omega arith)
digits-enough (suc f) zero n h k = absurd (omega arith)
digits-enough (suc f) (suc g) n h k = go (ltb n 10) refl (digits-enough f g (n / 10))
  where
    go : (b : Bool) → ltb n 10 ≡ b → (n / 10 < f → n / 10 < g → digits f (n / 10) ≡ digits g (n / 10)) → digits (suc f) n ≡ digits (suc g) n
    go true e ih = rw (e, digits)
    go false e ih =
        let big : 10 ≤ n = ltb-false n 10 e in
        rw (e, digits, ih (omega arith) (omega arith))

-- a digit by itself, and one behind the others
pub decimal-one : (n : ℕ) → n < 10 → decimal n ≡ (48 + n) ∷ []
unfolding decimal digits
decimal-one n h = rw (lt-ltb n 10 h, digits)

pub decimal-more : (n : ℕ) → 10 ≤ n → decimal n ≡ decimal (n / 10) ++ ((48 + n % 10) ∷ [])
unfolding decimal digits
decimal-more n h = rw (le-ltb n 10 h, digits, digits-enough n (suc (n / 10)) (n / 10) (omega arith) (omega arith))

-- what holds of a digit by itself, and of a number where it holds of the number without its last digit, holds of every number
by_digits : (P : ℕ → Type 0) → ((n : ℕ) → n < 10 → P n) → ((n : ℕ) → 10 ≤ n → P (n / 10) → P n) → (n : ℕ) → P n
by_digits P one more n = go (suc n) n (omega arith)
  where
    go : (f k : ℕ) → k < f → P k
    go zero k h = absurd (omega arith)
    go (suc f) k h = elim (dec_lt k 10) [ yes l ↦ one k l | no l ↦ more k (omega arith) (go f (k / 10) (omega arith)) ]

digit : (d : ℕ) → d < 10 → is_digit (48 + d) ≡ true
digit d h = both (le-leb 48 (48 + d) (omega arith)) (le-leb (48 + d) 57 (omega arith))

pub decimal-digits : (n : ℕ) → all is_digit (decimal n) ≡ true
decimal-digits =
    by_digits (λ n. all is_digit (decimal n) ≡ true) (λ n h. rw (decimal-one n h) (both (digit n h) refl))
    (λ n h ih. rw (decimal-more n h, all_append) (both ih (both (digit (n % 10) (omega arith)) refl)))

value-last : (v : ℕ) (s : List ℕ) (c : ℕ) → value v (s ++ (c ∷ [])) ≡ value v s * 10 + (c - 48)
value-last v [] c = refl
value-last v (x ∷ s) c = value-last (v * 10 + (x - 48)) s c

pub decimal-value : (n : ℕ) → value 0 (decimal n) ≡ n
decimal-value =
    by_digits (λ n. value 0 (decimal n) ≡ n) (λ n h. rw (decimal-one n h) (omega arith))
    (λ n h ih. rw (decimal-more n h, value-last, ih) (omega arith))

pub decimal_injective : (m n : ℕ) → decimal m ≡ decimal n → m ≡ n
decimal_injective m n e = cc (decimal-value m, decimal-value n)

pub decimal_cons : (n : ℕ) → (c : ℕ) × (s : List ℕ) × (decimal n ≡ c ∷ s)
decimal_cons =
    by_digits (λ n. (c : ℕ) × (s : List ℕ) × (decimal n ≡ c ∷ s)) (λ n h. (48 + n, [], decimal-one n h))
    (λ n h ih. (ih.0, ih.1 ++ ((48 + n % 10) ∷ []), rw (decimal-more n h, ih.2) refl))

pub no_leading-zero : (n : ℕ) (s : List ℕ) → decimal n ≡ 48 ∷ s → (n ≡ 0) × (s ≡ [])
no_leading-zero =
    by_digits (λ n. (s : List ℕ) → decimal n ≡ 48 ∷ s → (n ≡ 0) × (s ≡ []))
    (λ n h s e. let z : 48 + n ≡ 48 = cc (decimal-one n h) in (omega arith, cc (decimal-one n h)))
    (λ n h ih s e. let z : n / 10 ≡ 0 = (ih (decimal_cons (n / 10)).1 (cc (decimal-more n h, (decimal_cons (n / 10)).2))).0 in absurd (omega arith))

pub decimal-short : (k n : ℕ) → n < 10 ^ k → 0 < k → length (decimal n) ≤ k
decimal-short zero n h p = omega arith
decimal-short (suc zero) n h p = rw (decimal-one n h) (omega arith)
decimal-short (suc (suc k)) n h p =
    elim (dec_lt n 10) [
      | yes l ↦ rw (decimal-one n l) (omega arith)
      | no l ↦ rw (decimal-more n (omega arith), length-append) (omega (arith, decimal-short (suc k) (n / 10) (omega arith) (omega arith)))
    ]

pub decimal-word : (n : ℕ) → all is_word_byte (decimal n) ≡ true
decimal-word n = all_weaken is_digit is_word_byte digit-word (decimal n) (decimal-digits n)

-- no zero stands in front of more
decimal_unzeroed : (n : ℕ) → leading_zero (decimal n) ≡ false
decimal_unzeroed n = go (decimal n) refl
  where
    go : (t : List ℕ) → decimal n ≡ t → leading_zero t ≡ false
    go [] e = refl
    go (c ∷ []) e = refl
    go (c ∷ d ∷ s) e = ne_eqb c 48 (λ q. let z : d ∷ s ≡ [] = (no_leading-zero n (d ∷ s) (e ∙ rw q)).1 in let y : ◌≡◌ {A = ℕ} 0 1 = cc in omega arith)

-- what is read of a number as it is written, before a limit
unsigned-digits : (c : ℕ) (s : List ℕ) → all is_digit (c ∷ s) ≡ true → unsigned (c ∷ s) ≡ Some (value 0 (c ∷ s))
unfolding unsigned
unsigned-digits c s h = rw (h, unsigned)

pub decimal-unsigned : (n : ℕ) → unsigned (decimal n) ≡ Some n
decimal-unsigned n =
    let (c, s, e) = decimal_cons n in
    cc (e, unsigned-digits c s (rw e at (decimal-digits n)), decimal-value n)

-- the limit
under_limit : (m : ℕ) (o : Option ℕ) (n : ℕ) → at_most m o ≡ Some n → n ≤ m
under_limit m None n e = let z : ◌≡◌ {A = ℕ} 0 1 = cc in omega arith
under_limit m (Some k) n e = go (leb k m) refl
  where
    go : (b : Bool) → leb k m ≡ b → n ≤ m
    go true l = let q : k ≡ n = cc in omega (arith, leb-true k m l)
    go false l = let z : ◌≡◌ {A = ℕ} 0 1 = cc in omega arith

plain-bound : (m : ℕ) (t : List ℕ) (n : ℕ) → plain m t ≡ Some n → n ≤ m
unfolding plain
plain-bound m t = under_limit m (unsigned t)

-- a number is digits, and no zero leads
number_read : (m : ℕ) (t : List ℕ) (n : ℕ) → number m t ≡ Some n → (leading_zero t ≡ false) × (plain m t ≡ Some n)
unfolding number
number_read m t n e = go (leading_zero t) refl
  where
    go : (b : Bool) → leading_zero t ≡ b → (leading_zero t ≡ false) × (plain m t ≡ Some n)
    go true q = let f : None ≡ Some n = rw (number, q) at e in let z : ◌≡◌ {A = ℕ} 0 1 = cc in absurd (omega arith)
    go false q = (q, rw (number, q) at e)

pub number_bound : (m : ℕ) (t : List ℕ) (n : ℕ) → number m t ≡ Some n → n ≤ m
number_bound m t n e = plain-bound m t n (number_read m t n e).1

pub written-read-plain : (m n : ℕ) → (plain m (decimal n) ≡ Some n) ↔ (n ≤ m)
unfolding plain
written-read-plain m n = (plain-bound m (decimal n) n, λ h. rw (decimal-unsigned n, le-leb n m h, at_most))

pub written_over_plain : (m n : ℕ) → m < n → plain m (decimal n) ≡ None
unfolding plain
written_over_plain m n h = rw (decimal-unsigned n, lt-leb n m h, at_most)

pub written_read : (m n : ℕ) → (number m (decimal n) ≡ Some n) ↔ (n ≤ m)
unfolding number
written_read m n = rw (number, decimal_unzeroed n) (written-read-plain m n)

pub written_over : (m n : ℕ) → m < n → number m (decimal n) ≡ None
unfolding number
written_over m n h = rw (number, decimal_unzeroed n) (written_over_plain m n h)

-- The other half: what is read as a number is written so.

digit_range : (c : ℕ) → is_digit c ≡ true → (48 ≤ c) × (c ≤ 57)
digit_range c h = (leb-true 48 c (left _ h), leb-true c 57 (right (leb 48 c) h))

one-digit : (c : ℕ) → is_digit c ≡ true → decimal (0 * 10 + (c - 48)) ≡ c ∷ []
one-digit c h =
    let (low, high) = digit_range c h in
    let e : 48 + (0 * 10 + (c - 48)) ≡ c = omega arith in
    decimal-one (0 * 10 + (c - 48)) (omega arith) ∙ ap (λ x. x ∷ []) e

-- digits behind a number that is not 0 are the rest of its decimal
more-digits : (s : List ℕ) (v : ℕ) → 0 < v → all is_digit s ≡ true → decimal v ++ s ≡ decimal (value v s)
more-digits [] v p h = append-nil (decimal v)
more-digits (c ∷ s) v p h =
    let (low, high) = digit_range c (left _ h) in
    let n = v * 10 + (c - 48) in
    let q : n / 10 ≡ v = omega arith in
    let r : 48 + n % 10 ≡ c = omega arith in
    let e : decimal n ≡ decimal v ++ (c ∷ []) = decimal-more n (omega arith) ∙ rw (q, r) in
    sym (append_assoc (decimal v) (c ∷ []) s) ∙ ap (λ x. x ++ s) (sym e) ∙ more-digits s n (omega arith) (right (is_digit c) h)

-- digits without a leading zero are the decimal of their value
digits_decimal : (c : ℕ) (s : List ℕ) → all is_digit (c ∷ s) ≡ true → leading_zero (c ∷ s) ≡ false → c ∷ s ≡ decimal (value 0 (c ∷ s))
digits_decimal c [] h z = sym (one-digit c (left _ h))
digits_decimal c (d ∷ s) h z =
    let (low, high) = digit_range c (left _ h) in
    let f : c ≡ 48 → ⊥ = eqb-false c 48 z in
    sym (ap (λ x. x ++ (d ∷ s)) (one-digit c (left _ h))) ∙ more-digits (d ∷ s) (0 * 10 + (c - 48)) (omega arith) (right (is_digit c) h)

-- the digits that stand for a number within a limit
at-most-value : (m : ℕ) (o : Option ℕ) (n : ℕ) → at_most m o ≡ Some n → o ≡ Some n
at-most-value m None n e = e
at-most-value m (Some k) n e = go (leb k m) refl
  where
    go : (b : Bool) → leb k m ≡ b → Some k ≡ Some n
    go true l = rw (at_most, l) at e
    go false l = let f : None ≡ Some n = rw (at_most, l) at e in let z : ◌≡◌ {A = ℕ} 0 1 = cc in absurd (omega arith)

unsigned-value : (c : ℕ) (s : List ℕ) (n : ℕ) → unsigned (c ∷ s) ≡ Some n → (all is_digit (c ∷ s) ≡ true) × (value 0 (c ∷ s) ≡ n)
unfolding unsigned
unsigned-value c s n e = go (all is_digit (c ∷ s)) refl
  where
    go : (b : Bool) → all is_digit (c ∷ s) ≡ b → (all is_digit (c ∷ s) ≡ true) × (value 0 (c ∷ s) ≡ n)
    go true q = let f : Some (value 0 (c ∷ s)) ≡ Some n = rw (unsigned, q) at e in (q, cc)
    go false q = let f : None ≡ Some n = rw (unsigned, q) at e in let z : ◌≡◌ {A = ℕ} 0 1 = cc in absurd (omega arith)

pub number-exact : (m : ℕ) (t : List ℕ) (n : ℕ) → number m t ≡ Some n → t ≡ decimal n
unfolding plain unsigned
number-exact m [] n e = let f : None ≡ Some n = (number_read m [] n e).1 in let z : ◌≡◌ {A = ℕ} 0 1 = cc in absurd (omega arith)
number-exact m (c ∷ s) n e =
    let (z, p) = number_read m (c ∷ s) n e in
    let (d, v) = unsigned-value c s n (at-most-value m (unsigned (c ∷ s)) n p) in
    digits_decimal c s d z ∙ ap decimal v

-- std's decimal is plain decimal
pub std-decimal : (n : ℕ) → n < 2 ^ 64 → fmt.decimal n ≡ decimal n
std-decimal n h = decimal_by_steps (λ m ds. ds ≡ decimal m) (λ m l. sym (decimal-one m l)) (λ m ds l e. ap (λ x. x ++ ((48 + m % 10) ∷ [])) e ∙ sym (decimal-more m l)) n h
