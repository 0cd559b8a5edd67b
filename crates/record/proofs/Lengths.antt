-- How long the texts of numbers, of elementary kinds and of suffixes are.
-- Assumes nothing.
use mathlib.Core.Path.{◌≡◌, refl, sym, ◌∙◌, ap}
use mathlib.Core.Bool.{Bool, true, false}
use mathlib.Core.List.{List, [], ◌∷◌, ◌++◌}
use Rattle.std.specs.Prelude.{Option, None, Some}
use Rattle.std.specs.Option.{option_map}
use Prim.Native.Nat.{ℕ, ◌+◌, ◌/◌, ◌≤◌, ◌<◌}
use native.Mathlib.Omega.{arith}
use lib.Dec.{eqb}
use lib.ListN.{length, take, length-append}
use lib.Seq.{take_all}
use borrow.Author.Tests.{eq-eqb, ne_eqb, eqb-true}
use Rattle.kinds.specs.Decimal.{decimal}
use Rattle.kinds.specs.Kind.{BitWidth as KindWidth, bits, octets, is_bit_width, is_byte_length, Elementary, int, uint, fixed_bytes, elementary_text, suffix_text, sized, unsized}
use Rattle.kinds.proofs.Decimal.{decimal-one, decimal-more, decimal-short}
use Rattle.sizes.specs.Checked.{checked}
use Rattle.sizes.proofs.Checks.{checked-some, checked-none, width_small, length-small}
use Rattle.model.specs.Layout.{le_value}
use Rattle.model.specs.Record.{on_option, when, ended, wholly, Case, case, select, width_from, byte_length_from, elementary_cases, suffix_cases, decode_elementary, decode_suffix}
use Rattle.record.specs.Texts.{size, elementary_from, suffix_from}

-- digits: one by itself, and those before the last
one-digit : (v : ℕ) → v < 10 → length (decimal v) ≡ 1
one-digit v h = rw (decimal-one v h)

more-digits : (v : ℕ) → 10 ≤ v → length (decimal v) ≡ length (decimal (v / 10)) + 1
more-digits v h = rw (decimal-more v h, length-append)

four-digits : (v : ℕ) → 10000 ≤ v → length (decimal v) ≡ length (decimal (v / 10000)) + 4
four-digits v h =
    let d : v / 10 / 10 / 10 / 10 ≡ v / 10000 = omega arith in
    rw (← d) (omega (arith, more-digits v (omega arith), more-digits (v / 10) (omega arith), more-digits (v / 10 / 10) (omega arith), more-digits (v / 10 / 10 / 10) (omega arith)))

-- the loop that counts them
pub record Counted (v rest n : ℕ) : Type 0 where
  pub count : n + length (decimal rest) ≡ length (decimal v)
  pub small : length (decimal v) ≤ 20

pub counted_start : (v : ℕ) → v < 18446744073709551616 → Counted v v 0
counted_start v h = record { count = omega arith; small = decimal-short 20 v (omega arith) (omega arith) }

pub counted_next : (v rest n : ℕ) → Counted v rest n → 10000 ≤ rest → Counted v (rest / 10000) (n + 4)
counted_next v rest n i h = record { count = omega (arith, four-digits rest h, i.count); small = i.small }

pub counted-end : (v rest n m : ℕ) → Counted v rest n → m ≡ length (decimal rest) → (n + m ≡ length (decimal v)) × (n + m ≤ 20)
counted-end v rest n m i e = (omega (arith, i.count), omega (arith, i.count, i.small))

pub small_one : (v : ℕ) → v < 10 → 1 ≡ length (decimal v)
small_one v h = sym (one-digit v h)

pub small-two : (v : ℕ) → 10 ≤ v → v < 100 → 2 ≡ length (decimal v)
small-two v h k = omega (arith, more-digits v h, one-digit (v / 10) (omega arith))

pub small_three : (v : ℕ) → 100 ≤ v → v < 1000 → 3 ≡ length (decimal v)
small_three v h k = omega (arith, more-digits v (omega arith), more-digits (v / 10) (omega arith), one-digit (v / 10 / 10) (omega arith))

pub small-four : (v : ℕ) → 1000 ≤ v → v < 10000 → 4 ≡ length (decimal v)
small-four v h k = omega (arith, more-digits v (omega arith), small_three (v / 10) (omega arith) (omega arith))

-- a number of two bytes that passes a test, behind a word
module _ (test : ℕ → Bool) (f : ℕ → Elementary) (word : ℕ) (l : (n : ℕ) → length (elementary_text (f n)) ≡ word + length (decimal n)) (body : List ℕ) (h : length body ≡ 2) (n : ℕ) (e : n ≡ le_value (take 2 body)) where
  numbered-is : size (on_option elementary_text (wholly 2 body (λ n. when (test n) (Some (f n))))) ≡ option_map (λ v. word + length (decimal v)) (checked test n)
  unfolding checked
  numbered-is = rw (wholly, eq-eqb (length body) 2 h, all-of) (go (test n))
    where
      all-of : le_value body ≡ n
      all-of = sym (e ∙ ap le_value (take_all 2 body (omega arith)))

      go : (b : Bool) → size (on_option elementary_text (when b (Some (f n)))) ≡ option_map (λ v. word + length (decimal v)) (elim b [ true ↦ Some n | false ↦ None ])
      go true = ap Some (l n)
      go false = refl

module _ (k : ℕ) (body : List ℕ) (h : length body ≡ 2) (n : ℕ) (e : n ≡ le_value (take 2 body)) where
  pub size-int : k ≡ 1 → size (elementary_from k body) ≡ option_map (λ v. 3 + length (decimal v)) (checked is_bit_width n)
  unfolding elementary_from decode_elementary elementary_text
  size-int q = rw q (numbered-is is_bit_width (λ n. int (bits n)) 3 (λ n. omega arith) body h n e)

  pub size-uint : k ≡ 2 → size (elementary_from k body) ≡ option_map (λ v. 4 + length (decimal v)) (checked is_bit_width n)
  unfolding elementary_from decode_elementary elementary_text
  size-uint q = rw q (numbered-is is_bit_width (λ n. uint (bits n)) 4 (λ n. omega arith) body h n e)

  pub size-fixed : k ≡ 5 → size (elementary_from k body) ≡ option_map (λ v. 5 + length (decimal v)) (checked is_byte_length n)
  unfolding elementary_from decode_elementary elementary_text
  size-fixed q = rw q (numbered-is is_byte_length (λ n. fixed_bytes (octets n)) 5 (λ n. omega arith) body h n e)

-- a word alone
module _ (k : ℕ) where
  pub size-address : k ≡ 3 → Some 7 ≡ size (elementary_from k [])
  unfolding elementary_from decode_elementary elementary_text
  size-address e = rw e

  pub size-bool : k ≡ 4 → Some 4 ≡ size (elementary_from k [])
  unfolding elementary_from decode_elementary elementary_text
  size-bool e = rw e

  pub size-function : k ≡ 6 → Some 8 ≡ size (elementary_from k [])
  unfolding elementary_from decode_elementary elementary_text
  size-function e = rw e

  pub size-bytes : k ≡ 7 → Some 5 ≡ size (elementary_from k [])
  unfolding elementary_from decode_elementary elementary_text
  size-bytes e = rw e

  pub size-string : k ≡ 8 → Some 6 ≡ size (elementary_from k [])
  unfolding elementary_from decode_elementary elementary_text
  size-string e = rw e

-- a body that the case of a number does not take
module _ {A : Type 0} (k : ℕ) (body : List ℕ) where
  abbrev pub Refuses : List (Case (List ℕ → Option A)) → Type 0
  Refuses [] = Unit {0}
  Refuses (case n f ∷ cs) = (k ≡ n → f body ≡ None) × Refuses cs

  select-none : (cs : List (Case (List ℕ → Option A))) → Refuses cs → select cs (λ _. None) k body ≡ None
  select-none [] m = refl
  select-none (case n f ∷ cs) m = go (eqb n k) refl (select-none cs m.1)
    where
      go : (t : Bool) → eqb n k ≡ t → select cs (λ _. None) k body ≡ None → (elim t as (λ _. List ℕ → Option A) [ true ↦ f | false ↦ select cs (λ _. None) k ]) body ≡ None
      go true q e = m.0 (sym (eqb-true n k q))
      go false q e = e

not-wholly : {A : Type 0} (n : ℕ) (body : List ℕ) (f : ℕ → Option A) → (length body ≡ n → ⊥) → wholly n body f ≡ None
not-wholly n body f h = rw (wholly, ne_eqb (length body) n h)

not-width : (f : KindWidth → Elementary) (body : List ℕ) → (length body ≡ 2 → ⊥) → width_from f body ≡ None
not-width f body h = not-wholly 2 body (λ n. when (is_bit_width n) (Some (f (bits n)))) h

not-length : (body : List ℕ) → (length body ≡ 2 → ⊥) → byte_length_from body ≡ None
not-length body h = not-wholly 2 body (λ n. when (is_byte_length n) (Some (fixed_bytes (octets n)))) h

not-ended : {A : Type 0} (body : List ℕ) (a : A) → (length body ≡ 0 → ⊥) → ended body (Some a) ≡ None
not-ended [] a h = absurd (h refl)
not-ended (c ∷ t) a h = refl

module _ (k : ℕ) (body : List ℕ) where
  refused : Refuses k body elementary_cases → None ≡ size (elementary_from k body)
  unfolding elementary_from decode_elementary
  refused m = rw (elementary_from, decode_elementary, select-none k body elementary_cases m)

  -- a number and a kind that has none, no number and a kind that has one, and neither
  pub size-numbered : length body ≡ 2 → (k ≡ 1 → ⊥) → (k ≡ 2 → ⊥) → (k ≡ 5 → ⊥) → None ≡ size (elementary_from k body)
  size-numbered h a b c =
      let z : length body ≡ 0 → ⊥ = λ e. omega arith in
      refused (λ q. absurd (a q), (λ q. absurd (b q), (λ _. not-ended body _ z, (λ _. not-ended body _ z, (λ q. absurd (c q), (λ _. not-ended body _ z, (λ _. not-ended body _ z, (λ _. not-ended body _ z, tt))))))))

  pub size-worded : (length body ≡ 2 → ⊥) → (k ≡ 3 → ⊥) → (k ≡ 4 → ⊥) → (k ≡ 6 → ⊥) → (k ≡ 7 → ⊥) → (k ≡ 8 → ⊥) → None ≡ size (elementary_from k body)
  size-worded h a b c d e =
      refused (λ _. not-width int body h, (λ _. not-width uint body h, (λ q. absurd (a q), (λ q. absurd (b q), (λ _. not-length body h, (λ q. absurd (c q), (λ q. absurd (d q), (λ q. absurd (e q), tt))))))))

  pub size-odd : (length body ≡ 2 → ⊥) → (length body ≡ 0 → ⊥) → None ≡ size (elementary_from k body)
  size-odd h z =
      refused (λ _. not-width int body h, (λ _. not-width uint body h, (λ _. not-ended body _ z, (λ _. not-ended body _ z, (λ _. not-length body h, (λ _. not-ended body _ z, (λ _. not-ended body _ z, (λ _. not-ended body _ z, tt))))))))

pub size-other : (k : ℕ) → (k ≡ 3 → ⊥) → (k ≡ 4 → ⊥) → (k ≡ 6 → ⊥) → (k ≡ 7 → ⊥) → (k ≡ 8 → ⊥) → None ≡ size (elementary_from k [])
size-other k a b c d e = size-worded k [] (λ h. omega arith) a b c d e

pub size-alone : (k : ℕ) (body : List ℕ) (r : Option ℕ) → length body ≡ 0 → r ≡ size (elementary_from k []) → r ≡ size (elementary_from k body)
size-alone k [] r h e = e
size-alone k (c ∷ t) r h e = absurd (omega arith)

-- suffixes
module _ (k : ℕ) (body : List ℕ) where
  pub suffix-sized : k ≡ 10 → length body ≡ 8 → (v : ℕ) → v ≡ le_value (take 8 body) → (n : ℕ) → n ≡ length (decimal v) → Some (2 + n) ≡ size (suffix_from k body)
  unfolding suffix_from decode_suffix suffix_text
  suffix-sized e h v f n g =
      let z : le_value body ≡ v = sym (f ∙ ap le_value (take_all 8 body (omega arith))) in
      let long : 2 + n ≡ length (91 ∷ (decimal v ++ (93 ∷ []))) = omega (arith, length-append (decimal v) (93 ∷ [])) in
      rw (e, wholly, eq-eqb (length body) 8 h, z) (ap Some long)

  pub suffix-open : k ≡ 11 → length body ≡ 0 → Some 2 ≡ size (suffix_from k body)
  unfolding suffix_from decode_suffix suffix_text
  suffix-open e h = rw e (go body h)
    where
      go : (c : List ℕ) → length c ≡ 0 → Some 2 ≡ size (on_option suffix_text (ended c (Some unsized)))
      go [] h = refl
      go (x ∷ c) h = absurd (omega arith)

  pub suffix-none : (k ≡ 10 → length body ≡ 8 → ⊥) → (k ≡ 11 → length body ≡ 0 → ⊥) → None ≡ size (suffix_from k body)
  unfolding suffix_from decode_suffix
  suffix-none g h = rw (suffix_from, decode_suffix, select-none k body suffix_cases (λ e. not-wholly 8 body (λ n. Some (sized n)) (g e), (λ e. not-ended body _ (h e), tt)))

pub ruleset lengths = (counted_start, counted_next, small_one, small-two, small_three, small-four, width_small, length-small)

pub ruleset sizes = (size-int, size-uint, size-fixed, size-address, size-bool, size-function, size-bytes, size-string, size-numbered, size-other, size-odd, size-alone, width_small, length-small)

pub ruleset suffixing = (suffix-sized, suffix-open, suffix-none)
