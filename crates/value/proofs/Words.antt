-- Elementary kinds, by the words and numbers that the code finds.
-- Assumes nothing.
use Rattle.std.proofs.Common.{◌≡◌, refl, sym, ◌∙◌, ap, Bool, true, false, List, [], ◌∷◌, ◌++◌, ℕ, arith, length, take, drop, take-append-drop, nat_eq, Option, None, Some, Ok, Err}
use Rattle.std.specs.Option.{option_and_then, option_map, ok_or}
use Rattle.std.specs.Cmp.Lexicographic.{pointwise}
use Rattle.std.proofs.lemmas.Bool.{true≢false}
use Rattle.std.proofs.Math.Seq.{take_all}
use Rattle.std.proofs.lemmas.Option.{none-some}
use Rattle.std.proofs.lemmas.Slice.Eq.{bytes_eq-Decides}
use Rattle.kinds.specs.Bytes.{ascii, same}
use Rattle.kinds.specs.Decimal.{number, plain, unsigned}
use Rattle.kinds.specs.Kind.{BitWidth, bits, octets, is_bit_width, is_byte_length, Elementary, int, uint, fixed_bytes, bytes}
use Rattle.kinds.proofs.Logic.{same_equal, same_unequal}
use Rattle.kinds.proofs.Decimal.{number_bound}
use Rattle.sizes.specs.Checked.{checked}
use Rattle.model.specs.declared.Refusal.{Refusal}
use Rattle.model.specs.declared.Refusal.TheVariants.{InvalidBitWidth, InvalidByteLength, Unknown}
use Rattle.model.specs.KindText.{ok, err, lookup, kind_words, starts, width, byte_length, with_number, elementary_of}
use Rattle.value.specs.declared.Base.{Base}
use Rattle.value.specs.declared.Base.TheVariants as base
use Rattle.value.specs.Elementary.{to_elementary, to_result, width_behind, length_behind, words}

-- the number behind a word
widest_is : checked is_bit_width 256 ≡ Some 256
unfolding checked
widest_is = refl

pub behind-none : (t : List ℕ) → length t ≡ 0 → checked is_bit_width 256 ≡ width_behind t
unfolding width_behind
behind-none [] h = widest_is
behind-none (c ∷ t) h = absurd (omega arith)

pub behind_widest : (t : List ℕ) → same (ascii "256") t ≡ true → checked is_bit_width 256 ≡ width_behind t
unfolding width_behind number plain unsigned
behind_widest t e = let widest : checked is_bit_width 256 ≡ width_behind (ascii "256") = refl in widest ∙ ap width_behind ((same_equal (ascii "256") t).0 e)

pub behind-number : (t : List ℕ) (o : Option ℕ) → (length t ≡ 0 → ⊥) → number 256 t ≡ o → width_behind t ≡ option_and_then (checked is_bit_width) o
unfolding width_behind
behind-number [] o h e = absurd (h refl)
behind-number (c ∷ t) o h e = ap (option_and_then (checked is_bit_width)) e

pub ruleset behind = (behind-none, behind_widest, behind-number, number_bound)

-- a number that has to pass a test, as a kind
numbered : (test : ℕ → Bool) (w : Refusal) (f : ℕ → Base) (k : ℕ → Elementary) → ((n : ℕ) → to_elementary (f n) ≡ k n) → (n : ℕ)
    → to_result (ok_or (option_map f (checked test n)) w) ≡ elim (test n) [ true ↦ ok (k n) | false ↦ err w ]
unfolding checked to_result
numbered test w f k same n =
    elim (test n) as (λ b. to_result (ok_or (option_map f (elim b [ true ↦ Some n | false ↦ None ])) w) ≡ elim b [ true ↦ ok (k n) | false ↦ err w ]) [ true ↦ ap ok (same n) | false ↦ refl ]

width-read : (f : ℕ → Base) (k : BitWidth → Elementary) → ((n : ℕ) → to_elementary (f n) ≡ k (bits n)) → (o : Option ℕ)
    → to_result (ok_or (option_map f (option_and_then (checked is_bit_width) o)) InvalidBitWidth) ≡ width k o
unfolding to_result
width-read f k same None = refl
width-read f k same (Some n) = numbered is_bit_width InvalidBitWidth f (λ m. k (bits m)) same n

length-read : (o : Option ℕ) → to_result (ok_or (option_map base.FixedBytes (option_and_then (checked is_byte_length) o)) InvalidByteLength) ≡ byte_length o
unfolding to_result to_elementary
length-read None = refl
length-read (Some n) = numbered is_byte_length InvalidByteLength base.FixedBytes (λ m. fixed_bytes (octets m)) (λ m. refl) n

-- a text that begins with a word, and one that does not
begun : (w t : List ℕ) → pointwise nat_eq (take (length w) t) w ≡ true → t ≡ w ++ drop (length w) t
begun w t e = sym (take-append-drop (length w) t) ∙ ap (λ (u : List ℕ). u ++ drop (length w) t) ((bytes_eq-Decides (take (length w) t) w).0 e)

not-begun : (w t : List ℕ) → pointwise nat_eq (take (length w) t) w ≡ false → starts w t ≡ false
not-begun w t e = same_unequal w (take (length w) t) (λ f. true≢false (sym ((bytes_eq-Decides (take (length w) t) w).1 (sym f)) ∙ e))

not-word : (w t : List ℕ) → pointwise nat_eq (take (length w) t) w ≡ false → same w t ≡ false
not-word w t e = same_unequal w t (λ f. true≢false (sym ((bytes_eq-Decides (take (length w) t) w).1 (rw (← f) (take_all (length w) w (omega arith)))) ∙ e))

-- a word and the number behind it
module _ (t : List ℕ) where
  pub is-uint : pointwise nat_eq (take 4 t) (ascii "uint") ≡ true → to_result (ok_or (option_map base.Uint (width_behind (drop 4 t))) InvalidBitWidth) ≡ elementary_of t
  unfolding to_result to_elementary elementary_of width_behind with_number
  is-uint e = go (drop 4 t) ∙ ap elementary_of (sym (begun (ascii "uint") t e))
    where
      go : (u : List ℕ) → to_result (ok_or (option_map base.Uint (width_behind u)) InvalidBitWidth) ≡ elementary_of (ascii "uint" ++ u)
      go [] = refl
      go (c ∷ u) = width-read base.Uint uint (λ n. refl) (number 256 (c ∷ u))

  pub is-int : pointwise nat_eq (take 3 t) (ascii "int") ≡ true → to_result (ok_or (option_map base.Int (width_behind (drop 3 t))) InvalidBitWidth) ≡ elementary_of t
  unfolding to_result to_elementary elementary_of width_behind with_number
  is-int e = go (drop 3 t) ∙ ap elementary_of (sym (begun (ascii "int") t e))
    where
      go : (u : List ℕ) → to_result (ok_or (option_map base.Int (width_behind u)) InvalidBitWidth) ≡ elementary_of (ascii "int" ++ u)
      go [] = refl
      go (c ∷ u) = width-read base.Int int (λ n. refl) (number 256 (c ∷ u))

  pub is-fixed : pointwise nat_eq (take 5 t) (ascii "bytes") ≡ true → lookup words t ≡ None → to_result (ok_or (option_map base.FixedBytes (length_behind (drop 5 t))) InvalidByteLength) ≡ elementary_of t
  unfolding elementary_of length_behind with_number
  is-fixed e h = let f = begun (ascii "bytes") t e in
      go (drop 5 t) (ap (lookup words) (sym f) ∙ h) ∙ ap elementary_of (sym f)
    where
      go : (u : List ℕ) → lookup words (ascii "bytes" ++ u) ≡ None → to_result (ok_or (option_map base.FixedBytes (length_behind u)) InvalidByteLength) ≡ elementary_of (ascii "bytes" ++ u)
      go [] h = absurd (none-some bytes (sym h))
      go (c ∷ u) h = length-read (number 32 (c ∷ u))

-- a text that begins with neither `int` nor `uint`
module _ (t : List ℕ) (u : pointwise nat_eq (take 4 t) (ascii "uint") ≡ false) (i : pointwise nat_eq (take 3 t) (ascii "int") ≡ false) where
  other_words : lookup kind_words t ≡ lookup words t
  other_words = rw (not-word (ascii "int") t i, not-word (ascii "uint") t u)

  pub is_word : (b : Base) → Some (to_elementary b) ≡ lookup words t → to_result (Ok b) ≡ elementary_of t
  unfolding to_result elementary_of
  is_word b e = rw (other_words, ← e)

  pub is-unknown : lookup words t ≡ None → pointwise nat_eq (take 5 t) (ascii "bytes") ≡ false → to_result (Err Unknown) ≡ elementary_of t
  unfolding to_result elementary_of with_number
  is-unknown e b = rw (other_words, e, with_number, not-begun (ascii "int") t i, not-begun (ascii "uint") t u, not-begun (ascii "bytes") t b)
