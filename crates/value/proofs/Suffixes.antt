-- A suffix: what stands in its brackets, and its record.
-- Assumes nothing.
use Rattle.std.proofs.Common.{◌≡◌, refl, ◌∙◌, ap, List, [], ◌∷◌, ℕ, ◌+◌, ◌≤◌, arith, length, Option, None, Some}
use Rattle.kinds.specs.Decimal.{number}
use Rattle.kinds.specs.Kind.{Suffix, sized, unsized}
use Rattle.model.specs.Layout.{little_endian}
use Rattle.model.specs.Record.{encode_suffix}
use Rattle.model.specs.KindText.{longest, sized_by, inside}
use Rattle.model.proofs.Bounds.{record_size}
use Rattle.layout.specs.Buffer.{put, head}
use Rattle.value.specs.Suffix.{suffix_of}
use Rattle.value.proofs.Written.{record-puts, head-puts}

pub inside-none : (t : List ℕ) → length t ≡ 0 → inside t ≡ Some unsized
unfolding inside
inside-none [] h = refl
inside-none (c ∷ t) h = absurd (omega arith)

pub inside-number : (t : List ℕ) (o : Option ℕ) → (length t ≡ 0 → ⊥) → number longest t ≡ o → inside t ≡ sized_by o
unfolding inside
inside-number [] o h e = absurd (h refl)
inside-number (c ∷ t) o h e = ap sized_by e

pub sized_record : (n : ℕ) → length (encode_suffix 4 (sized n)) ≡ 14
unfolding encode_suffix little_endian
sized_record n = record_size 0xA (little_endian 8 n)

pub unsized_record : length (encode_suffix 4 unsized) ≡ 6
unfolding encode_suffix
unsized_record = record_size 0xB []

module _ (s : Suffix) (size : Option ℕ) (is : suffix_of size ≡ s) where
  pub length-sized : (n : ℕ) → size ≡ Some n → length (encode_suffix 4 s) ≡ 14
  length-sized n e = rw (← is, e) (sized_record n)

  pub length-open : size ≡ None → length (encode_suffix 4 s) ≡ 6
  length-open e = rw (← is, e) unsized_record

  pub puts-sized : (n o : ℕ) (b b₁ b₂ : List ℕ) → size ≡ Some n → o + length (encode_suffix 4 s) ≤ length b → b₁ ≡ put o (head 14 10) b → b₂ ≡ put (o + 6) (little_endian 8 n) b₁ → b₂ ≡ put o (encode_suffix 4 s) b
  unfolding encode_suffix little_endian
  puts-sized n o b b₁ b₂ e h f g =
      let l = length-sized n e in
      record-puts o 14 10 (little_endian 8 n) b b₁ b₂ refl (omega arith) f g ∙ rw (← is, e)

  pub puts-open : (o : ℕ) (b b₁ : List ℕ) → size ≡ None → b₁ ≡ put o (head 6 11) b → b₁ ≡ put o (encode_suffix 4 s) b
  unfolding encode_suffix
  puts-open o b b₁ e f = head-puts o 11 b b₁ f ∙ rw (← is, e)
