-- Names and marks, by the tests that the code makes.
-- Assumes nothing.
use mathlib.Core.Path.{◌≡◌, refl, sym, ◌∙◌}
use mathlib.Core.Bool.{Bool, true, false, not}
use mathlib.Core.List.{List, [], ◌∷◌}
use Rattle.std.specs.Prelude.{Option, None, Some}
use Prim.Native.Nat.{ℕ, zero, suc, ◌≤◌, ◌<◌}
use native.Mathlib.Omega.{arith}
use lib.Dec.{leb, leb-suc-zero, leb-suc-suc, eqb}
use lib.ListN.{length, take, length-take}
use lib.Seq.{length-take-le, take-take}
use borrow.Author.Tests.{le-leb, ne_eqb}
use Rattle.kinds.specs.Bytes.{ascii, all, same, is_letter, is_word_byte, is_word}
use Rattle.kinds.proofs.Logic.{both, left, right, all_weaken, letter_word}
use Rattle.model.specs.Text.{span, one, word_length}
use Rattle.model.proofs.Scans.{span_le}
use Rattle.text.specs.Found.{is_alphabetic}
use Rattle.text.proofs.Eights.{span-front, alphabetic}
use Rattle.model.specs.declared.Sort.{Sort}
use Rattle.model.specs.declared.Sort.TheVariants.{Plain, Parameter, Event}
use Rattle.model.specs.declared.Mark.{Mark}
use Rattle.model.specs.declared.Mark.TheVariants.{Unmarked, Indexed, Calldata, Memory}
use Rattle.model.specs.Mark.{mark_number}
use Rattle.model.specs.Tree.{indexed, in_calldata, in_memory}
use Rattle.model.specs.Reading.{attributes, marks_by}
use Rattle.model.specs.Record.{is_absent, is_field_name, is_mark}
use Rattle.record.specs.Texts.{located_from, is_free, is_mark_at}

-- the word that bytes begin with has at least n bytes exactly when the first n are a word
word-front : (n : ℕ) (t : List ℕ) → 0 < n → n ≤ length t → leb n (word_length t) ≡ is_word (take n t)
unfolding word_length
word-front zero t k h = absurd (omega arith)
word-front (suc n) [] k h = absurd (omega arith)
word-front (suc n) (c ∷ t) k h = go (is_letter c) refl
  where
    go : (b : Bool) → is_letter c ≡ b → leb (suc n) (word_length (c ∷ t)) ≡ is_word (take (suc n) (c ∷ t))
    go true e = rw (word_length, e, leb-suc-suc n (span (one is_word_byte) t)) (span-front is_word_byte n t (omega arith))
    go false e = rw (word_length, e, leb-suc-zero n)

lettered_word : (t : List ℕ) → 0 < length t → all is_letter t ≡ true → is_word t ≡ true
lettered_word [] h e = absurd (omega arith)
lettered_word (c ∷ t) h e = both (left {a = is_letter c} (all is_letter t) e) (all_weaken is_letter is_word_byte letter_word t (right (is_letter c) e))

-- the first n bytes of a part
module _ (t : List ℕ) (n : ℕ) where
  pub word-empty : n ≡ 0 → false ≡ is_word (take n t)
  word-empty e = rw e

  pub word-whole : (w : ℕ) → n ≤ length t → (n ≡ 0 → ⊥) → w ≡ word_length t → leb n w ≡ is_word (take n t)
  word-whole w h z e = rw e (word-front n t (omega arith) h)

  pub word_lettered : (c : ℕ) → n ≤ length t → (n ≡ 0 → ⊥) → c ≡ span (one is_alphabetic) (take 8 t) → n ≤ c → true ≡ is_word (take n t)
  word_lettered c h z e m =
      let few : c ≤ length (take 8 t) = omega (arith, e, span_le (one is_alphabetic) (take 8 t)) in
      let eight : n ≤ 8 = omega (arith, length-take 8 t) in
      let x : all is_alphabetic (take n (take 8 t)) ≡ true = sym (span-front is_alphabetic n (take 8 t) (omega arith)) ∙ rw (← e) (le-leb n c m) in
      let y : all is_alphabetic (take n t) ≡ true = rw (take-take n 8 t eight) at x in
      sym (lettered_word (take n t) (omega (arith, length-take-le n t h)) (alphabetic (take n t) y))

  pub field-name-empty : n ≡ 0 → true ≡ is_field_name (take n t)
  field-name-empty e = rw e

  pub field-name-word : (r : Bool) → n ≤ length t → (n ≡ 0 → ⊥) → r ≡ is_word (take n t) → r ≡ is_field_name (take n t)
  field-name-word r h z e = named (take n t) (omega (arith, length-take-le n t h)) e
    where
      named : (u : List ℕ) → 0 < length u → r ≡ is_word u → r ≡ is_field_name u
      named [] l q = absurd (omega arith)
      named (c ∷ u) l q = q

-- a name that is no data location
module _ (nm : List ℕ) where
  pub taken_calldata : same (ascii "calldata") nm ≡ true → false ≡ is_free nm
  unfolding is_free
  taken_calldata e = rw e

  pub free-memory : (b : Bool) → same (ascii "calldata") nm ≡ false → b ≡ same (ascii "memory") nm → not b ≡ is_free nm
  unfolding is_free
  free-memory b e f = rw (e, ← f) (go b)
    where
      go : (c : Bool) → not c ≡ is_absent (elim c as (λ _. Option ℕ) [ true ↦ Some in_memory | false ↦ None ])
      go true = refl
      go false = refl

pub ruleset naming = (word-empty, word-whole, word_lettered, field-name-empty, field-name-word, taken_calldata, free-memory)

-- a mark, by the sort of the list
module _ (sort : Sort) (mark : Mark) (t nm : List ℕ) where
  pub plain-unmarked : sort ≡ Plain → mark ≡ Unmarked → true ≡ is_mark_at sort t (mark_number mark) nm
  unfolding is_mark
  plain-unmarked e f = rw (e, f)

  pub plain-marked : sort ≡ Plain → (mark ≡ Unmarked → ⊥) → false ≡ is_mark_at sort t (mark_number mark) nm
  unfolding is_mark
  plain-marked e f = rw e (go mark f)
    where
      go : (m : Mark) → (m ≡ Unmarked → ⊥) → false ≡ is_mark [] (mark_number m) nm
      go Unmarked f = absurd (f refl)
      go Indexed f = refl
      go Calldata f = refl
      go Memory f = refl

  pub parameter_free : sort ≡ Parameter → mark ≡ Unmarked → (a : Bool) → a ≡ is_free nm → a ≡ true → a ≡ is_mark_at sort t (mark_number mark) nm
  unfolding is_mark is_free
  parameter_free e f a g h = rw (e, f) (go (located_from t))
    where
      go : (l : Bool) → a ≡ is_mark (marks_by Parameter l) 0 nm
      go true = g
      go false = h

  pub parameter_taken : sort ≡ Parameter → mark ≡ Unmarked → (a x : Bool) → a ≡ is_free nm → a ≡ false → x ≡ located_from t → not x ≡ is_mark_at sort t (mark_number mark) nm
  unfolding is_mark is_free
  parameter_taken e f a x g h j = rw (e, f, j) (go (located_from t))
    where
      go : (l : Bool) → not l ≡ is_mark (marks_by Parameter l) 0 nm
      go true = sym h ∙ g
      go false = refl

  pub parameter_indexed : sort ≡ Parameter → mark ≡ Indexed → false ≡ is_mark_at sort t (mark_number mark) nm
  unfolding is_mark
  parameter_indexed e f = rw (e, f) (go (located_from t))
    where
      go : (l : Bool) → false ≡ is_mark (marks_by Parameter l) 1 nm
      go true = refl
      go false = refl

  pub parameter_located : sort ≡ Parameter → (mark ≡ Unmarked → ⊥) → (mark ≡ Indexed → ⊥) → (x : Bool) → x ≡ located_from t → x ≡ is_mark_at sort t (mark_number mark) nm
  unfolding is_mark
  parameter_located e f g x j = rw (e, j) (go (located_from t) mark f g)
    where
      go : (l : Bool) (m : Mark) → (m ≡ Unmarked → ⊥) → (m ≡ Indexed → ⊥) → l ≡ is_mark (marks_by Parameter l) (mark_number m) nm
      go l Unmarked f g = absurd (f refl)
      go l Indexed f g = absurd (g refl)
      go true Calldata f g = refl
      go false Calldata f g = refl
      go true Memory f g = refl
      go false Memory f g = refl

  pub event_named : sort ≡ Event → mark ≡ Unmarked → (b : Bool) → b ≡ same (ascii "indexed") nm → not b ≡ is_mark_at sort t (mark_number mark) nm
  unfolding is_mark
  event_named e f b g = rw (e, f, ← g) (go b)
    where
      go : (c : Bool) → not c ≡ is_absent (elim c as (λ _. Option ℕ) [ true ↦ Some indexed | false ↦ None ])
      go true = refl
      go false = refl

  pub event-indexed : sort ≡ Event → mark ≡ Indexed → true ≡ is_mark_at sort t (mark_number mark) nm
  unfolding is_mark
  event-indexed e f = rw (e, f)

  pub event-other : sort ≡ Event → (mark ≡ Unmarked → ⊥) → (mark ≡ Indexed → ⊥) → false ≡ is_mark_at sort t (mark_number mark) nm
  unfolding is_mark
  event-other e f g = rw e (go mark f g)
    where
      go : (m : Mark) → (m ≡ Unmarked → ⊥) → (m ≡ Indexed → ⊥) → false ≡ is_mark attributes (mark_number m) nm
      go Unmarked f g = absurd (f refl)
      go Indexed f g = absurd (g refl)
      go Calldata f g = refl
      go Memory f g = refl

pub ruleset marking = (plain-unmarked, plain-marked, parameter_free, parameter_taken, parameter_indexed, parameter_located, event_named, event-indexed, event-other)

-- a number that is no mark's
pub mark-over : (sort : Sort) (t : List ℕ) (n : ℕ) (nm : List ℕ) → 3 < n → is_mark_at sort t n nm ≡ false
unfolding is_mark
mark-over sort t n nm h = go sort (located_from t)
  where
    zero : eqb n 0 ≡ false
    zero = ne_eqb n 0 (λ e. omega arith)

    go : (sort : Sort) (l : Bool) → is_mark (marks_by sort l) n nm ≡ false
    go Plain l = rw zero
    go Parameter true = rw (ne_eqb n in_calldata (λ e. omega arith), ne_eqb n in_memory (λ e. omega arith), zero)
    go Parameter false = rw zero
    go Event l = rw (ne_eqb n 1 (λ e. omega arith), zero)
