-- The tables of mark words. What the laws want of their rows is one test, computed: a row more is no law more.
-- Assumes nothing.
use mathlib.Core.Path.{◌≡◌, refl}
use mathlib.Core.Bool.{Bool, true, false, ◌&&◌, ◌||◌, false≢true, or-true}
use mathlib.Core.List.{List, [], ◌∷◌, ◌++◌}
use Rattle.std.specs.Prelude.{Option, None, Some}
use Prim.Native.Nat.{ℕ, ◌^◌, ◌<◌}
use native.Mathlib.Omega.{arith}
use lib.Dec.{ltb, eqb}
use borrow.Author.Tests.{ltb-true, eqb-true, eq-eqb}
use Rattle.kinds.specs.Bytes.{same, is_word}
use Rattle.kinds.proofs.Logic.{left, right}
use Rattle.model.specs.declared.Sort.{Sort}
use Rattle.model.specs.declared.Sort.TheVariants.{Plain, Parameter, Event}
use Rattle.model.specs.Tree.{unmarked}
use Rattle.model.specs.KindText.{Entry, entry, lookup}
use Rattle.model.specs.Reading.{locations, attributes, marks_by}
use Rattle.model.specs.Record.{is_field_name, has_mark, is_mark, select}
use Rattle.model.specs.Written.{by_mark, mark_word}
use Rattle.model.proofs.Bounds.{tested, In}

-- one of two tests passes
pub either : {Q : Type 0} (a b : Bool) → (a || b) ≡ true → (a ≡ true → Q) → (b ≡ true → Q) → Q
either true b h f g = f refl
either false b h f g = g h

-- a word of a table stands for a mark of it
pub lookup-has : (es : List (Entry ℕ)) (w : List ℕ) → In (λ m. has_mark es m ≡ true) (lookup es w)
lookup-has [] w = tt
lookup-has (entry v n ∷ es) w = tested (In (λ m. (eqb m n || has_mark es m) ≡ true)) (same v w) (λ _. rw (eq-eqb n n refl)) (λ _. later (lookup es w) (lookup-has es w))
  where
    later : (o : Option ℕ) → In (λ m. has_mark es m ≡ true) o → In (λ m. (eqb m n || has_mark es m) ≡ true) o
    later None i = tt
    later (Some m) i = rw i (or-true (eqb m n))

-- what holds of each mark of a table
module _ (P : ℕ → Bool) where
  abbrev every : List (Entry ℕ) → Bool
  every [] = true
  every (entry w n ∷ es) = P n && every es

  has-every : (es : List (Entry ℕ)) → every es ≡ true → (m : ℕ) → has_mark es m ≡ true → P m ≡ true
  has-every [] h m q = absurd (false≢true q)
  has-every (entry w n ∷ es) h m q = either (eqb m n) (has_mark es m) q (λ e. rw (eqb-true m n e) (left _ h)) (λ e. has-every es (right (P n) h) m e)

-- the test: one byte holds the mark, and the word that it is written by stands for it in the table
abbrev is_found : ℕ → Option ℕ → Bool
is_found m None = false
is_found m (Some n) = eqb n m

found_some : (m : ℕ) (o : Option ℕ) → is_found m o ≡ true → o ≡ Some m
found_some m None h = absurd (false≢true h)
found_some m (Some n) h = rw (eqb-true n m h)

abbrev is_row : List (Entry ℕ) → ℕ → Bool
is_row es m = ltb m 256 && (is_word (mark_word m) && is_found m (lookup es (mark_word m)))

tables : (sort : Sort) (l : Bool) → every (is_row (marks_by sort l)) (marks_by sort l) ≡ true
tables Plain l = refl
tables Parameter true = refl
tables Parameter false = refl
tables Event l = refl

module _ (sort : Sort) (l : Bool) (m : ℕ) where
  row : has_mark (marks_by sort l) m ≡ true → is_row (marks_by sort l) m ≡ true
  row h = has-every (is_row (marks_by sort l)) (marks_by sort l) (tables sort l) m h

  pub mark-small : has_mark (marks_by sort l) m ≡ true → m < 256
  mark-small h = ltb-true m 256 (left _ (row h))

  pub mark-fits : (nm : List ℕ) → is_mark (marks_by sort l) m nm ≡ true → m < 256 ^ 2
  unfolding is_mark
  mark-fits nm h = either (has_mark (marks_by sort l) m) _ h (λ p. omega (arith, mark-small p)) (λ p. omega (arith, eqb-true m unmarked (left _ p)))

  pub mark-worded : has_mark (marks_by sort l) m ≡ true → is_word (mark_word m) ≡ true
  mark-worded h = left _ (right (ltb m 256) (row h))

  pub mark-found : has_mark (marks_by sort l) m ≡ true → lookup (marks_by sort l) (mark_word m) ≡ Some m
  mark-found h = found_some m _ (right (is_word (mark_word m)) (right (ltb m 256) (row h)))

-- what holds of each word of a table, and of none, holds of what is written for a number
module _ (P : List ℕ → Bool) where
  abbrev pub each_word : List (Entry ℕ) → Bool
  each_word [] = P []
  each_word (entry w m ∷ es) = P w && each_word es

  pub select_word : (es : List (Entry ℕ)) → each_word es ≡ true → (m : ℕ) → P (select (by_mark es) [] m) ≡ true
  select_word [] h m = h
  select_word (entry w n ∷ es) h m = tested (λ u. P u ≡ true) (eqb n m) (λ _. left _ h) (λ _. select_word es (right (P w) h) m)

-- what is written for a mark is a word, or nothing
pub mark-named : (m : ℕ) → is_field_name (mark_word m) ≡ true
mark-named m = select_word is_field_name (attributes ++ locations) refl m
