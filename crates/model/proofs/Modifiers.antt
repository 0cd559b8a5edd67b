-- The words behind a function's inputs: in either order, and no second one of a sort.
-- Assumes nothing.
use mathlib.Core.Path.{◌≡◌, refl, sym, ◌∙◌, ap, subst}
use mathlib.Core.Bool.{true, false, false≢true}
use mathlib.Core.List.{List, [], ◌∷◌, ◌++◌, append_assoc}
use Rattle.std.specs.Prelude.{None, Some}
use Prim.Native.Nat.{ℕ}
use native.Mathlib.Omega.{arith}
use lib.Dec.{eqb}
use lib.ListN.{take, drop}
use borrow.Author.Tests.{ne_eqb}
use Rattle.kinds.specs.Bytes.{ascii, same, space, semicolon, is_letter, is_word_byte, is_word}
use Rattle.kinds.proofs.Logic.{left}
use Rattle.model.specs.declared.Refusal.TheVariants.{ExpectEnd}
use Rattle.model.specs.declared.Keyword.TheVariants as key
use Rattle.model.specs.declared.Sort.TheVariants.{Parameter}
use Rattle.model.specs.Text.{one, skip, first, peek, word_length}
use Rattle.model.specs.Tree.{Fields, no_field, not_stated}
use Rattle.model.specs.KindText.{Entry, lookup}
use Rattle.model.specs.Parser.{got, bad, on_ans, then, look, word, keyword_of, ident, keyword, option, at_end, end}
use Rattle.model.specs.Reading.{fields, mutabilities, visibilities, visibility, visibility_unless, modifiers, returns, keyword_text, function, exec}
use Rattle.model.proofs.Bounds.{In, tested, Entries, lookup-of}
use Rattle.model.proofs.Stands.{peek-first, Reads, reads_then, reads_on, reads-return, FindsWord, word_spaced, option-there, option-absent}

-- Words of the tables.

-- what holds of a word that a table has, from what holds of each of its words
pub listed : {A : Type 0} (Q : List ℕ → Type 0) (es : List (Entry A)) (w : List ℕ) (a : A) → Entries (λ v _. Q v) es → lookup es w ≡ Some a → Q w
listed Q es w a h e = subst (In (λ _. Q w)) e (lookup-of (λ v _. Q v) es w h)

-- no word is of both sorts
pub one-sort : (w : List ℕ) (m : ℕ) → lookup mutabilities w ≡ Some m → lookup visibilities w ≡ None
one-sort w m = listed (λ v. lookup visibilities v ≡ None) mutabilities w m (refl, (refl, (refl, tt)))

-- Where they stand.

-- at the end of the text
pub no_modifiers : Reads modifiers [] [] not_stated
unfolding modifiers visibility
no_modifiers =
    let none_seen : Reads visibility [] [] false = option-absent visibilities false [] [] refl refl refl in
    reads_on visibility _ [] [] false not_stated none_seen
    (reads_on (option mutabilities not_stated) _ [] [] not_stated not_stated (option-absent mutabilities not_stated [] [] refl refl refl)
    (reads_on visibility _ [] [] false not_stated none_seen (reads-return not_stated [])))

-- "at most one of these and at most one mutability word may stand, in either order": each behind a space, with r behind them, which does not go
-- on with the word, they are read as that mutability
module _ (v w r : List ℕ) (m : ℕ) (seen : lookup visibilities v ≡ Some true) (means : lookup mutabilities w ≡ Some m) (ends : one is_word_byte r ≡ 0) where
  visible : (u : List ℕ) → one is_word_byte u ≡ 0 → FindsWord (space ∷ v) u v
  visible u = word_spaced v u (listed (λ x. is_word x ≡ true) visibilities v true (refl, (refl, tt)) seen)

  stated : (u : List ℕ) → one is_word_byte u ≡ 0 → FindsWord (space ∷ w) u w
  stated u = word_spaced w u (listed (λ x. is_word x ≡ true) mutabilities w m (refl, (refl, (refl, tt))) means)

  visibility-first : Reads modifiers ((space ∷ v) ++ (space ∷ w)) r m
  unfolding modifiers visibility
  visibility-first =
      let u : List ℕ = (space ∷ w) ++ r in
      reads_then visibility _ (space ∷ v) (space ∷ w) r true m (option-there visibilities false true (space ∷ v) u v (visible u refl) seen)
      (reads_on (option mutabilities not_stated) _ (space ∷ w) r m m (option-there mutabilities not_stated m (space ∷ w) r w (stated r ends) means)
      (reads_on (visibility_unless true) _ [] r true m (reads-return true r) (reads-return m r)))

  -- before the mutability word no visibility word is found
  unseen : Reads visibility [] (((space ∷ w) ++ (space ∷ v)) ++ r) false
  unfolding visibility option keyword_of
  unseen s at e =
      let f : drop at s ≡ (space ∷ w) ++ ((space ∷ v) ++ r) = e ∙ append_assoc (space ∷ w) (space ∷ v) r in
      rw (visibility, option, keyword_of, (stated ((space ∷ v) ++ r) refl s at f).0, one-sort w m means) (ap (got false) (omega arith))

  mutability-first : Reads modifiers ((space ∷ w) ++ (space ∷ v)) r m
  unfolding modifiers visibility
  mutability-first =
      let u : List ℕ = (space ∷ v) ++ r in
      reads_then visibility _ [] ((space ∷ w) ++ (space ∷ v)) r false m unseen
      (reads_then (option mutabilities not_stated) _ (space ∷ w) (space ∷ v) r m m (option-there mutabilities not_stated m (space ∷ w) u w (stated u refl) means)
      (reads_on visibility _ (space ∷ v) r true m (option-there visibilities false true (space ∷ v) r v (visible r ends) seen) (reads-return m r)))

  pub either_order : Reads modifiers ((space ∷ v) ++ (space ∷ w)) r m × Reads modifiers ((space ∷ w) ++ (space ∷ v)) r m
  either_order = (visibility-first, mutability-first)

-- A second word of a sort.

-- the first byte of a word is the one behind the blanks
pub word_first : (s : List ℕ) (at : ℕ) → is_word (word s at) ≡ true → peek s (skip s at) ≡ first (word s at)
unfolding word word_length
word_first s at h = go (drop (skip s at) s) refl h
  where
    go : (t : List ℕ) → drop (skip s at) s ≡ t → is_word (take (word_length t) t) ≡ true → peek s (skip s at) ≡ first (take (word_length t) t)
    go [] e = λ k. absurd (false≢true k)
    go (c ∷ t) e =
        tested (λ n. is_word (take n (c ∷ t)) ≡ true → peek s (skip s at) ≡ first (take n (c ∷ t))) (is_letter c)
        (λ _ _. peek-first s (skip s at) (c ∷ t) e)
        (λ _ k. absurd (false≢true k))

first_letter : (w : List ℕ) → is_word w ≡ true → is_letter (first w) ≡ true
first_letter [] h = absurd (false≢true h)
first_letter (c ∷ w) h = left _ h

-- where a word of a table stands and is not `returns`, no output is read, and the end is refused there
module _ (s : List ℕ) (at : ℕ) where
  other_byte : (c : ℕ) → is_word (word s at) ≡ true → is_letter c ≡ false → eqb (peek s (skip s at)) c ≡ false
  other_byte c h k = ne_eqb _ c (λ e. false≢true (sym k ∙ subst (λ d. is_letter d ≡ true) (sym (word_first s at h) ∙ e) (first_letter (word s at) h)))

  refused-there : {A : Type 0} (es : List (Entry A)) (a : A) → Entries (λ v _. (is_word v ≡ true) × (same (ascii "returns") v ≡ false)) es → lookup es (word s at) ≡ Some a → (returns s at ≡ got no_field at) × (end s at ≡ bad ExpectEnd (skip s at))
  unfolding returns keyword_of end look then
  refused-there es a h e =
      let (k, l) = listed (λ v. (is_word v ≡ true) × (same (ascii "returns") v ≡ false)) es (word s at) a h e in (
        rw (returns, keyword_of, lookup, l),
        rw (end, look, other_byte semicolon k refl, at_end, other_byte 256 k refl),
      )

-- "A second word of either sort is refused with 7 at that word.": where the modifiers of a function were read up to n, and a word of either sort
-- stands there
module _ (s : List ℕ) (nm : List ℕ) (ins : Fields) (m n₁ n₂ n₃ n : ℕ) (opens : keyword (keyword_text key.Function) s 0 ≡ got tt n₁) (named : ident s n₁ ≡ got nm n₂) (takes : fields Parameter s n₂ ≡ got ins n₃) (states : modifiers s n₃ ≡ got m n) where
  refused-behind : (returns s n ≡ got no_field n) × (end s n ≡ bad ExpectEnd (skip s n)) → exec function s ≡ bad ExpectEnd (skip s n)
  unfolding exec function then on_ans
  refused-behind (none-returned, unended) = rw (exec, function, opens, named, takes, states, none-returned, unended)

  pub second-visibility : lookup visibilities (word s n) ≡ Some true → exec function s ≡ bad ExpectEnd (skip s n)
  second-visibility e = refused-behind (refused-there s n visibilities true ((refl, refl), ((refl, refl), tt)) e)

  pub second-mutability : (x : ℕ) → lookup mutabilities (word s n) ≡ Some x → exec function s ≡ bad ExpectEnd (skip s n)
  second-mutability x e = refused-behind (refused-there s n mutabilities x ((refl, refl), ((refl, refl), ((refl, refl), tt))) e)
