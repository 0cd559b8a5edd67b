-- Laws of tests: two tests that both pass, a test of every element of a list, the classes of bytes, widths and byte lengths, and
-- whether two byte strings are equal.
-- Assumes nothing.
use mathlib.Core.Path.{◌≡◌, refl, ap₂}
use mathlib.Core.Logic.{◌↔◌}
use mathlib.Core.Bool.{Bool, true, false, ◌&&◌, and-eq-true_iff, and_assoc, or-true}
use mathlib.Core.List.{List, [], ◌∷◌, ◌++◌}
use Prim.Native.Nat.{ℕ, ◌≤◌}
use lib.Dec.{leb, eqb}
use borrow.Author.Tests.{leb-true, eqb-true, eq-eqb}
use Rattle.kinds.specs.Bytes.{all, same, is_digit, is_letter, is_word_byte, is_word}
use Rattle.kinds.specs.Kind.{is_bit_width, is_byte_length}

pub both : {a b : Bool} → a ≡ true → b ≡ true → (a && b) ≡ true
both {a} {b} h k = (and-eq-true_iff a b).1 (h, k)

pub left : {a : Bool} (b : Bool) → (a && b) ≡ true → a ≡ true
left {a} b h = ((and-eq-true_iff a b).0 h).0

pub right : (a : Bool) {b : Bool} → (a && b) ≡ true → b ≡ true
right a {b} h = ((and-eq-true_iff a b).0 h).1

module _ {A : Type 0} (p : A → Bool) where
  pub all_append : (xs ys : List A) → all p (xs ++ ys) ≡ (all p xs && all p ys)
  all_append [] ys = refl
  all_append (x ∷ xs) ys = rw (all_append xs ys, and_assoc)

  pub all_weaken : (q : A → Bool) → ((x : A) → p x ≡ true → q x ≡ true) → (xs : List A) → all p xs ≡ true → all q xs ≡ true
  all_weaken q f [] h = refl
  all_weaken q f (x ∷ xs) h = both (f x (left _ h)) (all_weaken q f xs (right (p x) h))

-- digits and letters are word bytes, and a word is of word bytes
pub digit-word : (c : ℕ) → is_digit c ≡ true → is_word_byte c ≡ true
digit-word c h = rw h

pub letter_word : (c : ℕ) → is_letter c ≡ true → is_word_byte c ≡ true
letter_word c h = rw h (or-true (is_digit c))

pub word-all : (w : List ℕ) → is_word w ≡ true → all is_word_byte w ≡ true
word-all [] h = refl
word-all (c ∷ w) h = both (letter_word c (left _ h)) (right (is_letter c) h)

-- the largest width and the largest byte length
pub width-most : (m : ℕ) → is_bit_width m ≡ true → m ≤ 256
width-most m h = leb-true m 256 (right (leb 1 m) (left _ h))

pub byte-length-most : (m : ℕ) → is_byte_length m ≡ true → m ≤ 32
byte-length-most m h = leb-true m 32 (right (leb 1 m) h)

-- two byte strings pass the test exactly where they are equal
pub same_self : (s : List ℕ) → same s s ≡ true
same_self [] = refl
same_self (c ∷ s) = both (eq-eqb c c refl) (same_self s)

same-only : (s t : List ℕ) → same s t ≡ true → s ≡ t
same-only [] [] e = refl
same-only [] (d ∷ t) e = cc
same-only (c ∷ s) [] e = cc
same-only (c ∷ s) (d ∷ t) e = ap₂ ◌∷◌ (eqb-true c d (left _ e)) (same-only s t (right (eqb c d) e))

pub same_equal : (s t : List ℕ) → (same s t ≡ true) ↔ (s ≡ t)
same_equal s t = (same-only s t, λ e. rw e (same_self t))

pub same_unequal : (s t : List ℕ) → (s ≡ t → ⊥) → same s t ≡ false
same_unequal s t n = go (same s t) refl
  where
    go : (b : Bool) → same s t ≡ b → same s t ≡ false
    go true e = absurd (n (same-only s t e))
    go false e = e
