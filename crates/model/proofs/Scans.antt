-- Laws of scanning: how far items reach, what stands at a place, blanks, words and runs.
-- Assumes nothing.
use mathlib.Core.Path.{◌≡◌, refl, sym, ◌∙◌, ap}
use mathlib.Core.Bool.{Bool, true, false, ◌&&◌, ◌||◌, not, cond, and-eq-true_iff}
use mathlib.Core.List.{List, [], ◌∷◌, ◌++◌, append-nil}
use Rattle.std.specs.Prelude.{Option, None, Some}
use Prim.Native.Nat.{ℕ, zero, suc, ◌+◌, ◌*◌, ◌-◌, ◌≤◌, ◌<◌, zero-le, suc-le-suc}
use native.Mathlib.Omega.{arith}
use native.Mathlib.Nat.{zero-add}
use native.Mathlib.Decide.{dec_lt}
use lib.Dec.{leb, ltb, eqb}
use lib.ListN.{length, take, drop, get_or, length-drop}
use lib.Seq.{take_all, drop-cons, drop-drop, drop-append_seam}
use borrow.Author.Tests.{lt-ltb, le-ltb, leb-true, le-leb, lt-leb, eqb-true, ne_eqb, not-true}
use Rattle.kinds.specs.Bytes.{comma, rparen, between, all, is_ascii, is_digit, is_letter, is_word_byte, is_word}
use Rattle.model.specs.Text.{span_from, span, one, Char, char, no_char, is_tail, tails, scalar, char_of, char_length, character, valid_length, is_blank, blank_length, blank, skip, peek, word_length, run_byte, run_length}

and_both : (x y : Bool) → (x && y) ≡ true → (x ≡ true) × (y ≡ true)
and_both x y e = (and-eq-true_iff x y).0 e

-- items reach no further than the list
span-from_le : (f : List ℕ → ℕ) (k : ℕ) (t : List ℕ) → span_from f k t ≤ length t
unfolding span_from
span-from_le f k [] = zero-le
span-from_le f zero (c ∷ t) = go (f (c ∷ t)) (λ m. span-from_le f m t)
  where
    go : (n : ℕ) → ((m : ℕ) → span_from f m t ≤ length t) → (elim n [ zero ↦ 0 | suc m ↦ suc (span_from f m t) ]) ≤ suc (length t)
    go zero h = zero-le
    go (suc m) h = suc-le-suc (h m)
span-from_le f (suc k) (c ∷ t) = suc-le-suc (span-from_le f k t)

pub span_le : (f : List ℕ → ℕ) (t : List ℕ) → span f t ≤ length t
span_le f t = span-from_le f 0 t

-- the rest of an item, and the items behind it
span-from : (f : List ℕ → ℕ) (k : ℕ) (t : List ℕ) → k ≤ length t → span_from f k t ≡ k + span f (drop k t)
unfolding span_from
span-from f zero t h = sym (zero-add _)
span-from f (suc k) [] h = omega arith
span-from f (suc k) (c ∷ t) h = ap suc (span-from f k t (omega arith)) ∙ omega arith

-- no item, and an item of n bytes
pub span_none : (f : List ℕ → ℕ) (t : List ℕ) → f t ≡ 0 → span f t ≡ 0
unfolding span_from
span_none f [] h = refl
span_none f (c ∷ t) h = rw (span_from, h)

pub span-item : (f : List ℕ → ℕ) (t : List ℕ) (n : ℕ) → f t ≡ suc n → suc n ≤ length t → span f t ≡ suc n + span f (drop (suc n) t)
unfolding span_from
span-item f [] n e h = omega arith
span-item f (c ∷ t) n e h = rw (span_from, e) (ap suc (span-from f n t (omega arith)) ∙ omega arith)

-- bytes that each are an item, and what follows them
pub span-bytes : (f : List ℕ → ℕ) (p : ℕ → Bool) → ((c : ℕ) (t : List ℕ) → p c ≡ true → f (c ∷ t) ≡ 1) → (w t : List ℕ) → all p w ≡ true
    → span f (w ++ t) ≡ length w + span f t
span-bytes f p h [] t a = sym (zero-add _)
span-bytes f p h (c ∷ w) t a =
    let b = and_both (p c) (all p w) a in
    omega (arith, span-item f (c ∷ (w ++ t)) 0 (h c (w ++ t) b.0) (omega arith), span-bytes f p h w t b.1)

-- For a loop that counts: the items from i on, where there is none, where one is passed, and at the end. r is the code's test.
pub scan_none : (f : List ℕ → ℕ) (t : List ℕ) (i n : ℕ) → f (drop i t) ≡ 0 → i + span f (drop i t) ≡ n → i ≡ n
scan_none f t i n e q = omega (arith, span_none f (drop i t) e)

pub scan_item : (f : List ℕ → ℕ) (t : List ℕ) (i k n : ℕ) → f (drop i t) ≡ k → 0 < k → i + k ≤ length t → i + span f (drop i t) ≡ n → i + k + span f (drop (i + k) t) ≡ n
scan_item f t i zero n e z l q = omega arith
scan_item f t i (suc k) n e z l q =
    let h : span f (drop i t) ≡ suc k + span f (drop (suc k) (drop i t)) = span-item f (drop i t) k e (rw length-drop (omega arith)) in
    let g = rw drop-drop at h in
    omega arith

pub scan_end : (f : List ℕ → ℕ) (t : List ℕ) (i n : ℕ) → length t ≤ i → i + span f (drop i t) ≡ n → i ≡ n
scan_end f t i n h q = omega (arith, span_le f (drop i t), length-drop i t)

one_at : (p : ℕ → Bool) (t : List ℕ) (i : ℕ) (b : Bool) → i < length t → p (get_or t i 0) ≡ b → one p (drop i t) ≡ (elim b [ true ↦ 1 | false ↦ 0 ])
one_at p t i true h e = rw (drop-cons t i 0 h, one, e)
one_at p t i false h e = rw (drop-cons t i 0 h, one, e)

module _ (p : ℕ → Bool) (t : List ℕ) (i n : ℕ) (r : Bool) (h : i < length t) (e : r ≡ p (get_or t i 0)) where
  pub bytes-stop : r ≡ false → i + span (one p) (drop i t) ≡ n → i ≡ n
  bytes-stop w q = scan_none (one p) t i n (one_at p t i false h (sym e ∙ w)) q

  pub bytes-more : r ≡ true → i + span (one p) (drop i t) ≡ n → i + 1 + span (one p) (drop (i + 1) t) ≡ n
  bytes-more w q = scan_item (one p) t i 1 n (one_at p t i true h (sym e ∙ w)) (omega arith) (omega arith) q

-- What stands at a place: the text from there on.

-- a part from a place to the end, as the code's `&s[at..]` is given, is what is left
pub part-rest : (s : List ℕ) (at : ℕ) → take (length s - at) (drop at s) ≡ drop at s
part-rest s at = take_all (length s - at) (drop at s) (rw length-drop (omega arith))

-- past what stands there
pub stands-past : (s : List ℕ) (at : ℕ) (u r : List ℕ) → drop at s ≡ u ++ r → drop (at + length u) s ≡ r
stands-past s at u r e = sym (drop-drop (length u) at s) ∙ rw e (drop-append_seam u r)

stands-inside : (s : List ℕ) (at c : ℕ) (t : List ℕ) → drop at s ≡ c ∷ t → at < length s
stands-inside s at c t e = omega (arith, length-drop at s, ap length e)

-- a byte
pub peek-byte : (s : List ℕ) (at c : ℕ) (t : List ℕ) → drop at s ≡ c ∷ t → peek s at ≡ c
unfolding peek
peek-byte s at c t e =
    let h = stands-inside s at c t e in
    let q : get_or s at 0 ∷ drop (suc at) s ≡ c ∷ t = sym (drop-cons s at 0 h) ∙ e in
    rw (lt-ltb at (length s) h, peek) (cc)

-- the end
pub peek-end : (s : List ℕ) (at : ℕ) → length s ≤ at → peek s at ≡ 256
unfolding peek
peek-end s at h = rw (le-ltb at (length s) h, peek)

-- what is there to see is within the text
pub peek-inside : (s : List ℕ) (at b : ℕ) → peek s at ≡ b → b < 256 → at < length s
peek-inside s at b e h = elim (dec_lt at (length s)) [ yes p ↦ p | no p ↦ absurd (clash (omega arith)) ]
  where
    clash : length s ≤ at → ⊥
    clash q = omega (arith, peek-end s at q)

-- For a loop that passes items of several bytes, handed the part from i on: m is the length that it was answered.
module _ (f : List ℕ → ℕ) (t : List ℕ) (i n m : ℕ) (h : i ≤ length t) (e : m ≡ f (take (length t - i) (drop i t))) where
  pub items-stop : m ≡ 0 → i + span f (drop i t) ≡ n → i ≡ n
  items-stop z q = scan_none f t i n (sym (rw part-rest at e) ∙ z) q

  pub items_more : (m ≡ 0 → ⊥) → m ≤ length (take (length t - i) (drop i t)) → i + span f (drop i t) ≡ n → i + m + span f (drop (i + m) t) ≡ n
  items_more z l q = scan_item f t i m n (sym (rw part-rest at e)) (omega arith) (omega (arith, rw (part-rest, length-drop) at l)) q

  pub items-inside : m ≤ length (take (length t - i) (drop i t)) → i + m ≤ length t
  items-inside l = omega (arith, rw (part-rest, length-drop) at l)

-- Characters.

-- tail bytes lie within the list
tails-inside : (k v w : ℕ) (t : List ℕ) → tails k v t ≡ Some w → k ≤ length t
tails-inside zero v w t e = omega arith
tails-inside (suc k) v w [] e = let y : ◌≡◌ {A = ℕ} 0 1 = cc in omega arith
tails-inside (suc k) v w (c ∷ t) e = go (is_tail c) refl (λ q. tails-inside k (v * 64 + (c - 0x80)) w t q)
  where
    go : (b : Bool) → is_tail c ≡ b → (tails k (v * 64 + (c - 0x80)) t ≡ Some w → k ≤ length t) → suc k ≤ suc (length t)
    go true q ih = suc-le-suc (ih (rw (tails, q) at e))
    go false q ih = let z : None ≡ Some w = rw (tails, q) at e in let y : ◌≡◌ {A = ℕ} 0 1 = cc in omega arith

scalar-inside : (n low k v : ℕ) (t : List ℕ) → n ≤ suc k → char_length (scalar n low (tails k v t)) ≤ suc (length t)
scalar-inside n low k v t h = go (tails k v t) refl
  where
    go : (o : Option ℕ) → tails k v t ≡ o → char_length (scalar n low o) ≤ suc (length t)
    go None e = omega arith
    go (Some w) e = test (between low 0x10FFFF w && not (between 0xD800 0xDFFF w))
      where
        test : (b : Bool) → char_length (elim b [ true ↦ char w n | false ↦ no_char ]) ≤ suc (length t)
        test true = omega (arith, tails-inside k v w t e)
        test false = omega arith

-- what holds of both holds of the one that is taken
cond-all : {A : Type 0} (P : A → Type 0) (b : Bool) (x y : A) → P x → P y → P (cond b x y)
cond-all P true x y p q = p
cond-all P false x y p q = q

-- a character lies within the list
pub char-inside : (t : List ℕ) → char_length (char_of t) ≤ length t
unfolding char_of
char-inside [] = zero-le
char-inside (a ∷ t) =
    cond-all Inside (ltb a 0x80) _ _ (omega arith)
    (cond-all Inside (between 0xC0 0xDF a) _ _ (scalar-inside 2 0x80 1 (a - 0xC0) t (omega arith))
    (cond-all Inside (between 0xE0 0xEF a) _ _ (scalar-inside 3 0x800 2 (a - 0xE0) t (omega arith))
    (cond-all Inside (between 0xF0 0xF7 a) _ _ (scalar-inside 4 0x10000 3 (a - 0xF0) t (omega arith)) (omega arith))))
  where
    Inside : Char → Type 0
    Inside c = char_length c ≤ suc (length t)

-- an ASCII text is valid
character-ascii : (c : ℕ) (t : List ℕ) → is_ascii c ≡ true → character (c ∷ t) ≡ 1
unfolding character char_of
character-ascii c t e = rw (character, char_of, e)

pub valid-ascii : (s : List ℕ) → all is_ascii s ≡ true → valid_length s ≡ length s
unfolding valid_length character char_of
valid-ascii s a = ap (span character) (sym (append-nil s)) ∙ omega (arith, span-bytes character is_ascii character-ascii s [] a, span_none character [] refl)

-- Blanks.

-- an ASCII byte is a blank or not by itself
pub blank-ascii : (c : ℕ) (t : List ℕ) → c < 128 → is_blank c ≡ false → blank (c ∷ t) ≡ 0
unfolding blank char_of
blank-ascii c t h e = rw (blank, char_of, lt-ltb c 128 h, blank_length, e)

pub blank-space : (t : List ℕ) → blank (32 ∷ t) ≡ 1
unfolding blank char_of
blank-space t = refl

pub blank_nil : blank [] ≡ 0
unfolding blank char_of
blank_nil = refl

-- the place behind the blanks
pub skip_le : (s : List ℕ) (at : ℕ) → at ≤ skip s at
unfolding skip
skip_le s at = omega arith

pub skip-within : (s : List ℕ) (at : ℕ) → at ≤ length s → skip s at ≤ length s
unfolding skip
skip-within s at h = omega (arith, span_le blank (drop at s), length-drop at s)

pub skip-part : (s : List ℕ) (at r : ℕ) → r ≡ span blank (take (length s - at) (drop at s)) → at + r ≡ skip s at
unfolding skip
skip-part s at r e = rw (e, part-rest)

pub skip-none : (s : List ℕ) (at : ℕ) → blank (drop at s) ≡ 0 → skip s at ≡ at
unfolding skip
skip-none s at e = omega (arith, span_none blank (drop at s) e)

-- Words and runs.

-- a test of two bounds, as an order
pub between-both : (low high c : ℕ) → between low high c ≡ true → (low ≤ c) × (c ≤ high)
between-both low high c e = go (leb low c) (leb c high) refl refl e
  where
    go : (x y : Bool) → leb low c ≡ x → leb c high ≡ y → (x && y) ≡ true → (low ≤ c) × (c ≤ high)
    go true true p q h = (leb-true low c p, leb-true c high q)
    go true false p q h = (leb-true low c p, leb-true c high (q ∙ h))
    go false y p q h = (leb-true low c (p ∙ h), leb-true c high (cc))

-- bytes that are no blanks by themselves
plain_byte : (c : ℕ) → 33 ≤ c → c < 128 → is_blank c ≡ false
plain_byte c h k =
    rw (
      le-leb 9 c (omega arith),
      lt-leb c 13 (omega arith),
      ne_eqb c 32 (omega arith),
      ne_eqb c 0x85 (omega arith),
      ne_eqb c 0xA0 (omega arith),
      ne_eqb c 0x1680 (omega arith),
      lt-leb 0x2000 c (omega arith),
      lt-leb 0x2028 c (omega arith),
      ne_eqb c 0x202F (omega arith),
      ne_eqb c 0x205F (omega arith),
      ne_eqb c 0x3000 (omega arith),
    )

pub blank-plain : (c : ℕ) (t : List ℕ) → 33 ≤ c → c < 128 → blank (c ∷ t) ≡ 0
blank-plain c t h k = blank-ascii c t k (plain_byte c h k)

-- where the bytes of words lie
pub word_range : (c : ℕ) → is_word_byte c ≡ true → (36 ≤ c) × (c ≤ 122)
word_range c e = go (is_digit c) (between 97 122 c) (between 65 90 c) (eqb c 36) (eqb c 95) refl refl refl refl refl e
  where
    go : (v w x y z : Bool) → is_digit c ≡ v → between 97 122 c ≡ w → between 65 90 c ≡ x → eqb c 36 ≡ y → eqb c 95 ≡ z
        → (v || (w || (x || (y || z)))) ≡ true → (36 ≤ c) × (c ≤ 122)
    go true w x y z p q r s u h = let b = between-both 48 57 c p in omega arith
    go false true x y z p q r s u h = let b = between-both 97 122 c q in omega arith
    go false false true y z p q r s u h = let b = between-both 65 90 c r in omega arith
    go false false false true z p q r s u h = omega (arith, eqb-true c 36 s)
    go false false false false z p q r s u h = omega (arith, eqb-true c 95 (u ∙ h))

pub blank-word : (c : ℕ) (t : List ℕ) → is_word_byte c ≡ true → blank (c ∷ t) ≡ 0
blank-word c t e = let b = word_range c e in
    blank-plain c t (omega arith) (omega arith)

-- a word and what does not belong to it
letter_word : (c : ℕ) → is_letter c ≡ true → is_word_byte c ≡ true
letter_word c e = go (is_digit c) e
  where
    go : (d : Bool) → is_letter c ≡ true → (d || is_letter c) ≡ true
    go true h = refl
    go false h = h

pub word-written : (w t : List ℕ) → is_word w ≡ true → one is_word_byte t ≡ 0 → word_length (w ++ t) ≡ length w
unfolding word_length
word-written [] t h e = cc
word-written (c ∷ w) t h e =
    let b = and_both (is_letter c) (all is_word_byte w) h in
    rw (word_length, b.0) (omega (arith, span-bytes (one is_word_byte) is_word_byte (λ d u q. rw (one, q)) w t b.1, span_none (one is_word_byte) t e))

-- for the code: a word by its first byte, where r is the code's test
pub word-empty : (t : List ℕ) → length t ≡ 0 → 0 ≡ word_length t
unfolding word_length
word-empty [] h = refl
word-empty (c ∷ t) h = absurd (omega arith)

pub word_none : (t : List ℕ) (r : Bool) → (length t ≡ 0 → ⊥) → r ≡ is_letter (get_or t 0 0) → r ≡ false → 0 ≡ word_length t
unfolding word_length
word_none [] r h e w = absurd (h refl)
word_none (c ∷ t) r h e w = rw (word_length, ← e, w)

pub word_first : (t : List ℕ) (r : Bool) → (length t ≡ 0 → ⊥) → r ≡ is_letter (get_or t 0 0) → r ≡ true → 1 + span (one is_word_byte) (drop 1 t) ≡ word_length t
unfolding word_length
word_first [] r h e w = absurd (h refl)
word_first (c ∷ t) r h e w = rw (word_length, ← e, w) (omega arith)

-- a run of bytes that are neither blanks nor `,` nor `)`, and what ends it
abbrev pub is_run_byte : ℕ → Bool
is_run_byte c = between 33 127 c && (not (eqb c comma) && not (eqb c rparen))

run-byte : (c : ℕ) (t : List ℕ) → is_run_byte c ≡ true → run_byte (c ∷ t) ≡ 1
run-byte c t e =
    let b = and_both (between 33 127 c) (not (eqb c comma) && not (eqb c rparen)) e in
    let d = and_both (not (eqb c comma)) (not (eqb c rparen)) b.1 in
    let g = between-both 33 127 c b.0 in
    rw (run_byte, not-true (eqb c comma) d.0, not-true (eqb c rparen) d.1, blank-plain c t g.0 (omega arith))

pub run-written : (w t : List ℕ) → all is_run_byte w ≡ true → run_byte t ≡ 0 → run_length (w ++ t) ≡ length w
unfolding run_length
run-written w t h e = omega (arith, span-bytes run_byte is_run_byte run-byte w t h, span_none run_byte t e)

pub ruleset scanning = (scan_none, scan_item, scan_end, bytes-stop, bytes-more, items-stop, items_more, items-inside, skip-part, word-empty, word_none, word_first)
