-- Words and strings in the data.
-- Assumes nothing.
use mathlib.Core.Path.{◌≡◌, refl, sym, ◌∙◌, ap}
use mathlib.Core.Bool.{Bool, true, false, ◌&&◌, and-true, and-false}
use mathlib.Core.List.{List, [], ◌∷◌}
use Rattle.std.specs.Prelude.{Option, None, Some}
use Rattle.std.proofs.Common.{Fits, w8}
use Rattle.std.specs.Bool.{then_some}
use Rattle.std.specs.List.{fold}
use Prim.Native.Nat.{ℕ, zero, suc, ◌+◌, ◌*◌, ◌-◌, ◌/◌, ◌%◌, ◌^◌, ◌≤◌, ◌<◌}
use native.Mathlib.Nat.{sub-zero, lt_of_lt_of_le, pow-le-pow_right}
use native.Mathlib.Numerals.{add-one}
use native.Mathlib.Omega.{arith}
use lib.Dec.{leb, eqb}
use lib.ListN.{length, take, drop, get_or, length-take, length-drop}
use lib.Seq.{take-suc, take-take, drop-drop, take_all, take-nil, get_or-take, get_or-drop}
use borrow.Author.Tests.{lt-ltb, le-ltb, eq-eqb, eqb-true, leb-true, le-leb, lt-leb}
use Rattle.kinds.specs.Bytes.{all, between, same}
use Rattle.kinds.specs.Kind.{bits, octets, is_bit_width, is_byte_length, int, uint, fixed_bytes, bool}
use Rattle.kinds.proofs.Logic.{left, right, both, same_equal}
use Rattle.encoding.specs.Words.{is_byte, word, whole_words}
use Rattle.encoding.specs.Judge.{be_value, all_are, sign_byte, is_word_of, when, word_at, has_word, tested, filled, string_at, leaf}
use Rattle.encoding.proofs.Words.{word_read, word-written}
use Rattle.encoding.proofs.Ranges.{same_test, be_append}
use Rattle.encoding.proofs.Stands.{bytes-at, long-at}
use Rattle.words.specs.Places.{capped}

pub width_bounds : (m : ℕ) → is_bit_width m ≡ true → (8 ≤ m) × (m ≤ 256)
width_bounds m h =
    let range : between 1 256 m ≡ true = left (eqb (m % 8) 0) h in
    (omega (arith, leb-true 1 m (left (leb m 256) range), eqb-true (m % 8) 0 (right (between 1 256 m) h)), leb-true m 256 (right (leb 1 m) range))

pub length_bounds : (m : ℕ) → is_byte_length m ≡ true → (1 ≤ m) × (m ≤ 32)
length_bounds m h = (leb-true 1 m (left _ h), leb-true m 32 (right (leb 1 m) h))

-- Numbers.

-- one more byte of a number that may be cut off
pub number-next : (s : List ℕ) (i v c r : ℕ) → i < length s → v ≡ capped (be_value (take i s)) → c ≡ get_or s i 0 → r ≡ capped (v * 256 + c)
    → r ≡ capped (be_value (take (i + 1) s))
number-next s i v c r h e f g =
    let more : be_value (take (i + 1) s) ≡ be_value (take i s) * 256 + get_or s i 0 = rw (add-one, take-suc s i 0 h, be_append) in
    omega (arith, more)

-- a slice is of bytes
all-bytes : (s : List ℕ) → ((i : ℕ) → get_or s i 0 < 256) → all is_byte s ≡ true
all-bytes [] f = refl
all-bytes (c ∷ s) f = both (lt-ltb c 256 (f 0)) (all-bytes s (λ i. f (suc i)))

number_word : (w : List ℕ) (n : ℕ) → length w ≡ 32 → all is_byte w ≡ true → n ≤ 65536 → eqb (capped (be_value w)) n ≡ same w (word n)
number_word w n long b small =
    let fits : n < 2 ^ 256 = let l : n < 2 ^ 17 = omega arith in lt_of_lt_of_le l (pow-le-pow_right {n = 2} (omega arith) {i = 17} {j = 256} (omega arith)) in
    same_test _ _
    (λ t. let e : be_value w ≡ n = omega (arith, eqb-true _ _ t) in (same_equal w (word n)).1 (sym (word-written w long b) ∙ ap word e))
    (λ t. let e : be_value w ≡ n = ap be_value ((same_equal w (word n)).0 t) ∙ word_read n fits in eq-eqb (capped (be_value w)) n (omega arith))

pub number_is : (d : List ℕ) (at n v : ℕ) → ((i : ℕ) → Fits w8 (get_or d i 0)) → at + 32 ≤ length d → n ≤ 65536 → v ≡ capped (be_value (word_at d at))
    → eqb v n ≡ (has_word d at && same (word_at d at) (word n))
number_is d at n v f room small e =
    let b = all-bytes d (λ i. let byte = f i in omega arith) in
    rw (le-leb (at + 32) (length d) room, e) (number_word (word_at d at) n (long-at d b 32 at room) (bytes-at d b 32 at) small)

-- Padding.

-- a test of each, without an early exit
folded : (p : ℕ → Bool) (b : Bool) (xs : List ℕ) → fold (λ a x. a && p x) b xs ≡ (b && all p xs)
folded p b [] = sym (and-true b)
folded p true (x ∷ xs) = folded p (p x) xs
folded p false (x ∷ xs) = folded p false xs

pub all_folded : (p : ℕ → Bool) (xs : List ℕ) (r : Bool) → r ≡ fold (λ a x. a && p x) true xs → r ≡ all p xs
all_folded p xs r e = e ∙ folded p true xs

drop-take : (p n : ℕ) (s : List ℕ) → p ≤ n → drop p (take n s) ≡ take (n - p) (drop p s)
drop-take zero n s h = ap (λ m. take m s) (sym (sub-zero n))
drop-take (suc p) zero s h = elim h [ ]
drop-take (suc p) (suc n) [] h = sym (take-nil (suc n - suc p))
drop-take (suc p) (suc n) (c ∷ s) h = let less : suc n - suc p ≡ n - p = omega arith in rw less (drop-take p n s (omega arith))

-- what `then_some` answers
then-when : (t : Bool) (e : ℕ) → then_some t e ≡ when t (Some e)
then-when true e = refl
then-when false e = refl

module _ (d : List ℕ) (at : ℕ) where
  byte-is : (n : ℕ) → n < 32 → get_or (word_at d at) n 0 ≡ get_or d (at + n) 0
  byte-is n h = rw (get_or-take 32 (drop at d) n 0 h, get_or-drop)

  module _ (r : Option ℕ) where
    pub word-short : (p : List ℕ → Bool) → length d < at + 32 → r ≡ None → r ≡ tested d p at
    unfolding tested
    word-short p h e = rw (lt-leb (at + 32) (length d) h) e

    pub word-padded : (p q c : ℕ) (t : Bool) → p ≤ q → q ≤ 32 → at + 32 ≤ length d
        → t ≡ all_are c (take (at + q - (at + p)) (drop (at + p) d)) → r ≡ then_some t (at + 32) → r ≡ tested d (λ w. all_are c (take (q - p) (drop p w))) at
    unfolding tested
    word-padded p q c t h k room e f =
        let size : at + q - (at + p) ≡ q - p = omega arith in
        let part : take (q - p) (drop p (word_at d at)) ≡ take (q - p) (drop (at + p) d)
        = rw (drop-take p 32 (drop at d) (omega arith), take-take (q - p) (32 - p) (drop p (drop at d)) (omega arith), drop-drop p at d) in
        f ∙ then-when t (at + 32) ∙ rw (le-leb (at + 32) (length d) room, part) (rw size at (ap (λ b. when b (Some (at + 32))) e))

    -- what was looked at is what the definition looks at
    pub word-same : (p q : List ℕ → Bool) → p (word_at d at) ≡ q (word_at d at) → r ≡ tested d p at → r ≡ tested d q at
    unfolding tested
    word-same p q e f = f ∙ ap (λ b. when (has_word d at && b) (Some (at + 32))) e

    pub int_padded : (m n c s : ℕ) → n ≡ 32 - m / 8 → n < 32 → c ≡ get_or d (at + n) 0 → s ≡ sign_byte c
        → r ≡ tested d (λ w. all_are s (take (n - 0) (drop 0 w))) at → r ≡ leaf d (int (bits m)) at
    unfolding leaf is_word_of
    int_padded m n c s e h f g = word-same _ _ (rw (sub-zero, ← e, byte-is n h, ← f, ← g) refl)

    pub uint-padded : (m n : ℕ) → n ≡ 32 - m / 8 → r ≡ tested d (λ w. all_are 0 (take (n - 0) (drop 0 w))) at → r ≡ leaf d (uint (bits m)) at
    unfolding leaf is_word_of
    uint-padded m n e = word-same _ _ (rw (sub-zero, e) refl)

    pub bytes-padded : (n : ℕ) → r ≡ tested d (λ w. all_are 0 (take (32 - n) (drop n w))) at → r ≡ leaf d (fixed_bytes (octets n)) at
    unfolding leaf is_word_of
    bytes-padded n =
        let long : length (drop n (word_at d at)) ≤ 32 - n = omega (arith, length-drop n (word_at d at), length-take 32 (drop at d)) in
        word-same _ _ (ap (all_are 0) (take_all (32 - n) (drop n (word_at d at)) long))

    module _ (c : ℕ) (f : c ≡ get_or d (at + 31) 0) where
      pub bool_padded : c ≤ 1 → r ≡ tested d (λ w. all_are 0 (take (31 - 0) (drop 0 w))) at → r ≡ leaf d bool at
      unfolding leaf is_word_of
      bool_padded h = word-same _ _ (rw (byte-is 31 (omega arith), ← f, lt-ltb c 2 (omega arith)) refl)

      pub bool_over : 1 < c → r ≡ None → r ≡ leaf d bool at
      unfolding leaf is_word_of tested
      bool_over h e = rw (byte-is 31 (omega arith), ← f, le-ltb c 2 (omega arith), and-false) e

-- Strings.

module _ (d : List ℕ) (at : ℕ) (h : length d ≤ 65536) (n m : ℕ) (e : n ≡ capped (be_value (word_at d at))) (f : m ≡ whole_words n) (r : Option ℕ) where
  -- a length that is cut off is longer than the data
  pub string_over : at + 32 ≤ length d → length d < at + 32 + m → r ≡ None → r ≡ string_at d at
  unfolding string_at filled
  string_over g k z = rw (le-leb (at + 32) (length d) g, lt-leb (at + 32 + whole_words (be_value (word_at d at))) (length d) (omega arith)) z

  pub string_padded : at + 32 + m ≤ length d → (t : Bool)
      → t ≡ all_are 0 (take (at + 32 + m - (at + 32 + n)) (drop (at + 32 + n) d)) → r ≡ then_some t (at + 32 + m) → r ≡ string_at d at
  unfolding string_at filled
  string_padded l t k g =
      let same : be_value (word_at d at) ≡ n = omega arith in
      let size : at + 32 + m - (at + 32 + n) ≡ whole_words n - n = omega arith in
      g ∙ then-when t (at + 32 + m) ∙ rw (le-leb (at + 32) (length d) (omega arith), same, ← f, le-leb (at + 32 + m) (length d) l, f, ← rw size at k) refl

pub string-short : (d : List ℕ) (at : ℕ) (r : Option ℕ) → length d < at + 32 → r ≡ None → r ≡ string_at d at
unfolding string_at
string-short d at r h e = rw (lt-leb (at + 32) (length d) h) e

pub ruleset parts = (word-short, word-padded)

pub ruleset words = (number-next, number_is, word-short, int_padded, uint-padded, bytes-padded, bool_padded, bool_over, string-short, string_over)
