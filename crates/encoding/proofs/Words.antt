-- Numbers in big-endian bytes, written and read.
-- Assumes nothing.
use mathlib.Core.Path.{◌≡◌, refl, ◌∙◌}
use mathlib.Core.Bool.{true}
use mathlib.Core.List.{List, [], ◌∷◌, ◌++◌, append_assoc, append-nil}
use Prim.Native.Nat.{ℕ, zero, suc, ◌+◌, ◌*◌, ◌/◌, ◌%◌, ◌^◌, ◌<◌}
use native.Mathlib.Nat.{pow-succ', add-zero}
use native.Mathlib.Omega.{arith}
use lib.ListN.{length, length-append}
use borrow.Author.Tests.{ltb-true, lt-ltb}
use Rattle.kinds.specs.Bytes.{all}
use Rattle.encoding.specs.Words.{is_byte, big_endian, word}
use Rattle.encoding.specs.Judge.{be_from, be_value}
use Rattle.kinds.proofs.Logic.{both, left, right, all_append}

pub be_length : (n v : ℕ) → length (big_endian n v) ≡ n
unfolding big_endian
be_length zero v = refl
be_length (suc n) v = simp (length-append, be_length n (v / 256)) (omega arith)

be_last : (v : ℕ) (s : List ℕ) (c : ℕ) → be_from v (s ++ (c ∷ [])) ≡ be_from v s * 256 + c
be_last v [] c = refl
be_last v (x ∷ s) c = be_last (v * 256 + x) s c

pub be_read : (n v : ℕ) → v < 256 ^ n → be_value (big_endian n v) ≡ v
unfolding big_endian
be_read zero v h = omega arith
be_read (suc n) v h = rw (be_last 0 (big_endian n (v / 256)) (v % 256), be_read n (v / 256) (omega (arith, pow-succ' 256 n))) (omega arith)

be_more : (k v : ℕ) (s : List ℕ) → all is_byte s ≡ true → big_endian (k + length s) (be_from v s) ≡ big_endian k v ++ s
unfolding big_endian
be_more k v [] h = rw (append-nil, add-zero)
be_more k v (c ∷ s) h =
    let small : c < 256 = ltb-true c 256 (left _ h) in
    let more : k + suc (length s) ≡ suc k + length s = omega arith in
    let high : (v * 256 + c) / 256 ≡ v = omega arith in
    let low : (v * 256 + c) % 256 ≡ c = omega arith in
    rw more (be_more (suc k) (v * 256 + c) s (right (is_byte c) h) ∙ (rw (high, low, append_assoc)))

pub be_written : (s : List ℕ) → all is_byte s ≡ true → big_endian (length s) (be_value s) ≡ s
unfolding big_endian
be_written s h = let zero : 0 + length s ≡ length s = omega arith in rw zero at (be_more 0 0 s h)

pub be_below : (k v : ℕ) (s : List ℕ) → v < 256 ^ k → all is_byte s ≡ true → be_from v s < 256 ^ (k + length s)
be_below k v [] h i = rw add-zero h
be_below k v (c ∷ s) h i =
    let small : c < 256 = ltb-true c 256 (left _ i) in
    let more : k + suc (length s) ≡ suc k + length s = omega arith in
    rw more (be_below (suc k) (v * 256 + c) s (omega (arith, pow-succ' 256 k)) (right (is_byte c) i))

pub be_bytes : (n v : ℕ) → all is_byte (big_endian n v) ≡ true
unfolding big_endian
be_bytes zero v = refl
be_bytes (suc n) v = rw all_append (both (be_bytes n (v / 256)) (both (lt-ltb (v % 256) 256 (omega arith)) refl))

-- words
pub word-length : (v : ℕ) → length (word v) ≡ 32
unfolding word
word-length v = be_length 32 v

pub word_bytes : (v : ℕ) → all is_byte (word v) ≡ true
unfolding word
word_bytes v = be_bytes 32 v

pub word_read : (v : ℕ) → v < 2 ^ 256 → be_value (word v) ≡ v
unfolding word
word_read v h = be_read 32 v h

pub word-written : (s : List ℕ) → length s ≡ 32 → all is_byte s ≡ true → word (be_value s) ≡ s
unfolding word
word-written s e h = rw e at (be_written s h)

pub word_below : (s : List ℕ) → length s ≡ 32 → all is_byte s ≡ true → be_value s < 2 ^ 256
word_below s e h = let z : 0 + length s ≡ 32 = omega arith in rw z at (be_below 0 0 s (omega arith) h)
