-- Eight bytes at once: the bits that tell bytes of one class from others, and how many of the class come first.
-- Assumes nothing.
use mathlib.Core.Path.{◌≡◌, refl, sym, ◌∙◌, ap, ap₂}
use mathlib.Core.Bool.{Bool, true, false, ◌&&◌, ◌||◌, false≢true}
use mathlib.Core.List.{List, [], ◌∷◌, map}
use Prim.Native.Nat.{ℕ, zero, suc, ◌+◌, ◌*◌, ◌-◌, ◌/◌, ◌%◌, ◌^◌, ◌≤◌, ◌<◌}
use native.Mathlib.Omega.{arith}
use native.Mathlib.Decide.{dec_lt}
use lib.Dec.{leb, leb-zero, leb-suc-zero, leb-suc-suc, ltb, eqb}
use lib.Count.{count_trailing_zeros}
use lib.ListN.{length, take, drop, get_or, length-drop}
use lib.Seq.{length-take-le}
use lib.Bits.{bit_and, bit_or, and_block, or_block}
use borrow.Author.Tests.{le-leb, leb-true, ltb-true, eqb-true}
use Rattle.kinds.specs.Bytes.{all, between, is_letter}
use Rattle.kinds.proofs.Logic.{left, right, all_weaken}
use Rattle.model.specs.Layout.{little_endian, le_value, Bytes}
use Rattle.model.specs.Text.{span_from, span, one}
use Rattle.model.proofs.Scans.{span_le}
use Rattle.model.proofs.Pieces.{bytes_take, bytes_drop, le_length, le_bytes, le_read, le_written}
use Rattle.text.specs.Found.{is_alphabetic, is_plain, flag, flags}

-- a test of a byte, made at each number below a limit
abbrev below : ℕ → (ℕ → Bool) → Bool
below zero p = true
below (suc n) p = p n && below n p

below_at : (n : ℕ) (p : ℕ → Bool) → below n p ≡ true → (c : ℕ) → c < n → p c ≡ true
below_at zero p h c l = absurd (omega arith)
below_at (suc n) p h c l = elim (dec_lt c n) [ yes k ↦ below_at n p (right (p n) h) c k | no k ↦ same (omega arith) ]
  where
    same : c ≡ n → p c ≡ true
    same e = rw e (left _ h)

-- a function of bytes gives bytes: by its table
abbrev small : (ℕ → ℕ) → Type 0
small f = below 256 (λ c. ltb (f c) 256) ≡ true

-- bits of the lowest byte, and of the others
module _ (a b m n : ℕ) (h : a < 256) (k : m < 256) where
  and-digit : bit_and (a + 256 * b) (m + 256 * n) ≡ bit_and a m + 256 * bit_and b n
  and-digit =
      let x : a + 256 * b ≡ b * 2 ^ 8 + a = omega arith in
      let y : m + 256 * n ≡ n * 2 ^ 8 + m = omega arith in
      ap₂ bit_and x y ∙ and_block 8 b n a m h k ∙ omega arith

  or_digit : bit_or (a + 256 * b) (m + 256 * n) ≡ bit_or a m + 256 * bit_or b n
  or_digit =
      let x : a + 256 * b ≡ b * 2 ^ 8 + a = omega arith in
      let y : m + 256 * n ≡ n * 2 ^ 8 + m = omega arith in
      ap₂ bit_or x y ∙ or_block 8 b n a m h k ∙ omega arith

-- the number of the bytes that a function gives, byte by byte
abbrev each : (ℕ → ℕ) → List ℕ → ℕ
each f t = le_value (map f t)

first_byte : (c : ℕ) (t : List ℕ) → Bytes (c ∷ t) → (c < 256) × Bytes t
unfolding Bytes
first_byte c t h = (h 0, λ i. h (suc i))

-- each step of the code on such numbers is a step on their bytes
module _ (f g : ℕ → ℕ) where
  and-each : small f → small g → (t : List ℕ) → Bytes t → bit_and (each f t) (each g t) ≡ each (λ c. bit_and (f c) (g c)) t
  unfolding le_value
  and-each u v [] h = refl
  and-each u v (c ∷ t) h =
      let (k, l) = first_byte c t h in
      and-digit (f c) (each f t) (g c) (each g t) (ltb-true _ 256 (below_at 256 (λ x. ltb (f x) 256) u c k)) (ltb-true _ 256 (below_at 256 (λ x. ltb (g x) 256) v c k))
      ∙ ap (λ n. bit_and (f c) (g c) + 256 * n) (and-each u v t l)

  or_each : small f → small g → (t : List ℕ) → Bytes t → bit_or (each f t) (each g t) ≡ each (λ c. bit_or (f c) (g c)) t
  unfolding le_value
  or_each u v [] h = refl
  or_each u v (c ∷ t) h =
      let (k, l) = first_byte c t h in
      or_digit (f c) (each f t) (g c) (each g t) (ltb-true _ 256 (below_at 256 (λ x. ltb (f x) 256) u c k)) (ltb-true _ 256 (below_at 256 (λ x. ltb (g x) 256) v c k))
      ∙ ap (λ n. bit_or (f c) (g c) + 256 * n) (or_each u v t l)

  add-each : (t : List ℕ) → each f t + each g t ≡ each (λ c. f c + g c) t
  unfolding le_value
  add-each [] = refl
  add-each (c ∷ t) = omega (arith, add-each t)

  le_each : below 256 (λ c. leb (f c) (g c)) ≡ true → (t : List ℕ) → Bytes t → each f t ≤ each g t
  unfolding le_value
  le_each u [] h = omega arith
  le_each u (c ∷ t) h =
      let (k, l) = first_byte c t h in
      omega (arith, le_each u t l, leb-true (f c) (g c) (below_at 256 (λ x. leb (f x) (g x)) u c k))

  same-each : below 256 (λ c. eqb (f c) (g c)) ≡ true → (t : List ℕ) → Bytes t → each f t ≡ each g t
  unfolding le_value
  same-each u [] h = refl
  same-each u (c ∷ t) h =
      let (k, l) = first_byte c t h in
      ap₂ (λ x y. x + 256 * y) (eqb-true (f c) (g c) (below_at 256 (λ x. eqb (f x) (g x)) u c k)) (same-each u t l)

sub_each : (f g : ℕ → ℕ) → below 256 (λ c. leb (g c) (f c)) ≡ true → (t : List ℕ) → Bytes t → each f t - each g t ≡ each (λ c. f c - g c) t
unfolding le_value
sub_each f g u [] h = refl
sub_each f g u (c ∷ t) h =
    let (k, l) = first_byte c t h in
    omega (arith, sub_each f g u t l, le_each g f u t l, leb-true (g c) (f c) (below_at 256 (λ x. leb (g x) (f x)) u c k))

each-itself : (t : List ℕ) → le_value t ≡ each (λ c. c) t
unfolding le_value
each-itself [] = refl
each-itself (c ∷ t) = ap (λ n. c + 256 * n) (each-itself t)

each-flag : (p : ℕ → Bool) (t : List ℕ) → each (flag p) t ≡ flags p t
unfolding le_value flags
each-flag p [] = refl
each-flag p (c ∷ t) = ap (λ n. flag p c + 256 * n) (each-flag p t)

-- what the code's steps make of one byte. A letter: the bit of 32 set and that of 128 not
abbrev lowered : ℕ → ℕ
lowered c = bit_or (bit_and c 127) 32

abbrev unlettered : ℕ → ℕ
unlettered c = bit_and (bit_or (bit_or c (lowered c + 5)) (224 - lowered c)) 128

-- a byte of a run
abbrev stopped : ℕ → ℕ
stopped c = bit_and (bit_or c (172 - bit_and c 127)) 128

unlettered-table : below 256 (λ c. eqb (unlettered c) (flag is_alphabetic c)) ≡ true
unfolding flag
unlettered-table = refl

stopped-table : below 256 (λ c. eqb (stopped c) (flag is_plain c)) ≡ true
unfolding flag
stopped-table = refl

-- a number of eight bytes
module _ (v : ℕ) (h : v < 18446744073709551616) where
  abbrev on : (ℕ → ℕ) → ℕ
  on f = each f (little_endian 8 v)

  its : Bytes (little_endian 8 v)
  its = le_bytes 8 v

  itself : v ≡ on (λ c. c)
  itself = sym (le_read 8 v h) ∙ each-itself (little_endian 8 v)

  -- the same byte eight times
  constant : (k : ℕ) → k + 256 * (k + 256 * (k + 256 * (k + 256 * (k + 256 * (k + 256 * (k + 256 * (k + 256 * 0))))))) ≡ on (λ _. k)
  unfolding le_value little_endian
  constant k = refl

  masked : bit_and v 0x7F7F7F7F7F7F7F7F ≡ on (λ c. bit_and c 127)
  masked = ap₂ bit_and itself (constant 127) ∙ and-each (λ c. c) (λ _. 127) refl refl _ its

  lowered-on : bit_or (bit_and v 0x7F7F7F7F7F7F7F7F) 0x2020202020202020 ≡ on lowered
  lowered-on = ap₂ bit_or masked (constant 32) ∙ or_each (λ c. bit_and c 127) (λ _. 32) refl refl _ its

  pub others-room : bit_or (bit_and v 0x7F7F7F7F7F7F7F7F) 0x2020202020202020 ≤ 0x7F7F7F7F7F7F7F7F
  others-room = omega (arith, lowered-on, constant 127, le_each lowered (λ _. 127) refl _ its)

  pub stops-room : bit_and v 0x7F7F7F7F7F7F7F7F ≤ 0x7F7F7F7F7F7F7F7F
  stops-room = omega (arith, masked, constant 127, le_each (λ c. bit_and c 127) (λ _. 127) refl _ its)

  pub others_are : bit_and (bit_or (bit_or v (bit_or (bit_and v 0x7F7F7F7F7F7F7F7F) 0x2020202020202020 + 0x0505050505050505)) (0xE0E0E0E0E0E0E0E0 - bit_or (bit_and v 0x7F7F7F7F7F7F7F7F) 0x2020202020202020)) 0x8080808080808080 ≡ flags is_alphabetic (little_endian 8 v)
  others_are =
      let a : bit_or (bit_and v 0x7F7F7F7F7F7F7F7F) 0x2020202020202020 + 0x0505050505050505 ≡ on (λ c. lowered c + 5) = ap₂ ◌+◌ lowered-on (constant 5) ∙ add-each lowered (λ _. 5) (little_endian 8 v) in
      let b : 0xE0E0E0E0E0E0E0E0 - bit_or (bit_and v 0x7F7F7F7F7F7F7F7F) 0x2020202020202020 ≡ on (λ c. 224 - lowered c) = ap₂ ◌-◌ (constant 224) lowered-on ∙ sub_each (λ _. 224) lowered refl _ its in
      let d = ap₂ bit_or itself a ∙ or_each (λ c. c) (λ c. lowered c + 5) refl refl _ its in
      let e = ap₂ bit_or d b ∙ or_each (λ c. bit_or c (lowered c + 5)) (λ c. 224 - lowered c) refl refl _ its in
      ap₂ bit_and e (constant 128)
      ∙ and-each (λ c. bit_or (bit_or c (lowered c + 5)) (224 - lowered c)) (λ _. 128) refl refl _ its
      ∙ same-each unlettered (flag is_alphabetic) unlettered-table _ its
      ∙ each-flag is_alphabetic _

  pub stops_are : bit_and (bit_or v (0xACACACACACACACAC - bit_and v 0x7F7F7F7F7F7F7F7F)) 0x8080808080808080 ≡ flags is_plain (little_endian 8 v)
  stops_are =
      let b : 0xACACACACACACACAC - bit_and v 0x7F7F7F7F7F7F7F7F ≡ on (λ c. 172 - bit_and c 127) = ap₂ ◌-◌ (constant 172) masked ∙ sub_each (λ _. 172) (λ c. bit_and c 127) refl _ its in
      let e = ap₂ bit_or itself b ∙ or_each (λ c. c) (λ c. 172 - bit_and c 127) refl refl _ its in
      ap₂ bit_and e (constant 128)
      ∙ and-each (λ c. bit_or c (172 - bit_and c 127)) (λ _. 128) refl refl _ its
      ∙ same-each stopped (flag is_plain) stopped-table _ its
      ∙ each-flag is_plain _

-- zeros at the end of a number, bit by bit
module _ (k n m : ℕ) where
  zeros_even : n ≡ 2 * m → count_trailing_zeros (suc k) n ≡ suc (count_trailing_zeros k m)
  unfolding count_trailing_zeros
  zeros_even e =
      let x : n % 2 ≡ 0 = omega arith in
      let y : n / 2 ≡ m = omega arith in
      rw (count_trailing_zeros, x, y)

  zeros_odd : n ≡ 2 * m + 1 → count_trailing_zeros (suc k) n ≡ 0
  unfolding count_trailing_zeros
  zeros_odd e =
      let x : n % 2 ≡ 1 = omega arith in
      rw (count_trailing_zeros, x)

-- the bits of n bytes
abbrev bits : ℕ → ℕ
bits zero = zero
bits (suc n) = suc (suc (suc (suc (suc (suc (suc (suc (bits n))))))))

module _ (k r : ℕ) where
  byte_clear : count_trailing_zeros (suc (suc (suc (suc (suc (suc (suc (suc k)))))))) (0 + 256 * r) ≡ 8 + count_trailing_zeros k r
  byte_clear =
      zeros_even _ _ (128 * r) (omega arith)
      ∙ ap suc (zeros_even _ _ (64 * r) (omega arith)
      ∙ ap suc (zeros_even _ _ (32 * r) (omega arith)
      ∙ ap suc (zeros_even _ _ (16 * r) (omega arith)
      ∙ ap suc (zeros_even _ _ (8 * r) (omega arith)
      ∙ ap suc (zeros_even _ _ (4 * r) (omega arith)
      ∙ ap suc (zeros_even _ _ (2 * r) (omega arith)
      ∙ ap suc (zeros_even _ _ r (omega arith))))))))
      ∙ omega arith

  byte-set : count_trailing_zeros (suc (suc (suc (suc (suc (suc (suc (suc k)))))))) (128 + 256 * r) ≡ 7
  byte-set =
      zeros_even _ _ (64 + 128 * r) (omega arith)
      ∙ ap suc (zeros_even _ _ (32 + 64 * r) (omega arith)
      ∙ ap suc (zeros_even _ _ (16 + 32 * r) (omega arith)
      ∙ ap suc (zeros_even _ _ (8 + 16 * r) (omega arith)
      ∙ ap suc (zeros_even _ _ (4 + 8 * r) (omega arith)
      ∙ ap suc (zeros_even _ _ (2 + 4 * r) (omega arith)
      ∙ ap suc (zeros_even _ _ (1 + 2 * r) (omega arith)
      ∙ ap suc (zeros_odd _ _ r (omega arith))))))))

module _ (p : ℕ → Bool) where
  flag_by : (c : ℕ) (b : Bool) → p c ≡ b → flag p c ≡ elim b [ true ↦ 0 | false ↦ 128 ]
  unfolding flag
  flag_by c b q = ap (λ x. elim x as (λ _. ℕ) [ true ↦ 0 | false ↦ 128 ]) q

  -- how far a class reaches, by the zeros
  abbrev leading : List ℕ → ℕ
  leading t = count_trailing_zeros (bits (length t)) (flags p t) / 8

  leading-span : (t : List ℕ) → leading t ≡ span (one p) t
  unfolding flags span_from count_trailing_zeros
  leading-span [] = refl
  leading-span (c ∷ t) = go (p c) refl (leading-span t)
    where
      count : (x : ℕ) → flag p c ≡ x → leading (c ∷ t) ≡ count_trailing_zeros (bits (suc (length t))) (x + 256 * flags p t) / 8
      count x e = ap (λ y. count_trailing_zeros (bits (suc (length t))) (y + 256 * flags p t) / 8) e

      go : (b : Bool) → p c ≡ b → leading t ≡ span (one p) t → leading (c ∷ t) ≡ span (one p) (c ∷ t)
      go true q h =
          let e : leading (c ∷ t) ≡ suc (leading t) = count 0 (flag_by c true q) ∙ omega (arith, byte_clear (bits (length t)) (flags p t)) in
          e ∙ rw (span_from, q) (ap suc h)
      go false q h =
          let e : leading (c ∷ t) ≡ 0 = count 128 (flag_by c false q) ∙ omega (arith, byte-set (bits (length t)) (flags p t)) in
          e ∙ rw (span_from, q)

  -- they reach at least n bytes exactly when the first n are of the class
  pub span-front : (n : ℕ) (t : List ℕ) → n ≤ length t → leb n (span (one p) t) ≡ all p (take n t)
  unfolding span_from
  span-front zero t h = leb-zero (span (one p) t)
  span-front (suc n) [] h = absurd (omega arith)
  span-front (suc n) (c ∷ t) h = go (p c) refl (span-front n t (omega arith))
    where
      go : (b : Bool) → p c ≡ b → leb n (span (one p) t) ≡ all p (take n t) → leb (suc n) (span (one p) (c ∷ t)) ≡ all p (take (suc n) (c ∷ t))
      go true e i = rw (span_from, e, leb-suc-suc n (span (one p) t)) i
      go false e i = rw (span_from, e, leb-suc-zero n)

  pub span-all : (t : List ℕ) → all p (take (span (one p) t) t) ≡ true
  span-all t = sym (span-front (span (one p) t) t (span_le (one p) t)) ∙ le-leb (span (one p) t) (span (one p) t) (omega arith)

  -- how many of eight bytes of a part come first, where c comes of the zeros of their flags f
  module _ (t : List ℕ) (at v f c : ℕ) where
    eight_back : Bytes t → at + 8 ≤ length t → v ≡ le_value (take 8 (drop at t)) → little_endian 8 v ≡ take 8 (drop at t)
    eight_back b h e =
        let l : length (take 8 (drop at t)) ≡ 8 = length-take-le 8 (drop at t) (rw length-drop (omega arith)) in
        rw e (rw l at (le_written (take 8 (drop at t)) (bytes_take 8 _ (bytes_drop at t b))))

    pub lead_span : Bytes t → at + 8 ≤ length t → v ≡ le_value (take 8 (drop at t)) → f ≡ flags p (little_endian 8 v) → c ≡ count_trailing_zeros 64 f / 8 → c ≡ span (one p) (take 8 (drop at t))
    lead_span b h e g q =
        let m : bits (length (little_endian 8 v)) ≡ 64 = rw (le_length 8 v) in
        q ∙ ap (λ y. y / 8) (ap₂ count_trailing_zeros (sym m) g) ∙ leading-span (little_endian 8 v) ∙ ap (span (one p)) (eight_back b h e)

-- a letter, by the two ranges
ranged : (x y z : Bool) → (x || y) ≡ true → (x || (y || z)) ≡ true
ranged true y z h = refl
ranged false true z h = refl
ranged false false z h = absurd (false≢true h)

pub alphabetic : (t : List ℕ) → all is_alphabetic t ≡ true → all is_letter t ≡ true
alphabetic t h = all_weaken is_alphabetic is_letter (λ c q. ranged (between 97 122 c) (between 65 90 c) _ q) t h

pub known_bytes : (t : List ℕ) → ((i : ℕ) → get_or t i 0 < 256) → Bytes t
unfolding Bytes
known_bytes t h = h

pub ruleset eights = (others-room, others_are, stops-room, stops_are)
