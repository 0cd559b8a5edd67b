-- The bytes of a word by which the number that it stands for is below a limit.
-- Assumes nothing.
use mathlib.Core.Path.{◌≡◌, refl, sym, ◌∙◌, ap}
use mathlib.Core.Logic.{◌↔◌}
use mathlib.Core.Bool.{Bool, true, false, ◌&&◌, ◌||◌}
use mathlib.Core.List.{List, [], ◌∷◌, ◌++◌}
use Prim.Native.Nat.{ℕ, zero, suc, ◌+◌, ◌*◌, ◌-◌, ◌/◌, ◌%◌, ◌^◌, ◌≤◌, ◌<◌}
use native.Mathlib.Nat.{pow-suc, pow-succ', mul_assoc, mul-le-mul_right, mul-one, one-mul, lt_of_lt_of_le, lt_of_le_of_lt}
use native.Mathlib.Omega.{arith}
use native.Mathlib.Decide.{dec_lt}
use lib.Dec.{leb, ltb, eqb}
use lib.ListN.{length, take, drop, get_or, length-drop, take-append-drop}
use lib.Seq.{take-suc}
use borrow.Author.Tests.{ltb-true, lt-ltb, le-ltb, ltb-false, leb-true, le-leb, eqb-true, eq-eqb}
use Rattle.kinds.specs.Bytes.{all, between}
use Rattle.kinds.specs.Kind.{is_bit_width}
use Rattle.encoding.specs.Words.{is_byte}
use Rattle.encoding.specs.Judge.{be_from, be_value, all_are, sign_byte}
use Rattle.kinds.proofs.Logic.{both, left, right, all_append}

-- tests that hold together are one
pub same_test : (a b : Bool) → (a ≡ true → b ≡ true) → (b ≡ true → a ≡ true) → a ≡ b
same_test true true f g = refl
same_test true false f g = sym (f refl)
same_test false true f g = g refl
same_test false false f g = refl

pub be_append : (v : ℕ) (p q : List ℕ) → be_from v (p ++ q) ≡ be_from (be_from v p) q
be_append v [] q = refl
be_append v (c ∷ p) q = be_append (v * 256 + c) p q

-- one byte more, with the power as a number of its own
step-low : (v c P x : ℕ) → v * (256 * P) ≡ v * 256 * P → v * 256 * P ≤ (v * 256 + c) * P → (v * 256 + c) * P ≤ x → v * (256 * P) ≤ x
step-low v c P x e h k = omega arith

pub be_low : (v : ℕ) (s : List ℕ) → v * 256 ^ length s ≤ be_from v s
be_low v [] = omega (arith, mul-one v)
be_low v (c ∷ s) =
    let P : ℕ = 256 ^ length s in
    rw (pow-succ' 256 (length s))
    (step-low v c P (be_from (v * 256 + c) s) (sym (mul_assoc v 256 P)) (mul-le-mul_right P (omega arith)) (be_low (v * 256 + c) s))

step-high : (v c P x : ℕ) → x < (v * 256 + c + 1) * P → (v * 256 + c + 1) * P ≤ (v + 1) * 256 * P → (v + 1) * (256 * P) ≡ (v + 1) * 256 * P → x < (v + 1) * (256 * P)
step-high v c P x h k e = omega arith

be_high : (v : ℕ) (s : List ℕ) → all is_byte s ≡ true → be_from v s < (v + 1) * 256 ^ length s
be_high v [] h = omega (arith, mul-one (v + 1))
be_high v (c ∷ s) h =
    let P : ℕ = 256 ^ length s in
    let small : c < 256 = ltb-true c 256 (left _ h) in
    rw (pow-succ' 256 (length s))
    (step-high v c P (be_from (v * 256 + c) s) (be_high (v * 256 + c) s (right (is_byte c) h)) (mul-le-mul_right P (omega arith)) (sym (mul_assoc (v + 1) 256 P)))

-- front bytes that stand for v: v is below a exactly where the whole is below a times the power of what is behind
be_range : (a v : ℕ) (s : List ℕ) → all is_byte s ≡ true → (be_from v s < a * 256 ^ length s) ↔ (v < a)
be_range a v s h = (to, λ l. lt_of_lt_of_le (be_high v s h) (mul-le-mul_right (256 ^ length s) (omega arith)))
  where
    to : be_from v s < a * 256 ^ length s → v < a
    to l = elim (dec_lt v a) [ yes y ↦ y | no y ↦ absurd (contra (lt_of_le_of_lt (be_low v s) l) (mul-le-mul_right (256 ^ length s) (omega arith))) ]
      where
        contra : {x y : ℕ} → x < y → y ≤ x → ⊥
        contra p q = omega arith

parted : (a : ℕ) (p s : List ℕ) → all is_byte s ≡ true → ltb (be_value (p ++ s)) (a * 256 ^ length s) ≡ ltb (be_value p) a
parted a p s h =
    rw (be_append 0 p s)
    (same_test _ _
    (λ e. lt-ltb _ _ ((be_range a (be_value p) s h).0 (ltb-true _ _ e)))
    (λ e. lt-ltb _ _ ((be_range a (be_value p) s h).1 (ltb-true _ _ e))))

-- zeros
be_zeros : (s : List ℕ) → all_are 0 s ≡ true → be_value s ≡ 0
be_zeros [] h = refl
be_zeros (c ∷ s) h = rw (eqb-true c 0 (left _ h)) (be_zeros s (right (eqb c 0) h))

zeros_be : (v : ℕ) (s : List ℕ) → be_from v s ≡ 0 → (v ≡ 0) × (all_are 0 s ≡ true)
zeros_be v [] e = (e, refl)
zeros_be v (c ∷ s) e = let (f, g) = zeros_be (v * 256 + c) s e in (omega arith, both (eq-eqb c 0 (omega arith)) g)

pub none_but_zeros : (s : List ℕ) → ltb (be_value s) 1 ≡ all_are 0 s
none_but_zeros s =
    same_test _ _
    (λ e. (zeros_be 0 s (omega (arith, ltb-true (be_value s) 1 e))).1)
    (λ e. lt-ltb (be_value s) 1 (omega (arith, be_zeros s e)))

pub part_bytes : (n : ℕ) (s : List ℕ) → all is_byte s ≡ true → (all is_byte (take n s) ≡ true) × (all is_byte (drop n s) ≡ true)
part_bytes n s h = let e = sym (all_append is_byte (take n s) (drop n s)) ∙ ap (all is_byte) (take-append-drop n s) ∙ h in (left _ e, right (all is_byte (take n s)) e)

be_last : (v : ℕ) (s : List ℕ) (c : ℕ) → be_from v (s ++ (c ∷ [])) ≡ be_from v s * 256 + c
be_last v [] c = refl
be_last v (x ∷ s) c = be_last (v * 256 + x) s c

module _ (w : List ℕ) (b : all is_byte w ≡ true) (n k : ℕ) where
  -- n bytes of zero in front of k others
  pub zeros_below : n + k ≡ length w → ltb (be_value w) (256 ^ k) ≡ all_are 0 (take n w)
  zeros_below e =
      let size : length (drop n w) ≡ k = omega (arith, length-drop n w) in
      let whole : take n w ++ drop n w ≡ w = take-append-drop n w in
      let r : ltb (be_value w) (1 * 256 ^ k) ≡ ltb (be_value (take n w)) 1 = rw (whole, size) at (parted 1 (take n w) (drop n w) (part_bytes n w b).1) in
      rw one-mul at r ∙ none_but_zeros (take n w)

  -- the same, and a byte below a between them
  pub front_below : (a : ℕ) → a ≤ 256 → n + suc k ≡ length w → ltb (be_value w) (a * 256 ^ k) ≡ (all_are 0 (take n w) && ltb (get_or w n 0) a)
  front_below a small e =
      let size : length (drop (suc n) w) ≡ k = omega (arith, length-drop (suc n) w) in
      let whole : take (suc n) w ++ drop (suc n) w ≡ w = take-append-drop (suc n) w in
      let r : ltb (be_value w) (a * 256 ^ k) ≡ ltb (be_value (take (suc n) w)) a = rw (whole, size) at (parted a (take (suc n) w) (drop (suc n) w) (part_bytes (suc n) w b).1) in
      let q : List ℕ = take n w in
      let c : ℕ = get_or w n 0 in
      let f : be_value (take (suc n) w) ≡ be_value q * 256 + c = ap be_value (take-suc w n 0 (omega arith)) ∙ be_last 0 q c in
      r ∙ ap (λ x. ltb x a) f
      ∙ same_test _ _
      (λ t. let h : be_value q * 256 + c < a = ltb-true _ _ t in both (sym (none_but_zeros q) ∙ lt-ltb (be_value q) 1 (omega arith)) (lt-ltb c a (omega arith)))
      (λ t. let z : be_value q ≡ 0 = be_zeros q (left _ t) in lt-ltb (be_value q * 256 + c) a (omega (arith, ltb-true c a (right (all_are 0 q) t))))

-- every bit turned
abbrev flipped : List ℕ → List ℕ
flipped [] = []
flipped (c ∷ s) = (255 - c) ∷ flipped s

flipped-bytes : (s : List ℕ) → all is_byte (flipped s) ≡ true
flipped-bytes [] = refl
flipped-bytes (c ∷ s) = both (lt-ltb (255 - c) 256 (omega arith)) (flipped-bytes s)

flipped-length : (s : List ℕ) → length (flipped s) ≡ length s
flipped-length [] = refl
flipped-length (c ∷ s) = ap suc (flipped-length s)

flipped-take : (n : ℕ) (s : List ℕ) → take n (flipped s) ≡ flipped (take n s)
flipped-take zero s = refl
flipped-take (suc n) [] = refl
flipped-take (suc n) (c ∷ s) = ap (λ x. (255 - c) ∷ x) (flipped-take n s)

flipped-at : (s : List ℕ) (n : ℕ) → n < length s → get_or (flipped s) n 0 ≡ 255 - get_or s n 0
flipped-at [] n h = absurd (omega arith)
flipped-at (c ∷ s) zero h = refl
flipped-at (c ∷ s) (suc n) h = flipped-at s n (omega arith)

flipped_zeros : (s : List ℕ) → all is_byte s ≡ true → all_are 0 (flipped s) ≡ all_are 255 s
flipped_zeros [] h = refl
flipped_zeros (c ∷ s) h =
    let small : c < 256 = ltb-true c 256 (left _ h) in
    let f : eqb (255 - c) 0 ≡ eqb c 255 = same_test _ _ (λ e. eq-eqb c 255 (omega (arith, eqb-true (255 - c) 0 e))) (λ e. eq-eqb (255 - c) 0 (omega (arith, eqb-true c 255 e))) in
    rw (f, flipped_zeros s (right (is_byte c) h))

flip_step : (v u c P x : ℕ) → c < 256 → x ≡ (v * 256 + c + (u * 256 + (255 - c)) + 1) * P → (v + u + 1) * (256 * P) ≡ (v + u + 1) * 256 * P → x ≡ (v + u + 1) * (256 * P)
flip_step v u c P x h e f =
    let g : v * 256 + c + (u * 256 + (255 - c)) + 1 ≡ (v + u + 1) * 256 = omega arith in
    e ∙ ap (λ y. y * P) g ∙ sym f

be_flipped : (v u : ℕ) (s : List ℕ) → all is_byte s ≡ true → be_from v s + be_from u (flipped s) + 1 ≡ (v + u + 1) * 256 ^ length s
be_flipped v u [] h = omega (arith, mul-one (v + u + 1))
be_flipped v u (c ∷ s) h =
    let P : ℕ = 256 ^ length s in
    rw (pow-succ' 256 (length s))
    (flip_step v u c P _ (ltb-true c 256 (left _ h)) (be_flipped (v * 256 + c) (u * 256 + (255 - c)) s (right (is_byte c) h)) (sym (mul_assoc (v + u + 1) 256 P)))

above-is-below : (top m x y : ℕ) → m ≤ top → x + y + 1 ≡ top → leb (top - m) x ≡ ltb y m
above-is-below top m x y h e = same_test _ _ (λ t. lt-ltb y m (omega (arith, leb-true (top - m) x t))) (λ t. le-leb (top - m) x (omega (arith, ltb-true y m t)))

either : (p q : Bool) (c : ℕ) → c < 256 → ((p && ltb c 128) || (q && ltb (255 - c) 128)) ≡ elim (ltb c 128) [ true ↦ p | false ↦ q ]
either p q c h = go (ltb c 128) refl
  where
    go : (t : Bool) → ltb c 128 ≡ t → ((p && t) || (q && ltb (255 - c) 128)) ≡ elim t [ true ↦ p | false ↦ q ]
    go true e = rw (le-ltb (255 - c) 128 (omega (arith, ltb-true c 128 e))) (one p q)
      where
        one : (p q : Bool) → ((p && true) || (q && false)) ≡ p
        one true q = refl
        one false true = refl
        one false false = refl
    go false e = rw (lt-ltb (255 - c) 128 (omega (arith, ltb-false c 128 e))) (one p q)
      where
        one : (p q : Bool) → ((p && false) || (q && true)) ≡ q
        one true true = refl
        one true false = refl
        one false true = refl
        one false false = refl

chosen : (c : ℕ) (s : List ℕ) → elim (ltb c 128) [ true ↦ all_are 0 s | false ↦ all_are 255 s ] ≡ all_are (sign_byte c) s
unfolding sign_byte
chosen c s = go (ltb c 128) refl
  where
    go : (t : Bool) → ltb c 128 ≡ t → elim t [ true ↦ all_are 0 s | false ↦ all_are 255 s ] ≡ all_are (sign_byte c) s
    go true e = rw (sign_byte, e)
    go false e = rw (sign_byte, e)

byte_at : (s : List ℕ) (n : ℕ) → all is_byte s ≡ true → get_or s n 0 < 256
byte_at [] n h = omega arith
byte_at (c ∷ s) zero h = ltb-true c 256 (left _ h)
byte_at (c ∷ s) (suc n) h = byte_at s n (right (is_byte c) h)

-- the sign repeated: n bytes in front of a number of 1 + k
pub sign_repeated : (w : List ℕ) → all is_byte w ≡ true → length w ≡ 32 → (n k : ℕ) → n + suc k ≡ 32 → 128 * 256 ^ k ≤ 2 ^ 256
    → (ltb (be_value w) (128 * 256 ^ k) || leb (2 ^ 256 - 128 * 256 ^ k) (be_value w)) ≡ all_are (sign_byte (get_or w n 0)) (take n w)
sign_repeated w b long n k e small =
    let low = front_below w b n k 128 (omega arith) (omega arith) in
    let sum : be_value w + be_value (flipped w) + 1 ≡ 2 ^ 256 = rw long at (be_flipped 0 0 w b) in
    let size : n + suc k ≡ length (flipped w) = omega (arith, flipped-length w) in
    let high = above-is-below (2 ^ 256) (128 * 256 ^ k) (be_value w) (be_value (flipped w)) small sum ∙ front_below (flipped w) (flipped-bytes w) n k 128 (omega arith) size in
    let turned : all_are 0 (take n (flipped w)) ≡ all_are 255 (take n w) = ap (all_are 0) (flipped-take n w) ∙ flipped_zeros (take n w) (part_bytes n w b).0 in
    rw (low, high, turned, flipped-at w n (omega arith)) (either (all_are 0 (take n w)) (all_are 255 (take n w)) (get_or w n 0) (byte_at w n b) ∙ chosen (get_or w n 0) (take n w))

-- widths
two_eight : (x : ℕ) → 2 ^ (8 + x) ≡ 256 * 2 ^ x
two_eight x =
    let e : 8 + x ≡ suc (suc (suc (suc (suc (suc (suc (suc x))))))) = omega arith in
    rw (e, pow-suc, pow-suc, pow-suc, pow-suc, pow-suc, pow-suc, pow-suc, pow-suc) (omega arith)

two_seven : (x : ℕ) → 2 ^ (7 + x) ≡ 128 * 2 ^ x
two_seven x =
    let e : 7 + x ≡ suc (suc (suc (suc (suc (suc (suc x)))))) = omega arith in
    rw (e, pow-suc, pow-suc, pow-suc, pow-suc, pow-suc, pow-suc, pow-suc) (omega arith)

two_bytes : (k : ℕ) → 2 ^ (8 * k) ≡ 256 ^ k
two_bytes zero = refl
two_bytes (suc k) = let e : 8 * suc k ≡ 8 + 8 * k = omega arith in rw (e, two_eight (8 * k), pow-succ' 256 k, two_bytes k)

-- a bit width is 8 times a number of bytes from 1 to 32
pub record Octets (m : ℕ) : Type 0 where
  pub k : ℕ
  pub bytes : m / 8 ≡ suc k
  pub most : k < 32
  pub whole : 2 ^ m ≡ 256 ^ suc k
  pub half : 2 ^ (m - 1) ≡ 128 * 256 ^ k

pub octets-of : (m : ℕ) → is_bit_width m ≡ true → Octets m
octets-of m h =
    let range = left (eqb (m % 8) 0) h in
    let low : 1 ≤ m = leb-true 1 m (left _ range) in
    let high : m ≤ 256 = leb-true m 256 (right (leb 1 m) range) in
    let even : m % 8 ≡ 0 = eqb-true (m % 8) 0 (right (between 1 256 m) h) in
    let k : ℕ = m / 8 - 1 in
    let one : m ≡ 8 * suc k = omega arith in
    let other : m - 1 ≡ 7 + 8 * k = omega arith in
    record {
      k = k;
      bytes = omega arith;
      most = omega arith;
      whole = ap (λ x. 2 ^ x) one ∙ two_bytes (suc k);
      half = ap (λ x. 2 ^ x) other ∙ two_seven (8 * k) ∙ ap (λ x. 128 * x) (two_bytes k);
    }
