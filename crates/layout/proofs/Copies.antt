-- Numbers as bytes, and laws of copies made several bytes at a time.
-- Assumes nothing.
use mathlib.Core.Path.{◌≡◌, refl, sym, ap, ◌∙◌}
use mathlib.Core.List.{List, [], ◌∷◌, ◌++◌, append_assoc}
use Rattle.std.proofs.lemmas.List.{drop-replicate, length-replicate}
use Rattle.std.specs.Int.{w64, to_le_bytes, from_le_bytes}
use Prim.Native.Nat.{ℕ, zero, suc, ◌+◌, ◌*◌, ◌-◌, ◌/◌, ◌%◌, ◌^◌, ◌≤◌, ◌<◌}
use native.Mathlib.Omega.{arith}
use native.Mathlib.Nat.{pow-succ', mul_assoc, add_assoc}
use lib.ListN.{length, take, drop, get_or, replicate, length-append, length-drop}
use lib.Seq.{paste, paste-zero, length-paste, take-paste, drop-paste, take-append-add, take-take, take-add, take_all, length-take-le, drop-drop}
use Rattle.model.specs.Layout.{little_endian, le_value, Bytes}
use Rattle.model.proofs.Pieces.{bytes_take, bytes_drop, le_below, le_written}
use Rattle.layout.specs.Buffer.{put}

-- the lowest bytes of a number
pub le_take : (n m v : ℕ) → n ≤ m → take n (little_endian m v) ≡ little_endian n v
unfolding little_endian
le_take zero m v h = refl
le_take (suc n) zero v h = absurd (omega arith)
le_take (suc n) (suc m) v h = ap (λ t. (v % 256) ∷ t) (le_take n m (v / 256) (omega arith))

-- std's bytes of a number are these
pub le_eight : (v : ℕ) → to_le_bytes w64 v ≡ little_endian 8 v
unfolding little_endian
le_eight v =
    let a : v / 65536 ≡ v / 256 / 256 = omega arith in
    let b : v / 16777216 ≡ v / 256 / 256 / 256 = omega arith in
    let c : v / 4294967296 ≡ v / 256 / 256 / 256 / 256 = omega arith in
    let d : v / 1099511627776 ≡ v / 256 / 256 / 256 / 256 / 256 = omega arith in
    let e : v / 281474976710656 ≡ v / 256 / 256 / 256 / 256 / 256 / 256 = omega arith in
    let f : v / 72057594037927936 ≡ v / 256 / 256 / 256 / 256 / 256 / 256 / 256 = omega arith in
    rw (a, b, c, d, e, f)

le_append : (x y : List ℕ) → le_value (x ++ y) ≡ le_value x + 256 ^ length x * le_value y
unfolding le_value
le_append [] y = omega arith
le_append (c ∷ x) y = omega (arith, le_append x y, pow-succ' 256 (length x), ap (λ n. n * le_value y) (pow-succ' 256 (length x)), mul_assoc 256 (256 ^ length x) (le_value y))

zeros : (n : ℕ) → le_value (replicate n 0) ≡ 0
unfolding le_value
zeros zero = refl
zeros (suc n) = omega (arith, zeros n)

eight_read : (b : List ℕ) → length b ≡ 8 → from_le_bytes w64 b ≡ le_value b
unfolding le_value
eight_read (a ∷ b ∷ c ∷ d ∷ e ∷ f ∷ g ∷ h ∷ []) l = omega arith
eight_read [] l = absurd (omega arith)
eight_read (a ∷ []) l = absurd (omega arith)
eight_read (a ∷ b ∷ []) l = absurd (omega arith)
eight_read (a ∷ b ∷ c ∷ []) l = absurd (omega arith)
eight_read (a ∷ b ∷ c ∷ d ∷ []) l = absurd (omega arith)
eight_read (a ∷ b ∷ c ∷ d ∷ e ∷ []) l = absurd (omega arith)
eight_read (a ∷ b ∷ c ∷ d ∷ e ∷ f ∷ []) l = absurd (omega arith)
eight_read (a ∷ b ∷ c ∷ d ∷ e ∷ f ∷ g ∷ []) l = absurd (omega arith)
eight_read (a ∷ b ∷ c ∷ d ∷ e ∷ f ∷ g ∷ h ∷ i ∷ t) l = absurd (omega arith)

-- fewer bytes, with zeros behind them
pub padded-read : (b : List ℕ) (n : ℕ) → length b ≡ n → n ≤ 8 → from_le_bytes w64 (b ++ drop {A = ℕ} n (replicate 8 0)) ≡ le_value b
padded-read b n l h =
    let z : drop {A = ℕ} n (replicate 8 0) ≡ replicate (8 - n) 0 = drop-replicate n 8 0 in
    let t : List ℕ = replicate (8 - n) 0 in
    let k : length t ≡ 8 - n = length-replicate {A = ℕ} (8 - n) 0 in
    rw z (eight_read (b ++ t) (omega (arith, length-append b t)) ∙ le_append b t ∙ rw (zeros (8 - n)) (omega arith))

-- m bytes of a part that stand at i
part_length : (m i : ℕ) (src : List ℕ) → i + m ≤ length src → length (take m (drop i src)) ≡ m
part_length m i src h = length-take-le m (drop i src) (rw length-drop (omega arith))

-- bytes that were copied from a part to the front of eight zeros
pub part_read : (b : List ℕ) (at n : ℕ) (ys : List ℕ) (r : ℕ) → at + n ≤ length b → n ≤ 8 → ys ≡ take (at + n - at) (drop at b)
    → r ≡ from_le_bytes w64 (ys ++ drop {A = ℕ} n (replicate 8 0)) → r ≡ le_value (take n (drop at b))
part_read b at n ys r h k e f =
    let m : at + n - at ≡ n = omega arith in
    let q : ys ≡ take n (drop at b) = rw m at e in
    f ∙ rw q (padded-read (take n (drop at b)) n (part_length n at b h) k)

-- the number that bytes of a part make
pub part_below : (m : ℕ) (b : List ℕ) (at : ℕ) → ((k : ℕ) → get_or b k 0 < 256) → at + m ≤ length b → le_value (take m (drop at b)) < 256 ^ m
unfolding Bytes
part_below m b at k h = rw (part_length m at b h) at (le_below (take m (drop at b)) (bytes_take m _ (bytes_drop at b k)))

-- bytes read as a number and written
pub part-put : (m : ℕ) (b b₁ src : List ℕ) (o i v : ℕ) → ((k : ℕ) → get_or src k 0 < 256) → i + m ≤ length src → v ≡ le_value (take m (drop i src)) → b₁ ≡ put o (little_endian m v) b
    → b₁ ≡ put o (take m (drop i src)) b
unfolding Bytes
part-put m b b₁ src o i v k h e f =
    let w : little_endian m v ≡ take m (drop i src) = rw e (rw (part_length m i src h) at (le_written (take m (drop i src)) (bytes_take m _ (bytes_drop i src k)))) in
    rw w at f

-- i bytes of a part are copied
pub record Copied (b₀ : List ℕ) (at : ℕ) (src b : List ℕ) (i : ℕ) : Type 0 where
  pub low : i ≤ length src
  pub size : length b ≡ length b₀
  pub same : b ≡ paste b₀ at src i

pub copy_start : (b : List ℕ) (at : ℕ) (src : List ℕ) → Copied b at src b 0
copy_start b at src = record { low = omega arith; size = refl; same = paste-zero b at src }

pub copy_end : (b₀ : List ℕ) (at : ℕ) (src b : List ℕ) (i : ℕ) → Copied b₀ at src b i → length src ≤ i → b ≡ put at src b₀
unfolding put
copy_end b₀ at src b i c h =
    let e : i ≡ length src = omega (arith, c.low) in
    c.same ∙ rw (e, take_all (length src) src (omega arith)) (append_assoc (take at b₀) src (drop (at + length src) b₀))

-- m bytes put in where they belong, of which some may be copied before
pub copy_part : (b₀ : List ℕ) (at : ℕ) (src b b₁ : List ℕ) (i j m : ℕ) → Copied b₀ at src b j → i ≤ j → j ≤ i + m → i + m ≤ length src → at + length src ≤ length b₀
    → b₁ ≡ put (at + i) (take m (drop i src)) b → Copied b₀ at src b₁ (i + m)
unfolding put
copy_part b₀ at src b b₁ i j m c p q h l e =
    let n = part_length m i src h in
    let head : length (take at b₀) ≡ at = length-take-le at b₀ (omega arith) in
    let x : take (at + i) b ≡ take at b₀ ++ take i src
    = sym (take-take (at + i) (at + j) b (omega arith)) ∙ rw (c.same, take-paste b₀ at src j (omega arith) c.low, ← take-take i j src p) (rw head at (take-append-add (take at b₀) (take j src) i)) in
    let s : at + i + m ≡ at + j + (i + m - j) = omega arith in
    let y : drop (at + i + m) b ≡ drop (at + i + m) b₀
    = rw (s, ← drop-drop (i + m - j) (at + j) b, c.same, drop-paste b₀ at src j (omega arith) c.low) (drop-drop (i + m - j) (at + j) b₀) in
    let z : b₁ ≡ paste b₀ at src (i + m) = e ∙ rw (n, x, y, take-add i m src, add_assoc) (simp append_assoc) in
    record { low = h; size = ap length z ∙ length-paste b₀ at src (i + m) (omega arith) h; same = z }

-- the first m bytes and the last m
pub copied_ends : (m : ℕ) (b₀ : List ℕ) (at : ℕ) (src b b₁ : List ℕ) → at + length src ≤ length b₀ → m ≤ length src → length src ≤ 2 * m
    → b ≡ put (at + 0) (take m (drop 0 src)) b₀ → b₁ ≡ put (at + (length src - m)) (take m (drop (length src - m) src)) b → b₁ ≡ put at src b₀
copied_ends m b₀ at src b b₁ h p q e f =
    let x = copy_part b₀ at src b₀ b 0 0 m (copy_start b₀ at src) (omega arith) (omega arith) (omega arith) h e in
    let y = copy_part b₀ at src b b₁ (length src - m) (0 + m) m x (omega arith) (omega arith) (omega arith) h f in
    copy_end b₀ at src b₁ (length src - m + m) y (omega arith)

-- the loop of copy
pub copy_eight : (b₀ : List ℕ) (at : ℕ) (src b b₁ : List ℕ) (i : ℕ) → Copied b₀ at src b i → at + length src ≤ length b₀ → i + 8 < length src
    → b₁ ≡ put (at + i) (take 8 (drop i src)) b → Copied b₀ at src b₁ (i + 8)
copy_eight b₀ at src b b₁ i c h l e = copy_part b₀ at src b b₁ i i 8 c (omega arith) (omega arith) (omega arith) h e

pub copy_last : (b₀ : List ℕ) (at : ℕ) (src b b₁ : List ℕ) (i : ℕ) → Copied b₀ at src b i → at + length src ≤ length b₀ → 8 ≤ length src → length src ≤ i + 8
    → b₁ ≡ put (at + (length src - 8)) (take 8 (drop (length src - 8) src)) b → b₁ ≡ put at src b₀
copy_last b₀ at src b b₁ i c h l k e =
    let x = copy_part b₀ at src b b₁ (length src - 8) i 8 c (omega arith) (omega (arith, c.low)) (omega arith) h e in
    copy_end b₀ at src b₁ (length src - 8 + 8) x (omega arith)

pub copy_none : (b : List ℕ) (at : ℕ) (src : List ℕ) → length src ≡ 0 → b ≡ put at src b
copy_none b at src h = copy_end b at src b 0 (copy_start b at src) (omega arith)

pub ruleset copies = (copy_start, copy_eight, copy_last, copy_none)
