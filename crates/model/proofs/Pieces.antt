-- The bytes of numbers and of records, written and read back, for lengths of any width.
-- Assumes nothing.
use mathlib.Core.Path.{◌≡◌, refl, ◌∙◌, ap}
use mathlib.Core.Bool.{Bool, true, false, ◌&&◌, and-eq-true_iff}
use mathlib.Core.List.{List, [], ◌∷◌, ◌++◌, append_assoc}
use Prim.Native.Nat.{ℕ, zero, suc, ◌+◌, ◌*◌, ◌-◌, ◌/◌, ◌%◌, ◌^◌, ◌≤◌, ◌<◌}
use native.Mathlib.Nat.{pow-succ'}
use native.Mathlib.Omega.{arith}
use lib.Dec.{leb}
use lib.ListN.{length, take, drop, length-append, length-drop, take-append-drop}
use lib.Seq.{take_at, drop_at, length-take-le, drop-drop, take-add, get_or-drop}
use borrow.Author.Tests.{leb-true, le-leb}
use Rattle.model.specs.Layout.{little_endian, le_value, record_of, Piece, piece, no_piece, piece_of, Bytes}

pub bytes_nil : Bytes []
unfolding Bytes
bytes_nil i = omega arith

pub bytes_cons : (c : ℕ) (b : List ℕ) → c < 256 → Bytes b → Bytes (c ∷ b)
unfolding Bytes
bytes_cons c b h k zero = h
bytes_cons c b h k (suc i) = k i

pub bytes_append : (a b : List ℕ) → Bytes a → Bytes b → Bytes (a ++ b)
unfolding Bytes
bytes_append [] b h k i = k i
bytes_append (c ∷ a) b h k zero = h zero
bytes_append (c ∷ a) b h k (suc i) = bytes_append a b (λ j. h (suc j)) k i

pub bytes_take : (n : ℕ) (b : List ℕ) → Bytes b → Bytes (take n b)
unfolding Bytes
bytes_take zero b h i = omega arith
bytes_take (suc n) [] h i = omega arith
bytes_take (suc n) (c ∷ b) h zero = h zero
bytes_take (suc n) (c ∷ b) h (suc i) = bytes_take n b (λ j. h (suc j)) i

pub bytes_drop : (n : ℕ) (b : List ℕ) → Bytes b → Bytes (drop n b)
unfolding Bytes
bytes_drop n b h i = rw get_or-drop (h (n + i))

-- numbers
pub le_length : (n v : ℕ) → length (little_endian n v) ≡ n
unfolding little_endian
le_length zero v = refl
le_length (suc n) v = ap suc (le_length n (v / 256))

pub le_bytes : (n v : ℕ) → Bytes (little_endian n v)
unfolding little_endian
le_bytes zero v = bytes_nil
le_bytes (suc n) v = bytes_cons (v % 256) (little_endian n (v / 256)) (omega arith) (le_bytes n (v / 256))

pub le_read : (n v : ℕ) → v < 256 ^ n → le_value (little_endian n v) ≡ v
unfolding little_endian le_value
le_read zero v h = omega arith
le_read (suc n) v h = rw (le_read n (v / 256) (omega arith)) (omega arith)

pub le_written : (b : List ℕ) → Bytes b → little_endian (length b) (le_value b) ≡ b
unfolding little_endian le_value Bytes
le_written [] h = refl
le_written (c ∷ b) h =
    let low : (c + 256 * le_value b) % 256 ≡ c = omega (arith, h 0) in
    let high : (c + 256 * le_value b) / 256 ≡ le_value b = omega (arith, h 0) in
    rw (low, high, le_written b (λ i. h (suc i)))

pub le_below : (b : List ℕ) → Bytes b → le_value b < 256 ^ length b
unfolding le_value Bytes
le_below [] h = omega arith
le_below (c ∷ b) h = omega (arith, h 0, le_below b (λ i. h (suc i)), pow-succ' 256 (length b))

-- records
pub record_length : (w k : ℕ) (body : List ℕ) → length (record_of w k body) ≡ w + 2 + length body
unfolding record_of
record_length w k body = simp (length-append, le_length) (omega arith)

pub record_bytes : (w k : ℕ) (body : List ℕ) → Bytes body → Bytes (record_of w k body)
unfolding record_of
record_bytes w k body h = bytes_append _ _ (le_bytes w _) (bytes_append _ _ (le_bytes 2 k) h)

-- a head h of w bytes that counts all, a kind c of two, a body and a rest
piece-parts : (w : ℕ) (h c body r : List ℕ) → length h ≡ w → length c ≡ 2 → le_value h ≡ w + 2 + length body → piece_of w (h ++ (c ++ (body ++ r))) ≡ piece (le_value c) body r
unfolding piece_of
piece-parts w h c body r p q n =
    let first : le_value (take w (h ++ (c ++ (body ++ r)))) ≡ w + 2 + length body = rw (take_at h _ w) n in
    let long : w + 2 + length body ≤ length (h ++ (c ++ (body ++ r))) = simp (length-append, p, q) (omega arith) in
    let less : w + 2 + length body - (w + 2) ≡ length body = omega arith in
    let behind : drop (w + 2) (h ++ (c ++ (body ++ r))) ≡ body ++ r = rw (← drop-drop 2 w, drop_at h _ w, drop_at c _ 2) in
    rw (piece_of, first, le-leb (w + 2) (w + 2 + length body) (omega arith), le-leb _ _ long, first, less, ← drop-drop (length body) (w + 2), behind, take_at body r (length body), drop_at body r (length body), drop_at h _ w, take_at c _ 2)

-- a record knows its own length
pub piece-read : (w k : ℕ) (body r : List ℕ) → k < 65536 → w + 2 + length body < 256 ^ w → piece_of w (record_of w k body ++ r) ≡ piece k body r
unfolding record_of
piece-read w k body r h fits =
    rw (append_assoc, append_assoc) (piece-parts w (little_endian w (w + 2 + length body)) (little_endian 2 k) body r (le_length w _) (le_length 2 k) (le_read w _ fits) ∙ ap (λ j. piece j body r) (le_read 2 k h))

-- b is a record of kind k and a rest, body and rest of bytes
pub record Begins (w : ℕ) (b : List ℕ) (k : ℕ) (body r : List ℕ) : Type 0 where
  pub parts : b ≡ record_of w k body ++ r
  pub small : k < 65536
  pub fits : w + 2 + length body < 256 ^ w
  pub bytes : Bytes body
  pub rest : Bytes r

-- the parts of b, where its first w bytes count m bytes of body
begins-at : (w m : ℕ) (b : List ℕ) → Bytes b → le_value (take w b) ≡ w + 2 + m → w + 2 + m ≤ length b → Begins w b (le_value (take 2 (drop w b))) (take m (drop (w + 2) b)) (drop (w + 2 + m) b)
unfolding record_of
begins-at w m b h e long =
    let head : length (take w b) ≡ w = length-take-le w b (omega arith) in
    let kind : length (take 2 (drop w b)) ≡ 2 = length-take-le 2 (drop w b) (simp length-drop (omega arith)) in
    let body : length (take m (drop (w + 2) b)) ≡ m = length-take-le m (drop (w + 2) b) (simp length-drop (omega arith)) in
    let head_bytes : Bytes (take w b) = bytes_take w b h in
    let kind-bytes : Bytes (take 2 (drop w b)) = bytes_take 2 _ (bytes_drop w b h) in
    let written : little_endian w (w + 2 + m) ≡ take w b = rw (← e) (rw head at (le_written (take w b) head_bytes)) in
    record {
      parts = rw (body, written, rw kind at (le_written (take 2 (drop w b)) kind-bytes), ← append_assoc, ← take-add w 2 b, ← take-add (w + 2) m b, take-append-drop);
      small = omega (arith, rw kind at (le_below _ kind-bytes));
      fits = rw (body, ← e) (rw head at (le_below _ head_bytes));
      bytes = bytes_take m _ (bytes_drop (w + 2) b h);
      rest = bytes_drop (w + 2 + m) b h;
    }

abbrev Says : ℕ → List ℕ → Piece → Type 0
Says w b (piece k body r) = Begins w b k body r
Says w b no_piece = Unit {0}

piece-says : (w : ℕ) (b : List ℕ) → Bytes b → Says w b (piece_of w b)
unfolding piece_of
piece-says w b h = go (leb (w + 2) (le_value (take w b)) && leb (le_value (take w b)) (length b)) refl
  where
    go : (t : Bool) → (leb (w + 2) (le_value (take w b)) && leb (le_value (take w b)) (length b)) ≡ t → Says w b (piece_of w b)
    go false e = rw (e, piece_of) tt
    go true e =
        let n : ℕ = le_value (take w b) in
        let (low, high) = (and-eq-true_iff _ _).0 e in
        let least : w + 2 ≤ n = leb-true _ _ low in
        let most : n ≤ length b = leb-true _ _ high in
        let whole : w + 2 + (n - (w + 2)) ≡ n = omega arith in
        rw (e, piece_of) (rw whole at (begins-at w (n - (w + 2)) b h (omega arith) (omega arith)))

-- a record is read only where it stands
pub piece-written : (w : ℕ) (b : List ℕ) (k : ℕ) (body r : List ℕ) → Bytes b → piece_of w b ≡ piece k body r → Begins w b k body r
piece-written w b k body r h e = rw e at (piece-says w b h)
