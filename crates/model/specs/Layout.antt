-- The bytes of numbers and of records. w is the width of a record's length, in bytes: 4 in the record of document 01.
-- Assumes nothing.
use Rattle.std.specs.Prelude.{true, false, ◌&&◌, List, [], ◌∷◌, ◌++◌, ℕ, zero, suc, ◌+◌, ◌*◌, ◌-◌, ◌/◌, ◌%◌, ◌<◌, leb, length, take, drop, get_or}

-- a number in n bytes, "little-endian"
unfoldable pub little_endian : ℕ → ℕ → List ℕ
little_endian zero v = []
little_endian (suc n) v = v % 256 ∷ little_endian n (v / 256)

-- the number that bytes stand for
unfoldable pub le_value : List ℕ → ℕ
le_value [] = 0
le_value (b ∷ bs) = b + 256 * le_value bs

-- "Every record is: length, 4 bytes little-endian, counting the whole record; kind, 2 bytes little-endian; body."
unfoldable pub record_of : ℕ → ℕ → List ℕ → List ℕ
record_of w k body = little_endian w (w + 2 + length body) ++ (little_endian 2 k ++ body)

-- the record that bytes begin with, whatever its kind: its kind, its body, and what stands behind it
pub data Piece : Type 0 where
  piece : ℕ → List ℕ → List ℕ → Piece
  no_piece : Piece

-- "with lengths that meet": the length covers the head and no more than there is
unfoldable pub piece_of : ℕ → List ℕ → Piece
piece_of w b = let n = le_value (take w b) in
    elim (leb (w + 2) n && leb n (length b)) [
      | true ↦ piece (le_value (take 2 (drop w b))) (take (n - (w + 2)) (drop (w + 2) b)) (drop n b)
      | false ↦ no_piece
    ]

-- every number of a list is a byte; 0 stands past the end
unfoldable pub Bytes : List ℕ → Type 0
Bytes b = (i : ℕ) → get_or b i 0 < 256
