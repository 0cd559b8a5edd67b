-- Bytes by two hex digits each: 0-9, a-f.
-- Assumes nothing.
use Rattle.std.specs.Prelude.{List, [], ◌∷◌, ℕ, ◌+◌, ◌-◌, ◌*◌, true, false, Option, Some, None}
use Rattle.kinds.specs.Bytes.{between, is_digit}

-- what a digit stands for
abbrev pub digit_value : ℕ → Option ℕ
digit_value c = elim (is_digit c) [ true ↦ Some (c - 48) | false ↦ elim (between 97 102 c) [ true ↦ Some (c - 97 + 10) | false ↦ None ] ]

abbrev pub byte_by : Option ℕ → Option ℕ → Option ℕ
byte_by None l = None
byte_by (Some h) None = None
byte_by (Some h) (Some l) = Some (16 * h + l)

-- what two digits stand for, and nothing else does
abbrev pub byte_value : List ℕ → Option ℕ
byte_value [] = None
byte_value (h ∷ []) = None
byte_value (h ∷ (l ∷ [])) = byte_by (digit_value h) (digit_value l)
byte_value (h ∷ (l ∷ (c ∷ s))) = None

abbrev pub byte_then : Option ℕ → List ℕ → List ℕ
byte_then None bs = []
byte_then (Some b) bs = b ∷ bs

-- the bytes of digits two by two, up to what is no byte
unfoldable pub bytes_value : List ℕ → List ℕ
bytes_value [] = []
bytes_value (h ∷ []) = []
bytes_value (h ∷ (l ∷ s)) = byte_then (byte_by (digit_value h) (digit_value l)) (bytes_value s)
