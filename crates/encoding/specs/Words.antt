-- Words of 32 bytes, and padding.
-- Assumes nothing.
use Rattle.std.specs.Prelude.{Bool, List, [], ◌∷◌, ◌++◌, ℕ, zero, suc, ◌+◌, ◌*◌, ◌-◌, ◌/◌, ◌%◌, ltb, length, replicate}

abbrev pub is_byte : ℕ → Bool
is_byte c = ltb c 256

-- a number in n bytes, the highest first
unfoldable pub big_endian : ℕ → ℕ → List ℕ
big_endian zero v = []
big_endian (suc n) v = big_endian n (v / 256) ++ (v % 256 ∷ [])

-- the big-endian encoding of a number, padded on the higher-order (left) side with zero-bytes such that the length is 32 bytes
unfoldable pub word : ℕ → List ℕ
word v = big_endian 32 v

-- a length rounded up to whole words
abbrev pub whole_words : ℕ → ℕ
whole_words n = (n + 31) / 32 * 32

-- pad_right: bytes followed by the minimum number of zero-bytes such that the length is a multiple of 32
unfoldable pub padded : List ℕ → List ℕ
padded s = s ++ replicate (whole_words (length s) - length s) 0
