-- What the functions of this crate answer, by the definitions.
-- Assumes nothing.
use Rattle.std.specs.Prelude.{◌≡◌, Bool, true, false, ◌||◌, List, [], ◌∷◌, ℕ, ◌+◌, ◌*◌, ◌-◌, ◌≤◌, eqb, length, drop, Option, None, Some}
use Rattle.kinds.specs.Bytes.{between, is_digit, is_word_byte}
use Rattle.text.specs.declared.Char as found
use Rattle.model.specs.Text.{span, one, Char, char, no_char, is_tail, skip, word_length, run_byte, run_length}

-- the six bits of a tail byte
unfoldable pub tail_of : ℕ → Option ℕ
tail_of c = elim (is_tail c) [ true ↦ Some (c - 128) | false ↦ None ]

-- a character as the definitions have it
unfoldable pub char_from : Option found.Char → Char
char_from None = no_char
char_from (Some c) = char c.code c.len

-- a byte, and 256 where there is none
unfoldable pub byte_or_end : Option ℕ → ℕ
byte_or_end None = 256
byte_or_end (Some c) = c

-- the place behind the blanks, which lies between `at` and the end
pub record Skipped (s : List ℕ) (at p : ℕ) : Type 0 where
  pub place : p ≡ skip s at
  pub low : at ≤ p
  pub inside : p ≤ length s

-- the value of a digit
unfoldable pub digit_of : ℕ → Option ℕ
digit_of c = elim (is_digit c) [ true ↦ Some (c - 48) | false ↦ None ]

-- a-z, A-Z
abbrev pub is_alphabetic : ℕ → Bool
is_alphabetic c = between 97 122 c || between 65 90 c

-- ASCII above `,`: a byte of a run, whatever stands behind it
abbrev pub is_plain : ℕ → Bool
is_plain = between 45 127

-- `,`, `)` and the space: a run ends there
abbrev pub is_stop : ℕ → Bool
is_stop c = eqb c 44 || (eqb c 41 || eqb c 32)

-- 128 for a byte that fails a test, and 0 for one that passes
unfoldable pub flag : (ℕ → Bool) → ℕ → ℕ
flag p c = elim (p c) [ true ↦ 0 | false ↦ 128 ]

-- the same for bytes, as the number that they make: the first byte is the lowest
unfoldable pub flags : (ℕ → Bool) → List ℕ → ℕ
flags p [] = 0
flags p (c ∷ t) = flag p c + 256 * flags p t

-- the first c bytes are of the word that t begins with
pub record Begun (t : List ℕ) (c : ℕ) : Type 0 where
  pub inside : c ≤ length t
  pub rest : c + span (one is_word_byte) (drop c t) ≡ word_length t

-- the first c bytes are of the run that t begins with
pub record Runs (t : List ℕ) (c : ℕ) : Type 0 where
  pub inside : c ≤ length t
  pub rest : c + span run_byte (drop c t) ≡ run_length t
