-- Bytes as numbers, the classes that names and numbers are made of, and texts by their characters.
-- Assumes nothing.
use Rattle.std.specs.Prelude.{Bool, true, false, ◌&&◌, ◌||◌, List, [], ◌∷◌, ℕ, leb, ltb, eqb}
use Prim.Native.Char.{code}
use Prim.Native.String.{String, [] as no_char, ◌∷◌ as ◌then-char◌}

-- the bytes of a text in ASCII
abbrev pub ascii : String → List ℕ
ascii no_char = []
ascii (◌then-char◌ c s) = code c ∷ ascii s

abbrev pub space : ℕ
space = 32

abbrev pub quote : ℕ
quote = 34

abbrev pub lparen : ℕ
lparen = 40

abbrev pub rparen : ℕ
rparen = 41

abbrev pub comma : ℕ
comma = 44

abbrev pub semicolon : ℕ
semicolon = 59

abbrev pub lbracket : ℕ
lbracket = 91

abbrev pub backslash : ℕ
backslash = 92

abbrev pub rbracket : ℕ
rbracket = 93

-- low ≤ c ≤ high
abbrev pub between : ℕ → ℕ → ℕ → Bool
between low high c = leb low c && leb c high

-- every element passes a test
abbrev pub all : {A : Type 0} → (A → Bool) → List A → Bool
all p [] = true
all p (c ∷ cs) = p c && all p cs

-- two byte strings are equal
abbrev pub same : List ℕ → List ℕ → Bool
same [] [] = true
same [] (d ∷ s) = false
same (c ∷ p) [] = false
same (c ∷ p) (d ∷ s) = eqb c d && same p s

abbrev pub is_ascii : ℕ → Bool
is_ascii c = ltb c 128

-- 0-9
abbrev pub is_digit : ℕ → Bool
is_digit = between 48 57

-- "a-z, A-Z, 0-9, `$`, `_`", without the digits: what a word may start with
abbrev pub is_letter : ℕ → Bool
is_letter c = between 97 122 c || (between 65 90 c || (eqb c 36 || eqb c 95))

abbrev pub is_word_byte : ℕ → Bool
is_word_byte c = is_digit c || is_letter c

-- "A word is the longest run of a-z, A-Z, 0-9, `$`, `_` not starting with a digit": an identifier
abbrev pub is_word : List ℕ → Bool
is_word [] = false
is_word (c ∷ cs) = is_letter c && all is_word_byte cs
