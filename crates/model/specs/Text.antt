-- Texts as lists of bytes: UTF-8, blanks, words and runs. A place is a byte offset from 0.
-- Assumes nothing.
use Rattle.std.specs.Prelude.{Bool, true, false, ◌&&◌, ◌||◌, not, cond, List, [], ◌∷◌, ℕ, zero, suc, ◌+◌, ◌*◌, ◌-◌, ltb, eqb, length, take, drop, get_or, Option, None, Some}
use Rattle.kinds.specs.Bytes.{comma, rparen, between, is_letter, is_word_byte}

-- how far the items reach that f finds one behind the other: f answers the length of the item that a list begins with, and 0 if none;
-- k is what is left of the item that is being passed
unfoldable pub span_from : (List ℕ → ℕ) → ℕ → List ℕ → ℕ
span_from f k [] = 0
span_from f zero (c ∷ t) = elim (f (c ∷ t)) [ zero ↦ 0 | suc m ↦ suc (span_from f m t) ]
span_from f (suc k) (c ∷ t) = suc (span_from f k t)

abbrev pub span : (List ℕ → ℕ) → List ℕ → ℕ
span f t = span_from f 0 t

-- an item of one byte that passes a test
abbrev pub one : (ℕ → Bool) → List ℕ → ℕ
one p [] = 0
one p (c ∷ t) = elim (p c) [ true ↦ 1 | false ↦ 0 ]

-- a character: its code point and how many bytes it takes
pub data Char : Type 0 where
  char : ℕ → ℕ → Char
  no_char : Char

-- the second and later bytes of a character
abbrev pub is_tail : ℕ → Bool
is_tail = between 0x80 0xBF

-- the code point that k tail bytes complete
abbrev pub tails : ℕ → ℕ → List ℕ → Option ℕ
tails zero v t = Some v
tails (suc k) v [] = None
tails (suc k) v (c ∷ t) = elim (is_tail c) [ true ↦ tails k (v * 64 + (c - 0x80)) t | false ↦ None ]

-- UTF-8 has no overlong forms, no surrogates, and nothing above 10FFFF: a code point that wants n bytes since it is at least low
abbrev pub scalar : ℕ → ℕ → Option ℕ → Char
scalar n low None = no_char
scalar n low (Some v) = elim (between low 0x10FFFF v && not (between 0xD800 0xDFFF v)) [ true ↦ char v n | false ↦ no_char ]

-- the character that a list begins with, in UTF-8 (RFC 3629)
unfoldable pub char_of : List ℕ → Char
char_of [] = no_char
char_of (a ∷ t) =
    cond (ltb a 0x80) (char a 1)
    (cond (between 0xC0 0xDF a) (scalar 2 0x80 (tails 1 (a - 0xC0) t))
    (cond (between 0xE0 0xEF a) (scalar 3 0x800 (tails 2 (a - 0xE0) t))
    (cond (between 0xF0 0xF7 a) (scalar 4 0x10000 (tails 3 (a - 0xF0) t)) no_char)))

abbrev pub char_length : Char → ℕ
char_length (char v n) = n
char_length no_char = 0

-- the length of the character that a list begins with, 0 if none
unfoldable pub character : List ℕ → ℕ
character t = char_length (char_of t)

-- "the length of the longest valid prefix"
unfoldable pub valid_length : List ℕ → ℕ
valid_length t = span character t

-- "A blank is a character with Unicode White_Space: 9 to 13, 32, and hex 85, A0, 1680, 2000 to 200A, 2028, 2029, 202F, 205F, 3000":
-- white space
abbrev pub is_blank : ℕ → Bool
is_blank v =
    between 9 13 v || (eqb v 32 || (eqb v 0x85 || (eqb v 0xA0 || (eqb v 0x1680 || (between 0x2000 0x200A v || (between 0x2028 0x2029 v || (eqb v 0x202F || (eqb v 0x205F || eqb v 0x3000))))))))

abbrev pub blank_length : Char → ℕ
blank_length (char v n) = elim (is_blank v) [ true ↦ n | false ↦ 0 ]
blank_length no_char = 0

-- the length of the blank that a list begins with, 0 if none
unfoldable pub blank : List ℕ → ℕ
blank t = blank_length (char_of t)

-- the place behind the blanks at a place
unfoldable pub skip : List ℕ → ℕ → ℕ
skip s at = at + span blank (drop at s)

-- the byte that a list begins with, and 256 if none
abbrev pub first : List ℕ → ℕ
first [] = 256
first (c ∷ t) = c

-- the byte at a place, and 256 at the end of the text
unfoldable pub peek : List ℕ → ℕ → ℕ
peek s at = elim (ltb at (length s)) [ true ↦ get_or s at 0 | false ↦ 256 ]

-- the length of the word that a list begins with, 0 if none: "the longest run of a-z, A-Z, 0-9, `$`, `_` not starting with a digit"
unfoldable pub word_length : List ℕ → ℕ
word_length [] = 0
word_length (c ∷ t) = elim (is_letter c) [ true ↦ suc (span (one is_word_byte) t) | false ↦ 0 ]

-- a byte of a run: no blank, `,` or `)` stands there
abbrev pub run_byte : List ℕ → ℕ
run_byte [] = 0
run_byte (c ∷ t) = elim (eqb c comma || (eqb c rparen || not (eqb (blank (c ∷ t)) 0))) [ true ↦ 0 | false ↦ 1 ]

-- "the run up to a blank, `,` or `)`": the token that spells a kind
unfoldable pub run_length : List ℕ → ℕ
run_length t = span run_byte t

-- the n bytes at a place
abbrev pub part : List ℕ → ℕ → ℕ → List ℕ
part s at n = take n (drop at s)
