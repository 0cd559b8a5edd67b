-- Parsers: readings at a place of a text. A look may fail and then moves nothing; a reading that fails says why and where.
-- Assumes nothing.
use Rattle.std.specs.Prelude.{true, false, List, [], ◌∷◌, ℕ, ◌+◌, eqb, drop, Option, None, Some}
use Rattle.kinds.specs.Bytes.{semicolon}
use Rattle.model.specs.declared.Refusal.{Refusal}
use Rattle.model.specs.declared.Refusal.TheVariants.{Eos, ExpectKeyword, ExpectIdentifier, ExpectEnd}
use Rattle.model.specs.Text.{skip, peek, word_length, part}
use Rattle.model.specs.KindText.{Entry, entry, lookup}

infixl 10 ◌>>=◌ ◌>>◌
-- what a look finds: a thing and the place behind it, or nothing
pub data Found (A : Type 0) : Type 0 where
  found : A → ℕ → Found A
  missing : Found A

-- what a reading answers: a thing and the place behind it; why it fails and where; or the place of the `(` that opens one tuple too many
pub data Ans (A : Type 0) : Type 0 where
  got : A → ℕ → Ans A
  bad : Refusal → ℕ → Ans A
  deep : ℕ → Ans A

-- a reading of a text at a place
abbrev pub Parser : Type 0 → Type 0
Parser A = List ℕ → ℕ → Ans A

module _ {A B : Type 0} where
  unfoldable pub on_ans : (A → B) → Ans A → Ans B
  on_ans f (got a n) = got (f a) n
  on_ans f (bad w p) = bad w p
  on_ans f (deep p) = deep p

  unfoldable pub then : Ans A → (A → ℕ → Ans B) → Ans B
  then (got a n) f = f a n
  then (bad w p) f = bad w p
  then (deep p) f = deep p

  -- one reading behind the other
  abbrev pub ◌>>=◌ : Parser A → (A → Parser B) → Parser B
  ◌>>=◌ p f = λ s at. then (p s at) (λ a n. f a s n)

  abbrev pub ◌>>◌ : Parser A → Parser B → Parser B
  ◌>>◌ p q = λ s at. then (p s at) (λ a n. q s n)

module _ {A : Type 0} where
  abbrev pub return : A → Parser A
  return a = λ s at. got a at

  -- a look that has to find: its error stands where it was made, "before the blanks"
  abbrev pub require : Refusal → ℕ → Found A → Ans A
  require w at (found a n) = got a n
  require w at missing = bad w at

  -- a look that may fail, with what stands for nothing
  abbrev pub or_else : A → ℕ → Found A → Ans A
  or_else d at (found a n) = got a n
  or_else d at missing = got d at

-- a character, looked for after any blanks
unfoldable pub look : ℕ → List ℕ → ℕ → Found (Unit {0})
look c s at = let p = skip s at in
    elim (eqb (peek s p) c) [ true ↦ found tt (p + 1) | false ↦ missing ]

-- why a character is not there: the text ends, or has another
abbrev pub why_not : Refusal → ℕ → Refusal
why_not w b = elim (eqb b 256) [ true ↦ Eos | false ↦ w ]

-- `take`: "A wanted single character also skips blanks, but its error stands after them."
unfoldable pub take_char : ℕ → Refusal → Parser (Unit {0})
take_char c w s at = let p = skip s at in
    require (why_not w (peek s p)) p (look c s at)

-- the word behind any blanks, empty if none stands there, and the place behind it
unfoldable pub word : List ℕ → ℕ → List ℕ
word s at = part s (skip s at) (word_length (drop (skip s at) s))

unfoldable pub word_end : List ℕ → ℕ → ℕ
word_end s at = skip s at + word_length (drop (skip s at) s)

abbrev pub found_by : {A : Type 0} → Option A → ℕ → Found A
found_by None n = missing
found_by (Some a) n = found a n

-- `keyword_of`: one of the words of a list, compared as a whole word, and what it stands for
unfoldable pub keyword_of : {A : Type 0} → List (Entry A) → List ℕ → ℕ → Found A
keyword_of es s at = found_by (lookup es (word s at)) (word_end s at)

abbrev pub is_ident : List ℕ → ℕ → Found (List ℕ)
is_ident [] n = missing
is_ident (c ∷ w) n = found (c ∷ w) n

-- any word: "No word is reserved."
unfoldable pub look_ident : List ℕ → ℕ → Found (List ℕ)
look_ident s at = is_ident (word s at) (word_end s at)

-- `ident`: "6 identifier wanted", before the blanks
unfoldable pub ident : Parser (List ℕ)
ident s at = require ExpectIdentifier at (look_ident s at)

-- `keyword`: "5 keyword wanted"
unfoldable pub keyword : List ℕ → Parser (Unit {0})
keyword w s at = require ExpectKeyword at (keyword_of (entry w tt ∷ []) s at)

-- a word of a list that may be absent
unfoldable pub option : {A : Type 0} → List (Entry A) → A → Parser A
option es d s at = or_else d at (keyword_of es s at)

-- "an optional name", empty if absent
unfoldable pub optional_name : Parser (List ℕ)
optional_name s at = or_else [] at (look_ident s at)

-- `end`: "Last comes at most one `;`, then blanks only; the error for more stands after the blanks."
abbrev pub at_end : ℕ → List ℕ → Ans (Unit {0})
at_end p s = elim (eqb (peek s p) 256) [ true ↦ got tt p | false ↦ bad ExpectEnd p ]

unfoldable pub end : Parser (Unit {0})
end = (λ s at. or_else tt at (look semicolon s at)) >>= λ _ s at. at_end (skip s at) s
