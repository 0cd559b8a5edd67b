-- The message call: the Display of the Rust's `ParseError`.
-- Assumes nothing.
use Rattle.std.specs.Prelude.{Bool, true, false, ◌||◌, List, [], ◌∷◌, ◌++◌, ℕ, ◌+◌, ◌-◌, ◌/◌, ◌%◌, leb, ltb, eqb, length, take, drop, Option, None, Some}
use Rattle.kinds.specs.Bytes.{ascii, quote, backslash}
use Rattle.kinds.specs.Decimal.{decimal}
use Rattle.model.specs.declared.Refusal.{Refusal}
use Rattle.model.specs.declared.Refusal.TheVariants.{Eos, ExpectOpen, ExpectClose, ExpectDeclaration, ExpectKeyword, ExpectIdentifier, ExpectEnd}
use Rattle.model.specs.declared.Keyword.{Keyword}
use Rattle.model.specs.declared.Call.{Call}
use Rattle.model.specs.Text.{span, one, is_tail, valid_length, part}
use Rattle.model.specs.Tree.{Declaration}
use Rattle.model.specs.Parser.{Ans, got, bad, deep}
use Rattle.model.specs.Reading.{keyword_text, wanted, parse}
use Rattle.model.specs.Record.{Case, case, select}
use Rattle.model.specs.Answer.{number, Output, writes}

-- "The wordings are those of `ParseErrorKind`, 5 naming the keyword wanted."
abbrev pub expected : List ℕ → Option (List ℕ)
expected t = Some (ascii "expected " ++ t)

abbrev pub expected_keyword : Option Keyword → Option (List ℕ)
expected_keyword None = None
expected_keyword (Some k) = expected (keyword_text k)

-- refusals 1 to 7 have a message, by their numbers
abbrev pub wording_cases : Option Keyword → List (Case (Option (List ℕ)))
wording_cases k =
    case (number Eos) (Some (ascii "unexpected end of stream"))
    ∷ case (number ExpectOpen) (expected (ascii "("))
    ∷ case (number ExpectClose) (expected (ascii ")"))
    ∷ case (number ExpectDeclaration) (expected (ascii "declaration"))
    ∷ case (number ExpectKeyword) (expected_keyword k)
    ∷ case (number ExpectIdentifier) (expected (ascii "identifier"))
    ∷ case (number ExpectEnd) (expected (ascii "end of declaration"))
    ∷ []

unfoldable pub wording : Refusal → Option Keyword → Option (List ℕ)
wording w k = select (wording_cases k) None (number w)

-- "up to ten bytes each side"
abbrev pub reach : ℕ
reach = 10

-- "shortens that side to whole characters": without the tail of a character that was cut, and without its beginning
unfoldable pub whole_from : List ℕ → List ℕ
whole_from t = drop (span (one is_tail) t) t

unfoldable pub whole_to : List ℕ → List ℕ
whole_to t = take (valid_length t) t

-- "`...` at an end that isn't the text's"
abbrev pub ellipsis : Bool → List ℕ
ellipsis true = []
ellipsis false = ascii "..."

-- `with_context`, at a place p
unfoldable pub context : List ℕ → ℕ → List ℕ
context s p = let start = p - reach in
    ellipsis (eqb start 0) ++ (whole_from (part s start (p - start)) ++ (ascii "|" ++ (whole_to (part s p reach) ++ ellipsis (leb (length s) (p + reach)))))

-- "ASCII is escaped as Rust's Debug does: `\0`, `\t`, `\n`, `\r`, `\"`, `\\`, and for other bytes below 32 and for 127 `\u{1b}` with lower-case
-- hex, no leading zero."
abbrev pub hex_digit : ℕ → ℕ
hex_digit n = elim (ltb n 10) [ true ↦ 48 + n | false ↦ 87 + n ]

abbrev pub hex : ℕ → List ℕ
hex b = elim (ltb b 16) [ true ↦ hex_digit b ∷ [] | false ↦ hex_digit (b / 16) ∷ hex_digit (b % 16) ∷ [] ]

abbrev pub unicode : ℕ → List ℕ
unicode b = elim (ltb b 32 || eqb b 127) [ true ↦ ascii "\\u{" ++ (hex b ++ ascii "}") | false ↦ b ∷ [] ]

abbrev pub escapes : List (Case (List ℕ))
escapes =
    case 0 (ascii "\\0")
    ∷ case 9 (ascii "\\t")
    ∷ case 10 (ascii "\\n")
    ∷ case 13 (ascii "\\r")
    ∷ case quote (backslash ∷ quote ∷ [])
    ∷ case backslash (backslash ∷ backslash ∷ [])
    ∷ []

-- "Other characters are copied"
abbrev pub escape : ℕ → List ℕ
escape b = select escapes (unicode b) b

unfoldable pub escaped : List ℕ → List ℕ
escaped [] = []
escaped (b ∷ t) = escape b ++ escaped t

-- `expected identifier at position 8("function| ()")`
unfoldable pub message_text : List ℕ → ℕ → List ℕ → List ℕ
message_text s p w =
    w ++ (ascii " at position " ++ (decimal p ++ (ascii "(\"" ++ (escaped (context s p) ++ ascii "\")"))))

abbrev pub message_by : List ℕ → ℕ → Option (List ℕ) → Output
message_by s p None = writes []
message_by s p (Some w) = writes (message_text s p w)

-- "On acceptance, or refusals 8 to 10, it writes nothing and says length 0."
abbrev pub message_of : List ℕ → Option Keyword → Ans Declaration → Output
message_of s k (got d n) = writes []
message_of s k (bad w p) = message_by s p (wording w k)
message_of s k (deep p) = writes []

-- "The message call takes a text and one of the five reading calls"
unfoldable pub message_output : Call → List ℕ → Output
message_output c s = message_of s (wanted c s) (parse c s)
