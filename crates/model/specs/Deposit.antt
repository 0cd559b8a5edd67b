-- The line that the program `deposit` prints.
-- Assumes nothing.
use Rattle.std.specs.Prelude.{List, ◌∷◌, ◌++◌, ℕ, length, Option, None, Some}
use Rattle.kinds.specs.Bytes.{ascii, space}
use Rattle.kinds.specs.Decimal.{decimal}
use Rattle.model.specs.declared.Refusal.TheVariants.{TooDeep}
use Rattle.model.specs.declared.Call.TheVariants as call
use Rattle.model.specs.Tree.{Declaration}
use Rattle.model.specs.Parser.{Ans, got, bad, deep}
use Rattle.model.specs.Reading.{keyword_text, parse}
use Rattle.model.specs.Record.{encode}
use Rattle.model.specs.Line.{keyword_in, canonical_text}
use Rattle.model.specs.Answer.{number}

-- "the canonical text (`-` for a constructor)"
abbrev pub or_dash : Option (List ℕ) → List ℕ
or_dash None = ascii "-"
or_dash (Some t) = t

-- "`no`, number, position"
abbrev pub no_line : ℕ → ℕ → List ℕ
no_line n p = ascii "no " ++ (decimal n ++ (space ∷ decimal p))

-- "`ok`, the keyword, the record's length, the canonical text"
unfoldable pub deposit_by : Ans Declaration → List ℕ
deposit_by (got d n) = ascii "ok " ++ (keyword_text (keyword_in d) ++ (space ∷ (decimal (length (encode 4 d)) ++ (space ∷ or_dash (canonical_text d)))))
deposit_by (bad w p) = no_line (number w) p
deposit_by (deep p) = no_line (number TooDeep) p

-- "reads standard input by the general call and prints one line", without the line feed
unfoldable pub deposit_line : List ℕ → List ℕ
deposit_line s = deposit_by (parse call.General s)
