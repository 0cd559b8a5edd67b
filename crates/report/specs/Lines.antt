-- The parts of the line.
-- Assumes nothing.
use Rattle.std.specs.Prelude.{List, [], ◌++◌, ℕ, length, Option, None, Some}
use Rattle.kinds.specs.Bytes.{ascii}
use Rattle.kinds.specs.Decimal.{decimal}
use Rattle.model.specs.declared.Keyword.{Keyword}
use Rattle.model.specs.Tree.{Declaration}
use Rattle.model.specs.Reading.{keyword_text}
use Rattle.model.specs.Record.{decode}
use Rattle.model.specs.Line.{keyword_in, canonical_text}
use Rattle.model.specs.Deposit.{or_dash}

-- "`ok`, the keyword, the record's length"
unfoldable pub ok_front : Keyword → ℕ → List ℕ
ok_front k n = ascii "ok " ++ (keyword_text k ++ (ascii " " ++ (decimal n ++ ascii " ")))

-- the line of what a record says that is n bytes long, empty where it is none of a declaration
unfoldable pub line_by : ℕ → Option Declaration → List ℕ
line_by n None = []
line_by n (Some d) = ok_front (keyword_in d) n ++ or_dash (canonical_text d)

unfoldable pub record_line : List ℕ → List ℕ
record_line b = line_by (length b) (decode b)
