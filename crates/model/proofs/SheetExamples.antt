-- Sheets evaluated: the empty one, a line of blanks, a repeat, and the first of two refused lines.
-- Assumes nothing.
use mathlib.Core.Path.{◌≡◌, refl}
use mathlib.Core.List.{[], ◌∷◌, ◌++◌}
use Rattle.kinds.specs.Bytes.{ascii}
use Rattle.model.specs.declared.Refusal.TheVariants.{Eos, Repeated}
use Rattle.model.specs.Answer.{writes}
use Rattle.model.specs.Sheet.{line_feed, lines_of, is_blank_line, read_lines, repeats, has, first_repeat, encode_all, encode_sheet, OnLine, refuses_on, sheet_by, sheet_output}
use Rattle.model.proofs.Evaluation.{evaluation}

unfoldable pub sheets : Unit {0}
unfolding evaluation lines_of is_blank_line read_lines repeats has first_repeat encode_all encode_sheet sheet_by sheet_output
sheets = tt

-- "As a sheet it now means a contract without an interface, and gives a sheet record of 6 bytes"
abbrev empty_sheet : OnLine
empty_sheet = record { output = writes (6 ∷ 0 ∷ 0 ∷ 0 ∷ 0x30 ∷ 0 ∷ []); line = 0 }

no_bytes : sheet_output [] ≡ empty_sheet
unfolding sheets
no_bytes = refl

-- U+3000 between other blanks
blanks_only : sheet_output (line_feed ∷ 32 ∷ 0xE3 ∷ 0x80 ∷ 0x80 ∷ 13 ∷ line_feed ∷ []) ≡ empty_sheet
unfolding sheets
blanks_only = refl

repeated-behind_an_empty-line : sheet_output (ascii "error e()" ++ (line_feed ∷ line_feed ∷ ascii "error e( )")) ≡ refuses_on Repeated 3 0
unfolding sheets
repeated-behind_an_empty-line = refl

first-refused-line : sheet_output (ascii "error e()" ++ (line_feed ∷ (ascii "error e(" ++ (line_feed ∷ ascii "x")))) ≡ refuses_on Eos 2 8
unfolding sheets
first-refused-line = refl
