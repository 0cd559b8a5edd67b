-- Document 02's order 9 evaluated: functions found in a sheet by their texts, and texts that no function has.
-- Assumes nothing.
use mathlib.Core.Path.{◌≡◌, refl}
use mathlib.Core.List.{List, [], ◌∷◌, ◌++◌}
use Prim.Native.Nat.{ℕ}
use Rattle.kinds.specs.Bytes.{ascii}
use Rattle.model.specs.declared.Refusal.TheVariants.{NotWellFormed, NoSuchFunction}
use Rattle.model.specs.Answer.{handed}
use Rattle.model.specs.Sheet.{line_feed, is_sheet, decode_all, decode_sheet, sheet_output}
use Rattle.model.specs.Find.{is_sought, search_in, find_output, found_at, not_found}
use Rattle.model.proofs.SheetExamples.{sheets}

unfoldable finds : Unit {0}
unfolding sheets is_sheet decode_all decode_sheet is_sought search_in find_output
finds = tt

abbrev sheet : List ℕ
sheet = handed (sheet_output (ascii "event f()" ++ (line_feed ∷ (ascii "function f()" ++ (line_feed ∷ (ascii "constructor()" ++ (line_feed ∷ (ascii "function g(uint)" ++ (line_feed ∷ ascii "error g(uint256)"))))))))).output

first_function : find_output sheet (ascii "f()") ≡ found_at 1 1
unfolding finds
first_function = refl

second_function : find_output sheet (ascii "g(uint256)") ≡ found_at 2 2
unfolding finds
second_function = refl

no_canonical-text : find_output sheet (ascii "g(uint)") ≡ not_found NoSuchFunction 2
unfolding finds
no_canonical-text = refl

empty-sheet : find_output (6 ∷ 0 ∷ 0 ∷ 0 ∷ 0x30 ∷ 0 ∷ []) [] ≡ not_found NoSuchFunction 0
unfolding finds
empty-sheet = refl

no_sheet : find_output [] (ascii "f()") ≡ not_found NotWellFormed 0
unfolding finds
no_sheet = refl
