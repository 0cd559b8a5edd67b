-- Order 5 of the calls themselves: a sheet that is accepted is its lines read singly.
-- Assumes nothing.
use mathlib.Core.Path.{◌≡◌, sym, ◌∙◌}
use mathlib.Core.List.{List}
use Prim.Native.Nat.{ℕ}
use lib.ListN.{length, take}
use Rattle.model.specs.declared.Call.TheVariants as call
use Rattle.model.specs.Layout.{record_of}
use Rattle.model.specs.Answer.{accepted, said, Answer}
use Rattle.model.specs.Calls.{read_output}
use Rattle.model.specs.Sheet.{lines_of, sheet_output, Singly}
use Rattle.model.specs.Sheet as sheet
use Rattle.model.proofs.Sheets.{sheet_singly, sheet-lined}
use Rattle.layout.proofs.Answers.{accepted-is}
use Rattle.demand.specs.Runs.{SheetRun, ReadSingly, no_line_lem, blank-line, one_line}
use Rattle.demand.proofs.Demand.{ran, enough}

-- what the general call says of a line it says in every run
singly_run : {ls : List (List ℕ)} {u : List ℕ} → Singly ls u → ReadSingly ls u
singly_run sheet.no_line_lem = no_line_lem
singly_run (sheet.blank-line b more) = blank-line b (singly_run more)
singly_run (sheet.one_line {l = l} {r = b} e reads more) =
    one_line e
    (λ room left r h run.
    let a = enough (read_output call.General l) b reads room left r run.says run.leaves h in
    (a, (ran (read_output call.General l) b reads room left r run.says run.leaves (length b) a).1))
    (singly_run more)

-- "An accepted sheet equals its lines read singly."
module _ (s room left : List ℕ) (line : ℕ) (r : Answer) (n : ℕ) (run : SheetRun s room left line r) (wrote : said r ≡ accepted n) where
  pub sheet-read_singly : (body : List ℕ) × (take n left ≡ record_of 4 0x30 body) × ReadSingly (lines_of s) body
  sheet-read_singly =
      let (u, e, long, fits) = accepted-is (sheet_output s).output (length room) n (sym wrote ∙ run.says) in
      let (body, same, singly) = sheet_singly s u e in
      (body, (ran (sheet_output s).output u e room left r run.says run.leaves n wrote).1 ∙ same, singly_run singly)

  -- the line is 0 then
  pub accepted-at-line_0 : line ≡ 0
  accepted-at-line_0 =
      let (u, e, long, fits) = accepted-is (sheet_output s).output (length room) n (sym wrote ∙ run.says) in
      run.lines ∙ sheet-lined s u e
