-- Order 10: one declaration more, quoted before it is appended.
-- Assumes nothing.
use Rattle.std.specs.Prelude.{true, false, List, [], ◌∷◌, ◌++◌, ℕ, suc, ltb, eqb, length, Option, None, Some}
use Rattle.model.specs.declared.Refusal.TheVariants.{TooDeep, NotWellFormed, TooManyDeclarations, Repeated, SheetChanged}
use Rattle.model.specs.declared.Call.TheVariants as call
use Rattle.model.specs.Tree.{Declaration}
use Rattle.model.specs.Parser.{Ans, got, bad, deep}
use Rattle.model.specs.Reading.{parse}
use Rattle.model.specs.Sheet.{most_declarations, has, decode_sheet, OnLine, refuses_on, writes_sheet}

-- "the sheet read is the old one with that declaration last"; "after it come 22 and 23"
abbrev pub with_last : List Declaration → Declaration → OnLine
with_last ds d =
    elim (ltb (length ds) most_declarations) [
      | true ↦ elim (has ds d) [ true ↦ refuses_on Repeated (suc (length ds)) 0 | false ↦ writes_sheet (ds ++ (d ∷ [])) ]
      | false ↦ refuses_on TooManyDeclarations (suc (length ds)) 0
    ]

-- "all carry as line one more than the sheet's declarations"
unfoldable pub append_by : List Declaration → Ans Declaration → OnLine
append_by ds (got d p) = with_last ds d
append_by ds (bad w p) = refuses_on w (suc (length ds)) p
append_by ds (deep p) = refuses_on TooDeep (suc (length ds)) p

-- 15, at line 0, where a record is no well-formed sheet
abbrev pub of_sheet : Option (List Declaration) → (List Declaration → OnLine) → OnLine
of_sheet None f = refuses_on NotWellFormed 0 0
of_sheet (Some ds) f = f ds

-- "The text is read by the general call, even blanks alone": what the sheet would be
unfoldable pub quote_output : List ℕ → List ℕ → OnLine
quote_output b t = of_sheet (decode_sheet b) (λ ds. append_by ds (parse call.General t))

-- "27 the sheet's length isn't the one seen at the quote, at line 0, after 15 and before the text is read"
unfoldable pub append_output : List ℕ → List ℕ → ℕ → OnLine
append_output b t seen = of_sheet (decode_sheet b) (λ ds. elim (eqb seen (length b)) [ true ↦ append_by ds (parse call.General t) | false ↦ refuses_on SheetChanged 0 0 ])
