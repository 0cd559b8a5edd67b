-- Appending: for an unchanged sheet it is what was quoted, and what is written decodes as the old declarations and the new one last.
-- Assumes nothing.
use mathlib.Core.Path.{◌≡◌, refl, ◌∙◌, ap}
use mathlib.Core.Bool.{Bool, true, false, and-eq-true_iff}
use mathlib.Core.List.{List, [], ◌∷◌, ◌++◌}
use Rattle.std.specs.Prelude.{Option, None, Some}
use Prim.Native.Nat.{ℕ, suc}
use native.Mathlib.Omega.{arith}
use lib.Dec.{leb, ltb}
use lib.ListN.{length, length-append}
use borrow.Author.Tests.{le-leb, ltb-true, eq-eqb}
use Rattle.kinds.specs.Bytes.{all}
use Rattle.kinds.proofs.Logic.{both, right, all_append}
use Rattle.model.specs.declared.Refusal.TheVariants.{TooManyDeclarations, Repeated}
use Rattle.model.specs.declared.Call.TheVariants as call
use Rattle.model.specs.Tree.{Declaration}
use Rattle.model.specs.Layout.{Bytes}
use Rattle.model.specs.Record.{well_formed}
use Rattle.model.specs.Parser.{Ans, got, bad, deep}
use Rattle.model.specs.Reading.{parse}
use Rattle.model.specs.Answer.{writes}
use Rattle.model.specs.Sheet.{most_declarations, has, first_repeat, is_sheet, well_formed_sheet, encode_sheet, decode_sheet, OnLine, refuses_on, writes_sheet}
use Rattle.model.specs.Append.{append_by, of_sheet, quote_output, append_output}
use Rattle.model.proofs.Lengths.{refuses-not}
use Rattle.model.proofs.Sound.{read-well-formed}
use Rattle.model.proofs.Sheets.{sheet-back, sheet-exactly}
use Rattle.model.proofs.Distinct.{distinct_more, absent-is}

-- "If the sheet hasn't changed and there is room, it writes exactly the quoted length"
pub append_is_quoted : (b t : List ℕ) → append_output b t (length b) ≡ quote_output b t
unfolding append_output quote_output
append_is_quoted b t = rw (eq-eqb (length b) (length b) refl) refl

-- a well-formed sheet with one more is well formed
pub more-well-formed : (ds : List Declaration) (d : Declaration) → well_formed_sheet ds ≡ true → well_formed d ≡ true → ltb (length ds) most_declarations ≡ true → has ds d ≡ false → well_formed_sheet (ds ++ (d ∷ [])) ≡ true
unfolding well_formed_sheet is_sheet
more-well-formed ds d g w l h =
    let (g₁, g₂) = (and-eq-true_iff (all well_formed ds) _).0 g in
    let distinct : first_repeat [] (ds ++ (d ∷ [])) ≡ None = distinct_more ds d (absent-is _ (right (leb (length ds) most_declarations) g₂)) h in
    let well : all well_formed (ds ++ (d ∷ [])) ≡ true = rw all_append (both {a = all well_formed ds} g₁ (both {a = well_formed d} w refl)) in
    let few : leb (length (ds ++ (d ∷ []))) most_declarations ≡ true
    = le-leb (length (ds ++ (d ∷ []))) most_declarations (omega (arith, length-append ds (d ∷ []), ltb-true (length ds) most_declarations l)) in
    both well (both few (rw distinct))

-- "the sheet read is the old one with that declaration last"
pub record Appended (b t u : List ℕ) : Type 0 where
  pub old : List Declaration
  pub sheet : decode_sheet b ≡ Some old
  pub new : Declaration
  pub place : ℕ
  pub reads : parse call.General t ≡ got new place
  pub becomes : decode_sheet u ≡ Some (old ++ (new ∷ []))

pub appended : (b t u : List ℕ) → Bytes b → (quote_output b t).output ≡ writes u → Appended b t u
unfolding quote_output append_by
appended b t u bytes e = go (decode_sheet b) refl e
  where
    more : (ds : List Declaration) → decode_sheet b ≡ Some ds → (d : Declaration) (p : ℕ) → parse call.General t ≡ got d p → (x y : Bool) → ltb (length ds) most_declarations ≡ x → has ds d ≡ y
        → (elim x as (λ _. OnLine) [ true ↦ elim y as (λ _. OnLine) [ true ↦ refuses_on Repeated (suc (length ds)) 0 | false ↦ writes_sheet (ds ++ (d ∷ [])) ] | false ↦ refuses_on TooManyDeclarations (suc (length ds)) 0 ]).output ≡ writes u
        → Appended b t u
    more ds f d p q false y i j g = absurd (refuses-not g)
    more ds f d p q true true i j g = absurd (refuses-not g)
    more ds f d p q true false i j g =
        let (w, _) = (sheet-exactly b ds bytes).0 f in
        let z : u ≡ encode_sheet (ds ++ (d ∷ [])) = cc in
        record { old = ds; sheet = f; new = d; place = p; reads = q; becomes = ap decode_sheet z ∙ sheet-back (ds ++ (d ∷ [])) (more-well-formed ds d w (read-well-formed call.General t d p q) i j) }

    read : (ds : List Declaration) → decode_sheet b ≡ Some ds → (a : Ans Declaration) → parse call.General t ≡ a → (append_by ds a).output ≡ writes u → Appended b t u
    read ds f (got d p) q g = more ds f d p q (ltb (length ds) most_declarations) (has ds d) refl refl g
    read ds f (bad w p) q g = absurd (refuses-not g)
    read ds f (deep p) q g = absurd (refuses-not g)

    go : (o : Option (List Declaration)) → decode_sheet b ≡ o → (of_sheet o (λ ds. append_by ds (parse call.General t))).output ≡ writes u → Appended b t u
    go None f g = absurd (refuses-not g)
    go (Some ds) f g = read ds f (parse call.General t) refl g
