-- The declaration at a place of a sheet: its record, its fingerprint, and whether it is repeated.
-- Assumes nothing.
use mathlib.Core.Path.{◌≡◌, ◌∙◌, ap}
use mathlib.Core.Bool.{Bool}
use mathlib.Core.List.{List, ◌++◌}
use Rattle.std.specs.Prelude.{Some}
use Prim.Native.Nat.{ℕ, ◌*◌, ◌-◌, ◌≤◌}
use native.Mathlib.Omega.{arith}
use lib.ListN.{length, take, drop, length-append, length-drop}
use lib.Seq.{take_at}
use Rattle.model.specs.Layout.{piece}
use Rattle.model.specs.Tree.{Declaration}
use Rattle.model.specs.Record.{encode}
use Rattle.model.proofs.Scans.{part-rest}
use Rattle.record.specs.declared.Piece.{Piece}
use Rattle.record.specs.Parts.{taken, Headed, PieceIs}
use Rattle.record.proofs.Standing.{piece-headed}
use Rattle.repeat.specs.Pairs.{RecordOf, Two, Repeats}
use Rattle.repeat.specs.Prints.{OneRecord, PrintIs}
use Rattle.repeat.proofs.Whole.{code_in, body_in, short, begins}
use Rattle.repeat.proofs.Printing.{print-room}
use Rattle.index.specs.Indexes.{longest_text, WholePrint, RecordAt, OneAt, ItsRecord, AskedAt, RepeatsAt}

module _ (b : List ℕ) (at : ℕ) where
  abbrev from_it : List ℕ
  from_it = take (length b - at) (drop at b)

  module _ (d : Declaration) (p : RecordAt b at d) where
    shape : from_it ≡ encode 4 d ++ p.rest
    shape = part-rest b at ∙ p.there

    pub place-headed : Headed from_it
    place-headed = piece-headed from_it (code_in d) (body_in d) p.rest (begins d p.well p.rest from_it shape)

    pub place_inside : at ≤ length b
    place_inside = omega (arith, place-headed.low, place-headed.inside, ap length (part-rest b at), length-drop at b)

    pub place_record : (x : Piece) → PieceIs from_it (Some x) → RecordOf (take (length from_it - length x.rest.now) from_it) d
    unfolding taken
    place_record x i =
        let z : piece x.kind x.body.now x.rest.now ≡ piece (code_in d) (body_in d) p.rest = i.same ∙ begins d p.well p.rest from_it shape in
        let r : x.rest.now ≡ p.rest = cc in
        record { bytes = ap (take (length from_it - length x.rest.now)) shape ∙ take_at (encode 4 d) p.rest _ (omega (arith, ap length r, ap length shape, length-append (encode 4 d) p.rest)); well = p.well }

  pub one_headed : OneAt b at → Headed from_it
  one_headed p = place-headed p.declaration p.one

  pub one_inside : OneAt b at → at ≤ length b
  one_inside p = place_inside p.declaration p.one

  pub its_record : (x : Piece) → PieceIs from_it (Some x) → ItsRecord b at (take (length from_it - length x.rest.now) from_it)
  its_record x i = record { is = λ d p. place_record d p x i }

  -- it and a record
  module _ (t u : List ℕ) (h : ItsRecord b at u) where
    pub two-asked : AskedAt b at t → Two u t
    two-asked p = record { declaration = p.declaration; one = h.is p.declaration p.one; declaration₁ = p.declaration₁; other = p.other }

    pub two-told : (r : Bool) → Repeats u t r → RepeatsAt b at t r
    unfolding two-asked
    two-told r g = record { same = λ p. g (two-asked p) }

-- Fingerprints.

pub room-enough : (t : List ℕ) → OneRecord t → 2 * length t ≤ longest_text
room-enough t p = omega (arith, short t p.declaration p.one)

pub whole-print : (t b b₁ : List ℕ) (r : ℕ) → PrintIs t b b₁ r → 2 * length t ≤ length b → WholePrint t r
whole-print t b b₁ r f l = record { same = λ p. f.same p ∙ print-room t p (length b) longest_text l (room-enough t p) }

pub long-print : (t b b₁ : List ℕ) (r : ℕ) → PrintIs t b b₁ r → length b ≡ longest_text → WholePrint t r
long-print t b b₁ r f l = record { same = λ p. f.same p ∙ print-room t p (length b) longest_text (omega (arith, room-enough t p)) (room-enough t p) }

pub ruleset printing = (whole-print, long-print)

pub ruleset placing = (one_headed, one_inside, its_record, two-asked, two-told)
