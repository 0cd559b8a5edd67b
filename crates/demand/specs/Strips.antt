-- Strips taken apart: runs of the calls that tell the length of what a strip begins with, again and again on the rest.
-- Assumes nothing.
use Rattle.std.specs.Prelude.{◌≡◌, List, [], ◌∷◌, ◌++◌, ℕ, length, take, Option, None, Some}
use Rattle.kinds.specs.Kind.{Prototype}
use Rattle.model.specs.Tree.{Declaration, name_kinds}
use Rattle.model.specs.Layout.{Bytes}
use Rattle.model.specs.Record.{decode}
use Rattle.model.specs.Answer.{accepted, said, Answer}
use Rattle.demand.specs.Runs.{CanonicalRun}

-- a call that tells the length of the piece that s begins with, by the rule `next`
pub record PieceRun (next : List ℕ → Option ℕ) (s : List ℕ) (r : Option ℕ) : Type 0 where
  pub says : r ≡ next s

-- Every run of the call on the strip, and then each time on the rest, tells the lengths of these pieces, in order, and then that there is none.
pub data TakenApart (next : List ℕ → Option ℕ) : List ℕ → List (List ℕ) → Type 0 where
  nothing_left : ((r : Option ℕ) → PieceRun next [] r → r ≡ None) → TakenApart next [] []
  one_piece : {l rest : List ℕ} {ls : List (List ℕ)} → ((r : Option ℕ) → PieceRun next (l ++ rest) r → r ≡ Some (length l)) → TakenApart next rest ls
      → TakenApart next (l ++ rest) (l ∷ ls)

-- bytes of any origin that are a "well-formed function, event or error record", with the line l that the canonical call wrote of it
pub record RecordLine (b l : List ℕ) : Type 0 where
  pub bytes : Bytes b
  pub declaration : Declaration
  pub decoded : decode b ≡ Some declaration
  pub prototype : Prototype
  pub says : name_kinds declaration ≡ Some prototype
  pub room : List ℕ
  pub left : List ℕ
  pub answer : Answer
  pub n : ℕ
  pub writing : CanonicalRun b room left answer
  pub written : said answer ≡ accepted n
  pub line : l ≡ take n left

pub data RecordLines : List (List ℕ) → List (List ℕ) → Type 0 where
  no_record : RecordLines [] []
  one_record : {b l : List ℕ} {bs ls : List (List ℕ)} → RecordLine b l → RecordLines bs ls → RecordLines (b ∷ bs) (l ∷ ls)
