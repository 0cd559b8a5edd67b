-- What the walk over a sheet record asks, tells and leaves.
-- Assumes nothing.
use Rattle.std.specs.Prelude.{◌≡◌, true, false, List, [], ◌∷◌, ◌++◌, Bool, ℕ, suc, ◌≤◌, ◌<◌, length, drop, Option, None, Some}
use Rattle.model.specs.Tree.{Declaration}
use Rattle.model.specs.Record.{encode, well_formed, given, on_option, when, each_in}
use Rattle.model.specs.Sheet.{most_declarations, repeats, has, is_sheet, declaration_in, decode_all, encode_sheet, decode_sheet}
use Rattle.repeat.specs.declared.Notes.{Notes}
use Rattle.repeat.specs.Pairs.{RecordOf}
use Rattle.repeat.specs.Prints.{print_in, OneRecord}
use Rattle.repeat.specs.Noted.{Behind, Noted}
use Rattle.index.specs.declared.Part.{Part}

-- The declarations of a sheet.

-- declarations, if they make a sheet
abbrev pub sheet_of : List Declaration → Option (List Declaration)
sheet_of ds = when (is_sheet ds) (Some ds)

-- the same of declarations and what is read behind them
abbrev pub sheet_behind : List Declaration → Option (List Declaration) → Option (List Declaration)
sheet_behind ds o = given o (λ es. sheet_of (ds ++ es))

-- the records up to the end, at most k
abbrev pub parts_in : ℕ → List ℕ → Option (List Declaration)
parts_in k t = each_in 4 [] ◌∷◌ declaration_in k t

-- b is one record of a sheet's kind, and r is what stands behind its head, which decides
pub record AreRecords (b r : List ℕ) : Type 0 where
  pub same : decode_sheet b ≡ sheet_behind [] (decode_all r)
  pub there : Behind b r

-- b begins with the record of a declaration, and is read so
pub record PartSaid (b : List ℕ) (p : Part) : Type 0 where
  pub declaration : Declaration
  pub one : RecordOf p.record.now declaration
  pub there : b ≡ p.record.now ++ p.rest.now
  pub next : (k : ℕ) → parts_in (suc k) b ≡ on_option (λ es. declaration ∷ es) (parts_in k p.rest.now)

abbrev pub PartIs : List ℕ → Option Part → Type 0
PartIs b None = (k : ℕ) → 0 < length b → parts_in (suc k) b ≡ None
PartIs b (Some p) = PartSaid b p

-- Fingerprints.

-- no canonical text is so long: all of it has a fingerprint
abbrev pub longest_text : ℕ
longest_text = 81920

pub record WholePrint (t : List ℕ) (r : ℕ) : Type 0 where
  pub same : (p : OneRecord t) → r ≡ print_in longest_text p.declaration

-- Repeats.

-- the record of a declaration stands at a place
pub record RecordAt (b : List ℕ) (at : ℕ) (d : Declaration) : Type 0 where
  pub rest : List ℕ
  pub there : drop at b ≡ encode 4 d ++ rest
  pub well : well_formed d ≡ true

-- a declaration at a place, and its record
pub record OneAt (b : List ℕ) (at : ℕ) : Type 0 where
  pub declaration : Declaration
  pub one : RecordAt b at declaration

pub record ItsRecord (b : List ℕ) (at : ℕ) (t : List ℕ) : Type 0 where
  pub is : (d : Declaration) → RecordAt b at d → RecordOf t d

pub record AskedAt (b : List ℕ) (at : ℕ) (t : List ℕ) : Type 0 where
  pub declaration : Declaration
  pub one : RecordAt b at declaration
  pub declaration₁ : Declaration
  pub other : RecordOf t declaration₁

pub record RepeatsAt (b : List ℕ) (at : ℕ) (t : List ℕ) (r : Bool) : Type 0 where
  pub same : (p : AskedAt b at t) → r ≡ repeats p.declaration p.declaration₁

-- The walk.

-- the fingerprints and places that are noted are those of the declarations
abbrev pub NotedRecords : List ℕ → Notes → List Declaration → Type 0
NotedRecords b v ds = Noted (RecordAt b) longest_text v ds

-- declarations that are noted, and one more
pub record AskedNote (b : List ℕ) (at : ℕ) (t : List ℕ) (v : Notes) : Type 0 where
  pub declarations : List Declaration
  pub noted : NotedRecords b v declarations
  pub few : length declarations ≤ most_declarations
  pub declaration : Declaration
  pub one : RecordOf t declaration
  pub here : RecordAt b at declaration

-- it is noted, or there is no sheet
pub record NotedMore (b : List ℕ) (ds : List Declaration) (d : Declaration) (v : Notes) : Type 0 where
  pub noted : NotedRecords b v (ds ++ (d ∷ []))
  pub new : has ds d ≡ false
  pub few : length ds < most_declarations

abbrev pub Noting : List ℕ → List Declaration → Declaration → Notes → Option (Unit {0}) → Type 0
Noting b ds d v None = (es : List Declaration) → is_sheet (ds ++ (d ∷ es)) ≡ false
Noting b ds d v (Some u) = NotedMore b ds d v

abbrev pub NoteIs : List ℕ → ℕ → List ℕ → Notes → Notes → Option (Unit {0}) → Type 0
NoteIs b at t v w r = (p : AskedNote b at t v) → Noting b p.declarations p.declaration w r

-- a well-formed sheet, each of whose declarations is noted
pub record SheetNoted (b : List ℕ) (v : Notes) : Type 0 where
  pub declarations : List Declaration
  pub sheet : decode_sheet b ≡ Some declarations
  pub is : b ≡ encode_sheet declarations
  pub noted : NotedRecords b v declarations

abbrev pub IndexIs : List ℕ → Option Notes → Type 0
IndexIs b (Some v) = SheetNoted b v
IndexIs b None = decode_sheet b ≡ None
