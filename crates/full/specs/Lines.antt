-- The line that a record stands for, and what its writers ask and leave.
-- Assumes nothing.
use Rattle.std.specs.Prelude.{◌≡◌, Bool, true, false, List, ◌++◌, ℕ, ◌+◌, ◌*◌, ◌≤◌, leb, eqb, length, Option, None, Some}
use Rattle.kinds.specs.Kind.{Kind, kind_text}
use Rattle.model.specs.Tree.{Fields, no_field, kinds_of, Declaration}
use Rattle.model.specs.Record.{longest_record}
use Rattle.model.specs.Full.{bracketed, returns_text, full_text}
use Rattle.record.specs.declared.Measured.{Measured}
use Rattle.abi.specs.Writes.{Put}
use Rattle.full.specs.declared.Line.{Line}
use Rattle.full.specs.Parts.{ListIs}

-- the records of the fields fs, and how long their kinds are in brackets
pub record Listed (l : Measured) (fs : Fields) : Type 0 where
  pub is : ListIs l.bytes.now fs
  pub long : l.text ≡ length (kind_text (Kind.tuple (kinds_of fs)))
  pub small : l.text ≤ 2 * length l.bytes.now + 2
  pub few : length l.bytes.now ≤ longest_record

-- a list, if there is any field in it
abbrev pub filled : Option Measured → Option Measured
filled None = None
filled (Some l) = elim (eqb (length l.bytes.now) 0) [ true ↦ None | false ↦ Some l ]

-- the same of outputs, where there are any
abbrev pub Returned : Option Measured → Fields → Type 0
Returned None fs = fs ≡ no_field
Returned (Some l) fs = Listed l fs × (fs ≡ no_field → ⊥)

abbrev pub SomeListed : Measured → Type 0
SomeListed l = (fs : Fields) × Listed l fs

abbrev pub SomeReturns : Option Measured → Type 0
SomeReturns o = (fs : Fields) × Returned o fs

-- how long they are in full; the second follows from the first, and is there for `omega` to find
pub record ListLong (l : Measured) (r : ℕ) : Type 0 where
  pub all : (fs : Fields) → Listed l fs → r ≡ length (bracketed fs)
  pub low : r ≤ 3 * longest_record + 2

pub record ReturnsLong (o : Option Measured) (r : ℕ) : Type 0 where
  pub all : (fs : Fields) → Returned o fs → r ≡ length (returns_text fs)
  pub low : r ≤ 3 * longest_record + 11

-- there is room for the outputs
pub record ReturnsRoom (o : Option Measured) (out : List ℕ) : Type 0 where
  pub fields : Fields
  pub are : Returned o fields
  pub room : length (returns_text fields) ≤ length out

-- what is left; the second follows from the first, and is there for `omega` to find
pub record ReturnsWrote (o : Option Measured) (out out₁ : List ℕ) (r : ℕ) : Type 0 where
  pub put : (fs : Fields) → Returned o fs → length (returns_text fs) ≤ length out → Put (returns_text fs) out out₁ r
  pub inside : r ≤ length out

-- what a line says
pub record IsLine (l : Line) : Type 0 where
  pub ins : Fields
  pub outs : Fields
  pub inputs : Listed l.inputs ins
  pub outputs : Returned l.outputs outs
  pub short : length l.front.now + length l.name.now ≤ 2 * longest_record

-- and its text
abbrev pub line_text : (l : Line) → IsLine l → List ℕ
line_text l p = l.front.now ++ (l.name.now ++ (bracketed p.ins ++ (l.back.now ++ returns_text p.outs)))

abbrev pub LineLong : Line → ℕ → Type 0
LineLong l r = (p : IsLine l) → r ≡ length (line_text l p)

-- there is room for it
pub record LineRoom (l : Line) (out : List ℕ) : Type 0 where
  pub is : IsLine l
  pub room : length (line_text l is) ≤ length out

abbrev pub LineWrote : Line → List ℕ → List ℕ → ℕ → Type 0
LineWrote l out out₁ r = (p : IsLine l) → length (line_text l p) ≤ length out → Put (line_text l p) out out₁ r

-- it is the line of what a record says
pub record LineIs (o : Option Declaration) (l : Line) : Type 0 where
  pub tree : Declaration
  pub same : o ≡ Some tree
  pub line : IsLine l
  pub text : full_text tree ≡ line_text l line

abbrev pub LineOf : Option Declaration → Option Line → Type 0
LineOf o None = o ≡ None
LineOf o (Some l) = LineIs o l

-- whether it fits a room
abbrev pub LineFits : Option Declaration → Line → ℕ → Bool → Type 0
LineFits o l room r = (w : LineIs o l) → r ≡ leb (length (line_text l w.line)) room
