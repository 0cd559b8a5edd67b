-- What the lines ask of a record that was checked, and what they leave.
-- Assumes nothing.
use Rattle.std.specs.Prelude.{◌≡◌, List, ◌++◌, ℕ, Option, None, Some}
use Rattle.kinds.specs.Bytes.{ascii}
use Rattle.kinds.specs.Kind.{Kind, kind_text}
use Rattle.model.specs.declared.Sort.{Sort}
use Rattle.model.specs.Tree.{Field, Fields, kinds_of}
use Rattle.model.specs.Line.{field_text}
use Rattle.record.specs.declared.Measured.{Measured}
use Rattle.record.specs.Says.{NameSaid, ListSaid, KindSaid}
use Rattle.model.specs.Answer.{writes, refuses, Answer}
use Rattle.model.specs.declared.Refusal.{Refusal}
use Rattle.model.specs.declared.Refusal.TheVariants.{WrongSort}
use Rattle.model.specs.Calls.{canonical_output, signature_output}
use Rattle.layout.specs.Answers.{Ends}

-- what a declaration's record says, as far as its canonical text goes
pub record Lined (nm : List ℕ) (l : Measured) : Type 0 where
  pub name : List ℕ
  pub sort : Sort
  pub fields : Fields
  pub named : NameSaid nm name
  pub listed : ListSaid sort l fields

unfoldable pub line_of : {nm : List ℕ} {l : Measured} → Lined nm l → List ℕ
line_of p = p.name ++ kind_text (Kind.tuple (kinds_of p.fields))

abbrev pub LineEnds : List ℕ → Measured → List ℕ → List ℕ → Answer → Type 0
LineEnds nm l t t₁ r = (p : Lined nm l) → Ends (writes (line_of p)) t t₁ r

-- and as far as its signature goes
pub record Signed (nm : List ℕ) (i o : Measured) : Type 0 where
  pub line : Lined nm i
  pub sort : Sort
  pub outputs : Fields
  pub listed : ListSaid sort o outputs

unfoldable pub signature_of : {nm : List ℕ} {i o : Measured} → Signed nm i o → List ℕ
signature_of p = line_of p.line ++ (ascii ":" ++ kind_text (Kind.tuple (kinds_of p.outputs)))

abbrev pub SignatureEnds : List ℕ → Measured → Measured → List ℕ → List ℕ → Answer → Type 0
SignatureEnds nm i o t t₁ r = (p : Signed nm i o) → Ends (writes (signature_of p)) t t₁ r

-- what a field's record says, as far as its kind goes
pub record Kinded (l : Measured) : Type 0 where
  pub field : Field
  pub said : KindSaid l field

abbrev pub KindEnds : Measured → List ℕ → List ℕ → Answer → Type 0
KindEnds l t t₁ r = (p : Kinded l) → Ends (writes (field_text p.field)) t t₁ r

-- a declaration that has a name: its canonical text and its signature, which is a function's alone
abbrev pub SignatureSaid : (b nm : List ℕ) (i : Measured) → Option Measured → Type 0
SignatureSaid b nm i None = signature_output b ≡ refuses WrongSort 0
SignatureSaid b nm i (Some o) = (p : Signed nm i o) × (signature_output b ≡ writes (signature_of p))

pub record Declared (b nm : List ℕ) (i : Measured) (o : Option Measured) : Type 0 where
  pub line : Lined nm i
  pub canonical : canonical_output b ≡ writes (line_of line)
  pub signature : SignatureSaid b nm i o

-- anything else
pub record Undeclared (b : List ℕ) (w : Refusal) : Type 0 where
  pub canonical : canonical_output b ≡ refuses w 0
  pub signature : signature_output b ≡ refuses w 0
