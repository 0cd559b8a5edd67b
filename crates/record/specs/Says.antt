-- What the check answers, by the definitions.
-- Assumes nothing.
use Rattle.std.specs.Prelude.{◌≡◌, List, ℕ, ◌+◌, ◌*◌, ◌≤◌, length, Option, None, Some, IfSome}
use Rattle.kinds.specs.Kind.{Kind, kind_text}
use Rattle.model.specs.declared.Sort.{Sort}
use Rattle.model.specs.declared.Sort.TheVariants.{Plain, Parameter, Event as EventSort}
use Rattle.model.specs.declared.Keyword.{Keyword}
use Rattle.model.specs.declared.Keyword.TheVariants as keyword
use Rattle.model.specs.Tree.{Field, Fields, kinds_of, Declaration}
use Rattle.model.specs.Reading.{deepest}
use Rattle.model.specs.Record.{name_from, list_from, decode_fields, longest_record}
use Rattle.model.specs.Line.{field_text, field_name}
use Rattle.record.specs.declared.Measured.{Measured}
use Rattle.record.specs.declared.Listed.{Listed}
use Rattle.record.specs.declared.Piece.{Piece}
use Rattle.record.specs.declared.Checked.{Checked}
use Rattle.record.specs.declared.Checked.TheVariants as checked
use Rattle.record.specs.Parts.{Covers, StandsIn}
use Rattle.record.specs.Texts.{kind_from}

-- nm is the name that bytes spell
pub record NameSaid (bytes nm : List ℕ) : Type 0 where
  pub same : bytes ≡ nm
  pub small : length bytes ≤ longest_record

-- l is the fields fs of a list of a sort, with the length of their kinds in brackets
pub record ListSaid (sort : Sort) (l : Measured) (fs : Fields) : Type 0 where
  pub same : decode_fields 4 sort l.bytes.now ≡ Some fs
  pub long : l.text ≡ length (kind_text (Kind.tuple (kinds_of fs)))
  pub small : l.text ≤ 2 * length l.bytes.now + 2
  pub short : length l.bytes.now ≤ longest_record

-- l is the base and the suffixes of the field f, with the length of its kind
pub record KindSaid (l : Measured) (f : Field) : Type 0 where
  pub same : kind_from deepest l.bytes.now ≡ Some (field_text f)
  pub long : l.text ≡ length (field_text f)
  pub short : length l.bytes.now ≤ longest_record

-- o is the declaration that a record says
pub record FunctionSaid (o : Option Declaration) (nm : List ℕ) (i : Measured) (u : Option Measured) : Type 0 where
  pub mutability : ℕ
  pub name : List ℕ
  pub ins : Fields
  pub outs : Fields
  pub returned : Measured
  pub same : o ≡ Some (Declaration.function mutability name ins outs)
  pub named : NameSaid nm name
  pub inputs : ListSaid Parameter i ins
  pub some : u ≡ Some returned
  pub outputs : ListSaid Parameter returned outs

pub record ConstructorSaid (o : Option Declaration) (i : Measured) : Type 0 where
  pub mutability : ℕ
  pub ins : Fields
  pub same : o ≡ Some (Declaration.constructor mutability ins)
  pub inputs : ListSaid Parameter i ins

pub record EventSaid (o : Option Declaration) (nm : List ℕ) (i : Measured) (u : Option Measured) : Type 0 where
  pub anonymous : ℕ
  pub name : List ℕ
  pub ins : Fields
  pub same : o ≡ Some (Declaration.event anonymous name ins)
  pub named : NameSaid nm name
  pub inputs : ListSaid EventSort i ins
  pub none : u ≡ None

pub record ErrorSaid (o : Option Declaration) (nm : List ℕ) (i : Measured) (u : Option Measured) : Type 0 where
  pub name : List ℕ
  pub ins : Fields
  pub same : o ≡ Some (Declaration.error name ins)
  pub named : NameSaid nm name
  pub inputs : ListSaid Plain i ins
  pub none : u ≡ None

-- the same by its keyword; a constructor has no name
abbrev pub Declares : Keyword → Option Declaration → List ℕ → Measured → Option Measured → Type 0
Declares keyword.Function o nm i u = FunctionSaid o nm i u
Declares keyword.Constructor o nm i u = ⊥
Declares keyword.Event o nm i u = EventSaid o nm i u
Declares keyword.Error o nm i u = ErrorSaid o nm i u

-- f is the field that a record says by itself
pub record FieldSaid (f : Option Field) (nm : List ℕ) (l : Measured) : Type 0 where
  pub tree : Field
  pub same : f ≡ Some tree
  pub named : NameSaid nm (field_name tree)
  pub kind : KindSaid l tree

-- the cases of the answer, where o is the declaration that a record says, if it is one, and f the field
abbrev pub Says : Option Declaration → Option Field → Option Checked → Type 0
Says o f (Some (checked.Declared k nm i u)) = Declares k o nm.now i u × (f ≡ None)
Says o f (Some (checked.Constructor i)) = ConstructorSaid o i × (f ≡ None)
Says o f (Some (checked.Field nm l)) = (o ≡ None) × FieldSaid f nm.now l
Says o f None = (o ≡ None) × (f ≡ None)

-- the parts that an answer holds stand at places of the record b; which of them, where the same bytes stand twice, is not said
abbrev pub PartsStand : List ℕ → Option Checked → Type 0
PartsStand b (Some (checked.Declared k nm i u)) = StandsIn b nm.now × StandsIn b i.bytes.now × IfSome u (λ l. StandsIn b l.bytes.now)
PartsStand b (Some (checked.Constructor i)) = StandsIn b i.bytes.now
PartsStand b (Some (checked.Field nm l)) = StandsIn b nm.now × StandsIn b l.bytes.now
PartsStand b None = Unit {0}

-- Parts of a declaration, as the code takes them apart: what is read behind each goes on with what stands behind it.

-- the name that b begins with
abbrev pub NameIs : List ℕ → Option Piece → Type 0
NameIs b None = (f : List ℕ → List ℕ → Option Declaration) → name_from 4 b f ≡ None
NameIs b (Some p) = ((f : List ℕ → List ℕ → Option Declaration) → name_from 4 b f ≡ f p.body.now p.rest.now) × Covers b (Some p)

-- the name that b begins with; its bytes, and those behind it, stand at places of b
abbrev pub NamePlaced : List ℕ → Option Piece → Type 0
NamePlaced b None = NameIs b None
NamePlaced b (Some p) = NameIs b (Some p) × StandsIn b p.body.now × StandsIn b p.rest.now

-- the list of a sort that b begins with
pub record ListRead (sort : Sort) (b : List ℕ) (l : Listed) : Type 0 where
  pub fs : Fields
  pub goes : (f : Fields → List ℕ → Option Declaration) → list_from 4 sort b f ≡ f fs l.rest.now
  pub said : length b ≤ longest_record → ListSaid sort l.fields fs
  pub less : length l.rest.now ≤ length b

abbrev pub ListIs : Sort → List ℕ → Option Listed → Type 0
ListIs sort b None = (f : Fields → List ℕ → Option Declaration) → list_from 4 sort b f ≡ None
ListIs sort b (Some l) = ListRead sort b l

-- the list of a sort that b begins with; its bytes, and those behind it, stand at places of b
abbrev pub ListPlaced : Sort → List ℕ → Option Listed → Type 0
ListPlaced sort b None = ListIs sort b None
ListPlaced sort b (Some l) = ListIs sort b (Some l) × StandsIn b l.fields.bytes.now × StandsIn b l.rest.now
