-- What the functions over parts of a record that are known to be encodings ask and leave.
-- Assumes nothing.
use Rattle.std.specs.Prelude.{◌≡◌, List, ◌++◌, ℕ, ◌+◌, ◌<◌, ◌≤◌, length, get_or, Option, None, Some}
use Rattle.model.specs.Tree.{Base, elementary, tuple, Field, field, Fields, no_field, more_fields}
use Rattle.model.specs.Reading.{FieldKind}
use Rattle.model.specs.Written.{suffixes_text, mark_text, name_text, written_base, written_field}
use Rattle.model.specs.Full.{bracketed}
use Rattle.record.specs.declared.Piece.{Piece}
use Rattle.record.specs.Parts.{PieceIs}
use Rattle.record.specs.Encoded.{FieldsAre, FieldIs, KindIs}
use Rattle.abi.specs.Writes.{Put}

-- b is the records of the fields fs, one behind the other, as far as it is bytes: every lent slice is, and so this is asked where there is none yet
abbrev pub ListIs : List ℕ → Fields → Type 0
ListIs b fs = ((i : ℕ) → get_or b i 0 < 256) → FieldsAre b fs

abbrev pub SomeList : List ℕ → Type 0
SomeList b = (fs : Fields) × ListIs b fs

-- p is the tuple that t begins with, if it begins with one
abbrev pub TupleIs : List ℕ → Option Piece → Type 0
TupleIs t (Some p) = PieceIs t (Some p) × (p.kind ≡ 0x9)
TupleIs t None = (p : Piece) × PieceIs t (Some p) × (p.kind ≡ 0x9 → ⊥)

-- What mark words and names take, in all tuples.
unfoldable mutual
  pub extra_base : Base → ℕ
  extra_base (elementary e) = 0
  extra_base (tuple fs) = extra_fields fs

  pub extra_field : Field → ℕ
  extra_field (field m nm b ss) = length (mark_text m) + length (name_text nm) + extra_base b

  pub extra_fields : Fields → ℕ
  extra_fields no_field = 0
  extra_fields (more_fields f fs) = extra_field f + extra_fields fs

-- the second follows from the first, and is there for `omega` to find
pub record ExtraFields (b : List ℕ) (r : ℕ) : Type 0 where
  pub all : (fs : Fields) → ListIs b fs → r ≡ extra_fields fs
  pub low : r ≤ length b

pub record ExtraField (body : List ℕ) (r : ℕ) : Type 0 where
  pub all : (f : Field) → FieldIs body f → r ≡ extra_field f
  pub low : r ≤ length body

pub record ExtraKind (t : List ℕ) (r : ℕ) : Type 0 where
  pub all : (k : FieldKind) → KindIs t k → r ≡ extra_base k.base
  pub low : r + 6 ≤ length t

-- What is written.

abbrev pub kind_written : FieldKind → List ℕ
kind_written k = written_base k.base ++ suffixes_text k.suffixes

-- something of which b is the encoding, with room for its text
pub record FieldsRoom (b out : List ℕ) : Type 0 where
  pub fields : Fields
  pub are : ListIs b fields
  pub room : length (bracketed fields) ≤ length out

pub record FieldRoom (body out : List ℕ) : Type 0 where
  pub field : Field
  pub is : FieldIs body field
  pub room : length (written_field field) ≤ length out

pub record KindRoom (t out : List ℕ) : Type 0 where
  pub kind : FieldKind
  pub is : KindIs t kind
  pub room : length (kind_written kind) ≤ length out

-- what each leaves for whatever the bytes are the encoding of; the second follows from the first, and is there for `omega` to find
pub record FieldsWrote (b out out₁ : List ℕ) (r : ℕ) : Type 0 where
  pub put : (fs : Fields) → ListIs b fs → length (bracketed fs) ≤ length out → Put (bracketed fs) out out₁ r
  pub inside : r ≤ length out

pub record FieldWrote (body out out₁ : List ℕ) (r : ℕ) : Type 0 where
  pub put : (f : Field) → FieldIs body f → length (written_field f) ≤ length out → Put (written_field f) out out₁ r
  pub inside : r ≤ length out

pub record KindWrote (t out out₁ : List ℕ) (r : ℕ) : Type 0 where
  pub put : (k : FieldKind) → KindIs t k → length (kind_written k) ≤ length out → Put (kind_written k) out out₁ r
  pub inside : r ≤ length out
