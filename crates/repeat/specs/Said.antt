-- What a declaration's canonical text says, where it stands in the record. A constructor has no such text.
-- Assumes nothing.
use Rattle.std.specs.Prelude.{◌≡◌, true, List, ◌++◌, ℕ, ◌≤◌, length, Option, None, Some}
use Rattle.kinds.specs.Bytes.{is_word}
use Rattle.kinds.specs.Kind.{canonical}
use Rattle.model.specs.declared.Sort.{Sort}
use Rattle.model.specs.Tree.{Fields, Declaration, kinds_of}
use Rattle.model.specs.Reading.{deepest}
use Rattle.model.specs.Record.{encode_list, are_fields, longest_record}
use Rattle.model.specs.Line.{canonical_text}
use Rattle.record.specs.declared.Piece.{Piece}
use Rattle.record.specs.Encoded.{FieldsAre}
use Rattle.abi.specs.Writes.{line_from}
use Rattle.repeat.specs.declared.Line.{Line}
use Rattle.repeat.specs.Prints.{OneRecord}

-- n is its name, with its list behind it
pub record NameSaid (d : Declaration) (n : Piece) : Type 0 where
  pub fields : Fields
  pub sort : Sort
  pub rest : List ℕ
  pub behind : n.rest.now ≡ encode_list 4 fields ++ rest
  pub small : length n.rest.now ≤ longest_record
  pub well : are_fields sort deepest fields ≡ true
  pub word : is_word n.body.now ≡ true
  pub text : canonical_text d ≡ Some (canonical (record { name = n.body.now; kinds = kinds_of fields }))

abbrev pub NameOf : Declaration → Option Piece → Type 0
NameOf d None = canonical_text d ≡ None
NameOf d (Some n) = NameSaid d n

abbrev pub NameIs : List ℕ → Option Piece → Type 0
NameIs t r = (p : OneRecord t) → NameOf p.declaration r

-- l is its name and the fields of its list
pub record LineSaid (d : Declaration) (l : Line) : Type 0 where
  pub fields : Fields
  pub listed : FieldsAre l.fields.now fields
  pub word : is_word l.name.now ≡ true
  pub text : canonical_text d ≡ Some (canonical (record { name = l.name.now; kinds = kinds_of fields }))
  pub sort : Sort
  pub same : line_from sort deepest l.name.now l.fields.now ≡ canonical_text d

abbrev pub LineOf : Declaration → Option Line → Type 0
LineOf d None = canonical_text d ≡ None
LineOf d (Some l) = LineSaid d l

abbrev pub LineIs : List ℕ → Option Line → Type 0
LineIs t r = (p : OneRecord t) → LineOf p.declaration r
