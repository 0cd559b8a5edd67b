-- Parts of a record that are known to be encodings.
-- Assumes nothing.
use Rattle.std.specs.Prelude.{◌≡◌, true, List, ◌++◌, ℕ, ◌≤◌, length}
use Rattle.kinds.specs.Bytes.{all}
use Rattle.kinds.specs.Kind.{Suffix}
use Rattle.model.specs.declared.Sort.{Sort}
use Rattle.model.specs.Tree.{Field, field, Fields}
use Rattle.model.specs.Reading.{FieldKind}
use Rattle.model.specs.Layout.{little_endian}
use Rattle.model.specs.Record.{encode_name, encode_base, encode_suffixes, encode_fields, is_suffix, is_base, is_field, are_fields, longest_record}

-- a field's parts
abbrev pub mark_in : Field → ℕ
mark_in (field m nm b ss) = m

abbrev pub name_in : Field → List ℕ
name_in (field m nm b ss) = nm

abbrev pub kind_in : Field → FieldKind
kind_in (field m nm b ss) = record { base = b; suffixes = ss }

-- the body of a field's record
abbrev pub body_of : Field → List ℕ
body_of (field m nm b ss) = little_endian 2 m ++ (encode_name 4 nm ++ (encode_base 4 b ++ encode_suffixes 4 ss))

-- b is the records of well-formed fields, one behind the other
pub record FieldsAre (b : List ℕ) (fs : Fields) : Type 0 where
  pub same : b ≡ encode_fields 4 fs
  pub small : length b ≤ longest_record
  pub sort : Sort
  pub d : ℕ
  pub well : are_fields sort d fs ≡ true

-- body is the body of the record of a well-formed field
pub record FieldIs (body : List ℕ) (f : Field) : Type 0 where
  pub same : body ≡ body_of f
  pub small : length body ≤ longest_record
  pub sort : Sort
  pub d : ℕ
  pub well : is_field sort d f ≡ true

-- t is the records of a well-formed base and its suffixes
pub record KindIs (t : List ℕ) (k : FieldKind) : Type 0 where
  pub same : t ≡ encode_base 4 k.base ++ encode_suffixes 4 k.suffixes
  pub small : length t ≤ longest_record
  pub d : ℕ
  pub base-well : is_base d k.base ≡ true
  pub suffixes-well : all is_suffix k.suffixes ≡ true

-- some of them
abbrev pub SomeFields : List ℕ → Type 0
SomeFields b = (fs : Fields) × FieldsAre b fs

abbrev pub SomeField : List ℕ → Type 0
SomeField body = (f : Field) × FieldIs body f

abbrev pub SomeKind : List ℕ → Type 0
SomeKind t = (k : FieldKind) × KindIs t k

-- b is the records of well-formed suffixes, one behind the other
pub record SuffixesAre (b : List ℕ) (ss : List Suffix) : Type 0 where
  pub same : b ≡ encode_suffixes 4 ss
  pub small : length b ≤ longest_record
  pub well : all is_suffix ss ≡ true

abbrev pub SomeSuffixes : List ℕ → Type 0
SomeSuffixes b = (ss : List Suffix) × SuffixesAre b ss
