-- What a text says, as a tree; and its kinds and name, without what demand 3 forgets.
-- Assumes nothing.
use Rattle.std.specs.Prelude.{List, [], ◌∷◌, ◌++◌, ℕ, Option, None, Some}
use Rattle.kinds.specs.Kind.{Elementary, Suffix, Kind, Kinds, no_kind, more_kinds, Prototype}
use Rattle.kinds.specs.Signatures.{Signature}

-- "A field is a kind, then a mark, then an optional name." The kind is a base, elementary or a tuple of fields, and its suffixes, innermost
-- first; the mark is a modifier of the parameter, by the record's number; an absent name is empty
mutual
  pub data Base : Type 0 where
    elementary : Elementary → Base
    tuple : Fields → Base

  pub data Field : Type 0 where
    field : ℕ → List ℕ → Base → List Suffix → Field

  pub data Fields : Type 0 where
    no_field : Fields
    more_fields : Field → Fields → Fields

-- "mark, 2 bytes (1 indexed, else 0)". Order 1: "The field's mark gets two more values: 2 calldata, 3 memory."
abbrev pub unmarked : ℕ
unmarked = 0

abbrev pub indexed : ℕ
indexed = 1

abbrev pub in_calldata : ℕ
in_calldata = 2

abbrev pub in_memory : ℕ
in_memory = 3

-- "mutability, 2 bytes (0 pure, 1 view, 2 none stated, 3 payable)"
abbrev pub is_pure : ℕ
is_pure = 0

abbrev pub is_view : ℕ
is_view = 1

abbrev pub not_stated : ℕ
not_stated = 2

abbrev pub is_payable : ℕ
is_payable = 3

-- a function: mutability, name, inputs, outputs; a constructor: mutability, inputs; an event: 1 if anonymous, name, inputs; an error: name, inputs
pub data Declaration : Type 0 where
  function : ℕ → List ℕ → Fields → Fields → Declaration
  constructor : ℕ → Fields → Declaration
  event : ℕ → List ℕ → Fields → Declaration
  error : List ℕ → Fields → Declaration

-- a kind with suffixes, innermost first, is an array of an array ...
unfoldable pub arrays : Kind → List Suffix → Kind
arrays k [] = k
arrays k (s ∷ ss) = arrays (Kind.array k s) ss

-- "Kinds in demand 3 are those of the inputs, in order, without field names, marks or outputs."
unfoldable mutual
  pub base_kind : Base → Kind
  base_kind (elementary e) = Kind.elementary e
  base_kind (tuple fs) = Kind.tuple (kinds_of fs)

  pub kind_of : Field → Kind
  kind_of (field m nm b ss) = arrays (base_kind b) ss

  pub kinds_of : Fields → Kinds
  kinds_of no_field = no_kind
  kinds_of (more_fields f fs) = more_kinds (kind_of f) (kinds_of fs)

-- the field of a kind, without a mark and names, as the kind call writes it: its suffixes, innermost first, and what they stand behind
unfoldable pub suffixes_of : Kind → List Suffix
suffixes_of (Kind.elementary e) = []
suffixes_of (Kind.tuple ks) = []
suffixes_of (Kind.array k s) = suffixes_of k ++ (s ∷ [])

unfoldable mutual
  pub base_of : Kind → Base
  base_of (Kind.elementary e) = elementary e
  base_of (Kind.tuple ks) = tuple (fields_of ks)
  base_of (Kind.array k s) = base_of k

  pub fields_of : Kinds → Fields
  fields_of no_kind = no_field
  fields_of (more_kinds k ks) = more_fields (field unmarked [] (base_of k) (suffixes_of k)) (fields_of ks)

abbrev pub field_of : Kind → Field
field_of k = field unmarked [] (base_of k) (suffixes_of k)

-- the name and kinds of a function, event or error; a constructor has none
unfoldable pub name_kinds : Declaration → Option Prototype
name_kinds (function m nm ins outs) = Some (record { name = nm; kinds = kinds_of ins })
name_kinds (constructor m ins) = None
name_kinds (event a nm ins) = Some (record { name = nm; kinds = kinds_of ins })
name_kinds (error nm ins) = Some (record { name = nm; kinds = kinds_of ins })

-- Order 13: "name, inputs and outputs, kinds only", of a function
unfoldable pub signature_of : Declaration → Option Signature
signature_of (function m nm ins outs) = Some (record { name = nm; inputs = kinds_of ins; outputs = kinds_of outs })
signature_of (constructor m ins) = None
signature_of (event a nm ins) = None
signature_of (error nm ins) = None
