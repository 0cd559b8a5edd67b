-- What the two calls on call data answer, by what `decode` says of the record. `outcome` and `after` of model's Answer say the rest.
-- Assumes nothing.
use Rattle.std.specs.Prelude.{◌≡◌, Bool, true, false, ◌||◌, List, [], ◌∷◌, ◌++◌, ℕ, ◌≤◌, ltb, length, Option, None, Some}
use Rattle.kinds.specs.Kind.{Kind, Kinds, no_kind, more_kinds}
use Rattle.model.specs.declared.Refusal.TheVariants.{WrongSort, CallTooLong, NotAnEncoding}
use Rattle.model.specs.Tree.{Fields, Declaration, kinds_of}
use Rattle.model.specs.Layout.{little_endian}
use Rattle.model.specs.Record.{decode}
use Rattle.model.specs.Answer.{Output, writes, refuses}
use Rattle.model.specs.Calls.{of_record}
use Rattle.encoding.specs.Dynamic.{is_dynamic, head_length, heads_length}
use Rattle.encoding.specs.Values.{members, Values, are_values}
use Rattle.encoding.specs.Encoding.{enc}
use Rattle.encoding.specs.Judge.{is_encoding}

-- "16 also here for anything but a function"
abbrev pub inputs_of : Declaration → Option Kinds
inputs_of (Declaration.function m nm ins outs) = Some (kinds_of ins)
inputs_of (Declaration.constructor m ins) = None
inputs_of (Declaration.event a nm ins) = None
inputs_of (Declaration.error nm ins) = None

abbrev pub of_inputs : Option Kinds → (Kinds → Output) → Output
of_inputs None f = refuses WrongSort 0
of_inputs (Some ks) f = f ks

-- what f makes of the kinds of a function's inputs: "for records 15, 16"
unfoldable pub of_function : List ℕ → (Kinds → Output) → Output
of_function b f = of_record (decode b) (λ d. of_inputs (inputs_of d) f)

-- "24 total head, or in the second call the data, over 65,536 bytes, after 16 and before 20"
abbrev pub most_bytes : ℕ
most_bytes = 65536

-- "5 bytes each: 1 or 0, then the length, 4 bytes little-endian"
abbrev pub flag : Bool → ℕ
flag true = 1
flag false = 0

unfoldable pub head_bytes : Kind → List ℕ
head_bytes k = flag (is_dynamic k) ∷ little_endian 4 (head_length k)

-- "written in order"
unfoldable pub heads_bytes : Kinds → List ℕ
heads_bytes no_kind = []
heads_bytes (more_kinds k ks) = head_bytes k ++ heads_bytes ks

-- "For a function's inputs, tell per parameter whether it is dynamic, and its head length in bytes"
unfoldable pub heads_by : Kinds → Output
heads_by ks = elim (ltb most_bytes (heads_length ks)) [ true ↦ refuses CallTooLong 0 | false ↦ writes (heads_bytes ks) ]

unfoldable pub heads_output : List ℕ → Output
heads_output b = of_function b heads_by

-- "A second call judges the data by the same record, writing nothing."; "25, in the second call only, the data are no such encoding, after 24"
unfoldable pub judged_by : List ℕ → Kinds → Output
judged_by d ks =
    elim (ltb most_bytes (heads_length ks) || ltb most_bytes (length d)) [
      | true ↦ refuses CallTooLong 0
      | false ↦ elim (is_encoding ks d) [ true ↦ writes [] | false ↦ refuses NotAnEncoding 0 ]
    ]

unfoldable pub check_output : List ℕ → List ℕ → Output
check_output b d = of_function b (judged_by d)

-- the data are the encoding of some values of the inputs of the function that the record b says
pub record IsCall (b d : List ℕ) : Type 0 where
  pub mutability : ℕ
  pub name : List ℕ
  pub inputs : Fields
  pub outputs : Fields
  pub says : decode b ≡ Some (Declaration.function mutability name inputs outputs)
  pub values : Values
  pub good : are_values (kinds_of inputs) values ≡ true
  pub same : d ≡ enc (Kind.tuple (kinds_of inputs)) (members values)
  pub short : length d ≤ most_bytes
