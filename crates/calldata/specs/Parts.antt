-- What the functions over a function's inputs ask and leave.
-- Assumes nothing.
use Rattle.std.specs.Prelude.{◌≡◌, List, ℕ, ◌≤◌, ◌<◌, length, Some}
use Rattle.kinds.specs.Kind.{Kinds}
use Rattle.model.specs.declared.Sort.TheVariants.{Parameter}
use Rattle.model.specs.declared.Refusal.{Refusal}
use Rattle.model.specs.declared.Refusal.TheVariants.{CallTooLong}
use Rattle.model.specs.Tree.{Fields, kinds_of}
use Rattle.model.specs.Record.{decode_fields, longest_record}
use Rattle.model.specs.Answer.{Output, refuses}
use Rattle.record.specs.Encoded.{FieldsAre}
use Rattle.encoding.specs.Dynamic.{heads_length}
use Rattle.abi.specs.Writes.{Put}
use Rattle.calldata.specs.Calls.{of_function, most_bytes, heads_bytes, heads_output, check_output}

-- a function's fields that are read of b
pub record FieldsRead (b : List ℕ) (fs : Fields) : Type 0 where
  pub same : decode_fields 4 Parameter b ≡ Some fs
  pub short : length b ≤ longest_record

abbrev pub SomeRead : List ℕ → Type 0
SomeRead b = (fs : Fields) × FieldsRead b fs

-- the inputs of the function that the record b says, and why there are none
pub record InputsIn (b bytes : List ℕ) : Type 0 where
  pub fields : Fields
  pub read : FieldsRead bytes fields
  pub same : (f : Kinds → Output) → of_function b f ≡ f (kinds_of fields)

abbrev pub NoInputs : List ℕ → Refusal → Type 0
NoInputs b w = (f : Kinds → Output) → of_function b f ≡ refuses w 0

-- fields whose heads are within the limit, and fields whose heads are not
pub record ShortAre (b : List ℕ) (fs : Fields) : Type 0 where
  pub is : FieldsAre b fs
  pub small : heads_length (kinds_of fs) ≤ most_bytes

pub record Limited (b bytes : List ℕ) : Type 0 where
  pub all : (fs : Fields) → FieldsRead b fs → ShortAre bytes fs

pub record TooLong (b : List ℕ) (w : Refusal) : Type 0 where
  pub why : w ≡ CallTooLong
  pub all : (fs : Fields) → FieldsRead b fs → most_bytes < heads_length (kinds_of fs)

-- the inputs that a call is about, and why both calls refuse
pub record ShortIn (b bytes : List ℕ) : Type 0 where
  pub fields : Fields
  pub short : ShortAre bytes fields
  pub same : (f : Kinds → Output) → of_function b f ≡ f (kinds_of fields)

pub record Refuses (b : List ℕ) (w : Refusal) : Type 0 where
  pub heads : heads_output b ≡ refuses w 0
  pub check : (d : List ℕ) → check_output b d ≡ refuses w 0

-- how many bytes the heads of fields take
abbrev pub HeadsLong : List ℕ → ℕ → Type 0
HeadsLong b r = (fs : Fields) → FieldsAre b fs → r ≡ length (heads_bytes (kinds_of fs))

-- the same with room for them
pub record HeadsRoom (b out : List ℕ) (fs : Fields) : Type 0 where
  pub short : ShortAre b fs
  pub room : length (heads_bytes (kinds_of fs)) ≤ length out

abbrev pub SomeHeads : List ℕ → List ℕ → Type 0
SomeHeads b out = (fs : Fields) × HeadsRoom b out fs

abbrev pub HeadsWrote : List ℕ → List ℕ → List ℕ → ℕ → Type 0
HeadsWrote b out out₁ r = (fs : Fields) → HeadsRoom b out fs → Put (heads_bytes (kinds_of fs)) out out₁ r
