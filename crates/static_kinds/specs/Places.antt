-- Where values of static kinds end, by the records of their kinds.
-- Assumes nothing.
use Rattle.std.specs.Prelude.{◌≡◌, Bool, true, false, List, [], ◌∷◌, ℕ, ◌*◌, ◌≤◌, length, Option}
use Rattle.kinds.specs.Bytes.{all}
use Rattle.kinds.specs.Kind.{is_elementary, Elementary, Suffix, sized, unsized}
use Rattle.model.specs.Tree.{Base, elementary, tuple, Fields, base_kind, kinds_of}
use Rattle.model.specs.Reading.{FieldKind}
use Rattle.record.specs.declared.Piece.{Piece}
use Rattle.record.specs.Encoded.{FieldsAre, KindIs, SuffixesAre}
use Rattle.encoding.specs.Dynamic.{is_open_ended, is_dynamic, any_dynamic}
use Rattle.encoding.specs.Judge.{repeated, leaf, end_of, in_row}
use Rattle.words.specs.Places.{capped}
use Rattle.extent.specs.Walks.{elementary_code, elementary_body, tree_of}

-- fixed suffixes, and how many times what stands before them they say
abbrev pub is_sized : Suffix → Bool
is_sized (sized n) = true
is_sized unsized = false

unfoldable pub product : List Suffix → ℕ
product [] = 1
product (sized n ∷ ss) = n * product ss
product (unsized ∷ ss) = 0

pub record SizedAre (b : List ℕ) (ss : List Suffix) : Type 0 where
  pub is : SuffixesAre b ss
  pub fixed : all is_sized ss ≡ true

abbrev pub SomeSized : List ℕ → Type 0
SomeSized b = (ss : List Suffix) × SizedAre b ss

-- the second follows from the first, and is there for `omega` to find
pub record CopiesAre (b : List ℕ) (r : ℕ) : Type 0 where
  pub all : (ss : List Suffix) → SizedAre b ss → r ≡ capped (product ss)
  pub small : r ≤ 65537

-- a place in data that are within the limit
pub record Place (d : List ℕ) (at : ℕ) : Type 0 where
  pub inside : at ≤ length d
  pub small : length d ≤ 65536

-- t is the record of a well-formed elementary kind that is static
pub record LeafIs (t : Piece) (x : Elementary) : Type 0 where
  pub code : t.kind ≡ elementary_code x
  pub body_is : t.body.now ≡ elementary_body x
  pub well : is_elementary x ≡ true
  pub static : is_open_ended x ≡ false

abbrev pub SomeLeaf : Piece → Type 0
SomeLeaf t = (x : Elementary) × LeafIs t x

abbrev pub LeafEnds : Piece → List ℕ → ℕ → Option ℕ → Type 0
LeafEnds t d at r = (x : Elementary) → LeafIs t x → r ≡ leaf d x at

-- records b of fields of static kinds
pub record RowIs (b : List ℕ) (fs : Fields) : Type 0 where
  pub is : FieldsAre b fs
  pub static : any_dynamic (kinds_of fs) ≡ false

abbrev pub SomeRow : List ℕ → Type 0
SomeRow b = (fs : Fields) × RowIs b fs

abbrev pub RowEnds : List ℕ → List ℕ → ℕ → Option ℕ → Type 0
RowEnds b d at r = (fs : Fields) → RowIs b fs → r ≡ in_row d (kinds_of fs) at

-- t is the record of a static base
abbrev pub BaseIs : Piece → Base → Type 0
BaseIs t (elementary x) = LeafIs t x
BaseIs t (tuple fs) = (t.kind ≡ 0x9) × RowIs t.body.now fs

abbrev pub SomeBase : Piece → Type 0
SomeBase t = (b : Base) × BaseIs t b

abbrev pub BaseEnds : Piece → List ℕ → ℕ → Option ℕ → Type 0
BaseEnds t d at r = (b : Base) → BaseIs t b → r ≡ end_of d (base_kind b) at

-- the base so many times, as far as numbers are told apart
abbrev pub RunEnds : Piece → List ℕ → ℕ → ℕ → Option ℕ → Type 0
RunEnds t d at count r = (b : Base) → BaseIs t b → (n : ℕ) → count ≡ capped n → r ≡ repeated n (λ a. end_of d (base_kind b) a) at

-- records t of a static kind
pub record StaticIs (t : List ℕ) (k : FieldKind) : Type 0 where
  pub is : KindIs t k
  pub static : is_dynamic (tree_of k) ≡ false

abbrev pub SomeStatic : List ℕ → Type 0
SomeStatic t = (k : FieldKind) × StaticIs t k

-- so many values of it, one behind the other
abbrev pub ManyEnd : List ℕ → List ℕ → ℕ → ℕ → Option ℕ → Type 0
ManyEnd t d at n r = (k : FieldKind) → StaticIs t k → r ≡ repeated n (λ a. end_of d (tree_of k) a) at
