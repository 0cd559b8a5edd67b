-- What is told of kinds: whether they are dynamic, and how long their heads are, as far as lengths are told apart.
-- Assumes nothing.
use Rattle.std.specs.Prelude.{◌≡◌, Bool, ◌||◌, List, ℕ, ◌+◌, ◌≤◌, ◌<◌, ◌^◌}
use Rattle.kinds.specs.Kind.{Elementary, Suffix, sized, unsized, Kind, Kinds}
use Rattle.model.specs.Tree.{Fields, arrays, kinds_of}
use Rattle.model.specs.Reading.{FieldKind}
use Rattle.model.specs.Layout.{little_endian}
use Rattle.record.specs.declared.Piece.{Piece}
use Rattle.record.specs.Encoded.{FieldsAre, KindIs, SuffixesAre}
use Rattle.encoding.specs.Dynamic.{is_open_ended, is_dynamic, any_dynamic, head_length, heads_length}
use Rattle.words.specs.Places.{capped}
use Rattle.extent.specs.declared.Extent.{Extent}
use Rattle.extent.specs.Walks.{elementary_code, tree_of}

-- of one kind
pub record ExtentIs (k : Kind) (e : Extent) : Type 0 where
  pub dynamic : e.dynamic ≡ is_dynamic k
  pub head : e.head ≡ capped (head_length k)

-- of several: whether one of them is dynamic, and how long their heads are together
pub record ExtentsAre (ks : Kinds) (e : Extent) : Type 0 where
  pub dynamic : e.dynamic ≡ any_dynamic ks
  pub head : e.head ≡ capped (heads_length ks)

-- of an elementary kind, by the number of its record
abbrev pub OpenEnded : ℕ → Bool → Type 0
OpenEnded k r = (e : Elementary) → k ≡ elementary_code e → r ≡ is_open_ended e

-- a tuple of kinds
abbrev pub Grouped : Extent → Extent → Type 0
Grouped e r = (ks : Kinds) → ExtentsAre ks e → ExtentIs (Kind.tuple ks) r

-- one kind more
pub record Joined (e one r : Extent) : Type 0 where
  pub dynamic : r.dynamic ≡ (e.dynamic || one.dynamic)
  pub head : r.head ≡ capped (e.head + one.head)

-- p is a suffix's record: "A fixed suffix: 8 bytes. B open suffix: no body."
abbrev pub SuffixIs : Piece → Suffix → Type 0
SuffixIs p (sized n) = (p.kind ≡ 0xA) × (p.body.now ≡ little_endian 8 n) × (n < 2 ^ 64)
SuffixIs p unsized = p.kind ≡ 0xB

abbrev pub SomeSuffix : Piece → Type 0
SomeSuffix p = (s : Suffix) × SuffixIs p s

-- an array, by the record of its suffix
abbrev pub Suffixed : Piece → Extent → Extent → Type 0
Suffixed p e r = (k : Kind) (s : Suffix) → SuffixIs p s → ExtentIs k e → ExtentIs (Kind.array k s) r

-- the same with all suffixes up to the end, innermost first
abbrev pub AllSuffixed : List ℕ → Extent → Extent → Type 0
AllSuffixed b e r = (k : Kind) (ss : List Suffix) → SuffixesAre b ss → ExtentIs k e → ExtentIs (arrays k ss) r

-- what records of a base and its suffixes say, and of fields; that heads are small follows, and is there for `omega` to find
pub record ExtentOf (t : List ℕ) (e : Extent) : Type 0 where
  pub all : (k : FieldKind) → KindIs t k → ExtentIs (tree_of k) e
  pub small : e.head ≤ 65537

pub record ExtentsOf (b : List ℕ) (e : Extent) : Type 0 where
  pub all : (fs : Fields) → FieldsAre b fs → ExtentsAre (kinds_of fs) e
  pub small : e.head ≤ 65537
