-- Data that are one value, by the records of its kind.
-- Assumes nothing.
use Rattle.std.specs.Prelude.{◌≡◌, Bool, true, List, ℕ, ◌≤◌, length}
use Rattle.kinds.specs.Bytes.{all}
use Rattle.kinds.specs.Kind.{Kind}
use Rattle.model.specs.Tree.{Fields, kinds_of}
use Rattle.model.specs.Reading.{FieldKind}
use Rattle.record.specs.Encoded.{FieldsAre, KindIs}
use Rattle.encoding.specs.Dynamic.{is_dynamic}
use Rattle.encoding.specs.Words.{is_byte}
use Rattle.encoding.specs.Judge.{end_of, ends_at, is_encoding}
use Rattle.extent.specs.Walks.{tree_of}

-- the data are a value of the kind, and nothing stands behind it
unfoldable pub fits : Kind → List ℕ → Bool
fits k d = ends_at (length d) (end_of d k 0)

-- bytes within the limit
pub record Data (d : List ℕ) : Type 0 where
  pub small : length d ≤ 65536
  pub bytes : all is_byte d ≡ true

-- records t of a dynamic kind
pub record DynamicIs (t : List ℕ) (k : FieldKind) : Type 0 where
  pub is : KindIs t k
  pub dynamic : is_dynamic (tree_of k) ≡ true

abbrev pub SomeDynamic : List ℕ → Type 0
SomeDynamic t = (k : FieldKind) × DynamicIs t k

-- whether the data are a value of the kind, a tuple of the fields' kinds, and the values of a call
abbrev pub FitsKind : List ℕ → List ℕ → Bool → Type 0
FitsKind t d r = (k : FieldKind) → DynamicIs t k → r ≡ fits (tree_of k) d

abbrev pub FitsFields : List ℕ → List ℕ → Bool → Type 0
FitsFields b d r = (fs : Fields) → FieldsAre b fs → r ≡ fits (Kind.tuple (kinds_of fs)) d

abbrev pub Encoded : List ℕ → List ℕ → Bool → Type 0
Encoded b d r = (fs : Fields) → FieldsAre b fs → r ≡ is_encoding (kinds_of fs) d
