-- What the steps into a dynamic kind ask and tell.
-- Assumes nothing.
use Rattle.std.specs.Prelude.{◌≡◌, ◌⊎◌, Bool, true, false, ◌&&◌, List, [], ◌∷◌, ◌++◌, ℕ, ◌*◌, ◌≤◌, ◌<◌, eqb, length, Option, None, Some}
use Rattle.std.specs.Borrow.{Bor}
use Rattle.kinds.specs.Bytes.{same}
use Rattle.kinds.specs.Kind.{Suffix, sized, Kind}
use Rattle.model.specs.Reading.{FieldKind}
use Rattle.record.specs.declared.Piece.{Piece}
use Rattle.record.specs.Encoded.{KindIs, SomeKind, SuffixesAre}
use Rattle.encoding.specs.Dynamic.{is_dynamic}
use Rattle.encoding.specs.Words.{word}
use Rattle.encoding.specs.Judge.{given, Slot, slot, word_at, has_word, follow, end_of, ends_at}
use Rattle.extent.specs.Walks.{tree_of}
use Rattle.extent.specs.Extents.{SuffixIs}
use Rattle.judge.specs.declared.Step.{Step}
use Rattle.judge.specs.declared.Step.TheVariants as step
use Rattle.judge.specs.declared.Open.{Open}
use Rattle.judge.specs.Fits.{fits, Data, DynamicIs, SomeDynamic}

-- Arrays.

-- l is the record of the last of suffixes
pub record LastIs (l : List ℕ) (ss : List Suffix) : Type 0 where
  pub front : List Suffix
  pub last : Suffix
  pub split : ss ≡ front ++ (last ∷ [])
  pub here : SuffixesAre l (last ∷ [])

pub record LastOf (b l : List ℕ) : Type 0 where
  pub some : 0 < length l
  pub all : (ss : List Suffix) → SuffixesAre b ss → LastIs l ss

-- records of an array: t of the kind of its elements, and p of its last suffix
pub record ArrayIs (t : List ℕ) (p : Piece) (k : FieldKind) (o : Suffix) : Type 0 where
  pub element : KindIs t k
  pub suffix : SuffixIs p o

abbrev pub SomeArray : List ℕ → Piece → Type 0
SomeArray t p = (k : FieldKind) × (o : Suffix) × ArrayIs t p k o

-- whether the data are an array of the kind k is told, or told by one of its elements: a part of the data
pub record Down (k : Kind) (whole : Bool) (part : List ℕ) : Type 0 where
  pub ready : Data part
  pub dynamic : is_dynamic k ≡ true
  pub same : whole ≡ fits k part

abbrev pub Tells : Option Step → Kind → Bool → Type 0
Tells None k whole = whole ≡ false
Tells (Some step.Done) k whole = whole ≡ true
Tells (Some (step.Down part)) k whole = Down k whole part.now

abbrev pub ArrayStep : List ℕ → Piece → List ℕ → Option Step → Type 0
ArrayStep t p d r = (k : FieldKind) (o : Suffix) → ArrayIs t p k o → Tells r (tree_of k) (fits (Kind.array (tree_of k) o) d)

-- the same of so many elements of a kind
abbrev pub SizedStep : List ℕ → List ℕ → ℕ → Option Step → Type 0
SizedStep t d n r = (k : FieldKind) → KindIs t k → Tells r (tree_of k) (fits (Kind.array (tree_of k) (sized n)) d)

-- and of elements of a dynamic kind whose heads are inside
pub record Heads (t d : List ℕ) (n : ℕ) : Type 0 where
  pub some : SomeDynamic t
  pub ready : Data d
  pub least : 1 ≤ n
  pub room : 32 * n ≤ length d

abbrev pub ElementsStep : List ℕ → List ℕ → ℕ → Option Step → Type 0
ElementsStep t d n r = (k : FieldKind) → DynamicIs t k → Tells r (tree_of k) (fits (Kind.array (tree_of k) (sized n)) d)

-- what the head at h says of where something ends that begins at s, if that is a place where it may end
abbrev pub HeadSays : List ℕ → ℕ → ℕ → Option ℕ → Type 0
HeadSays d s h None = (e : ℕ) → s ≤ e → e ≤ length d → (has_word d h && same (word_at d h) (word e)) ≡ false
HeadSays d s h (Some r) = (s ≤ r) × (r ≤ length d) × ((e : ℕ) → e ≤ length d → (has_word d h && same (word_at d h) (word e)) ≡ eqb e r)

pub record EndSays (d : List ℕ) (s h seam : ℕ) (r : Option ℕ) : Type 0 where
  pub next : h < seam → HeadSays d s h r
  pub last : seam ≤ h → r ≡ Some (length d)

-- one of two parts first
abbrev pub Sorted : List ℕ → List ℕ → List ℕ → List ℕ → Type 0
Sorted a b short long = ((short ≡ a) × (long ≡ b)) ⊎ ((short ≡ b) × (long ≡ a))

-- Tuples.

-- a member whose tail has begun, by the records of its kind, if there is one; and how long they are
abbrev pub OpenIs : Option (Bor (List ℕ)) → Option Kind → Type 0
OpenIs None m = m ≡ None
OpenIs (Some t) m = (k : FieldKind) × DynamicIs t.now k × (m ≡ Some (tree_of k))

abbrev pub open_length : Option (Bor (List ℕ)) → ℕ
open_length None = 0
open_length (Some t) = length t.now

-- where it ends, if its tail began at a place
abbrev pub ended : List ℕ → Option Kind → ℕ → Option ℕ
ended d None at = Some at
ended d (Some k) at = end_of d k at

pub record OpenAt (d : List ℕ) (o : Open) : Type 0 where
  pub some : (m : Option Kind) × OpenIs o.kind m
  pub head : o.head ≤ length d
  pub tail : o.tail ≤ length d

abbrev pub Closes : List ℕ → Open → ℕ → Bool → Type 0
Closes d o end r = (m : Option Kind) → OpenIs o.kind m → r ≡ ends_at end (ended d m o.tail)

-- whether the data are a tuple, when the open member and the members behind it are still to be judged
abbrev pub tuple_left : List ℕ → Option Kind → Open → List Slot → Bool
tuple_left d m o ss = ends_at (length d) (given (ended d m o.tail) (λ e. follow d ss 0 o.head e))

abbrev pub member_slot : List ℕ → FieldKind → Slot
member_slot d k = slot (is_dynamic (tree_of k)) (λ a. end_of d (tree_of k) a)

-- a member more is judged, of the kind that t says
pub record Went (d : List ℕ) (k : FieldKind) (m : Option Kind) (o p : Open) : Type 0 where
  pub begun : Option Kind
  pub is : OpenIs p.kind begun
  pub same : (ss : List Slot) → tuple_left d m o (member_slot d k ∷ ss) ≡ tuple_left d begun p ss

pub record Goes (t d : List ℕ) (o p : Open) : Type 0 where
  pub place : OpenAt d p
  pub small : (n : ℕ) → length t ≤ n → open_length o.kind ≤ n → open_length p.kind ≤ n
  pub all : (k : FieldKind) (m : Option Kind) → KindIs t k → OpenIs o.kind m → Went d k m o p

abbrev pub MemberStep : List ℕ → List ℕ → Open → Option Open → Type 0
MemberStep t d o None = (k : FieldKind) (m : Option Kind) → KindIs t k → OpenIs o.kind m → (ss : List Slot) → tuple_left d m o (member_slot d k ∷ ss) ≡ false
MemberStep t d o (Some p) = Goes t d o p

pub record MemberAt (t d : List ℕ) (o : Open) : Type 0 where
  pub some : SomeKind t
  pub ready : Data d
  pub before : OpenAt d o
