-- The parts that kinds and lists of the sampler are taken apart into.
-- Assumes nothing.
use Rattle.std.specs.Prelude.{Option, None, Some}
use Rattle.kinds.specs.Kind.{Kind, Kinds, tuple, array, unsized, no_kind, more_kinds}
use Rattle.sampler.specs.declared.KindAt.{KindAt}
use Rattle.sampler.specs.declared.ListAt.{ListAt}
use Rattle.sampler.specs.declared.Part.{Part}
use Rattle.sampler.specs.declared.Part.TheVariants.{Word, Array, Tuple}
use Rattle.sampler.specs.Places.{kind_at, list_at, four_at}

-- the kind that a part makes
abbrev pub part_kind : Part → Kind
part_kind (Word i) = four_at i
part_kind (Array k) = array (kind_at k.weight k.index) unsized
part_kind (Tuple ks) = tuple (list_at ks.weight ks.index)

-- the list that a first component and the list behind it make, if there are any
abbrev pub part_list : Option (KindAt × ListAt) → Kinds
part_list None = no_kind
part_list (Some (k, ks)) = more_kinds (kind_at k.weight k.index) (list_at ks.weight ks.index)
