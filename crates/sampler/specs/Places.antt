-- The kinds and the lists that weights and indices name.
-- Assumes nothing.
use Rattle.std.specs.Prelude.{true, false, ℕ, length, slice_index_or}
use Rattle.kinds.specs.Bytes.{between}
use Rattle.kinds.specs.Kind.{Kind, Kinds, elementary, string, tuple, no_kind}
use Rattle.sampler.specs.Sampler.{the_four, sampled, listed}

-- how many kinds of a weight the sampler has
unfoldable pub count_of : ℕ → ℕ
count_of w = elim (between 1 4 w) [ true ↦ length (sampled w) | false ↦ 0 ]

-- the kind and the list of a weight at an index; `()` and the empty list where there is none
unfoldable pub kind_at : ℕ → ℕ → Kind
kind_at w i = slice_index_or (sampled w) i (tuple no_kind)

unfoldable pub list_at : ℕ → ℕ → Kinds
list_at w i = slice_index_or (listed w) i no_kind

-- the four by their index
unfoldable pub four_at : ℕ → Kind
four_at i = slice_index_or the_four i (elementary string)
