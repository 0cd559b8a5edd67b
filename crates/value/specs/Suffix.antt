-- A suffix by its length, where it has one.
-- Assumes nothing.
use Rattle.std.specs.Prelude.{◌≡◌, refl, ℕ, Option, None, Some}
use Rattle.kinds.specs.Kind.{Suffix, sized, unsized}

abbrev pub suffix_of : Option ℕ → Suffix
suffix_of None = unsized
suffix_of (Some n) = sized n

abbrev pub size_of : Suffix → Option ℕ
size_of unsized = None
size_of (sized n) = Some n

pub size-of_suffix : (o : Option ℕ) → size_of (suffix_of o) ≡ o
size-of_suffix None = refl
size-of_suffix (Some n) = refl
