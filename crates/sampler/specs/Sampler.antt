-- Order 14: every small kind by its weight and its index, and what the sampler writes.
-- Assumes nothing.
use Rattle.std.specs.Prelude.{true, false, List, [], ◌∷◌, ◌++◌, map, ℕ, zero, suc, ◌+◌, ◌*◌, eqb, Option, None, Some, slice_get}
use Rattle.kinds.specs.Bytes.{between}
use Rattle.kinds.specs.Kind.{bits, Elementary, int, uint, fixed_bytes, address, bool, function, bytes, string, sized, unsized, Kind, elementary, tuple, array, Kinds, no_kind, more_kinds, kind_text}
use Rattle.model.specs.declared.Refusal.TheVariants.{NoSuchSample}
use Rattle.model.specs.Record.{on_option}
use Rattle.model.specs.Answer.{Output, writes, refuses}

-- Weight. Kinds that the sentences do not name have none.

-- "`address`, `bool`, `uint256` and `string` weigh 1"
unfoldable pub elementary_weight : Elementary → Option ℕ
elementary_weight (int m) = None
elementary_weight (uint (bits m)) = elim (eqb m 256) [ true ↦ Some 1 | false ↦ None ]
elementary_weight (fixed_bytes m) = None
elementary_weight address = Some 1
elementary_weight bool = Some 1
elementary_weight function = None
elementary_weight bytes = None
elementary_weight string = Some 1

-- both weights together
abbrev pub together : Option ℕ → Option ℕ → Option ℕ
together None v = None
together (Some w) None = None
together (Some w) (Some v) = Some (w + v)

-- "`[]` adds 1; a tuple weighs 1 plus its components"
unfoldable mutual
  pub weight : Kind → Option ℕ
  weight (elementary e) = elementary_weight e
  weight (tuple ks) = on_option suc (weights ks)
  weight (array k (sized n)) = None
  weight (array k unsized) = on_option suc (weight k)

  pub weights : Kinds → Option ℕ
  weights no_kind = Some 0
  weights (more_kinds k ks) = together (weight k) (weights ks)

-- Order.

-- "First come the four, in the order named"
abbrev pub the_four : List Kind
the_four = elementary address ∷ elementary bool ∷ elementary (uint (bits 256)) ∷ elementary string ∷ []

-- those of the four that weigh w + 1
abbrev pub fours : ℕ → List Kind
fours zero = the_four
fours (suc w) = []

-- lists whose first component is one of ks, by its index, with each of kss behind it
unfoldable pub chains : List Kind → List Kinds → List Kinds
chains [] kss = []
chains (k ∷ ks) kss = map (more_kinds k) kss ++ chains ks kss

-- lists whose first component weighs v, then those whose first component weighs v + 1, and so on up to v + n, where K has the kinds of a weight and L the
-- lists; each list weighs v + n
unfoldable pub spread : (ℕ → List Kind) → (ℕ → List Kinds) → ℕ → ℕ → List Kinds
spread K L v zero = chains (K v) (L zero)
spread K L v (suc n) = chains (K v) (L (suc n)) ++ spread K L (suc v) n

-- the kinds of weight w: "First come the four, in the order named; then arrays, in the order of their elements; then tuples"; and the lists of kinds that
-- weigh w together: "those whose first component weighs less first, then by that component's index, then by the remaining list under the same rule, the
-- empty list first". Each step takes one of f; the laws sampled-next and listed-next are the same equations without it
unfoldable mutual
  pub kinds_in : ℕ → ℕ → List Kind
  kinds_in zero w = []
  kinds_in (suc f) zero = []
  kinds_in (suc f) (suc w) = fours w ++ (map (λ k. array k unsized) (kinds_in f w) ++ map tuple (lists_in f w))

  pub lists_in : ℕ → ℕ → List Kinds
  lists_in zero w = []
  lists_in (suc f) zero = no_kind ∷ []
  lists_in (suc f) (suc w) = spread (λ v. kinds_in f v) (λ v. lists_in f v) 1 w

unfoldable pub sampled : ℕ → List Kind
sampled w = kinds_in (2 * w) w

unfoldable pub listed : ℕ → List Kinds
listed w = lists_in (2 * w + 1) w

-- What is written.

-- "write that kind's text", if there is one
abbrev pub or_no_sample : Option Kind → Output
or_no_sample None = refuses NoSuchSample 0
or_no_sample (Some k) = writes (kind_text k)

-- "Given a weight from 1 to 4 and an index from 0, write that kind's text." "Refused: 29 weight or index outside these"
unfoldable pub sample_output : ℕ → ℕ → Output
sample_output w i = elim (between 1 4 w) [ true ↦ or_no_sample (slice_get (sampled w) i) | false ↦ refuses NoSuchSample 0 ]
