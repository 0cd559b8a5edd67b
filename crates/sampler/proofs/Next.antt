-- The kinds and the lists of a weight by those of lower weights: the bound of the definitions is never short.
-- Assumes nothing.
use mathlib.Core.Path.{◌≡◌, refl, ◌∙◌, ap₂}
use mathlib.Core.List.{List, [], ◌∷◌, ◌++◌, map}
use Prim.Native.Nat.{ℕ, zero, suc, ◌+◌, ◌*◌, ◌≤◌}
use native.Mathlib.Omega.{arith}
use Rattle.kinds.specs.Kind.{unsized, Kind, tuple, array, Kinds, no_kind}
use Rattle.sampler.specs.Sampler.{fours, chains, spread, kinds_in, lists_in, sampled, listed}

-- lists go by the kinds and lists of the weights that they ask for
spread_same : (K K₁ : ℕ → List Kind) (L L₁ : ℕ → List Kinds) (v n : ℕ) → ((i : ℕ) → i ≤ v + n → K i ≡ K₁ i) → ((i : ℕ) → i ≤ n → L i ≡ L₁ i)
    → spread K L v n ≡ spread K₁ L₁ v n
unfolding spread
spread_same K K₁ L L₁ v zero h g = ap₂ chains (h v (omega arith)) (g 0 (omega arith))
spread_same K K₁ L L₁ v (suc n) h g =
    ap₂ ◌++◌ (ap₂ chains (h v (omega arith)) (g (suc n) (omega arith))) (spread_same K K₁ L L₁ (suc v) n (λ i l. h i (omega arith)) (λ i l. g i (omega arith)))

kinds-step : (w : ℕ) (ks ks₁ : List Kind) (ls ls₁ : List Kinds) → ks ≡ ks₁ → ls ≡ ls₁
    → fours w ++ (map (λ k. array k unsized) ks ++ map tuple ls) ≡ fours w ++ (map (λ k. array k unsized) ks₁ ++ map tuple ls₁)
kinds-step w ks ks₁ ls ls₁ e f = rw (e, f)

-- two bounds that are high enough give the same
mutual
  unfolding kinds_in lists_in

  kinds-same : (f g w : ℕ) → 2 * w ≤ f → 2 * w ≤ g → kinds_in f w ≡ kinds_in g w
  kinds-same zero zero zero h l = refl
  kinds-same zero (suc g) zero h l = refl
  kinds-same (suc f) zero zero h l = refl
  kinds-same (suc f) (suc g) zero h l = refl
  kinds-same zero g (suc w) h l = absurd (omega arith)
  kinds-same (suc f) zero (suc w) h l = absurd (omega arith)
  kinds-same (suc f) (suc g) (suc w) h l =
      kinds-step w (kinds_in f w) (kinds_in g w) (lists_in f w) (lists_in g w)
      (kinds-same f g w (omega arith) (omega arith)) (lists_same f g w (omega arith) (omega arith))

  lists_same : (f g w : ℕ) → 2 * w + 1 ≤ f → 2 * w + 1 ≤ g → lists_in f w ≡ lists_in g w
  lists_same zero g w h l = absurd (omega arith)
  lists_same (suc f) zero w h l = absurd (omega arith)
  lists_same (suc f) (suc g) zero h l = refl
  lists_same (suc f) (suc g) (suc w) h l =
      spread_same (λ v. kinds_in f v) (λ v. kinds_in g v) (λ v. lists_in f v) (λ v. lists_in g v) 1 w
      (λ i j. kinds-same f g i (omega arith) (omega arith)) (λ i j. lists_same f g i (omega arith) (omega arith))

-- "First come the four, in the order named; then arrays, in the order of their elements; then tuples"
pub sampled-next : (w : ℕ) → sampled (suc w) ≡ fours w ++ (map (λ k. array k unsized) (sampled w) ++ map tuple (listed w))
unfolding sampled listed kinds_in
sampled-next w =
    kinds-same (2 * suc w) (suc (2 * w + 1)) (suc w) (omega arith) (omega arith)
    ∙ kinds-step w (kinds_in (2 * w + 1) w) (kinds_in (2 * w) w) (lists_in (2 * w + 1) w) (lists_in (2 * w + 1) w)
    (kinds-same (2 * w + 1) (2 * w) w (omega arith) (omega arith)) refl

-- "those whose first component weighs less first, then by that component's index, then by the remaining list under the same rule, the empty list first"
pub listed-none : listed 0 ≡ no_kind ∷ []
unfolding listed lists_in
listed-none = refl

pub listed_next : (w : ℕ) → listed (suc w) ≡ spread sampled listed 1 w
unfolding sampled listed lists_in
listed_next w =
    lists_same (2 * suc w + 1) (suc (2 * w + 2)) (suc w) (omega arith) (omega arith)
    ∙ spread_same (λ v. kinds_in (2 * w + 2) v) sampled (λ v. lists_in (2 * w + 2) v) listed 1 w
    (λ i j. kinds-same (2 * w + 2) (2 * i) i (omega arith) (omega arith)) (λ i j. lists_same (2 * w + 2) (2 * i + 1) i (omega arith) (omega arith))
