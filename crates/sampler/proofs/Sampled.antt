-- Each kind of a weight has one index in the sampler's list of that weight, and no other kind has one.
-- Assumes nothing.
use mathlib.Core.Path.{◌≡◌, refl, sym, ◌∙◌, ap}
use mathlib.Core.Logic.{◌↔◌, ◌⊎◌, inl, inr}
use mathlib.Core.Bool.{Bool, true, false}
use mathlib.Core.List.{List, [], ◌∷◌, ◌++◌, map}
use Rattle.std.specs.Prelude.{Option, None, Some, slice_get}
use Rattle.std.proofs.lemmas.Option.{none-some, same_Some}
use Prim.Native.Nat.{ℕ, zero, suc, ◌+◌, ◌*◌, ◌-◌, ◌≤◌}
use native.Mathlib.Nat.{add-zero, sub-zero}
use native.Mathlib.Omega.{arith}
use lib.Dec.{eqb}
use borrow.Author.Tests.{eqb-true}
use Rattle.kinds.specs.Kind.{bits, Elementary, int, uint, fixed_bytes, address, bool, function, bytes, string, sized, unsized, Kind, elementary, tuple, array, Kinds, no_kind, more_kinds}
use Rattle.model.specs.Record.{on_option}
use Rattle.sampler.specs.Sampler.{together, elementary_weight, weight, weights, the_four, fours, chains, spread, kinds_in, lists_in, sampled}
use Rattle.sampler.proofs.Elements.{In, Once, in_left, in_right, in_either, once_append, in_by_index, once_index, in_map, in_mapped, once-map}

-- first components before lists
in_chains : (k : Kind) (ks : Kinds) (xs : List Kind) (yss : List Kinds) → In k xs → In ks yss → In (more_kinds k ks) (chains xs yss)
unfolding chains
in_chains k ks [] yss i j = absurd i
in_chains k ks (x ∷ xs) yss (inl e) j = rw e (in_left (more_kinds x ks) (map (more_kinds x) yss) (chains xs yss) (in_map (more_kinds x) ks yss j))
in_chains k ks (x ∷ xs) yss (inr i) j = in_right (more_kinds k ks) (map (more_kinds x) yss) (chains xs yss) (in_chains k ks xs yss i j)

pub record Chained (z : Kinds) (xs : List Kind) (yss : List Kinds) : Type 0 where
  pub first : Kind
  pub rest : Kinds
  pub first_in : In first xs
  pub rest_in : In rest yss
  pub same : z ≡ more_kinds first rest

pub in_chained : (z : Kinds) (xs : List Kind) (yss : List Kinds) → In z (chains xs yss) → Chained z xs yss
unfolding chains
in_chained z [] yss i = absurd i
in_chained z (x ∷ xs) yss i = go (in_either z (map (more_kinds x) yss) (chains xs yss) i) (λ j. in_chained z xs yss j)
  where
    go : In z (map (more_kinds x) yss) ⊎ In z (chains xs yss) → (In z (chains xs yss) → Chained z xs yss) → Chained z (x ∷ xs) yss
    go (inl j) more = let (ks, l, e) = in_mapped (more_kinds x) z yss j in record { first = x; rest = ks; first_in = inl refl; rest_in = l; same = e }
    go (inr j) more = let c = more j in record { first = c.first; rest = c.rest; first_in = inr c.first_in; rest_in = c.rest_in; same = c.same }

once-chains : (xs : List Kind) (yss : List Kinds) → Once xs → Once yss → Once (chains xs yss)
unfolding chains
once-chains [] yss o p = tt
once-chains (x ∷ xs) yss o p =
    once_append (map (more_kinds x) yss) (chains xs yss) (once-map (more_kinds x) (λ a b e. cc) yss p) (once-chains xs yss o.1 p)
    (λ z i j.
    let (ks, l, e) = in_mapped (more_kinds x) z yss i in
    let c = in_chained z xs yss j in
    let same_first : x ≡ c.first = cc c.same in
    o.0 (rw same_first c.first_in))

-- by the weight of the first component
module _ (K : ℕ → List Kind) (L : ℕ → List Kinds) where
  in_spread : (z : Kinds) (i n j : ℕ) → j ≤ n → In z (chains (K (i + j)) (L (n - j))) → In z (spread K L i n)
  unfolding spread
  in_spread z i zero j h x = let e : j ≡ 0 = omega arith in rw (e, add-zero, sub-zero) at x
  in_spread z i (suc n) zero h x = in_left z (chains (K i) (L (suc n))) (spread K L (suc i) n) (rw (add-zero, sub-zero) at x)
  in_spread z i (suc n) (suc j) h x =
      let e : i + suc j ≡ suc i + j = omega arith in
      let f : suc n - suc j ≡ n - j = omega arith in
      in_right z (chains (K i) (L (suc n))) (spread K L (suc i) n) (in_spread z (suc i) n j (omega arith) (rw (e, f) at x))

  pub record Spread (z : Kinds) (i n : ℕ) : Type 0 where
    pub step : ℕ
    pub within : step ≤ n
    pub there : In z (chains (K (i + step)) (L (n - step)))

  pub spread_in : (z : Kinds) (i n : ℕ) → In z (spread K L i n) → Spread z i n
  unfolding spread
  spread_in z i zero x = record { step = 0; within = omega arith; there = rw (add-zero, sub-zero) x }
  spread_in z i (suc n) x = go (in_either z (chains (K i) (L (suc n))) (spread K L (suc i) n) x) (λ y. spread_in z (suc i) n y)
    where
      go : In z (chains (K i) (L (suc n))) ⊎ In z (spread K L (suc i) n) → (In z (spread K L (suc i) n) → Spread z (suc i) n) → Spread z i (suc n)
      go (inl y) more = record { step = 0; within = omega arith; there = rw (add-zero, sub-zero) y }
      go (inr y) more =
          let s = more y in
          let e : i + suc s.step ≡ suc i + s.step = omega arith in
          let f : suc n - suc s.step ≡ n - s.step = omega arith in
          record { step = suc s.step; within = omega (arith, s.within); there = rw (e, f) s.there }

  module _ (apart : (k : Kind) (i j : ℕ) → In k (K i) → In k (K j) → i ≡ j) (ones : (i : ℕ) → Once (K i)) (lists : (i : ℕ) → Once (L i)) where
    once-spread : (i n : ℕ) → Once (spread K L i n)
    unfolding spread
    once-spread i zero = once-chains (K i) (L zero) (ones i) (lists zero)
    once-spread i (suc n) =
        once_append (chains (K i) (L (suc n))) (spread K L (suc i) n) (once-chains (K i) (L (suc n)) (ones i) (lists (suc n))) (once-spread (suc i) n)
        (λ z x y.
        let c = in_chained z (K i) (L (suc n)) x in
        let s = spread_in z (suc i) n y in
        let d = in_chained z (K (suc i + s.step)) (L (n - s.step)) s.there in
        let same_first : c.first ≡ d.first = cc (c.same, d.same) in
        let i-is : i ≡ suc i + s.step = apart d.first i (suc i + s.step) (rw same_first at c.first_in) d.first_in in
        omega arith)

-- arrays and tuples that weigh 1 more
abbrev arrays_in : ℕ → ℕ → List Kind
arrays_in f w = map (λ k. array k unsized) (kinds_in f w)

abbrev tuples_in : ℕ → ℕ → List Kind
tuples_in f w = map tuple (lists_in f w)

-- what is in a list weighs what the list says
four_weighs : (k : Kind) (w : ℕ) → In k (fours w) → weight k ≡ Some (suc w)
unfolding weight elementary_weight
four_weighs k zero (inl e) = rw e
four_weighs k zero (inr (inl e)) = rw e
four_weighs k zero (inr (inr (inl e))) = rw e
four_weighs k zero (inr (inr (inr (inl e)))) = rw e
four_weighs k zero (inr (inr (inr (inr i)))) = absurd i
four_weighs k (suc w) i = absurd i

array_weighs : (k j : Kind) (w : ℕ) → k ≡ array j unsized → weight j ≡ Some w → weight k ≡ Some (suc w)
unfolding weight
array_weighs k j w e h = rw (e, h)

tuple_weighs : (k : Kind) (ks : Kinds) (w : ℕ) → k ≡ tuple ks → weights ks ≡ Some w → weight k ≡ Some (suc w)
unfolding weight weights
tuple_weighs k ks w e h = rw (e, h)

more_weigh : (z : Kinds) (k : Kind) (ks : Kinds) (w v : ℕ) → z ≡ more_kinds k ks → weight k ≡ Some w → weights ks ≡ Some v → weights z ≡ Some (w + v)
unfolding weight weights
more_weigh z k ks w v e h i = rw (e, h, i)

none_weighs : (z : Kinds) → In z (no_kind ∷ []) → weights z ≡ Some 0
unfolding weight weights
none_weighs z (inl e) = rw e
none_weighs z (inr i) = absurd i

kinds-by : (f w : ℕ) → ((k : Kind) (v : ℕ) → In k (kinds_in f v) → weight k ≡ Some v) → ((ks : Kinds) (v : ℕ) → In ks (lists_in f v) → weights ks ≡ Some v)
    → (k : Kind) → In k (fours w ++ (arrays_in f w ++ tuples_in f w)) → weight k ≡ Some (suc w)
kinds-by f w K L k i = go (in_either k (fours w) _ i)
  where
    go₂ : In k (arrays_in f w) ⊎ In k (tuples_in f w) → weight k ≡ Some (suc w)
    go₂ (inl j) = let (x, l, e) = in_mapped (λ k. array k unsized) k (kinds_in f w) j in array_weighs k x w e (K x w l)
    go₂ (inr j) = let (x, l, e) = in_mapped tuple k (lists_in f w) j in tuple_weighs k x w e (L x w l)

    go : In k (fours w) ⊎ In k (arrays_in f w ++ tuples_in f w) → weight k ≡ Some (suc w)
    go (inl j) = four_weighs k w j
    go (inr j) = go₂ (in_either k (arrays_in f w) (tuples_in f w) j)

lists_by : (f w : ℕ) → ((k : Kind) (v : ℕ) → In k (kinds_in f v) → weight k ≡ Some v) → ((ks : Kinds) (v : ℕ) → In ks (lists_in f v) → weights ks ≡ Some v)
    → (z : Kinds) → In z (spread (λ i. kinds_in f i) (λ i. lists_in f i) 1 w) → weights z ≡ Some (suc w)
lists_by f w K L z i =
    let s = spread_in (λ i. kinds_in f i) (λ i. lists_in f i) z 1 w i in
    let c = in_chained z (kinds_in f (1 + s.step)) (lists_in f (w - s.step)) s.there in
    let sum : 1 + s.step + (w - s.step) ≡ suc w = omega (arith, s.within) in
    more_weigh z c.first c.rest (1 + s.step) (w - s.step) c.same (K _ _ c.first_in) (L _ _ c.rest_in) ∙ ap Some sum

mutual
  unfolding kinds_in lists_in

  in_weighs : (f : ℕ) (k : Kind) (w : ℕ) → In k (kinds_in f w) → weight k ≡ Some w
  in_weighs zero k w i = absurd i
  in_weighs (suc f) k zero i = absurd i
  in_weighs (suc f) k (suc w) i = kinds-by f w (λ j v x. in_weighs f j v x) (λ js v x. in_weigh f js v x) k i

  in_weigh : (f : ℕ) (ks : Kinds) (w : ℕ) → In ks (lists_in f w) → weights ks ≡ Some w
  in_weigh zero ks w i = absurd i
  in_weigh (suc f) ks zero i = none_weighs ks i
  in_weigh (suc f) ks (suc w) i = lists_by f w (λ j v x. in_weighs f j v x) (λ js v x. in_weigh f js v x) ks i

-- none is there twice
once-four : (w : ℕ) → Once (fours w)
once-four zero = (first, (second, (third, (λ i. i, tt))))
  where
    first : In (elementary address) (elementary bool ∷ elementary (uint (bits 256)) ∷ elementary string ∷ []) → ⊥
    first (inl e) = let z : ◌≡◌ {A = ℕ} 0 1 = cc in omega arith
    first (inr (inl e)) = let z : ◌≡◌ {A = ℕ} 0 1 = cc in omega arith
    first (inr (inr (inl e))) = let z : ◌≡◌ {A = ℕ} 0 1 = cc in omega arith
    first (inr (inr (inr i))) = i

    second : In (elementary bool) (elementary (uint (bits 256)) ∷ elementary string ∷ []) → ⊥
    second (inl e) = let z : ◌≡◌ {A = ℕ} 0 1 = cc in omega arith
    second (inr (inl e)) = let z : ◌≡◌ {A = ℕ} 0 1 = cc in omega arith
    second (inr (inr i)) = i

    third : In (elementary (uint (bits 256))) (elementary string ∷ []) → ⊥
    third (inl e) = let z : ◌≡◌ {A = ℕ} 0 1 = cc in omega arith
    third (inr i) = i
once-four (suc w) = tt

four-bare : (k : Kind) (w : ℕ) → In k (fours w) → (e : Elementary) × (k ≡ elementary e)
four-bare k zero (inl e) = (address, e)
four-bare k zero (inr (inl e)) = (bool, e)
four-bare k zero (inr (inr (inl e))) = (uint (bits 256), e)
four-bare k zero (inr (inr (inr (inl e)))) = (string, e)
four-bare k zero (inr (inr (inr (inr i)))) = absurd i
four-bare k (suc w) i = absurd i

kinds-once : (f w : ℕ) → Once (kinds_in f w) → Once (lists_in f w) → Once (fours w ++ (arrays_in f w ++ tuples_in f w))
kinds-once f w o p =
    once_append (fours w) _ (once-four w)
    (once_append (arrays_in f w) (tuples_in f w)
    (once-map (λ k. array k unsized) (λ x y e. cc) (kinds_in f w) o) (once-map tuple (λ x y e. cc) (lists_in f w) p)
    array-tuple)
    four-other
  where
    array-tuple : (x : Kind) → In x (arrays_in f w) → In x (tuples_in f w) → ⊥
    array-tuple x i j =
        let (a, _, e) = in_mapped (λ k. array k unsized) x (kinds_in f w) i in
        let (b, _, g) = in_mapped tuple x (lists_in f w) j in
        let z : ◌≡◌ {A = ℕ} 0 1 = cc in omega arith

    four-other : (x : Kind) → In x (fours w) → In x (arrays_in f w ++ tuples_in f w) → ⊥
    four-other x i j = go (in_either x (arrays_in f w) (tuples_in f w) j)
      where
        go : In x (arrays_in f w) ⊎ In x (tuples_in f w) → ⊥
        go (inl l) =
            let (e, g) = four-bare x w i in
            let (a, _, h) = in_mapped (λ k. array k unsized) x (kinds_in f w) l in
            let z : ◌≡◌ {A = ℕ} 0 1 = cc in omega arith
        go (inr l) =
            let (e, g) = four-bare x w i in
            let (a, _, h) = in_mapped tuple x (lists_in f w) l in
            let z : ◌≡◌ {A = ℕ} 0 1 = cc in omega arith

same-weight : (f : ℕ) (k : Kind) (i j : ℕ) → In k (kinds_in f i) → In k (kinds_in f j) → i ≡ j
same-weight f k i j x y = same_Some _ _ (sym (in_weighs f k i x) ∙ in_weighs f k j y)

mutual
  unfolding kinds_in lists_in

  once-kinds : (f w : ℕ) → Once (kinds_in f w)
  once-kinds zero w = tt
  once-kinds (suc f) zero = tt
  once-kinds (suc f) (suc w) = kinds-once f w (once-kinds f w) (once_lists f w)

  once_lists : (f w : ℕ) → Once (lists_in f w)
  once_lists zero w = tt
  once_lists (suc f) zero = (λ i. i, tt)
  once_lists (suc f) (suc w) = once-spread (λ i. kinds_in f i) (λ i. lists_in f i) (same-weight f) (λ i. once-kinds f i) (λ i. once_lists f i) 1 w

-- each is there
heavier_from : {Q : Type 0} (o : Option ℕ) (w : ℕ) → on_option suc o ≡ Some w → ((v : ℕ) → o ≡ Some v → w ≡ suc v → Q) → Q
heavier_from None w e next = absurd (none-some w e)
heavier_from (Some v) w e next = next v refl (sym (same_Some _ _ e))

together-from : {Q : Type 0} (a b : Option ℕ) (w : ℕ) → together a b ≡ Some w → ((u v : ℕ) → a ≡ Some u → b ≡ Some v → w ≡ u + v → Q) → Q
together-from None b w e next = absurd (none-some w e)
together-from (Some u) None w e next = absurd (none-some w e)
together-from (Some u) (Some v) w e next = next u v refl refl (sym (same_Some _ _ e))

some_one : (w : ℕ) → Some 1 ≡ Some w → w ≡ 1
some_one w e = sym (same_Some _ _ e)

wide-only : (m w : ℕ) → elim (eqb m 256) as (λ _. Option ℕ) [ true ↦ Some 1 | false ↦ None ] ≡ Some w → (m ≡ 256) × (w ≡ 1)
wide-only m w e = go (eqb m 256) refl e
  where
    go : (b : Bool) → eqb m 256 ≡ b → elim b as (λ _. Option ℕ) [ true ↦ Some 1 | false ↦ None ] ≡ Some w → (m ≡ 256) × (w ≡ 1)
    go true h e = (eqb-true m 256 h, some_one w e)
    go false h e = absurd (none-some w e)

elementary_in : (e : Elementary) (w : ℕ) → elementary_weight e ≡ Some w → (w ≡ 1) × In (elementary e) the_four
unfolding elementary_weight
elementary_in (int m) w h = absurd (none-some w h)
elementary_in (uint (bits m)) w h = let (i, j) = wide-only m w h in (j, inr (inr (inl (rw i))))
elementary_in (fixed_bytes m) w h = absurd (none-some w h)
elementary_in address w h = (some_one w h, inl refl)
elementary_in bool w h = (some_one w h, inr (inl refl))
elementary_in function w h = absurd (none-some w h)
elementary_in bytes w h = absurd (none-some w h)
elementary_in string w h = (some_one w h, inr (inr (inr (inl refl))))

weight_positive : (k : Kind) (w : ℕ) → weight k ≡ Some w → 1 ≤ w
unfolding weight
weight_positive (elementary e) w h = omega (arith, (elementary_in e w h).0)
weight_positive (tuple ks) w h = heavier_from (weights ks) w h (λ v _ e. omega arith)
weight_positive (array k (sized n)) w h = absurd (none-some w h)
weight_positive (array k unsized) w h = heavier_from (weight k) w h (λ v _ e. omega arith)

abbrev KindIn : Kind → Type 0
KindIn k = (w f : ℕ) → weight k ≡ Some w → 2 * w ≤ f → In k (kinds_in f w)

abbrev ListIn : Kinds → Type 0
ListIn ks = (w f : ℕ) → weights ks ≡ Some w → 2 * w + 1 ≤ f → In ks (lists_in f w)

elementary-case : (e : Elementary) → KindIn (elementary e)
unfolding weight kinds_in lists_in
elementary-case e zero f h l = absurd (omega (arith, (elementary_in e 0 h).0))
elementary-case e (suc w) zero h l = absurd (omega arith)
elementary-case e (suc zero) (suc f) h l = in_left (elementary e) the_four (arrays_in f 0 ++ tuples_in f 0) (elementary_in e 1 h).1
elementary-case e (suc (suc w)) (suc f) h l = absurd (omega (arith, (elementary_in e (suc (suc w)) h).0))

array-case : (k : Kind) → KindIn k → KindIn (array k unsized)
unfolding weight kinds_in lists_in
array-case k ih zero f h l = absurd (omega (arith, weight_positive (array k unsized) 0 h))
array-case k ih (suc w) zero h l = absurd (omega arith)
array-case k ih (suc w) (suc f) h l =
    heavier_from (weight k) (suc w) h (λ v g e.
    let same : v ≡ w = omega arith in
    let there : In (array k unsized) (arrays_in f w) = in_map (λ j. array j unsized) k (kinds_in f w) (ih w f (g ∙ ap Some same) (omega arith)) in
    in_right (array k unsized) (fours w) _ (in_left (array k unsized) (arrays_in f w) (tuples_in f w) there))

tuple-case : (ks : Kinds) → ListIn ks → KindIn (tuple ks)
unfolding weight kinds_in lists_in
tuple-case ks ih zero f h l = absurd (omega (arith, weight_positive (tuple ks) 0 h))
tuple-case ks ih (suc w) zero h l = absurd (omega arith)
tuple-case ks ih (suc w) (suc f) h l =
    heavier_from (weights ks) (suc w) h (λ v g e.
    let same : v ≡ w = omega arith in
    let there : In (tuple ks) (tuples_in f w) = in_map tuple ks (lists_in f w) (ih w f (g ∙ ap Some same) (omega arith)) in
    in_right (tuple ks) (fours w) _ (in_right (tuple ks) (arrays_in f w) (tuples_in f w) there))

none-case : ListIn no_kind
unfolding weight lists_in kinds_in
none-case w zero h l = absurd (omega arith)
none-case zero (suc f) h l = inl refl
none-case (suc w) (suc f) h l = absurd (let z : 0 ≡ suc w = same_Some _ _ h in omega arith)

more-case : (k : Kind) (ks : Kinds) → KindIn k → ListIn ks → ListIn (more_kinds k ks)
unfolding weight lists_in kinds_in
more-case k ks ih jh w zero h l = absurd (omega arith)
more-case k ks ih jh zero (suc f) h l = together-from (weight k) (weights ks) 0 h (λ u v g i e. absurd (omega (arith, weight_positive k u g)))
more-case k ks ih jh (suc w) (suc f) h l =
    together-from (weight k) (weights ks) (suc w) h (λ u v g i e.
    let low : 1 ≤ u = weight_positive k u g in
    let first : 1 + (u - 1) ≡ u = omega arith in
    let rest : w - (u - 1) ≡ v = omega arith in
    in_spread (λ n. kinds_in f n) (λ n. lists_in f n) (more_kinds k ks) 1 w (u - 1) (omega arith)
    (in_chains k ks (kinds_in f (1 + (u - 1))) (lists_in f (w - (u - 1))) (rw first (ih u f g (omega arith))) (rw rest (jh v f i (omega arith)))))

mutual
  unfolding weight

  weighs_in : (k : Kind) → KindIn k
  weighs_in (elementary e) = elementary-case e
  weighs_in (tuple ks) = tuple-case ks (weigh_in ks)
  weighs_in (array k (sized n)) = λ w f h l. absurd (none-some w h)
  weighs_in (array k unsized) = array-case k (weighs_in k)

  weigh_in : (ks : Kinds) → ListIn ks
  weigh_in no_kind = none-case
  weigh_in (more_kinds k ks) = more-case k ks (weighs_in k) (weigh_in ks)

-- "Each kind of the weight appears, none twice": a kind has an index exactly if it weighs w
pub sampled-exactly : (w : ℕ) (k : Kind) → ((i : ℕ) × (slice_get (sampled w) i ≡ Some k)) ↔ (weight k ≡ Some w)
unfolding sampled
sampled-exactly w k =
    let (to, from) = in_by_index k (kinds_in (2 * w) w) in
    (λ i. in_weighs (2 * w) k w (to i), λ h. from (weighs_in k w (2 * w) h (omega arith)))

-- and one only
pub sampled-once : (w i j : ℕ) (k : Kind) → slice_get (sampled w) i ≡ Some k → slice_get (sampled w) j ≡ Some k → i ≡ j
unfolding sampled
sampled-once w = once_index (kinds_in (2 * w) w) (once-kinds (2 * w) w)
