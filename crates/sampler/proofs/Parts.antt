-- An index taken apart: into the part of the order that it falls into, and, of a list, into those of the first component and of the list that remains.
-- Assumes nothing.
use mathlib.Core.Path.{◌≡◌, refl, sym, ◌∙◌, ap}
use mathlib.Core.Bool.{Bool, true, false}
use mathlib.Core.List.{List, [], ◌∷◌, ◌++◌, map}
use Prim.Native.Nat.{ℕ, zero, suc, ◌+◌, ◌*◌, ◌-◌, ◌/◌, ◌%◌, ◌≤◌, ◌<◌}
use native.Mathlib.Nat.{div-eq_of_lt, mod-eq_of_lt, div-eq-sub-div, mod-eq-sub-mod, div-lt_iff_lt-mul, mod-lt}
use native.Mathlib.Numerals.{add-one}
use native.Mathlib.Omega.{arith}
use lib.Dec.{ltb}
use lib.ListN.{length, get_or, length-append, length-map}
use borrow.Author.Tests.{ltb-true, ltb-false}
use Rattle.std.proofs.lemmas.List.{get_or_append_left, get_or-append_right, get_or-map, get_or_default}
use Rattle.kinds.specs.Kind.{Kind, elementary, string, tuple, array, unsized, Kinds, no_kind, more_kinds}
use Rattle.sampler.specs.Sampler.{the_four, fours, chains, spread, sampled, listed}
use Rattle.sampler.specs.Places.{count_of, kind_at, list_at, four_at}
use Rattle.sampler.proofs.Next.{sampled-next, listed-none, listed_next}
use Rattle.sampler.proofs.Counts.{Counted, counted, count_long}

-- The four, arrays, tuples.

abbrev arrays_of : ℕ → List Kind
arrays_of w = map (λ k. array k unsized) (sampled w)

abbrev tuples_of : ℕ → List Kind
tuples_of w = map tuple (listed w)

abbrev none : Kind
none = tuple no_kind

-- a word of some weight is one of the four
word_of_four : (w i : ℕ) → i < length (fours w) → get_or (fours w) i none ≡ four_at i
unfolding four_at
word_of_four zero i h = get_or_default the_four i none (elementary string) h
word_of_four (suc w) i h = absurd (omega arith)

module _ (w i : ℕ) (there : i < count_of w) (n : ℕ) (words : n ≡ length (fours (w - 1))) where
  found : Counted w i
  found = counted w i there

  whole : sampled w ≡ fours (w - 1) ++ (arrays_of (w - 1) ++ tuples_of (w - 1))
  whole = let e : w ≡ suc (w - 1) = omega (arith, found.low) in ap sampled e ∙ sampled-next (w - 1)

  at_whole : kind_at w i ≡ get_or (fours (w - 1) ++ (arrays_of (w - 1) ++ tuples_of (w - 1))) i none
  unfolding kind_at
  at_whole = ap (λ l. get_or l i none) whole

  pub part_word : i < n → kind_at w i ≡ four_at i
  part_word h =
      at_whole
      ∙ get_or_append_left (fours (w - 1)) (arrays_of (w - 1) ++ tuples_of (w - 1)) none i (omega arith)
      ∙ word_of_four (w - 1) i (omega arith)

  module _ (beyond : n ≤ i) (a : ℕ) (arrays : a ≡ count_of (w - 1)) where
    behind_words : kind_at w i ≡ get_or (arrays_of (w - 1) ++ tuples_of (w - 1)) (i - n) none
    behind_words = at_whole ∙ get_or-append_right (fours (w - 1)) (arrays_of (w - 1) ++ tuples_of (w - 1)) n i none (sym words) beyond

    long : length (arrays_of (w - 1)) ≡ a
    long = length-map (sampled (w - 1)) (λ k. array k unsized) ∙ sym (arrays ∙ count_long (w - 1) (omega (arith, found.high)))

    pub part_array : i - n < a → kind_at w i ≡ array (kind_at (w - 1) (i - n)) unsized
    unfolding kind_at
    part_array h =
        behind_words
        ∙ get_or_append_left (arrays_of (w - 1)) (tuples_of (w - 1)) none (i - n) (omega (arith, long))
        ∙ get_or-map (λ k. array k unsized) (sampled (w - 1)) (i - n) none none (omega (arith, long, length-map (sampled (w - 1)) (λ k. array k unsized)))

    pub list_there : a ≤ i - n → (w - 1 ≤ 3) × (i - n - a < length (listed (w - 1)))
    list_there h = (
      omega (arith, found.high),
      omega (
        arith,
        found.within,
        ap length whole,
        length-append (fours (w - 1)) (arrays_of (w - 1) ++ tuples_of (w - 1)),
        length-append (arrays_of (w - 1)) (tuples_of (w - 1)),
        long,
        length-map (listed (w - 1)) tuple,
      ),
    )

    pub part_tuple : a ≤ i - n → kind_at w i ≡ tuple (list_at (w - 1) (i - n - a))
    unfolding list_at
    part_tuple h =
        behind_words
        ∙ get_or-append_right (arrays_of (w - 1)) (tuples_of (w - 1)) a (i - n) none long h
        ∙ get_or-map tuple (listed (w - 1)) (i - n - a) no_kind none (list_there h).1

pub ruleset parting = (part_word, part_array, part_tuple)

-- Lists whose first component is one of some kinds.

chains_long : (ks : List Kind) (kss : List Kinds) → length (chains ks kss) ≡ length ks * length kss
unfolding chains
chains_long [] kss = omega arith
chains_long (k ∷ ks) kss = omega (arith, length-append (map (more_kinds k) kss) (chains ks kss), length-map kss (more_kinds k), chains_long ks kss)

-- the quotient is the index of the first component, and the remainder that of the list behind it
abbrev chain_at : List Kind → List Kinds → ℕ → Kinds
chain_at ks kss i = more_kinds (get_or ks (i / length kss) none) (get_or kss (i % length kss) no_kind)

chains_at : (ks : List Kind) (kss : List Kinds) (i : ℕ) → 1 ≤ length kss → i < length ks * length kss → get_or (chains ks kss) i no_kind ≡ chain_at ks kss i
unfolding chains
chains_at [] kss i h l = absurd (omega arith)
chains_at (k ∷ ks) kss i h l = go (ltb i (length kss)) refl (λ j m. chains_at ks kss j h m)
  where
    go : (t : Bool) → ltb i (length kss) ≡ t → ((j : ℕ) → j < length ks * length kss → get_or (chains ks kss) j no_kind ≡ chain_at ks kss j)
        → get_or (chains (k ∷ ks) kss) i no_kind ≡ chain_at (k ∷ ks) kss i
    go true e below =
        let m : i < length kss = ltb-true i (length kss) e in
        get_or_append_left (map (more_kinds k) kss) (chains ks kss) no_kind i (omega (arith, length-map kss (more_kinds k)))
        ∙ get_or-map (more_kinds k) kss i no_kind no_kind m
        ∙ rw (div-eq_of_lt m, mod-eq_of_lt m)
    go false e below =
        let m : length kss ≤ i = ltb-false i (length kss) e in
        get_or-append_right (map (more_kinds k) kss) (chains ks kss) (length kss) i no_kind (length-map kss (more_kinds k)) m
        ∙ below (i - length kss) (omega arith)
        ∙ rw (div-eq-sub-div h m, mod-eq-sub-mod m, add-one)

-- The weight of the first component.

-- lists whose first component weighs less than f are passed; a list of some weight is found before its own weight is
pub record Passing (w i f p : ℕ) : Type 0 where
  pub low : 1 ≤ f
  pub high : f ≤ w + 1
  pub over : w < f → w ≡ 0
  pub same : f ≤ w → list_at w i ≡ get_or (spread sampled listed f (w - f)) p no_kind
  pub there : f ≤ w → p < length (spread sampled listed f (w - f))

pub passing_first : (w i : ℕ) → i < length (listed w) → Passing w i 1 i
unfolding list_at
passing_first w i h =
    record {
      low = omega arith;
      high = omega arith;
      over = λ l. omega arith;
      same = λ l. ap (λ xs. get_or xs i no_kind) (as_spread l);
      there = λ l. omega (arith, ap length (as_spread l));
    }
  where
    as_spread : 1 ≤ w → listed w ≡ spread sampled listed 1 (w - 1)
    as_spread l = let e : w ≡ suc (w - 1) = omega arith in ap listed e ∙ listed_next (w - 1)

-- those whose first component weighs f, and then the others
front_at : (f m p : ℕ) → p < length (sampled f) * length (listed m)
    → get_or (spread sampled listed f m) p no_kind ≡ get_or (chains (sampled f) (listed m)) p no_kind
unfolding spread
front_at f zero p h = refl
front_at f (suc m) p h =
    get_or_append_left (chains (sampled f) (listed (suc m))) (spread sampled listed (suc f) m) no_kind p (omega (arith, chains_long (sampled f) (listed (suc m))))

others_at : (f m p : ℕ) → length (sampled f) * length (listed (suc m)) ≤ p
    → get_or (spread sampled listed f (suc m)) p no_kind ≡ get_or (spread sampled listed (suc f) m) (p - length (sampled f) * length (listed (suc m))) no_kind
unfolding spread
others_at f m p h =
    get_or-append_right (chains (sampled f) (listed (suc m))) (spread sampled listed (suc f) m) (length (sampled f) * length (listed (suc m))) p no_kind
    (chains_long (sampled f) (listed (suc m))) h

spread_long : (f m : ℕ) → length (spread sampled listed f (suc m)) ≡ length (sampled f) * length (listed (suc m)) + length (spread sampled listed (suc f) m)
unfolding spread
spread_long f m =
    omega (arith, length-append (chains (sampled f) (listed (suc m))) (spread sampled listed (suc f) m), chains_long (sampled f) (listed (suc m)))

spread_last : (f : ℕ) → length (spread sampled listed f 0) ≡ length (sampled f) * length (listed 0)
unfolding spread
spread_last f = chains_long (sampled f) (listed 0)

module _ (w i f p : ℕ) (s : Passing w i f p) (small : w ≤ 3) (inside : f ≤ w) (a : ℕ) (firsts : a ≡ count_of f) (b : ℕ) (rests : b ≡ length (listed (w - f))) (some : 1 ≤ b) where
  product : a * b ≡ length (sampled f) * length (listed (w - f))
  product = rw (firsts, rests, count_long f (omega arith))

  pub first_there : p < a * b → p / b < count_of f
  first_there h = rw (← firsts) ((div-lt_iff_lt-mul some).1 h)

  pub rest_there : (w - f ≤ 3) × (p % b < length (listed (w - f)))
  rest_there = (omega arith, rw (← rests) (mod-lt p some))

  pub first_and_rest : p < a * b → list_at w i ≡ more_kinds (kind_at f (p / b)) (list_at (w - f) (p % b))
  unfolding kind_at list_at
  first_and_rest h =
      s.same inside
      ∙ front_at f (w - f) p (omega (arith, product))
      ∙ chains_at (sampled f) (listed (w - f)) p (omega arith) (omega (arith, product))
      ∙ rw (← rests)

  module _ (beyond : a * b ≤ p) (m : ℕ) (step : w - f ≡ suc m) where
    next_product : a * b ≡ length (sampled f) * length (listed (suc m))
    next_product = product ∙ ap (λ n. length (sampled f) * length (listed n)) step

    next_same : list_at w i ≡ get_or (spread sampled listed (suc f) m) (p - a * b) no_kind
    next_same =
        s.same inside
        ∙ ap (λ n. get_or (spread sampled listed f n) p no_kind) step
        ∙ others_at f m p (omega (arith, next_product))
        ∙ ap (λ n. get_or (spread sampled listed (suc f) m) (p - n) no_kind) (sym next_product)

    next_there : p - a * b < length (spread sampled listed (suc f) m)
    next_there = omega (arith, s.there inside, ap (λ n. length (spread sampled listed f n)) step, spread_long f m, next_product)

  -- the last are those whose first component weighs w
  last_there : w ≡ f → p < a * b
  last_there e =
      let none : w - f ≡ 0 = omega arith in
      omega (arith, s.there inside, ap (λ n. length (spread sampled listed f n)) none, spread_last f, product, ap (λ n. length (sampled f) * length (listed n)) none)

  pub passing_next : a * b ≤ p → Passing w i (f + 1) (p - a * b)
  passing_next h =
      rw add-one
      record {
        low = omega arith;
        high = omega arith;
        over = λ l. let e : w ≡ f = omega arith in absurd (omega (arith, last_there e));
        same = λ l. next_same h (w - suc f) (omega arith);
        there = λ l. next_there h (w - suc f) (omega arith);
      }

none_at : (i : ℕ) → get_or (no_kind ∷ []) i no_kind ≡ no_kind
none_at zero = refl
none_at (suc i) = refl

pub list_none : (w i : ℕ) → w ≡ 0 → list_at w i ≡ no_kind
unfolding list_at
list_none w i e = ap (λ v. get_or (listed v) i no_kind) e ∙ ap (λ l. get_or l i no_kind) listed-none ∙ none_at i

pub passing_none : (w i f p : ℕ) → Passing w i f p → w < f → list_at w i ≡ no_kind
passing_none w i f p s h = list_none w i (s.over h)

pub ruleset passing = (passing_first, first_there, rest_there, first_and_rest, passing_next, passing_none)
