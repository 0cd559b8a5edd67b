-- How many kinds and lists there are, by weight.
-- Assumes nothing.
use mathlib.Core.Path.{◌≡◌, refl, sym, ◌∙◌}
use mathlib.Core.Bool.{Bool, true, false}
use mathlib.Core.List.{List}
use Rattle.std.specs.Prelude.{Some, slice_get}
use Rattle.std.proofs.lemmas.Option.{slice_get-get_or, slice_get_past, slice_get_within}
use Prim.Native.Nat.{ℕ, zero, suc, ◌≤◌, ◌<◌}
use native.Mathlib.Omega.{arith}
use lib.Dec.{ltb}
use lib.ListN.{length}
use borrow.Author.Tests.{le-leb, ltb-true, ltb-false}
use Rattle.kinds.specs.Bytes.{between}
use Rattle.kinds.specs.Kind.{Kind, tuple, no_kind, kind_text}
use Rattle.kinds.proofs.Logic.{both}
use Rattle.model.specs.declared.Refusal.TheVariants.{NoSuchSample}
use Rattle.model.specs.Answer.{writes, refuses}
use Rattle.model.proofs.Scans.{between-both}
use Rattle.sampler.specs.Sampler.{chains, spread, kinds_in, lists_in, sampled, listed, sample_output}
use Rattle.sampler.specs.Places.{count_of, kind_at}

-- "There are 5, 10, 45 and 315."
module _ (w : ℕ) where
  pub kinds_1 : w ≡ 1 → 5 ≡ count_of w
  unfolding count_of sampled kinds_in lists_in spread chains
  kinds_1 e = rw e

  pub kinds_2 : w ≡ 2 → 10 ≡ count_of w
  unfolding count_of sampled kinds_in lists_in spread chains
  kinds_2 e = rw e

  pub kinds_3 : w ≡ 3 → 45 ≡ count_of w
  unfolding count_of sampled kinds_in lists_in spread chains
  kinds_3 e = rw e

  pub kinds_4 : w ≡ 4 → 315 ≡ count_of w
  unfolding count_of sampled kinds_in lists_in spread chains
  kinds_4 e = rw e

  pub kinds_none : (w ≡ 1 → ⊥) → (w ≡ 2 → ⊥) → (w ≡ 3 → ⊥) → (w ≡ 4 → ⊥) → 0 ≡ count_of w
  unfolding count_of
  kinds_none a b c d = go (between 1 4 w) refl
    where
      go : (t : Bool) → between 1 4 w ≡ t → 0 ≡ count_of w
      go true e = absurd (omega (arith, between-both 1 4 w e))
      go false e = rw (count_of, e)

  pub lists_0 : w ≡ 0 → 1 ≡ length (listed w)
  unfolding listed kinds_in lists_in spread chains
  lists_0 e = rw e

  pub lists_1 : w ≡ 1 → 5 ≡ length (listed w)
  unfolding listed kinds_in lists_in spread chains
  lists_1 e = rw e

  pub lists_2 : w ≡ 2 → 35 ≡ length (listed w)
  unfolding listed kinds_in lists_in spread chains
  lists_2 e = rw e

  pub lists_3 : w ≤ 3 → (w ≡ 0 → ⊥) → (w ≡ 1 → ⊥) → (w ≡ 2 → ⊥) → 270 ≡ length (listed w)
  unfolding listed kinds_in lists_in spread chains
  lists_3 h a b c = let e : w ≡ 3 = omega arith in rw e

-- an index below the count names a kind of one of the four weights, and no other does
pub record Counted (w i : ℕ) : Type 0 where
  pub low : 1 ≤ w
  pub high : w ≤ 4
  pub within : i < length (sampled w)

pub counted : (w i : ℕ) → i < count_of w → Counted w i
unfolding count_of
counted w i h = go (between 1 4 w) refl
  where
    go : (t : Bool) → between 1 4 w ≡ t → Counted w i
    go true e = let (low, high) = between-both 1 4 w e in record { low = low; high = high; within = rw (count_of, e) at h }
    go false e = let z : count_of w ≡ 0 = rw (count_of, e) in absurd (omega arith)

pub count_long : (w : ℕ) → w ≤ 4 → count_of w ≡ length (sampled w)
unfolding count_of sampled kinds_in
count_long zero h = refl
count_long (suc w) h = rw (count_of, both (le-leb 1 (suc w) (omega arith)) (le-leb (suc w) 4 h))

pub record There (w i : ℕ) : Type 0 where
  pub low : 1 ≤ w
  pub high : w ≤ 4
  pub kind : Kind
  pub at : slice_get (sampled w) i ≡ Some kind
  pub output : sample_output w i ≡ writes (kind_text kind)

pub sample_there : (w i : ℕ) (k : Kind) → w ≤ 4 → slice_get (sampled w) i ≡ Some k → sample_output w i ≡ writes (kind_text k)
unfolding sample_output
sample_there w i k high at =
    let c = counted w i (omega (arith, count_long w high, slice_get_within (sampled w) i k at)) in
    rw (sample_output, both (le-leb 1 w c.low) (le-leb w 4 high), at)

pub kind_there : (w i : ℕ) → i < count_of w → slice_get (sampled w) i ≡ Some (kind_at w i)
unfolding kind_at
kind_there w i h = slice_get-get_or (sampled w) i (tuple no_kind) (counted w i h).within

pub kind_output : (w i : ℕ) → i < count_of w → sample_output w i ≡ writes (kind_text (kind_at w i))
kind_output w i h = sample_there w i (kind_at w i) (counted w i h).high (kind_there w i h)

there : (w i : ℕ) → i < count_of w → There w i
there w i h =
    let c = counted w i h in
    record { low = c.low; high = c.high; kind = kind_at w i; at = kind_there w i h; output = kind_output w i h }

pub not_there : (w i : ℕ) → count_of w ≤ i → sample_output w i ≡ refuses NoSuchSample 0
unfolding count_of sample_output
not_there w i h = go (between 1 4 w) refl
  where
    go : (t : Bool) → between 1 4 w ≡ t → sample_output w i ≡ refuses NoSuchSample 0
    go true f = rw (sample_output, f, slice_get_past (sampled w) i (rw (count_of, f) at h))
    go false f = rw (sample_output, f)

-- what is written of an index is the text of its kind
pub written-there : (w i : ℕ) (u : List ℕ) → sample_output w i ≡ writes u → There w i
written-there w i u e = go (ltb i (count_of w)) refl
  where
    go : (t : Bool) → ltb i (count_of w) ≡ t → There w i
    go true f = there w i (ltb-true i (count_of w) f)
    go false f =
        let g : refuses NoSuchSample 0 ≡ writes u = sym (not_there w i (ltb-false i (count_of w) f)) ∙ e in
        let z : ◌≡◌ {A = ℕ} 0 1 = cc in
        absurd (omega arith)

pub ruleset counting = (kinds_1, kinds_2, kinds_3, kinds_4, kinds_none, lists_0, lists_1, lists_2, lists_3)

pub weight_low : (w i : ℕ) → i < count_of w → 1 ≤ w
weight_low w i h = (counted w i h).low
