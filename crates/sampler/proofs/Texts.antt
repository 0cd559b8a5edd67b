-- Texts of kinds and lists, by the texts of their parts.
-- Assumes nothing.
use mathlib.Core.Path.{◌≡◌, refl, ◌∙◌, ap, subst}
use mathlib.Core.List.{◌∷◌, ◌++◌}
use Prim.Native.Nat.{ℕ, zero, suc, ◌+◌, ◌-◌, ◌≤◌, ◌<◌}
use native.Mathlib.Omega.{arith}
use lib.ListN.{length, length-append}
use mathlib.Core.List.{append_assoc}
use Rattle.kinds.specs.Bytes.{ascii}
use Rattle.kinds.specs.Decimal.{decimal, digits}
use Rattle.kinds.specs.Kind.{bits, octets, Elementary, int, uint, fixed_bytes, address, bool, function, bytes, string, unsized, Kind, elementary, tuple, array, Kinds, no_kind, more_kinds, elementary_text, suffix_text, kind_text, list_text, rest_text}
use Rattle.std.proofs.lemmas.Option.{slice_get-get_or}
use Rattle.sampler.specs.Sampler.{spread, sampled, listed}
use Rattle.sampler.specs.Places.{list_at, four_at}
use Rattle.sampler.proofs.Elements.{In, index_in}
use Rattle.sampler.proofs.Sampled.{in_chained, spread_in}
use Rattle.sampler.proofs.Next.{listed_next}
use Rattle.sampler.proofs.Parts.{list_none}

-- the four
word_last : (j : ℕ) → ascii "string" ≡ kind_text (four_at (suc (suc (suc j))))
unfolding four_at kind_text elementary_text
word_last zero = refl
word_last (suc j) = refl

module _ (i : ℕ) where
  pub word_0 : i ≡ 0 → ascii "address" ≡ kind_text (four_at i)
  unfolding four_at kind_text elementary_text
  word_0 e = rw e

  pub word_1 : i ≡ 1 → ascii "bool" ≡ kind_text (four_at i)
  unfolding four_at kind_text elementary_text
  word_1 e = rw e

  pub word_2 : i ≡ 2 → ascii "uint256" ≡ kind_text (four_at i)
  unfolding four_at kind_text elementary_text decimal digits
  word_2 e = rw e

  pub word_3 : (i ≡ 0 → ⊥) → (i ≡ 1 → ⊥) → (i ≡ 2 → ⊥) → ascii "string" ≡ kind_text (four_at i)
  word_3 a b c = let e : i ≡ suc (suc (suc (i - 3))) = omega arith in rw e (word_last (i - 3))

pub ruleset words = (word_0, word_1, word_2, word_3)

-- The parts of a kind's text.

pub array_text : (z k : Kind) → z ≡ array k unsized → kind_text z ≡ kind_text k ++ ascii "[]"
unfolding kind_text suffix_text
array_text z k e = rw e

pub tuple_text : (z : Kind) (ks : Kinds) → z ≡ tuple ks → kind_text z ≡ ascii "(" ++ list_text ks
unfolding kind_text
tuple_text z ks e = rw e

-- no kind has an empty text
elementary_full : (e : Elementary) → 1 ≤ length (elementary_text e)
unfolding elementary_text
elementary_full (int (bits m)) = omega arith
elementary_full (uint (bits m)) = omega arith
elementary_full (fixed_bytes (octets m)) = omega arith
elementary_full address = omega arith
elementary_full bool = omega arith
elementary_full function = omega arith
elementary_full bytes = omega arith
elementary_full string = omega arith

pub kind_full : (k : Kind) → 1 ≤ length (kind_text k)
unfolding kind_text
kind_full (elementary e) = elementary_full e
kind_full (tuple ks) = omega arith
kind_full (array k s) = omega (arith, length-append (kind_text k) (suffix_text s), kind_full k)

-- The parts of a list's text.

pub none_text : (z : Kinds) → z ≡ no_kind → list_text z ≡ ascii ")"
unfolding list_text
none_text z e = rw e

pub more_text : (z : Kinds) (k : Kind) (ks : Kinds) → z ≡ more_kinds k ks → list_text z ≡ kind_text k ++ rest_text ks
unfolding list_text
more_text z k ks e = rw e

-- only the list that weighs nothing is empty
pub rest_none : (w i : ℕ) → w ≡ 0 → rest_text (list_at w i) ≡ ascii ")"
unfolding list_text
rest_none w i e = ap rest_text (list_none w i e)

more_behind : (z : Kinds) (k : Kind) (ks : Kinds) → z ≡ more_kinds k ks → rest_text z ≡ ascii "," ++ list_text z
unfolding list_text
more_behind z k ks e = rw e

pub rest_more : (w i : ℕ) → 1 ≤ w → i < length (listed w) → rest_text (list_at w i) ≡ ascii "," ++ list_text (list_at w i)
unfolding list_at
rest_more w i h there =
    let e : listed w ≡ spread sampled listed 1 (w - 1) = (let f : w ≡ suc (w - 1) = omega arith in ap listed f) ∙ listed_next (w - 1) in
    let is_in : In (list_at w i) (listed w) = index_in (listed w) i (list_at w i) (slice_get-get_or (listed w) i no_kind there) in
    let s = spread_in sampled listed (list_at w i) 1 (w - 1) (subst (λ l. In (list_at w i) l) e is_in) in
    let c = in_chained (list_at w i) (sampled (1 + s.step)) (listed (w - 1 - s.step)) s.there in
    more_behind (list_at w i) c.first c.rest c.same

-- How long they are.

pub rest_full : (ks : Kinds) → 1 ≤ length (rest_text ks)
unfolding list_text
rest_full no_kind = omega arith
rest_full (more_kinds k ks) = omega arith

pub array_long : (z k : Kind) → z ≡ array k unsized → length (kind_text z) ≡ length (kind_text k) + 2
array_long z k e = omega (arith, ap length (array_text z k e), length-append (kind_text k) (ascii "[]"))

pub more_long : (z : Kinds) (k : Kind) (ks : Kinds) → z ≡ more_kinds k ks → length (list_text z) ≡ length (kind_text k) + length (rest_text ks)
more_long z k ks e = ap length (more_text z k ks e) ∙ length-append (kind_text k) (rest_text ks)

pub ruleset writing = (array_text, array_long, tuple_text, none_text, more_text, more_long, rest_none, rest_more, rest_full, kind_full, length-append, append_assoc)
