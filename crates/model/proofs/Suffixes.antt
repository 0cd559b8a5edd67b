-- Suffixes peeled from the right: one step of `from_str`, with any fuel that suffices.
-- Assumes nothing.
use mathlib.Core.Path.{◌≡◌, refl, sym, ◌∙◌, ap}
use mathlib.Core.Bool.{Bool, true, false}
use mathlib.Core.List.{List, [], ◌∷◌, ◌++◌}
use Rattle.std.specs.Prelude.{Option, None, Some}
use Prim.Native.Nat.{ℕ, zero, suc, ◌<◌}
use native.Mathlib.Omega.{arith}
use lib.Dec.{eqb}
use lib.ListN.{length}
use borrow.Author.Tests.{eq-eqb, ne_eqb, eqb-true}
use Rattle.kinds.specs.Bytes.{lbracket, rbracket, same}
use Rattle.kinds.specs.Kind.{Elementary, Suffix}
use Rattle.kinds.proofs.Logic.{same_equal}
use Rattle.model.specs.KindText.{Result, on_result, Entry, entry, lookup, kind_words, Cut, cut, uncut, cut_last, strip_step, strip, shut, Peeled, peeled, bare, peel_by, peel_at, peel, inside, Spelled, add_suffix, unsuffixed, or_number, elementary_of, from_str_by, from_str_in, from_str}
use Rattle.model.proofs.Bounds.{peel-shorter}

-- the last byte d
pub cut-here : (d : ℕ) (a b : List ℕ) → cut_last d b ≡ uncut → cut_last d (a ++ d ∷ b) ≡ cut a b
unfolding cut_last
cut-here d [] b e = rw (e, eq-eqb d d refl)
cut-here d (c ∷ a) b e = rw (cut-here d a b e)

pub cut-not : (d c : ℕ) (b : List ℕ) → (d ≡ c → ⊥) → cut_last d b ≡ uncut → cut_last d (c ∷ b) ≡ uncut
unfolding cut_last
cut-not d c b n e = rw (e, ne_eqb d c n)

pub cut-whole : (d : ℕ) (t a b : List ℕ) → cut_last d t ≡ cut a b → t ≡ a ++ d ∷ b
unfolding cut_last
cut-whole d [] a b e = cc
cut-whole d (c ∷ t) a b e = go (eqb d c) refl (cut_last d t) refl (λ x y q. cut-whole d t x y q)
  where
    go : (h : Bool) → eqb d c ≡ h → (r : Cut) → cut_last d t ≡ r → ((x y : List ℕ) → cut_last d t ≡ cut x y → t ≡ x ++ d ∷ y) → c ∷ t ≡ a ++ d ∷ b
    go h p (cut x y) q ih =
        let f : cut (c ∷ x) y ≡ cut a b = rw q at e in
        let g : c ∷ x ≡ a = cc in
        let k : y ≡ b = cc in
        rw (← g, ← k) (ap (c ∷◌) (ih x y q))
    go true p uncut q ih =
        let f : cut [] t ≡ cut a b = rw (q, p) at e in
        let g : [] ≡ a = cc in
        let k : t ≡ b = cc in
        rw (← g, ← k) (ap (◌∷ t) (sym (eqb-true d c p)))
    go false p uncut q ih = let f : uncut ≡ cut a b = rw (q, p) at e in cc

-- the last byte of a text
pub strip-same : (d : ℕ) (m : List ℕ) → strip d (m ++ (d ∷ [])) ≡ Some m
unfolding strip
strip-same d [] = rw (strip_step, eq-eqb d d refl)
strip-same d (c ∷ m) = go m (strip-same d m)
  where
    go : (u : List ℕ) → strip d (u ++ (d ∷ [])) ≡ Some u → strip d (c ∷ (u ++ (d ∷ []))) ≡ Some (c ∷ u)
    go [] e = rw e
    go (b ∷ u) e = rw e

pub strip-other : (d c : ℕ) (m : List ℕ) → (d ≡ c → ⊥) → strip d (m ++ (c ∷ [])) ≡ None
unfolding strip
strip-other d c [] n = rw (strip_step, ne_eqb d c n)
strip-other d c (b ∷ m) n = go m (strip-other d c m n)
  where
    go : (u : List ℕ) → strip d (u ++ (c ∷ [])) ≡ None → strip d (b ∷ (u ++ (c ∷ []))) ≡ None
    go [] e = rw e
    go (x ∷ u) e = rw e

-- a text that ends in some byte is something and that byte
strip-whole : (d : ℕ) (t m : List ℕ) → strip d t ≡ Some m → t ≡ m ++ (d ∷ [])
unfolding strip
strip-whole d [] m e = cc
strip-whole d (c ∷ t) m e = go t (strip d t) refl e (λ n q. strip-whole d t n q)
  where
    go : (u : List ℕ) (r : Option (List ℕ)) → strip d u ≡ r → strip_step d c u (strip d u) ≡ Some m → ((n : List ℕ) → strip d u ≡ Some n → u ≡ n ++ (d ∷ [])) → c ∷ u ≡ m ++ (d ∷ [])
    go [] r q f ih = last (eqb d c) refl
      where
        last : (b : Bool) → eqb d c ≡ b → c ∷ [] ≡ m ++ (d ∷ [])
        last true p = let g : Some [] ≡ Some m = rw (strip_step, p) at f in let h : [] ≡ m = cc in rw (← h) (ap (◌∷ []) (sym (eqb-true d c p)))
        last false p = let g : None ≡ Some m = rw (strip_step, p) at f in cc
    go (b ∷ u) None q f ih = let g : None ≡ Some m = rw q at f in cc
    go (b ∷ u) (Some n) q f ih = let g : Some (c ∷ n) ≡ Some m = rw q at f in let h : c ∷ n ≡ m = cc in rw (← h) (ap (c ∷◌) (ih n q))

-- a text with a suffix: the rest, and what stands in the brackets
pub peel-split : (t a : List ℕ) (o : Suffix) → peel t ≡ peeled a o → (m : List ℕ) × (t ≡ a ++ lbracket ∷ (m ++ (rbracket ∷ []))) × (inside m ≡ Some o)
unfolding peel
peel-split t a o e = go (cut_last lbracket t) refl e
  where
    within : (x b : List ℕ) → cut_last lbracket t ≡ cut x b → (r : Option (List ℕ)) → strip rbracket b ≡ r → peel_by x (shut r) ≡ peeled a o
        → (m : List ℕ) × (t ≡ a ++ lbracket ∷ (m ++ (rbracket ∷ []))) × (inside m ≡ Some o)
    within x b q None s f = let z : ◌≡◌ {A = ℕ} 0 1 = cc in absurd (omega arith)
    within x b q (Some m) s f = by (inside m) refl f
      where
        by : (i : Option Suffix) → inside m ≡ i → peel_by x i ≡ peeled a o → (n : List ℕ) × (t ≡ a ++ lbracket ∷ (n ++ (rbracket ∷ []))) × (inside n ≡ Some o)
        by None j g = let z : ◌≡◌ {A = ℕ} 0 1 = cc in absurd (omega arith)
        by (Some p) j g =
            let k : x ≡ a = cc in
            let l : p ≡ o = cc in
            (m, cut-whole lbracket t x b q ∙ rw (k, strip-whole rbracket b m s), rw l at j)

    go : (r : Cut) → cut_last lbracket t ≡ r → peel_at (cut_last lbracket t) ≡ peeled a o → (m : List ℕ) × (t ≡ a ++ lbracket ∷ (m ++ (rbracket ∷ []))) × (inside m ≡ Some o)
    go uncut q f = let z : bare ≡ peeled a o = rw q at f in let y : ◌≡◌ {A = ℕ} 0 1 = cc in absurd (omega arith)
    go (cut x b) q f = within x b q (strip rbracket b) refl (rw q at f)

-- a word that is a kind ends in no suffix
abbrev Bare : Entry Elementary → Type 0
Bare (entry w e) = peel w ≡ bare

abbrev AllBare : List (Entry Elementary) → Type 0
AllBare [] = Unit {0}
AllBare (x ∷ es) = Bare x × AllBare es

lookup-bare : (es : List (Entry Elementary)) → AllBare es → (t : List ℕ) (e : Elementary) → lookup es t ≡ Some e → peel t ≡ bare
lookup-bare [] h t e q = cc
lookup-bare (entry w f ∷ es) h t e q = go (same w t) refl (λ p. lookup-bare es h.1 t e p)
  where
    go : (b : Bool) → same w t ≡ b → (lookup es t ≡ Some e → peel t ≡ bare) → peel t ≡ bare
    go true s ih = rw (sym ((same_equal w t).0 s)) h.0
    go false s ih = ih (rw (lookup, s) at q)

words-bare : (t : List ℕ) (e : Elementary) → lookup kind_words t ≡ Some e → peel t ≡ bare
unfolding peel cut_last
words-bare t e q = lookup-bare kind_words (refl, (refl, (refl, (refl, (refl, (refl, (refl, tt))))))) t e q

-- one step, with what reads the rest
module _ (inner : List ℕ → Result Spelled) (t : List ℕ) where
  step-peeled : (a : List ℕ) (o : Suffix) → peel t ≡ peeled a o → from_str_by inner t (lookup kind_words t) (peel t) ≡ on_result (add_suffix o) (inner a)
  step-peeled a o e = go (lookup kind_words t) refl
    where
      go : (l : Option Elementary) → lookup kind_words t ≡ l → from_str_by inner t l (peel t) ≡ on_result (add_suffix o) (inner a)
      go None q = rw e
      go (Some x) q = let z : peeled a o ≡ bare = sym e ∙ words-bare t x q in let y : ◌≡◌ {A = ℕ} 0 1 = cc in absurd (omega arith)

  step-bare : peel t ≡ bare → from_str_by inner t (lookup kind_words t) (peel t) ≡ on_result unsuffixed (elementary_of t)
  unfolding elementary_of
  step-bare e = go (lookup kind_words t)
    where
      go : (l : Option Elementary) → from_str_by inner t l (peel t) ≡ on_result unsuffixed (or_number t l)
      go None = rw e
      go (Some x) = refl

-- any fuel that suffices gives the same
same-fuel : (j k : ℕ) (t : List ℕ) → length t < j → length t < k → from_str_in j t ≡ from_str_in k t
unfolding from_str_in
same-fuel zero k t h g = absurd (omega arith)
same-fuel (suc j) zero t h g = absurd (omega arith)
same-fuel (suc j) (suc k) t h g = go (peel t) refl (λ a q. same-fuel j k a (omega arith) (omega arith))
  where
    go : (p : Peeled) → peel t ≡ p → ((a : List ℕ) → length a < length t → from_str_in j a ≡ from_str_in k a) → from_str_in (suc j) t ≡ from_str_in (suc k) t
    go bare e ih = step-bare (λ a. from_str_in j a) t e ∙ sym (step-bare (λ a. from_str_in k a) t e)
    go (peeled a o) e ih = step-peeled (λ b. from_str_in j b) t a o e ∙ ap (on_result (add_suffix o)) (ih a (peel-shorter t a o e)) ∙ sym (step-peeled (λ b. from_str_in k b) t a o e)

-- a suffix is read off, or there is none
pub from_str_peeled : (t a : List ℕ) (o : Suffix) → peel t ≡ peeled a o → from_str t ≡ on_result (add_suffix o) (from_str a)
unfolding from_str from_str_in
from_str_peeled t a o e =
    step-peeled (λ b. from_str_in (length t) b) t a o e ∙ ap (on_result (add_suffix o)) (same-fuel (length t) (suc (length a)) a (peel-shorter t a o e) (omega arith))

pub from_str_bare : (t : List ℕ) → peel t ≡ bare → from_str t ≡ on_result unsuffixed (elementary_of t)
unfolding from_str from_str_in
from_str_bare t e = step-bare (λ b. from_str_in (length t) b) t e
