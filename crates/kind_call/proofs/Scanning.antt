-- The two scans of a kind text, byte by byte.
-- Assumes nothing.
use Rattle.std.proofs.Common.{◌≡◌, refl, sym, ◌∙◌, ap, Bool, true, false, ◌&&◌, not, List, ◌∷◌, ℕ, zero, suc, ◌+◌, ◌-◌, ◌≤◌, ◌<◌, arith, add-one, eqb, length, take, drop, get_or, drop-cons, nat_eq, Option, None, Some}
use Rattle.std.proofs.Math.ListN.{drop_of_length-le}
use Rattle.std.proofs.Math.Numerals.{sub-one}
use borrow.Author.Tests.{ne_eqb}
use Rattle.std.specs.Option.{SomeIff}
use Rattle.model.proofs.Scans.{part-rest}
use Rattle.kinds.specs.Bytes.{lparen, rparen, rbracket, is_letter}
use Rattle.model.specs.Text.{blank}
use Rattle.model.specs.Reading.{deepest, longest_text}
use Rattle.model.specs.Calls.{crowded, closes, is_bare}
use Rattle.kind_call.specs.Scans.{StepIs, stands_at}

-- one byte
module _ (c l : ℕ) where
  pub step_open : (r : Option ℕ) → c ≡ lparen → SomeIff r (1 ≤ l) (l - 1) → StepIs c l r
  unfolding crowded
  step_open None e h = λ p t. let z : l ≡ 0 = omega arith in rw (e, z)
  step_open (Some n) e (h, q) = (λ p t. rw (e, q) (go l h p t), omega arith)
    where
      go : (k : ℕ) → 1 ≤ k → (p : ℕ) (t : List ℕ) → crowded k p (lparen ∷ t) ≡ crowded (k - 1) (suc p) t
      go zero y p t = absurd (omega arith)
      go (suc k) y p t = rw sub-one

  pub step-close : c ≡ rparen → StepIs c l (Some (l + 1))
  unfolding crowded
  step-close e = (λ p t. rw (e, add-one), omega arith)

  pub step_other : (c ≡ lparen → ⊥) → (c ≡ rparen → ⊥) → StepIs c l (Some l)
  unfolding crowded
  step_other n m = (λ p t. rw (crowded, ne_eqb c lparen n, ne_eqb c rparen m), omega arith)

-- what stands at a place
module _ (s : List ℕ) (i : ℕ) (n : ℕ) (e : n ≡ blank (take (length s - i) (drop i s))) where
  here : blank (drop i s) ≡ n
  here = sym (rw part-rest at e)

  pub stands-blank : (b : Bool) → (n ≡ 0 → ⊥) → nat_eq n 0 ≡ stands_at s i b
  unfolding stands_at
  stands-blank b z = rw (stands_at, here, ne_eqb n 0 z)

  pub stands-first : n ≡ 0 → true ≡ stands_at s i false
  unfolding stands_at
  stands-first z = rw (stands_at, here, z)

  pub stands-behind : (r : Bool) → n ≡ 0 → r ≡ is_letter (get_or s i 0) → not r ≡ stands_at s i true
  unfolding stands_at
  stands-behind r z g = rw (stands_at, here, z, g)

-- so far no byte opens one too many: l more may open behind the first i
pub record SoFar (s : List ℕ) (l i : ℕ) : Type 0 where
  pub small : l ≤ deepest + i
  pub short : length s ≤ 4096
  pub same : crowded deepest 0 s ≡ crowded l i (drop i s)

pub so_start : (s : List ℕ) → length s ≤ 4096 → SoFar s deepest 0
so_start s h = record { small = omega arith; short = h; same = refl }

module _ (s : List ℕ) (l i : ℕ) (g : SoFar s l i) where
  pub so_end : length s ≤ i → None ≡ crowded deepest 0 s
  unfolding crowded
  so_end h = sym (g.same ∙ rw (drop_of_length-le s h))

  module _ (h : i < length s) where
    pub so_small : l ≤ deepest + longest_text
    so_small = omega (arith, g.small, g.short)

    pub so_over : StepIs (get_or s i 0) l None → Some i ≡ crowded deepest 0 s
    so_over k = sym (g.same ∙ rw (drop-cons s i 0 h) (k i (drop (suc i) s)))

    pub so_next : (n : ℕ) → StepIs (get_or s i 0) l (Some n) → SoFar s n (i + 1)
    so_next n k = record { small = omega (arith, g.small, k.1); short = g.short; same = rw add-one (g.same ∙ rw (drop-cons s i 0 h) (k.0 i (drop (suc i) s))) }

-- so far the text is bare: b says whether a bracket that closes stands before the place i
pub record BareFar (s : List ℕ) (b : Bool) (i : ℕ) : Type 0 where
  pub same : is_bare false s ≡ is_bare b (drop i s)

pub bare-start : (s : List ℕ) → BareFar s false 0
bare-start s = record { same = refl }

module _ (s : List ℕ) (b : Bool) (i : ℕ) (g : BareFar s b i) where
  pub bare-end : length s ≤ i → true ≡ is_bare false s
  unfolding is_bare
  bare-end h = sym (g.same ∙ rw (drop_of_length-le s h))

  module _ (r : Bool) (h : i < length s) (k : r ≡ stands_at s i b) where
    bare_step : is_bare false s ≡ (r && is_bare (closes (get_or s i 0)) (drop (suc i) s))
    unfolding is_bare stands_at
    bare_step =
        let u : List ℕ = get_or s i 0 ∷ drop (suc i) s in
        let t : Bool = is_bare (closes (get_or s i 0)) (drop (suc i) s) in
        let x : Bool = eqb (blank u) 0 in
        let y : Bool = not (b && is_letter (get_or s i 0)) in
        let d : drop i s ≡ u = drop-cons s i 0 h in
        let f : r ≡ (x && y) = k ∙ ap (λ (v : List ℕ). eqb (blank v) 0 && y) d in
        g.same ∙ ap (is_bare b) d ∙ regroup x y t ∙ ap (λ (z : Bool). z && t) (sym f)
      where
        regroup : (x y z : Bool) → (x && (y && z)) ≡ ((x && y) && z)
        regroup true y z = refl
        regroup false y z = refl

    pub bare-stop : r ≡ false → false ≡ is_bare false s
    bare-stop e = sym (bare_step ∙ rw e)

    pub bare-next : (c : Bool) → r ≡ true → c ≡ closes (get_or s i 0) → BareFar s c (i + 1)
    bare-next c e f = record { same = rw (add-one, f) (bare_step ∙ rw e) }
