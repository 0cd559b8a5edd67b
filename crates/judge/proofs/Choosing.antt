-- The elements of an array, one by one, the one that takes most left for the end.
-- Assumes nothing.
use mathlib.Core.Path.{◌≡◌, sym, ◌∙◌, ap, subst}
use mathlib.Core.Logic.{⊎_elim}
use mathlib.Core.Bool.{Bool, true, false, ◌&&◌, and-true, and-false, and_assoc, and_comm}
use mathlib.Core.List.{List}
use Rattle.std.specs.Prelude.{Option, None, Some}
use Rattle.std.specs.Borrow.{Bor}
use Prim.Native.Nat.{ℕ, zero, suc, ◌+◌, ◌*◌, ◌-◌, ◌≤◌, ◌<◌}
use native.Mathlib.Omega.{arith}
use lib.Dec.{leb, eqb}
use lib.ListN.{length, replicate}
use borrow.Author.Tests.{le-leb, lt-leb}
use Rattle.kinds.specs.Bytes.{same}
use Rattle.kinds.specs.Kind.{sized, Kind, is_kind}
use Rattle.model.specs.Reading.{FieldKind}
use Rattle.encoding.specs.Dynamic.{is_dynamic}
use Rattle.encoding.specs.Words.{word}
use Rattle.encoding.specs.Judge.{given, slot, word_at, has_word, follow, group, end_of, ends_at}
use Rattle.encoding.proofs.Lengths.{head-dynamic}
use Rattle.extent.specs.Walks.{tree_of}
use Rattle.judge.specs.Fits.{fits, Data, DynamicIs, FitsKind}
use Rattle.judge.specs.declared.Step.TheVariants as step
use Rattle.judge.specs.Steps.{ElementsStep, Heads, HeadSays, EndSays, Sorted}
use Rattle.judge.proofs.Parts.{part, part_data, kind-valid, end-inside, part_fits}
use Rattle.judge.proofs.Saying.{eqb-turned, goes_on, given-same, when-ends}

module _ (d : List ℕ) (k : Kind) where
  -- m elements behind one that begins at s, the first of their heads at h
  left : ℕ → ℕ → ℕ → Bool
  left m h s = ends_at (length d) (given (end_of d k s) (λ e. follow d (replicate m (slot true (λ a. end_of d k a))) 0 h e))

  -- m elements of which the first begins at s, with its head at h
  others : ℕ → ℕ → ℕ → Bool
  others zero h s = true
  others (suc m) h s = left m (h + 32) s

  -- the one that begins at s ends nowhere, or at c
  abbrev Ended : ℕ → ℕ → ℕ → Option ℕ → Type 0
  Ended m h s None = left m h s ≡ false
  Ended m h s (Some c) = (s ≤ c) × (c ≤ length d) × (left m h s ≡ (fits k (part d s c) && others m h c))

  closed : Data d → is_kind k ≡ true → (seam m h s : ℕ) (r : Option ℕ) → h + 32 * m ≡ seam → s ≤ length d → EndSays d s h seam r → Ended m h s r
  unfolding left others follow
  closed q g seam zero h s r e l x =
      subst (Ended zero h s) (sym (x.last (omega arith)))
      (l, omega arith, ap (ends_at (length d)) (given-same (end_of d k s)) ∙ part_fits k g d q s (length d) l (omega arith) ∙ sym (and-true _))
  closed q g seam (suc m) h s r e l x = go r (x.next (omega arith))
    where
      F : ℕ → Option ℕ
      F y = given (end_of d k y) (λ a. follow d (replicate m (slot true (λ b. end_of d k b))) 0 (h + 32) a)

      go : (r : Option ℕ) → HeadSays d s h r → Ended (suc m) h s r
      go None y = goes_on d s h F None (end_of d k s) y (λ e f. end-inside k g d q s e l f)
      go (Some c) y =
          let fit = part_fits k g d q s c y.0 y.1 in
          (y.0, y.1, goes_on d s h F (Some c) (end_of d k s) y (λ e f. end-inside k g d q s e l f) ∙ ap (λ b. b && ends_at (length d) (F c)) fit)

  -- all of them
  module _ (v : is_dynamic k ≡ true) (n : ℕ) where
    -- their heads, and then they
    follow-all : ℕ → Option ℕ
    follow-all m = follow d (replicate m (slot true (λ a. end_of d k a))) 0 0 (32 * n)

    array-is : fits (Kind.array k (sized n)) d ≡ (leb (32 * n) (length d) && ends_at (length d) (follow-all n))
    unfolding fits end_of group follow-all
    array-is = let z : 0 + n * 32 ≡ 32 * n = omega arith in rw (v, head-dynamic k v, z) (when-ends (length d) (leb (32 * n) (length d)) (follow-all n))

    pub fits-none : n ≡ 0 → fits (Kind.array k (sized n)) d ≡ eqb (length d) 0
    unfolding follow follow-all
    fits-none e = array-is ∙ rw (e, le-leb 0 (length d) (omega arith)) (eqb-turned 0 (length d))

    pub fits_over : length d < 32 * n → fits (Kind.array k (sized n)) d ≡ false
    fits_over h = array-is ∙ rw (lt-leb (32 * n) (length d) h)

    fits-first : 1 ≤ n → 32 * n ≤ length d
        → fits (Kind.array k (sized n)) d ≡ ((has_word d 0 && same (word_at d 0) (word (32 * n))) && left (n - 1) 32 (32 * n))
    unfolding follow left follow-all
    fits-first h l =
        let m : n ≡ suc (n - 1) = omega arith in
        let z : 32 * n - 0 ≡ 32 * n = omega arith in
        let others = follow d (replicate (n - 1) (slot true (λ a. end_of d k a))) 0 32 in
        array-is ∙ ap (λ b. b && ends_at (length d) (follow-all n)) (le-leb (32 * n) (length d) l) ∙ ap (λ x. ends_at (length d) (follow-all x)) m
        ∙ when-ends (length d) (has_word d 0 && same (word_at d 0) (word (32 * n - 0))) (given (end_of d k (32 * n)) (λ e. others e))
        ∙ ap (λ y. (has_word d 0 && same (word_at d 0) (word y)) && left (n - 1) 32 (32 * n)) z

-- Two parts.

module _ (a b short long : List ℕ) (s : Sorted a b short long) where
  sorted_all : (Q : List ℕ → Type 0) → Q a → Q b → Q short × Q long
  sorted_all Q x y = ⊎_elim (λ e. rw (e.0, e.1) (x, y)) (λ e. rw (e.0, e.1) (y, x)) s

  sorted_both : (P : List ℕ → Bool) → (P a && P b) ≡ (P short && P long)
  sorted_both P = ⊎_elim (λ e. rw (e.0, e.1)) (λ e. rw (e.0, e.1) (and_comm (P a) (P b))) s

-- The loop.

module _ {t d : List ℕ} {n : ℕ} (w : Heads t d n) where
  abbrev whole : FieldKind → Bool
  whole k = fits (Kind.array (tree_of k) (sized n)) d

  -- where the element that begins at s ends, m being left behind it
  ended : (m h s : ℕ) (r : Option ℕ) → h + 32 * m ≡ 32 * n → s ≤ length d → EndSays d s h (32 * n) r → (k : FieldKind) → DynamicIs t k
      → Ended d (tree_of k) m h s r
  ended m h s r e l x k i = closed d (tree_of k) w.ready (kind-valid t k i.is) (32 * n) m h s r e l x

  first-told : (k : FieldKind) → DynamicIs t k → whole k ≡ ((has_word d 0 && same (word_at d 0) (word (32 * n))) && left d (tree_of k) (n - 1) 32 (32 * n))
  first-told k i = fits-first d (tree_of k) i.dynamic n w.least w.room

  pub first-bad : false ≡ (has_word d 0 && same (word_at d 0) (word (32 * n))) → ElementsStep t d n None
  first-bad e k i = first-told k i ∙ ap (λ b. b && left d (tree_of k) (n - 1) 32 (32 * n)) (sym e)

  -- i elements have ended, all but one of them judged; the next begins at s
  pub record Chosen (i s : ℕ) (most : List ℕ) : Type 0 where
    pub begun : 1 ≤ i
    pub order : i ≤ n
    pub start : s ≤ length d
    pub ready : Data most
    all : (k : FieldKind) → DynamicIs t k → whole k ≡ (fits (tree_of k) most && others d (tree_of k) (n - i) (32 * i) s)

  module _ (e : true ≡ (has_word d 0 && same (word_at d 0) (word (32 * n)))) where
    first-left : (k : FieldKind) → DynamicIs t k → whole k ≡ left d (tree_of k) (n - 1) 32 (32 * n)
    first-left k i = first-told k i ∙ ap (λ b. b && left d (tree_of k) (n - 1) 32 (32 * n)) (sym e)

    pub first_open : EndSays d (32 * n) 32 (32 * n) None → ElementsStep t d n None
    first_open x k i = first-left k i ∙ ended (n - 1) 32 (32 * n) None (omega (arith, w.least)) w.room x k i

    pub chosen-start : (c : ℕ) → EndSays d (32 * n) 32 (32 * n) (Some c) → Chosen 1 c (part d (32 * n) c)
    chosen-start c x =
        let y = ended (n - 1) 32 (32 * n) (Some c) (omega (arith, w.least)) w.room x in
        let z = y w.some.0 w.some.1 in
        record { begun = omega arith; order = w.least; start = z.1; ready = part_data d (32 * n) c z.0 z.1 w.ready; all = λ k i. first-left k i ∙ (y k i).2 }

  module _ {i s : ℕ} {most : List ℕ} (v : Chosen i s most) where
    pub chosen-end : (p : Bor (List ℕ)) → p.now ≡ most → i ≡ n → ElementsStep t d n (Some (step.Down p))
    unfolding others
    chosen-end p f e k j =
        let z : n - i ≡ 0 = omega arith in
        let one = v.all k j ∙ ap (λ x. fits (tree_of k) most && others d (tree_of k) x (32 * i) s) z ∙ and-true (fits (tree_of k) most) in
        record { ready = subst Data (sym f) v.ready; dynamic = j.dynamic; same = one ∙ ap (fits (tree_of k)) (sym f) }

    module _ (l : i < n) {r : Option ℕ} (x : EndSays d s (32 * (i + 1)) (32 * n) r) where
      next-ended : (k : FieldKind) → DynamicIs t k → Ended d (tree_of k) (n - (i + 1)) (32 * (i + 1)) s r
      next-ended = ended (n - (i + 1)) (32 * (i + 1)) s r (omega arith) v.start x

      next-left : (k : FieldKind) → DynamicIs t k → whole k ≡ (fits (tree_of k) most && left d (tree_of k) (n - (i + 1)) (32 * (i + 1)) s)
      unfolding others
      next-left k j =
          let z : n - i ≡ suc (n - (i + 1)) = omega arith in
          let h : 32 * i + 32 ≡ 32 * (i + 1) = omega arith in
          let B = fits (tree_of k) most in
          v.all k j ∙ ap (λ y. B && others d (tree_of k) y (32 * i) s) z ∙ ap (λ y. B && left d (tree_of k) (n - (i + 1)) y s) h

      pub next_open : r ≡ None → ElementsStep t d n None
      next_open e k j =
          let none = subst (Ended d (tree_of k) (n - (i + 1)) (32 * (i + 1)) s) e (next-ended k j) in
          next-left k j ∙ ap (λ b. fits (tree_of k) most && b) none ∙ and-false (fits (tree_of k) most)

      module _ {c : ℕ} (e : r ≡ Some c) where
        next : (k : FieldKind) → DynamicIs t k → Ended d (tree_of k) (n - (i + 1)) (32 * (i + 1)) s (Some c)
        next k j = subst (Ended d (tree_of k) (n - (i + 1)) (32 * (i + 1)) s) e (next-ended k j)

        pub next-inside : (s ≤ c) × (c ≤ length d)
        next-inside = let y = next w.some.0 w.some.1 in (y.0, y.1)

        module _ {short long : List ℕ} (y : Sorted most (part d s c) short long) where
          both-ready : Data short × Data long
          both-ready = sorted_all most (part d s c) short long y Data v.ready (part_data d s c next-inside.0 next-inside.1 w.ready)

          pub short_ready : Data short
          short_ready = both-ready.0

          -- what is told of the shorter part
          module _ {o : Bool} (z : FitsKind t short o) where
            split : (k : FieldKind) → DynamicIs t k → whole k ≡ (o && (fits (tree_of k) long && others d (tree_of k) (n - (i + 1)) (32 * (i + 1)) c))
            split k j =
                let F = fits (tree_of k) in
                let R : Bool = others d (tree_of k) (n - (i + 1)) (32 * (i + 1)) c in
                next-left k j ∙ ap (λ b. F most && b) (next k j).2 ∙ sym (and_assoc (F most) (F (part d s c)) R)
                ∙ ap (λ b. b && R) (sorted_both most (part d s c) short long y F) ∙ and_assoc (F short) (F long) R ∙ ap (λ b. b && (F long && R)) (sym (z k j))

            pub short-bad : o ≡ false → ElementsStep t d n None
            short-bad f k j = split k j ∙ ap (λ b. b && (fits (tree_of k) long && others d (tree_of k) (n - (i + 1)) (32 * (i + 1)) c)) f

            pub chosen-next : o ≡ true → Chosen (i + 1) c long
            chosen-next f = record {
              begun = omega arith;
              order = omega arith;
              start = next-inside.1;
              ready = both-ready.1;
              all = λ k j. split k j ∙ ap (λ b. b && (fits (tree_of k) long && others d (tree_of k) (n - (i + 1)) (32 * (i + 1)) c)) f;
            }

pub ruleset choice = (first-bad, first_open, chosen-start, chosen-end, next_open, next-inside, short_ready, short-bad, chosen-next)
