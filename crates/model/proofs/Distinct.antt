-- Lists of declarations without repeats: one behind the other, and one more.
-- Assumes nothing.
use mathlib.Core.Path.{◌≡◌, refl, sym, ◌∙◌, ap}
use mathlib.Core.Logic.{◌↔◌}
use mathlib.Core.Bool.{Bool, true, false, ◌||◌, false≢true, or_assoc, or-false}
use mathlib.Core.List.{List, [], ◌∷◌, ◌++◌, append-nil, append_assoc}
use Rattle.std.specs.Prelude.{Option, None, Some}
use Rattle.std.proofs.lemmas.Option.{none-some}
use Prim.Native.Nat.{ℕ, suc}
use Rattle.model.specs.Tree.{Declaration}
use Rattle.model.specs.Record.{on_option, is_absent}
use Rattle.model.specs.Sheet.{repeats, has, first_repeat}

-- has, of lists one behind the other
pub has_append : (xs ys : List Declaration) (d : Declaration) → has (xs ++ ys) d ≡ (has xs d || has ys d)
unfolding has
has_append [] ys d = refl
has_append (x ∷ xs) ys d = ap (λ b. repeats x d || b) (has_append xs ys d) ∙ sym (or_assoc (repeats x d) (has xs d) (has ys d))

pub has_last : (xs : List Declaration) (c d : Declaration) → has (xs ++ (c ∷ [])) d ≡ (has xs d || repeats c d)
unfolding has
has_last xs c d = has_append xs (c ∷ []) d ∙ ap (λ b. has xs d || b) (or-false (repeats c d))

-- nothing is repeated: of the first, and of those behind it
none_of : (o : Option ℕ) → on_option suc o ≡ None → o ≡ None
none_of None r = refl
none_of (Some i) r = absurd (none-some (suc i) (sym r))

module _ (es : List Declaration) (d : Declaration) (ds : List Declaration) where
  pub first-distinct : (first_repeat es (d ∷ ds) ≡ None) ↔ ((has es d ≡ false) × (first_repeat (es ++ (d ∷ [])) ds ≡ None))
  unfolding first_repeat
  first-distinct = (λ h. go (has es d) refl h, λ p. rw (first_repeat, p.0) (ap (on_option suc) p.1))
    where
      go : (b : Bool) → has es d ≡ b → ◌≡◌ {A = Option ℕ} (elim b as (λ _. Option ℕ) [ true ↦ Some 0 | false ↦ on_option suc (first_repeat (es ++ (d ∷ [])) ds) ]) None
          → (has es d ≡ false) × (first_repeat (es ++ (d ∷ [])) ds ≡ None)
      go true p q = absurd (none-some 0 (sym q))
      go false p q = (p, none_of _ q)

-- and of lists one behind the other
pub distinct_append : (es xs ys : List Declaration) → (first_repeat es (xs ++ ys) ≡ None) ↔ ((first_repeat es xs ≡ None) × (first_repeat (es ++ xs) ys ≡ None))
unfolding first_repeat
distinct_append es [] ys = (λ h. (refl, rw append-nil h), λ p. rw append-nil at p.1)
distinct_append es (x ∷ xs) ys = (
  λ h.
      let (p, q) = (first-distinct es x (xs ++ ys)).0 h in
      let (r, s) = (distinct_append (es ++ (x ∷ [])) xs ys).0 q in
      ((first-distinct es x xs).1 (p, r), rw (append_assoc es (x ∷ []) xs) at s),
  λ p.
      let (q, r) = (first-distinct es x xs).0 p.0 in
      (first-distinct es x (xs ++ ys)).1 (q, (distinct_append (es ++ (x ∷ [])) xs ys).1 (r, rw (append_assoc es (x ∷ []) xs) p.1)),
)

-- one more behind them
pub distinct_more : (ds : List Declaration) (d : Declaration) → first_repeat [] ds ≡ None → has ds d ≡ false → first_repeat [] (ds ++ (d ∷ [])) ≡ None
unfolding first_repeat
distinct_more ds d h k = (distinct_append [] ds (d ∷ [])).1 (h, (first-distinct ds d []).1 (k, refl))

pub absent-is : (o : Option ℕ) → is_absent o ≡ true → o ≡ None
absent-is None h = refl
absent-is (Some i) h = absurd (false≢true h)
