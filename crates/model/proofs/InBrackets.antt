-- What stands between the brackets of a suffix: it is read exactly where it is what the suffix's text has there, within the limit.
-- Assumes nothing.
use mathlib.Core.Path.{◌≡◌, refl, subst}
use mathlib.Core.Logic.{◌↔◌}
use mathlib.Core.Bool.{true}
use mathlib.Core.List.{List, [], ◌∷◌, ◌++◌}
use Rattle.std.specs.Prelude.{Option, None, Some}
use Prim.Native.Nat.{ℕ}
use native.Mathlib.Omega.{arith}
use borrow.Author.Tests.{leb-true, le-leb}
use Rattle.kinds.specs.Bytes.{lbracket, rbracket}
use Rattle.kinds.specs.Decimal.{decimal}
use Rattle.kinds.specs.Kind.{Suffix, sized, unsized, suffix_text}
use Rattle.kinds.proofs.Decimal.{decimal_cons, number_bound, written_read, number-exact}
use Rattle.model.specs.KindText.{longest, sized_by, inside}
use Rattle.model.specs.Record.{is_suffix}

-- what stands between a suffix's brackets
abbrev pub inner : Suffix → List ℕ
inner (sized n) = decimal n
inner unsized = []

pub suffix-inner : (o : Suffix) → suffix_text o ≡ lbracket ∷ (inner o ++ (rbracket ∷ []))
unfolding suffix_text
suffix-inner (sized n) = refl
suffix-inner unsized = refl

-- nothing else is read there
sized-is : (r : Option ℕ) (o : Suffix) → sized_by r ≡ Some o → (n : ℕ) × (r ≡ Some n) × (sized n ≡ o)
sized-is None o e = let z : ◌≡◌ {A = ℕ} 0 1 = cc in absurd (omega arith)
sized-is (Some n) o e = (n, refl, cc)

inside-only : (m : List ℕ) (o : Suffix) → inside m ≡ Some o → (m ≡ inner o) × (is_suffix o ≡ true)
unfolding inside
inside-only [] o e =
    let g : unsized ≡ o = cc in
    subst (λ x. ([] ≡ inner x) × (is_suffix x ≡ true)) g (refl, refl)
inside-only (c ∷ s) o e =
    let (n, q, g) = sized-is _ o e in
    subst (λ x. (c ∷ s ≡ inner x) × (is_suffix x ≡ true)) g (number-exact longest (c ∷ s) n q, le-leb n longest (number_bound longest (c ∷ s) n q))

-- and that is
pub inside-inner : (o : Suffix) → is_suffix o ≡ true → inside (inner o) ≡ Some o
unfolding inside
inside-inner unsized h = refl
inside-inner (sized n) h =
    let (c, s, e) = decimal_cons n in
    rw (e, ← e, (written_read longest n).1 (leb-true n longest h))

pub inside-exactly : (m : List ℕ) (o : Suffix) → (inside m ≡ Some o) ↔ ((m ≡ inner o) × (is_suffix o ≡ true))
inside-exactly m o = (inside-only m o, λ (e, h). rw e (inside-inner o h))
