-- How far a class of bytes reaches, by std's search for the first byte of another.
-- Assumes nothing.
use mathlib.Core.Path.{◌≡◌, refl, ◌∙◌}
use mathlib.Core.Bool.{Bool, true, false, cond, not}
use mathlib.Core.List.{List, [], ◌∷◌}
use Rattle.std.specs.Prelude.{Option, None, Some}
use Rattle.std.specs.List.{position_or_len}
use Rattle.std.specs.Option.{unwrap_or}
use Prim.Native.Nat.{ℕ, ◌≤◌}
use native.Mathlib.Omega.{arith}
use lib.Dec.{ltb}
use lib.ListN.{length}
use borrow.Author.Tests.{ltb-false}
use Rattle.model.specs.Text.{span_from, span, one}
use Rattle.model.proofs.Scans.{span_le}

module _ (p : ℕ → Bool) where
  position-span : (t : List ℕ) → position_or_len (λ c. not (p c)) t ≡ span (one p) t
  unfolding span_from
  position-span [] = refl
  position-span (c ∷ t) = go (p c) refl (position-span t)
    where
      go : (b : Bool) → p c ≡ b → position_or_len (λ c. not (p c)) t ≡ span (one p) t → position_or_len (λ c. not (p c)) (c ∷ t) ≡ span (one p) (c ∷ t)
      go true e h = rw (span_from, e) (omega (arith, h))
      go false e h = rw (span_from, e)

  -- n is what `position` answered of the first byte that is not of the class, or the length
  pub reached : (t : List ℕ) (r : Option ℕ) (n : ℕ) → r ≡ cond (ltb (position_or_len (λ c. not (p c)) t) (length t)) (Some (position_or_len (λ c. not (p c)) t)) None
      → n ≡ unwrap_or r (length t) → (n ≡ span (one p) t) × (n ≤ length t)
  reached t r n e f =
      let g : n ≡ span (one p) t = go (ltb (position_or_len (λ c. not (p c)) t) (length t)) refl in
      (g, omega (arith, span_le (one p) t))
    where
      go : (b : Bool) → ltb (position_or_len (λ c. not (p c)) t) (length t) ≡ b → n ≡ span (one p) t
      go true h = f ∙ rw (e, h) (position-span t)
      go false h = f ∙ rw (e, h) (omega (arith, ltb-false _ _ h, position-span t, span_le (one p) t))
