-- Records that bytes begin with.
-- Assumes nothing.
use mathlib.Core.Path.{◌≡◌, refl, ap}
use mathlib.Core.Bool.{Bool, true, false, ◌&&◌, and-eq-true_iff}
use mathlib.Core.List.{List}
use Prim.Native.Nat.{ℕ, ◌-◌, ◌≤◌, ◌<◌}
use native.Mathlib.Omega.{arith}
use lib.Dec.{leb}
use lib.ListN.{length, take, drop, length-take, length-drop}
use borrow.Author.Tests.{leb-true, le-leb}
use Rattle.model.specs.Layout.{le_value, no_piece, piece_of}
use Rattle.model.proofs.Scans.{part-rest}
use Rattle.std.specs.Prelude.{Option, None, Some}
use Rattle.record.specs.declared.Piece.{Piece}
use Rattle.record.specs.Parts.{taken, PieceIs, Headed}

-- where the length lies between the head's and what there is
pub piece-is : (b : List ℕ) (n : ℕ) (p : Piece) → Headed b → n ≡ le_value (take 4 b) → p.kind ≡ le_value (take 2 (drop 4 b)) → p.body.now ≡ take (n - 6) (drop 6 b)
    → p.rest.now ≡ take (length b - n) (drop n b) → PieceIs b (Some p)
unfolding taken piece_of
piece-is b n p h e k u v = record {
  same = rw (k, u, v, part-rest, e) (rw (piece_of, le-leb 6 (le_value (take 4 b)) h.low, le-leb (le_value (take 4 b)) (length b) h.inside));
  covers = omega (arith, ap length u, ap length v, e, h.low, h.inside, length-take (n - 6) (drop 6 b), length-drop 6 b, length-take (length b - n) (drop n b), length-drop n b);
}

-- and where it does not
module _ (b : List ℕ) where
  no_piece_lem : (6 ≤ le_value (take 4 b) → le_value (take 4 b) ≤ length b → ⊥) → PieceIs b None
  unfolding taken piece_of
  no_piece_lem h = record { same = go (leb 6 (le_value (take 4 b)) && leb (le_value (take 4 b)) (length b)) refl; covers = tt }
    where
      go : (t : Bool) → (leb 6 (le_value (take 4 b)) && leb (le_value (take 4 b)) (length b)) ≡ t → no_piece ≡ piece_of 4 b
      go false e = rw (piece_of, e)
      go true e = let (low, high) = (and-eq-true_iff _ _).0 e in absurd (h (leb-true _ _ low) (leb-true _ _ high))

  pub piece-short : length b < 6 → PieceIs b None
  piece-short h = no_piece_lem (λ x y. omega arith)

  pub piece-low : (n : ℕ) → n ≡ le_value (take 4 b) → n < 6 → PieceIs b None
  piece-low n e h = no_piece_lem (λ x y. omega arith)

  pub piece-long : (n : ℕ) → n ≡ le_value (take 4 b) → length b < n → PieceIs b None
  piece-long n e h = no_piece_lem (λ x y. omega arith)

-- behind a number
module _ (b : List ℕ) where
  pub behind-headed : Headed (drop 2 b) → Headed (take (length b - 2) (drop 2 b))
  behind-headed h = rw part-rest h

  pub behind-is : (r : Option Piece) → PieceIs (take (length b - 2) (drop 2 b)) r → PieceIs (drop 2 b) r
  behind-is r i = rw part-rest at i

pub ruleset pieces = (piece-is, piece-short, piece-low, piece-long, behind-headed, behind-is)
