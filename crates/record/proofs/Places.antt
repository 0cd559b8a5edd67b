-- Parts that stand at places of a record.
-- Assumes nothing.
use mathlib.Core.Path.{◌≡◌, refl, sym, ◌∙◌, ap}
use mathlib.Core.Bool.{Bool, true, false, ◌&&◌, false≢true, and-eq-true_iff}
use mathlib.Core.List.{List, []}
use Rattle.std.specs.Prelude.{Option, None, Some}
use Prim.Native.Nat.{ℕ, ◌+◌, ◌-◌, ◌≤◌}
use native.Mathlib.Omega.{arith}
use lib.Dec.{leb}
use lib.ListN.{length, take, drop, length-drop}
use lib.Seq.{length-take-le, take-take, take-length, drop-drop}
use borrow.Author.Tests.{leb-true, le-leb}
use Rattle.std.proofs.lemmas.List.{drop-take}
use Rattle.model.specs.declared.Sort.{Sort}
use Rattle.model.specs.Layout.{le_value, Piece as Taken, piece, no_piece, piece_of}
use Rattle.record.specs.declared.Piece.{Piece}
use Rattle.record.specs.declared.Fronted.{Fronted}
use Rattle.record.specs.declared.Listed.{Listed}
use Rattle.record.specs.declared.Checked.{Checked}
use Rattle.record.specs.declared.Checked.TheVariants as checked
use Rattle.record.specs.Parts.{taken, PieceIs, FrontedIs, FrontIs, StandsIn}
use Rattle.record.specs.Says.{PartsStand, NamePlaced, ListPlaced}
use Rattle.record.proofs.Standing.{piece-headed}

-- the body of a piece stands behind its head
pub piece-body : (b : List ℕ) (p : Piece) → PieceIs b (Some p) → take (length p.body.now) (drop 6 b) ≡ p.body.now
unfolding taken piece_of
piece-body b p i = go (leb 6 (le_value (take 4 b)) && leb (le_value (take 4 b)) (length b)) refl
  where
    is_piece : Taken → Bool
    is_piece no_piece = false
    is_piece (piece k c r) = true

    body-of : Taken → List ℕ
    body-of no_piece = []
    body-of (piece k c r) = c

    go : (t : Bool) → (leb 6 (le_value (take 4 b)) && leb (le_value (take 4 b)) (length b)) ≡ t → take (length p.body.now) (drop 6 b) ≡ p.body.now
    go false q = absurd (false≢true (sym (ap is_piece (rw (piece_of, q) at i.same))))
    go true q =
        let n : ℕ = le_value (take 4 b) in
        let (low, high) = (and-eq-true_iff _ _).0 q in
        let most : n ≤ length b = leb-true _ _ high in
        let e : p.body.now ≡ take (n - 6) (drop 6 b) = ap body-of (rw (piece_of, q) at i.same) in
        rw e (ap (λ k. take k (drop 6 b)) (length-take-le (n - 6) (drop 6 b) (rw length-drop (omega arith))))

-- what stands in a part stands in the whole
pub stands-through : (b q p : List ℕ) → StandsIn b q → StandsIn q p → StandsIn b p
stands-through b q p x y =
    let within : drop y.from q ≡ take (length q - y.from) (drop (x.from + y.from) b)
    = ap (drop y.from) (sym x.there) ∙ ap (λ k. drop y.from (take k (drop x.from b))) (omega (arith, y.inside)) ∙ drop-take y.from (length q - y.from) (drop x.from b)
    ∙ ap (take (length q - y.from)) (drop-drop y.from x.from b) in
    record {
      from = x.from + y.from;
      there = sym (take-take (length p) (length q - y.from) (drop (x.from + y.from) b) (omega (arith, y.inside))) ∙ ap (take (length p)) (sym within) ∙ y.there;
      inside = omega (arith, x.inside, y.inside);
    }

-- and so do the parts that an answer about it holds
pub parts-through : (b q : List ℕ) (r : Option Checked) → StandsIn b q → PartsStand q r → PartsStand b r
parts-through b q None x y = tt
parts-through b q (Some (checked.Declared k nm i None)) x y = (stands-through b q nm.now x y.0, stands-through b q i.bytes.now x y.1, tt)
parts-through b q (Some (checked.Declared k nm i (Some u))) x y = (stands-through b q nm.now x y.0, stands-through b q i.bytes.now x y.1, stands-through b q u.bytes.now x y.2)
parts-through b q (Some (checked.Constructor i)) x y = stands-through b q i.bytes.now x y
parts-through b q (Some (checked.Field nm l)) x y = (stands-through b q nm.now x y.0, stands-through b q l.bytes.now x y.1)

-- what is behind n bytes
pub drop-stands : (b : List ℕ) (n : ℕ) → n ≤ length b → StandsIn b (drop n b)
drop-stands b n h = record { from = n; there = take-length (drop n b); inside = omega (arith, length-drop n b) }

-- the body of a piece, and what is behind it
module _ (b : List ℕ) (p : Piece) (i : PieceIs b (Some p)) where
  pub piece-stands : StandsIn b p.body.now
  piece-stands = record { from = 6; there = piece-body b p i; inside = omega (arith, i.covers) }

  rest-of : Taken → List ℕ
  rest-of no_piece = []
  rest-of (piece k c r) = r

  pub rest-stands : StandsIn b p.rest.now
  unfolding taken piece_of rest-of
  rest-stands =
      let n : ℕ = le_value (take 4 b) in
      let h = piece-headed b p.kind p.body.now p.rest.now (sym i.same) in
      let e : p.rest.now ≡ drop n b = ap rest-of (rw (piece_of, le-leb 6 n h.low, le-leb n (length b) h.inside) at i.same) in
      rw e (drop-stands b n h.inside)

-- behind a number; a name and lists, each behind the other; a field's name and kind
module _ (b : List ℕ) where
  module _ (t : Fronted) (h : FrontedIs b (Some t)) where
    fronted-stands : StandsIn b t.rest.now
    fronted-stands = rw h.2 (drop-stands b 2 h.0)

    pub numbered-part : (p : List ℕ) → StandsIn t.rest.now p → StandsIn b p
    numbered-part p = stands-through b t.rest.now p fronted-stands

    pub numbered-list : (sort : Sort) (l : Listed) → ListPlaced sort t.rest.now (Some l) → StandsIn b l.fields.bytes.now
    numbered-list sort l j = numbered-part l.fields.bytes.now j.1

  module _ (n : Piece) (i : NamePlaced b (Some n)) where
    pub name-stands : StandsIn b n.body.now
    name-stands = i.1

    module _ (sort : Sort) (l : Listed) (j : ListPlaced sort n.rest.now (Some l)) where
      pub inputs-stand : StandsIn b l.fields.bytes.now
      inputs-stand = stands-through b n.rest.now l.fields.bytes.now i.2 j.1

      pub outputs-stand : (u : Listed) → ListPlaced sort l.rest.now (Some u) → StandsIn b u.fields.bytes.now
      outputs-stand u k = stands-through b n.rest.now u.fields.bytes.now i.2 (stands-through n.rest.now l.rest.now u.fields.bytes.now j.2 k.1)

  module _ (sort : Sort) (n : Piece) (i : FrontIs sort b (Some n)) where
    front-part : (p : List ℕ) → StandsIn (drop 2 b) p → StandsIn b p
    front-part p = stands-through b (drop 2 b) p (drop-stands b 2 i.long)

    pub front-name : StandsIn b n.body.now
    front-name = front-part n.body.now (piece-stands (drop 2 b) n i.there)

    pub front-kind : StandsIn b n.rest.now
    front-kind = front-part n.rest.now (rest-stands (drop 2 b) n i.there)

pub ruleset standing = (numbered-list, name-stands, inputs-stand)
