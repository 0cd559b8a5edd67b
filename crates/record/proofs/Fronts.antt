-- A field's mark and name, and a declaration's name, by how the code ends.
-- Assumes nothing.
use mathlib.Core.Path.{◌≡◌, refl, sym, ◌∙◌, ap, ap₂, subst}
use mathlib.Core.Bool.{Bool, true, false, ◌&&◌}
use mathlib.Core.List.{List}
use Rattle.std.specs.Prelude.{Option, None, Some}
use Prim.Native.Nat.{ℕ, ◌-◌}
use lib.Dec.{eqb}
use lib.ListN.{length, take, drop}
use borrow.Author.Tests.{ne_eqb}
use Rattle.kinds.specs.Bytes.{is_word}
use Rattle.model.specs.declared.Sort.{Sort}
use Rattle.model.specs.Tree.{Declaration}
use Rattle.model.specs.declared.Mark.{Mark}
use Rattle.model.specs.Mark.{mark_number}
use Rattle.model.specs.Layout.{Piece as Taken, piece, no_piece, piece_of}
use Rattle.model.specs.Record.{is_field_name, when, of_kind, on_piece, name_from}
use Rattle.model.proofs.Scans.{part-rest}
use Rattle.record.specs.declared.Piece.{Piece}
use Rattle.record.specs.declared.Fronted.{Fronted}
use Rattle.record.specs.Parts.{taken, PieceIs, FrontedIs, MarkIs, FrontIs}
use Rattle.record.specs.Says.{NameIs, NamePlaced}
use Rattle.record.specs.Texts.{is_mark_at, kind_from, field_text_from}
use Rattle.record.proofs.Equations.{field-short, field-named, named_by}
use Rattle.record.proofs.Names.{mark-over}
use Rattle.record.proofs.Places.{piece-body, piece-stands, rest-stands}

module _ (sort : Sort) (body : List ℕ) where
  -- no number, no mark, no name
  pub front-short : (r : Option Piece) → r ≡ None → FrontedIs body None → FrontIs sort body r
  front-short r e h = rw e (λ d. field-short sort d body h)

  module _ (t : Fronted) (h : FrontedIs body (Some t)) where
    named : (d : ℕ) → field_text_from sort d 0x10 body ≡ of_kind 0x11 (piece_of 4 t.rest.now) (λ nm r₁. when (is_mark_at sort r₁ t.number nm && is_field_name nm) (kind_from d r₁))
    named d = field-named sort d body h.0 ∙ ap₂ (named_by sort d) (sym h.1) (sym h.2)

    pub front-unknown : (r : Option Piece) → r ≡ None → MarkIs t.number None → FrontIs sort body r
    front-unknown r e z = rw e (λ d. named d ∙ go d (piece_of 4 t.rest.now))
      where
        kind : (d : ℕ) (b : Bool) (nm r : List ℕ) → ◌≡◌ {A = Option (List ℕ)} (elim b as (λ _. Option (List ℕ)) [ true ↦ when (is_mark_at sort r t.number nm && is_field_name nm) (kind_from d r) | false ↦ None ]) None
        kind d true nm r = rw (mark-over sort r t.number nm z)
        kind d false nm r = refl

        go : (d : ℕ) (p : Taken) → of_kind 0x11 p (λ nm r₁. when (is_mark_at sort r₁ t.number nm && is_field_name nm) (kind_from d r₁)) ≡ None
        go d no_piece = refl
        go d (piece k nm r) = kind d (eqb k 0x11) nm r

    pub front-none : (r : Option Piece) → r ≡ None → PieceIs t.rest.now None → FrontIs sort body r
    unfolding taken
    front-none r e p = rw e (λ d. named d ∙ rw (← p.same))

    module _ (n : Piece) (p : PieceIs t.rest.now (Some n)) where
      headed : (d : ℕ) → field_text_from sort d 0x10 body ≡ of_kind 0x11 (piece n.kind n.body.now n.rest.now) (λ nm r₁. when (is_mark_at sort r₁ t.number nm && is_field_name nm) (kind_from d r₁))
      unfolding taken
      headed d = named d ∙ rw (← p.same)

      pub front-other : (n.kind ≡ 0x11 → ⊥) → FrontIs sort body None
      front-other y d = headed d ∙ rw (on_piece, ne_eqb n.kind 0x11 y)

      module _ (m : Mark) (q : MarkIs t.number (Some m)) (a : Bool) (f : a ≡ is_mark_at sort n.rest.now (mark_number m) n.body.now) (y : n.kind ≡ 0x11) where
        marked : is_mark_at sort n.rest.now t.number n.body.now ≡ a
        marked = rw q (sym f)

        pub front-unmarked : a ≡ false → FrontIs sort body None
        front-unmarked g d = headed d ∙ rw (y, marked, g)

        module _ (b : Bool) (g : a ≡ true) (w : b ≡ is_field_name (take (length n.body.now) (take (length t.rest.now - 6) (drop 6 t.rest.now)))) where
          worded : is_field_name n.body.now ≡ b
          worded = sym (w ∙ ap (λ u. is_field_name (take (length n.body.now) u)) (part-rest t.rest.now 6) ∙ ap is_field_name (piece-body t.rest.now n p))

          pub front-unnamed : b ≡ false → FrontIs sort body None
          front-unnamed u d = headed d ∙ rw (y, marked, g, worded, u)

          pub front-is : b ≡ true → FrontIs sort body (Some n)
          front-is u = record {
            there = subst (λ x. PieceIs x (Some n)) h.2 p;
            long = h.0;
            same = λ d. headed d ∙ rw (y, marked, g, worded, u);
          }

-- a declaration's name
module _ (b : List ℕ) where
  pub name-none : (r : Option Piece) → r ≡ None → PieceIs b None → NameIs b r
  unfolding taken
  name-none r e p = rw e (λ f. rw (← p.same))

  module _ (n : Piece) (p : PieceIs b (Some n)) where
    there : (f : List ℕ → List ℕ → Option Declaration) → name_from 4 b f ≡ of_kind 0x11 (piece n.kind n.body.now n.rest.now) (λ nm r. when (is_word nm) (f nm r))
    unfolding taken
    there f = rw (← p.same)

    pub name-other : (n.kind ≡ 0x11 → ⊥) → NameIs b None
    name-other y f = there f ∙ rw (on_piece, ne_eqb n.kind 0x11 y)

    module _ (y : n.kind ≡ 0x11) (w : Bool) (g : w ≡ is_word (take (length n.body.now) (take (length b - 6) (drop 6 b)))) where
      spelled : is_word n.body.now ≡ w
      spelled = sym (g ∙ ap (λ u. is_word (take (length n.body.now) u)) (part-rest b 6) ∙ ap is_word (piece-body b n p))

      pub name-bad : w ≡ false → NameIs b None
      name-bad e f = there f ∙ rw (y, spelled, e)

      pub name-is : w ≡ true → NameIs b (Some n)
      name-is e = (λ f. there f ∙ rw (y, spelled, e), p.covers)

      pub name-placed : w ≡ true → NamePlaced b (Some n)
      name-placed e = (name-is e, piece-stands b n p, rest-stands b n p)
