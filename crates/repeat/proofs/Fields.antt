-- Two lists of fields side by side: what a loop over them knows.
-- Assumes nothing.
use mathlib.Core.Path.{◌≡◌, refl, sym, ◌∙◌, ap}
use mathlib.Core.Logic.{◌↔◌}
use mathlib.Core.Bool.{Bool, true, false, false≢true}
use mathlib.Core.List.{List}
use Rattle.std.specs.Prelude.{Some, ◌==◌}
use Prim.Native.Nat.{ℕ, ◌≤◌, ◌<◌}
use native.Mathlib.Omega.{arith}
use lib.ListN.{length, drop}
use borrow.Author.Tests.{eq-eqb, eqb-true}
use Rattle.kinds.specs.Kind.{more_kinds}
use Rattle.model.specs.Tree.{Field, field, Fields, no_field, more_fields, arrays, base_kind, kind_of, kinds_of}
use Rattle.record.specs.declared.Piece.{Piece}
use Rattle.record.specs.Parts.{Headed, PieceIs}
use Rattle.model.specs.Record.{encode_fields}
use Rattle.record.specs.Encoded.{kind_in, FieldsAre, SomeKind, SomeFields}
use Rattle.record.proofs.Standing.{FirstField, first-field, no-fields, field-parts, field-long, named-headed, fields-headed}
use Rattle.repeat.specs.Pairs.{KindsSame, ListsSame}

-- l and m are left, and decide
pub record Walked (a b l m : List ℕ) : Type 0 where
  pub one : SomeFields l
  pub other : SomeFields m
  pub short : length l ≤ length a
  pub rest : (r : Bool) → ListsSame l m r → ListsSame a b r

its-kind : (f : Field) → kind_of f ≡ arrays (base_kind (kind_in f).base) (kind_in f).suffixes
unfolding kind_of
its-kind (field m nm b ss) = refl

-- what is asked of a field
module _ (l : List ℕ) (x : Piece) (q : SomeFields l) (g : 0 < length l) where
  pub field_headed : Headed l
  field_headed = fields-headed l q g

  pub field-named : PieceIs l (Some x) → (2 ≤ length x.body.now) × Headed (drop 2 x.body.now)
  field-named i = let f = first-field l x q.0 q.1 g i in (omega (arith, field-long x.body.now f.field f.is), named-headed x.body.now (f.field, f.is))

  pub field-kind : (n : Piece) → PieceIs l (Some x) → PieceIs (drop 2 x.body.now) (Some n) → SomeKind n.rest.now
  field-kind n i j = let f = first-field l x q.0 q.1 g i in (kind_in f.field, (field-parts x.body.now n f.field f.is j).kind)

-- a field of each
module _ (l m : List ℕ) (x y n o : Piece) (i : PieceIs l (Some x)) (j : PieceIs m (Some y)) (u : PieceIs (drop 2 x.body.now) (Some n)) (v : PieceIs (drop 2 y.body.now) (Some o))
    (g : 0 < length l) (h : 0 < length m) (r : Bool) (w : KindsSame n.rest.now o.rest.now r) where
  first_same : (fs gs : Fields) → FieldsAre l fs → FieldsAre m gs → (e : FirstField x fs) → (f : FirstField y gs) → ((r ≡ true) × (kinds_of e.fields ≡ kinds_of f.fields)) ↔ (kinds_of fs ≡ kinds_of gs)
  unfolding kinds_of
  first_same fs gs p q e f =
      let c = w.told (kind_in e.field) (kind_in f.field) (field-parts x.body.now n e.field e.is u).kind (field-parts y.body.now o f.field f.is v).kind in (
        λ z.
            let k : kind_of e.field ≡ kind_of f.field = its-kind e.field ∙ c.0 z.0 ∙ sym (its-kind f.field) in
            rw (e.split, f.split, k, z.1),
        λ z.
            let k : more_kinds (kind_of e.field) (kinds_of e.fields) ≡ more_kinds (kind_of f.field) (kinds_of f.fields) = sym (ap kinds_of e.split) ∙ z ∙ ap kinds_of f.split in
            let t : kind_of e.field ≡ kind_of f.field = cc in
            (c.1 (sym (its-kind e.field) ∙ t ∙ its-kind f.field), cc),
      )

  lists_then : r ≡ true → (t : Bool) → ListsSame x.rest.now y.rest.now t → ListsSame l m t
  lists_then o₁ t z = record {
    told = λ fs gs p q.
        let e = first-field l x fs p g i in
        let f = first-field m y gs q h j in
        let s = first_same fs gs p q e f in
        let k = z.told e.fields f.fields e.rest f.rest in
        (λ d. s.0 (o₁, k.0 d), λ d. k.1 (s.1 d).1);
  }

  lists_differ : r ≡ false → ListsSame l m false
  lists_differ o₁ = record {
    told = λ fs gs p q.
        let s = first_same fs gs p q (first-field l x fs p g i) (first-field m y gs q h j) in
        (λ d. absurd (false≢true d), λ d. absurd (false≢true (sym o₁ ∙ (s.1 d).0)));
  }

  module _ (a b : List ℕ) (k : Walked a b l m) where
    pub walked_more : r ≡ true → Walked a b x.rest.now y.rest.now
    walked_more o₁ =
        let e = first-field l x k.one.0 k.one.1 g i in
        let f = first-field m y k.other.0 k.other.1 h j in
        record { one = (e.fields, e.rest); other = (f.fields, f.rest); short = omega (arith, k.short, i.covers); rest = λ t z. k.rest t (lists_then o₁ t z) }

    pub walked_differ : r ≡ false → ListsSame a b false
    walked_differ o₁ = k.rest false (lists_differ o₁)

-- nothing is left of one
nothing-more : (f : Field) (fs : Fields) → kinds_of no_field ≡ kinds_of (more_fields f fs) → ⊥
unfolding kinds_of
nothing-more f fs e = let z : ◌≡◌ {A = ℕ} 0 1 = cc in omega arith

more-long : (b : List ℕ) (f : Field) (fs : Fields) → FieldsAre b (more_fields f fs) → length b ≡ 0 → ⊥
more-long b f fs i h = let e : more_fields f fs ≡ no_field = no-fields b (more_fields f fs) i h in let z : ◌≡◌ {A = ℕ} 0 1 = cc in omega arith

none-long : (b : List ℕ) → FieldsAre b no_field → length b ≡ 0
unfolding encode_fields
none-long b i = ap length i.same

module _ (a b l m : List ℕ) (k : Walked a b l m) where
  pub walked-short : 0 < length l → length m ≡ 0 → ListsSame a b false
  walked-short h g = k.rest false (record { told = go })
    where
      go : (fs gs : Fields) → FieldsAre l fs → FieldsAre m gs → (false ≡ true) ↔ (kinds_of fs ≡ kinds_of gs)
      go no_field gs p q = absurd (omega (arith, none-long l p))
      go (more_fields f fs) gs p q = (λ z. absurd (false≢true z), λ z. absurd (nothing-more f fs (sym (z ∙ ap kinds_of (no-fields m gs q g)))))

  pub walked_end : (r : Bool) → length l ≡ 0 → r ≡ (length m == 0) → ListsSame a b r
  walked_end r h e = k.rest r (record { told = λ fs gs p q. rw (no-fields l fs p h) (go gs q) })
    where
      go : (gs : Fields) → FieldsAre m gs → (r ≡ true) ↔ (kinds_of no_field ≡ kinds_of gs)
      go no_field q = (λ _. refl, λ _. e ∙ eq-eqb (length m) 0 (none-long m q))
      go (more_fields f gs) q = (λ z. absurd (more-long m f gs q (eqb-true (length m) 0 (sym e ∙ z))), λ z. absurd (nothing-more f gs z))

pub lists-headed : (a b : List ℕ) → SomeFields a × SomeFields b → Walked a b a b
lists-headed a b p = record { one = p.0; other = p.1; short = omega arith; rest = λ r z. z }

pub ruleset listing = (field_headed, field-named, field-kind, walked_more, walked_differ, walked-short, walked_end)
