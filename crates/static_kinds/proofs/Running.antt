-- Static kinds one behind the other, by how each function ends.
-- Assumes nothing.
use mathlib.Core.Path.{◌≡◌, refl, sym, ◌∙◌, ap}
use mathlib.Core.Bool.{Bool, true, false}
use mathlib.Core.List.{List, [], ◌∷◌}
use Rattle.std.specs.Prelude.{Option, None, Some, min}
use Rattle.std.proofs.lemmas.Bool.{eqb-false}
use Prim.Native.Nat.{ℕ, zero, suc, ◌+◌, ◌*◌, ◌-◌, ◌≤◌, ◌<◌}
use native.Mathlib.Nat.{sub-zero, mul_assoc, mul_comm}
use native.Mathlib.Omega.{arith}
use lib.Dec.{eqb}
use lib.ListN.{length, drop}
use borrow.Author.Tests.{eqb-true}
use Rattle.kinds.specs.Bytes.{all}
use Rattle.kinds.specs.Kind.{Suffix, sized, unsized, Kind, Kinds, no_kind, more_kinds}
use Rattle.model.specs.Tree.{Base, elementary, tuple, Fields, arrays, base_kind, kinds_of}
use Rattle.model.specs.Reading.{FieldKind}
use Rattle.model.specs.Record.{is_base}
use Rattle.record.specs.declared.Piece.{Piece}
use Rattle.record.specs.Parts.{PieceIs, Headed}
use Rattle.record.specs.Encoded.{KindIs}
use Rattle.record.proofs.Standing.{fields-headed, kind-headed, kind-parts}
use Rattle.encoding.specs.Dynamic.{is_dynamic, any_dynamic, static_length}
use Rattle.encoding.specs.Judge.{given, repeated, end_of, in_row}
use Rattle.encoding.proofs.Lengths.{no_dynamic}
use Rattle.encoding.proofs.Runs.{repeated-still, repeated_mul, static-end, static-tuple, static-array}
use Rattle.words.specs.Places.{capped}
use Rattle.extent.specs.Walks.{tree_of}
use Rattle.extent.proofs.Caps.{cap_times}
use Rattle.extent.proofs.Reaches.{some, none, leaf_record, leaf-stands, no_fields, ahead-named, ahead, ahead-less}
use Rattle.static_kinds.specs.Places.{is_sized, product, SizedAre, SomeSized, CopiesAre, Place, LeafIs, SomeLeaf, LeafEnds, BaseIs, SomeBase, BaseEnds, RunEnds, StaticIs, SomeStatic, ManyEnd, RowIs, SomeRow, RowEnds}

-- Suffixes over a static kind.

static-arrays : (k : Kind) (ss : List Suffix) → is_dynamic (arrays k ss) ≡ false → (is_dynamic k ≡ false) × (all is_sized ss ≡ true)
unfolding arrays is_dynamic
static-arrays k [] h = (h, refl)
static-arrays k (sized n ∷ ss) h = static-arrays (Kind.array k (sized n)) ss h
static-arrays k (unsized ∷ ss) h = let z : ◌≡◌ {A = ℕ} 0 1 = let (p, q) = static-arrays (Kind.array k unsized) ss h in cc in absurd (omega arith)

-- readers that agree wherever they are asked
repeated-within : (L n : ℕ) (r s : ℕ → Option ℕ) (at : ℕ) → at ≤ L → ((a : ℕ) → a ≤ L → r a ≡ s a) → ((a e : ℕ) → r a ≡ Some e → e ≤ L)
    → repeated n r at ≡ repeated n s at
unfolding repeated
repeated-within L zero r s at h f g = refl
repeated-within L (suc n) r s at h f g = rw (← f at h) (go (r at) refl (λ e l. repeated-within L n r s e l f g))
  where
    go : (x : Option ℕ) → r at ≡ x → ((e : ℕ) → e ≤ L → repeated n r e ≡ repeated n s e) → given x (λ e. repeated n r e) ≡ given x (λ e. repeated n s e)
    go None p k = refl
    go (Some e) p k = k e (g at e p)

module _ (d : List ℕ) where
  arrays-run : (ss : List Suffix) (k : Kind) → is_dynamic (arrays k ss) ≡ false → (m at : ℕ) → at ≤ length d
      → repeated m (λ a. end_of d (arrays k ss) a) at ≡ repeated (m * product ss) (λ a. end_of d k a) at
  unfolding arrays product is_dynamic
  arrays-run [] k s m at h = let z : m * 1 ≡ m = omega arith in rw z
  arrays-run (sized n ∷ ss) k s m at h =
      let j : Kind = Kind.array k (sized n) in
      let t : is_dynamic k ≡ false = (static-arrays j ss s).0 in
      let turned : m * product ss * n ≡ m * (n * product ss) = mul_assoc m (product ss) n ∙ ap (λ x. m * x) (mul_comm (product ss) n) in
      arrays-run ss j s m at h
      ∙ repeated-within (length d) (m * product ss) (λ a. end_of d j a) (λ a. repeated n (λ b. end_of d k b) a) at h (λ a g. static-array d k n t a g)
      (λ a e z. (static-end d j t a e z).1)
      ∙ repeated_mul (m * product ss) n (λ a. end_of d k a) at
      ∙ ap (λ x. repeated x (λ a. end_of d k a) at) turned
  arrays-run (unsized ∷ ss) k s m at h = let z : ◌≡◌ {A = ℕ} 0 1 = let (p, q) = static-arrays (Kind.array k unsized) ss s in cc in absurd (omega arith)

-- A base by itself.

module _ (t : Piece) where
  pub row-asks : t.kind ≡ 9 → SomeBase t → SomeRow t.body.now
  row-asks z (elementary x, l) = absurd (omega (arith, l.code, (leaf_record x).1))
  row-asks z (tuple fs, l) = (fs, l.1)

  pub leaf-asks : (t.kind ≡ 9 → ⊥) → SomeBase t → SomeLeaf t
  leaf-asks z (elementary x, l) = (x, l)
  leaf-asks z (tuple fs, l) = absurd (z l.0)

  base-static : (b : Base) → BaseIs t b → is_dynamic (base_kind b) ≡ false
  unfolding base_kind is_dynamic
  base-static (elementary x) l = l.static
  base-static (tuple fs) l = l.1.static

  module _ (d : List ℕ) (at : ℕ) (r : Option ℕ) where
    pub row-ends : t.kind ≡ 9 → at ≤ length d → RowEnds t.body.now d at r → BaseEnds t d at r
    unfolding base_kind
    row-ends z h y (elementary x) l = absurd (omega (arith, l.code, (leaf_record x).1))
    row-ends z h y (tuple fs) l = y fs l.1 ∙ sym (static-tuple d (kinds_of fs) l.1.static at h)

    pub leaf-ends : (t.kind ≡ 9 → ⊥) → LeafEnds t d at r → BaseEnds t d at r
    unfolding base_kind end_of
    leaf-ends z y (elementary x) l = y x l
    leaf-ends z y (tuple fs) l = absurd (z l.0)

-- A base, again and again.

-- after i of them the next stands at p
abbrev Left : Piece → List ℕ → ℕ → ℕ → ℕ → Option ℕ → Type 0
Left t d count i p r = (b : Base) → BaseIs t b → (n : ℕ) → count ≡ capped n → r ≡ repeated (n - i) (λ a. end_of d (base_kind b) a) p

pub record Going (t : Piece) (d : List ℕ) (at count i p : ℕ) : Type 0 where
  pub place : Place d p
  pub low : i ≤ p
  pub all : (r : Option ℕ) → Left t d count i p r → RunEnds t d at count r

pub going_start : {t : Piece} {d : List ℕ} {at count : ℕ} → Place d at → Going t d at count 0 at
going_start q = record { place = q; low = omega arith; all = λ r f b l n e. rw sub-zero at (f b l n e) }

module _ {t : Piece} {d : List ℕ} {at count i p : ℕ} (w : Going t d at count i p) where
  pub going_end : i ≡ count → RunEnds t d at count (Some p)
  unfolding repeated
  going_end h = w.all (Some p) (λ b l n e. let z : n - i ≡ 0 = omega (arith, w.low, w.place.inside, w.place.small) in rw z refl)

  module _ (h : i < count) where
    once : (b : Base) (n : ℕ) → count ≡ capped n
        → repeated (n - i) (λ a. end_of d (base_kind b) a) p ≡ given (end_of d (base_kind b) p) (λ e. repeated (n - (i + 1)) (λ a. end_of d (base_kind b) a) e)
    unfolding repeated
    once b n e = let z : n - i ≡ suc (n - (i + 1)) = omega arith in rw z refl

    module _ (o : Option ℕ) (x : BaseEnds t d p o) where
      pub going_none : o ≡ None → (r : Option ℕ) → r ≡ None → RunEnds t d at count r
      going_none z r g = w.all r (λ b l n e. rw (once b n e, ← x b l, z) g)

      module _ (q : ℕ) (g : o ≡ Some q) where
        found : (b : Base) → BaseIs t b → end_of d (base_kind b) p ≡ Some q
        found b l = sym (x b l) ∙ g

        pub going_still : q ≡ p → RunEnds t d at count (Some p)
        going_still z = w.all (Some p) (λ b l n e. sym (repeated-still (n - i) (λ a. end_of d (base_kind b) a) p (found b l ∙ ap Some z)))

        pub going_next : SomeBase t → (q ≡ p → ⊥) → Going t d at count (i + 1) q
        going_next (b, l) z =
            let ends = static-end d (base_kind b) (base-static t b l) p q (found b l) in
            record {
              place = record { inside = ends.1; small = w.place.small };
              low = omega (arith, w.low, ends.0);
              all = λ r f. w.all r (λ b l n e. rw (once b n e, found b l) (f b l n e));
            }

-- A kind.

module _ {t : List ℕ} {p : Piece} (j : PieceIs t (Some p)) where
  base_is : (k : FieldKind) → StaticIs t k → BaseIs p k.base
  unfolding base_kind is_dynamic is_base
  base_is k s = go (eqb p.kind 9) refl
    where
      static : is_dynamic (base_kind k.base) ≡ false
      static = (static-arrays (base_kind k.base) k.suffixes s.static).0

      go : (b : Bool) → eqb p.kind 9 ≡ b → BaseIs p k.base
      go true e =
          let z = eqb-true p.kind 9 e in
          let f = (kind-parts t p k s.is j).nested z in
          rw f.split (z, record { is = f.is; static = rw f.split at static })
      go false e =
          let f = (kind-parts t p k s.is j).leaf (eqb-false p.kind 9 e) in
          let x = leaf-stands t p k f.leaf s.is j f.split in
          rw f.split (record { code = x.kind; body_is = x.body_is; well = rw f.split at s.is.base-well; static = rw f.split at static })

  sized_are : (k : FieldKind) → StaticIs t k → SizedAre p.rest.now k.suffixes
  sized_are k s = record { is = (kind-parts t p k s.is j).suffixes; fixed = (static-arrays (base_kind k.base) k.suffixes s.static).1 }

  pub base-asks : SomeStatic t → SomeBase p
  base-asks (k, s) = (k.base, base_is k s)

  pub copies-ask : SomeStatic t → SomeSized p.rest.now
  copies-ask (k, s) = (k.suffixes, sized_are k s)

  pub many-end : (d : List ℕ) (at count v m : ℕ) (r : Option ℕ) → at ≤ length d → CopiesAre p.rest.now v → m ≡ capped (count * v) → RunEnds p d at m r
      → ManyEnd t d at count r
  many-end d at count v m r h c f y k s =
      let many : m ≡ capped (count * product k.suffixes) = rw (f, c.all k.suffixes (sized_are k s)) (cap_times count (product k.suffixes)) in
      y k.base (base_is k s) (count * product k.suffixes) many ∙ sym (arrays-run d k.suffixes (base_kind k.base) s.static count at h)

-- Fields.

pub record Passing (b d : List ℕ) (at : ℕ) (left : List ℕ) (p : ℕ) : Type 0 where
  pub inside : length left ≤ length b
  pub place : Place d p
  pub ask : SomeRow left
  pub all : (r : Option ℕ) → RowEnds left d p r → RowEnds b d at r

pub once_is : (r : ℕ → Option ℕ) (at : ℕ) → repeated 1 r at ≡ r at
unfolding repeated
once_is r at = go (r at)
  where
    go : (x : Option ℕ) → given x (λ e. Some e) ≡ x
    go None = refl
    go (Some e) = refl

module _ {b d : List ℕ} {at : ℕ} {left : List ℕ} {p : ℕ} (w : Passing b d at left p) where
  pub pass_end : true ≡ eqb (length left) 0 → RowEnds b d at (Some p)
  unfolding in_row
  pass_end t = w.all (Some p) (λ fs s. rw (no_fields left fs s.is (none left t)) refl)

  module _ (t : false ≡ eqb (length left) 0) where
    pub pass_headed : Headed left
    pass_headed = fields-headed left (w.ask.0, w.ask.1.is) (some left t)

    module _ {f : Piece} (j : PieceIs left (Some f)) where
      pub pass_named : (2 ≤ length f.body.now) × Headed (drop 2 f.body.now)
      pass_named = ahead-named left (some left t) f j (w.ask.0, w.ask.1.is)

      module _ {n : Piece} (l : PieceIs (drop 2 f.body.now) (Some n)) where
        -- the first of what is left, and the others
        record Here (gs : Fields) : Type 0 where
          kind : FieldKind
          rest : Fields
          first : StaticIs n.rest.now kind
          others : RowIs f.rest.now rest
          same : kinds_of gs ≡ more_kinds (tree_of kind) (kinds_of rest)

        here : (gs : Fields) → RowIs left gs → Here gs
        unfolding any_dynamic
        here gs y =
            let z = ahead left (some left t) f j n l gs y.is in
            let (u, v) = no_dynamic (is_dynamic (tree_of z.kind)) (any_dynamic (kinds_of z.fields)) (rw z.kinds at y.static) in
            record { kind = z.kind; rest = z.fields; first = record { is = z.is; static = u }; others = record { is = z.rest; static = v }; same = z.kinds }

        pub pass_asks : SomeStatic n.rest.now
        pass_asks = let x = here w.ask.0 w.ask.1 in (x.kind, x.first)

        pub pass_less : length n.rest.now < length b
        pass_less = omega (arith, ahead-less left (some left t) f j n l, w.inside)

        module _ (o : Option ℕ) (y : ManyEnd n.rest.now d p 1 o) where
          ends : (k : FieldKind) → StaticIs n.rest.now k → end_of d (tree_of k) p ≡ o
          ends k s = sym (y k s ∙ once_is (λ a. end_of d (tree_of k) a) p)

          pub pass_none : o ≡ None → (r : Option ℕ) → r ≡ None → RowEnds b d at r
          unfolding in_row
          pass_none z r g = w.all r (λ fs s. let x = here fs s in rw (x.same, ends x.kind x.first, z) g)

          pub pass_next : (q : ℕ) → o ≡ Some q → Passing b d at f.rest.now q
          unfolding in_row
          pass_next q z =
              let x₀ = here w.ask.0 w.ask.1 in
              record {
                inside = omega (arith, j.covers, w.inside);
                place = record { inside = (static-end d (tree_of x₀.kind) x₀.first.static p q (ends x₀.kind x₀.first ∙ z)).1; small = w.place.small };
                ask = (x₀.rest, x₀.others);
                all = λ r u. w.all r (λ fs s. let x = here fs s in rw (x.same, ends x.kind x.first, z) (u x.rest x.others));
              }
