-- Whether kinds are dynamic and how long their heads are, by what the code does for each record.
-- Assumes nothing.
use mathlib.Core.Path.{◌≡◌, refl, sym, ◌∙◌, ap}
use mathlib.Core.Bool.{Bool, true, false, ◌||◌, or_assoc, or-false, or-true}
use mathlib.Core.List.{List, [], ◌∷◌, ◌++◌}
use Rattle.std.specs.Prelude.{Option, Some, min}
use Prim.Native.Nat.{ℕ, ◌+◌, ◌*◌, ◌^◌, ◌≤◌, ◌<◌}
use native.Mathlib.Omega.{arith}
use lib.ListN.{length, take, drop, length-drop}
use lib.Seq.{take_all}
use lib.Dec.{eqb, leb}
use borrow.Author.Tests.{leb-true, eqb-true, le-leb, lt-leb}
use Rattle.std.proofs.lemmas.Bool.{eqb-false}
use Rattle.kinds.specs.Kind.{bits, octets, Elementary, int, uint, fixed_bytes, address, bool, function, bytes, string, Suffix, sized, unsized, Kind, Kinds, no_kind, more_kinds}
use Rattle.model.specs.Tree.{Base, Field, field, Fields, no_field, more_fields, arrays, base_kind, kind_of, kinds_of}
use Rattle.model.specs.Reading.{FieldKind}
use Rattle.model.specs.Layout.{little_endian, le_value, record_of}
use Rattle.model.specs.Record.{encode_elementary, encode_base, encode_suffixes, is_suffix}
use Rattle.model.proofs.Pieces.{le_length, le_read}
use Rattle.record.specs.declared.Piece.{Piece}
use Rattle.record.specs.Parts.{PieceIs, Headed}
use Rattle.record.specs.Encoded.{kind_in, FieldsAre, KindIs, SuffixesAre, SomeFields, SomeKind, SomeSuffixes}
use Rattle.record.proofs.Standing.{Stands, stands, fields-headed, no-fields, first-field, field-long, named-headed, field-parts, kind-headed, kind-parts, suffixes-headed, no-suffixes, FirstSuffix, first-suffix, suffix_code, suffix_body}
use Rattle.encoding.specs.Dynamic.{is_open_ended, is_dynamic, any_dynamic, static_length, head_length, heads_length}
use Rattle.encoding.proofs.Lengths.{head-static, head-dynamic, all-static}
use Rattle.words.specs.Places.{capped}
use Rattle.extent.specs.declared.Extent.{Extent}
use Rattle.extent.specs.Walks.{elementary_code, elementary_body, tree_of}
use Rattle.extent.specs.Extents.{ExtentIs, ExtentsAre, OpenEnded, SuffixIs, SomeSuffix, Grouped, Joined, Suffixed, AllSuffixed, ExtentOf, ExtentsOf}
use Rattle.extent.proofs.Caps.{cap_times}

-- One kind.

-- a dynamic kind's head is a word
abbrev word-head : Extent
word-head = record { dynamic = true; head = 32 }

dynamic-head : (k : Kind) → is_dynamic k ≡ true → ExtentIs k word-head
dynamic-head k h = record { dynamic = sym h; head = rw (head-dynamic k h) refl }

-- a number of eight bytes in a record's body
pub counted : (body : List ℕ) (n : ℕ) → body ≡ little_endian 8 n → n < 2 ^ 64 → (8 ≤ length body) × (le_value (take 8 (drop 0 body)) ≡ n)
counted body n e h =
    let long : length body ≡ 8 = ap length e ∙ le_length 8 n in
    (omega arith, ap le_value (take_all 8 body (omega arith) ∙ e) ∙ le_read 8 n h)

pub fixed-long : (p : Piece) → SomeSuffix p → (p.kind ≡ 11 → ⊥) → 8 ≤ length p.body.now
fixed-long p (sized n, i) z = (counted p.body.now n i.1 i.2).0
fixed-long p (unsized, i) z = absurd (z i)

module _ (p : Piece) (e : Extent) where
  pub open_suffixed : p.kind ≡ 11 → Suffixed p e word-head
  unfolding is_dynamic
  open_suffixed z k (sized n) i x = absurd (omega (arith, i.0))
  open_suffixed z k unsized i x = dynamic-head (Kind.array k unsized) refl

  pub dynamic-suffixed : (p.kind ≡ 11 → ⊥) → e.dynamic ≡ true → Suffixed p e e
  unfolding is_dynamic
  dynamic-suffixed z h k (sized n) i x =
      let s : is_dynamic k ≡ true = sym x.dynamic ∙ h in
      record { dynamic = x.dynamic; head = x.head ∙ ap capped (head-dynamic k s ∙ sym (head-dynamic (Kind.array k (sized n)) s)) }
  dynamic-suffixed z h k unsized i x = absurd (z i)

  pub static-suffixed : (p.kind ≡ 11 → ⊥) → e.dynamic ≡ false → (v h : ℕ) → v ≡ le_value (take 8 (drop 0 p.body.now)) → h ≡ capped (v * e.head)
      → Suffixed p e (record { dynamic = false; head = h })
  unfolding is_dynamic static_length
  static-suffixed z d v h f g k (sized n) i x =
      let s : is_dynamic k ≡ false = sym x.dynamic ∙ d in
      let same : v ≡ n = f ∙ (counted p.body.now n i.1 i.2).1 in
      record {
        dynamic = sym s;
        head = rw (head-static (Kind.array k (sized n)) s, ← head-static k s, ← cap_times n (head_length k), ← x.head, ← same) g;
      }
  static-suffixed z d v h f g k unsized i x = absurd (z i)

-- Suffixes, innermost first.

pub some : (b : List ℕ) → false ≡ eqb (length b) 0 → 0 < length b
some b t = omega (arith, eqb-false (length b) 0 (sym t))

pub none : (b : List ℕ) → true ≡ eqb (length b) 0 → length b ≡ 0
none b t = eqb-true (length b) 0 (sym t)

pub suffix-is : (p : Piece) (ss : List Suffix) (f : FirstSuffix p ss) → SuffixIs p f.suffix
suffix-is p ss f = go f.suffix f.kind f.body_is f.well
  where
    go : (s : Suffix) → p.kind ≡ suffix_code s → p.body.now ≡ suffix_body s → is_suffix s ≡ true → SuffixIs p s
    go (sized n) k b w = (k, b, omega (arith, leb-true n _ w))
    go unsized k b w = k

-- what is told of the suffixes that are left is told of all of them
pub record Wrapped (b : List ℕ) (base : Extent) (left : List ℕ) (e : Extent) : Type 0 where
  pub ask : SomeSuffixes left
  pub all : (r : Extent) → AllSuffixed left e r → AllSuffixed b base r

module _ {b : List ℕ} {base : Extent} {left : List ℕ} {e : Extent} (w : Wrapped b base left e) where
  pub wrap_end : true ≡ eqb (length left) 0 → AllSuffixed b base e
  unfolding arrays
  wrap_end t = w.all e (λ k ss i x. rw (no-suffixes left ss i (none left t)) x)

  module _ (t : false ≡ eqb (length left) 0) where
    pub wrap_headed : Headed left
    wrap_headed = suffixes-headed left w.ask (some left t)

    module _ {p : Piece} (j : PieceIs left (Some p)) where
      pub wrap_suffix : SomeSuffix p
      wrap_suffix = let f = first-suffix left p w.ask.0 w.ask.1 (some left t) j in (f.suffix, suffix-is p w.ask.0 f)

      pub wrap_next : {r : Extent} → Suffixed p e r → Wrapped b base p.rest.now r
      unfolding arrays
      wrap_next s = record {
        ask = let f = first-suffix left p w.ask.0 w.ask.1 (some left t) j in (f.suffixes, f.rest);
        all = λ y u. w.all y (λ k ss i x.
            let f = first-suffix left p ss i (some left t) j in
            rw f.split (u (Kind.array k f.suffix) f.suffixes f.rest (s k f.suffix (suffix-is p ss f) x)));
      }

-- Elementary kinds.

pub leaf_record : (x : Elementary) → (encode_elementary 4 x ≡ record_of 4 (elementary_code x) (elementary_body x)) × (elementary_code x < 9)
unfolding encode_elementary elementary_code
leaf_record (int (bits n)) = (refl, omega arith)
leaf_record (uint (bits n)) = (refl, omega arith)
leaf_record (fixed_bytes (octets n)) = (refl, omega arith)
leaf_record address = (refl, omega arith)
leaf_record bool = (refl, omega arith)
leaf_record function = (refl, omega arith)
leaf_record bytes = (refl, omega arith)
leaf_record string = (refl, omega arith)

open-code : (e : Elementary) → is_open_ended e ≡ leb 7 (elementary_code e)
unfolding elementary_code is_open_ended
open-code (int w) = refl
open-code (uint w) = refl
open-code (fixed_bytes m) = refl
open-code address = refl
open-code bool = refl
open-code function = refl
open-code bytes = refl
open-code string = refl

pub open_ended : (k : ℕ) → 7 ≤ k → OpenEnded k true
open_ended k h e f = rw (open-code e, ← f) (sym (le-leb 7 k h))

pub not_open_ended : (k : ℕ) → (k ≡ 7 → ⊥) → (k ≡ 8 → ⊥) → OpenEnded k false
not_open_ended k y z e f = rw (open-code e, ← f) (sym (lt-leb 7 k (omega (arith, (leaf_record e).1))))

-- the number and the body of an elementary kind's record
pub leaf-stands : (t : List ℕ) (p : Piece) (k : FieldKind) (x : Elementary) → KindIs t k → PieceIs t (Some p) → k.base ≡ Base.elementary x
    → Stands p (elementary_code x) (elementary_body x) (encode_suffixes 4 k.suffixes)
unfolding encode_base
leaf-stands t p k x i j e =
    let r : List ℕ = encode_suffixes 4 k.suffixes in
    let (same, small) = leaf_record x in
    stands t (elementary_code x) (elementary_body x) r (i.same ∙ ap (λ b. encode_base 4 b ++ r) e ∙ ap (λ y. y ++ r) same) (omega arith) i.small p j

-- Tuples and lists.

module _ (e : Extent) where
  pub group-dynamic : e.dynamic ≡ true → Grouped e word-head
  unfolding is_dynamic
  group-dynamic h ks x = dynamic-head (Kind.tuple ks) (sym x.dynamic ∙ h)

  pub group-static : e.dynamic ≡ false → Grouped e e
  unfolding is_dynamic static_length
  group-static h ks x =
      let s : any_dynamic ks ≡ false = sym x.dynamic ∙ h in
      record { dynamic = x.dynamic; head = x.head ∙ ap capped (all-static ks s ∙ sym (head-static (Kind.tuple ks) s)) }

-- A base and its suffixes.

module _ {t : List ℕ} {p : Piece} (j : PieceIs t (Some p)) where
  abbrev Based : Extent → Type 0
  Based e = (k : FieldKind) → KindIs t k → ExtentIs (base_kind k.base) e

  pub tuple-asks : p.kind ≡ 9 → SomeKind t → SomeFields p.body.now
  tuple-asks z (k, i) = let s = (kind-parts t p k i j).nested z in (s.fields, s.is)

  pub tuple_extent : p.kind ≡ 9 → {x y : Extent} → ExtentsOf p.body.now x → Grouped x y → Based y
  unfolding base_kind
  tuple_extent z u v k i = let s = (kind-parts t p k i j).nested z in rw s.split (v (kinds_of s.fields) (u.all s.fields s.is))

  pub leaf_extent : (p.kind ≡ 9 → ⊥) → {d : Bool} → OpenEnded p.kind d → Based (record { dynamic = d; head = 32 })
  unfolding base_kind is_dynamic head_length static_length
  leaf_extent z o k i =
      let s = (kind-parts t p k i j).leaf z in
      rw s.split (record { dynamic = o s.leaf (leaf-stands t p k s.leaf i j s.split).kind; head = ap capped (word (is_open_ended s.leaf)) })
    where
      word : (b : Bool) → ◌≡◌ {A = ℕ} 32 (elim b [ true ↦ 32 | false ↦ 32 ])
      word true = refl
      word false = refl

  pub suffixes-ask : SomeKind t → SomeSuffixes p.rest.now
  suffixes-ask (k, i) = (k.suffixes, (kind-parts t p k i j).suffixes)

  pub kind_extent : SomeKind t → {e r : Extent} → Based e → AllSuffixed p.rest.now e r → ExtentOf t r
  kind_extent q {e} {r} x w =
      let all : (k : FieldKind) → KindIs t k → ExtentIs (tree_of k) r = λ k i. w (base_kind k.base) k.suffixes (kind-parts t p k i j).suffixes (x k i) in
      record { all = all; small = omega (arith, (all q.0 q.1).head) }

-- Fields.

-- the kind of a field
field-tree : (f : Field) → kind_of f ≡ tree_of (kind_in f)
unfolding kind_of
field-tree (field m nm b ss) = refl

pub more-fields : (gs : Fields) (f : Field) (fs : Fields) → gs ≡ more_fields f fs → kinds_of gs ≡ more_kinds (tree_of (kind_in f)) (kinds_of fs)
unfolding kinds_of
more-fields gs f fs e = ap kinds_of e ∙ ap (λ k. more_kinds k (kinds_of fs)) (field-tree f)

-- of no field
pub no_fields : (b : List ℕ) (fs : Fields) → FieldsAre b fs → length b ≡ 0 → kinds_of fs ≡ no_kind
unfolding kinds_of
no_fields b fs i h = ap kinds_of (no-fields b fs i h)

-- the kind of the first field of some, and the others
pub record Ahead (p n : Piece) (fs : Fields) : Type 0 where
  pub kind : FieldKind
  pub fields : Fields
  pub kinds : kinds_of fs ≡ more_kinds (tree_of kind) (kinds_of fields)
  pub is : KindIs n.rest.now kind
  pub rest : FieldsAre p.rest.now fields

module _ (b : List ℕ) (h : 0 < length b) (p : Piece) (j : PieceIs b (Some p)) where
  pub ahead-named : SomeFields b → (2 ≤ length p.body.now) × Headed (drop 2 p.body.now)
  ahead-named (fs, i) =
      let f = first-field b p fs i h j in
      (omega (arith, field-long p.body.now f.field f.is), named-headed p.body.now (f.field, f.is))

  module _ (n : Piece) (l : PieceIs (drop 2 p.body.now) (Some n)) where
    pub ahead : (fs : Fields) → FieldsAre b fs → Ahead p n fs
    ahead fs i =
        let f = first-field b p fs i h j in
        record {
          kind = kind_in f.field;
          fields = f.fields;
          kinds = more-fields fs f.field f.fields f.split;
          is = (field-parts p.body.now n f.field f.is l).kind;
          rest = f.rest;
        }

    pub ahead-less : length n.rest.now < length b
    ahead-less = omega (arith, j.covers, l.covers, length-drop 2 p.body.now)

-- the kinds of fields behind kinds that reach as far as e
pub record From (e : Extent) (b : List ℕ) (r : Extent) : Type 0 where
  pub all : (fs : Fields) → FieldsAre b fs → (r.dynamic ≡ (e.dynamic || any_dynamic (kinds_of fs))) × (r.head ≡ capped (e.head + heads_length (kinds_of fs)))
  pub small : r.head ≤ 65537

pub record Reached (b left : List ℕ) (e : Extent) : Type 0 where
  pub ask : SomeFields left
  pub inside : length left ≤ length b
  pub small : e.head ≤ 65537
  pub all : (r : Extent) → From e left r → ExtentsOf b r

module _ {b left : List ℕ} {e : Extent} (w : Reached b left e) where
  pub reach-end : true ≡ eqb (length left) 0 → ExtentsOf b e
  unfolding any_dynamic heads_length
  reach-end t = w.all e (record { all = λ fs i. rw (no_fields left fs i (none left t)) (sym (or-false e.dynamic), omega (arith, w.small)); small = w.small })

  module _ (t : false ≡ eqb (length left) 0) where
    pub reach-headed : Headed left
    reach-headed = fields-headed left w.ask (some left t)

    module _ {p : Piece} (j : PieceIs left (Some p)) where
      pub reach-named : (2 ≤ length p.body.now) × Headed (drop 2 p.body.now)
      reach-named = ahead-named left (some left t) p j w.ask

      module _ {n : Piece} (l : PieceIs (drop 2 p.body.now) (Some n)) where
        pub reach-asks : SomeKind n.rest.now
        reach-asks = let x = ahead left (some left t) p j n l w.ask.0 w.ask.1 in (x.kind, x.is)

        pub reach-less : length n.rest.now < length b
        reach-less = omega (arith, ahead-less left (some left t) p j n l, w.inside)

        pub reach-next : {one r : Extent} → ExtentOf n.rest.now one → Joined e one r → Reached b p.rest.now r
        unfolding any_dynamic heads_length
        reach-next x y = record {
          ask = let z = ahead left (some left t) p j n l w.ask.0 w.ask.1 in (z.fields, z.rest);
          inside = omega (arith, j.covers, w.inside);
          small = omega (arith, y.head);
          all = λ a u. w.all a (record {
            all = λ fs i.
                let z = ahead left (some left t) p j n l fs i in
                let o = x.all z.kind z.is in
                let (f, g) = u.all z.fields z.rest in
                rw z.kinds (
                  f ∙ ap (λ q. q || any_dynamic (kinds_of z.fields)) (y.dynamic ∙ ap (λ q. e.dynamic || q) o.dynamic)
                      ∙ or_assoc e.dynamic (is_dynamic (tree_of z.kind)) (any_dynamic (kinds_of z.fields)),
                  omega (arith, g, y.head, o.head),
                );
            small = u.small;
          });
        }

pub ruleset leaves = (open_ended, not_open_ended)
