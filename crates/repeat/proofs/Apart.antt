-- Kinds told apart by their records: a base and its suffixes by their bytes, tuples by their fields.
-- Assumes nothing.
use mathlib.Core.Path.{◌≡◌, refl, sym, ◌∙◌, ap, ap₂}
use mathlib.Core.Logic.{◌↔◌, ◌⊎◌, inl, inr}
use mathlib.Core.Bool.{Bool, true, false, false≢true}
use mathlib.Core.List.{List, ◌++◌}
use Rattle.std.specs.Prelude.{Some, nat_eq}
use Rattle.std.specs.Cmp.Lexicographic.{pointwise}
use Rattle.std.proofs.lemmas.Option.{same_Some}
use Rattle.std.proofs.lemmas.Slice.Eq.{bytes_eq-Decides}
use Prim.Native.Nat.{ℕ}
use native.Mathlib.Omega.{arith}
use lib.ListN.{length}
use Rattle.kinds.specs.Kind.{Elementary, Suffix, Kind}
use Rattle.model.specs.Tree.{Base, elementary, tuple, Fields, arrays, base_kind, kind_of, kinds_of, suffixes_of, base_of}
use Rattle.model.specs.Layout.{piece, piece_of}
use Rattle.model.specs.Reading.{FieldKind}
use Rattle.model.specs.Record.{encode_base, encode_suffixes, decode_elementary, decode_suffixes, is_base}
use Rattle.model.proofs.Records.{elementary-to, suffixes_spells}
use Rattle.model.proofs.Spelling.{kind-field}
use Rattle.model.proofs.Bare.{arrays-base, arrays-suffixes, base-suffixes}
use Rattle.record.specs.declared.Piece.{Piece}
use Rattle.record.specs.Parts.{taken, PieceIs}
use Rattle.record.specs.Encoded.{KindIs, SuffixesAre, SomeKind, SomeFields}
use Rattle.record.proofs.Standing.{kind-headed, kind-parts, stands}
use Rattle.repeat.specs.Pairs.{KindsSame, ListsSame}

-- a kind taken apart: what it is an array of, and its suffixes
base_back : (b : Base) → base_kind (base_of (base_kind b)) ≡ base_kind b
unfolding kind_of arrays
base_back b = ap (arrays (base_kind (base_of (base_kind b)))) (sym (base-suffixes b)) ∙ kind-field (base_kind b)

base-apart : (b : Base) (ss : List Suffix) → base_kind (base_of (arrays (base_kind b) ss)) ≡ base_kind b
base-apart b ss = ap base_kind (arrays-base ss (base_kind b)) ∙ base_back b

suffixes-apart : (b : Base) (ss : List Suffix) → suffixes_of (arrays (base_kind b) ss) ≡ ss
suffixes-apart b ss = arrays-suffixes ss (base_kind b) ∙ ap (λ os. os ++ ss) (base-suffixes b)

arrays-apart : (b c : Base) (ss ts : List Suffix) → arrays (base_kind b) ss ≡ arrays (base_kind c) ts → (base_kind b ≡ base_kind c) × (ss ≡ ts)
arrays-apart b c ss ts e =
    (sym (base-apart b ss) ∙ ap (λ k. base_kind (base_of k)) e ∙ base-apart c ts, sym (suffixes-apart b ss) ∙ ap suffixes_of e ∙ suffixes-apart c ts)

-- suffixes by their bytes
suffixes-bytes : (s t : List ℕ) (ss ts : List Suffix) → SuffixesAre s ss → SuffixesAre t ts → s ≡ t → ss ≡ ts
suffixes-bytes s t ss ts i j e =
    same_Some ss ts (sym ((suffixes_spells 4).to ss i.well (omega (arith, i.small, ap length i.same)))
    ∙ ap (decode_suffixes 4) (sym i.same ∙ e ∙ j.same) ∙ (suffixes_spells 4).to ts j.well (omega (arith, j.small, ap length j.same)))

-- the record of an elementary kind is read as that kind
leaf-read : (t : List ℕ) (x : Piece) (k : FieldKind) (e : Elementary) → PieceIs t (Some x) → KindIs t k → k.base ≡ elementary e → decode_elementary x.kind x.body.now ≡ Some e
unfolding encode_base is_base
leaf-read t x k e i h q =
    let w : is_base h.d (elementary e) ≡ true = rw q at h.base-well in
    let (n, body, small, u, d) = elementary-to 4 e w in
    let s = stands t n body (encode_suffixes 4 k.suffixes) (h.same ∙ ap (λ b. encode_base 4 b ++ encode_suffixes 4 k.suffixes) q ∙ ap (λ b. b ++ encode_suffixes 4 k.suffixes) u) small h.small x i in
    rw (s.kind, s.body_is) d

-- two kinds, whose records are x and y
module _ (a b : List ℕ) (x y : Piece) (i : PieceIs a (Some x)) (j : PieceIs b (Some y)) where
  clash : {A : Type 0} (c : Base) (fs : Fields) (e : Elementary) → c ≡ tuple fs → c ≡ elementary e → A
  clash c fs e p q = absurd (let z : ◌≡◌ {A = ℕ} 0 1 = cc in omega arith)

  -- both are tuples
  pub tuples-ask : x.kind ≡ 9 → y.kind ≡ 9 → SomeKind a × SomeKind b → SomeFields x.body.now × SomeFields y.body.now
  tuples-ask h g p =
      let f = (kind-parts a x p.0.0 p.0.1 i).nested h in
      let e = (kind-parts b y p.1.0 p.1.1 j).nested g in
      ((f.fields, f.is), (e.fields, e.is))

  module _ (h : x.kind ≡ 9) (g : y.kind ≡ 9) (s : Bool) (w : ListsSame x.body.now y.body.now s) where
    tuples : (k l : FieldKind) → KindIs a k → KindIs b l → ((s ≡ true) × (x.rest.now ≡ y.rest.now)) ↔ (arrays (base_kind k.base) k.suffixes ≡ arrays (base_kind l.base) l.suffixes)
    unfolding base_kind
    tuples k l p q =
        let u = kind-parts a x k p i in
        let v = kind-parts b y l q j in
        let f = u.nested h in
        let e = v.nested g in
        let c = w.told f.fields e.fields f.is e.is in (
          λ z. rw (f.split, e.split, c.0 z.0, suffixes-bytes _ _ _ _ u.suffixes v.suffixes z.1),
          λ z.
              let (kinds, same) = arrays-apart k.base l.base k.suffixes l.suffixes z in
              let t : Kind.tuple (kinds_of f.fields) ≡ Kind.tuple (kinds_of e.fields) = sym (ap base_kind f.split) ∙ kinds ∙ ap base_kind e.split in
              (c.1 cc, u.suffixes.same ∙ ap (encode_suffixes 4) same ∙ sym v.suffixes.same),
        )

    pub tuples_differ : s ≡ false → KindsSame a b s
    tuples_differ o = record { told = λ k l p q. let t = tuples k l p q in (λ z. absurd (false≢true (sym o ∙ z)), λ z. (t.1 z).0) }

    pub tuples_then : (r : Bool) → s ≡ true → r ≡ pointwise nat_eq x.rest.now y.rest.now → KindsSame a b r
    tuples_then r o e = record {
      told = λ k l p q.
          let t = tuples k l p q in
          let d = bytes_eq-Decides x.rest.now y.rest.now in
          (λ z. t.0 (o, d.0 (sym e ∙ z)), λ z. e ∙ d.1 (t.1 z).1);
    }

  -- not both: then their bytes tell
  module _ (h : x.kind ≡ 9 → y.kind ≡ 9 → ⊥) (k l : FieldKind) (p : KindIs a k) (q : KindIs b l) where
    bytes-kinds : a ≡ b → arrays (base_kind k.base) k.suffixes ≡ arrays (base_kind l.base) l.suffixes
    unfolding taken
    bytes-kinds e =
        let z : piece x.kind x.body.now x.rest.now ≡ piece y.kind y.body.now y.rest.now = i.same ∙ ap (piece_of 4) e ∙ sym j.same in
        let kind : x.kind ≡ y.kind = cc in
        let body : x.body.now ≡ y.body.now = cc in
        let u = kind-parts a x k p i in
        let v = kind-parts b y l q j in
        let f = u.leaf (λ n. h n (sym kind ∙ n)) in
        let g = v.leaf (λ n. h (kind ∙ n) n) in
        let same : Some f.leaf ≡ Some g.leaf = sym (leaf-read a x k f.leaf i p f.split) ∙ ap₂ decode_elementary kind body ∙ leaf-read b y l g.leaf j q g.split in
        rw (f.split, g.split, same_Some f.leaf g.leaf same, suffixes-bytes _ _ _ _ u.suffixes v.suffixes cc)

    kinds-bytes : arrays (base_kind k.base) k.suffixes ≡ arrays (base_kind l.base) l.suffixes → a ≡ b
    unfolding base_kind
    kinds-bytes e =
        let (kinds, same) = arrays-apart k.base l.base k.suffixes l.suffixes e in
        p.same ∙ ap₂ (λ c ss. encode_base 4 c ++ encode_suffixes 4 ss) (go k.base l.base refl refl kinds) same ∙ sym q.same
      where
        go : (c d : Base) → k.base ≡ c → l.base ≡ d → base_kind c ≡ base_kind d → k.base ≡ l.base
        go (elementary c) (elementary d) u v z = let w : c ≡ d = cc in u ∙ ap elementary w ∙ sym v
        go (elementary c) (tuple gs) u v z = absurd (let w : ◌≡◌ {A = ℕ} 0 1 = cc in omega arith)
        go (tuple fs) (elementary d) u v z = absurd (let w : ◌≡◌ {A = ℕ} 0 1 = cc in omega arith)
        go (tuple fs) (tuple gs) u v z =
            let f = (kind-parts a x k p i).leaf (λ n. let g = (kind-parts b y l q j).leaf (h n) in clash l.base gs g.leaf v g.split) in
            clash k.base fs f.leaf u f.split

  not-both : ((x.kind ≡ 9) × (y.kind ≡ 9 → ⊥)) ⊎ (x.kind ≡ 9 → ⊥) → x.kind ≡ 9 → y.kind ≡ 9 → ⊥
  not-both (inl z) n m = z.1 m
  not-both (inr z) n m = z n

  pub bytes_tell : ((x.kind ≡ 9) × (y.kind ≡ 9 → ⊥)) ⊎ (x.kind ≡ 9 → ⊥) → (r : Bool) → r ≡ pointwise nat_eq a b → KindsSame a b r
  bytes_tell o r e = record {
    told = λ k l p q.
        let d = bytes_eq-Decides a b in
        (λ z. bytes-kinds (not-both o) k l p q (d.0 (sym e ∙ z)), λ z. e ∙ d.1 (kinds-bytes (not-both o) k l p q z));
  }

pub ruleset siding = (tuples_differ, tuples_then, bytes_tell, kind-headed)
