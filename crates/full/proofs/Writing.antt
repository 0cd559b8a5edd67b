-- Fields written in full, by the records that are left.
-- Assumes nothing.
use mathlib.Core.Path.{◌≡◌, refl, sym, ◌∙◌, ap, subst}
use mathlib.Core.Bool.{true, false}
use mathlib.Core.List.{List, [], ◌∷◌, ◌++◌, append_assoc}
use Rattle.std.specs.Prelude.{None, Some}
use Rattle.std.proofs.lemmas.Option.{none-some}
use Prim.Native.Nat.{ℕ, max, ◌+◌, ◌-◌, ◌≤◌, ◌<◌}
use native.Mathlib.Omega.{arith}
use lib.Dec.{eqb}
use lib.ListN.{length, take, drop, set, length-append}
use borrow.Author.Tests.{ne_eqb, true-eqb}
use borrow.Rule.Slice.PartMut.{put_mid}
use Rattle.kinds.specs.Bytes.{rparen, comma}
use Rattle.kinds.specs.Kind.{Elementary, is_elementary, elementary_text, kind_text, Suffix}
use Rattle.model.specs.Tree.{elementary, Field, field, Fields, no_field, more_fields, base_kind}
use Rattle.model.specs.Reading.{FieldKind}
use Rattle.model.specs.Layout.{le_value, record_of, piece, piece_of}
use Rattle.model.specs.Record.{encode_base, encode_suffixes, is_base, on_option, base_from, decode_elementary}
use Rattle.model.specs.Written.{suffixes_text, mark_text, name_text, written_base, written_field, written_list, written_rest}
use Rattle.model.specs.Full.{bracketed}
use Rattle.model.proofs.Pieces.{record_length, piece-read}
use Rattle.model.proofs.Records.{elementary-to, suffixes_spells}
use Rattle.record.specs.declared.Piece.{Piece}
use Rattle.record.specs.Parts.{PieceIs}
use Rattle.record.specs.Encoded.{mark_in, name_in, kind_in, FieldsAre, FieldIs, KindIs, SuffixesAre, SomeFields}
use Rattle.record.specs.Texts.{suffixes_from, base_text_from, kind_from}
use Rattle.record.proofs.Standing.{no-fields, first-field, field-parts, TupleParts, KindParts, kind-parts}
use Rattle.abi.specs.Writes.{Put, Room, Wrote}
use Rattle.abi.specs.Writes as abi
use Rattle.full.specs.Parts.{TupleIs, ListIs, kind_written, FieldsRoom, FieldRoom, KindRoom, FieldsWrote, FieldWrote, KindWrote}
use Rattle.full.proofs.Measuring.{AreBytes, not-none}
use Rattle.abi.proofs.Puts.{put-byte}
use Rattle.abi.proofs.Going.{part, Going, going_start, going-first, going-fits, going-room, going-space, going-next, going-byte, going-last}

-- Kinds.

suffixes-text : (t : List ℕ) (ss : List Suffix) → SuffixesAre t ss → suffixes_from t ≡ Some (suffixes_text ss)
unfolding suffixes_from
suffixes-text t ss i = rw i.same (ap (on_option suffixes_text) ((suffixes_spells 4).to ss i.well (omega (arith, ap length i.same, i.small))))

no_tuple : (j : ℕ) (body : List ℕ) (x : Elementary) → decode_elementary j body ≡ Some x → j ≡ 9 → ⊥
unfolding decode_elementary
no_tuple j body x p q = none-some x (rw q at p)

-- an elementary kind, and what abi writes of it
leaf-text : (t : List ℕ) (k : FieldKind) → KindIs t k → (x : Elementary) → k.base ≡ elementary x → SuffixesAre (encode_suffixes 4 k.suffixes) k.suffixes
    → kind_from 0 t ≡ Some (kind_written k)
unfolding is_base encode_base kind_from base_text_from base_from base_kind kind_text written_base
leaf-text t k i x z w =
    let good : is_elementary x ≡ true = rw z at i.base-well in
    let rest = encode_suffixes 4 k.suffixes in
    let (j, body, small, u, p) = elementary-to 4 x good in
    let apart : t ≡ record_of 4 j body ++ rest = i.same ∙ ap (λ b. encode_base 4 b ++ rest) z ∙ ap (λ y. y ++ rest) u in
    let fits : 6 + length body ≤ 40960 = omega (arith, ap length apart, length-append (record_of 4 j body) rest, record_length 4 j body, i.small) in
    let first : piece_of 4 t ≡ piece j body rest = ap (piece_of 4) apart ∙ piece-read 4 j body rest small (omega arith) in
    let base : base_text_from 0 j body ≡ Some (elementary_text x) = rw (base_text_from, base_from, ne_eqb j 9 (no_tuple j body x p), p) in
    rw (kind_from, first, base, suffixes-text rest k.suffixes w) (ap (λ b. Some (written_base b ++ suffixes_text k.suffixes)) (sym z))

module _ (t out : List ℕ) (q : KindRoom t out) where
  module _ (i : TupleIs t None) where
    same : (k : FieldKind) → KindIs t k → kind_from 0 t ≡ Some (kind_written k)
    same k j =
        let p = kind-parts t i.0 k j i.1 in
        let x = p.leaf i.2 in
        leaf-text t k j x.leaf x.split (record { same = refl; small = rw p.suffixes.same at p.suffixes.small; well = p.suffixes.well })

    pub leaf-asks : abi.KindRoom t out
    leaf-asks = record { d = 0; at = record { text = kind_written q.kind; same = same q.kind q.is; room = q.room } }

    pub leaf-wrote : (out₁ : List ℕ) (r : ℕ) → abi.KindWrote t out out₁ r → KindWrote t out out₁ r
    leaf-wrote out₁ r w =
        let put : (k : FieldKind) → KindIs t k → length (kind_written k) ≤ length out → Put (kind_written k) out out₁ r
        = λ k j h. w 0 (record { text = kind_written k; same = same k j; room = h }) (kind_written k) (same k j) in
        record { put = put; inside = omega (arith, (put q.kind q.is q.room).long, q.room) }

  module _ (p : Piece) (i : TupleIs t (Some p)) where
    parts : (k : FieldKind) → KindIs t k → KindParts p k
    parts k j = kind-parts t p k j i.0

    found : (k : FieldKind) → KindIs t k → TupleParts p k
    found k j = (parts k j).nested i.1

    whole : (k : FieldKind) (j : KindIs t k) → kind_written k ≡ bracketed (found k j).fields ++ suffixes_text k.suffixes
    unfolding written_base
    whole k j = ap (λ b. written_base b ++ suffixes_text k.suffixes) (found k j).split

    inner-room : (k : FieldKind) (j : KindIs t k) → length (kind_written k) ≤ length out → length (bracketed (found k j).fields) ≤ length out
    inner-room k j h = omega (arith, h, ap length (whole k j), length-append (bracketed (found k j).fields) (suffixes_text k.suffixes))

    pub tuple-asks : FieldsRoom p.body.now out
    tuple-asks = record { fields = (found q.kind q.is).fields; are = λ _. (found q.kind q.is).is; room = inner-room q.kind q.is q.room }

    module _ (out₁ : List ℕ) (n : ℕ) (w : FieldsWrote p.body.now out out₁ n) where
      going : (k : FieldKind) → KindIs t k → length (kind_written k) ≤ length out → Going (kind_written k) out (suffixes_text k.suffixes) out₁ n
      going k j h =
          let x = found k j in
          rw (whole k j) (going-first (bracketed x.fields) _ out out₁ n (rw (whole k j) at h) (w.put x.fields (λ _. x.is) (inner-room k j h)))

      pub suffixes-asks : Room (suffixes_from p.rest.now) (part out₁ n)
      suffixes-asks = record {
        text = suffixes_text q.kind.suffixes;
        same = suffixes-text p.rest.now q.kind.suffixes (parts q.kind q.is).suffixes;
        room = going-room _ _ _ _ _ (going q.kind q.is q.room);
      }

      pub tuple-wrote : (s : List ℕ) (m : ℕ) → Wrote (suffixes_from p.rest.now) (part out₁ n) s m → KindWrote t out (put_mid n (length out₁ - n) out₁ s) (n + m)
      tuple-wrote s m x =
          let put : (k : FieldKind) → KindIs t k → length (kind_written k) ≤ length out → Put (kind_written k) out (put_mid n (length out₁ - n) out₁ s) (n + m)
          = λ k j h. going-last _ _ _ _ _ (going k j h) s m (x (suffixes_text k.suffixes) (suffixes-text p.rest.now k.suffixes (parts k j).suffixes)) in
          record { put = put; inside = omega (arith, (put q.kind q.is q.room).long, q.room) }

-- A field: its kind, its mark word, its name.

written-parts : (f : Field) → written_field f ≡ kind_written (kind_in f) ++ (mark_text (mark_in f) ++ name_text (name_in f))
unfolding written_field
written-parts (field m nm b ss) = sym (append_assoc (written_base b) (suffixes_text ss) (mark_text m ++ name_text nm))

module _ (body out : List ℕ) (q : FieldRoom body out) (n : Piece) (i : PieceIs (drop 2 body) (Some n)) where
  kind-room : (f : Field) → length (written_field f) ≤ length out → length (kind_written (kind_in f)) ≤ length out
  kind-room f h = omega (arith, h, ap length (written-parts f), length-append (kind_written (kind_in f)) (mark_text (mark_in f) ++ name_text (name_in f)))

  pub kind-asks : KindRoom n.rest.now out
  kind-asks = record { kind = kind_in q.field; is = (field-parts body n q.field q.is i).kind; room = kind-room q.field q.room }

  module _ (out₁ : List ℕ) (x : ℕ) (w : KindWrote n.rest.now out out₁ x) (word : List ℕ) (e : word ≡ mark_text (le_value (take 2 body))) where
    kind-put : (f : Field) → FieldIs body f → length (written_field f) ≤ length out → Going (written_field f) out (word ++ name_text n.body.now) out₁ x
    kind-put f j h =
        let p = field-parts body n f j i in
        let mark : word ≡ mark_text (mark_in f) = e ∙ ap mark_text p.mark in
        let all : written_field f ≡ kind_written (kind_in f) ++ (word ++ name_text n.body.now) = rw (mark, p.name) (written-parts f) in
        rw all (going-first _ _ out out₁ x (rw all at h) (w.put (kind_in f) p.kind (kind-room f h)))

    pub word-asks : length word ≤ length (part out₁ x)
    word-asks = going-space _ _ word _ _ _ (kind-put q.field q.is q.room)

    module _ (s : List ℕ) (y : ℕ) (v : Put word (part out₁ x) s y) where
      abbrev out₂ : List ℕ
      out₂ = put_mid x (length out₁ - x) out₁ s

      mark-put : (f : Field) → FieldIs body f → length (written_field f) ≤ length out → Going (written_field f) out (name_text n.body.now) out₂ (x + y)
      mark-put f j h = going-next _ _ word _ _ _ (kind-put f j h) s y v

      pub name-asks : length (name_text n.body.now) ≤ length (part out₂ (x + y))
      name-asks = going-room _ _ _ _ _ (mark-put q.field q.is q.room)

      pub field-wrote : (r : List ℕ) (z : ℕ) → Put (name_text n.body.now) (part out₂ (x + y)) r z
          → FieldWrote body out (put_mid (x + y) (length out₂ - (x + y)) out₂ r) (x + y + z)
      field-wrote r z u =
          let out₃ = put_mid (x + y) (length out₂ - (x + y)) out₂ r in
          let put : (f : Field) → FieldIs body f → length (written_field f) ≤ length out → Put (written_field f) out out₃ (x + y + z)
          = λ f j h. going-last _ _ _ _ _ (mark-put f j h) r z u in
          record { put = put; inside = omega (arith, (put q.field q.is q.room).long, q.room) }

-- A list: each field with a comma before it.

pub record FullOut (b out₀ left out : List ℕ) (n : ℕ) : Type 0 where
  pub ask : FieldsRoom b out₀
  pub bytes : AreBytes b
  pub inside : length left ≤ length b
  pub all : (fs : Fields) → FieldsAre b fs → length (bracketed fs) ≤ length out₀
      → (gs : Fields) × FieldsAre left gs × Going (written_rest fs) out₀ (written_rest gs) out n

rest-some : (fs : Fields) → 0 < length (written_rest fs)
unfolding written_rest
rest-some no_field = omega arith
rest-some (more_fields f fs) = omega arith

rest-room : (fs : Fields) → length (written_rest fs) ≤ length (bracketed fs)
unfolding written_list written_rest
rest-room no_field = omega arith
rest-room (more_fields f fs) = omega arith

pub full_start : (b out : List ℕ) → FieldsRoom b out → AreBytes b → FullOut b out b out 0
full_start b out q B =
    record { ask = q; bytes = B; inside = omega arith; all = λ fs a h. (fs, a, going_start (written_rest fs) out (omega (arith, rest-room fs))) }

module _ (b out₀ left out : List ℕ) (n : ℕ) (s : FullOut b out₀ left out n) where
  pub full-left : SomeFields left
  full-left = let (gs, g, _) = s.all s.ask.fields (s.ask.are s.bytes) s.ask.room in (gs, g)

  module _ (h : false ≡ eqb (length left) 0) (p : Piece) (i : PieceIs left (Some p)) where
    stepped : (fs : Fields) → FieldsAre b fs → length (bracketed fs) ≤ length out₀
        → (f : Field) × (gs : Fields) × FieldIs p.body.now f × FieldsAre p.rest.now gs
        × Going (written_rest fs) out₀ (comma ∷ (written_field f ++ written_rest gs)) out n
    unfolding written_rest
    stepped fs a k =
        let (gs, g, go) = s.all fs a k in
        let x = first-field left p gs g (not-none (length left) h) i in
        (x.field, x.fields, x.is, x.rest, rw x.split at go)

    pub full-asks : FieldRoom p.body.now (part (set out n 44) (n + 1))
    full-asks =
        let (f, gs, is, _, go) = stepped s.ask.fields (s.ask.are s.bytes) s.ask.room in
        record { field = f; is = is; room = going-space _ _ (written_field f) _ _ _ (going-byte _ _ comma _ _ _ go) }

    pub full-next : (t : List ℕ) (r : ℕ) → FieldWrote p.body.now (part (set out n 44) (n + 1)) t r
        → FullOut b out₀ p.rest.now (put_mid (n + 1) (length (set out n 44) - (n + 1)) (set out n 44) t) (n + (1 + r))
    full-next t r w = record {
      ask = s.ask;
      bytes = s.bytes;
      inside = omega (arith, s.inside, i.covers);
      all = λ fs a k.
          let (f, gs, is, rest, go) = stepped fs a k in
          let go₁ = going-byte _ _ comma _ _ _ go in
          let room = going-space _ _ (written_field f) _ _ _ go₁ in
          let e : n + (1 + r) ≡ n + 1 + r = omega arith in
          (gs, rest, rw e (going-next _ _ (written_field f) _ _ _ go₁ t r (w.put f is room)));
    }

    pub full-fits : n < length out
    full-fits = let (_, _, _, _, go) = stepped s.ask.fields (s.ask.are s.bytes) s.ask.room in omega (arith, going-fits _ _ _ _ _ go)

  module _ (h : true ≡ eqb (length left) 0) (m : ℕ) (e : m ≡ max n 1) where
    -- what stands there begins with a comma in the place of the bracket, if there is a field
    closed : (fs : Fields) → length (bracketed fs) ≤ length out₀ → (done : List ℕ) → written_rest fs ≡ done ++ (rparen ∷ []) → Put done out₀ out n
        → Put (bracketed fs) out₀ (set (set out 0 40) m 41) (m + 1)
    unfolding written_list written_rest
    closed no_field k [] q i =
        let one : m ≡ n + 1 = omega (arith, i.long) in
        let opened = put-byte [] out₀ out n i 40 (omega arith) in
        let both = put-byte (40 ∷ []) out₀ (set out n 40) (n + 1) opened 41 (omega arith) in
        rw one (subst (λ x. Put (40 ∷ 41 ∷ []) out₀ (set (set out x 40) (n + 1) 41) (n + 1 + 1)) i.long both)
    closed no_field k (c ∷ d) q i = absurd (omega (arith, ap length q, length-append d (rparen ∷ [])))
    closed (more_fields f fs) k [] q i = absurd (omega (arith, ap length q, length-append (written_field f) (written_rest fs), rest-some fs))
    closed (more_fields f fs) k (c ∷ d) q i =
        let same : m ≡ n = omega (arith, i.long) in
        let text : written_field f ++ written_rest fs ≡ d ++ (rparen ∷ []) = cc in
        let fits : length d + 1 < length out₀ = omega (arith, k, ap length text, length-append d (rparen ∷ [])) in
        rw (same, text) (put-byte (40 ∷ d) out₀ (set out 0 40) n (record { same = ap (λ b. set b 0 40) i.same; long = i.long }) 41 (omega arith))

    pub full-end : FieldsWrote b out₀ (set (set out 0 40) m 41) (m + 1)
    unfolding written_rest
    full-end =
        let put : (fs : Fields) → ListIs b fs → length (bracketed fs) ≤ length out₀ → Put (bracketed fs) out₀ (set (set out 0 40) m 41) (m + 1)
        = λ fs a k. let (gs, g, go) = s.all fs (a s.bytes) k in closed fs k go.done (rw (no-fields left gs g (true-eqb _ _ h)) at go.split) go.put in
        record { put = put; inside = omega (arith, (put s.ask.fields s.ask.are s.ask.room).long, s.ask.room) }
