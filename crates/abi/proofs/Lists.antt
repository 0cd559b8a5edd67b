-- The fields of a list or a tuple written: each with a comma before it, and a bracket in the place of the first.
-- Assumes nothing.
use mathlib.Core.Path.{◌≡◌, refl, sym, ◌∙◌, ap}
use mathlib.Core.List.{List, [], ◌∷◌, ◌++◌, append_assoc}
use Rattle.std.specs.Prelude.{Some}
use Prim.Native.Nat.{ℕ, max, ◌+◌, ◌-◌, ◌≤◌, ◌<◌}
use native.Mathlib.Omega.{arith}
use lib.ListN.{length, take, drop, set, length-append, length-drop}
use borrow.Rule.Slice.PartMut.{put_mid}
use Rattle.kinds.specs.Bytes.{lparen, rparen, comma}
use Rattle.kinds.specs.Kind.{Kinds, no_kind, more_kinds, tuple, kind_text, list_text, rest_text}
use Rattle.model.specs.declared.Sort.{Sort}
use Rattle.model.specs.Tree.{Fields, no_field, more_fields, kinds_of}
use Rattle.model.specs.Record.{on_option, base_from, field_from, tuple_from}
use Rattle.model.specs.Line.{field_text}
use Rattle.model.proofs.Decoding.{on_some}
use Rattle.record.specs.declared.Piece.{Piece}
use Rattle.record.specs.Parts.{PieceIs, Headed}
use Rattle.record.specs.Texts.{kind_from, fields_from, tuple_text_from}
use Rattle.abi.specs.Writes.{Put, Room, KindRoom, KindWrote, FieldsRoom, FieldsWrote}
use Rattle.abi.proofs.Puts.{put_none, behind-room, behind-byte, put-both, put-byte, wrote-text}
use Rattle.abi.proofs.Walks.{First, Run, reads-headed, run-start, run-end, run-first, run-size, run-next}
use Rattle.abi.proofs.Nested.{FieldThere, field-there}

-- kinds in brackets, and with a comma before each
rest-full : (ks : Kinds) → 1 ≤ length (rest_text ks)
unfolding rest_text
rest-full no_kind = omega arith
rest-full (more_kinds k ks) = omega arith

brackets-long : (ks : Kinds) → (2 ≤ length (kind_text (tuple ks))) × (length (rest_text ks) ≤ length (kind_text (tuple ks)))
unfolding kind_text list_text rest_text
brackets-long no_kind = (omega arith, omega arith)
brackets-long (more_kinds k ks) = (omega (arith, length-append (kind_text k) (rest_text ks), rest-full ks), omega arith)

abbrev front : List ℕ → List ℕ
front [] = []
front (c ∷ t) = t

-- the bracket in the place of the first comma
in-brackets : (ks : Kinds) (done : List ℕ) → rest_text ks ≡ done ++ (rparen ∷ []) → kind_text (tuple ks) ≡ (lparen ∷ front done) ++ (rparen ∷ [])
unfolding kind_text list_text rest_text
in-brackets no_kind [] e = refl
in-brackets no_kind (c ∷ t) e = absurd (omega (arith, ap length e, length-append t (rparen ∷ [])))
in-brackets (more_kinds k ks) [] e = absurd (omega (arith, ap length e, length-append (kind_text k) (rest_text ks), rest-full ks))
in-brackets (more_kinds k ks) (c ∷ t) e = ap (λ x. lparen ∷ front x) e

opened : (done b out : List ℕ) (n m : ℕ) → Put done b out n → 1 ≤ length b → m ≡ max n 1 → Put (lparen ∷ front done) b (set out 0 40) m
opened [] b out n m p h e =
    let z = put-byte [] b b 0 (put_none b) lparen (omega arith) in
    record { same = ap (λ x. set x 0 lparen) p.same ∙ z.same; long = omega (arith, e, p.long) }
opened (c ∷ t) b out n m p h e = record { same = ap (λ x. set x 0 lparen) p.same; long = omega (arith, e, p.long) }

-- fields, and room for them in brackets
pub record Asked (b b₀ : List ℕ) : Type 0 where
  pub sort : Sort
  pub d : ℕ
  pub fields : Fields
  pub whole : fields_from sort d b ≡ Some fields
  pub room : length (kind_text (tuple (kinds_of fields))) ≤ length b₀

asked : {Q : Type 0} (b b₀ : List ℕ) (sort : Sort) (d : ℕ) (q : Room (tuple_text_from sort d b) b₀)
    → ((fs : Fields) → fields_from sort d b ≡ Some fs → length (kind_text (tuple (kinds_of fs))) ≤ length b₀ → Q) → Q
unfolding tuple_text_from
asked b b₀ sort d q next = on_some (λ fs. kind_text (tuple (kinds_of fs))) (fields_from sort d b) q.same (λ fs e f. next fs e (omega (arith, q.room, ap length f)))

-- the loop
abbrev pub FieldsRun : (b b₀ : List ℕ) → Asked b b₀ → List ℕ → ℕ → List ℕ → Type 0
FieldsRun b b₀ q left n out = Run no_field more_fields (field_from 4 q.sort (base_from (tuple_from 4 q.d))) (λ fs. rest_text (kinds_of fs)) (rest_text (kinds_of q.fields)) b₀ left n out

pub record FieldsOut (b b₀ left : List ℕ) (n : ℕ) (out : List ℕ) : Type 0 where
  pub ask : Asked b b₀
  pub shorter : length left ≤ length b
  pub inside : n < length out
  pub two : 2 ≤ length b₀
  pub all : (q : Asked b b₀) → FieldsRun b b₀ q left n out

pub fields-start : (b b₀ : List ℕ) → FieldsRoom b b₀ → FieldsOut b b₀ b 0 b₀
unfolding fields_from
fields-start b b₀ r =
    asked b b₀ r.sort r.d r.at (λ fs e h.
    let two : 2 ≤ length b₀ = omega (arith, h, (brackets-long (kinds_of fs)).0) in
    record { ask = record { sort = r.sort; d = r.d; fields = fs; whole = e; room = h }; shorter = omega arith; inside = omega arith; two = two; all = λ q. run-start _ _ _ _ b b₀ q.fields q.whole })

module _ (b b₀ left : List ℕ) (n : ℕ) (out : List ℕ) (s : FieldsOut b b₀ left n out) where
  pub fields-headed : 0 < length left → Headed left
  fields-headed = reads-headed _ _ _ left (s.all s.ask).rest (s.all s.ask).read

  ended : length left ≡ 0 → (m : ℕ) → m ≡ max n 1 → (q : Asked b b₀) → Put (kind_text (tuple (kinds_of q.fields))) b₀ (set (set out 0 40) m 41) (m + 1)
  unfolding kinds_of rest_text
  ended h m e q =
      let r = s.all q in
      let f : kind_text (tuple (kinds_of q.fields)) ≡ (lparen ∷ front r.done) ++ (rparen ∷ []) = in-brackets (kinds_of q.fields) r.done (run-end _ _ _ _ _ b₀ left n out r h) in
      let l = length-append (lparen ∷ front r.done) (rparen ∷ []) in
      rw f (put-byte _ _ _ _ (opened r.done b₀ out n m r.put (omega (arith, q.room, (brackets-long (kinds_of q.fields)).0)) e) rparen (omega (arith, q.room, ap length f)))

  pub fields-end : length left ≡ 0 → (m : ℕ) → m ≡ max n 1 → FieldsWrote b b₀ (set (set out 0 40) m 41) (m + 1)
  unfolding tuple_text_from
  fields-end h m e sort d q =
      asked b b₀ sort d q (λ fs f g.
      let a : Asked b b₀ = record { sort = sort; d = d; fields = fs; whole = f; room = g } in
      wrote-text (tuple_text_from sort d b) _ (ap (on_option (λ fs. kind_text (tuple (kinds_of fs)))) f) b₀ _ (m + 1) (ended h m e a))

  module _ (p : Piece) (h : 0 < length left) (i : PieceIs left (Some p)) where
    -- the first field that is left
    module _ (q : Asked b b₀) where
      abbrev here : First no_field more_fields (field_from 4 q.sort (base_from (tuple_from 4 q.d))) p (s.all q).rest
      here = run-first _ _ _ _ _ b₀ left n out (s.all q) p h i

      there : FieldThere q.d p.body.now here.first
      there = field-there q.sort q.d p.kind p.body.now here.first here.is

      abbrev text : List ℕ
      text = comma ∷ field_text here.first

      law : rest_text (kinds_of (more_fields here.first here.others)) ≡ text ++ rest_text (kinds_of here.others)
      unfolding kinds_of rest_text field_text
      law = refl

      less : length ((s.all q).done ++ text) < length b₀
      less = omega (arith, run-size _ _ _ _ _ b₀ left n out (s.all q) p h i text law, q.room, (brackets-long (kinds_of q.fields)).1, rest-full (kinds_of here.others))

      split : (s.all q).done ++ text ≡ ((s.all q).done ++ (comma ∷ [])) ++ field_text here.first
      split = sym (append_assoc (s.all q).done (comma ∷ []) (field_text here.first))

      comma-put : Put ((s.all q).done ++ (comma ∷ [])) b₀ (set out n 44) (n + 1)
      comma-put = put-byte _ _ _ _ (s.all q).put comma (omega (arith, less, length-append (s.all q).done text))

    pub field-named : (2 ≤ length p.body.now) × Headed (drop 2 p.body.now)
    field-named = ((there s.ask).long, (there s.ask).headed)

    -- its kind behind its name
    module _ (k : Piece) (j : PieceIs (drop 2 p.body.now) (Some k)) where
      abbrev place : List ℕ
      place = take (length (set out n 44) - (n + 1)) (drop (n + 1) (set out n 44))

      room : (q : Asked b b₀) → Room (kind_from q.d k.rest.now) place
      room q = record {
        text = field_text (here q).first;
        same = (there q).kind k j;
        room = behind-room _ _ _ _ (comma-put q) _ (omega (arith, less q, ap length (split q)));
      }

      pub field-asks : KindRoom k.rest.now place
      field-asks = record { d = s.ask.d; at = room s.ask }

      pub kind-shorter : length k.rest.now < length b
      kind-shorter = omega (arith, j.covers, i.covers, s.shorter, length-drop 2 p.body.now)

      module _ (c : List ℕ) (m : ℕ) (w : KindWrote k.rest.now place c m) where
        abbrev out₁ : List ℕ
        out₁ = put_mid (n + 1) (length (set out n 44) - (n + 1)) (set out n 44) c

        next-put : (q : Asked b b₀) → Put ((s.all q).done ++ text q) b₀ out₁ (n + 1 + m)
        next-put q = rw (split q) (put-both _ _ _ _ (comma-put q) _ c m (w q.d (room q) _ ((there q).kind k j)))

        pub next-fits : n + 1 + m < length b₀
        next-fits = omega (arith, (next-put s.ask).long, less s.ask)

        pub fields-next : FieldsOut b b₀ p.rest.now (n + 1 + m) out₁
        fields-next = record {
          ask = s.ask;
          shorter = omega (arith, i.covers, s.shorter);
          inside = behind-byte _ _ _ _ (next-put s.ask) (less s.ask);
          two = s.two;
          all = λ q. run-next _ _ _ _ _ b₀ left n out (s.all q) p h i (text q) (law q) (n + 1 + m) out₁ (next-put q);
        }
