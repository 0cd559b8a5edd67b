-- Lines written of a record that was checked.
-- Assumes nothing.
use mathlib.Core.Path.{◌≡◌, refl, sym, ◌∙◌, ap}
use mathlib.Core.List.{List, [], ◌∷◌, ◌++◌, append_assoc}
use Rattle.std.specs.Prelude.{Some, Ok}
use Prim.Native.Nat.{ℕ, ◌+◌, ◌-◌, ◌≤◌, ◌<◌}
use native.Mathlib.Nat.{zero-add}
use native.Mathlib.Omega.{arith}
use lib.ListN.{length, take, drop, set, length-append}
use borrow.Rule.Slice.PartMut.{put_mid}
use Rattle.kinds.specs.Kind.{Kind, kind_text}
use Rattle.model.specs.declared.Refusal.TheVariants.{NoRoom}
use Rattle.model.specs.declared.Sort.{Sort}
use Rattle.model.specs.Tree.{kinds_of}
use Rattle.model.specs.Reading.{deepest}
use Rattle.model.specs.Record.{on_option, decode_field, decode_fields}
use Rattle.model.specs.Line.{field_text}
use Rattle.model.specs.Answer.{writes, Answer, Output, refusing}
use Rattle.model.proofs.Decoding.{on_some}
use Rattle.layout.specs.Answers.{Ends}
use Rattle.layout.specs.Buffer.{put}
use Rattle.layout.proofs.Answers.{ends-full, ends-written}
use Rattle.record.specs.declared.Measured.{Measured}
use Rattle.record.specs.Texts.{kind_from, fields_from, tuple_text_from}
use Rattle.abi.specs.Writes.{Put, Room, KindRoom, KindWrote, FieldsRoom, FieldsWrote, line_from, LineRoom, LineWrote}
use Rattle.abi.specs.Lines.{Lined, line_of, LineEnds, Signed, signature_of, SignatureEnds, Kinded, KindEnds}
use Rattle.abi.proofs.Puts.{behind-room, behind-byte, put-both, put-byte, wrote-text}

-- a name, and the list behind it
module _ (name fields text : List ℕ) where
  lined : {Q : Type 0} (sort : Sort) (d : ℕ) (q : Room (line_from sort d name fields) text) → ((u : List ℕ) → tuple_text_from sort d fields ≡ Some u → name ++ u ≡ q.text → Q) → Q
  unfolding line_from
  lined sort d q = on_some (λ u. name ++ u) (tuple_text_from sort d fields) q.same

  pub name-room : LineRoom name fields text → length name ≤ length text
  name-room q = lined q.sort q.d q.at (λ u _ e. omega (arith, q.at.room, ap length e, length-append name u))

  module _ (text₁ : List ℕ) (n : ℕ) (p : Put name text text₁ n) where
    pub list-asks : LineRoom name fields text → FieldsRoom fields (take (length text₁ - n) (drop n text₁))
    list-asks q = lined q.sort q.d q.at (λ u f e. record { sort = q.sort; d = q.d; at = record { text = u; same = f; room = behind-room _ _ _ _ p u (omega (arith, q.at.room, ap length e)) } })

    module _ (c : List ℕ) (m : ℕ) (w : FieldsWrote fields (take (length text₁ - n) (drop n text₁)) c m) where
      line-put : (sort : Sort) (d : ℕ) (q : Room (line_from sort d name fields) text) → Put q.text text (put_mid n (length text₁ - n) text₁ c) (n + m)
      line-put sort d q =
          lined sort d q (λ u f e.
          rw (← e) (put-both _ _ _ _ p u c m (w sort d (record { text = u; same = f; room = behind-room _ _ _ _ p u (omega (arith, q.room, ap length e)) }) u f)))

      pub line-fits : LineRoom name fields text → n + m ≤ length text
      line-fits q = omega (arith, (line-put q.sort q.d q.at).long, q.at.room)

      pub line-wrote : LineWrote name fields text (put_mid n (length text₁ - n) text₁ c) (n + m)
      line-wrote sort d q = wrote-text (line_from sort d name fields) q.text q.same text _ (n + m) (line-put sort d q)

-- how a call ends that wrote
ends-put : (o : Output) (u b b₁ : List ℕ) (r : ℕ) → o ≡ writes u → length u ≤ length b → Put u b b₁ r → Ends o b b₁ (Ok r)
unfolding put
ends-put o u b b₁ r e h p = ends-written o b (Ok r) u b₁ (ap Ok p.long) e h (p.same ∙ rw zero-add)

-- a list, and a line, that a record says
said-list : (sort : Sort) (b : List ℕ) → tuple_text_from sort deepest b ≡ on_option (λ fs. kind_text (Kind.tuple (kinds_of fs))) (decode_fields 4 sort b)
unfolding tuple_text_from fields_from decode_fields decode_field
said-list sort b = refl

module _ (nm : List ℕ) (l : Measured) (p : Lined nm l) where
  said-line : line_from p.sort deepest nm l.bytes.now ≡ Some (line_of p)
  unfolding line_from line_of
  said-line = rw (said-list, p.listed.same) (ap (λ x. Some (x ++ kind_text (Kind.tuple (kinds_of p.fields)))) p.named.same)

  line-long : length (line_of p) ≡ length nm + l.text
  unfolding line_of
  line-long = length-append p.name (kind_text (Kind.tuple (kinds_of p.fields))) ∙ omega (arith, p.listed.long, ap length p.named.same)

  module _ (text : List ℕ) (h : length nm + l.text ≤ length text) where
    room : Room (line_from p.sort deepest nm l.bytes.now) text
    room = record { text = line_of p; same = said-line; room = omega (arith, line-long) }

    pub line-room : LineRoom nm l.bytes.now text
    line-room = record { sort = p.sort; d = deepest; at = room }

    said-put : (text₁ : List ℕ) (r : ℕ) → LineWrote nm l.bytes.now text text₁ r → Put (line_of p) text text₁ r
    said-put text₁ r w = w p.sort deepest room (line_of p) said-line

module _ (nm : List ℕ) (l : Measured) (text : List ℕ) where
  pub line-full : (r : Answer) → r ≡ refusing NoRoom 0 → length text < length nm + l.text → LineEnds nm l text text r
  line-full r e h p = ends-full (writes (line_of p)) text r (line_of p) e refl (omega (arith, line-long nm l p))

  pub line-ends : length nm + l.text ≤ length text → (text₁ : List ℕ) (r : ℕ) → LineWrote nm l.bytes.now text text₁ r → LineEnds nm l text text₁ (Ok r)
  line-ends h text₁ r w p = ends-put _ _ text text₁ r refl (omega (arith, line-long nm l p)) (said-put nm l p text h text₁ r w)

-- a signature that a record says
module _ (nm : List ℕ) (i o : Measured) where
  module _ (p : Signed nm i o) where
    abbrev outs : List ℕ
    outs = kind_text (Kind.tuple (kinds_of p.outputs))

    said-outs : tuple_text_from p.sort deepest o.bytes.now ≡ Some outs
    said-outs = said-list p.sort o.bytes.now ∙ ap (on_option (λ fs. kind_text (Kind.tuple (kinds_of fs)))) p.listed.same

    split : signature_of p ≡ (line_of p.line ++ (58 ∷ [])) ++ outs
    unfolding signature_of
    split = sym (append_assoc (line_of p.line) (58 ∷ []) outs)

    before-outs : length (line_of p.line ++ (58 ∷ [])) ≡ length nm + i.text + 1
    before-outs = length-append (line_of p.line) (58 ∷ []) ∙ omega (arith, line-long nm i p.line)

    signature-long : length (signature_of p) ≡ length nm + i.text + 1 + o.text
    signature-long = ap length split ∙ length-append (line_of p.line ++ (58 ∷ [])) outs ∙ omega (arith, before-outs, p.listed.long)

  module _ (text : List ℕ) where
    pub signature-full : (r : Answer) → r ≡ refusing NoRoom 0 → length text < length nm + i.text + 1 + o.text → SignatureEnds nm i o text text r
    signature-full r e h p = ends-full (writes (signature_of p)) text r (signature_of p) e refl (omega (arith, signature-long p))

    module _ (h : length nm + i.text + 1 + o.text ≤ length text) where
      pub signature-line : Signed nm i o → LineRoom nm i.bytes.now text
      signature-line p = line-room nm i p.line text (omega arith)

      module _ (text₁ : List ℕ) (n : ℕ) (w : LineWrote nm i.bytes.now text text₁ n) where
        written : (p : Signed nm i o) → Put (line_of p.line) text text₁ n
        written p = said-put nm i p.line text (omega arith) text₁ n w

        pub signature-colon : Signed nm i o → n < length text₁
        signature-colon p = behind-byte _ _ _ _ (written p) (omega (arith, line-long nm i p.line))

        colon-put : (p : Signed nm i o) → Put (line_of p.line ++ (58 ∷ [])) text (set text₁ n 58) (n + 1)
        colon-put p = put-byte _ _ _ _ (written p) 58 (omega (arith, line-long nm i p.line))

        abbrev place : List ℕ
        place = take (length (set text₁ n 58) - (n + 1)) (drop (n + 1) (set text₁ n 58))

        outs-room : (p : Signed nm i o) → Room (tuple_text_from p.sort deepest o.bytes.now) place
        outs-room p = record { text = outs p; same = said-outs p; room = behind-room _ _ _ _ (colon-put p) (outs p) (omega (arith, signature-long p, ap length (split p))) }

        pub outs-asks : Signed nm i o → FieldsRoom o.bytes.now place
        outs-asks p = record { sort = p.sort; d = deepest; at = outs-room p }

        module _ (c : List ℕ) (m : ℕ) (v : FieldsWrote o.bytes.now place c m) where
          abbrev text₂ : List ℕ
          text₂ = put_mid (n + 1) (length (set text₁ n 58) - (n + 1)) (set text₁ n 58) c

          signature-put : (p : Signed nm i o) → Put (signature_of p) text text₂ (n + 1 + m)
          signature-put p = rw (split p) (put-both _ _ _ _ (colon-put p) (outs p) c m (v p.sort deepest (outs-room p) (outs p) (said-outs p)))

          pub signature-fits : Signed nm i o → n + 1 + m ≤ length text
          signature-fits p = omega (arith, (signature-put p).long, signature-long p)

          pub signature-ends : SignatureEnds nm i o text text₂ (Ok (n + 1 + m))
          signature-ends p = ends-put _ _ text text₂ (n + 1 + m) refl (omega (arith, signature-long p)) (signature-put p)

-- a field's kind
module _ (l : Measured) (text : List ℕ) where
  pub kind-full : (r : Answer) → r ≡ refusing NoRoom 0 → length text < l.text → KindEnds l text text r
  kind-full r e h p = ends-full (writes (field_text p.field)) text r (field_text p.field) e refl (omega (arith, p.said.long))

  module _ (h : l.text ≤ length text) where
    kind-there : (p : Kinded l) → Room (kind_from deepest l.bytes.now) text
    kind-there p = record { text = field_text p.field; same = p.said.same; room = omega (arith, p.said.long) }

    pub kind-asks : Kinded l → KindRoom l.bytes.now text
    kind-asks p = record { d = deepest; at = kind-there p }

    pub kind-ends : (text₁ : List ℕ) (r : ℕ) → KindWrote l.bytes.now text text₁ r → KindEnds l text text₁ (Ok r)
    kind-ends text₁ r w p = ends-put _ _ text text₁ r refl (omega (arith, p.said.long)) (w deepest (kind-there p) (field_text p.field) p.said.same)
