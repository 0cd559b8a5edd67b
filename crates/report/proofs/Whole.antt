-- The line of what a record says, and of what is read of the text.
-- Assumes nothing.
use mathlib.Core.Path.{◌≡◌, refl, sym, ◌∙◌, ap}
use mathlib.Core.Bool.{true}
use mathlib.Core.List.{List, ◌++◌, append_assoc}
use Rattle.std.specs.Prelude.{Option, None, Some, Ok, Err}
use Prim.Native.Nat.{ℕ, ◌+◌, ◌*◌, ◌-◌, ◌≤◌}
use native.Mathlib.Omega.{arith}
use native.Mathlib.Nat.{zero-add}
use lib.ListN.{length, take, drop, length-append, length-drop}
use lib.Seq.{take_at}
use borrow.Author.Tests.{le-ltb}
use borrow.Rule.Slice.PartMut.{put_mid}
use Rattle.kinds.specs.Bytes.{ascii}
use Rattle.kinds.specs.Kind.{Kind, kind_text, canonical}
use Rattle.layout.specs.Buffer.{put}
use Rattle.layout.proofs.Answers.{accepted-is, after-written}
use Rattle.model.specs.declared.Refusal.{Refusal}
use Rattle.model.specs.declared.Refused.{Refused}
use Rattle.model.specs.declared.Call.TheVariants as call
use Rattle.model.specs.declared.Sort.{Sort}
use Rattle.model.specs.declared.Sort.TheVariants.{Plain, Parameter, Event}
use Rattle.model.specs.declared.Keyword.{Keyword}
use Rattle.model.specs.declared.Keyword.TheVariants as key
use Rattle.model.specs.Tree.{Declaration, Fields, kinds_of, name_kinds}
use Rattle.model.specs.Parser.{Ans, got, bad, deep}
use Rattle.model.specs.Reading.{deepest, parse}
use Rattle.model.specs.Record.{on_option, decode_field, decode_fields, encode, decode, well_formed}
use Rattle.model.specs.Line.{keyword_in, canonical_text}
use Rattle.model.specs.Answer.{accepted, refused, writes, said, outcome, after, handed, number, Output, Answer, refusal_at}
use Rattle.model.specs.Calls.{written, read_output}
use Rattle.model.specs.Deposit.{no_line, deposit_by, deposit_line}
use Rattle.model.proofs.Records.{decode-exactly, encode-bytes}
use Rattle.model.proofs.Sound.{accepts, read-well-formed}
use Rattle.record.specs.declared.Measured.{Measured}
use Rattle.record.specs.Says.{NameSaid, ListSaid, ConstructorSaid, Declares}
use Rattle.record.specs.Texts.{fields_from, tuple_text_from}
use Rattle.abi.specs.Writes.{Put, line_from, LineRoom, LineWrote}
use Rattle.report.specs.Lines.{ok_front, line_by, record_line}
use Rattle.model.proofs.Scans.{part-rest}
use Rattle.abi.proofs.Puts.{put_size}
use Rattle.abi.proofs.Going.{part, put-then}

-- the text of a declaration with a name, as abi writes it
pub record Lined (b nm : List ℕ) (l : Measured) (k : Keyword) : Type 0 where
  pub sort : Sort
  pub text : List ℕ
  pub from : line_from sort deepest nm l.bytes.now ≡ Some text
  pub small : length text ≤ 3 * 40960 + 2
  pub line : record_line b ≡ ok_front k (length b) ++ text

module _ (b nm : List ℕ) (l : Measured) where
  lined : (k : Keyword) (d : Declaration) (name : List ℕ) (sort : Sort) (fs : Fields) → decode b ≡ Some d → keyword_in d ≡ k
      → name_kinds d ≡ Some (record { name = name; kinds = kinds_of fs })
      → NameSaid nm name → ListSaid sort l fs → Lined b nm l k
  unfolding record_line line_by canonical_text canonical line_from tuple_text_from fields_from decode_fields decode_field
  lined k d name sort fs e f g n w =
      let kinds = kind_text (Kind.tuple (kinds_of fs)) in
      record {
        sort = sort;
        text = nm ++ kinds;
        from = ap (λ o. on_option (λ u. nm ++ u) (on_option (λ fs. kind_text (Kind.tuple (kinds_of fs))) o)) w.same;
        small = omega (arith, length-append nm kinds, n.small, w.long, w.small, w.short);
        line = rw (record_line, e, line_by, f, canonical_text, g, n.same);
      }

  pub declared : (k : Keyword) (u : Option Measured) → Declares k (decode b) nm l u → Lined b nm l k
  unfolding name_kinds keyword_in
  declared key.Function u w = lined key.Function _ w.name Parameter w.ins w.same refl refl w.named w.inputs
  declared key.Constructor u w = absurd w
  declared key.Event u w = lined key.Event _ w.name Event w.ins w.same refl refl w.named w.inputs
  declared key.Error u w = lined key.Error _ w.name Plain w.ins w.same refl refl w.named w.inputs

  module _ (k : Keyword) (w : Lined b nm l k) (out out₁ : List ℕ) (n : ℕ) (i : Put (ok_front k (length b)) out out₁ n) (low : n ≤ 64)
      (h : 131072 ≤ length out) where
    fits : length w.text ≤ length (part out₁ n)
    fits = omega (arith, w.small, i.long, put_size _ out out₁ n i (omega (arith, i.long)), ap length (part-rest out₁ n), length-drop n out₁)

    pub line-asks : LineRoom nm l.bytes.now (part out₁ n)
    line-asks = record { sort = w.sort; d = deepest; at = record { text = w.text; same = w.from; room = fits } }

    module _ (s : List ℕ) (m : ℕ) (x : LineWrote nm l.bytes.now (part out₁ n) s m) where
      text-put : Put w.text (part out₁ n) s m
      text-put = x w.sort deepest (record { text = w.text; same = w.from; room = fits }) w.text w.from

      pub line-inside : n + m ≤ length out
      line-inside = omega (arith, text-put.long, w.small)

      pub line-put : Put (record_line b) out (put_mid n (length out₁ - n) out₁ s) (n + m)
      line-put = rw w.line (put-then _ _ _ _ i w.text s m text-put)

module _ (b : List ℕ) where
  pub constructor-put : (l : Measured) → ConstructorSaid (decode b) l → (out out₁ s : List ℕ) (n m : ℕ)
      → Put (ok_front key.Constructor (length b)) out out₁ n → n ≤ length out → Put (ascii "-") (part out₁ n) s m
      → Put (record_line b) out (put_mid n (length out₁ - n) out₁ s) (n + m)
  unfolding record_line line_by keyword_in canonical_text name_kinds
  constructor-put l w out out₁ s n m i h j = rw (record_line, w.same, line_by) (put-then _ _ _ _ i (ascii "-") s m j)

  pub nothing-put : decode b ≡ None → (out : List ℕ) → Put (record_line b) out out 0
  unfolding record_line line_by
  nothing-put e out = rw (record_line, e, line_by) (record { same = refl; long = refl })

-- What is read of the text.

-- a text that stands at the front
pub ends : (u v out out₁ : List ℕ) (r : ℕ) → u ≡ v → Put u out out₁ r → (out₁ ≡ put 0 v out) × (r ≡ length v)
unfolding put
ends u v out out₁ r e i = rw (← e) (i.same ∙ rw zero-add, i.long)

-- a record that was read is short, and says what was read
read-line : (s u : List ℕ) → read_output call.General s ≡ writes u → (length u ≤ 40960) × (record_line u ≡ deposit_line s)
unfolding read_output written handed record_line line_by ok_front deposit_line deposit_by
read-line s u e = go (parse call.General s) refl e
  where
    go : (x : Ans Declaration) → parse call.General s ≡ x → written (encode 4) x ≡ writes u → (length u ≤ 40960) × (record_line u ≡ deposit_by x)
    go (got d n) f g =
        let w : well_formed d ≡ true = read-well-formed call.General s d n f in
        let q : decode (encode 4 d) ≡ Some d = (decode-exactly (encode 4 d) d (encode-bytes d w)).1 (w, refl) in
        let a = accepts call.General s d n f in
        let same : encode 4 d ≡ u = ap handed g in
        rw (← same) (omega (arith, a.paid, a.within, a.short), simp (record_line, q, line_by, append_assoc))
    go (bad v p) f g = absurd (let z : ◌≡◌ {A = ℕ} 0 1 = cc in omega arith)
    go (deep p) f g = absurd (let z : ◌≡◌ {A = ℕ} 0 1 = cc in omega arith)

abbrev reading : List ℕ → Output
reading s = read_output call.General s

module _ (s b b₁ : List ℕ) (a : Answer) (says : said a ≡ outcome (length b) (reading s)) (leaves : b₁ ≡ after b (reading s)) (big : 40960 ≤ length b) where
  pub record Read (m : ℕ) : Type 0 where
    pub long : m ≤ length b₁
    pub line : record_line (take m b₁) ≡ deposit_line s

  pub read-accepted : (m : ℕ) → a ≡ Ok m → Read m
  unfolding said
  read-accepted m e =
      let (u, o, long, h) = accepted-is (reading s) (length b) m (rw e at says) in
      let same : b₁ ≡ u ++ drop (length u) b = leaves ∙ after-written b u _ o h in
      let front : take m b₁ ≡ u = rw same (take_at u (drop (length u) b) m (sym long)) in
      record { long = omega (arith, long, ap length same, length-append u (drop (length u) b)); line = rw front (read-line s u o).1 }

  -- what was refused has the line of its number and position
  pub read-refused : (x : Refused) (w : Refusal) (p n : ℕ) → a ≡ Err x → x ≡ refusal_at w p → n ≡ number w → no_line n p ≡ deposit_line s
  unfolding said read_output written outcome deposit_line deposit_by
  read-refused x w p n e f h = rw h (go (parse call.General s) refl (rw (e, f) at says))
    where
      go : (x : Ans Declaration) → parse call.General s ≡ x → refused (number w) p ≡ outcome (length b) (written (encode 4) x)
          → no_line (number w) p ≡ deposit_by x
      go (got d n) f g =
          let read : reading s ≡ writes (encode 4 d) = rw (read_output, f, written) in
          let fits = le-ltb (length b) (length (encode 4 d)) (omega (arith, (read-line s (encode 4 d) read).0)) in
          let none : refused (number w) p ≡ accepted (length (encode 4 d)) = g ∙ rw (outcome, fits) in
          absurd (let z : ◌≡◌ {A = ℕ} 0 1 = cc in omega arith)
      go (bad v q) f g = let x : number w ≡ number v = cc in let y : p ≡ q = cc in rw (x, y)
      go (deep q) f g = cc
