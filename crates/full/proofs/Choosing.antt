-- The line of what a record says, and what the call leaves.
-- Assumes nothing.
use mathlib.Core.Path.{◌≡◌, refl, sym, ◌∙◌, ap}
use mathlib.Core.Bool.{Bool, true, false}
use mathlib.Core.List.{List, [], ◌∷◌, ◌++◌, append-nil}
use Rattle.std.specs.Prelude.{Option, None, Some, Ok}
use Rattle.std.proofs.lemmas.Option.{none-some, same_Some}
use Prim.Native.Nat.{ℕ, ◌*◌, ◌≤◌, ◌<◌}
use native.Mathlib.Omega.{arith}
use native.Mathlib.Nat.{zero-add}
use lib.Dec.{leb, eqb}
use lib.ListN.{length, take, drop}
use borrow.Author.Tests.{leb-true, true-leb, false-leb, eqb-true, eqb-false}
use Rattle.kinds.specs.Bytes.{ascii}
use Rattle.kinds.proofs.Logic.{left, right}
use Rattle.model.specs.declared.Sort.{Sort}
use Rattle.model.specs.declared.Sort.TheVariants.{Plain, Parameter, Event}
use Rattle.model.specs.Tree.{Field, Fields, no_field, more_fields, Declaration}
use Rattle.model.specs.Reading.{keyword_text}
use Rattle.model.specs.Layout.{little_endian, le_value, record_of, Piece, piece, no_piece, piece_of, Bytes}
use Rattle.model.specs.Record.{given, on_option, on_piece, encode, is_declaration, well_formed, each_in, decode_field, decode_fields, decode, longest_record}
use Rattle.model.specs.Full.{bracketed, returns_text, mutability_text, anonymous_text, full_text, full_output}
use Rattle.model.specs.declared.Refusal.TheVariants.{NotWellFormed, NoRoom}
use Rattle.model.specs.Answer.{writes, Answer, refusing}
use Rattle.model.proofs.Pieces.{le_read}
use Rattle.model.proofs.Records.{decode-exactly}
use Rattle.model.proofs.Lengths.{full-short}
use Rattle.layout.specs.Answers.{Ends}
use Rattle.layout.specs.Buffer.{put}
use Rattle.layout.proofs.Answers.{ends-refused, ends-full, ends-written}
use Rattle.record.specs.declared.Measured.{Measured}
use Rattle.record.proofs.Whole.{said-fields}
use Rattle.record.specs.Says.{ListSaid, FunctionSaid, ConstructorSaid, EventSaid, ErrorSaid}
use Rattle.full.specs.Lines.{filled, Listed, Returned, line_text, LineIs, LineFits, LineWrote}
use Rattle.full.specs.declared.Line.{Line}
use Rattle.full.proofs.Measuring.{AreBytes}

-- Lists that were checked.

module _ (sort : Sort) where
  listed : (l : Measured) (fs : Fields) → ListSaid sort l fs → Listed l fs
  listed l fs w = record { is = λ B. said-fields sort l fs B w; long = w.long; small = w.small; few = w.short }

  none-read : (b : List ℕ) (fs : Fields) → decode_fields 4 sort b ≡ Some fs → length b ≡ 0 → fs ≡ no_field
  unfolding decode_fields each_in
  none-read [] fs e h = sym (same_Some _ _ e)
  none-read (c ∷ t) fs e h = absurd (omega arith)

  some-read : (b : List ℕ) → decode_fields 4 sort b ≡ Some no_field → length b ≡ 0
  unfolding decode_fields each_in
  some-read [] e = refl
  some-read (c ∷ t) e = absurd (go (piece_of 4 (c ∷ t)) e)
    where
      R : List ℕ → Option Fields
      R r = each_in 4 no_field more_fields (decode_field 4 sort) (length t) r

      joined : (f : Field) (o : Option Fields) → on_option (more_fields f) o ≡ Some no_field → ⊥
      joined f None q = none-some no_field q
      joined f (Some fs) q = let z : ◌≡◌ {A = ℕ} 0 1 = cc in omega arith

      more : (o : Option Field) (r : List ℕ) → given o (λ f. on_option (more_fields f) (R r)) ≡ Some no_field → ⊥
      more None r q = none-some no_field q
      more (Some f) r q = joined f (R r) q

      go : (p : Piece) → on_piece p (λ k body r. given (decode_field 4 sort k body) (λ f. on_option (more_fields f) (R r))) ≡ Some no_field → ⊥
      go no_piece q = none-some no_field q
      go (piece k body r) q = more (decode_field 4 sort k body) r q

returned : (l : Measured) (fs : Fields) → ListSaid Parameter l fs → Returned (filled (Some l)) fs
returned l fs w = go (eqb (length l.bytes.now) 0) refl
  where
    go : (t : Bool) → eqb (length l.bytes.now) 0 ≡ t → Returned (elim t [ true ↦ None | false ↦ Some l ]) fs
    go true e = none-read Parameter l.bytes.now fs w.same (eqb-true _ _ e)
    go false e = (listed Parameter l fs w, λ z. eqb-false _ _ e (some-read Parameter l.bytes.now (rw z at w.same)))

-- The number in front of a declaration's body.

abbrev pub HasNumber : Declaration → ℕ → Type 0
HasNumber (Declaration.function m nm ins outs) n = m ≡ n
HasNumber (Declaration.constructor m ins) n = m ≡ n
HasNumber (Declaration.event a nm ins) n = a ≡ n
HasNumber (Declaration.error nm ins) n = ⊥

record Numbered (b : List ℕ) (m : ℕ) : Type 0 where
  long : 8 ≤ length b
  number : le_value (take 2 (drop 6 b)) ≡ m

front-read : (b : List ℕ) (k m : ℕ) (rest : List ℕ) → b ≡ record_of 4 k (little_endian 2 m ++ rest) → m < 65536 → Numbered b m
unfolding record_of little_endian
front-read b k m rest e h = record { long = omega (arith, ap length e); number = rw e (le_read 2 m h) }

module _ (b : List ℕ) (B : AreBytes b) where
  exactly : (d : Declaration) → decode b ≡ Some d → (is_declaration d ≡ true) × (b ≡ encode 4 d)
  unfolding Bytes well_formed
  exactly d e = let (w, same) = (decode-exactly b d B).0 e in (left _ w, same)

  numbered : (d : Declaration) (m : ℕ) → HasNumber d m → decode b ≡ Some d → Numbered b m
  unfolding is_declaration encode
  numbered (Declaration.function m nm ins outs) n z e =
      let (w, same) = exactly _ e in rw (← z) (front-read b 0x20 m _ same (omega (arith, leb-true m 3 (left _ w))))
  numbered (Declaration.constructor m ins) n z e =
      let (w, same) = exactly _ e in rw (← z) (front-read b 0x21 m _ same (omega (arith, leb-true m 3 (right (leb 2 m) (left _ w)))))
  numbered (Declaration.event a nm ins) n z e =
      let (w, same) = exactly _ e in rw (← z) (front-read b 0x22 a _ same (omega (arith, leb-true a 1 (left _ w))))
  numbered (Declaration.error nm ins) n z e = absurd z

  module _ (d : Declaration) (n : ℕ) (h : HasNumber d n) (e : decode b ≡ Some d) where
    pub long_enough : 8 ≤ length b
    long_enough = (numbered d n h e).long

    stated : le_value (take 2 (drop 6 b)) ≡ n
    stated = (numbered d n h e).number

-- The lines, by what the check found.
module _ (b : List ℕ) (B : AreBytes b) (l : Line) where
  made : (d : Declaration) → decode b ≡ Some d → (sort : Sort) (ins outs : Fields) → ListSaid sort l.inputs ins → Returned l.outputs outs
      → length l.name.now ≤ longest_record → length l.front.now ≤ 11
      → full_text d ≡ l.front.now ++ (l.name.now ++ (bracketed ins ++ (l.back.now ++ returns_text outs))) → LineIs (decode b) l
  made d e sort ins outs w u s f t = record {
    tree = d;
    same = e;
    line = record { ins = ins; outs = outs; inputs = listed sort l.inputs ins w; outputs = u; short = omega arith };
    text = t;
  }

  pub function-line : (u : Option Measured) → FunctionSaid (decode b) l.name.now l.inputs u
      → l.front.now ≡ ascii "function " → l.back.now ≡ mutability_text (le_value (take 2 (drop 6 b))) → l.outputs ≡ filled u → LineIs (decode b) l
  unfolding full_text keyword_text
  function-line u w f g o =
      let d = Declaration.function w.mutability w.name w.ins w.outs in
      let back : l.back.now ≡ mutability_text w.mutability = g ∙ ap mutability_text (stated b B d w.mutability refl w.same) in
      let outs : Returned l.outputs w.outs = rw (o, w.some) (returned w.returned w.outs w.outputs) in
      made d w.same Parameter w.ins w.outs w.inputs outs w.named.small (omega (arith, ap length f)) (rw (f, back, w.named.same) refl)

  pub event-line : (u : Option Measured) → EventSaid (decode b) l.name.now l.inputs u
      → l.front.now ≡ ascii "event " → l.back.now ≡ anonymous_text (le_value (take 2 (drop 6 b))) → l.outputs ≡ None → LineIs (decode b) l
  unfolding full_text keyword_text
  event-line u w f g o =
      let d = Declaration.event w.anonymous w.name w.ins in
      let back : l.back.now ≡ anonymous_text w.anonymous = g ∙ ap anonymous_text (stated b B d w.anonymous refl w.same) in
      made d w.same Event w.ins no_field w.inputs (rw o refl) w.named.small (omega (arith, ap length f)) (rw (f, back, w.named.same, append-nil) refl)

  pub error-line : (u : Option Measured) → ErrorSaid (decode b) l.name.now l.inputs u
      → l.front.now ≡ ascii "error " → l.back.now ≡ [] → l.outputs ≡ None → LineIs (decode b) l
  unfolding full_text keyword_text
  error-line u w f g o =
      let d = Declaration.error w.name w.ins in
      let none : Returned l.outputs no_field = rw o refl in
      made d w.same Plain w.ins no_field w.inputs none w.named.small (omega (arith, ap length f)) (rw (f, g, w.named.same, append-nil (bracketed w.ins)) refl)

  pub constructor-line : ConstructorSaid (decode b) l.inputs → l.front.now ≡ ascii "constructor" → l.name.now ≡ []
      → l.back.now ≡ mutability_text (le_value (take 2 (drop 6 b))) → l.outputs ≡ None → LineIs (decode b) l
  unfolding full_text keyword_text
  constructor-line w f n g o =
      let d = Declaration.constructor w.mutability w.ins in
      let back : l.back.now ≡ mutability_text w.mutability = g ∙ ap mutability_text (stated b B d w.mutability refl w.same) in
      made d w.same Parameter w.ins no_field w.inputs (rw o refl) (omega (arith, ap length n)) (omega (arith, ap length f)) (rw (f, n, back, append-nil) refl)

-- How the call ends: the line of a record is its text, and no longer than twice the record.
module _ (b : List ℕ) where
  pub ends-none : decode b ≡ None → (text : List ℕ) (r : Answer) → r ≡ refusing NotWellFormed 0 → Ends (full_output b) text text r
  unfolding full_output
  ends-none e text r f = ends-refused (full_output b) text r NotWellFormed 0 f (rw (full_output, e))

  module _ (l : Line) (w : LineIs (decode b) l) where
    output-is : full_output b ≡ writes (line_text l w.line)
    unfolding full_output
    output-is = rw (full_output, w.same) (ap writes w.text)

    pub line-short : AreBytes b → length (line_text l w.line) ≤ 2 * length b
    unfolding Bytes
    line-short B = omega (arith, full-short b (line_text l w.line) B output-is)

    module _ (text : List ℕ) (f : LineFits (decode b) l (length text) true) where
      pub fits-room : length (line_text l w.line) ≤ length text
      fits-room = true-leb _ _ (f w)

      pub ends-line : (text₁ : List ℕ) (n : ℕ) → LineWrote l text text₁ n → Ends (full_output b) text text₁ (Ok n)
      unfolding put
      ends-line text₁ n x =
          let i = x w.line fits-room in
          ends-written (full_output b) text (Ok n) (line_text l w.line) text₁ (ap Ok i.long) output-is fits-room (i.same ∙ rw zero-add)

    pub ends-short : (text : List ℕ) (r : Answer) → LineFits (decode b) l (length text) false → r ≡ refusing NoRoom 0 → Ends (full_output b) text text r
    ends-short text r f e = ends-full (full_output b) text r (line_text l w.line) e output-is (false-leb _ _ (f w))
