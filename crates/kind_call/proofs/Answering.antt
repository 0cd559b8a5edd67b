-- The kind call, by how it ends.
-- Assumes nothing.
use Rattle.std.proofs.Common.{◌≡◌, refl, sym, ◌∙◌, ap, Bool, true, false, List, [], ℕ, ◌+◌, ◌-◌, ◌*◌, ◌≤◌, ◌<◌, arith, length, length-take, take, nat_eq, Option, None, Some, Ok, Err}
use Rattle.std.specs.Option.{option_eq}
use Rattle.std.proofs.lemmas.Bool.{true≢false}
use borrow.Author.Tests.{lt-ltb, le-ltb, eq-eqb, ne_eqb, eqb-true, eqb-false}
use Rattle.kinds.specs.Bytes.{lparen}
use Rattle.model.specs.declared.Refusal.{Refusal}
use Rattle.model.specs.declared.Refusal.TheVariants.{TooLong, NotUtf8, TooDeep, Unknown, NoRoom}
use Rattle.model.specs.declared.Refused.{Refused}
use Rattle.model.specs.declared.Mark.TheVariants.{Unmarked}
use Rattle.model.specs.Mark.{mark_number}
use Rattle.model.specs.declared.Sort.TheVariants.{Plain}
use Rattle.model.specs.Text.{valid_length, peek}
use Rattle.model.specs.Tree.{Field, field, elementary}
use Rattle.model.specs.KindText.{err, from_str}
use Rattle.model.specs.Parser.{Ans, got, bad, on_ans}
use Rattle.model.specs.Reading.{field_by, tuple_kind, deepest}
use Rattle.text.specs.Admitted.{refused_first}
use Rattle.text.proofs.Admitting.{admits, refuses-first}
use Rattle.model.specs.Record.{encode_elementary, encode_field}
use Rattle.model.specs.Answer.{writes, refuses, Answer, refusal_at, refusing}
use Rattle.model.specs.Calls.{written, all_of, crowded, is_bare, tuple_by, read_tuple, read_kind, kind_output}
use Rattle.model.proofs.Bounds.{field-size}
use Rattle.layout.specs.Answers.{Ends}
use Rattle.layout.proofs.Answers.{ends-refused, ends-full, ends-written}
use Rattle.text.specs.Found.{byte_or_end}
use Rattle.fields.specs.declared.Got.{Got}
use Rattle.fields.specs.declared.Failed.{Failed}
use Rattle.fields.specs.declared.Failed.TheVariants.{Bad, Deep}
use Rattle.fields.specs.Scratch.{Read, to_read, bytes_of, failed, Put, field_of}
use Rattle.fields.proofs.Family.{is-got, is-failed, of-got, of-failed}
use Rattle.value.specs.declared.Run.{Run}
use Rattle.value.specs.Elementary.{to_elementary}
use Rattle.value.specs.Run.{ReadIs, LeafAt, LeafPut}
use Rattle.kind_call.specs.Outputs.{lone_output, tuple_output, whole_output}

-- A text that starts with `(`.

-- a reading into scratch
module _ (s c : List ℕ) where
  read : Ans Field
  read = field_by Plain (tuple_kind deepest) s 0

  unknown : (b : List ℕ) (r : Refused) → r ≡ refusal_at Unknown 0 → all_of (length s) read ≡ bad Unknown 0 → Ends (whole_output s) b b (Err r)
  unfolding whole_output written read
  unknown b r e f = ends-refused (whole_output s) b (Err r) Unknown 0 (ap Err e) (rw f)

  pub whole-failed : (f : Failed) → Put 0 s 0 c (field_of Plain 32 s 0) (Err f) → (b : List ℕ) (r : Refused) → r ≡ refusal_at Unknown 0 → Ends (whole_output s) b b (Err r)
  unfolding failed read
  whole-failed f p b r e = unknown b r e (ap (all_of (length s)) (of-failed (encode_field 4) read f (is-failed (on_ans (encode_field 4) read) f p.same)) ∙ go f)
    where
      go : (f : Failed) → all_of (length s) (failed f) ≡ bad Unknown 0
      go (Bad r) = refl
      go (Deep p) = refl

  module _ (g : Got) (p : Put 0 s 0 c (field_of Plain 32 s 0) (Ok g)) where
    bytes : List ℕ
    bytes = bytes_of (on_ans (encode_field 4) read)

    answer : (on_ans (encode_field 4) read ≡ got bytes g.next) × (g.len ≡ length bytes)
    unfolding bytes read
    answer = is-got (on_ans (encode_field 4) read) g p.same

    pub whole-more : (g.next ≡ length s → ⊥) → (b : List ℕ) (r : Refused) → r ≡ refusal_at Unknown 0 → Ends (whole_output s) b b (Err r)
    whole-more n b r e =
        let t = of-got (encode_field 4) read bytes g.next answer.0 in
        unknown b r e (ap (all_of (length s)) t.same ∙ rw (all_of, ne_eqb g.next (length s) n))

    front : take g.len c ≡ bytes
    unfolding bytes read
    front = rw answer.1 p.wrote

    pub whole-fits : g.len ≤ length c
    whole-fits = omega (arith, length-take g.len c, ap length front, answer.1)

    pub whole-read : g.next ≡ length s → (b b₁ : List ℕ) (r : Answer) → Ends (writes (take g.len c)) b b₁ r → Ends (whole_output s) b b₁ r
    unfolding whole_output written read
    whole-read z b b₁ r e = rw output e
      where
        output : whole_output s ≡ writes (take g.len c)
        output =
            let t = of-got (encode_field 4) read bytes g.next answer.0 in
            ap (λ a. written (encode_field 4) (all_of (length s) a)) t.same ∙ rw (all_of, eq-eqb g.next (length s) z) (ap writes (t.bytes ∙ sym front))

-- the scans that come first
module _ (s b : List ℕ) where
  pub tuple-deep : (p : ℕ) → Some p ≡ crowded deepest 0 s → Ends (tuple_output s) b b (refusing TooDeep p)
  unfolding tuple_output read_tuple written
  tuple-deep p e = ends-refused (tuple_output s) b (refusing TooDeep p) TooDeep p refl (rw (← e))

  module _ (e : None ≡ crowded deepest 0 s) where
    pub tuple_unbare : (r : Refused) → r ≡ refusal_at Unknown 0 → false ≡ is_bare false s → Ends (tuple_output s) b b (Err r)
    unfolding tuple_output read_tuple written
    tuple_unbare r f h = ends-refused (tuple_output s) b (Err r) Unknown 0 (ap Err f) (rw (← e, tuple_by, ← h))

    pub tuple-whole : true ≡ is_bare false s → (b₁ : List ℕ) (r : Answer) → Ends (whole_output s) b b₁ r → Ends (tuple_output s) b b₁ r
    unfolding tuple_output read_tuple whole_output
    tuple-whole h b₁ r i = rw output i
      where
        output : tuple_output s ≡ whole_output s
        output = rw (← e, tuple_by, ← h)

-- A text that does not.

module _ (s b : List ℕ) where
  pub lone-refused : (w : Refusal) (r : Refused) → r ≡ refusal_at w 0 → from_str s ≡ err w → Ends (lone_output s) b b (Err r)
  unfolding lone_output written
  lone-refused w r e f = ends-refused (lone_output s) b (Err r) w 0 (ap Err e) (rw f)

  module _ (k : Run) (i : ReadIs s k) (n : ℕ) (e : n ≡ 14 + 0 + length (encode_elementary 4 (to_elementary k.base)) + k.len) where
    bytes-of-lone : List ℕ
    bytes-of-lone = encode_field 4 (field 0 [] (elementary (to_elementary k.base)) i.suffixes)

    lone-written : lone_output s ≡ writes bytes-of-lone
    unfolding lone_output written bytes-of-lone
    lone-written = rw i.same

    lone_needs : length bytes-of-lone ≡ n
    unfolding bytes-of-lone encode_field
    lone_needs = omega (arith, field-size 0 [] (elementary (to_elementary k.base)) i.suffixes, e, i.size)

    pub lone-full : (r : Refused) → r ≡ refusal_at NoRoom 0 → length b < n → Ends (lone_output s) b b (Err r)
    lone-full r f h = ends-full (lone_output s) b (Err r) bytes-of-lone (ap Err f) lone-written (rw lone_needs h)

    pub lone-at : length s ≤ 4096 → n ≤ length b → LeafAt k [] b
    lone-at h l = record { suffixes = i.suffixes; suffixed = i.suffixed; size = i.size; room = omega (arith, e); small = omega (arith, i.small, i.inside) }

    pub lone-done : (b₁ : List ℕ) (x : ℕ) → n ≤ length b → x ≡ mark_number Unmarked → LeafPut k x [] b b₁ → Ends (lone_output s) b b₁ (Ok n)
    unfolding bytes-of-lone
    lone-done b₁ x l e p = ends-written (lone_output s) b (Ok n) bytes-of-lone b₁ (ap Ok (sym lone_needs)) lone-written (omega (arith, lone_needs)) ((rw e at p) i.suffixes i.suffixed)

-- Any text.

module _ (s : List ℕ) where
  pub kind-refused : (r : Refused) → refused_first s ≡ Some r → (b : List ℕ) → Ends (kind_output s) b b (Err r)
  unfolding kind_output written
  kind-refused r e b = ends-refused (kind_output s) b (Err r) r.refusal r.position refl (ap (written (encode_field 4)) (refuses-first read_kind s r e))

  -- past the limits, by the byte that stands first
  module _ (a : refused_first s ≡ None) (o : Option ℕ) (q : byte_or_end o ≡ peek s 0) (b b₁ : List ℕ) (r : Answer) where
    opens : (o : Option ℕ) → byte_or_end o ≡ peek s 0 → true ≡ option_eq nat_eq o (Some lparen) → peek s 0 ≡ lparen
    unfolding byte_or_end
    opens None f e = absurd (true≢false e)
    opens (Some c) f e = sym f ∙ eqb-true c lparen (sym e)

    opens-not : (o : Option ℕ) → byte_or_end o ≡ peek s 0 → false ≡ option_eq nat_eq o (Some lparen) → peek s 0 ≡ lparen → ⊥
    unfolding byte_or_end
    opens-not None f e g = omega arith
    opens-not (Some c) f e g = eqb-false c lparen (sym e) (f ∙ g)

    pub kind-tuple : true ≡ option_eq nat_eq o (Some lparen) → Ends (tuple_output s) b b₁ r → Ends (kind_output s) b b₁ r
    unfolding kind_output tuple_output read_kind
    kind-tuple e i = rw output i
      where
        output : kind_output s ≡ tuple_output s
        output = ap (written (encode_field 4)) (admits read_kind s a) ∙ rw (read_kind, opens o q e)

    pub kind-lone : false ≡ option_eq nat_eq o (Some lparen) → Ends (lone_output s) b b₁ r → Ends (kind_output s) b b₁ r
    unfolding kind_output lone_output read_kind
    kind-lone n i = rw output i
      where
        output : kind_output s ≡ lone_output s
        output = ap (written (encode_field 4)) (admits read_kind s a) ∙ rw (read_kind, ne_eqb (peek s 0) lparen (opens-not o q n))
