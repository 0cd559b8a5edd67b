-- One record that is all of the bytes: a field by itself, and the whole check; and what was read, as encodings.
-- Assumes nothing.
use mathlib.Core.Path.{◌≡◌, refl, sym, ◌∙◌, ap, subst}
use mathlib.Core.Bool.{Bool, true, false, ◌&&◌}
use mathlib.Core.List.{List, [], ◌∷◌}
use Rattle.std.specs.Prelude.{Option, None, Some}
use Rattle.std.proofs.lemmas.Option.{none-some, same_Some}
use Prim.Native.Nat.{ℕ, ◌+◌, ◌≤◌, ◌<◌}
use native.Mathlib.Omega.{arith}
use lib.Dec.{eqb}
use lib.ListN.{length, take, drop, get_or, length-drop}
use borrow.Author.Tests.{le-leb, lt-leb, ne_eqb}
use Rattle.model.specs.declared.Sort.{Sort}
use Rattle.model.specs.declared.Sort.TheVariants.{Plain}
use Rattle.model.specs.Tree.{Field, field, Fields, Declaration}
use Rattle.model.specs.Reading.{deepest, marks}
use Rattle.model.specs.Layout.{le_value, Piece as Taken, piece, no_piece, piece_of, Bytes}
use Rattle.model.specs.Record.{encode_fields, are_fields, is_mark, is_field_name, given, when, fronted, base_from, tuple_from, decode_suffixes, on_option, ended, on_piece, case, select, decode_field, function_from, constructor_from, event_from, error_from, field_from, decode_declaration, decode, decode_lone, longest_record}
use Rattle.model.specs.Line.{field_text, field_name}
use Rattle.model.proofs.Decoding.{select-other, when-some, given-some}
use Rattle.model.proofs.Records.{inputs_spells}
use Rattle.record.specs.declared.Piece.{Piece}
use Rattle.record.specs.declared.Measured.{Measured}
use Rattle.record.specs.declared.Checked.{Checked}
use Rattle.record.specs.Texts.{size, kind_from, field_text_from}
use Rattle.record.specs.Parts.{taken, PieceIs, FrontIs}
use Rattle.record.specs.Encoded.{FieldsAre}
use Rattle.record.specs.Says.{Says, FieldSaid, ListSaid}

-- a field by itself
module _ (body : List ℕ) where
  text_of : (o : Option Field) → decode_field 4 Plain 0x10 body ≡ o → field_text_from Plain 32 0x10 body ≡ on_option field_text o
  unfolding field_text_from decode_field
  text_of o q = ap (on_option field_text) q

  nothing : None ≡ size (field_text_from Plain 32 0x10 body) → decode_field 4 Plain 0x10 body ≡ None
  nothing h = go (decode_field 4 Plain 0x10 body) refl
    where
      go : (o : Option Field) → decode_field 4 Plain 0x10 body ≡ o → decode_field 4 Plain 0x10 body ≡ None
      go None q = q
      go (Some f) q = absurd (none-some _ (h ∙ ap size (text_of (Some f) q)))

  pub lone-none : (r : Option Checked) → r ≡ None → FrontIs Plain body None → Says None (decode_field 4 Plain 0x10 body) r
  lone-none r e i = rw e (refl, nothing (ap size (sym (i 32))))

  module _ (n : Piece) (i : FrontIs Plain body (Some n)) where
    pub lone-bad : (r : Option Checked) → r ≡ None → None ≡ size (kind_from 32 n.rest.now) → Says None (decode_field 4 Plain 0x10 body) r
    lone-bad r e h = rw e (refl, nothing (h ∙ ap size (sym (i.same 32))))

    abbrev kinds_from : Taken → Option Field
    kinds_from p = on_piece p (λ j base r₂. given (base_from (tuple_from 4 32) j base) (λ b. given (decode_suffixes 4 r₂) (λ ss.
        when (is_mark (marks Plain (record { base = b; suffixes = ss })) (le_value (take 2 body)) n.body.now && is_field_name n.body.now) (Some (field (le_value (take 2 body)) n.body.now b ss)))))

    lone-name : (f : Field) → decode_field 4 Plain 0x10 body ≡ Some f → n.body.now ≡ field_name f
    unfolding decode_field field_from field_name taken
    lone-name f e = kind (eqb n.kind 0x11) (rw (fronted, le-leb 2 (length body) i.long, ← i.there.same) at e)
      where
        go : (p : Taken) → kinds_from p ≡ Some f → n.body.now ≡ field_name f
        go no_piece e = absurd (none-some f e)
        go (piece j base r₂) e =
            given-some (base_from (tuple_from 4 32) j base) _ e (λ b p e₂.
            given-some (decode_suffixes 4 r₂) _ e₂ (λ ss q e₃.
            when-some (is_mark (marks Plain (record { base = b; suffixes = ss })) (le_value (take 2 body)) n.body.now && is_field_name n.body.now) (Some (field (le_value (take 2 body)) n.body.now b ss)) e₃
            (λ g e₄. ap field_name (same_Some (field (le_value (take 2 body)) n.body.now b ss) f e₄))))

        kind : (t : Bool) → elim t as (λ _. Option Field) [ true ↦ kinds_from (piece_of 4 n.rest.now) | false ↦ None ] ≡ Some f → n.body.now ≡ field_name f
        kind true e = go (piece_of 4 n.rest.now) e
        kind false e = absurd (none-some f e)

    pub lone-is : length body ≤ longest_record → (l : Measured) → l.bytes.now ≡ n.rest.now → Some l.text ≡ size (kind_from 32 n.rest.now) → FieldSaid (decode_field 4 Plain 0x10 body) n.body.now l
    lone-is s l u h = go (decode_field 4 Plain 0x10 body) refl
      where
        go : (o : Option Field) → decode_field 4 Plain 0x10 body ≡ o → FieldSaid (decode_field 4 Plain 0x10 body) n.body.now l
        go None q = absurd (none-some _ (sym (h ∙ ap size (sym (i.same 32) ∙ text_of None q))))
        go (Some f) q =
            let text : kind_from 32 n.rest.now ≡ Some (field_text f) = sym (i.same 32) ∙ text_of (Some f) q in
            let covers : 6 + length n.body.now + length n.rest.now ≡ length (drop 2 body) = i.there.covers in
            record {
              tree = f;
              same = q;
              named = record { same = lone-name f q; small = omega (arith, length-drop 2 body) };
              kind = record { same = rw u text; long = same_Some _ _ (h ∙ ap size text); short = rw u (omega (arith, length-drop 2 body)) };
            }

-- the whole check
module _ (b : List ℕ) where
  pub check_long : 40960 < length b → (decode b ≡ None) × (decode_lone b ≡ None)
  unfolding decode decode_lone
  check_long h = (rw (lt-leb (length b) 40960 h), rw (lt-leb (length b) 40960 h))

  module _ (h : length b ≤ 40960) where
    pub check_none : (r : Option Checked) → r ≡ None → PieceIs b None → Says (decode b) (decode_lone b) r
    unfolding decode decode_lone taken
    check_none r e i = rw e (rw (le-leb (length b) 40960 h, ← i.same), rw (le-leb (length b) 40960 h, ← i.same))

    module _ (p : Piece) (i : PieceIs b (Some p)) where
      not-ended : {A : Type 0} (t : List ℕ) (o : Option A) → (length t ≡ 0 → ⊥) → ended t o ≡ None
      not-ended [] o z = absurd (z refl)
      not-ended (c ∷ t) o z = refl

      pub check_more : (length p.rest.now ≡ 0 → ⊥) → (decode b ≡ None) × (decode_lone b ≡ None)
      unfolding decode decode_lone taken
      check_more z = (
        rw (le-leb (length b) 40960 h, ← i.same) (not-ended p.rest.now (decode_declaration 4 p.kind p.body.now) z),
        rw (le-leb (length b) 40960 h, ← i.same) (not-ended p.rest.now (decode_field 4 Plain p.kind p.body.now) z),
      )

      module _ (z : length p.rest.now ≡ 0) where
        all-of : {A : Type 0} (t : List ℕ) (o : Option A) → length t ≡ 0 → ended t o ≡ o
        all-of [] o e = refl
        all-of (c ∷ t) o e = absurd (omega arith)

        declares : decode b ≡ decode_declaration 4 p.kind p.body.now
        unfolding decode taken
        declares = rw (le-leb (length b) 40960 h, ← i.same) (all-of p.rest.now (decode_declaration 4 p.kind p.body.now) z)

        fields : decode_lone b ≡ decode_field 4 Plain p.kind p.body.now
        unfolding decode_lone taken
        fields = rw (le-leb (length b) 40960 h, ← i.same) (all-of p.rest.now (decode_field 4 Plain p.kind p.body.now) z)

        says : (o : Option Declaration) (f : Option Field) (r : Option Checked) → decode b ≡ o → decode_lone b ≡ f → Says o f r → Says (decode b) (decode_lone b) r
        says o f r x y s = subst (λ g. Says (decode b) g r) (sym y) (subst (λ d. Says d f r) (sym x) s)

        pub check_field : (r : Option Checked) → p.kind ≡ 0x10 → Says None (decode_field 4 Plain 0x10 p.body.now) r → Says (decode b) (decode_lone b) r
        unfolding decode_declaration
        check_field r y s = says None (decode_field 4 Plain 0x10 p.body.now) r (declares ∙ rw y) (fields ∙ rw y) s

        declared : (o : Option Declaration) (r : Option Checked) → decode_declaration 4 p.kind p.body.now ≡ o → decode_field 4 Plain p.kind p.body.now ≡ None → Says o None r → Says (decode b) (decode_lone b) r
        declared o r x y s = says o None r (declares ∙ x) (fields ∙ y) s

        pub check_function : (r : Option Checked) → p.kind ≡ 0x20 → Says (function_from 4 p.body.now) None r → Says (decode b) (decode_lone b) r
        unfolding decode_declaration decode_field field_from
        check_function r y s = declared (function_from 4 p.body.now) r (rw y) (rw y) s

        pub check_constructor : (r : Option Checked) → p.kind ≡ 0x21 → Says (constructor_from 4 p.body.now) None r → Says (decode b) (decode_lone b) r
        unfolding decode_declaration decode_field field_from
        check_constructor r y s = declared (constructor_from 4 p.body.now) r (rw y) (rw y) s

        pub check_event : (r : Option Checked) → p.kind ≡ 0x22 → Says (event_from 4 p.body.now) None r → Says (decode b) (decode_lone b) r
        unfolding decode_declaration decode_field field_from
        check_event r y s = declared (event_from 4 p.body.now) r (rw y) (rw y) s

        pub check_error : (r : Option Checked) → p.kind ≡ 0x23 → Says (error_from 4 p.body.now) None r → Says (decode b) (decode_lone b) r
        unfolding decode_declaration decode_field field_from
        check_error r y s = declared (error_from 4 p.body.now) r (rw y) (rw y) s

        pub check_other : (p.kind ≡ 0x10 → ⊥) → (p.kind ≡ 0x20 → ⊥) → (p.kind ≡ 0x21 → ⊥) → (p.kind ≡ 0x22 → ⊥) → (p.kind ≡ 0x23 → ⊥) → (decode b ≡ None) × (decode_lone b ≡ None)
        unfolding decode_declaration decode_field field_from
        check_other v w x y u =
            let none_of : select (case 0x20 (function_from 4) ∷ case 0x21 (constructor_from 4) ∷ case 0x22 (event_from 4) ∷ case 0x23 (error_from 4) ∷ []) (λ _. None) p.kind ≡ (λ _. None)
            = select-other p.kind (case 0x20 (function_from 4) ∷ case 0x21 (constructor_from 4) ∷ case 0x22 (event_from 4) ∷ case 0x23 (error_from 4) ∷ []) (λ _. None) (w, (x, (y, (u, tt)))) in
            (declares ∙ ap (λ T. T p.body.now) none_of, fields ∙ rw (decode_field, field_from, ne_eqb p.kind 0x10 v))

pub ruleset wholes = (lone-none, lone-bad, lone-is, check_long, check_none, check_more, check_field, check_function, check_constructor, check_event, check_error, check_other)

-- A list that was checked is the encoding of what it says: every lent slice is of bytes.
pub said-fields : (sort : Sort) (l : Measured) (fs : Fields) → ((i : ℕ) → get_or l.bytes.now i 0 < 256) → ListSaid sort l fs → FieldsAre l.bytes.now fs
unfolding Bytes
said-fields sort l fs B w =
    let z : (are_fields sort deepest fs ≡ true) × (l.bytes.now ≡ encode_fields 4 fs) = (inputs_spells 4 sort).from l.bytes.now fs B w.same in
    record { same = z.1; small = w.short; sort = sort; d = deepest; well = z.0 }
