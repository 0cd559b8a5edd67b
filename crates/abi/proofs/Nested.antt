-- A base and its suffixes written, and where they stand in a field's body.
-- Assumes nothing.
use mathlib.Core.Path.{◌≡◌, refl, sym, ◌∙◌, ap}
use mathlib.Core.Bool.{Bool, true, false}
use mathlib.Core.List.{List, ◌++◌}
use Rattle.std.specs.Prelude.{Option, None, Some}
use Rattle.std.proofs.lemmas.Option.{none-some, same_Some}
use Prim.Native.Nat.{ℕ, zero, suc, ◌+◌, ◌-◌, ◌≤◌}
use native.Mathlib.Omega.{arith}
use lib.Dec.{leb, eqb}
use lib.ListN.{length, take, drop, length-append}
use borrow.Author.Tests.{leb-true}
use borrow.Rule.Slice.PartMut.{put_mid}
use Rattle.kinds.specs.Kind.{Suffix}
use Rattle.model.specs.declared.Sort.{Sort}
use Rattle.model.specs.declared.Sort.TheVariants.{Plain}
use Rattle.model.specs.Tree.{Base, Field, field, kind_of, base_kind}
use Rattle.model.specs.Layout.{Piece as Taken, piece, no_piece, piece_of}
use Rattle.model.specs.Record.{given, on_option, when, on_piece, base_from, decode_suffixes, field_from, tuple_from}
use Rattle.model.specs.Line.{field_text}
use Rattle.model.proofs.Decoding.{when-some, given-some, on_some}
use Rattle.record.specs.declared.Piece.{Piece}
use Rattle.record.specs.Parts.{taken, PieceIs, Headed}
use Rattle.record.specs.Texts.{elementary_from, suffixes_from, base_text_from, kind_from, tuple_text_from}
use Rattle.abi.specs.Writes.{Put, Room, Wrote, KindRoom, KindWrote, BaseRoom, BaseWrote, FieldsRoom, FieldsWrote}
use Rattle.abi.proofs.Puts.{behind-room, put-inside, put-both, wrote-text}
use Rattle.abi.proofs.Walks.{read-headed}
use Rattle.record.proofs.Equations.{base-deep, base-tuple, base-elementary, arrays-text}

pub kind-headed : (t b : List ℕ) → KindRoom t b → Headed t
unfolding kind_from
kind-headed t b q = read-headed t _ q.at.text q.at.same

-- a tuple is gone into where one may still nest
deeper : (d k : ℕ) (body u : List ℕ) → k ≡ 9 → base_text_from d k body ≡ Some u → tuple_text_from Plain (d - 1) body ≡ Some u
deeper zero k body u y e = absurd (none-some u (sym (base-deep zero k body y refl) ∙ e))
deeper (suc d) k body u y e = sym (base-tuple (suc d) k body y (λ z. absurd (omega arith))) ∙ e

-- a base
module _ (k : ℕ) (body b : List ℕ) where
  pub tuple-asks : k ≡ 9 → BaseRoom k body b → FieldsRoom body b
  tuple-asks y q = record { sort = Plain; d = q.d - 1; at = record { text = q.at.text; same = deeper q.d k body q.at.text y q.at.same; room = q.at.room } }

  pub elementary-asks : (k ≡ 9 → ⊥) → BaseRoom k body b → Room (elementary_from k body) b
  elementary-asks y q = rw (base-elementary q.d k body y) at q.at

  module _ (b₁ : List ℕ) (n : ℕ) where
    pub tuple-wrote : k ≡ 9 → FieldsWrote body b b₁ n → BaseWrote k body b b₁ n
    tuple-wrote y w d q u e = w Plain (d - 1) (record { text = q.text; same = deeper d k body q.text y q.same; room = q.room }) u (deeper d k body u y e)

    pub elementary-wrote : (k ≡ 9 → ⊥) → Wrote (elementary_from k body) b b₁ n → BaseWrote k body b b₁ n
    elementary-wrote y w d q = rw (base-elementary d k body y) w

-- the texts of the base and of the suffixes
record Parts (d : ℕ) (t : List ℕ) (p : Piece) (u : List ℕ) : Type 0 where
  base : List ℕ
  suffixes : List ℕ
  base-is : base_text_from d p.kind p.body.now ≡ Some base
  suffixes-is : suffixes_from p.rest.now ≡ Some suffixes
  whole : u ≡ base ++ suffixes

module _ (t b : List ℕ) (p : Piece) (i : PieceIs t (Some p)) where
  parts : (d : ℕ) (u : List ℕ) → kind_from d t ≡ Some u → Parts d t p u
  unfolding kind_from taken
  parts d u e =
      given-some (base_text_from d p.kind p.body.now) _ (rw (← i.same) at e) (λ x f g.
      on_some (λ y. x ++ y) (suffixes_from p.rest.now) g (λ y h j.
      record { base = x; suffixes = y; base-is = f; suffixes-is = h; whole = sym j }))

  module _ (d : ℕ) (q : Room (kind_from d t) b) where
    abbrev here : Parts d t p q.text
    here = parts d q.text q.same

    fits : length (here.base ++ here.suffixes) ≤ length b
    fits = rw (← here.whole) q.room

    base-room : Room (base_text_from d p.kind p.body.now) b
    base-room = record { text = here.base; same = here.base-is; room = omega (arith, fits, length-append here.base here.suffixes) }

  pub base-asks : KindRoom t b → BaseRoom p.kind p.body.now b
  base-asks q = record { d = q.d; at = base-room q.d q.at }

  -- the suffixes behind the base
  module _ (b₁ : List ℕ) (n : ℕ) (w : BaseWrote p.kind p.body.now b b₁ n) where
    base-put : (d : ℕ) (q : Room (kind_from d t) b) → Put (here d q).base b b₁ n
    base-put d q = w d (base-room d q) _ (here d q).base-is

    module _ (q : KindRoom t b) where
      pub base-inside : n ≤ length b₁
      base-inside = put-inside _ _ _ _ (base-put q.d q.at) (omega (arith, fits q.d q.at, length-append (here q.d q.at).base (here q.d q.at).suffixes))

      pub suffixes-asks : Room (suffixes_from p.rest.now) (take (length b₁ - n) (drop n b₁))
      suffixes-asks = record { text = (here q.d q.at).suffixes; same = (here q.d q.at).suffixes-is; room = behind-room _ _ _ _ (base-put q.d q.at) _ (fits q.d q.at) }

    module _ (c : List ℕ) (m : ℕ) (z : Wrote (suffixes_from p.rest.now) (take (length b₁ - n) (drop n b₁)) c m) where
      kind-put : (d : ℕ) (q : Room (kind_from d t) b) → Put ((here d q).base ++ (here d q).suffixes) b (put_mid n (length b₁ - n) b₁ c) (n + m)
      kind-put d q = put-both _ _ _ _ (base-put d q) _ c m (z _ (here d q).suffixes-is)

      pub kind-inside : KindRoom t b → n + m ≤ length (put_mid n (length b₁ - n) b₁ c)
      kind-inside q = put-inside _ _ _ _ (kind-put q.d q.at) (fits q.d q.at)

      pub kind-wrote : KindWrote t b (put_mid n (length b₁ - n) b₁ c) (n + m)
      kind-wrote d q = wrote-text (kind_from d t) _ (q.same ∙ ap Some (here d q).whole) b _ (n + m) (kind-put d q)

-- a field: its kind stands behind its name
pub record FieldThere (d : ℕ) (body : List ℕ) (f : Field) : Type 0 where
  pub long : 2 ≤ length body
  pub headed : Headed (drop 2 body)
  pub kind : (n : Piece) → PieceIs (drop 2 body) (Some n) → kind_from d n.rest.now ≡ Some (field_text f)

test-there : {A Q : Type 0} {a : A} (t : Bool) (o : Option A) → elim t as (λ _. Option A) [ true ↦ o | false ↦ None ] ≡ Some a → (t ≡ true → o ≡ Some a → Q) → Q
test-there true o e next = next refl e
test-there {a = a} false o e next = absurd (none-some a e)

kind-behind : (d m : ℕ) (nm : List ℕ) (T : Base → List Suffix → Bool) (q : Taken) (f : Field)
    → on_piece q (λ j base r. given (base_from (tuple_from 4 d) j base) (λ b. given (decode_suffixes 4 r) (λ ss. when (T b ss) (Some (field m nm b ss))))) ≡ Some f
    → on_piece q (λ j base r. given (base_text_from d j base) (λ u. on_option (λ v. u ++ v) (suffixes_from r))) ≡ Some (field_text f)
unfolding base_text_from suffixes_from field_text kind_of
kind-behind d m nm T no_piece f e = absurd (none-some f e)
kind-behind d m nm T (piece j base r) f e =
    given-some (base_from (tuple_from 4 d) j base) _ e (λ b p e₁.
    given-some (decode_suffixes 4 r) _ e₁ (λ ss q e₂.
    when-some (T b ss) _ e₂ (λ _ e₃. rw (p, q) (ap Some (sym (arrays-text (base_kind b) ss) ∙ ap field_text (same_Some _ _ e₃))))))

pub field-there : (sort : Sort) (d k : ℕ) (body : List ℕ) (f : Field) → field_from 4 sort (base_from (tuple_from 4 d)) k body ≡ Some f → FieldThere d body f
unfolding field_from taken kind_from
field-there sort d k body f e =
    when-some (eqb k 0x10) _ e (λ _ e₁.
    test-there (leb 2 (length body)) _ e₁ (λ two e₂.
    record {
      long = leb-true _ _ two;
      headed = read-headed (drop 2 body) _ f e₂;
      kind = λ n i. test-there (eqb n.kind 0x11) _ (rw (← i.same) at e₂) (λ _ e₃. kind-behind d _ _ _ (piece_of 4 n.rest.now) f e₃);
    }))
