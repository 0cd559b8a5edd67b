-- The texts of suffixes, bases, kinds and fields, by the records that they are read from.
-- Assumes nothing.
use mathlib.Core.Path.{◌≡◌, refl, sym, ◌∙◌, ap}
use mathlib.Core.Bool.{Bool, true, false, ◌&&◌}
use mathlib.Core.List.{List, [], ◌∷◌, ◌++◌, append-nil, append_assoc}
use Rattle.std.specs.Prelude.{Option, None, Some}
use Rattle.std.proofs.lemmas.Option.{none-some, same_Some}
use Prim.Native.Nat.{ℕ, zero, suc, ◌+◌, ◌-◌, ◌≤◌, ◌<◌}
use native.Mathlib.Omega.{arith}
use native.Mathlib.Numerals.{sub-one}
use lib.Dec.{eqb}
use lib.ListN.{length, take, drop, length-append}
use borrow.Author.Tests.{le-leb, lt-leb, ne_eqb}
use Rattle.kinds.specs.Bytes.{comma, rparen}
use Rattle.kinds.specs.Kind.{bits, octets, Elementary, int, uint, fixed_bytes, address, bool, bytes, string, Suffix, Kind, elementary, tuple, array, elementary_text, suffix_text, kind_text, rest_text}
use Rattle.model.specs.declared.Sort.{Sort}
use Rattle.model.specs.declared.Sort.TheVariants.{Plain}
use Rattle.model.specs.Tree.{Base, Field, field, Fields, no_field, more_fields, arrays, base_kind, kind_of, kinds_of}
use Rattle.model.specs.Layout.{le_value, Piece, piece, no_piece, piece_of}
use Rattle.model.specs.Record.{is_field_name, is_mark, given, on_option, when, on_piece, of_kind, fronted, decode_elementary, decode_suffix, base_from, each_in, decode_suffixes, field_from, tuple_from}
use Rattle.model.specs.Line.{field_text}
use Rattle.model.specs.Written.{suffixes_text}
use Rattle.model.specs.Reading.{marks_by, marks}
use Rattle.model.proofs.Decoding.{mapped_end, mapped_step}
use Rattle.record.proofs.Located.{located_same}
use Rattle.record.specs.Texts.{size, located_from, is_mark_at, elementary_from, suffix_from, suffixes_from, base_text_from, kind_from, field_text_from, fields_from, tuple_text_from}
use Rattle.record.proofs.Loops.{Steps}

-- no text of a kind or of a suffix is empty
elementary-full : (e : Elementary) → 0 < length (elementary_text e)
unfolding elementary_text
elementary-full (int (bits n)) = omega arith
elementary-full (uint (bits n)) = omega arith
elementary-full (fixed_bytes (octets n)) = omega arith
elementary-full address = omega arith
elementary-full bool = omega arith
elementary-full Elementary.function = omega arith
elementary-full bytes = omega arith
elementary-full string = omega arith

pub kind-full : (k : Kind) → 0 < length (kind_text k)
unfolding kind_text
kind-full (elementary e) = elementary-full e
kind-full (tuple ks) = omega arith
kind-full (array k s) = omega (arith, length-append (kind_text k) (suffix_text s), kind-full k)

-- suffixes, at most k
unfoldable pub suffixes_in : ℕ → List ℕ → Option (List ℕ)
suffixes_in k b = on_option suffixes_text (each_in 4 [] ◌∷◌ decode_suffix k b)

pub suffixes_in_lem : (b : List ℕ) → suffixes_from b ≡ suffixes_in (length b) b
unfolding suffixes_from suffixes_in decode_suffixes
suffixes_in_lem b = refl

pub suffix_steps : Steps suffixes_in suffix_from ◌++◌ [] 0
unfolding suffixes_in suffix_from suffixes_text
suffix_steps = record {
  end = mapped_end 4 [] ◌∷◌ decode_suffix suffix_text suffixes_text ◌++◌ (λ s ss. refl);
  step = mapped_step 4 [] ◌∷◌ decode_suffix suffix_text suffixes_text ◌++◌ (λ s ss. refl);
  long = λ u v. omega (arith, length-append u v);
}

-- fields, at most k, each with a `,` before it
unfoldable pub fields_in : Sort → ℕ → ℕ → List ℕ → Option (List ℕ)
fields_in sort d k b = on_option (λ fs. rest_text (kinds_of fs)) (each_in 4 no_field more_fields (field_from 4 sort (base_from (tuple_from 4 d))) k b)

abbrev pub parted : List ℕ → List ℕ → List ℕ
parted u v = comma ∷ (u ++ v)

pub field_steps : (sort : Sort) (d : ℕ) → Steps (fields_in sort d) (field_text_from sort d) parted (rparen ∷ []) 1
unfolding fields_in field_text_from field_text kinds_of rest_text
field_steps sort d = let D = field_from 4 sort (base_from (tuple_from 4 d)) in record {
  end = mapped_end 4 no_field more_fields D field_text (λ fs. rest_text (kinds_of fs)) parted (λ f fs. refl);
  step = mapped_step 4 no_field more_fields D field_text (λ fs. rest_text (kinds_of fs)) parted (λ f fs. refl);
  long = λ u v. omega (arith, length-append u v);
}

-- the text in brackets is as long, where there is a field
module _ (sort : Sort) (d : ℕ) (b : List ℕ) where
  pub tuple-size : (n m : ℕ) → Some (n + 1) ≡ size (fields_in sort d (length b) b) → (n ≡ 0 → m ≡ 1) → (0 < n → m ≡ n) → Some (1 + m) ≡ size (tuple_text_from sort d b)
  unfolding fields_in tuple_text_from fields_from kinds_of rest_text kind_text
  tuple-size n m e x y = go (fields_from sort d b) e
    where
      go : (o : Option Fields) → Some (n + 1) ≡ size (on_option (λ fs. rest_text (kinds_of fs)) o) → Some (1 + m) ≡ size (on_option (λ fs. kind_text (tuple (kinds_of fs))) o)
      go None q = absurd (none-some _ (sym q))
      go (Some no_field) q = ap Some (omega (arith, same_Some _ _ q, x (omega (arith, same_Some _ _ q))))
      go (Some (more_fields f fs)) q =
          let long = length-append (kind_text (kind_of f)) (rest_text (kinds_of fs)) in
          let z : n + 1 ≡ suc (length (kind_text (kind_of f) ++ rest_text (kinds_of fs))) = same_Some _ _ q in
          ap Some (omega (arith, z, long, kind-full (kind_of f), y (omega (arith, z, long, kind-full (kind_of f)))))

  pub tuple-none : None ≡ size (fields_in sort d (length b) b) → None ≡ size (tuple_text_from sort d b)
  unfolding fields_in tuple_text_from fields_from
  tuple-none e = go (fields_from sort d b) e
    where
      go : (o : Option Fields) → None ≡ size (on_option (λ fs. rest_text (kinds_of fs)) o) → None ≡ size (on_option (λ fs. kind_text (tuple (kinds_of fs))) o)
      go None q = refl
      go (Some fs) q = absurd (none-some _ q)

-- a base: a tuple, or an elementary kind
module _ (d k : ℕ) (body : List ℕ) where
  pub base-deep : k ≡ 9 → d ≡ 0 → base_text_from d k body ≡ None
  unfolding base_text_from base_from tuple_from
  base-deep e z = rw (e, z)

  pub base-tuple : k ≡ 9 → (d ≡ 0 → ⊥) → base_text_from d k body ≡ tuple_text_from Plain (d - 1) body
  unfolding base_text_from base_from tuple_from tuple_text_from fields_from base_kind
  base-tuple e z = rw e (go d z)
    where
      go : (d : ℕ) → (d ≡ 0 → ⊥) → base_text_from d 9 body ≡ tuple_text_from Plain (d - 1) body
      go zero z = absurd (z refl)
      go (suc d) z = rw sub-one (inner (fields_from Plain d body))
        where
          inner : (o : Option Fields) → on_option (λ b. kind_text (base_kind b)) (on_option Base.tuple o) ≡ on_option (λ fs. kind_text (tuple (kinds_of fs))) o
          inner None = refl
          inner (Some fs) = refl

  pub base-elementary : (k ≡ 9 → ⊥) → base_text_from d k body ≡ elementary_from k body
  unfolding base_text_from base_from elementary_from base_kind kind_text
  base-elementary z = rw (base_text_from, base_from, ne_eqb k 9 z) (inner (decode_elementary k body))
    where
      inner : (o : Option Elementary) → on_option (λ b. kind_text (base_kind b)) (on_option Base.elementary o) ≡ on_option elementary_text o
      inner None = refl
      inner (Some e) = refl

-- suffixes behind a kind
pub arrays-text : (k : Kind) (ss : List Suffix) → kind_text (arrays k ss) ≡ kind_text k ++ suffixes_text ss
unfolding arrays suffixes_text kind_text
arrays-text k [] = sym (append-nil (kind_text k))
arrays-text k (s ∷ ss) = arrays-text (array k s) ss ∙ append_assoc (kind_text k) (suffix_text s) (suffixes_text ss)

-- a field: its mark, its name, and then its kind
when-none : {A : Type 0} (t : Bool) → None ≡ when {A = A} t None
when-none true = refl
when-none false = refl

module _ (m : ℕ) (nm : List ℕ) (t : Bool) where
  suffixed : (b : Base) (o : Option (List Suffix)) → on_option field_text (given o (λ ss. when t (Some (field m nm b ss)))) ≡ when t (on_option (λ v. kind_text (base_kind b) ++ v) (on_option suffixes_text o))
  unfolding field_text kind_of
  suffixed b None = when-none t
  suffixed b (Some ss) = go t
    where
      go : (t : Bool) → on_option field_text (when t (Some (field m nm b ss))) ≡ when t (Some (kind_text (base_kind b) ++ suffixes_text ss))
      go true = ap Some (arrays-text (base_kind b) ss)
      go false = refl

  module _ (d : ℕ) where
    based : (o : Option Base) (r : List ℕ) → on_option field_text (given o (λ b. given (decode_suffixes 4 r) (λ ss. when t (Some (field m nm b ss)))))
        ≡ when t (given (on_option (λ b. kind_text (base_kind b)) o) (λ u. on_option (λ v. u ++ v) (suffixes_from r)))
    unfolding suffixes_from
    based None r = when-none t
    based (Some b) r = suffixed b (decode_suffixes 4 r)

    pub kinded : (p : Piece) → on_option field_text (on_piece p (λ j base r. given (base_from (tuple_from 4 d) j base) (λ b. given (decode_suffixes 4 r) (λ ss. when t (Some (field m nm b ss))))))
        ≡ when t (on_piece p (λ j base r. given (base_text_from d j base) (λ u. on_option (λ v. u ++ v) (suffixes_from r))))
    unfolding base_text_from
    kinded no_piece = when-none t
    kinded (piece j base r) = based (base_from (tuple_from 4 d) j base) r

module _ (sort : Sort) (d : ℕ) where
  abbrev pub named_by : ℕ → List ℕ → Option (List ℕ)
  named_by m r = of_kind 0x11 (piece_of 4 r) (λ nm r₁. when (is_mark_at sort r₁ m nm && is_field_name nm) (kind_from d r₁))

  named : (m : ℕ) (p : Piece) → on_option field_text (of_kind 0x11 p (λ nm r₁.
      on_piece (piece_of 4 r₁) (λ j base r₂.
      given (base_from (tuple_from 4 d) j base) (λ b. given (decode_suffixes 4 r₂) (λ ss. when (is_mark (marks sort (record { base = b; suffixes = ss })) m nm && is_field_name nm) (Some (field m nm b ss)))))))
      ≡ of_kind 0x11 p (λ nm r₁. when (is_mark_at sort r₁ m nm && is_field_name nm) (kind_from d r₁))
  unfolding kind_from located_from marks
  named m no_piece = refl
  named m (piece j nm r) = go (eqb j 0x11)
    where
      go : (t : Bool) → on_option field_text (elim t as (λ _. Option Field) [
        | true ↦ on_piece (piece_of 4 r) (λ j base r₂. given (base_from (tuple_from 4 d) j base) (λ b. given (decode_suffixes 4 r₂) (λ ss. when (is_mark (marks sort (record { base = b; suffixes = ss })) m nm && is_field_name nm) (Some (field m nm b ss)))))
        | false ↦ None
      ])
          ≡ elim t as (λ _. Option (List ℕ)) [ true ↦ when (is_mark_at sort r m nm && is_field_name nm) (kind_from d r) | false ↦ None ]
      go true = ap (on_option field_text) (located_same (tuple_from 4 d) (λ l. is_mark (marks_by sort l) m nm && is_field_name nm) m nm (piece_of 4 r)) ∙ kinded m nm (is_mark_at sort r m nm && is_field_name nm) d (piece_of 4 r)
      go false = refl

  pub field-short : (body : List ℕ) → length body < 2 → field_text_from sort d 0x10 body ≡ None
  unfolding field_text_from field_from
  field-short body h = rw (field_text_from, field_from, fronted, lt-leb 2 (length body) h)

  pub field-named : (body : List ℕ) → 2 ≤ length body → field_text_from sort d 0x10 body ≡ named_by (le_value (take 2 body)) (drop 2 body)
  unfolding field_text_from field_from
  field-named body h = rw (field_text_from, field_from, fronted, le-leb 2 (length body) h) (named (le_value (take 2 body)) (piece_of 4 (drop 2 body)))

  pub field-other : (k : ℕ) (body : List ℕ) → (k ≡ 0x10 → ⊥) → field_text_from sort d k body ≡ None
  unfolding field_text_from field_from
  field-other k body h = rw (field_text_from, field_from, ne_eqb k 0x10 h)
