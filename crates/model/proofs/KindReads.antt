-- The kind call on the kind text of a field: it reads the same kind.
-- Assumes nothing.
use mathlib.Core.Path.{◌≡◌, refl}
use mathlib.Core.Bool.{true, false≢true}
use mathlib.Core.List.{List}
use Rattle.std.specs.Prelude.{Some}
use Prim.Native.Nat.{ℕ, zero, suc, ◌≤◌}
use native.Mathlib.Omega.{arith}
use lib.ListN.{length}
use Rattle.kinds.specs.Kind.{Kind, Kinds, no_kind, more_kinds, kind_text}
use Rattle.kinds.proofs.Logic.{both, left, right}
use Rattle.model.specs.declared.Sort.{Sort}
use Rattle.model.specs.declared.Sort.TheVariants.{Plain}
use Rattle.model.specs.Tree.{Field, kind_of, field_of}
use Rattle.model.specs.Parser.{got}
use Rattle.model.specs.Reading.{deepest, longest_text, admit}
use Rattle.model.specs.Layout.{Bytes}
use Rattle.model.specs.Record.{encode_field, is_field, well_formed_field, decode_lone}
use Rattle.model.specs.Line.{field_text}
use Rattle.model.specs.Answer.{writes}
use Rattle.model.specs.Calls.{written, read_kind, kind_output, kind_text_output, SameKind}
use Rattle.model.specs.Written.{fits, all_fit}
use Rattle.model.proofs.Records.{decode-lone-exactly, encode-field-bytes}
use Rattle.model.proofs.Sound.{field-is-kind, kind-well-formed}
use Rattle.model.proofs.Spelling.{kind-field, kind-itself, kind-call_admits}
use Rattle.model.proofs.Lines.{field_fits}

-- what keeps to a limit of nesting keeps to a higher one
mutual
  unfolding fits

  fits-deeper : (k : Kind) (d e : ℕ) → d ≤ e → fits d k ≡ true → fits e k ≡ true
  fits-deeper (Kind.elementary x) d e h f = refl
  fits-deeper (Kind.tuple ks) zero e h f = absurd (false≢true f)
  fits-deeper (Kind.tuple ks) (suc d) zero h f = absurd (omega arith)
  fits-deeper (Kind.tuple ks) (suc d) (suc e) h f = all_fit_deeper ks d e (omega arith) f
  fits-deeper (Kind.array k s) d e h f = both (fits-deeper k d e h (left _ f)) (right (fits d k) f)

  all_fit_deeper : (ks : Kinds) (d e : ℕ) → d ≤ e → all_fit d ks ≡ true → all_fit e ks ≡ true
  all_fit_deeper no_kind d e h f = refl
  all_fit_deeper (more_kinds k ks) d e h f = both (fits-deeper k d e h (left _ f)) (all_fit_deeper ks d e h (right (fits d k) f))

-- "Every field's kind text of at most 4,096 bytes must then read as the same kind.": of a list of any sort, at any depth
pub kind-reads : (f : Field) (sort : Sort) (d : ℕ) → d ≤ deepest → is_field sort d f ≡ true → length (field_text f) ≤ longest_text → admit read_kind (field_text f) ≡ got (field_of (kind_of f)) 0
unfolding field_text
kind-reads f sort d n h = kind-call_admits (kind_of f) (kind_text (kind_of f)) (kind-itself (kind_of f)) (field-is-kind f sort d h) (fits-deeper (kind_of f) d deepest n (field_fits f sort d h))

-- and of a record of a field
pub kind-back : (b : List ℕ) (f : Field) → Bytes b → decode_lone b ≡ Some f → length (field_text f) ≤ longest_text → (c : List ℕ) × (kind_output (field_text f) ≡ writes c) × SameKind f c
unfolding kind_output written kind_text_output field_text well_formed_field
kind-back b f y e h =
    let w : well_formed_field f ≡ true = ((decode-lone-exactly b f y).0 e).0 in
    let r = kind-reads f Plain deepest (omega arith) (left _ w) h in
    let g : Field = field_of (kind_of f) in
    let v : well_formed_field g ≡ true = kind-well-formed (field_text f) g 0 r in
    let q : decode_lone (encode_field 4 g) ≡ Some g = (decode-lone-exactly (encode_field 4 g) g (encode-field-bytes g v)).1 (v, refl) in
    (encode_field 4 g, rw r, record { tree = g; says = q; bare = refl; same = kind-field (kind_of f); text = rw (q, kind-field (kind_of f)) })
