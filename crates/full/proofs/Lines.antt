-- Lines written in full.
-- Assumes nothing.
use mathlib.Core.Path.{◌≡◌, refl, ap}
use mathlib.Core.List.{List, ◌++◌}
use Rattle.std.specs.Prelude.{Some}
use Prim.Native.Nat.{ℕ, ◌+◌, ◌-◌, ◌≤◌}
use native.Mathlib.Omega.{arith}
use lib.ListN.{length, length-append}
use borrow.Rule.Slice.PartMut.{put_mid}
use Rattle.kinds.specs.Bytes.{ascii}
use Rattle.kinds.specs.Kind.{Kind, kind_text, list_text, rest_text}
use Rattle.model.specs.Tree.{Base, elementary, tuple, Field, field, Fields, no_field, more_fields, base_kind, kind_of, kinds_of}
use Rattle.model.specs.Full.{bracketed, returns_text}
use Rattle.model.specs.Written.{suffixes_text, mark_text, name_text, written_base, written_field, written_list, written_rest}
use Rattle.record.specs.declared.Measured.{Measured}
use Rattle.abi.specs.Writes.{Put}
use Rattle.full.specs.Parts.{extra_base, extra_field, extra_fields, ExtraFields, FieldsWrote}
use Rattle.full.specs.Lines.{Returned, SomeListed, ListLong, ReturnsRoom, ReturnsWrote}
use Rattle.record.proofs.Equations.{arrays-text}
use Rattle.abi.proofs.Going.{part, Going, going-first, going-room, going-last}

-- A text in full is as much longer than its kinds as mark words and names take.

mutual
  unfolding kind_text list_text rest_text base_kind kind_of kinds_of written_base written_field written_list written_rest extra_base extra_field extra_fields

  base-long : (b : Base) → length (written_base b) ≡ length (kind_text (base_kind b)) + extra_base b
  base-long (elementary e) = omega arith
  base-long (tuple fs) = omega (arith, list-long fs)

  field-long : (f : Field) → length (written_field f) ≡ length (kind_text (kind_of f)) + extra_field f
  field-long (field m nm b ss) =
      let words = mark_text m ++ name_text nm in
      let kind = length-append (kind_text (base_kind b)) (suffixes_text ss) in
      let all = length-append (written_base b) (suffixes_text ss ++ words) in
      let behind = length-append (suffixes_text ss) words in
      omega (arith, base-long b, ap length (arrays-text (base_kind b) ss), kind, all, behind, length-append (mark_text m) (name_text nm))

  list-long : (fs : Fields) → length (written_list fs) ≡ length (list_text (kinds_of fs)) + extra_fields fs
  list-long no_field = omega arith
  list-long (more_fields f fs) =
      let kinds = length-append (kind_text (kind_of f)) (rest_text (kinds_of fs)) in
      omega (arith, field-long f, rest-long fs, length-append (written_field f) (written_rest fs), kinds)

  rest-long : (fs : Fields) → length (written_rest fs) ≡ length (rest_text (kinds_of fs)) + extra_fields fs
  rest-long no_field = omega arith
  rest-long (more_fields f fs) =
      let kinds = length-append (kind_text (kind_of f)) (rest_text (kinds_of fs)) in
      omega (arith, field-long f, rest-long fs, length-append (written_field f) (written_rest fs), kinds)

bracketed-long : (fs : Fields) → length (bracketed fs) ≡ length (kind_text (Kind.tuple (kinds_of fs))) + extra_fields fs
unfolding kind_text
bracketed-long fs = omega (arith, list-long fs)

pub list-is : (l : Measured) → SomeListed l → (r : ℕ) → ExtraFields l.bytes.now r → ListLong l (l.text + r)
list-is l q r x = record { all = λ fs i. omega (arith, i.long, x.all fs i.is, bracketed-long fs); low = omega (arith, q.1.small, x.low, q.1.few) }

returns-some : (fs : Fields) → (fs ≡ no_field → ⊥) → returns_text fs ≡ ascii " returns " ++ bracketed fs
returns-some no_field h = absurd (h refl)
returns-some (more_fields f fs) h = refl

module _ (l : Measured) (out out₁ : List ℕ) (n : ℕ) (w : Put (ascii " returns ") out out₁ n) where
  word-put : (fs : Fields) → Returned (Some l) fs → length (returns_text fs) ≤ length out → Going (returns_text fs) out (bracketed fs) out₁ n
  word-put fs i h = let e = returns-some fs i.1 in rw e (going-first (ascii " returns ") (bracketed fs) out out₁ n (rw e at h) w)

  pub returns-wrote : ReturnsRoom (Some l) out → (s : List ℕ) (m : ℕ) → FieldsWrote l.bytes.now (part out₁ n) s m
      → ReturnsWrote (Some l) out (put_mid n (length out₁ - n) out₁ s) (n + m)
  returns-wrote q s m x =
      let out₂ = put_mid n (length out₁ - n) out₁ s in
      let put : (fs : Fields) → Returned (Some l) fs → length (returns_text fs) ≤ length out → Put (returns_text fs) out out₂ (n + m)
      = λ fs i h. let g = word-put fs i h in going-last _ _ _ _ _ g s m (x.put fs i.0.is (going-room _ _ _ _ _ g)) in
      record { put = put; inside = omega (arith, (put q.fields q.are q.room).long, q.room) }
