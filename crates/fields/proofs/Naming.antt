-- A name put in before the record of a tuple.
-- Assumes nothing.
use Rattle.std.proofs.Common.{◌≡◌, refl, sym, ◌∙◌, ap, ℕ, ◌+◌, true, List, ◌++◌, length, length-append, arith}
use Rattle.model.specs.declared.Mark.{Mark}
use Rattle.model.specs.declared.Sort.{Sort}
use Rattle.model.specs.Mark.{mark_number}
use Rattle.model.specs.Tree.{field}
use Rattle.model.specs.Parser.{got, on_ans}
use Rattle.model.specs.Reading.{FieldKind, can_specify_location}
use Rattle.model.specs.Record.{encode_base, encode_suffixes, encode_name, encode_field}
use Rattle.layout.specs.Buffer.{put, inserted, front_of}
use Rattle.layout.proofs.Puts.{field_record, length_front}
use Rattle.fields.specs.Words.{NamedIs}
use Rattle.fields.specs.Scratch.{read_to, to_read, bytes_of, behind_kind, kind_bytes, NamedRoom, NamedPut}
use Rattle.fields.proofs.Begins.{begins-under, begins-insert}
use Rattle.fields.proofs.LeafFields.{behind-got}

-- the record of a field, from its kind's bytes
field-bytes : (m : ℕ) (nm : List ℕ) (k : FieldKind) → encode_field 4 (field m nm k.base k.suffixes) ≡ front_of m (length nm) (length (kind_bytes k)) ++ (nm ++ kind_bytes k)
unfolding encode_field encode_name kind_bytes
field-bytes m nm k = field_record m nm (encode_base 4 k.base ++ encode_suffixes 4 k.suffixes)

module _ (s : List ℕ) (at : ℕ) (sort : Sort) (len : ℕ) (b : List ℕ) (h : NamedRoom s at len b) (m : Mark) (nm : List ℕ) (n : ℕ) (v : NamedIs s at sort true m nm n)
    (b₁ b₂ : List ℕ) (x : ℕ) (e : x ≡ mark_number m) (f : b₁ ≡ inserted 14 (14 + len) nm b) (g : b₂ ≡ put 0 (front_of x (length nm) len) b₁) where
  module _ (k : FieldKind) (q : can_specify_location k.base k.suffixes ≡ true) (l : length (kind_bytes k) ≡ len) where
    answer : on_ans (encode_field 4) (behind_kind sort k s at) ≡ got (front_of (mark_number m) (length nm) len ++ (nm ++ kind_bytes k)) n
    unfolding on_ans
    answer = rw (behind-got s at sort true m nm n k v (sym q)) (ap (λ (u : List ℕ). got u n) (field-bytes (mark_number m) nm k ∙ rw l))

    named-length : length (front_of (mark_number m) (length nm) len ++ (nm ++ kind_bytes k)) ≡ 14 + length nm + len
    named-length = omega (arith, length-append (front_of (mark_number m) (length nm) len) (nm ++ kind_bytes k), length-append nm (kind_bytes k), length_front (mark_number m) (length nm) len, l)

  pub named_put : NamedPut s at sort len b b₂ (record { next = n; len = 14 + length nm + len })
  unfolding to_read bytes_of
  named_put = record {
    name = length nm;
    size = refl;
    inside = v.inside;
    low = v.low;
    same = λ k q l. rw (answer k q l) (ap (read_to n) (sym (named-length k q l)));
    wrote = λ k q l w. rw (answer k q l) (begins-under (front_of (mark_number m) (length nm) len) (nm ++ kind_bytes k) b₁ b₂ 14
        (begins-insert nm (kind_bytes k) b b₁ 14 (14 + len) (omega (arith, h.room)) w (omega arith) f) (sym (length_front (mark_number m) (length nm) len)) (rw e at g));
  }
