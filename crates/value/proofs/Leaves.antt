-- Fields of elementary kinds, written.
-- Assumes nothing.
use Rattle.std.proofs.Common.{◌≡◌, ◌∙◌, ap, List, ◌++◌, append_assoc, ℕ, ◌+◌, arith, length, length-append}
use Rattle.model.specs.Layout.{little_endian, record_of}
use Rattle.model.specs.Record.{encode_elementary, encode_suffixes, encode_name, encode_field, encode_base}
use Rattle.layout.specs.Buffer.{put, front_of}
use Rattle.layout.proofs.Puts.{put_then, length_front, field_record}
use Rattle.value.specs.declared.Run.{Run}
use Rattle.value.specs.Elementary.{to_elementary}
use Rattle.value.specs.Run.{SuffixesPut, LeafAt, LeafPut}
use Rattle.value.proofs.Suffixing.{suffixed_unique}

-- front, name, base and suffixes, each behind the one before, are the record of a field
module _ (r : Run) (mark : ℕ) (nm b : List ℕ) (a : LeafAt r nm b) where
  pub leaf-puts : (n : ℕ) (b₁ b₂ b₃ b₄ : List ℕ) → n ≡ length (encode_elementary 4 (to_elementary r.base)) → b₁ ≡ put 0 (front_of mark (length nm) (n + r.len)) b
      → b₂ ≡ put 14 nm b₁ → b₃ ≡ put (14 + length nm) (encode_elementary 4 (to_elementary r.base)) b₂ → SuffixesPut r.suffixes.now (14 + length nm + n) b₃ b₄ → LeafPut r mark nm b b₄
  unfolding encode_field encode_name encode_base
  leaf-puts n b₁ b₂ b₃ b₄ l e f g h ss i =
      let E : List ℕ = encode_elementary 4 (to_elementary r.base) in
      let S : List ℕ = encode_suffixes 4 ss in
      let F : List ℕ = front_of mark (length nm) (n + r.len) in
      let z : r.len ≡ length S = a.size ∙ ap (λ l. length (encode_suffixes 4 l)) (suffixed_unique a.suffixes ss r.suffixes.now a.suffixed i) in
      let x = length_front mark (length nm) (n + r.len) in
      let p₁ = put_then 0 14 F nm b b₁ b₂ e f (omega arith) (omega (arith, a.room)) in
      let y₁ = length-append F nm in
      let p₂ = put_then 0 (14 + length nm) (F ++ nm) E b b₂ b₃ p₁ g (omega arith) (omega (arith, a.room)) in
      let y₂ = length-append (F ++ nm) E in
      let p₃ = put_then 0 (14 + length nm + n) ((F ++ nm) ++ E) S b b₃ b₄ p₂ (h ss i) (omega arith) (omega (arith, a.room)) in
      let q : length (E ++ S) ≡ n + r.len = omega (arith, length-append E S) in
      let v : record_of 4 0x10 (little_endian 2 mark ++ (record_of 4 0x11 nm ++ (E ++ S))) ≡ ((F ++ nm) ++ E) ++ S = field_record mark nm (E ++ S) ∙ rw (q, append_assoc, append_assoc) in
      p₃ ∙ rw v
