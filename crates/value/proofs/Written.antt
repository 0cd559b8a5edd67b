-- Records of kinds, written.
-- Assumes nothing.
use Rattle.std.proofs.Common.{◌≡◌, refl, sym, ◌∙◌, ap, List, [], append-nil, ℕ, ◌+◌, ◌≤◌, arith, length, Option, None, Some}
use Rattle.model.specs.Layout.{little_endian, record_of}
use Rattle.model.proofs.Bounds.{record_size}
use Rattle.layout.specs.Buffer.{put, head}
use Rattle.layout.proofs.Puts.{put_then, length-head, length-put, headed}
use Rattle.value.specs.Elementary.{number_bytes}

-- a record by its head and its body
pub record-puts : (o n k : ℕ) (u b b₁ b₂ : List ℕ) → n ≡ 6 + length u → o + n ≤ length b → b₁ ≡ put o (head n k) b → b₂ ≡ put (o + 6) u b₁ → b₂ ≡ put o (record_of 4 k u) b
record-puts o n k u b b₁ b₂ l h e f =
    let x = length-head n k in
    put_then o (o + 6) (head n k) u b b₁ b₂ e f (omega arith) (omega arith) ∙ ap (λ (v : List ℕ). put o v b) (headed k n u l)

pub head-puts : (o k : ℕ) (b b₁ : List ℕ) → b₁ ≡ put o (head 6 k) b → b₁ ≡ put o (record_of 4 k []) b
head-puts o k b b₁ e = e ∙ ap (λ (v : List ℕ). put o v b) (sym (append-nil (head 6 k)) ∙ headed k 6 [] refl)

pub length-headed : (o n k : ℕ) (b b₁ : List ℕ) → o + n ≤ length b → 6 ≤ n → b₁ ≡ put o (head n k) b → length b₁ ≡ length b
length-headed o n k b b₁ h l e = ap length e ∙ length-put o (head n k) b (omega (arith, length-head n k))

-- the record e of a base by its parts
module _ (e : List ℕ) (k : ℕ) (n : Option ℕ) (is : e ≡ record_of 4 k (number_bytes n)) where
  pub length-numbered : (m : ℕ) → n ≡ Some m → length e ≡ 8
  unfolding number_bytes little_endian
  length-numbered m f = ap length is ∙ rw f (record_size k (little_endian 2 m))

  pub length-bare : n ≡ None → length e ≡ 6
  unfolding number_bytes
  length-bare f = ap length is ∙ rw f (record_size k [])

  pub puts-numbered : (m o : ℕ) (b b₁ b₂ : List ℕ) → n ≡ Some m → o + length e ≤ length b → b₁ ≡ put o (head 8 k) b → b₂ ≡ put (o + 6) (little_endian 2 m) b₁ → b₂ ≡ put o e b
  unfolding number_bytes little_endian
  puts-numbered m o b b₁ b₂ f h g i =
      let z = length-numbered m f in
      record-puts o 8 k (little_endian 2 m) b b₁ b₂ refl (omega arith) g i ∙ rw (is, f)

  pub puts-bare : (o : ℕ) (b b₁ : List ℕ) → n ≡ None → b₁ ≡ put o (head 6 k) b → b₁ ≡ put o e b
  unfolding number_bytes
  puts-bare o b b₁ f g = head-puts o k b b₁ g ∙ rw (is, f)
