-- Laws of bytes put into a buffer.
-- Assumes nothing.
use mathlib.Core.Path.{◌≡◌, refl, sym, ap, ◌∙◌}
use mathlib.Core.List.{List, [], ◌∷◌, ◌++◌, append_assoc}
use Prim.Native.Nat.{ℕ, ◌+◌, ◌-◌, ◌≤◌}
use native.Mathlib.Omega.{arith}
use lib.ListN.{length, take, drop, length-append, length-take, length-drop, take-append-drop}
use lib.Seq.{paste, take_at, drop_at, take-append-le, take-take, length-take-le, drop-drop}
use Rattle.model.specs.Layout.{little_endian, record_of}
use Rattle.layout.specs.Buffer.{put, inserted, head, front_of}
use Rattle.model.proofs.Pieces.{le_length}
use borrow.Rule.Slice.PartMut.{put_mid, Post-is}

-- its length stays
pub length-put : (o : ℕ) (u b : List ℕ) → o + length u ≤ length b → length (put o u b) ≡ length b
unfolding put
length-put o u b h = simp (length-append, length-take, length-drop) (omega arith)

-- bytes that were copied into a part
pub put_part : (o n : ℕ) (b ys u : List ℕ) → ys ≡ u → length u ≡ n → put_mid o (o + n - o) b ys ≡ put o u b
unfolding put
put_part o n b ys u e l = rw (e, Post-is o (o + n) b (omega arith), l)

-- one part behind the other
pub put-put : (o : ℕ) (u v b : List ℕ) → o + length u + length v ≤ length b → put (o + length u) v (put o u b) ≡ put o (u ++ v) b
unfolding put
put-put o u v b h =
    let p : List ℕ = take o b ++ u in
    let l : length p ≡ o + length u = rw (length-append, length-take-le o b (omega arith)) in
    let e : put o u b ≡ p ++ drop (o + length u) b = sym (append_assoc (take o b) u (drop (o + length u) b)) in
    let x : take (o + length u) (put o u b) ≡ p = rw e (take_at p (drop (o + length u) b) (o + length u) l) in
    let y : drop (o + length u + length v) (put o u b) ≡ drop (o + length u + length v) b
    = sym (drop-drop (length v) (o + length u) (put o u b)) ∙ rw (e, drop_at p (drop (o + length u) b) (o + length u) l) (drop-drop (length v) (o + length u) b) in
    let z : o + length (u ++ v) ≡ o + length u + length v = omega (arith, length-append u v) in
    rw (x, y, z, append_assoc, append_assoc)

-- the same where the second part is put in at a place that is known to be behind the first
pub put_then : (o p : ℕ) (u v b b₁ b₂ : List ℕ) → b₁ ≡ put o u b → b₂ ≡ put p v b₁ → p ≡ o + length u → o + length u + length v ≤ length b → b₂ ≡ put o (u ++ v) b
put_then o p u v b b₁ b₂ e f q h = f ∙ rw (q, e) (put-put o u v b h)

pub length-head : (n k : ℕ) → length (head n k) ≡ 6
unfolding head little_endian
length-head n k = refl

pub length_two : (v : ℕ) → length (little_endian 2 v) ≡ 2
unfolding little_endian
length_two v = refl

pub length_front : (mark m l : ℕ) → length (front_of mark m l) ≡ 14
unfolding front_of head little_endian
length_front mark m l = refl

pub header_puts : (o n k : ℕ) (b b₁ b₂ : List ℕ) → o + 6 ≤ length b → b₁ ≡ put o (little_endian 4 n) b → b₂ ≡ put (o + 4) (little_endian 2 k) b₁ → b₂ ≡ put o (head n k) b
unfolding head
header_puts o n k b b₁ b₂ h e f = put_then o (o + 4) (little_endian 4 n) (little_endian 2 k) b b₁ b₂ e f (rw le_length) (simp le_length (omega arith))

pub front-puts : (o mark m l : ℕ) (b b₁ b₂ b₃ : List ℕ) → o + 14 ≤ length b → b₁ ≡ put o (head (14 + m + l) 16) b → b₂ ≡ put (o + 6) (little_endian 2 mark) b₁
    → b₃ ≡ put (o + 8) (head (6 + m) 17) b₂ → b₃ ≡ put o (front_of mark m l) b
unfolding front_of
front-puts o mark m l b b₁ b₂ b₃ h e f g =
    let x = length-head (14 + m + l) 16 in
    let y = length_two mark in
    let z = length-head (6 + m) 17 in
    let u = put_then o (o + 6) (head (14 + m + l) 16) (little_endian 2 mark) b b₁ b₂ e f (omega arith) (omega arith) in
    put_then o (o + 8) (head (14 + m + l) 16 ++ little_endian 2 mark) (head (6 + m) 17) b b₂ b₃ u g (omega (arith, length-append (head (14 + m + l) 16) (little_endian 2 mark))) (omega (arith, length-append (head (14 + m + l) 16) (little_endian 2 mark)))
    ∙ rw append_assoc

-- a head and what stands behind it is a record
pub headed : (k n : ℕ) (body : List ℕ) → n ≡ 6 + length body → head n k ++ body ≡ record_of 4 k body
unfolding head record_of
headed k n body e = rw (e, append_assoc)

-- a field's record is its front, its name and its kind
pub field_record : (mark : ℕ) (nm u : List ℕ) → record_of 4 0x10 (little_endian 2 mark ++ (record_of 4 0x11 nm ++ u)) ≡ front_of mark (length nm) (length u) ++ (nm ++ u)
unfolding front_of
field_record mark nm u =
    let n : List ℕ = head (6 + length nm) 0x11 in
    let e : record_of 4 0x11 nm ≡ n ++ nm = sym (headed 0x11 (6 + length nm) nm refl) in
    let l : 14 + length nm + length u ≡ 6 + length (little_endian 2 mark ++ ((n ++ nm) ++ u))
    = omega (arith, length-append (little_endian 2 mark) ((n ++ nm) ++ u), length_two mark, length-append (n ++ nm) u, length-append n nm, length-head (6 + length nm) 0x11) in
    rw e (sym (headed 0x10 (14 + length nm + length u) (little_endian 2 mark ++ ((n ++ nm) ++ u)) l) ∙ simp append_assoc)

moved_length : (b : List ℕ) (at end n : ℕ) → at ≤ end → end + n ≤ length b → length (take (end - at) (drop at b)) ≡ end - at
moved_length b at end n h k = length-take-le (end - at) (drop at b) (rw length-drop (omega arith))

-- an insertion: bytes are moved, and others put in their place
pub insert_end : (b₀ b₁ b₂ : List ℕ) (at end : ℕ) (u : List ℕ) → at ≤ end → end + length u ≤ length b₀
    → b₁ ≡ paste b₀ (at + length u) (drop at b₀) (end - at) → b₂ ≡ put at u b₁ → b₂ ≡ inserted at end u b₀
unfolding put inserted
insert_end b₀ b₁ b₂ at end u h k e f =
    let X : List ℕ = take (end - at) (drop at b₀) in
    let R : List ℕ = X ++ drop (at + length u + (end - at)) b₀ in
    let l : length (take (at + length u) b₀) ≡ at + length u = length-take-le (at + length u) b₀ (omega arith) in
    let q : b₁ ≡ take (at + length u) b₀ ++ R = e ∙ append_assoc (take (at + length u) b₀) X (drop (at + length u + (end - at)) b₀) in
    let x : take at b₁ ≡ take at b₀ = ap (take at) q ∙ take-append-le at (take (at + length u) b₀) R (rw l (omega arith)) ∙ take-take at (at + length u) b₀ (omega arith) in
    let y : drop (at + length u) b₁ ≡ R = ap (drop (at + length u)) q ∙ drop_at (take (at + length u) b₀) R (at + length u) l in
    let z : at + length (u ++ X) ≡ at + length u + (end - at) = omega (arith, length-append u X, moved_length b₀ at end (length u) h k) in
    f ∙ rw (x, y, z, append_assoc)

-- nothing to put in
pub insert_none : (b : List ℕ) (at end : ℕ) (u : List ℕ) → at ≤ end → end + length u ≤ length b → length u ≡ 0 → b ≡ inserted at end u b
unfolding inserted put
insert_none b at end [] h k e =
    let X : List ℕ = take (end - at) (drop at b) in
    let z : at + length X ≡ end = omega (arith, moved_length b at end 0 h k) in
    let y : at + (end - at) ≡ end = omega arith in
    let g : drop (end - at) (drop at b) ≡ drop end b = drop-drop (end - at) at b ∙ ap (λ (n : ℕ). drop n b) y in
    let f : X ++ drop end b ≡ drop at b = ap (λ (r : List ℕ). X ++ r) (sym g) ∙ take-append-drop (end - at) (drop at b) in
    rw (z, f) (sym (take-append-drop at b))
insert_none b at end (x ∷ u) h k e = absurd (omega arith)

pub ruleset puts = (header_puts, front-puts, insert_none, insert_end)
