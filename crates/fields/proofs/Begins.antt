-- What a buffer begins with, after it was written to.
-- Assumes nothing.
use Rattle.std.proofs.Common.{◌≡◌, sym, ◌∙◌, ap, ℕ, ◌+◌, ◌-◌, ◌≤◌, List, ◌++◌, append_assoc, length, take, drop, arith}
use Rattle.std.proofs.Math.Seq.{take-append_seam, drop-append_seam}
use Rattle.std.proofs.lemmas.List.{take-append-drop, length-take-le}
use borrow.Rule.Slice.PartMut.{put_mid, post_of}
use Rattle.layout.specs.Buffer.{put, inserted}
use Rattle.fields.specs.Scratch.{Begins}

begins-is : (u r b : List ℕ) → b ≡ u ++ r → Begins b u
begins-is u r b e = rw e (take-append_seam u r)

rest : (u b : List ℕ) → Begins b u → b ≡ u ++ drop (length u) b
rest u b h = sym (take-append-drop (length u) b) ∙ ap (λ (x : List ℕ). x ++ drop (length u) b) h

-- bytes v are put behind those that it begins with
pub begins-put : (u v b b₁ : List ℕ) (m : ℕ) → Begins b u → m ≡ length u → b₁ ≡ put m v b → Begins b₁ (u ++ v)
unfolding put
begins-put u v b b₁ m h e f =
    let w : take m b ≡ u = rw e h in
    begins-is (u ++ v) (drop (m + length v) b) b₁ (f ∙ ap (λ (x : List ℕ). x ++ (v ++ drop (m + length v) b)) w ∙ sym (append_assoc u v (drop (m + length v) b)))

-- a part of it, k bytes from m on, now begins with v
module _ (v b d : List ℕ) (m k : ℕ) (h : Begins d v) where
  part : put_mid m k b d ≡ take m b ++ (v ++ (drop (length v) d ++ post_of m k b))
  part = ap (λ (x : List ℕ). take m b ++ (x ++ post_of m k b)) (rest v d h) ∙ ap (take m b ++◌) (append_assoc v (drop (length v) d) (post_of m k b))

  pub begins-mid : m ≤ length b → Begins (drop m (put_mid m k b d)) v
  begins-mid l =
      let e : length (take m b) ≡ m = length-take-le m b l in
      begins-is v (drop (length v) d ++ post_of m k b) (drop m (put_mid m k b d)) (ap (drop m) part ∙ rw e at (drop-append_seam (take m b) (v ++ (drop (length v) d ++ post_of m k b))))

  pub begins-part : (u : List ℕ) → Begins b u → m ≡ length u → Begins (put_mid m k b d) (u ++ v)
  begins-part u g e =
      let w : take m b ≡ u = rw e g in
      begins-is (u ++ v) (drop (length v) d ++ post_of m k b) (put_mid m k b d) (part ∙ rw w (sym (append_assoc u v (drop (length v) d ++ post_of m k b))))

-- bytes u are put before v
pub begins-under : (u v b b₁ : List ℕ) (m : ℕ) → Begins (drop m b) v → m ≡ length u → b₁ ≡ put 0 u b → Begins b₁ (u ++ v)
unfolding put
begins-under u v b b₁ m h e f =
    let z : 0 + length u ≡ m = omega arith in
    begins-is (u ++ v) (drop (length v) (drop m b)) b₁ (f ∙ rw z (ap (u ++◌) (rest v (drop m b) h)) ∙ sym (append_assoc u v (drop (length v) (drop m b))))

-- a name is put in before bytes u that stand at m
pub begins-insert : (nm u b b₁ : List ℕ) (m end : ℕ) → m ≤ length b → Begins (drop m b) u → end ≡ m + length u → b₁ ≡ inserted m end nm b → Begins (drop m b₁) (nm ++ u)
unfolding inserted put
begins-insert nm u b b₁ m end l h e f =
    let z : end - m ≡ length u = omega arith in
    let x : take (end - m) (drop m b) ≡ u = rw z h in
    let k : length (take m b) ≡ m = length-take-le m b l in
    let y : b₁ ≡ take m b ++ ((nm ++ u) ++ drop (m + length (nm ++ u)) b) = f ∙ rw x in
    let w : drop m b₁ ≡ (nm ++ u) ++ drop (m + length (nm ++ u)) b = rw y (rw k at (drop-append_seam (take m b) ((nm ++ u) ++ drop (m + length (nm ++ u)) b))) in
    begins-is (nm ++ u) (drop (m + length (nm ++ u)) b) (drop m b₁) w
