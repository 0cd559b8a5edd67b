-- What is written after, before and around what: laws of `Wrote`.
-- Assumes nothing.
use mathlib.Core.Path.{◌≡◌, refl, sym, ap, ◌∙◌}
use mathlib.Core.List.{List, [], ◌++◌, append_assoc, append-nil}
use Prim.Native.Nat.{ℕ, ◌+◌, ◌-◌, ◌≤◌}
use native.Mathlib.Omega.{arith}
use native.Mathlib.Nat.{add-zero}
use lib.ListN.{length, take, drop, length-append}
use lib.Seq.{take_at, drop_at, take-take, take-add, length-take-le, take-append-add}
use Rattle.layout.specs.Buffer.{put, inserted, Wrote}
use Rattle.layout.proofs.Puts.{length-put}

pub wrote_none : (o : ℕ) (b : List ℕ) → Wrote o b b []
wrote_none o b = record { size = refl; keep = refl; front = rw (add-zero, append-nil) }

pub wrote_kept : (o : ℕ) (b₀ b : List ℕ) → length b ≡ length b₀ → take o b ≡ take o b₀ → Wrote o b₀ b []
wrote_kept o b₀ b e k = record { size = e; keep = k; front = rw (add-zero, append-nil) k }

-- what is kept of a longer front is kept of a shorter
shorter-keep : (o m : ℕ) (b₀ b : List ℕ) → take m b ≡ take m b₀ → o ≤ m → take o b ≡ take o b₀
shorter-keep o m b₀ b e h = sym (take-take o m b h) ∙ ap (take o) e ∙ take-take o m b₀ h

pub wrote-less : (o m : ℕ) (b₀ b u : List ℕ) → Wrote m b₀ b u → o ≤ m → Wrote o b₀ b []
wrote-less o m b₀ b u i h = wrote_kept o b₀ b i.size (shorter-keep o m b₀ b i.keep h)

pub wrote-lost : (o m : ℕ) (b₀ b₁ b₂ u v : List ℕ) → Wrote o b₀ b₁ u → Wrote m b₁ b₂ v → o ≤ m → Wrote o b₀ b₂ []
wrote-lost o m b₀ b₁ b₂ u v i j h = wrote_kept o b₀ b₂ (j.size ∙ i.size) (shorter-keep o m b₁ b₂ j.keep h ∙ i.keep)

length-parts : (o n : ℕ) (u b : List ℕ) → length u ≡ n → o ≤ length b → length (take o b ++ u) ≡ o + n
length-parts o n u b e h = rw (length-append, length-take-le o b h, e)

-- bytes that are put in at o
pub wrote-put : (o : ℕ) (u b b₁ : List ℕ) → o + length u ≤ length b → b₁ ≡ put o u b → Wrote o b b₁ u
unfolding put
wrote-put o u b b₁ h f =
    rw f (record {
      size = length-put o u b h;
      keep = take_at (take o b) (u ++ drop (o + length u) b) o (length-take-le o b (omega arith));
      front = rw (← append_assoc) (take_at (take o b ++ u) (drop (o + length u) b) (o + length u) (length-parts o (length u) u b refl (omega arith)));
    })

pub wrote_then : (o m : ℕ) (b₀ b₁ b₂ u v : List ℕ) → Wrote o b₀ b₁ u → m ≡ o + length u → Wrote m b₁ b₂ v → Wrote o b₀ b₂ (u ++ v)
wrote_then o m b₀ b₁ b₂ u v i e j =
    let f : take (m + length v) b₂ ≡ take (o + length u) b₁ ++ v = rw (← e) j.front in
    let g : o + length (u ++ v) ≡ m + length v = omega (arith, length-append u v) in
    record {
      size = j.size ∙ i.size;
      keep = shorter-keep o m b₁ b₂ j.keep (omega arith) ∙ i.keep;
      front = rw (g, f, i.front, append_assoc);
    }

-- what follows the front that was kept
pub after_front : (m : ℕ) (b₀ b v : List ℕ) → Wrote m b₀ b v → m ≤ length b → take (length v) (drop m b) ≡ v
after_front m b₀ b v i h =
    sym (drop_at (take m b) (take (length v) (drop m b)) m (length-take-le m b h))
    ∙ ap (drop m) (sym (take-add m (length v) b) ∙ i.front)
    ∙ drop_at (take m b₀) v m (length-take-le m b₀ (omega (arith, i.size)))

-- bytes that are put in before what was written after them
pub wrote-under : (o m : ℕ) (b₀ b₁ b₂ u v : List ℕ) → o + length u ≤ length b₁ → m ≡ o + length u → Wrote m b₀ b₁ v → b₂ ≡ put o u b₁ → Wrote o b₀ b₂ (u ++ v)
unfolding put
wrote-under o m b₀ b₁ b₂ u v h q i f =
    let w = wrote-put o u b₁ b₂ h f in
    let k = shorter-keep o m b₀ b₁ i.keep (omega arith) in
    let l = length-parts o (length u) u b₁ refl (omega arith) in
    let g : o + length (u ++ v) ≡ length (take o b₁ ++ u) + length v = omega (arith, length-append u v) in
    let r : b₂ ≡ (take o b₁ ++ u) ++ drop (o + length u) b₁ = f ∙ sym (append_assoc (take o b₁) u (drop (o + length u) b₁)) in
    record {
      size = w.size ∙ i.size;
      keep = w.keep ∙ k;
      front = rw (r, g, take-append-add (take o b₁ ++ u) (drop (o + length u) b₁) (length v), ← q, after_front m b₀ b₁ v i (omega arith), k, append_assoc);
    }

-- a name that is put in before what was written
pub wrote_insert : (o end : ℕ) (b₀ b₁ b₂ nm u : List ℕ) → Wrote o b₀ b₁ u → end ≡ o + length u → end + length nm ≤ length b₁ → b₂ ≡ inserted o end nm b₁ → Wrote o b₀ b₂ (nm ++ u)
unfolding inserted
wrote_insert o end b₀ b₁ b₂ nm u i q h f =
    let g : end - o ≡ length u = omega arith in
    let a : take (end - o) (drop o b₁) ≡ u = rw g (after_front o b₀ b₁ u i (omega arith)) in
    let z : b₂ ≡ put o (nm ++ u) b₁ = f ∙ rw a in
    let w = wrote-put o (nm ++ u) b₁ b₂ (omega (arith, length-append nm u)) z in
    record { size = w.size ∙ i.size; keep = w.keep ∙ i.keep; front = w.front ∙ rw i.keep }
