-- Members are read exactly where their heads and tails stand.
-- Assumes nothing.
use mathlib.Core.Path.{◌≡◌, refl, sym, ◌∙◌, ap, subst}
use mathlib.Core.Bool.{Bool, true, false, ◌&&◌, and-eq-true_iff}
use mathlib.Core.List.{List, [], ◌∷◌, ◌++◌}
use Rattle.std.specs.Prelude.{Option, Some}
use Rattle.std.proofs.lemmas.Option.{same_Some}
use Prim.Native.Nat.{ℕ, ◌+◌, ◌-◌, ◌≤◌}
use native.Mathlib.Nat.{add-zero}
use native.Mathlib.Omega.{arith}
use lib.Dec.{leb}
use lib.ListN.{length, length-append}
use borrow.Author.Tests.{leb-true, le-leb}
use Rattle.kinds.specs.Bytes.{same}
use Rattle.encoding.specs.Words.{word}
use Rattle.encoding.specs.Encoding.{Part, part, head, tail, head_list, joined, heads, tails, heads_long, assembled}
use Rattle.encoding.specs.Judge.{Slot, slot, word_at, has_word, follow, group}
use Rattle.kinds.proofs.Logic.{same_equal, same_self}
use Rattle.encoding.proofs.Words.{word-length}
use Rattle.encoding.proofs.Stands.{Stands, stands_nil, stands_join, stands-front, stands-rest, stands-take, taken, Exact, when-some, given-some}

-- Members: heads and tails.

heads-none : (o : ℕ) → heads o [] ≡ []
unfolding heads head_list joined
heads-none o = refl

-- one member more
pub heads-static : (o : ℕ) (u : List ℕ) (ps : List Part) → heads o (part false u ∷ ps) ≡ u ++ heads o ps
unfolding heads head_list joined head tail
heads-static o u ps = rw add-zero

pub heads-dynamic : (o : ℕ) (u : List ℕ) (ps : List Part) → heads o (part true u ∷ ps) ≡ word o ++ heads (o + length u) ps
unfolding heads head_list joined head tail
heads-dynamic o u ps = refl

pub tails-static : (u : List ℕ) (ps : List Part) → tails (part false u ∷ ps) ≡ tails ps
unfolding tails tail
tails-static u ps = refl

pub tails-dynamic : (u : List ℕ) (ps : List Part) → tails (part true u ∷ ps) ≡ u ++ tails ps
unfolding tails tail
tails-dynamic u ps = refl

-- whatever the offsets are, heads take as many bytes
heads-alike : (o o₁ : ℕ) (ps : List Part) → length (heads o ps) ≡ length (heads o₁ ps)
heads-alike o o₁ [] = ap length (heads-none o ∙ sym (heads-none o₁))
heads-alike o o₁ (part true u ∷ ps) = rw (heads-dynamic o u ps, heads-dynamic o₁ u ps) (simp (length-append, word-length, heads-alike (o + length u) (o₁ + length u) ps))
heads-alike o o₁ (part false u ∷ ps) = rw (heads-static o u ps, heads-static o₁ u ps) (simp (length-append, heads-alike o o₁ ps))

pub heads-length : (o : ℕ) (ps : List Part) → length (heads o ps) ≡ heads_long ps
unfolding heads_long
heads-length o ps = heads-alike o 0 ps

pub long-none : heads_long [] ≡ 0
unfolding heads_long
long-none = ap length (heads-none 0)

pub long-static : (u : List ℕ) (ps : List Part) → heads_long (part false u ∷ ps) ≡ length u + heads_long ps
unfolding heads_long
long-static u ps = ap length (heads-static 0 u ps) ∙ length-append u (heads 0 ps)

pub long-dynamic : (u : List ℕ) (ps : List Part) → heads_long (part true u ∷ ps) ≡ 32 + heads_long ps
long-dynamic u ps = sym (heads-length 0 (part true u ∷ ps)) ∙ ap length (heads-dynamic 0 u ps) ∙ length-append (word 0) (heads (0 + length u) ps) ∙ rw (word-length 0, heads-length (0 + length u) ps)

pub assembled-length : (ps : List Part) → length (assembled ps) ≡ heads_long ps + length (tails ps)
unfolding assembled
assembled-length ps = simp (length-append, heads-length)

module _ (d : List ℕ) where
  -- what was read of members: their parts ps, whose heads stand at h and whose tails at t
  pub record Read (Q : List Part → Type 0) (base h t e : ℕ) : Type 0 where
    pub ps : List Part
    pub good : Q ps
    pub stop : ℕ
    pub front : Stands d h (heads (t - base) ps) stop
    pub back : Stands d t (tails ps) e

  -- members are read exactly where their parts have Q
  pub record ExactList (ss : List Slot) (Q : List Part → Type 0) : Type 0 where
    pub sound : (base h t e : ℕ) → base ≤ t → h ≤ length d → t ≤ length d → follow d ss base h t ≡ Some e → Read Q base h t e
    pub complete : (base h t e : ℕ) → base ≤ t → Read Q base h t e → follow d ss base h t ≡ Some e

  pub none-exact : (Q : List Part → Type 0) → Q [] → ((ps : List Part) → Q ps → ps ≡ []) → ExactList [] Q
  unfolding follow heads head_list joined tails
  none-exact Q q only = record {
    sound = λ base h t e i j k z. record { ps = []; good = q; stop = h; front = stands_nil d h j; back = subst (λ x. Stands d t [] x) (same_Some _ _ z) (stands_nil d t k) };
    complete = λ base h t e i x.
        let z : Stands d t (tails []) e = rw (only x.ps x.good) at x.back in
        ap Some (omega (arith, z.end));
  }

  module _ (r : ℕ → Option ℕ) (P : List ℕ → Type 0) (one : Exact d r P) (ss : List Slot) (Q : List Part → Type 0) (rest : ExactList ss Q) (b : Bool) (Q' : List Part → Type 0)
      (to : (u : List ℕ) (ps : List Part) → P u → Q ps → Q' (part b u ∷ ps)) (from : (ps : List Part) → Q' ps → (u : List ℕ) × (qs : List Part) × P u × Q qs × (ps ≡ part b u ∷ qs)) where
    static-exact : b ≡ false → ExactList (slot false r ∷ ss) Q'
    unfolding follow
    static-exact f = record {
      sound = λ base h t e i j k z.
          given-some (r h) _ z (λ m x y.
          let (u, p, s) = one.sound h m j x in
          let q = rest.sound base m t e i s.inside k y in
          record {
            ps = part false u ∷ q.ps;
            good = rw f at (to u q.ps p q.good);
            stop = q.stop;
            front = rw heads-static (stands_join d h u m _ q.stop s q.front);
            back = rw tails-static q.back;
          });
      complete = λ base h t e i x.
          let (u, qs, p, q, same_parts) = from x.ps x.good in
          let parts_are : x.ps ≡ part false u ∷ qs = rw f at same_parts in
          let front : Stands d h (u ++ heads (t - base) qs) x.stop = rw (parts_are, heads-static) at x.front in
          let back : Stands d t (tails qs) e = rw (parts_are, tails-static) at x.back in
          let first = one.complete u h (h + length u) p (stands-front d h u _ x.stop front) in
          rw first (rest.complete base (h + length u) t e i (record { ps = qs; good = q; stop = x.stop; front = stands-rest d h u _ x.stop front; back = back }));
    }

    dynamic-exact : b ≡ true → ExactList (slot true r ∷ ss) Q'
    unfolding follow
    dynamic-exact f = record {
      sound = λ base h t e i j k z.
          when-some (has_word d h && same (word_at d h) (word (t - base))) _ z (λ g z₁.
          let (g₁, g₂) = (and-eq-true_iff _ _).0 g in
          let room : h + 32 ≤ length d = leb-true _ _ g₁ in
          let offset : word_at d h ≡ word (t - base) = (same_equal _ _).0 g₂ in
          given-some (r t) _ z₁ (λ m x y.
          let (u, p, s) = one.sound t m k x in
          let q = rest.sound base (h + 32) m e (omega (arith, s.end)) room s.inside y in
          let on : m - base ≡ t - base + length u = omega (arith, s.end) in
          record {
            ps = part true u ∷ q.ps;
            good = rw f at (to u q.ps p q.good);
            stop = q.stop;
            front = rw heads-dynamic (stands_join d h (word (t - base)) (h + 32) _ q.stop (rw offset at (stands-take d h 32 room)) (rw on at q.front));
            back = rw tails-dynamic (stands_join d t u m _ e s q.back);
          }));
      complete = λ base h t e i x.
          let (u, qs, p, q, same_parts) = from x.ps x.good in
          let parts_are : x.ps ≡ part true u ∷ qs = rw f at same_parts in
          let front : Stands d h (word (t - base) ++ heads (t - base + length u) qs) x.stop = rw (parts_are, heads-dynamic) at x.front in
          let back : Stands d t (u ++ tails qs) e = rw (parts_are, tails-dynamic) at x.back in
          let here = stands-front d h (word (t - base)) _ x.stop front in
          let offset : word_at d h ≡ word (t - base) = rw word-length at (taken d h (word (t - base)) _ here) in
          let room : h + 32 ≤ length d = omega (arith, here.inside, word-length (t - base)) in
          let first = one.complete u t (t + length u) p (stands-front d t u _ e back) in
          let on : t + length u - base ≡ t - base + length u = omega arith in
          let behind : Stands d (h + 32) (heads (t - base + length u) qs) x.stop = rw word-length at (stands-rest d h (word (t - base)) _ x.stop front) in
          rw (le-leb _ _ room, offset, same_self, first)
          (rest.complete base (h + 32) (t + length u) e (omega arith) (record { ps = qs; good = q; stop = x.stop; front = rw on behind; back = stands-rest d t u _ e back }));
    }

  pub more-exact : (r : ℕ → Option ℕ) (P : List ℕ → Type 0) → Exact d r P → (ss : List Slot) (Q : List Part → Type 0) → ExactList ss Q → (b : Bool) (Q' : List Part → Type 0)
      → ((u : List ℕ) (ps : List Part) → P u → Q ps → Q' (part b u ∷ ps)) → ((ps : List Part) → Q' ps → (u : List ℕ) × (qs : List Part) × P u × Q qs × (ps ≡ part b u ∷ qs)) → ExactList (slot b r ∷ ss) Q'
  more-exact r P one ss Q rest true Q' to from = dynamic-exact r P one ss Q rest true Q' to from refl
  more-exact r P one ss Q rest false Q' to from = static-exact r P one ss Q rest false Q' to from refl

  -- members at a place, whose heads take n bytes
  module _ (n : ℕ) (ss : List Slot) (Q : List Part → Type 0) (all-exact : ExactList ss Q) (long : (ps : List Part) → Q ps → heads_long ps ≡ n) where
    read_whole : (at e : ℕ) → Read Q at at (at + n) e → (u : List ℕ) × ((ps : List Part) × Q ps × (u ≡ assembled ps)) × Stands d at u e
    unfolding assembled
    read_whole at e q =
        let size = long q.ps q.good in
        let off : at + n - at ≡ heads_long q.ps = omega arith in
        let front : Stands d at (heads (heads_long q.ps) q.ps) q.stop = rw off at q.front in
        let seam : at + n ≡ q.stop = omega (arith, front.end, heads-length (heads_long q.ps) q.ps) in
        (_, (q.ps, q.good, refl), stands_join d at (heads (heads_long q.ps) q.ps) q.stop (tails q.ps) e front (subst (λ x. Stands d x (tails q.ps) e) seam q.back))

    pub group-exact : Exact d (group d n ss) (λ u. (ps : List Part) × Q ps × (u ≡ assembled ps))
    unfolding group assembled
    group-exact = record {
      sound = λ at e h z.
          when-some (leb (at + n) (length d)) _ z (λ g y. read_whole at e (all-exact.sound at at (at + n) e (omega arith) h (leb-true _ _ g) y));
      complete = λ u at e x s.
          let (ps, good, same) = x in
          let size = long ps good in
          let st : Stands d at (heads (heads_long ps) ps ++ tails ps) e = rw same at s in
          let front = stands-front d at (heads (heads_long ps) ps) (tails ps) e st in
          let back = stands-rest d at (heads (heads_long ps) ps) (tails ps) e st in
          let seam : at + length (heads (heads_long ps) ps) ≡ at + n = omega (arith, heads-length (heads_long ps) ps) in
          let room : at + n ≤ length d = omega (arith, front.inside) in
          let off : at + n - at ≡ heads_long ps = omega arith in
          rw (le-leb _ _ room) (all-exact.complete at at (at + n) e (omega arith) (record { ps = ps; good = good; stop = at + length (heads (heads_long ps) ps); front = rw off front; back = rw seam at back }));
    }
