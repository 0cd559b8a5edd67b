-- What a head says of where something ends, and what follows for members one after the other.
-- Assumes nothing.
use mathlib.Core.Path.{◌≡◌, refl, sym, ◌∙◌, ap}
use mathlib.Core.Bool.{Bool, true, false, ◌&&◌}
use mathlib.Core.List.{List}
use Rattle.std.specs.Prelude.{Option, None, Some, ◌⊎◌}
use Rattle.std.proofs.Common.{Fits, w8}
use Prim.Native.Nat.{ℕ, ◌+◌, ◌-◌, ◌≤◌, ◌<◌}
use native.Mathlib.Omega.{arith}
use lib.Dec.{eqb}
use lib.ListN.{length, get_or}
use borrow.Author.Tests.{eqb-true, eq-eqb, ne_eqb}
use Rattle.kinds.specs.Bytes.{same}
use Rattle.encoding.specs.Words.{word}
use Rattle.encoding.specs.Judge.{be_value, given, when, word_at, has_word, ends_at}
use Rattle.encoding.proofs.Ranges.{same_test}
use Rattle.words.specs.Places.{capped}
use Rattle.words.proofs.Words.{number_is}
use Rattle.judge.specs.Fits.{Data}
use Rattle.judge.specs.Steps.{HeadSays}

pub eqb-turned : (a b : ℕ) → eqb a b ≡ eqb b a
eqb-turned a b = same_test (eqb a b) (eqb b a) (λ t. eq-eqb b a (sym (eqb-true a b t))) (λ t. eq-eqb a b (sym (eqb-true b a t)))

-- The code's answer.

module _ (d : List ℕ) (q : Data d) (B : (i : ℕ) → Fits w8 (get_or d i 0)) (s h : ℕ) where
  module _ (inside : h + 32 ≤ length d) (c : ℕ) (f : c ≡ capped (be_value (word_at d h))) where
    says : (e : ℕ) → e ≤ length d → (has_word d h && same (word_at d h) (word e)) ≡ eqb e c
    says e l = sym (number_is d h e c B inside (omega (arith, q.small)) f) ∙ eqb-turned c e

    pub head-says : s ≤ c → c ≤ length d → HeadSays d s h (Some c)
    head-says l m = (l, m, says)

    pub head-outside : ((s ≤ c) × (length d < c)) ⊎ (c < s) → HeadSays d s h None
    head-outside o e l m = says e m ∙ ne_eqb e c (λ z. omega (arith, o))

  pub head-missing : has_word d h ≡ false → HeadSays d s h None
  head-missing t e k n = rw t

-- What follows from it.

-- what ended is judged by where the head says that it ends, and then what goes on there
abbrev pub judged : Option ℕ → Option ℕ → (ℕ → Bool) → Bool
judged None o f = false
judged (Some c) o f = ends_at c o && f c

module _ (d : List ℕ) (s h : ℕ) (F : ℕ → Option ℕ) where
  abbrev tested : ℕ → Bool
  tested e = has_word d h && same (word_at d h) (word (e - 0))

  pub goes_on : (r o : Option ℕ) → HeadSays d s h r → ((e : ℕ) → o ≡ Some e → (s ≤ e) × (e ≤ length d))
      → ends_at (length d) (given o (λ e. when (tested e) (F e))) ≡ judged r o (λ c. ends_at (length d) (F c))
  goes_on None None x i = refl
  goes_on (Some c) None x i = refl
  goes_on None (Some e) x i = let z : e - 0 ≡ e = omega arith in let (l, m) = i e refl in rw (z, x e l m)
  goes_on (Some c) (Some e) x i = let z : e - 0 ≡ e = omega arith in rw (z, x.2 e (i e refl).1) (go (eqb e c) refl)
    where
      go : (b : Bool) → eqb e c ≡ b → ends_at (length d) (when b (F e)) ≡ (b && ends_at (length d) (F c))
      go true p = ap (λ x. ends_at (length d) (F x)) (eqb-true e c p)
      go false p = refl

pub given-same : (o : Option ℕ) → given o (λ e. Some e) ≡ o
given-same None = refl
given-same (Some e) = refl

pub when-ends : (n : ℕ) (t : Bool) (o : Option ℕ) → ends_at n (when t o) ≡ (t && ends_at n o)
when-ends n true o = refl
when-ends n false o = refl
