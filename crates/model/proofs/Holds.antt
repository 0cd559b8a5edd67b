-- What holds of answers: of what a reading gives and of the place where it stops or refuses.
-- Assumes nothing.
use mathlib.Core.Path.{◌≡◌, subst}
use mathlib.Core.List.{List}
use Prim.Native.Nat.{ℕ, ◌+◌, ◌*◌, ◌≤◌, ◌<◌}
use lib.ListN.{length}
use Rattle.model.specs.declared.Refusal.{Refusal}
use Rattle.model.specs.Parser.{Found, found, missing, Ans, got, bad, deep, on_ans, then, require, or_else}

-- P of what was read and the place behind it; a refusal's place is one of the text, and a byte stands where a tuple opens
pub data Of {A : Type 0} (s : List ℕ) (P : A → ℕ → Type 0) : Ans A → Type 0 where
  reads : {a : A} {n : ℕ} → P a n → Of s P (got a n)
  refuses : {w : Refusal} {p : ℕ} → p ≤ length s → Of s P (bad w p)
  opens : {p : ℕ} → p < length s → Of s P (deep p)

-- what holds of a look: N if it finds nothing
pub data Seen {A : Type 0} (P : A → ℕ → Type 0) (N : Type 0) : Found A → Type 0 where
  sees : {a : A} {n : ℕ} → P a n → Seen P N (found a n)
  misses : N → Seen P N missing

abbrev pub Finds : {A : Type 0} → (A → ℕ → Type 0) → Found A → Type 0
Finds P = Seen P (Unit {0})

-- what was read from `at` up to n: `paid` says also that n is not before `at`
pub record Read {A : Type 0} (s : List ℕ) (P : A → ℕ → Type 0) (size : A → ℕ) (at : ℕ) (a : A) (n : ℕ) : Type 0 where
  pub holds : P a n
  pub paid : size a + 10 * at ≤ 10 * n
  pub within : n ≤ length s

abbrev pub Any : {A : Type 0} → A → ℕ → Type 0
Any a n = Unit {0}

abbrev pub OneChar : List ℕ → ℕ → Unit {0} → ℕ → Type 0
OneChar s = Read s Any (λ _. 10)

module _ {A : Type 0} {s : List ℕ} {P : A → ℕ → Type 0} {r : Ans A} (h : Of s P r) where
  pub is-got : (a : A) (n : ℕ) → r ≡ got a n → P a n
  is-got a n e = go (subst (Of s P) e h)
    where
      go : Of s P (got a n) → P a n
      go (reads k) = k

  pub is-bad : (w : Refusal) (p : ℕ) → r ≡ bad w p → p ≤ length s
  is-bad w p e = go (subst (Of s P) e h)
    where
      go : Of s P (bad w p) → p ≤ length s
      go (refuses k) = k

  pub is-deep : (p : ℕ) → r ≡ deep p → p < length s
  is-deep p e = go (subst (Of s P) e h)
    where
      go : Of s P (deep p) → p < length s
      go (opens k) = k

module _ {A B : Type 0} {s : List ℕ} {P : A → ℕ → Type 0} {Q : B → ℕ → Type 0} where
  pub then-of : {r : Ans A} {f : A → ℕ → Ans B} → Of s P r → ((a : A) (n : ℕ) → P a n → Of s Q (f a n)) → Of s Q (then r f)
  unfolding then
  then-of (reads h) k = k _ _ h
  then-of (refuses h) k = refuses h
  then-of (opens h) k = opens h

  pub on_of : {r : Ans A} (f : A → B) → Of s P r → ((a : A) (n : ℕ) → P a n → Q (f a) n) → Of s Q (on_ans f r)
  unfolding on_ans
  on_of f (reads h) k = reads (k _ _ h)
  on_of f (refuses h) k = refuses h
  on_of f (opens h) k = opens h

module _ {A : Type 0} {s : List ℕ} {P Q : A → ℕ → Type 0} where
  pub as_of : {r : Ans A} → Of s P r → ((a : A) (n : ℕ) → P a n → Q a n) → Of s Q r
  as_of (reads h) k = reads (k _ _ h)
  as_of (refuses h) k = refuses h
  as_of (opens h) k = opens h

  pub require-of : {N : Type 0} {at : ℕ} {r : Found A} (w : Refusal) → at ≤ length s → Seen P N r → ((a : A) (n : ℕ) → P a n → Q a n) → Of s Q (require w at r)
  require-of w h (sees k) f = reads (f _ _ k)
  require-of w h (misses k) f = refuses h

  pub or_of : {N : Type 0} {r : Found A} (d : A) (at : ℕ) → Seen P N r → ((a : A) (n : ℕ) → P a n → Q a n) → (N → Q d at) → Of s Q (or_else d at r)
  or_of d at (sees k) f g = reads (f _ _ k)
  or_of d at (misses k) f g = reads (g k)

module _ {A : Type 0} {s : List ℕ} {P : A → ℕ → Type 0} {size : A → ℕ} where
  pub read : {at n : ℕ} {a : A} → P a n → size a + 10 * at ≤ 10 * n → n ≤ length s → Read s P size at a n
  read h p w = record { holds = h; paid = p; within = w }

  pub gives : {at n : ℕ} {a : A} → P a n → size a + 10 * at ≤ 10 * n → n ≤ length s → Of s (Read s P size at) (got a n)
  gives h p w = reads (read h p w)

  pub finds : {N : Type 0} {at n : ℕ} {a : A} → P a n → size a + 10 * at ≤ 10 * n → n ≤ length s → Seen (Read s P size at) N (found a n)
  finds h p w = sees (read h p w)
