-- Characters, by the bytes that the code looks at.
-- Assumes nothing.
use mathlib.Core.Path.{◌≡◌, refl, ◌∙◌, ap}
use mathlib.Core.Bool.{Bool, true, false}
use mathlib.Core.List.{List, [], ◌∷◌}
use Rattle.std.specs.Prelude.{Option, None, Some, IfSome}
use Rattle.std.specs.List.{slice_range}
use Prim.Native.Nat.{ℕ, zero, suc, ◌+◌, ◌*◌, ◌-◌, ◌^◌, ◌≤◌, ◌<◌}
use native.Mathlib.Omega.{arith}
use native.Mathlib.Nat.{sub-zero}
use native.Mathlib.Numerals.{add-one}
use lib.ListN.{length, take, drop, get_or}
use lib.Seq.{drop-cons}
use borrow.Author.Tests.{lt-ltb}
use Rattle.std.specs.Str.{IsAscii}
use Rattle.kinds.specs.Bytes.{all, is_ascii}
use Rattle.model.specs.Text.{is_tail, tails, char_length, char_of}
use Rattle.text.specs.declared.Char as found
use Rattle.text.specs.Found.{tail_of, char_from}
use Rattle.model.proofs.Scans.{between-both, char-inside}

-- what a tail byte is found to be
tail_some : (c d : ℕ) → Some d ≡ tail_of c → (is_tail c ≡ true) × (d ≡ c - 128) × (d < 64)
unfolding tail_of
tail_some c d e = go (is_tail c) refl
  where
    go : (b : Bool) → is_tail c ≡ b → (is_tail c ≡ true) × (d ≡ c - 128) × (d < 64)
    go true q =
        let h = between-both 128 191 c q in
        let f : Some d ≡ Some (c - 128) = e ∙ rw (tail_of, q) in
        let g : d ≡ c - 128 = cc in
        (q, g, omega arith)
    go false q = let f : Some d ≡ None = e ∙ rw (tail_of, q) in absurd (cc)

tail_none : (c : ℕ) → None ≡ tail_of c → is_tail c ≡ false
unfolding tail_of
tail_none c e = go (is_tail c) refl
  where
    go : (b : Bool) → is_tail c ≡ b → is_tail c ≡ false
    go true q = let f : None ≡ Some (c - 128) = e ∙ rw (tail_of, q) in absurd (cc)
    go false q = q

-- too few bytes, and no more than are looked at
pub tails_short : (k v : ℕ) (t : List ℕ) → length t < k → None ≡ tails k v t
tails_short zero v t h = absurd (omega arith)
tails_short (suc k) v [] h = refl
tails_short (suc k) v (c ∷ t) h = go (is_tail c) (tails_short k (v * 64 + (c - 128)) t (omega arith))
  where
    go : (b : Bool) → None ≡ tails k (v * 64 + (c - 128)) t → ◌≡◌ {A = Option ℕ} None (elim b [ true ↦ tails k (v * 64 + (c - 128)) t | false ↦ None ])
    go true e = e
    go false e = refl

tails_front : (k v : ℕ) (t : List ℕ) → k ≤ length t → tails k v (take k t) ≡ tails k v t
tails_front zero v t h = refl
tails_front (suc k) v [] h = absurd (omega arith)
tails_front (suc k) v (c ∷ t) h =
    ap (λ (o : Option ℕ). elim (is_tail c) as (λ _. Option ℕ) [ true ↦ o | false ↦ None ]) (tails_front k (v * 64 + (c - 128)) t (omega arith))

-- up to three tail bytes fit
sixties : (i : ℕ) → i < 3 → 64 ^ i ≤ 4096
sixties zero h = omega arith
sixties (suc zero) h = omega arith
sixties (suc (suc zero)) h = omega arith
sixties (suc (suc (suc i))) h = absurd (omega arith)

-- the code point so far, of the first i bytes; o is the whole
pub record Tails (o : Option ℕ) (t : List ℕ) (code i : ℕ) : Type 0 where
  pub small : code < 32 * 64 ^ i
  pub whole : tails (length t - i) code (drop i t) ≡ o

pub tails_start : (k v : ℕ) (t u : List ℕ) → v < 32 → k ≤ length t → u ≡ slice_range t 0 k → length u ≡ k → Tails (tails k v t) u v 0
tails_start k v t u h l e q =
    let f : u ≡ take k t = e ∙ rw sub-zero in
    record { small = omega arith; whole = rw (q, sub-zero, f) (tails_front k v t l) }

module _ (o : Option ℕ) (t : List ℕ) (code i : ℕ) (s : Tails o t code i) where
  pub tails_end : length t ≤ i → Some code ≡ o
  tails_end h = let e : length t - i ≡ 0 = omega arith in rw e at s.whole

  module _ (h : i < length t) where
    step : tails (suc (length t - suc i)) code (get_or t i 0 ∷ drop (suc i) t) ≡ o
    step = let e : length t - i ≡ suc (length t - suc i) = omega arith in rw (e, drop-cons t i 0 h) at s.whole

    pub tails_wrong : None ≡ tail_of (get_or t i 0) → None ≡ o
    tails_wrong e = rw (tails, tail_none (get_or t i 0) e) at step

    pub tails_more : (d : ℕ) → Some d ≡ tail_of (get_or t i 0) → Tails o t (code * 64 + d) (i + 1)
    tails_more d e =
        let z = tail_some (get_or t i 0) d e in
        record { small = rw add-one (omega (arith, s.small)); whole = rw (add-one, z.1) (rw (tails, z.0) at step) }

    -- one more fits
    pub tails_small : (d : ℕ) → Some d ≡ tail_of (get_or t i 0) → length t ≤ 3 → code * 64 + d < 4294967296
    tails_small d e m = let z = tail_some (get_or t i 0) d e in omega (arith, sixties i (omega arith), s.small)

pub ruleset tail_bytes = (tails_short, tails_start, tails_end, tails_wrong, tails_small)

-- a character lies within the list
pub within : (t : List ℕ) (o : Option found.Char) → char_from o ≡ char_of t → IfSome o (λ c. c.len ≤ length t)
unfolding char_from
within t None e = tt
within t (Some c) e = omega (arith, ap char_length e, char-inside t)

pub all_ascii : (s : List ℕ) → IsAscii s → all is_ascii s ≡ true
all_ascii [] h = refl
all_ascii (c ∷ s) h = rw (lt-ltb c 128 (h 0), all_ascii s (λ i. h (suc i)))
