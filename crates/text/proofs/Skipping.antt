-- Blanks and runs, by what the code looks at.
-- Assumes nothing.
use mathlib.Core.Path.{◌≡◌, refl, sym, ◌∙◌, ap}
use mathlib.Core.Bool.{Bool, true, false, ◌||◌, not}
use mathlib.Core.List.{List, [], ◌∷◌}
use Prim.Native.Nat.{ℕ, suc, ◌+◌, ◌-◌, ◌≤◌, ◌<◌}
use native.Mathlib.Omega.{arith}
use lib.Dec.{eqb}
use lib.ListN.{length, take, drop, get_or}
use lib.Seq.{drop-cons}
use borrow.Author.Tests.{ne_eqb, eqb-true, ltb-true, ltb-false}
use denote.Bor.{Bor}
use Rattle.std.specs.Prelude.{Option, None, Some}
use Rattle.std.specs.Option.{option_copied}
use Rattle.std.specs.Slice.{IsItemAt}
use Rattle.kinds.specs.Bytes.{comma, rparen}
use Rattle.model.specs.Text.{span, blank, peek, run_byte}
use Rattle.model.proofs.Scans.{span_none, span-item, blank_nil, blank-space, blank-plain, skip-within, skip-part, part-rest, peek-byte, peek-end}
use Rattle.text.specs.Found.{byte_or_end, Skipped}

-- the blanks that a text begins with, by its first bytes
module _ (t : List ℕ) where
  pub blanks_end : length t ≡ 0 → 0 ≡ span blank t
  blanks_end e = go t e
    where
      go : (u : List ℕ) → length u ≡ 0 → 0 ≡ span blank u
      go [] e = sym (span_none blank [] blank_nil)
      go (c ∷ u) e = absurd (omega arith)

  plain_at : (i : ℕ) → i < length t → 32 < get_or t i 0 → get_or t i 0 < 128 → blank (drop i t) ≡ 0
  plain_at i h k l = rw (drop-cons t i 0 h) (blank-plain (get_or t i 0) (drop (suc i) t) (omega arith) l)

  pub blanks_none : 0 < length t → 32 < get_or t 0 0 → get_or t 0 0 < 128 → 0 ≡ span blank t
  blanks_none h k l = sym (span_none blank t (plain_at 0 h k l))

  module _ (h : 0 < length t) (e : get_or t 0 0 ≡ 32) where
    space_first : span blank t ≡ 1 + span blank (drop 1 t)
    space_first =
        let f : t ≡ 32 ∷ drop 1 t = drop-cons t 0 0 h ∙ rw e in
        span-item blank t 0 (ap blank f ∙ blank-space (drop 1 t)) h

    pub blanks_space : 1 < length t → 32 < get_or t 1 0 → get_or t 1 0 < 128 → 1 ≡ span blank t
    blanks_space m k l = omega (arith, space_first, span_none blank (drop 1 t) (plain_at 1 m k l))

    pub blanks_over : (r : ℕ) → r ≡ span blank (take (length t - 1) (drop 1 t)) → 1 + r ≡ span blank t
    blanks_over r f = let g : r ≡ span blank (drop 1 t) = rw part-rest at f in omega (arith, space_first)

-- the place behind the blanks
pub skipped : (s : List ℕ) (at r : ℕ) → at ≤ length s → r ≡ span blank (take (length s - at) (drop at s)) → Skipped s at (at + r)
skipped s at r h e = let f = skip-part s at r e in record { place = f; low = omega arith; inside = rw f (skip-within s at h) }

pub peek-item : (s : List ℕ) (at : ℕ) (r : Option (Bor ℕ)) → IsItemAt s at r → byte_or_end (option_copied r) ≡ peek s at
unfolding byte_or_end
peek-item s at None h = sym (peek-end s at (ltb-false at (length s) (sym h.0)))
peek-item s at (Some x) h =
    let l : at < length s = ltb-true at (length s) (sym h.0) in
    h.4 (omega arith) 0 ∙ sym (peek-byte s at (get_or s at 0) (drop (suc at) s) (drop-cons s at 0 l))

-- a run goes on, or not, where a text begins
module _ (t : List ℕ) (h : 0 < length t) where
  begun : t ≡ get_or t 0 0 ∷ drop 1 t
  begun = drop-cons t 0 0 h

  pub run_plain : 32 < get_or t 0 0 → get_or t 0 0 < 128 → (get_or t 0 0 ≡ 44 → ⊥) → (get_or t 0 0 ≡ 41 → ⊥) → true ≡ eqb (run_byte t) 1
  run_plain k l m n =
      sym (ap (λ u. eqb (run_byte u) 1) begun
      ∙ rw (run_byte, ne_eqb (get_or t 0 0) 44 m, ne_eqb (get_or t 0 0) 41 n, blank-plain (get_or t 0 0) (drop 1 t) (omega arith) l))

  pub run_space : get_or t 0 0 ≡ 32 → false ≡ eqb (run_byte t) 1
  run_space e = sym (ap (λ u. eqb (run_byte u) 1) begun ∙ rw (run_byte, e, blank-space))

  pub run_slow : (m : ℕ) → (get_or t 0 0 ≡ 44 → ⊥) → (get_or t 0 0 ≡ 41 → ⊥) → m ≡ blank t → eqb m 0 ≡ eqb (run_byte t) 1
  run_slow m k n e =
      sym (ap (λ u. eqb (run_byte u) 1) begun ∙ rw (run_byte, ne_eqb (get_or t 0 0) 44 k, ne_eqb (get_or t 0 0) 41 n, ← begun, ← e) (go (eqb m 0)))
    where
      go : (b : Bool) → eqb (elim (not b) [ true ↦ 0 | false ↦ 1 ]) 1 ≡ b
      go true = refl
      go false = refl

pub run_stops : (t : List ℕ) → false ≡ eqb (run_byte t) 1 → 0 ≡ run_byte t
run_stops [] e = refl
run_stops (c ∷ t) e = go (eqb c comma || (eqb c rparen || not (eqb (blank (c ∷ t)) 0))) refl
  where
    go : (b : Bool) → (eqb c comma || (eqb c rparen || not (eqb (blank (c ∷ t)) 0))) ≡ b → 0 ≡ run_byte (c ∷ t)
    go true q = rw (run_byte, q)
    go false q = let z : false ≡ true = e ∙ rw (run_byte, q) in absurd (cc)

pub run_goes : (t : List ℕ) → true ≡ eqb (run_byte t) 1 → (1 ≡ run_byte t) × (1 ≤ length t)
run_goes [] e = absurd (cc)
run_goes (c ∷ t) e = (sym (eqb-true (run_byte (c ∷ t)) 1 (sym e)), omega arith)

pub ruleset skipping = (blanks_end, blanks_none, blanks_space, blanks_over)

pub ruleset places = (skipped, peek-item)

pub ruleset running = (run_plain, run_space, run_slow)
