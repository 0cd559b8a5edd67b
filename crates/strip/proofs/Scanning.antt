-- The scans of a strip, byte by byte.
-- Assumes nothing.
use mathlib.Core.Path.{◌≡◌, refl, sym, ◌∙◌, ap}
use mathlib.Core.Bool.{Bool, true, false, cond}
use mathlib.Core.List.{List, [], ◌∷◌}
use Rattle.std.specs.Prelude.{Option, None, Some}
use Rattle.std.proofs.lemmas.Option.{none-some, same_Some}
use Prim.Native.Nat.{ℕ, zero, suc, ◌+◌, ◌-◌, ◌≤◌, ◌<◌}
use native.Mathlib.Omega.{arith}
use native.Mathlib.Nat.{zero-add}
use native.Mathlib.Numerals.{add-one}
use lib.Dec.{eqb}
use lib.ListN.{length, take, drop, get_or, length-drop, drop_of_length-le}
use lib.Seq.{drop-cons}
use borrow.Author.Tests.{ne_eqb}
use Rattle.kinds.specs.Bytes.{lparen, rparen}
use Rattle.model.specs.Text.{word_length}
use Rattle.model.proofs.Scans.{part-rest}
use Rattle.model.proofs.Readers.{word_le}
use Rattle.strip.specs.Strip.{colon, behind, open_after, or_closed, closing, brackets, word_brackets, next_line, outputs, next_signature}
use Rattle.strip.proofs.Lines.{behind-behind}

-- one byte
module _ (c d : ℕ) where
  pub after_open : c ≡ lparen → d + 1 ≡ open_after c d
  after_open e = rw (e, add-one)

  pub after-close : (c ≡ lparen → ⊥) → c ≡ rparen → d - 1 ≡ open_after c d
  after-close n e = rw e

  pub after-other : (c ≡ lparen → ⊥) → (c ≡ rparen → ⊥) → d ≡ open_after c d
  after-other n m = rw (ne_eqb c lparen n, ne_eqb c rparen m)

  after_small : open_after c d ≤ d + 1
  after_small = go (eqb c lparen) (eqb c rparen)
    where
      go : (a b : Bool) → cond a (suc d) (cond b (d - 1) d) ≤ d + 1
      go true b = omega arith
      go false true = omega arith
      go false false = omega arith

-- nothing reaches beyond the bytes that there are
behind-inside : (m k l : ℕ) (o : Option ℕ) (n : ℕ) → ((j : ℕ) → o ≡ Some j → j ≤ k) → m + k ≡ l → behind m o ≡ Some n → n ≤ l
behind-inside m k l None n h q e = absurd (none-some n e)
behind-inside m k l (Some j) n h q e = let i = h j refl in let r : m + j ≡ n = same_Some _ _ e in omega arith

pub closing_inside : (d : ℕ) (t : List ℕ) (n : ℕ) → Some n ≡ closing d t → n ≤ length t
unfolding closing
closing_inside d [] n e = absurd (none-some n (sym e))
closing_inside d (c ∷ t) n e =
    behind-inside 1 (length t) (suc (length t)) (or_closed (open_after c d) (closing (open_after c d) t)) n (go (open_after c d) (λ k j q. closing_inside k t j q)) (omega arith) (sym e)
  where
    go : (k : ℕ) → ((i j : ℕ) → Some j ≡ closing i t → j ≤ length t) → (j : ℕ) → or_closed k (closing k t) ≡ Some j → j ≤ length t
    go zero h j q = let z : 0 ≡ j = same_Some _ _ q in omega arith
    go (suc k) h j q = h (suc k) j (sym q)

pub brackets-inside : (t : List ℕ) (n : ℕ) → Some n ≡ brackets t → n ≤ length t
brackets-inside [] n e = absurd (none-some n (sym e))
brackets-inside (c ∷ t) n e = go (eqb c lparen) (sym e)
  where
    go : (b : Bool) → cond b (behind 1 (closing 1 t)) None ≡ Some n → n ≤ suc (length t)
    go true q = behind-inside 1 (length t) (suc (length t)) (closing 1 t) n (λ j r. closing_inside 1 t j (sym r)) (omega arith) q
    go false q = absurd (none-some n q)

pub outputs-inside : (t : List ℕ) (n : ℕ) → Some n ≡ outputs t → n ≤ length t
outputs-inside [] n e = absurd (none-some n (sym e))
outputs-inside (c ∷ t) n e = go (eqb c colon) (sym e)
  where
    go : (b : Bool) → cond b (behind 1 (brackets t)) None ≡ Some n → n ≤ suc (length t)
    go true q = behind-inside 1 (length t) (suc (length t)) (brackets t) n (λ j r. brackets-inside t j (sym r)) (omega arith) q
    go false q = absurd (none-some n q)

pub line_inside : (s : List ℕ) (n : ℕ) → Some n ≡ next_line s → n ≤ length s
unfolding next_line
line_inside s n e = go (word_length s) (word_le s) (sym e)
  where
    go : (w : ℕ) → w ≤ length s → word_brackets w s ≡ Some n → n ≤ length s
    go zero h q = absurd (none-some n q)
    go (suc w) h q = behind-inside (suc w) (length (drop (suc w) s)) (length s) (brackets (drop (suc w) s)) n (λ j r. brackets-inside (drop (suc w) s) j (sym r)) (omega (arith, length-drop (suc w) s)) q

-- so far brackets are open, d of them
pub record Open (t : List ℕ) (d i : ℕ) : Type 0 where
  pub some_open : 0 < d
  pub small : d ≤ i + 1
  pub same : behind i (closing d (drop i t)) ≡ closing 1 t

pub open_start : (t : List ℕ) → Open t 1 0
open_start t = record { some_open = omega arith; small = omega arith; same = go (closing 1 t) }
  where
    go : (o : Option ℕ) → behind 0 o ≡ o
    go None = refl
    go (Some n) = ap Some (zero-add n)

module _ (t : List ℕ) (d i : ℕ) (g : Open t d i) where
  pub open_end : length t ≤ i → None ≡ closing 1 t
  unfolding closing
  open_end h = sym (sym g.same ∙ rw (drop_of_length-le t h))

  module _ (r : ℕ) (h : i < length t) (e : r ≡ open_after (get_or t i 0) d) where
    step : closing 1 t ≡ behind (i + 1) (or_closed r (closing r (drop (i + 1) t)))
    unfolding closing
    step = sym g.same ∙ rw (drop-cons t i 0 h, ← e) (behind-behind i 1 (or_closed r (closing r (drop (suc i) t))) ∙ rw add-one)

    pub open_closed : r ≡ 0 → Some (i + 1) ≡ closing 1 t
    open_closed z = sym (step ∙ rw z (ap Some (omega arith)))

    pub open_next : (r ≡ 0 → ⊥) → Open t r (i + 1)
    open_next n = record { some_open = omega arith; small = omega (arith, g.small, after_small (get_or t i 0) d); same = sym (step ∙ go r n) }
      where
        go : (k : ℕ) → (k ≡ 0 → ⊥) → behind (i + 1) (or_closed k (closing k (drop (i + 1) t))) ≡ behind (i + 1) (closing k (drop (i + 1) t))
        go zero y = absurd (y refl)
        go (suc k) y = refl

-- a line, by its word
pub no_word : (s : List ℕ) (n : ℕ) → n ≡ word_length s → n ≡ 0 → None ≡ next_line s
unfolding next_line
no_word s n e z = rw (← e, z)

module _ (s : List ℕ) (n : ℕ) (e : n ≡ word_length s) (y : n ≡ 0 → ⊥) where
  word-brackets : behind n (brackets (take (length s - n) (drop n s))) ≡ next_line s
  unfolding next_line
  word-brackets = rw (part-rest, ← e) (go n y)
    where
      go : (k : ℕ) → (k ≡ 0 → ⊥) → behind k (brackets (drop k s)) ≡ word_brackets k s
      go zero z = absurd (z refl)
      go (suc k) z = refl

  pub no_brackets : None ≡ brackets (take (length s - n) (drop n s)) → None ≡ next_line s
  no_brackets f = rw (← f) at word-brackets

  pub line-some : (m : ℕ) → Some m ≡ brackets (take (length s - n) (drop n s)) → Some (n + m) ≡ next_line s
  line-some m f = rw (← f) at word-brackets

-- a signature, by its line
pub no_line : (s : List ℕ) → None ≡ next_line s → None ≡ next_signature s
unfolding next_signature
no_line s e = rw (← e)

module _ (s : List ℕ) (n : ℕ) (e : Some n ≡ next_line s) where
  line-outputs : behind n (outputs (take (length s - n) (drop n s))) ≡ next_signature s
  unfolding next_signature
  line-outputs = rw (part-rest, ← e)

  pub no_outputs : None ≡ outputs (take (length s - n) (drop n s)) → None ≡ next_signature s
  no_outputs f = rw (← f) at line-outputs

  pub signature-some : (m : ℕ) → Some m ≡ outputs (take (length s - n) (drop n s)) → Some (n + m) ≡ next_signature s
  signature-some m f = rw (← f) at line-outputs

pub ruleset taking = (after_open, after-close, after-other, open_start, open_end, open_closed, open_next)

pub ruleset inside = (closing_inside, brackets-inside, outputs-inside, line_inside)

pub ruleset first = (no_word, no_brackets, line-some, no_line, no_outputs, signature-some)
