-- Numbers and escapes as they are written, and how long they are.
-- Assumes nothing.
use mathlib.Core.Path.{◌≡◌, refl, sym, ◌∙◌, ap}
use mathlib.Core.List.{List, [], ◌∷◌, ◌++◌, append_assoc, append-nil}
use Prim.Native.Nat.{ℕ, ◌+◌, ◌≤◌, ◌<◌, ◌^◌, ◌/◌, ◌%◌, ◌*◌, ◌-◌}
use native.Mathlib.Omega.{arith}
use lib.ListN.{length, take, get_or}
use lib.Seq.{take-suc}
use native.Mathlib.Numerals.{add-one}
use mathlib.Core.Bool.{Bool, true, false}
use lib.Dec.{leb, eqb}
use borrow.Author.Tests.{le-leb, lt-leb, leb-true, leb-false}
use Rattle.model.specs.Text.{part}
use Rattle.model.specs.Message.{escape, escaped, reach, ellipsis, whole_from, whole_to, context}
use Rattle.kinds.specs.Decimal.{decimal}

-- a text behind another
pub escaped_append : (t u : List ℕ) → escaped (t ++ u) ≡ escaped t ++ escaped u
unfolding escaped
escaped_append [] u = refl
escaped_append (b ∷ t) u = rw (escaped_append t u) (sym (append_assoc (escape b) (escaped t) (escaped u)))

-- one byte more of a text
pub escaped-more : (t : List ℕ) (i : ℕ) → i < length t → escaped (take (i + 1) t) ≡ escaped (take i t) ++ escape (get_or t i 0)
unfolding escaped
escaped-more t i h = rw (add-one, take-suc t i 0 h) (escaped_append (take i t) (get_or t i 0 ∷ []) ∙ ap (λ u. escaped (take i t) ++ u) (append-nil (escape (get_or t i 0))))

near-end : (n p : ℕ) → leb (n - p) reach ≡ leb n (p + reach)
near-end n p = go (leb (n - p) reach) refl
  where
    go : (b : Bool) → leb (n - p) reach ≡ b → leb (n - p) reach ≡ leb n (p + reach)
    go true e = e ∙ sym (le-leb n (p + reach) (omega (arith, leb-true (n - p) reach e)))
    go false e = e ∙ sym (lt-leb n (p + reach) (omega (arith, leb-false (n - p) reach e)))

-- a context written part by part behind a line
pub context-is : (l s : List ℕ) (p a : ℕ) (w : Bool) → a ≡ p - reach → w ≡ leb (length s - p) reach
    → ((((l ++ ellipsis (eqb a 0)) ++ whole_from (part s a (p - a))) ++ (124 ∷ [])) ++ whole_to (part s p reach)) ++ ellipsis w ≡ l ++ context s p
unfolding context
context-is l s p a w e f = rw (e, f, near-end) (simp append_assoc)
