-- How long messages are.
-- Assumes nothing.
use mathlib.Core.Path.{◌≡◌, refl, ap}
use mathlib.Core.Bool.{Bool, true, false, ◌||◌}
use mathlib.Core.List.{List, [], ◌∷◌, ◌++◌}
use Rattle.std.specs.Prelude.{Option, None, Some}
use Prim.Native.Nat.{ℕ, ◌+◌, ◌*◌, ◌-◌, ◌/◌, ◌%◌, ◌≤◌}
use native.Mathlib.Omega.{arith}
use lib.Dec.{leb, ltb, eqb}
use lib.ListN.{length, length-append, length-take, length-drop}
use borrow.Author.Tests.{ltb-false}
use Rattle.kinds.specs.Bytes.{ascii}
use Rattle.kinds.proofs.Decimal.{decimal-short}
use Rattle.model.specs.declared.Refusal.{Refusal}
use Rattle.model.specs.declared.Refusal.TheVariants.{TooLong}
use Rattle.model.specs.declared.Keyword.{Keyword}
use Rattle.model.specs.declared.Keyword.TheVariants as key
use Rattle.model.specs.declared.Call.{Call}
use Rattle.model.specs.Text.{part}
use Rattle.model.specs.Tree.{Declaration}
use Rattle.model.specs.Parser.{Ans, got, bad, deep}
use Rattle.model.specs.Reading.{keyword_text, wanted, longest_text, admit, parse}
use Rattle.model.specs.Record.{Case, case, select}
use Rattle.model.specs.Answer.{number, writes}
use Rattle.model.specs.Message.{expected_keyword, wording_cases, wording, reach, whole_from, whole_to, ellipsis, context, hex_digit, hex, unicode, escapes, escape, escaped, message_text, message_by, message_of, message_output}
use Rattle.model.proofs.Sound.{refusal-within}

-- what holds of every case and of the rest holds of what is selected
abbrev pub Every : {A : Type 0} → (A → Type 0) → List (Case A) → Type 0
Every P [] = Unit {0}
Every P (case n a ∷ cs) = P a × Every P cs

pub selected : {A : Type 0} (P : A → Type 0) (cs : List (Case A)) (d : A) (k : ℕ) → Every P cs → P d → P (select cs d k)
selected P [] d k h i = i
selected P (case n a ∷ cs) d k h i = go (eqb n k) (selected P cs d k h.1 i)
  where
    go : (b : Bool) → P (select cs d k) → P (elim b [ true ↦ a | false ↦ select cs d k ])
    go true r = h.0
    go false r = r

hex-short : (b : ℕ) → length (hex b) ≤ 2
hex-short b = go (ltb b 16)
  where
    go : (x : Bool) → length {A = ℕ} (elim x [ true ↦ hex_digit b ∷ [] | false ↦ hex_digit (b / 16) ∷ hex_digit (b % 16) ∷ [] ]) ≤ 2
    go true = omega arith
    go false = omega arith

unicode-short : (b : ℕ) → length (unicode b) ≤ 6
unicode-short b = go (ltb b 32 || eqb b 127)
  where
    go : (x : Bool) → length {A = ℕ} (elim x [ true ↦ ascii "\\u{" ++ (hex b ++ ascii "}") | false ↦ b ∷ [] ]) ≤ 6
    go true = simp length-append (omega (arith, hex-short b))
    go false = omega arith

pub escape-short : (b : ℕ) → length (escape b) ≤ 6
escape-short b = selected (λ t. length t ≤ 6) escapes (unicode b) b (omega arith, (omega arith, (omega arith, (omega arith, (omega arith, (omega arith, tt)))))) (unicode-short b)

pub escaped-short : (t : List ℕ) → length (escaped t) ≤ 6 * length t
unfolding escaped
escaped-short [] = omega arith
escaped-short (b ∷ t) = simp length-append (omega (arith, escape-short b, escaped-short t))

ellipsis-short : (b : Bool) → length (ellipsis b) ≤ 3
ellipsis-short true = omega arith
ellipsis-short false = omega arith

-- a side of the context has no more bytes than were taken
part-short : (s : List ℕ) (at n : ℕ) → length (part s at n) ≤ n
part-short s at n = rw length-take (omega arith)

from-short : (t : List ℕ) → length (whole_from t) ≤ length t
unfolding whole_from
from-short t = rw length-drop (omega arith)

to-short : (t : List ℕ) → length (whole_to t) ≤ length t
unfolding whole_to
to-short t = rw length-take (omega arith)

-- ten bytes each side, a bar between them, and two ellipses
pub context-short : (s : List ℕ) (p : ℕ) → length (context s p) ≤ 27
unfolding context
context-short s p =
    let start = p - reach in
    let before = part s start (p - start) in
    let behind = part s p reach in
    simp length-append
    (omega (arith, ellipsis-short (eqb start 0), ellipsis-short (leb (length s) (p + reach)), from-short before, to-short behind, part-short s start (p - start), part-short s p reach))

keyword-short : (k : Keyword) → length (keyword_text k) ≤ 11
unfolding keyword_text
keyword-short key.Function = omega arith
keyword-short key.Constructor = omega arith
keyword-short key.Event = omega arith
keyword-short key.Error = omega arith

-- the longest is `expected end of declaration`
abbrev AtMost : Option (List ℕ) → Type 0
AtMost None = Unit {0}
AtMost (Some v) = length v ≤ 27

keyword-wording-short : (k : Option Keyword) → AtMost (expected_keyword k)
keyword-wording-short None = tt
keyword-wording-short (Some k) = simp length-append (omega (arith, keyword-short k))

wording-short : (w : Refusal) (k : Option Keyword) → AtMost (wording w k)
unfolding wording
wording-short w k =
    selected AtMost (wording_cases k) None (number w)
    (omega arith, (omega arith, (omega arith, (omega arith, (keyword-wording-short k, (omega arith, (omega arith, tt))))))) tt

-- no refusal of a reading call stands past the longest text
place_short : (c : Call) (s : List ℕ) (w : Refusal) (p : ℕ) → parse c s ≡ bad w p → p ≤ longest_text
unfolding parse admit
place_short c s w p e = go (ltb longest_text (length s)) refl
  where
    go : (b : Bool) → ltb longest_text (length s) ≡ b → p ≤ longest_text
    go true l = let q : bad TooLong 0 ≡ bad w p = rw (parse, admit, l) at e in let z : 0 ≡ p = cc in omega arith
    go false l = omega (arith, refusal-within c s w p e, ltb-false longest_text (length s) l)

-- `GEUSOMIN_MESSAGE_MAX`: no message has more than 256 bytes
pub message-short : (c : Call) (s u : List ℕ) → message_output c s ≡ writes u → length u ≤ 256
unfolding message_output message_text
message-short c s u e = go (parse c s) refl e
  where
    worded : (p : ℕ) → p ≤ longest_text → (o : Option (List ℕ)) → AtMost o → message_by s p o ≡ writes u → length u ≤ 256
    worded p h None l f = let q : [] ≡ u = cc in omega (arith, ap length q)
    worded p h (Some v) l f =
        let q : message_text s p v ≡ u = cc in
        rw (← q) (simp length-append (omega (arith, decimal-short 4 p (omega arith) (omega arith), escaped-short (context s p), context-short s p)))

    go : (a : Ans Declaration) → parse c s ≡ a → message_of s (wanted c s) a ≡ writes u → length u ≤ 256
    go (got d n) q f = let z : [] ≡ u = cc in omega (arith, ap length z)
    go (bad w p) q f = worded p (place_short c s w p q) (wording w (wanted c s)) (wording-short w (wanted c s)) f
    go (deep p) q f = let z : [] ≡ u = cc in omega (arith, ap length z)
