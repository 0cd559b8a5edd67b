-- A canonical text, or a signature, with anything behind it is what a strip begins with.
-- Assumes nothing.
use mathlib.Core.Path.{◌≡◌, refl, sym, ◌∙◌, ap}
use mathlib.Core.Bool.{true, false, false≢true}
use mathlib.Core.List.{List, [], ◌∷◌, ◌++◌, append_assoc}
use Rattle.std.specs.Prelude.{Option, None, Some}
use Prim.Native.Nat.{ℕ, suc, ◌+◌, ◌-◌}
use native.Mathlib.Omega.{arith}
use lib.Dec.{eqb}
use lib.ListN.{length, drop, length-append}
use borrow.Author.Tests.{ne_eqb}
use Rattle.kinds.specs.Bytes.{ascii, lparen, rparen, comma, lbracket, rbracket, all, is_word_byte, is_word}
use Rattle.kinds.specs.Decimal.{decimal}
use Rattle.kinds.specs.Kind.{Suffix, sized, unsized, Kind, elementary, tuple, array, Kinds, no_kind, more_kinds, elementary_text, suffix_text, kind_text, list_text, rest_text, Prototype, canonical}
use Rattle.kinds.specs.Signatures.{Signature, signature}
use Rattle.kinds.proofs.Logic.{left, right}
use Rattle.kinds.proofs.Decimal.{decimal-word}
use Rattle.kinds.proofs.Joined.{elementary-word}
use Rattle.model.specs.Text.{word_length}
use Rattle.model.proofs.Scans.{word-written}
use Rattle.strip.specs.Strip.{behind, or_closed, closing, brackets, next_line, outputs, next_signature}

pub behind-behind : (m n : ℕ) (o : Option ℕ) → behind m (behind n o) ≡ behind (m + n) o
behind-behind m n None = refl
behind-behind m n (Some k) = ap Some (omega arith)

-- bytes that leave as many brackets open as there were, and one at least all the while
abbrev Passed : List ℕ → Type 0
Passed u = (d : ℕ) (t : List ℕ) → closing (suc d) (u ++ t) ≡ behind (length u) (closing (suc d) t)

-- one byte that is no bracket
byte_passed : (c : ℕ) → eqb c lparen ≡ false → eqb c rparen ≡ false → Passed (c ∷ [])
unfolding closing
byte_passed c h k d t = rw (h, k)

nothing_passed : Passed []
nothing_passed d t = go (closing (suc d) t)
  where
    go : (o : Option ℕ) → o ≡ behind 0 o
    go None = refl
    go (Some n) = ap Some (omega arith)

both_passed : (u v : List ℕ) → Passed u → Passed v → Passed (u ++ v)
both_passed u v p q d t =
    ap (closing (suc d)) (append_assoc u v t) ∙ p d (v ++ t) ∙ ap (behind (length u)) (q d t) ∙ behind-behind (length u) (length v) (closing (suc d) t) ∙ rw (length-append u v)

word_passed : (w : List ℕ) → all is_word_byte w ≡ true → Passed w
word_passed [] h = nothing_passed
word_passed (c ∷ w) h =
    both_passed (c ∷ []) w
    (byte_passed c (ne_eqb c lparen (λ q. false≢true (ap is_word_byte (sym q) ∙ left _ h))) (ne_eqb c rparen (λ q. false≢true (ap is_word_byte (sym q) ∙ left _ h))))
    (word_passed w (right (is_word_byte c) h))

suffix_passed : (s : Suffix) → Passed (suffix_text s)
unfolding suffix_text
suffix_passed (sized n) =
    both_passed (lbracket ∷ []) (decimal n ++ (rbracket ∷ [])) (byte_passed lbracket refl refl) (both_passed (decimal n) (rbracket ∷ []) (word_passed (decimal n) (decimal-word n)) (byte_passed rbracket refl refl))
suffix_passed unsized = both_passed (lbracket ∷ []) (rbracket ∷ []) (byte_passed lbracket refl refl) (byte_passed rbracket refl refl)

-- bytes that close one bracket, the last of them
abbrev Closed : List ℕ → Type 0
Closed u = (d : ℕ) (t : List ℕ) → closing (suc d) (u ++ t) ≡ behind (length u) (or_closed d (closing d t))

bracket_closed : Closed (rparen ∷ [])
unfolding closing
bracket_closed d t =
    let e : suc d - 1 ≡ d = omega arith in
    rw e

then-closed : (u v : List ℕ) → Passed u → Closed v → Closed (u ++ v)
then-closed u v p q d t =
    ap (closing (suc d)) (append_assoc u v t) ∙ p d (v ++ t) ∙ ap (behind (length u)) (q d t) ∙ behind-behind (length u) (length v) (or_closed d (closing d t)) ∙ rw (length-append u v)

open_passed : (u : List ℕ) → Closed u → Passed (lparen ∷ u)
unfolding closing
open_passed u q d t = ap (behind 1) (q (suc d) t) ∙ behind-behind 1 (length u) (closing (suc d) t) ∙ ap (λ n. behind n (closing (suc d) t)) (omega arith)

mutual
  unfolding kind_text list_text rest_text

  kind_passed : (k : Kind) → Passed (kind_text k)
  kind_passed (elementary e) = word_passed (elementary_text e) (elementary-word e)
  kind_passed (tuple ks) = open_passed (list_text ks) (list-closed ks)
  kind_passed (array k s) = both_passed (kind_text k) (suffix_text s) (kind_passed k) (suffix_passed s)

  list-closed : (ks : Kinds) → Closed (list_text ks)
  list-closed no_kind = bracket_closed
  list-closed (more_kinds k ks) = then-closed (kind_text k) (rest_text ks) (kind_passed k) (rest-closed ks)

  rest-closed : (ks : Kinds) → Closed (rest_text ks)
  rest-closed no_kind = bracket_closed
  rest-closed (more_kinds k ks) =
      then-closed (comma ∷ []) (kind_text k ++ rest_text ks) (byte_passed comma refl refl) (then-closed (kind_text k) (rest_text ks) (kind_passed k) (rest-closed ks))

brackets-text : (ks : Kinds) (t : List ℕ) → brackets (kind_text (tuple ks) ++ t) ≡ Some (length (kind_text (tuple ks)))
unfolding kind_text
brackets-text ks t = ap (behind 1) (list-closed ks 0 t) ∙ ap Some (omega arith)

drop-front : (u t : List ℕ) → drop (length u) (u ++ t) ≡ t
drop-front [] t = refl
drop-front (c ∷ u) t = drop-front u t

-- the line of a name that is a word
pub line_first : (p : Prototype) (t : List ℕ) → is_word p.name ≡ true → next_line (canonical p ++ t) ≡ Some (length (canonical p))
unfolding next_line canonical kind_text
line_first p t h =
    let r : List ℕ = kind_text (tuple p.kinds) ++ t in
    let e : word_length (p.name ++ r) ≡ length p.name = word-written p.name r h refl in
    ap next_line (append_assoc p.name (kind_text (tuple p.kinds)) t) ∙ go p.name r h e (brackets-text p.kinds t) ∙ rw (length-append p.name (kind_text (tuple p.kinds)))
  where
    go : (w r : List ℕ) → is_word w ≡ true → word_length (w ++ r) ≡ length w → {m : ℕ} → brackets r ≡ Some m → next_line (w ++ r) ≡ Some (length w + m)
    go [] r h e f = cc
    go (c ∷ w) r h e f = rw e (ap (behind (length (c ∷ w))) (ap brackets (drop-front (c ∷ w) r) ∙ f))

-- and its signature
pub signature-first : (f : Signature) (t : List ℕ) → is_word f.name ≡ true → next_signature (signature f ++ t) ≡ Some (length (signature f))
unfolding next_signature signature
signature-first f t h =
    let p : Prototype = record { name = f.name; kinds = f.inputs } in
    let u : List ℕ = kind_text (tuple f.outputs) in
    let r : List ℕ = ascii ":" ++ (u ++ t) in
    let line : next_line (canonical p ++ r) ≡ Some (length (canonical p)) = line_first p r h in
    let there : next_signature (canonical p ++ r) ≡ behind (length (canonical p)) (outputs (drop (length (canonical p)) (canonical p ++ r))) = rw line in
    let rest : outputs (drop (length (canonical p)) (canonical p ++ r)) ≡ Some (1 + length u) = ap outputs (drop-front (canonical p) r) ∙ ap (behind 1) (brackets-text f.outputs t) in
    ap next_signature (append_assoc (canonical p) (ascii ":" ++ u) t) ∙ there ∙ ap (behind (length (canonical p))) rest ∙ ap Some (omega (arith, length-append (canonical p) (ascii ":" ++ u)))

-- nothing is left of no bytes
pub no_line_lem : next_line [] ≡ None
unfolding next_line word_length
no_line_lem = refl

pub no_signature_lem : next_signature [] ≡ None
unfolding next_signature next_line word_length
no_signature_lem = refl
