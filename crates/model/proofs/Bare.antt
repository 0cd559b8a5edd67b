-- The kind call reads exactly the spellings of the ABI Specification, within the limits. So what it reads has no names: it is the field of its kind.
-- Assumes nothing.
use mathlib.Core.Path.{◌≡◌, refl, sym, ◌∙◌, ap, subst}
use mathlib.Core.Logic.{◌↔◌}
use mathlib.Core.Bool.{Bool, true, false, ◌&&◌, ◌||◌, not}
use mathlib.Core.List.{List, [], ◌∷◌, ◌++◌, append_assoc, append-nil}
use Rattle.std.specs.Prelude.{Option, None, Some}
use Prim.Native.Nat.{ℕ, zero, suc, ◌+◌, ◌≤◌, ◌<◌}
use native.Mathlib.Omega.{arith}
use native.Mathlib.Numerals.{add-one}
use lib.Dec.{ltb, eqb, lit<}
use lib.ListN.{length, drop, get_or, take-append-drop}
use lib.Seq.{drop-length, drop-drop, drop-cons}
use borrow.Author.Tests.{eqb-true, not-true, ltb-false}
use Rattle.kinds.specs.Bytes.{comma, lparen, rparen, lbracket, rbracket, is_digit, is_letter}
use Rattle.kinds.specs.Kind.{is_kind, Suffix, suffix_text, Kind, Kinds, no_kind, more_kinds}
use Rattle.kinds.proofs.Logic.{left, right}
use Rattle.model.specs.declared.Refusal.TheVariants.{ExpectClose}
use Rattle.model.specs.declared.Sort.TheVariants.{Plain}
use Rattle.model.specs.Text.{span_from, span, one, valid_length, blank, skip, first, peek, word_length, run_byte, run_length, part}
use Rattle.model.specs.Tree.{Base, elementary, tuple, Field, field, Fields, no_field, more_fields, unmarked, arrays, base_kind, kind_of, kinds_of, suffixes_of, base_of, field_of}
use Rattle.model.specs.KindText.{Result, ok, err, inside, Spelled, from_str}
use Rattle.model.specs.Parser.{Found, found, missing, Ans, got, bad, deep, Parser, on_ans, then, require, why_not, look, take_char, word, keyword_of, look_ident, option, optional_name}
use Rattle.model.specs.Reading.{FieldKind, of_run, run_kind, closed, opened, array_suffix, suffixes_by, suffixes_in, suffixes, field_kind, marks, field_by, closing, follow, rest_by, rest, list, tuple_kind, deepest, longest_text, admit}
use Rattle.model.specs.Record.{encode_field, well_formed_field}
use Rattle.model.specs.Answer.{writes}
use Rattle.model.specs.Calls.{written, lone_field, crowded, closes, is_bare, all_of, tuple_by, read_tuple, read_kind, kind_output}
use Rattle.model.specs.Written.{suffixes_text, SpellsKind, SpellsList, SpellsRest, fits}
use Rattle.model.proofs.Scans.{skip-none, blank_nil, peek-byte, peek-inside}
use Rattle.model.proofs.Bounds.{tested}
use Rattle.model.proofs.Sound.{field-is-kind, kind-well-formed}
use Rattle.model.proofs.Spelling.{kind-call_admits}
use Rattle.model.proofs.Exact.{suffix-exact, run-spelled}
use Rattle.model.proofs.Lines.{field_fits}

-- a kind with suffixes, taken apart
pub arrays-base : (ss : List Suffix) (k : Kind) → base_of (arrays k ss) ≡ base_of k
unfolding arrays base_of
arrays-base [] k = refl
arrays-base (o ∷ ss) k = arrays-base ss (Kind.array k o)

pub arrays-suffixes : (ss : List Suffix) (k : Kind) → suffixes_of (arrays k ss) ≡ suffixes_of k ++ ss
unfolding arrays suffixes_of
arrays-suffixes [] k = sym (append-nil (suffixes_of k))
arrays-suffixes (o ∷ ss) k = arrays-suffixes ss (Kind.array k o) ∙ append_assoc (suffixes_of k) (o ∷ []) ss

pub base-suffixes : (b : Base) → suffixes_of (base_kind b) ≡ []
unfolding suffixes_of base_kind
base-suffixes (elementary e) = refl
base-suffixes (tuple fs) = refl

-- a kind with suffixes behind it
arrays-spelled : (ss : List Suffix) (k : Kind) (t : List ℕ) → SpellsKind k t → SpellsKind (arrays k ss) (t ++ suffixes_text ss)
unfolding arrays suffixes_text
arrays-spelled [] k t w = rw (append-nil t) w
arrays-spelled (o ∷ ss) k t w = rw (append_assoc t (suffix_text o) (suffixes_text ss)) at (arrays-spelled ss (Kind.array k o) (t ++ suffix_text o) (t, refl, w))

-- what holds of what a reading gives
abbrev Gives : {A : Type 0} → (A → ℕ → Type 0) → Ans A → Type 0
Gives P (got a n) = P a n
Gives P (bad w p) = Unit {0}
Gives P (deep p) = Unit {0}

module _ {A B : Type 0} (P : A → ℕ → Type 0) (Q : B → ℕ → Type 0) where
  gives_then : (r : Ans A) (f : A → ℕ → Ans B) → Gives P r → ((a : A) (n : ℕ) → P a n → Gives Q (f a n)) → Gives Q (then r f)
  unfolding then
  gives_then (got a n) f h k = k a n h
  gives_then (bad w p) f h k = tt
  gives_then (deep p) f h k = tt

  gives-on : (r : Ans A) (f : A → B) → Gives P r → ((a : A) (n : ℕ) → P a n → Q (f a) n) → Gives Q (on_ans f r)
  unfolding on_ans
  gives-on (got a n) f h k = k a n h
  gives-on (bad w p) f h k = tt
  gives-on (deep p) f h k = tt

-- a run ends where no byte of one stands
run-stops : (t : List ℕ) → run_byte (drop (run_length t) t) ≡ 0
unfolding run_length span_from
run-stops [] = refl
run-stops (c ∷ t) = go (eqb c comma || (eqb c rparen || not (eqb (blank (c ∷ t)) 0))) refl (run-stops t)
  where
    go : (b : Bool) → (eqb c comma || (eqb c rparen || not (eqb (blank (c ∷ t)) 0))) ≡ b → run_byte (drop (run_length t) t) ≡ 0 → run_byte (drop (run_length (c ∷ t)) (c ∷ t)) ≡ 0
    go true e ih = let z : run_byte (c ∷ t) ≡ 0 = rw (run_byte, e) in let y : run_length (c ∷ t) ≡ 0 = rw (run_length, span_from, z) in rw y z
    go false e ih = let z : run_byte (c ∷ t) ≡ 1 = rw (run_byte, e) in let y : run_length (c ∷ t) ≡ suc (run_length t) = rw (run_length, span_from, z) in rw y ih

run_ends : (s : List ℕ) (at : ℕ) → run_byte (drop (at + run_length (drop at s)) s) ≡ 0
run_ends s at = ap run_byte (sym (drop-drop (run_length (drop at s)) at s)) ∙ run-stops (drop at s)

-- a text without blanks, and without letters behind brackets that close
abbrev Clean : List ℕ → ℕ → Type 0
Clean s n = (blank (drop n s) ≡ 0) × (closes (first (drop n s)) ≡ true → is_letter (first (drop (suc n) s)) ≡ false)

module _ (s : List ℕ) (clean : (n : ℕ) → Clean s n) where
  here : (n : ℕ) → skip s n ≡ n
  here n = skip-none s n (clean n).0

  -- a bracket that closes stands before n
  abbrev Behind : ℕ → Type 0
  Behind n = (p : ℕ) × (n ≡ suc p) × (closes (first (drop p s)) ≡ true)

  -- what stands from a place on up to another
  abbrev Stood : ℕ → ℕ → List ℕ → Type 0
  Stood at n u = drop at s ≡ u ++ drop n s

  stood-then : (a b c : ℕ) (u v : List ℕ) → Stood a b u → Stood b c v → Stood a c (u ++ v)
  stood-then a b c u v p q = p ∙ ap (λ x. u ++ x) q ∙ sym (append_assoc u v (drop c s))

  part-stood : (at d : ℕ) → Stood at (at + d) (part s at d)
  part-stood at d = sym (take-append-drop d (drop at s)) ∙ ap (λ x. part s at d ++ x) (drop-drop d at s)

  -- a text of which P holds stands from a place on up to another
  abbrev Spans : ℕ → ℕ → (List ℕ → Type 0) → Type 0
  Spans at n P = (u : List ℕ) × Stood at n u × P u

  no_word : (t : List ℕ) → is_letter (first t) ≡ false → word_length t ≡ 0
  unfolding word_length
  no_word [] h = refl
  no_word (c ∷ t) h = rw (word_length, h)

  -- no word begins there
  abbrev Wordless : ℕ → Type 0
  Wordless n = word_length (drop n s) ≡ 0

  behind-wordless : (n : ℕ) → Behind n → Wordless n
  behind-wordless n (p, e, c) = rw e (no_word (drop (suc p) s) ((clean p).1 c))

  stop-wordless : (t : List ℕ) → blank t ≡ 0 → run_byte t ≡ 0 → word_length t ≡ 0
  unfolding word_length
  stop-wordless [] b h = refl
  stop-wordless (c ∷ t) b h = go (eqb c comma) (eqb c rparen) refl refl
    where
      go : (x y : Bool) → eqb c comma ≡ x → eqb c rparen ≡ y → word_length (c ∷ t) ≡ 0
      go true y e f = rw (eqb-true c comma e)
      go false true e f = rw (eqb-true c rparen f)
      go false false e f = let z : ◌≡◌ {A = ℕ} 1 0 = rw (run_byte, e, f, b) at h in absurd (omega arith)

  byte-there : (c at : ℕ) → c < 256 → peek s at ≡ c → Stood at (at + 1) (c ∷ [])
  byte-there c at b e =
      let q : drop at s ≡ get_or s at 0 ∷ drop (at + 1) s = rw add-one (drop-cons s at 0 (peek-inside s at c e b)) in
      q ∙ ap (λ x. x ∷ drop (at + 1) s) (sym (peek-byte s at (get_or s at 0) (drop (at + 1) s) q) ∙ e)

  -- a character that was found is the next
  abbrev FoundHere : ℕ → ℕ → Found (Unit {0}) → Type 0
  FoundHere c at (found u n) = (n ≡ at + 1) × Stood at n (c ∷ [])
  FoundHere c at missing = Unit {0}

  look-there : (c at : ℕ) → c < 256 → FoundHere c at (look c s at)
  unfolding look
  look-there c at b =
      let n : skip s at + 1 ≡ at + 1 = ap (λ p. p + 1) (here at) in
      tested (FoundHere c at) (eqb (peek s (skip s at)) c)
      (λ q. (n, rw n (byte-there c at b (ap (peek s) (sym (here at)) ∙ eqb-true (peek s (skip s at)) c q)))) (λ _. tt)

  shut-behind : (c at n : ℕ) → closes c ≡ true → n ≡ at + 1 → Stood at n (c ∷ []) → Behind n
  shut-behind c at n k e q = (at, omega arith, ap closes (ap first q) ∙ k)

  -- a suffix, and suffixes
  abbrev FoundSuffix : ℕ → Found Suffix → Type 0
  FoundSuffix at (found o n) = Behind n × Stood at n (suffix_text o)
  FoundSuffix at missing = Unit {0}

  suffix-of : (at : ℕ) → FoundSuffix at (array_suffix s at)
  unfolding array_suffix
  suffix-of at = go (look lbracket s at) (look-there lbracket at (lit< tt))
    where
      shut : (b d : ℕ) → Stood at b (lbracket ∷ []) → (x : Option Suffix) → inside (part s b d) ≡ x → (r : Found (Unit {0})) → FoundHere rbracket (b + d) r → FoundSuffix at (closed x r)
      shut b d q None e r h = tt
      shut b d q (Some o) e missing h = tt
      shut b d q (Some o) e (found u n) h =
          let m = part s b d in (
            shut-behind rbracket (b + d) n refl h.0 h.1,
            subst (Stood at n) (suffix-exact m o e) (stood-then at b n (lbracket ∷ []) (m ++ (rbracket ∷ [])) q (stood-then b (b + d) n m (rbracket ∷ []) (part-stood b d) h.1)),
          )

      go : (r : Found (Unit {0})) → FoundHere lbracket at r → FoundSuffix at (opened s r)
      go missing q = tt
      go (found u b) q = let d = span (one is_digit) (drop b s) in shut b d q.1 (inside (part s b d)) refl (look rbracket s (b + d)) (look-there rbracket (b + d) (lit< tt))

  abbrev SuffixesGive : ℕ → List Suffix → ℕ → Type 0
  SuffixesGive at ss n = Behind n × Stood at n (suffixes_text ss)

  suffixes_in_lem : (k at : ℕ) → Behind at → Gives (SuffixesGive at) (suffixes_in k s at)
  unfolding suffixes_in suffixes_text
  suffixes_in_lem zero at b = (b, refl)
  suffixes_in_lem (suc k) at b = go (array_suffix s at) (suffix-of at) (suffixes_in_lem k)
    where
      go : (r : Found Suffix) → FoundSuffix at r → ((n : ℕ) → Behind n → Gives (SuffixesGive n) (suffixes_in k s n)) → Gives (SuffixesGive at) (suffixes_by (suffixes_in k s) at r)
      go missing c ih = (b, refl)
      go (found o n) c ih = gives-on (SuffixesGive n) (SuffixesGive at) (suffixes_in k s n) (λ ss. o ∷ ss) (ih n c.0) (λ ss m q. (q.0, stood-then at n m (suffix_text o) (suffixes_text ss) c.1 q.1))

  -- a kind, behind which no word begins
  abbrev KindGives : ℕ → FieldKind → ℕ → Type 0
  KindGives at k n = Wordless n × Spans at n (SpellsKind (arrays (base_kind k.base) k.suffixes))

  run_of : (at : ℕ) → Gives (KindGives at) (run_kind s at)
  unfolding run_kind base_kind
  run_of at = go (from_str m) refl
    where
      m : List ℕ
      m = part s at (run_length (drop at s))

      n : ℕ
      n = at + run_length (drop at s)

      go : (r : Result Spelled) → from_str m ≡ r → Gives (KindGives at) (of_run r at n)
      go (ok k) e = (stop-wordless (drop n s) (clean n).0 (run_ends s at), (m, part-stood at (run_length (drop at s)), run-spelled m k e))
      go (err w) e = tt

  -- what a reader of tuples gives where a `(` stands
  abbrev ReadsTuples : Parser FieldKind → Type 0
  ReadsTuples T = (p : ℕ) → Stood p (p + 1) (lparen ∷ []) → Gives (KindGives p) (T s p)

  field-kind-of : (T : Parser FieldKind) → ReadsTuples T → (at : ℕ) → Gives (KindGives at) (field_kind T s at)
  unfolding field_kind
  field-kind-of T h at =
      subst (λ p. Gives (KindGives at) (elim (eqb (peek s p) lparen) [ true ↦ T s p | false ↦ run_kind s p ])) (sym (here at))
      (tested (Gives (KindGives at)) (eqb (peek s at) lparen) (λ e. h at (byte-there lparen at (lit< tt) (eqb-true (peek s at) lparen e))) (λ _. run_of at))

  -- no mark, and no name where no word begins
  no_name : (n : ℕ) → Wordless n → optional_name s n ≡ got [] n
  unfolding optional_name look_ident word
  no_name n h = rw (optional_name, look_ident, word, here n, h)

  abbrev FieldGives : ℕ → Field → ℕ → Type 0
  FieldGives at f n = Spans at n (SpellsKind (kind_of f))

  field-of : (T : Parser FieldKind) → ReadsTuples T → (at : ℕ) → Gives (FieldGives at) (field_by Plain T s at)
  unfolding field_by marks option keyword_of then kind_of
  field-of T h at = gives_then (KindGives at) (FieldGives at) (field_kind T s at) _ (field-kind-of T h at) (λ k n q. named k n q.1 (optional_name s n) (no_name n q.0))
    where
      named : (k : FieldKind) (n : ℕ) → Spans at n (SpellsKind (arrays (base_kind k.base) k.suffixes)) → (r : Ans (List ℕ)) → r ≡ got [] n
          → Gives (FieldGives at) (then r (λ nm m. got (field unmarked nm k.base k.suffixes) m))
      named k n g r e = rw e g

  -- the kinds of a list, spelled so, and a bracket that closes it
  abbrev ListGives : (Kinds → List ℕ → Type 0) → ℕ → Fields → ℕ → Type 0
  ListGives P at fs n = Behind n × Spans at n (P (kinds_of fs))

  -- P says how the kinds of a list are spelled: from its beginning, or behind a kind
  module _ (P : Kinds → List ℕ → Type 0) (none_left : P no_kind (rparen ∷ [])) where
    close_of : (at : ℕ) → Gives (ListGives P at) (closing s at)
    unfolding closing take_char on_ans kinds_of
    close_of at = go (look rparen s at) (look-there rparen at (lit< tt))
      where
        go : (r : Found (Unit {0})) → FoundHere rparen at r → Gives (ListGives P at) (on_ans (λ _. no_field) (require (why_not ExpectClose (peek s (skip s at))) (skip s at) r))
        go (found u n) q = (shut-behind rparen at n refl q.0 q.1, (rparen ∷ [], q.1, none_left))
        go missing q = tt

    -- g stands between a list's place and its next field's
    follow-of : (g : List ℕ) → ((k : Kind) (ks : Kinds) (u v : List ℕ) → SpellsKind k u → SpellsRest ks v → P (more_kinds k ks) (g ++ (u ++ v)))
        → (R : ℕ → Ans Fields) → ((n : ℕ) → Gives (ListGives SpellsRest n) (R n)) → (at b : ℕ) → Stood at b g → (r : Ans Field) → Gives (FieldGives b) r → Gives (ListGives P at) (follow R s at r)
    unfolding kinds_of
    follow-of g one_more R k at b e (got f n) (u, p, w) =
        gives-on (ListGives SpellsRest n) (ListGives P at) (R n) (more_fields f) (k n) (λ fs m (c, (v, q, z)).
        (c, (g ++ (u ++ v), stood-then at b m g (u ++ v) e (stood-then b n m u v p q), one_more (kind_of f) (kinds_of fs) u v w z)))
    follow-of g one_more R k at b e (bad w p) q = close_of at
    follow-of g one_more R k at b e (deep p) q = tt

  module _ (F : Parser Field) (h : (at : ℕ) → Gives (FieldGives at) (F s at)) where
    rest_of : (k at : ℕ) → Gives (ListGives SpellsRest at) (rest F k s at)
    unfolding rest
    rest_of zero at = close_of SpellsRest refl at
    rest_of (suc k) at = go (look comma s at) (look-there comma at (lit< tt)) (rest_of k)
      where
        go : (r : Found (Unit {0})) → FoundHere comma at r → ((n : ℕ) → Gives (ListGives SpellsRest n) (rest F k s n)) → Gives (ListGives SpellsRest at) (rest_by F (rest F k s) s at r)
        go missing q ih = close_of SpellsRest refl at
        go (found u n) q ih = follow-of SpellsRest refl (comma ∷ []) (λ k ks u v w z. (u, v, refl, w, z)) (rest F k s) ih at n q.1 (F s n) (h n)

    list_of : (at : ℕ) → Gives (ListGives SpellsList at) (list F s at)
    unfolding list
    list_of at = follow-of SpellsList refl [] (λ k ks u v w z. (u, v, refl, w, z)) (rest F (length s) s) (rest_of (length s)) at at refl (F s at) (h at)

  tuple-of : (d : ℕ) → ReadsTuples (tuple_kind d)
  unfolding tuple_kind base_kind suffixes
  tuple-of zero p e = tt
  tuple-of (suc d) p e =
      gives_then (ListGives SpellsList (p + 1)) (KindGives p) (list (field_by Plain (tuple_kind d)) s (p + 1)) _ (list_of (field_by Plain (tuple_kind d)) (field-of (tuple_kind d) (tuple-of d)) (p + 1)) (λ fs n (b, (u, q, w)).
      gives-on (SuffixesGive n) (KindGives p) (suffixes s n) (λ ss. record { base = tuple fs; suffixes = ss }) (suffixes_in_lem (length s) n b) (λ ss m (c, r). (
        behind-wordless m c,
        (
          (lparen ∷ u) ++ suffixes_text ss,
          stood-then p n m (lparen ∷ u) (suffixes_text ss) (stood-then p (p + 1) n (lparen ∷ []) u e q) r,
          arrays-spelled ss (Kind.tuple (kinds_of fs)) (lparen ∷ u) (u, refl, w),
        ),
      )))

-- what the scan of a text says of each of its places
all_clean : (t : List ℕ) (b : Bool) → is_bare b t ≡ true → (n : ℕ) → Clean t n
unfolding is_bare
all_clean [] b h zero = (blank_nil, λ e. refl)
all_clean [] b h (suc n) = (blank_nil, λ e. refl)
all_clean (c ∷ t) b h zero = (eqb-true (blank (c ∷ t)) 0 (left _ h), λ e. next t (right (not (b && is_letter c)) (right (eqb (blank (c ∷ t)) 0) h)) e)
  where
    next : (u : List ℕ) → is_bare (closes c) u ≡ true → closes c ≡ true → is_letter (first u) ≡ false
    next [] q e = refl
    next (d ∷ u) q e = not-true (is_letter d) (rw e at (left {a = not (closes c && is_letter d)} _ (right (eqb (blank (d ∷ u)) 0) q)))
all_clean (c ∷ t) b h (suc n) = all_clean t (closes c) (right (not (b && is_letter c)) (right (eqb (blank (c ∷ t)) 0) h)) n

-- The kind call.

-- what it reads is a spelling of its kind, whole
abbrev Spells : List ℕ → Field → ℕ → Type 0
Spells s f n = (n ≡ 0) × SpellsKind (kind_of f) s

lone-spelled : (s : List ℕ) (r : Result Spelled) → from_str s ≡ r → Gives (Spells s) (lone_field r)
unfolding kind_of base_kind
lone-spelled s (ok k) e = (refl, run-spelled s k e)
lone-spelled s (err w) e = tt

tuple-spelled : (s : List ℕ) → Gives (Spells s) (read_tuple s)
unfolding read_tuple
tuple-spelled s = go (crowded deepest 0 s)
  where
    whole : (r : Ans Field) → Gives (λ f n. (u : List ℕ) × (s ≡ u ++ drop n s) × SpellsKind (kind_of f) u) r → Gives (Spells s) (all_of (length s) r)
    whole (got f n) (u, e, w) = tested (Gives (Spells s)) (eqb n (length s))
        (λ q. (refl, subst (SpellsKind (kind_of f)) (sym (e ∙ ap (λ p. u ++ drop p s) (eqb-true n (length s) q) ∙ ap (λ x. u ++ x) (drop-length s) ∙ append-nil u)) w)) (λ _. tt)
    whole (bad w p) q = tt
    whole (deep p) q = tt

    go : (o : Option ℕ) → Gives (Spells s) (tuple_by s o)
    go (Some p) = tt
    go None = tested (Gives (Spells s)) (is_bare false s)
        (λ e. whole (field_by Plain (tuple_kind deepest) s 0) (field-of s (all_clean s false e) (tuple_kind deepest) (tuple-of s (all_clean s false e) deepest) 0)) (λ _. tt)

read-spelled : (s : List ℕ) → Gives (Spells s) (read_kind s)
unfolding read_kind
read-spelled s = tested (Gives (Spells s)) (eqb (peek s 0) lparen) (λ _. tuple-spelled s) (λ _. lone-spelled s (from_str s) refl)

-- with the limits
abbrev Within : List ℕ → Field → ℕ → Type 0
Within s f n = Spells s f n × (length s ≤ longest_text)

admitted : (s : List ℕ) → Gives (Within s) (admit read_kind s)
unfolding admit
admitted s = tested (Gives (Within s)) (ltb longest_text (length s)) (λ _. tt) (λ q.
    tested (Gives (Within s)) (ltb (valid_length s) (length s)) (λ _. tt) (λ _. short (ltb-false longest_text (length s) q) (read_kind s) (read-spelled s)))
  where
    short : length s ≤ longest_text → (r : Ans Field) → Gives (Spells s) r → Gives (Within s) r
    short l (got f n) h = (h, l)
    short l (bad w p) h = tt
    short l (deep p) h = tt

pub kind-call-only : (s : List ℕ) (f : Field) (n : ℕ) → admit read_kind s ≡ got f n
    → (n ≡ 0) × SpellsKind (kind_of f) s × (is_kind (kind_of f) ≡ true) × (fits deepest (kind_of f) ≡ true) × (length s ≤ longest_text)
unfolding well_formed_field
kind-call-only s f n e =
    let ((z, w), l) = subst (Gives (Within s)) e (admitted s) in
    let v = left _ (kind-well-formed s f n e) in
    (z, w, field-is-kind f Plain deepest v, field_fits f Plain deepest v, l)

-- so it is the field of its kind, without a mark and names
pub kind-bare : (s : List ℕ) (f : Field) (n : ℕ) → admit read_kind s ≡ got f n → field_of (kind_of f) ≡ f
kind-bare s f n e =
    let (z, w, k, d, l) = kind-call-only s f n e in
    let q : got (field_of (kind_of f)) 0 ≡ got f n = sym (kind-call_admits (kind_of f) s w k d l) ∙ e in
    cc

-- and the call writes exactly the records of the specification's kinds, of exactly their spellings
pub kind-call-exactly : (s b : List ℕ)
    → (kind_output s ≡ writes b) ↔ ((k : Kind) × SpellsKind k s × (is_kind k ≡ true) × (fits deepest k ≡ true) × (length s ≤ longest_text) × (b ≡ encode_field 4 (field_of k)))
unfolding kind_output written
kind-call-exactly s b = (λ e. only (admit read_kind s) refl e, λ (k, w, v, d, l, q). rw (kind-call_admits k s w v d l, q))
  where
    output-of : (f : Field) (n : ℕ) → written (encode_field 4) (got f n) ≡ writes b → b ≡ encode_field 4 f
    output-of f n q = cc

    only : (r : Ans Field) → admit read_kind s ≡ r → written (encode_field 4) r ≡ writes b
        → (k : Kind) × SpellsKind k s × (is_kind k ≡ true) × (fits deepest k ≡ true) × (length s ≤ longest_text) × (b ≡ encode_field 4 (field_of k))
    only (got f n) e q =
        let (z, w, v, d, l) = kind-call-only s f n e in
        (kind_of f, w, v, d, l, output-of f n q ∙ ap (encode_field 4) (sym (kind-bare s f n e)))
    only (bad w p) e q = let z : ◌≡◌ {A = ℕ} 0 1 = cc in absurd (omega arith)
    only (deep p) e q = let z : ◌≡◌ {A = ℕ} 0 1 = cc in absurd (omega arith)
