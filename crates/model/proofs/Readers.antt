-- Each reader: what it reads is valid, its record takes at most 10 bytes for each byte read, and places lie within the text.
-- Assumes nothing.
use mathlib.Core.Path.{◌≡◌, refl, sym, ap, subst}
use mathlib.Core.Bool.{Bool, true, false, ◌&&◌, or-true}
use mathlib.Core.List.{List, [], ◌∷◌}
use Rattle.std.specs.Prelude.{Option, None, Some}
use Prim.Native.Nat.{ℕ, zero, suc, ◌+◌, ◌*◌, ◌≤◌, ◌<◌}
use native.Mathlib.Omega.{arith}
use lib.Dec.{leb, eqb, lit<}
use lib.ListN.{length, take, drop, length-append, length-drop}
use lib.Seq.{length-take-le}
use borrow.Author.Tests.{eqb-true}
use Rattle.kinds.specs.Bytes.{ascii, comma, lparen, rparen, lbracket, rbracket, semicolon, all, is_digit, is_letter, is_word_byte, is_word}
use Rattle.kinds.specs.Kind.{Suffix}
use Rattle.kinds.proofs.Logic.{both}
use Rattle.model.specs.declared.Refusal.{Refusal}
use Rattle.model.specs.declared.Refusal.TheVariants.{ExpectOpen, ExpectClose}
use Rattle.model.specs.declared.Sort.{Sort}
use Rattle.model.specs.declared.Sort.TheVariants.{Plain, Parameter}
use Rattle.model.specs.Text.{span_from, span, one, skip, peek, word_length, run_byte, run_length, part}
use Rattle.model.specs.Tree.{tuple, Field, field, Fields, no_field, more_fields, unmarked, not_stated}
use Rattle.model.specs.KindText.{Result, ok, err, Entry, entry, lookup, inside, Spelled, from_str}
use Rattle.model.specs.Parser.{Found, Ans, Parser, or_else, look, why_not, take_char, word, word_end, found_by, keyword_of, is_ident, look_ident, ident, keyword, option, optional_name, end}
use Rattle.model.specs.Reading.{FieldKind, of_run, run_kind, closed, opened, array_suffix, suffixes_by, suffixes_in, suffixes, field_kind, marks, field_by, closing, follow, rest_by, rest, list, tuple_kind, deepest, fields, mutabilities, visibilities, visibility, visibility_unless, modifiers, returns_by, returns}
use Rattle.model.specs.Record.{encode_suffix, encode_suffixes, encode_base, encode_field, encode_fields, is_field_name, is_suffix, has_mark, is_mark, is_base, is_field, are_fields, are_inputs}
use Rattle.model.proofs.Scans.{span_le, peek-inside, skip_le, skip-within}
use Rattle.model.proofs.Holds.{Of, reads, refuses, opens, Seen, sees, misses, Finds, Read, Any, OneChar, then-of, on_of, as_of, require-of, or_of, read, gives, finds}
use Rattle.model.proofs.Marks.{lookup-has}
use Rattle.model.proofs.Bounds.{tested, In, Right, Entries, lookup-of, Inside, inside_of, Spells, spelled, record_size, field-size}

-- laws of scanning

-- the bytes that a span of bytes covers pass its test
pub span-all : (p : ℕ → Bool) (t : List ℕ) → all p (take (span (one p) t) t) ≡ true
unfolding span_from
span-all p [] = refl
span-all p (c ∷ t) = go (p c) refl (span-all p t)
  where
    go : (b : Bool) → p c ≡ b → all p (take (span (one p) t) t) ≡ true → all p (take (span (one p) (c ∷ t)) (c ∷ t)) ≡ true
    go true e h = rw (span_from, one, e) (both e h)
    go false e h = rw (span_from, one, e) refl

pub word_le : (t : List ℕ) → word_length t ≤ length t
unfolding word_length
word_le [] = omega arith
word_le (c ∷ t) = tested (λ n. n ≤ suc (length t)) (is_letter c) (λ e. omega (arith, span_le (one is_word_byte) t)) (λ e. omega arith)

word-named : (t : List ℕ) → is_field_name (take (word_length t) t) ≡ true
unfolding word_length
word-named [] = refl
word-named (c ∷ t) = tested (λ n. is_field_name (take n (c ∷ t)) ≡ true) (is_letter c) (λ e. both e (span-all is_word_byte t)) (λ e. refl)

-- what stands for a name is a word, or nothing
word-is-name : (s : List ℕ) (at : ℕ) → is_field_name (word s at) ≡ true
unfolding word
word-is-name s at = word-named (drop (skip s at) s)

-- a word lies between the place where it is looked for and its end
word-places : (s : List ℕ) (at : ℕ) → at ≤ length s → (at + length (word s at) ≤ word_end s at) × (word_end s at ≤ length s)
unfolding word word_end
word-places s at h =
    let p = skip s at in
    let k = word_le (drop p s) in
    omega (arith, skip_le s at, skip-within s at h, length-take-le (word_length (drop p s)) (drop p s) k, length-drop p s)

run_le : (t : List ℕ) → run_length t ≤ length t
unfolding run_length
run_le t = span_le run_byte t

-- Characters and words.

module _ (s : List ℕ) where
  look-of : (c at : ℕ) → c < 256 → at ≤ length s → Finds (OneChar s at) (look c s at)
  unfolding look
  look-of c at b h =
      tested (Finds (OneChar s at)) (eqb (peek s (skip s at)) c)
      (λ e. let k = peek-inside s (skip s at) c (eqb-true _ _ e) b in finds tt (omega (arith, skip_le s at)) (omega arith))
      (λ e. misses tt)

  take-char-of : (c at : ℕ) (w : Refusal) → c < 256 → at ≤ length s → Of s (OneChar s at) (take_char c w s at)
  unfolding take_char
  take-char-of c at w b h = require-of (why_not w (peek s (skip s at))) (skip-within s at h) (look-of c at b h) (λ _ _ k. k)

  keyword_in_lem : {A : Type 0} (Q : List ℕ → A → Type 0) (es : List (Entry A)) (at : ℕ) → at ≤ length s → Entries Q es
      → Finds (Read s (λ a n. Q (word s at) a) (λ _. 10 * length (word s at)) at) (keyword_of es s at)
  unfolding keyword_of
  keyword_in_lem {A} Q es at h q = go (lookup es (word s at)) (lookup-of Q es (word s at) q)
    where
      go : (o : Option A) → In (Q (word s at)) o → Finds (Read s (λ a n. Q (word s at) a) (λ _. 10 * length (word s at)) at) (found_by o (word_end s at))
      go None k = misses tt
      go (Some a) k = let w = word-places s at h in
          finds k (omega arith) w.1

  pub keyword-of : (w : List ℕ) (at : ℕ) → at ≤ length s → Of s (Read s (λ _ _. word s at ≡ w) (λ _. 10 * length w) at) (keyword w s at)
  unfolding keyword
  keyword-of w at h = require-of _ h (keyword_in_lem (λ v _. v ≡ w) (entry w tt ∷ []) at h (refl, tt)) (λ _ _ k. read k.holds (omega (arith, ap length k.holds)) k.within)

  pub option-of : {A : Type 0} (P : A → Type 0) (es : List (Entry A)) (d : A) (at : ℕ) → at ≤ length s → Entries (λ _. P) es → P d
      → Of s (Read s (λ a _. P a) (λ _. 0) at) (option es d s at)
  unfolding option
  option-of P es d at h q k = or_of d at (keyword_in_lem (λ _. P) es at h q) (λ _ _ r. read r.holds (omega arith) r.within) (λ _. read k (omega arith) h)

  look-ident-of : (at : ℕ) → at ≤ length s → Seen (Read s (λ nm _. (nm ≡ word s at) × (is_word nm ≡ true)) length at) (word s at ≡ []) (look_ident s at)
  unfolding look_ident
  look-ident-of at h = go (word s at) refl
    where
      go : (w : List ℕ) → word s at ≡ w → Seen (Read s (λ nm _. (nm ≡ word s at) × (is_word nm ≡ true)) length at) (word s at ≡ []) (is_ident w (word_end s at))
      go [] e = misses e
      go (c ∷ w) e = let k = word-places s at h in
          finds (sym e, subst (λ v. is_field_name v ≡ true) e (word-is-name s at)) (omega (arith, ap length e)) k.1

  pub ident-of : (at : ℕ) → at ≤ length s → Of s (Read s (λ nm _. is_word nm ≡ true) length at) (ident s at)
  unfolding ident
  ident-of at h = require-of _ h (look-ident-of at h) (λ _ _ k. read k.holds.1 k.paid k.within)

  -- the name is the word that stands there, also if none does
  pub name-of : (at : ℕ) → at ≤ length s → Of s (Read s (λ nm _. nm ≡ word s at) length at) (optional_name s at)
  unfolding optional_name
  name-of at h = or_of [] at (look-ident-of at h) (λ _ _ k. read k.holds.0 k.paid k.within) (λ e. read (sym e) (omega arith) h)

  pub end_of : (at : ℕ) → at ≤ length s → Of s (Read s Any (λ _. 0) at) (end s at)
  unfolding end
  end_of at h =
      then-of {P = Read s Any (λ _. 0) at} (or_of tt at (look-of semicolon at (lit< tt) h) (λ _ _ k. read tt (omega arith) k.within) (λ _. read tt (omega arith) h))
      (λ _ n k. tested (Of s (Read s Any (λ _. 0) at)) (eqb (peek s (skip s n)) 256)
      (λ _. gives tt (omega (arith, skip_le s n)) (skip-within s n k.within)) (λ _. refuses (skip-within s n k.within)))

-- Kinds and their suffixes.

abbrev OneSuffix : List ℕ → ℕ → Suffix → ℕ → Type 0
OneSuffix s = Read s (λ o _. is_suffix o ≡ true) (λ o. length (encode_suffix 4 o))

abbrev pub Suffixes : List ℕ → ℕ → List Suffix → ℕ → Type 0
Suffixes s = Read s (λ ss _. all is_suffix ss ≡ true) (λ ss. length (encode_suffixes 4 ss))

-- a field's kind, in which d tuples may nest, with the 14 bytes that a field of it has besides
abbrev OneKind : List ℕ → ℕ → ℕ → FieldKind → ℕ → Type 0
OneKind s d = Read s (λ k _. (is_base d k.base && all is_suffix k.suffixes) ≡ true) (λ k. 14 + length (encode_base 4 k.base) + length (encode_suffixes 4 k.suffixes))

module _ (s : List ℕ) where
  pub run-kind-of : (d at : ℕ) → at ≤ length s → Of s (OneKind s d at) (run_kind s at)
  unfolding run_kind is_base encode_base
  run-kind-of d at h = go (from_str (part s at n)) (spelled (part s at n))
    where
      n : ℕ
      n = run_length (drop at s)

      go : (r : Result Spelled) → Right (Spells (part s at n)) r → Of s (OneKind s d at) (of_run r at (at + n))
      go (ok k) q =
          let l = run_le (drop at s) in
          gives (both q.valid q.lengths) (omega (arith, length-take-le n (drop at s) l)) (omega (arith, l, length-drop at s))
      go (err w) q = refuses h

  array-suffix-of : (at : ℕ) → at ≤ length s → Finds (OneSuffix s at) (array_suffix s at)
  unfolding array_suffix
  array-suffix-of at h = go (look-of s lbracket at (lit< tt) h)
    where
      close : {r : Found (Unit {0})} {b : ℕ} (m : List ℕ) (x : Option Suffix) → at + 1 + length m ≤ b → In (Inside m) x → Finds (OneChar s b) r → Finds (OneSuffix s at) (closed x r)
      close m None l i k = misses tt
      close m (Some o) l i (misses k) = misses tt
      close m (Some o) l i (sees k) = finds i.valid (omega arith) k.within

      go : {r : Found (Unit {0})} → Finds (OneChar s at) r → Finds (OneSuffix s at) (opened s r)
      go (misses k) = misses tt
      go (sees {n = n} k) =
          let d = span (one is_digit) (drop n s) in
          let l = span_le (one is_digit) (drop n s) in
          let m = part s n d in
          close m (inside m) (omega (arith, length-take-le d (drop n s) l)) (inside_of m) (look-of s rbracket (n + d) (lit< tt) (omega (arith, l, length-drop n s)))

  suffixes_in_lem : (k at : ℕ) → at ≤ length s → Of s (Suffixes s at) (suffixes_in k s at)
  unfolding suffixes_in encode_suffixes
  suffixes_in_lem zero at h = gives refl (omega arith) h
  suffixes_in_lem (suc k) at h = go (array-suffix-of at h) (λ n. suffixes_in_lem k n)
    where
      go : {r : Found Suffix} → Finds (OneSuffix s at) r → ((n : ℕ) → n ≤ length s → Of s (Suffixes s n) (suffixes_in k s n)) → Of s (Suffixes s at) (suffixes_by (suffixes_in k s) at r)
      go (misses q) ih = gives refl (omega arith) h
      go (sees {a = o} {n = n} q) ih =
          on_of (λ ss. o ∷ ss) (ih n q.within) (λ ss m r. read (both q.holds r.holds) (simp length-append (omega arith)) r.within)

  suffixes-of : (at : ℕ) → at ≤ length s → Of s (Suffixes s at) (suffixes s at)
  unfolding suffixes
  suffixes-of at h = suffixes_in_lem (length s) at h

-- Fields and lists.

abbrev pub OneField : List ℕ → Sort → ℕ → ℕ → Field → ℕ → Type 0
OneField s sort d = Read s (λ f _. is_field sort d f ≡ true) (λ f. length (encode_field 4 f))

field-further : {s : List ℕ} {P : Field → ℕ → Type 0} {at n : ℕ} (f : Field) → Read s P (λ g. length (encode_field 4 g)) at f n → at < n
field-further (field m nm b ss) q = omega (arith, field-size m nm b ss)

-- the fields of a list, with its `)`
abbrev pub Listed : List ℕ → Sort → ℕ → ℕ → Fields → ℕ → Type 0
Listed s sort d = Read s (λ fs _. are_fields sort d fs ≡ true) (λ fs. 10 + length (encode_fields 4 fs))

module _ (s : List ℕ) where
  field-kind-of : (T : Parser FieldKind) (d at : ℕ) → ((p : ℕ) → p < length s → Of s (OneKind s d p) (T s p)) → at ≤ length s → Of s (OneKind s d at) (field_kind T s at)
  unfolding field_kind
  field-kind-of T d at t h = let p = skip s at in
      as_of
      (tested (Of s (OneKind s d p)) (eqb (peek s p) lparen) (λ e. t p (peek-inside s p lparen (eqb-true _ _ e) (lit< tt))) (λ e. run-kind-of s d p (skip-within s at h)))
      (λ k n q. read q.holds (omega (arith, skip_le s at)) q.within)

  -- the mark suits the word behind it: a mark word is no name where it is a mark
  mark_of : (es : List (Entry ℕ)) (at : ℕ) → at ≤ length s → Of s (Read s (λ m n. is_mark es m (word s n) ≡ true) (λ _. 0) at) (option es unmarked s at)
  unfolding is_mark option keyword_of
  mark_of es at h = go (lookup es (word s at)) refl (lookup-has es (word s at))
    where
      go : (o : Option ℕ) → lookup es (word s at) ≡ o → In (λ m. has_mark es m ≡ true) o → Of s (Read s (λ m n. is_mark es m (word s n) ≡ true) (λ _. 0) at) (or_else unmarked at (found_by o (word_end s at)))
      go None e i = gives (rw (is_mark, e) (or-true (has_mark es unmarked))) (omega arith) h
      go (Some m) e i = let w = word-places s at h in gives (rw (is_mark, i)) (omega arith) w.1

  pub field-of : (sort : Sort) (T : Parser FieldKind) (d at : ℕ) → ((p : ℕ) → p < length s → Of s (OneKind s d p) (T s p)) → at ≤ length s → Of s (OneField s sort d at) (field_by sort T s at)
  unfolding field_by is_field
  field-of sort T d at t h =
      then-of (field-kind-of T d at t h) (λ k n q.
      then-of (mark_of (marks sort k) n q.within) (λ m n₁ r.
      then-of (name-of s n₁ r.within) (λ nm n₂ u.
      gives (both (rw (← u.holds) at r.holds) (both (rw (← u.holds) at (word-is-name s n₁)) q.holds)) (omega (arith, field-size m nm k.base k.suffixes)) u.within)))

  closing-of : (sort : Sort) (d at : ℕ) → at ≤ length s → Of s (Listed s sort d at) (closing s at)
  unfolding closing are_fields encode_fields
  closing-of sort d at h = on_of (λ _. no_field) (take-char-of s rparen at ExpectClose (lit< tt) h) (λ _ n k. read refl (omega arith) k.within)

module _ (s : List ℕ) (sort : Sort) (d : ℕ) (F : Parser Field) (f : (at : ℕ) → at ≤ length s → Of s (OneField s sort d at) (F s at)) where
  -- behind a field that was read from b on
  follow-of : {b : ℕ} {r : Ans Field} (R : ℕ → Ans Fields) (at : ℕ) → at ≤ length s → at ≤ b → ((n : ℕ) → n ≤ length s → Of s (Listed s sort d n) (R n)) → Of s (OneField s sort d b) r → Of s (Listed s sort d at) (follow R s at r)
  unfolding are_fields encode_fields
  follow-of R at h l k (reads {a = x} {n = n} q) =
      on_of (more_fields x) (k n q.within) (λ xs m u. read (both q.holds u.holds) (simp length-append (omega arith)) u.within)
  follow-of R at h l k (refuses q) = closing-of s sort d at h
  follow-of R at h l k (opens q) = opens q

  rest_of : (k at : ℕ) → at ≤ length s → Of s (Listed s sort d at) (rest F k s at)
  unfolding rest
  rest_of zero at h = closing-of s sort d at h
  rest_of (suc k) at h = go (look-of s comma at (lit< tt) h) (rest_of k)
    where
      go : {r : Found (Unit {0})} → Finds (OneChar s at) r → ((n : ℕ) → n ≤ length s → Of s (Listed s sort d n) (rest F k s n)) → Of s (Listed s sort d at) (rest_by F (rest F k s) s at r)
      go (misses q) ih = closing-of s sort d at h
      go (sees {n = n} q) ih = follow-of (rest F k s) at h (omega arith) ih (f n q.within)

  list_of : (at : ℕ) → at ≤ length s → Of s (Listed s sort d at) (list F s at)
  unfolding list
  list_of at h = follow-of (rest F (length s) s) at h (omega arith) (rest_of (length s)) (f at h)

module _ (s : List ℕ) where
  pub tuple-kind-of : (d p : ℕ) → p < length s → Of s (OneKind s d p) (tuple_kind d s p)
  unfolding tuple_kind is_base encode_base
  tuple-kind-of zero p h = opens h
  tuple-kind-of (suc d) p h =
      then-of (list_of s Plain d (field_by Plain (tuple_kind d)) (λ at. field-of s Plain (tuple_kind d) d at (tuple-kind-of d)) (p + 1) (omega arith)) (λ fs n q.
      on_of (λ ss. record { base = tuple fs; suffixes = ss }) (suffixes-of s n q.within) (λ ss m r. read (both q.holds r.holds) (omega (arith, record_size 9 (encode_fields 4 fs))) r.within))

  pub fields-of : (sort : Sort) (at : ℕ) → at ≤ length s → Of s (Read s (λ fs _. are_inputs sort fs ≡ true) (λ fs. 20 + length (encode_fields 4 fs)) at) (fields sort s at)
  unfolding fields
  fields-of sort at h =
      then-of (take-char-of s lparen at ExpectOpen (lit< tt) h) (λ _ n q.
      as_of (list_of s sort deepest (field_by sort (tuple_kind deepest)) (λ b. field-of s sort (tuple_kind deepest) deepest b (tuple-kind-of deepest)) n q.within)
      (λ fs m r. read r.holds (omega arith) r.within))

  -- visibility words take bytes and leave nothing
  visibility-of : (at : ℕ) → at ≤ length s → Of s (Read s Any (λ _. 0) at) (visibility s at)
  unfolding visibility
  visibility-of at h = option-of s (λ _. Unit {0}) visibilities false at h (tt, (tt, tt)) tt

  visibility_unless_lem : (v : Bool) (at : ℕ) → at ≤ length s → Of s (Read s Any (λ _. 0) at) (visibility_unless v s at)
  visibility_unless_lem true at h = gives tt (omega arith) h
  visibility_unless_lem false at h = visibility-of at h

  pub modifiers-of : (at : ℕ) → at ≤ length s → Of s (Read s (λ m _. leb m 3 ≡ true) (λ _. 0) at) (modifiers s at)
  unfolding modifiers
  modifiers-of at h =
      then-of (visibility-of at h) (λ v n₁ q₁.
      then-of (option-of s (λ m. leb m 3 ≡ true) mutabilities not_stated n₁ q₁.within (refl, (refl, (refl, tt))) refl) (λ m n₂ q₂.
      then-of (visibility_unless_lem v n₂ q₂.within) (λ _ n₃ q₃. gives q₂.holds (omega arith) q₃.within)))

  pub returns_of_lem : (at : ℕ) → at ≤ length s → Of s (Read s (λ fs _. are_inputs Parameter fs ≡ true) (λ fs. length (encode_fields 4 fs)) at) (returns s at)
  unfolding returns encode_fields are_fields
  returns_of_lem at h = go (keyword_in_lem s (λ _ _. Unit {0}) (entry (ascii "returns") tt ∷ []) at h (tt, tt))
    where
      go : {r : Found (Unit {0})} → Finds (Read s Any (λ _. 10 * length (word s at)) at) r → Of s (Read s (λ fs _. are_inputs Parameter fs ≡ true) (λ fs. length (encode_fields 4 fs)) at) (returns_by at r s)
      go (misses q) = gives refl (omega arith) h
      go (sees {n = n} q) = as_of (fields-of Parameter n q.within) (λ fs m r. read r.holds (omega arith) r.within)
