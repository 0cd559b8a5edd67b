-- What the calls read: it is well formed, its record is small, places lie within the text, and calls that both accept read the same.
-- Assumes nothing.
use mathlib.Core.Path.{◌≡◌, refl, sym, ◌∙◌, ap, subst}
use mathlib.Core.Bool.{Bool, true, false, cond}
use mathlib.Core.List.{List, [], ◌∷◌}
use Rattle.std.specs.Prelude.{Option, None, Some}
use Prim.Native.Nat.{ℕ, zero, suc, ◌+◌, ◌*◌, ◌≤◌, ◌<◌, zero-le}
use native.Mathlib.Omega.{arith}
use lib.Dec.{leb, ltb, eqb}
use lib.ListN.{length, length-append}
use borrow.Author.Tests.{ltb-false, le-leb}
use Rattle.kinds.specs.Bytes.{ascii, lparen, rparen, between, is_word}
use Rattle.kinds.specs.Kind.{Suffix, Kind, Prototype, is_kind, are_kinds}
use Rattle.kinds.proofs.Logic.{both, left, right}
use Rattle.model.specs.declared.Refusal.{Refusal}
use Rattle.model.specs.declared.Keyword.{Keyword}
use Rattle.model.specs.declared.Keyword.TheVariants as key
use Rattle.model.specs.declared.Call.{Call}
use Rattle.model.specs.declared.Sort.{Sort}
use Rattle.model.specs.declared.Sort.TheVariants.{Plain, Parameter, Event}
use Rattle.model.specs.Text.{peek, valid_length}
use Rattle.model.specs.Tree.{Base, elementary, tuple, Field, field, Fields, no_field, more_fields, is_payable, not_stated, Declaration, arrays, base_kind, kind_of, kinds_of, name_kinds}
use Rattle.model.specs.KindText.{Result, ok, err, entry, Spelled, from_str}
use Rattle.model.specs.Parser.{Ans, got, bad, deep, word}
use Rattle.model.specs.Reading.{deepest, keyword_text, function, constructor, event, error, exec, parser_of, wanted, read_by, read_declaration, longest_text, keywords, opening_of, admit, parse, marks, field_by, tuple_kind}
use Rattle.model.specs.Layout.{little_endian}
use Rattle.model.specs.Record.{encode, encode_name, encode_list, encode_field, is_mark, encode_base, is_base, is_field, are_fields, is_declaration, longest_record, well_formed, well_formed_field}
use Rattle.model.specs.Line.{keyword_in}
use Rattle.model.specs.Answer.{refused, outcome}
use Rattle.model.specs.Calls.{written, read_output, lone_field, open_by, crowded, is_bare, all_of, tuple_by, read_tuple, read_kind, kind_output, AcceptedAs}
use Rattle.model.proofs.Scans.{span_le}
use Rattle.model.proofs.Bounds.{tested, In, Right, Spells, spelled, record_size, field-size}
use Rattle.model.proofs.Holds.{Of, reads, is-got, is-bad, is-deep, refuses as refuses-at, opens, Read, then-of, on_of, as_of, read, gives}
use Rattle.model.proofs.Readers.{OneField, field-of, tuple-kind-of, keyword-of, ident-of, option-of, end_of, fields-of, modifiers-of, returns_of_lem}

-- a declaration read from `at` on, behind its keyword
pub record Declares (s : List ℕ) (at : ℕ) (k : Keyword) (d : Declaration) : Type 0 where
  pub opening : word s at ≡ keyword_text k
  pub sort : keyword_in d ≡ k
  pub valid : is_declaration d ≡ true

abbrev pub Declared : List ℕ → Keyword → ℕ → Declaration → ℕ → Type 0
Declared s k at = Read s (λ d _. Declares s at k d) (λ d. length (encode 4 d)) at

module _ (s : List ℕ) where
  function_of : (at : ℕ) → at ≤ length s → Of s (Declared s key.Function at) (function s at)
  unfolding function keyword_in is_declaration keyword_text encode encode_name encode_list little_endian
  function_of at h =
      then-of (keyword-of s (keyword_text key.Function) at h) (λ _ n₀ q₀.
      then-of (ident-of s n₀ q₀.within) (λ nm n₁ q₁.
      then-of (fields-of s Parameter n₁ q₁.within) (λ ins n₂ q₂.
      then-of (modifiers-of s n₂ q₂.within) (λ m n₃ q₃.
      then-of (returns_of_lem s n₃ q₃.within) (λ outs n₄ q₄.
      gives (record { opening = q₀.holds; sort = refl; valid = both q₃.holds (both q₁.holds (both q₂.holds q₄.holds)) })
      (simp (record_size, length-append) (omega arith)) q₄.within)))))

  constructor-of : (at : ℕ) → at ≤ length s → Of s (Declared s key.Constructor at) (constructor s at)
  unfolding constructor keyword_in is_declaration keyword_text encode encode_name encode_list little_endian
  constructor-of at h =
      then-of (keyword-of s (keyword_text key.Constructor) at h) (λ _ n₀ q₀.
      then-of (fields-of s Parameter n₀ q₀.within) (λ ins n₁ q₁.
      then-of (option-of s (λ m. between 2 3 m ≡ true) (entry (ascii "payable") is_payable ∷ []) not_stated n₁ q₁.within (refl, tt) refl) (λ m n₂ q₂.
      gives (record { opening = q₀.holds; sort = refl; valid = both q₂.holds q₁.holds })
      (simp record_size (omega arith)) q₂.within)))

  event-of : (at : ℕ) → at ≤ length s → Of s (Declared s key.Event at) (event s at)
  unfolding event keyword_in is_declaration keyword_text encode encode_name encode_list little_endian
  event-of at h =
      then-of (keyword-of s (keyword_text key.Event) at h) (λ _ n₀ q₀.
      then-of (ident-of s n₀ q₀.within) (λ nm n₁ q₁.
      then-of (fields-of s Event n₁ q₁.within) (λ ins n₂ q₂.
      then-of (option-of s (λ a. leb a 1 ≡ true) (entry (ascii "anonymous") 1 ∷ []) 0 n₂ q₂.within (refl, tt) refl) (λ a n₃ q₃.
      gives (record { opening = q₀.holds; sort = refl; valid = both q₃.holds (both q₁.holds q₂.holds) })
      (simp (record_size, length-append) (omega arith)) q₃.within))))

  error-of : (at : ℕ) → at ≤ length s → Of s (Declared s key.Error at) (error s at)
  unfolding error keyword_in is_declaration keyword_text encode encode_name encode_list little_endian
  error-of at h =
      then-of (keyword-of s (keyword_text key.Error) at h) (λ _ n₀ q₀.
      then-of (ident-of s n₀ q₀.within) (λ nm n₁ q₁.
      then-of (fields-of s Plain n₁ q₁.within) (λ ins n₂ q₂.
      gives (record { opening = q₀.holds; sort = refl; valid = both q₁.holds q₂.holds })
      (simp (record_size, length-append) (omega arith)) q₂.within)))

  parser_of_lem : (k : Keyword) (at : ℕ) → at ≤ length s → Of s (Declared s k at) (parser_of k s at)
  parser_of_lem key.Function = function_of
  parser_of_lem key.Constructor = constructor-of
  parser_of_lem key.Event = event-of
  parser_of_lem key.Error = error-of

  exec_of : (k : Keyword) → Of s (Declared s k 0) (exec (parser_of k) s)
  unfolding exec
  exec_of k =
      then-of (parser_of_lem k 0 zero-le) (λ d n q.
      on_of (λ _. d) (end_of s n q.within) (λ _ m r. read q.holds (omega arith) r.within))

  -- what is let in is short, and what is not is refused at a place of the text
  admit-of : {A : Type 0} {P : A → ℕ → Type 0} (f : List ℕ → Ans A) → (length s ≤ longest_text → Of s P (f s)) → Of s P (admit f s)
  unfolding admit valid_length
  admit-of {A} {P} f h =
      tested (Of s P) (ltb longest_text (length s)) (λ _. refuses-at zero-le)
      (λ e. tested (Of s P) (ltb (valid_length s) (length s)) (λ _. refuses-at (span_le _ s)) (λ _. h (ltb-false longest_text (length s) e)))

-- The reading calls.

-- what is known of a declaration that a call accepts
pub record Accepts (c : Call) (s : List ℕ) (d : Declaration) (n : ℕ) : Type 0 where
  pub wants : wanted c s ≡ Some (keyword_in d)
  pub opening : word s 0 ≡ keyword_text (keyword_in d)
  pub valid : is_declaration d ≡ true
  pub paid : length (encode 4 d) ≤ 10 * n
  pub within : n ≤ length s
  pub short : length s ≤ longest_text

parse-of : (c : Call) (s : List ℕ) → Of s (Accepts c s) (parse c s)
unfolding parse read_declaration
parse-of c s = admit-of s (read_declaration c) (λ l. go l (wanted c s) refl)
  where
    go : length s ≤ longest_text → (o : Option Keyword) → wanted c s ≡ o → Of s (Accepts c s) (read_by o s)
    go l None e = refuses-at zero-le
    go l (Some k) e =
        as_of (exec_of s k) (λ d n q. record {
          wants = e ∙ ap Some (sym q.holds.sort);
          opening = q.holds.opening ∙ ap keyword_text (sym q.holds.sort);
          valid = q.holds.valid;
          paid = omega arith;
          within = q.within;
          short = l;
        })

pub accepts : (c : Call) (s : List ℕ) (d : Declaration) (n : ℕ) → parse c s ≡ got d n → Accepts c s d n
accepts c s d n e = is-got (parse-of c s) d n e

-- names are words, kinds are valid, at most 32 tuples nest, and the record has at most 40,960 bytes
pub read-well-formed : (c : Call) (s : List ℕ) (d : Declaration) (n : ℕ) → parse c s ≡ got d n → well_formed d ≡ true
unfolding well_formed
read-well-formed c s d n e = let a = accepts c s d n e in
    both a.valid (le-leb (length (encode 4 d)) longest_record (omega arith))

-- "A record written for a text of L bytes has at most 10 × L bytes."
pub record_small : (c : Call) (s : List ℕ) (d : Declaration) (n : ℕ) → parse c s ≡ got d n → length (encode 4 d) ≤ 10 * length s
record_small c s d n e = let a = accepts c s d n e in
    omega arith

pub refusal-within : (c : Call) (s : List ℕ) (w : Refusal) (p : ℕ) → parse c s ≡ bad w p → p ≤ length s
refusal-within c s = is-bad (parse-of c s)

pub deep-within : (c : Call) (s : List ℕ) (p : ℕ) → parse c s ≡ deep p → p < length s
deep-within c s = is-deep (parse-of c s)

-- a call accepts declarations of the keyword that it wants
pub read-keyword : (c : Call) (s : List ℕ) (k : Keyword) (d : Declaration) (n : ℕ) → wanted c s ≡ Some k → parse c s ≡ got d n → keyword_in d ≡ k
read-keyword c s k d n w e = cc (accepts c s d n e).wants

-- a keyword by its text
keyword-back : (k : Keyword) → opening_of keywords (keyword_text k) ≡ Some k
unfolding keyword_text
keyword-back key.Function = refl
keyword-back key.Constructor = refl
keyword-back key.Event = refl
keyword-back key.Error = refl

-- calls that want the same keyword read the same
same-wanted : (b c : Call) (s : List ℕ) → wanted b s ≡ wanted c s → parse b s ≡ parse c s
unfolding parse read_declaration admit
same-wanted b c s e = ap (λ (o : Option Keyword). admit (λ _. read_by o s) s) e

-- "where both do, they read the same"
pub calls_agree : (b c : Call) (s : List ℕ) (d e : Declaration) (n m : ℕ) → parse b s ≡ got d n → parse c s ≡ got e m → (d ≡ e) × (n ≡ m)
calls_agree b c s d e n m p q =
    let x = accepts b s d n p in
    let y = accepts c s e m q in
    let k : Some (keyword_in d) ≡ Some (keyword_in e) = sym (keyword-back (keyword_in d)) ∙ ap (opening_of keywords) (sym x.opening ∙ y.opening) ∙ keyword-back (keyword_in e) in
    let r : parse b s ≡ parse c s = same-wanted b c s (x.wants ∙ k ∙ sym y.wants) in
    (cc, cc)

-- The kind call.

pub record AcceptsKind (s : List ℕ) (f : Field) (n : ℕ) : Type 0 where
  pub valid : is_field Plain deepest f ≡ true
  pub paid : length (encode_field 4 f) ≤ 10 * length s
  pub short : length s ≤ longest_text

-- where one tuple too many opens lies within the text
crowded-within : (t : List ℕ) (l p : ℕ) → In (λ q. q < p + length t) (crowded l p t)
unfolding crowded
crowded-within [] l p = tt
crowded-within (c ∷ t) l p = go l (eqb c lparen) (eqb c rparen) (λ k. further (crowded k (suc p) t) (crowded-within t k (suc p)))
  where
    further : (o : Option ℕ) → In (λ q. q < suc p + length t) o → In (λ q. q < p + suc (length t)) o
    further None i = tt
    further (Some q) i = omega arith

    go : (l : ℕ) (a b : Bool) → ((k : ℕ) → In (λ q. q < p + suc (length t)) (crowded k (suc p) t))
        → In (λ q. q < p + suc (length t)) (cond a (open_by l p (λ k. crowded k (suc p) t)) (cond b (crowded (suc l) (suc p) t) (crowded l (suc p) t)))
    go zero true b ih = omega arith
    go (suc l) true b ih = ih l
    go l false true ih = ih (suc l)
    go l false false ih = ih l

-- a tuple's text, read as a list's reader reads it
tuple-of : (s : List ℕ) → length s ≤ longest_text → Of s (AcceptsKind s) (read_tuple s)
unfolding read_tuple
tuple-of s l = go (crowded deepest 0 s) (crowded-within s deepest 0)
  where
    whole : (r : Ans Field) → Of s (OneField s Plain deepest 0) r → Of s (AcceptsKind s) (all_of (length s) r)
    whole (got f n) q = tested (Of s (AcceptsKind s)) (eqb n (length s)) (λ _. let h = is-got q f n refl in reads (record { valid = h.holds; paid = omega (arith, h.paid, h.within); short = l })) (λ _. refuses-at zero-le)
    whole (bad w p) q = refuses-at zero-le
    whole (deep p) q = refuses-at zero-le

    go : (o : Option ℕ) → In (λ p. p < 0 + length s) o → Of s (AcceptsKind s) (tuple_by s o)
    go (Some p) i = opens {p = p} (omega (arith, i))
    go None i = tested (Of s (AcceptsKind s)) (is_bare false s) (λ _. whole (field_by Plain (tuple_kind deepest) s 0) (field-of s Plain (tuple_kind deepest) deepest 0 (tuple-kind-of s deepest) zero-le)) (λ _. refuses-at zero-le)

kind-of : (s : List ℕ) → Of s (AcceptsKind s) (admit read_kind s)
unfolding read_kind is_field is_mark marks is_base encode_base
kind-of s = admit-of s read_kind (λ l. tested (Of s (AcceptsKind s)) (eqb (peek s 0) lparen) (λ _. tuple-of s l) (λ _. go l (from_str s) (spelled s)))
  where
    go : length s ≤ longest_text → (r : Result Spelled) → Right (Spells s) r → Of s (AcceptsKind s) (lone_field r)
    go l (err w) q = refuses-at zero-le
    go l (ok k) q =
        let p : length (encode_field 4 (field 0 [] (elementary k.kind) k.suffixes)) ≤ 10 * length s = omega (arith, field-size 0 [] (elementary k.kind) k.suffixes) in
        reads (record { valid = both q.valid q.lengths; paid = p; short = l })

pub kind-well-formed : (s : List ℕ) (f : Field) (n : ℕ) → admit read_kind s ≡ got f n → well_formed_field f ≡ true
unfolding well_formed_field
kind-well-formed s f n e = let a = is-got (kind-of s) f n e in
    both a.valid (le-leb (length (encode_field 4 f)) longest_record (omega arith))

pub kind-small : (s : List ℕ) (f : Field) (n : ℕ) → admit read_kind s ≡ got f n → length (encode_field 4 f) ≤ 10 * length s
kind-small s f n e = (is-got (kind-of s) f n e).paid

pub kind-refusal-within : (s : List ℕ) (w : Refusal) (p : ℕ) → admit read_kind s ≡ bad w p → p ≤ length s
kind-refusal-within s = is-bad (kind-of s)

-- What the calls answer: a refusal's place is one of the text.

outcome-of : {A : Type 0} {s : List ℕ} {P : A → ℕ → Type 0} {r : Ans A} (room : ℕ) (E : A → List ℕ) (k p : ℕ) → Of s P r → outcome room (written E r) ≡ refused k p → p ≤ length s
unfolding outcome written
outcome-of {s = s} room E k p (reads {a = a} h) e =
    tested (λ o. o ≡ refused k p → p ≤ length s) (ltb room (length (E a))) (λ _ q. let z : p ≡ 0 = cc in omega arith) (λ _ q. let z : ◌≡◌ {A = ℕ} 0 1 = cc in omega arith) e
outcome-of room E k p (refuses-at {p = q} h) e = let z : p ≡ q = cc in omega arith
outcome-of room E k p (opens {p = q} h) e = let z : p ≡ q = cc in omega arith

pub outcome-within : (c : Call) (s : List ℕ) (room k p : ℕ) → outcome room (read_output c s) ≡ refused k p → p ≤ length s
unfolding read_output
outcome-within c s room k p e = outcome-of room (encode 4) k p (parse-of c s) e

pub kind-outcome-within : (s : List ℕ) (room k p : ℕ) → outcome room (kind_output s) ≡ refused k p → p ≤ length s
unfolding kind_output
kind-outcome-within s room k p e = outcome-of room (encode_field 4) k p (kind-of s) e

-- Names and kinds.

arrays-kind : (k : Kind) (ss : List Suffix) → is_kind (arrays k ss) ≡ is_kind k
unfolding arrays is_kind
arrays-kind k [] = refl
arrays-kind k (o ∷ ss) = arrays-kind (Kind.array k o) ss

mutual
  unfolding is_base base_kind is_kind

  base-is-kind : (b : Base) (d : ℕ) → is_base d b ≡ true → is_kind (base_kind b) ≡ true
  base-is-kind (elementary e) d h = h
  base-is-kind (tuple fs) zero h = cc
  base-is-kind (tuple fs) (suc d) h = fields_are_kinds fs Plain d h

  pub field-is-kind : (f : Field) (sort : Sort) (d : ℕ) → is_field sort d f ≡ true → is_kind (kind_of f) ≡ true
  field-is-kind (field m nm b ss) sort d h =
      arrays-kind (base_kind b) ss ∙ base-is-kind b d (search (left, right))

  pub fields_are_kinds : (fs : Fields) (sort : Sort) (d : ℕ) → are_fields sort d fs ≡ true → are_kinds (kinds_of fs) ≡ true
  fields_are_kinds no_field sort d h = refl
  fields_are_kinds (more_fields f fs) sort d h = both (field-is-kind f sort d (left _ h)) (fields_are_kinds fs sort d (right (is_field sort d f) h))

-- a prototype's name is a word, and its kinds are valid
pub record Proper (p : Prototype) : Type 0 where
  pub name : is_word p.name ≡ true
  pub kinds : are_kinds p.kinds ≡ true

pub proper : (d : Declaration) → is_declaration d ≡ true → In Proper (name_kinds d)
unfolding is_declaration name_kinds
proper (Declaration.function m nm ins outs) h = record { name = search (left, right); kinds = fields_are_kinds ins Parameter deepest (search (left, right)) }
proper (Declaration.constructor m ins) h = tt
proper (Declaration.event a nm ins) h = record { name = search (left, right); kinds = fields_are_kinds ins Event deepest (search (left, right)) }
proper (Declaration.error nm ins) h = record { name = left _ h; kinds = fields_are_kinds ins Plain deepest (search (left, right)) }

pub accepted-proper : (s : List ℕ) (p : Prototype) → AcceptedAs s p → Proper p
accepted-proper s p a = subst (In Proper) a.says (proper a.declaration (accepts a.call s a.declaration a.place a.reads).valid)

-- a text is accepted with one name and one list of kinds
pub accepted-once : (s : List ℕ) (p q : Prototype) → AcceptedAs s p → AcceptedAs s q → p ≡ q
accepted-once s p q x y =
    let d = (calls_agree x.call y.call s x.declaration y.declaration x.place y.place x.reads y.reads).0 in
    cc (x.says, y.says)
