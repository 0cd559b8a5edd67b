-- What is written of a field is read back as that field, with anything behind.
-- Assumes nothing.
use mathlib.Core.Path.{◌≡◌, refl, sym, ◌∙◌, ap}
use mathlib.Core.Bool.{Bool, true, false, ◌&&◌, ◌||◌, false≢true}
use mathlib.Core.List.{List, [], ◌∷◌, ◌++◌, append_assoc}
use Rattle.std.specs.Prelude.{Option, None, Some}
use Prim.Native.Nat.{ℕ, zero, suc, ◌+◌, ◌≤◌}
use native.Mathlib.Omega.{arith}
use lib.Dec.{eqb}
use lib.ListN.{length, drop, length-append, length-drop}
use lib.Seq.{take-append_seam}
use borrow.Author.Tests.{ne_eqb, eqb-true}
use Rattle.kinds.specs.Bytes.{space, comma, lparen, rparen, lbracket, rbracket, all, is_digit, is_letter, is_word_byte, is_word}
use Rattle.kinds.specs.Kind.{is_elementary, Elementary, Suffix, suffix_text}
use Rattle.kinds.proofs.Logic.{left, right, letter_word}
use Rattle.model.specs.declared.Refusal.TheVariants.{ExpectClose, Unknown}
use Rattle.model.specs.declared.Sort.{Sort}
use Rattle.model.specs.declared.Sort.TheVariants.{Plain}
use Rattle.model.specs.Text.{span, one, blank, skip, run_byte}
use Rattle.model.specs.Tree.{Base, elementary, tuple, Field, field, Fields, no_field, more_fields, unmarked}
use Rattle.model.specs.KindText.{Entry, lookup, cut_last, peel, with_number, from_str_in, from_str}
use Rattle.model.specs.Parser.{found, missing, got, bad, Parser, on_ans, then, look, option, optional_name}
use Rattle.model.specs.Reading.{FieldKind, of_run, run_kind, array_suffix, suffixes_in, suffixes, field_kind, can_specify_location, marks_by, marks, field_by, closing, follow, rest, list, tuple_kind}
use Rattle.model.specs.Record.{is_field_name, is_absent, has_mark, is_suffix, is_mark, is_base, is_field, are_fields}
use Rattle.model.specs.Written.{suffixes_text, name_text, mark_word, mark_text, written_base, written_field, written_list, written_rest, SpellsElementary, itself}
use Rattle.model.proofs.Scans.{stands-past, span_none, span-bytes, peek-byte, skip-none, blank-space, blank-plain, blank-word, is_run_byte, run-written}
use Rattle.model.proofs.Marks.{either, mark-worded, mark-found, mark-named}
use Rattle.model.proofs.Stands.{is_quiet, quiet, Reads, reads_then, reads_on, reads-return, reads-char, look-here, look-absent, look_spaced, word_spaced, reads-name, option-there, option-absent}
use Rattle.model.proofs.InBrackets.{inner, suffix-inner, inside-inner}
use Rattle.model.proofs.KindBack.{inner-digits, suffixes-long, spelled-suffixes, spelled-word, spelled-run}

-- `,` or `)`, and anything behind; or the end of the text
abbrev pub is_end : List ℕ → Bool
is_end [] = true
is_end (c ∷ r) = eqb c comma || eqb c rparen

by_end : (P : List ℕ → Type 0) → P [] → ((r : List ℕ) → P (comma ∷ r)) → ((r : List ℕ) → P (rparen ∷ r)) → (r : List ℕ) → is_end r ≡ true → P r
by_end P e f g [] h = e
by_end P e f g (c ∷ r) h = go (eqb c comma) refl h
  where
    go : (b : Bool) → eqb c comma ≡ b → (b || eqb c rparen) ≡ true → P (c ∷ r)
    go true q k = rw (eqb-true c comma q) (f r)
    go false q k = rw (eqb-true c rparen k) (g r)

end_quiet : (r : List ℕ) → is_end r ≡ true → is_quiet r ≡ true
end_quiet = by_end (λ r. is_quiet r ≡ true) refl (λ r. refl) (λ r. refl)

-- Marks.

-- what stands behind a mark
name-behind : (nm r : List ℕ) → is_end r ≡ true → one is_word_byte (name_text nm ++ r) ≡ 0
name-behind [] r k = (quiet r (end_quiet r k)).unbyte
name-behind (c ∷ w) r k = refl

absent_none : {A : Type 0} (o : Option A) → is_absent o ≡ true → o ≡ None
absent_none None h = refl
absent_none (Some a) h = absurd (false≢true h)

module _ (es : List (Entry ℕ)) (m : ℕ) (nm r : List ℕ) (i : is_end r ≡ true) where
  -- a word of a table that stands for the mark, in front of a name
  word-there : (w : List ℕ) → is_word w ≡ true → lookup es w ≡ Some m → Reads (option es unmarked) (name_text w) (name_text nm ++ r) m
  word-there [] g l = absurd (false≢true g)
  word-there (c ∷ w) g l = option-there es unmarked m (space ∷ c ∷ w) (name_text nm ++ r) (c ∷ w) (word_spaced (c ∷ w) (name_text nm ++ r) g (name-behind nm r i)) l

  -- no mark, in front of a name that is no word of a table
  word-absent : is_field_name nm ≡ true → (eqb m unmarked && is_absent (lookup es nm)) ≡ true → Reads (option es unmarked) (mark_text m) (name_text nm ++ r) m
  word-absent n h = rw (eqb-true m unmarked (left _ h)) (option-absent es unmarked nm r n (end_quiet r i) (absent_none _ (right (eqb m unmarked) h)))

reads-mark : (sort : Sort) (l : Bool) (m : ℕ) (nm r : List ℕ) → is_mark (marks_by sort l) m nm ≡ true → is_field_name nm ≡ true → is_end r ≡ true
    → Reads (option (marks_by sort l) unmarked) (mark_text m) (name_text nm ++ r) m
unfolding is_mark
reads-mark sort l m nm r h n i =
    either (has_mark (marks_by sort l) m) _ h (λ p. word-there (marks_by sort l) m nm r i (mark_word m) (mark-worded sort l m p) (mark-found sort l m p))
    (λ p. word-absent (marks_by sort l) m nm r i n p)

-- Suffixes of a tuple.

digits_stand : (t r : List ℕ) → all is_digit t ≡ true → span (one is_digit) (t ++ (rbracket ∷ r)) ≡ length t
digits_stand t r h =
    omega (arith, span-bytes (one is_digit) is_digit (λ c u q. rw (one, q)) t (rbracket ∷ r) h, span_none (one is_digit) (rbracket ∷ r) refl)

suffix-there : (o : Suffix) → is_suffix o ≡ true → (r s : List ℕ) (at : ℕ) → drop at s ≡ suffix_text o ++ r → array_suffix s at ≡ found o (at + length (suffix_text o))
unfolding array_suffix
suffix-there o h r s at e =
    let t : List ℕ = inner o ++ (rbracket ∷ r) in
    let n : ℕ = length (inner o) in
    let a : drop at s ≡ lbracket ∷ t = e ∙ rw (suffix-inner o, append_assoc) in
    let b : drop (at + 1) s ≡ t = stands-past s at (lbracket ∷ []) t a in
    let c : drop (at + 1 + n) s ≡ rbracket ∷ r = stands-past s (at + 1) (inner o) (rbracket ∷ r) b in
    let d : span (one is_digit) t ≡ n = digits_stand (inner o) r (inner-digits o) in
    rw (array_suffix, look-here lbracket s at t refl a, b, d, take-append_seam (inner o) (rbracket ∷ r), inside-inner o h, look-here rbracket s (at + 1 + n) r refl c)
    (ap (found o) (rw (suffix-inner o, length-append (inner o) (rbracket ∷ [])) (omega arith)))

-- what stands behind a kind: it ends a run, and opens no suffix
pub record Tail (u : List ℕ) : Type 0 where
  pub stops : run_byte u ≡ 0
  pub shut : (s : List ℕ) (at : ℕ) → drop at s ≡ u → look lbracket s at ≡ missing

tail-end : (r : List ℕ) → is_end r ≡ true → Tail r
tail-end =
    by_end Tail (record { stops = refl; shut = λ s at e. look-absent lbracket s at [] refl refl e }) (λ r. record { stops = refl; shut = λ s at e. look-absent lbracket s at (comma ∷ r) refl refl e })
    (λ r. record { stops = refl; shut = λ s at e. look-absent lbracket s at (rparen ∷ r) refl refl e })

tail-word : (c : ℕ) (r : List ℕ) → is_letter c ≡ true → Tail (space ∷ c ∷ r)
tail-word c r h = record {
  stops = rw (run_byte, blank-space (c ∷ r));
  shut = λ s at e. look_spaced lbracket s at (c ∷ r) (blank-word c r (letter_word c h)) (ne_eqb c lbracket (λ q. false≢true (ap is_letter (sym q) ∙ h))) e;
}

tail_name : (w u : List ℕ) → is_field_name w ≡ true → Tail u → Tail (name_text w ++ u)
tail_name [] u h t = t
tail_name (c ∷ w) u h t = tail-word c (w ++ u) (left _ h)

tail-field : (m : ℕ) (nm r : List ℕ) → is_field_name nm ≡ true → is_end r ≡ true → Tail (mark_text m ++ (name_text nm ++ r))
tail-field m nm r h i = tail_name (mark_word m) (name_text nm ++ r) (mark-named m) (tail_name nm r h (tail-end r i))

suffixes-there : (ss : List Suffix) (u : List ℕ) (k : ℕ) → all is_suffix ss ≡ true → Tail u → length ss ≤ k → Reads (suffixes_in k) (suffixes_text ss) u ss
unfolding suffixes_in suffixes_text array_suffix on_ans
suffixes-there [] u zero h t n s at e = ap (got []) (omega arith)
suffixes-there [] u (suc k) h t n s at e = rw (suffixes_in, array_suffix, t.shut s at e) (ap (got []) (omega arith))
suffixes-there (o ∷ ss) u zero h t n s at e = absurd (omega arith)
suffixes-there (o ∷ ss) u (suc k) h t n s at e =
    let here : drop at s ≡ suffix_text o ++ (suffixes_text ss ++ u) = e ∙ append_assoc (suffix_text o) (suffixes_text ss) u in
    let behind = suffixes-there ss u k (right (is_suffix o) h) t (omega arith) s (at + length (suffix_text o)) (stands-past s at (suffix_text o) _ here) in
    rw (suffixes_in, suffix-there o (left _ h) (suffixes_text ss ++ u) s at here, behind)
    (ap (got (o ∷ ss)) (omega (arith, length-append (suffix_text o) (suffixes_text ss))))

reads-suffixes : (ss : List Suffix) (u : List ℕ) → all is_suffix ss ≡ true → Tail u → Reads suffixes (suffixes_text ss) u ss
unfolding suffixes
reads-suffixes ss u h t s at e =
    suffixes-there ss u (length s) h t (omega (arith, suffixes-long ss, length-append (suffixes_text ss) u, ap length e, length-drop at s)) s at e

-- Kinds.

run-stands : (s : List ℕ) (at : ℕ) (t u : List ℕ) → drop at s ≡ t ++ u → all is_run_byte t ≡ true → run_byte u ≡ 0 → run_kind s at ≡ of_run (from_str t) at (at + length t)
unfolding run_kind
run-stands s at t u e h k = rw (run_kind, e, run-written t u h k, take-append_seam t u)

kind-run : (T : Parser FieldKind) (s : List ℕ) (at c : ℕ) (r : List ℕ) → drop at s ≡ c ∷ r → blank (c ∷ r) ≡ 0 → eqb c lparen ≡ false → field_kind T s at ≡ run_kind s at
unfolding field_kind
kind-run T s at c r e b q =
    let here : skip s at ≡ at = skip-none s at (rw e b) in
    rw (field_kind, here, peek-byte s at c r e, q) (ap (run_kind s) here)

kind-tuple : (T : Parser FieldKind) (s : List ℕ) (at : ℕ) (r : List ℕ) → drop at s ≡ lparen ∷ r → field_kind T s at ≡ T s at
unfolding field_kind
kind-tuple T s at r e =
    let here : skip s at ≡ at = skip-none s at (rw e (blank-plain lparen r (omega arith) (omega arith))) in
    rw (field_kind, here, peek-byte s at lparen r e) (ap (T s) here)

reads-spelled : (e : Elementary) (t : List ℕ) → SpellsElementary e t → is_elementary e ≡ true → (T : Parser FieldKind) (ss : List Suffix) (u : List ℕ) → all is_suffix ss ≡ true → Tail u
    → Reads (field_kind T) (t ++ suffixes_text ss) u (record { base = elementary e; suffixes = ss })
reads-spelled e [] w h T ss u k i s at q = absurd (false≢true (spelled-word w))
reads-spelled e (c ∷ t) w h T ss u k i s at q =
    let l : is_letter c ≡ true = left _ (spelled-word w) in
    kind-run T s at c ((t ++ suffixes_text ss) ++ u) q (blank-word c _ (letter_word c l)) (ne_eqb c lparen (λ z. false≢true (ap is_letter (sym z) ∙ l)))
    ∙ run-stands s at ((c ∷ t) ++ suffixes_text ss) u q (spelled-run w ss) i.stops
    ∙ rw (spelled-suffixes w h ss k)

-- Fields and lists: what is read where they stand.

pub record ReadsBase (b : Base) (t : List ℕ) : Type 0 where
  pub reads : (d : ℕ) → is_base d b ≡ true → (ss : List Suffix) (u : List ℕ) → all is_suffix ss ≡ true → Tail u
      → Reads (field_kind (tuple_kind d)) (t ++ suffixes_text ss) u (record { base = b; suffixes = ss })

-- with `,` or `)` and anything behind
pub record ReadsField (f : Field) (t : List ℕ) : Type 0 where
  pub reads : (sort : Sort) (d : ℕ) → is_field sort d f ≡ true → (r : List ℕ) → is_end r ≡ true → Reads (field_by sort (tuple_kind d)) t r f

-- with anything behind
pub record ReadsList (fs : Fields) (t : List ℕ) : Type 0 where
  pub reads : (sort : Sort) (d : ℕ) → are_fields sort d fs ≡ true → (r : List ℕ) → Reads (list (field_by sort (tuple_kind d))) t r fs

-- the fields behind the first
pub record ReadsRest (fs : Fields) (t : List ℕ) : Type 0 where
  pub ends : (r : List ℕ) → is_end (t ++ r) ≡ true
  pub reads : (sort : Sort) (d : ℕ) → are_fields sort d fs ≡ true → (r : List ℕ) (k : ℕ) → length t ≤ k
      → Reads (rest (field_by sort (tuple_kind d)) k) t r fs

pub base-lone : {e : Elementary} {t : List ℕ} → SpellsElementary e t → ReadsBase (elementary e) t
unfolding is_base
base-lone {e} {t} w = record { reads = λ d h ss u k i. reads-spelled e t w h (tuple_kind d) ss u k i }

-- the suffixes behind a tuple's fields
abbrev suffixed : Fields → Parser FieldKind
suffixed fs s n = on_ans (λ ss. record { base = tuple fs; suffixes = ss }) (suffixes s n)

reads-suffixed : (fs : Fields) (ss : List Suffix) (u : List ℕ) → all is_suffix ss ≡ true → Tail u → Reads (suffixed fs) (suffixes_text ss) u (record { base = tuple fs; suffixes = ss })
unfolding on_ans
reads-suffixed fs ss u h i s at e = rw (reads-suffixes ss u h i s at e)

pub base_grouped : {fs : Fields} {t : List ℕ} → ReadsList fs t → ReadsBase (tuple fs) (lparen ∷ t)
unfolding is_base tuple_kind
base_grouped {fs} {t} l = record { reads = go }
  where
    go : (d : ℕ) → is_base d (tuple fs) ≡ true → (ss : List Suffix) (u : List ℕ) → all is_suffix ss ≡ true → Tail u
        → Reads (field_kind (tuple_kind d)) ((lparen ∷ t) ++ suffixes_text ss) u (record { base = tuple fs; suffixes = ss })
    go zero h ss u k i s at e = absurd (false≢true h)
    go (suc d) h ss u k i s at e =
        let b : FieldKind = record { base = tuple fs; suffixes = ss } in
        kind-tuple (tuple_kind (suc d)) s at ((t ++ suffixes_text ss) ++ u) e
        ∙ reads_then (list (field_by Plain (tuple_kind d))) suffixed t (suffixes_text ss) u fs b (l.reads Plain d h (suffixes_text ss ++ u)) (reads-suffixed fs ss u k i)
        s (at + 1) (stands-past s at (lparen ∷ []) _ e)
        ∙ ap (got b) (omega arith)

pub field-whole : {b : Base} {t : List ℕ} (m : ℕ) (nm : List ℕ) (ss : List Suffix) → ReadsBase b t → ReadsField (field m nm b ss) (t ++ (suffixes_text ss ++ (mark_text m ++ name_text nm)))
unfolding field_by is_field marks
field-whole {b} {t} m nm ss rb = record { reads = go }
  where
    go : (sort : Sort) (d : ℕ) → is_field sort d (field m nm b ss) ≡ true → (r : List ℕ) → is_end r ≡ true
        → Reads (field_by sort (tuple_kind d)) (t ++ (suffixes_text ss ++ (mark_text m ++ name_text nm))) r (field m nm b ss)
    go sort d h r i =
        let k : FieldKind = record { base = b; suffixes = ss } in
        let f : Field = field m nm b ss in
        let y : List ℕ = mark_text m in
        let z : List ℕ = name_text nm in
        let named : is_field_name nm ≡ true = search (left, right) in
        let kind : Reads (field_kind (tuple_kind d)) (t ++ suffixes_text ss) ((y ++ z) ++ r) k =
        rw (append_assoc y z r) (rb.reads d (search (left, right)) ss (y ++ (z ++ r)) (search (left, right)) (tail-field m nm r named i)) in
        rw (← append_assoc t (suffixes_text ss) (y ++ z))
        (reads_then (field_kind (tuple_kind d)) _ (t ++ suffixes_text ss) (y ++ z) r k f kind
        (reads_then (option (marks sort k) unmarked) _ y z r m f (reads-mark sort (can_specify_location b ss) m nm r (left _ h) named i)
        (reads_on optional_name _ z r nm f (reads-name nm r named (end_quiet r i)) (reads-return f r))))

-- the end of a list
closing-here : (s : List ℕ) (at : ℕ) (r : List ℕ) → drop at s ≡ rparen ∷ r → closing s at ≡ got no_field (at + 1)
unfolding closing on_ans
closing-here s at r e = rw (closing, reads-char rparen ExpectClose r refl s at e)

no_field_lem : (sort : Sort) (T : Parser FieldKind) (s : List ℕ) (at : ℕ) (r : List ℕ) → drop at s ≡ rparen ∷ r → field_by sort T s at ≡ bad Unknown at
unfolding field_by then from_str from_str_in peel cut_last with_number
no_field_lem sort T s at r e =
    let k : field_kind T s at ≡ bad Unknown at = kind-run T s at rparen r e (blank-plain rparen r (omega arith) (omega arith)) refl ∙ run-stands s at [] (rparen ∷ r) e refl refl in
    rw (field_by, k)

pub list-empty : ReadsList no_field (rparen ∷ [])
unfolding list
list-empty = record { reads = λ sort d h r s at e. rw (list, no_field_lem sort (tuple_kind d) s at r e) (closing-here s at r e) }

pub rest-empty : ReadsRest no_field (rparen ∷ [])
unfolding rest
rest-empty = record { ends = λ r. refl; reads = λ sort d h r. go sort d r }
  where
    go : (sort : Sort) (d : ℕ) (r : List ℕ) (k : ℕ) → 1 ≤ k → Reads (rest (field_by sort (tuple_kind d)) k) (rparen ∷ []) r no_field
    go sort d r zero l s at e = absurd (omega arith)
    go sort d r (suc k) l s at e = rw (rest, look-absent comma s at (rparen ∷ r) refl refl e) (closing-here s at r e)

-- a field and those behind it
module _ {f : Field} {fs : Fields} {t u : List ℕ} (rf : ReadsField f t) (rs : ReadsRest fs u) (sort : Sort) (d : ℕ)
    (h : are_fields sort d (more_fields f fs) ≡ true) (r : List ℕ) where
  follows : (s : List ℕ) (at n k : ℕ) → length u ≤ k → drop n s ≡ (t ++ u) ++ r
      → follow (rest (field_by sort (tuple_kind d)) k s) s at (field_by sort (tuple_kind d) s n) ≡ got (more_fields f fs) (n + length (t ++ u))
  unfolding are_fields on_ans
  follows s at n k l e =
      let a : drop n s ≡ t ++ (u ++ r) = e ∙ append_assoc t u r in
      let one = rf.reads sort d (left _ h) (u ++ r) (rs.ends r) s n a in
      let others = rs.reads sort d (right (is_field sort d f) h) r k l s (n + length t) (stands-past s n t (u ++ r) a) in
      rw (one, others) (ap (got (more_fields f fs)) (omega (arith, length-append t u)))

  list-follows : Reads (list (field_by sort (tuple_kind d))) (t ++ u) r (more_fields f fs)
  unfolding list
  list-follows s at e = follows s at at (length s) (omega (arith, simp length-append at (ap length e), length-drop at s)) e

  rest-follows : (k : ℕ) → length (comma ∷ (t ++ u)) ≤ k → Reads (rest (field_by sort (tuple_kind d)) k) (comma ∷ (t ++ u)) r (more_fields f fs)
  unfolding rest
  rest-follows zero l s at e = absurd (omega arith)
  rest-follows (suc k) l s at e =
      rw (rest, look-here comma s at ((t ++ u) ++ r) refl e)
      (follows s at (at + 1) k (omega (arith, length-append t u)) (stands-past s at (comma ∷ []) _ e) ∙ ap (got (more_fields f fs)) (omega arith))

pub list-more : {f : Field} {fs : Fields} {t u : List ℕ} → ReadsField f t → ReadsRest fs u → ReadsList (more_fields f fs) (t ++ u)
list-more rf rs = record { reads = list-follows rf rs }

pub rest_more : {f : Field} {fs : Fields} {t u : List ℕ} → ReadsField f t → ReadsRest fs u → ReadsRest (more_fields f fs) (comma ∷ (t ++ u))
rest_more rf rs = record { ends = λ r. refl; reads = rest-follows rf rs }

-- Written out.
mutual
  unfolding written_field

  base_back : (b : Base) → ReadsBase b (written_base b)
  base_back (elementary e) = base-lone (itself e)
  base_back (tuple fs) = base_grouped (list_back fs)

  pub field_back : (f : Field) → ReadsField f (written_field f)
  field_back (field m nm b ss) = field-whole m nm ss (base_back b)

  pub list_back : (fs : Fields) → ReadsList fs (written_list fs)
  list_back no_field = list-empty
  list_back (more_fields f fs) = list-more (field_back f) (rest_back fs)

  rest_back : (fs : Fields) → ReadsRest fs (written_rest fs)
  rest_back no_field = rest-empty
  rest_back (more_fields f fs) = rest_more (field_back f) (rest_back fs)
