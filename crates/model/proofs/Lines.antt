-- The canonical line of a well-formed function, event or error is read by the general call, with the same keyword, name and kinds.
-- Assumes nothing.
use mathlib.Core.Path.{◌≡◌, refl, sym, ◌∙◌, ap, subst}
use mathlib.Core.Bool.{true}
use mathlib.Core.List.{List, [], ◌∷◌, ◌++◌, append-nil}
use Rattle.std.specs.Prelude.{None, Some}
use Prim.Native.Nat.{ℕ, zero, suc, ◌+◌, ◌≤◌}
use native.Mathlib.Omega.{arith}
use lib.ListN.{length}
use Rattle.kinds.specs.Bytes.{ascii, space, lparen, semicolon, all, is_ascii, is_word}
use Rattle.kinds.specs.Kind.{are_kinds, Suffix, Kind, kind_text, list_text, Prototype, canonical}
use Rattle.kinds.proofs.Logic.{both, left, right, all_append}
use Rattle.model.specs.declared.Sort.{Sort}
use Rattle.model.specs.declared.Sort.TheVariants.{Plain, Parameter, Event}
use Rattle.model.specs.declared.Keyword.{Keyword}
use Rattle.model.specs.declared.Keyword.TheVariants as key
use Rattle.model.specs.declared.Call.TheVariants as call
use Rattle.model.specs.Text.{skip}
use Rattle.model.specs.Tree.{Base, elementary, tuple, Field, field, Fields, no_field, more_fields, not_stated, Declaration, arrays, base_kind, kind_of, kinds_of, name_kinds, fields_of}
use Rattle.model.specs.KindText.{Entry, entry, lookup}
use Rattle.model.specs.Parser.{got, Parser, on_ans, then, ◌>>=◌, return, keyword_of, ident, keyword, option, at_end, end}
use Rattle.model.specs.Reading.{deepest, fields, modifiers, returns, keyword_text, function, event, error, exec, parser_of, wanted, read_declaration, longest_text, parse}
use Rattle.model.specs.Record.{is_suffix, is_base, is_field, are_fields, is_declaration, well_formed}
use Rattle.model.specs.Line.{keyword_in, line}
use Rattle.model.specs.Written.{fits, all_fit}
use Rattle.model.proofs.Scans.{skip-none, blank_nil}
use Rattle.model.proofs.Stands.{peek-first, admit-ascii, Reads, reads_then, reads_on, reads-return, reads-char, look-absent, name_spaced, reads-ident, reads-keyword, option-absent}
use Rattle.model.proofs.Modifiers.{no_modifiers}
use Rattle.model.proofs.KindBack.{word-ascii}
use Rattle.model.proofs.Bounds.{In}
use Rattle.model.proofs.Sound.{fields_are_kinds}
use Rattle.model.proofs.Spelling.{kinds-fields, list-itself, kinds-spelled, list-ascii}

-- the kinds of well-formed fields keep to the limits
arrays_fit : (ss : List Suffix) (d : ℕ) (k : Kind) → fits d k ≡ true → all is_suffix ss ≡ true → fits d (arrays k ss) ≡ true
unfolding arrays fits
arrays_fit [] d k h q = h
arrays_fit (s ∷ ss) d k h q = arrays_fit ss d (Kind.array k s) (both h (left _ q)) (right (is_suffix s) q)

mutual
  unfolding is_base fits base_kind

  base-fits : (b : Base) (d : ℕ) → is_base d b ≡ true → fits d (base_kind b) ≡ true
  base-fits (elementary e) d h = refl
  base-fits (tuple fs) zero h = h
  base-fits (tuple fs) (suc d) h = fields_fit fs Plain d h

  pub field_fits : (f : Field) (sort : Sort) (d : ℕ) → is_field sort d f ≡ true → fits d (kind_of f) ≡ true
  field_fits (field m nm b ss) sort d h = arrays_fit ss d (base_kind b) (base-fits b d (search (left, right))) (search (left, right))

  fields_fit : (fs : Fields) (sort : Sort) (d : ℕ) → are_fields sort d fs ≡ true → all_fit d (kinds_of fs) ≡ true
  fields_fit no_field sort d h = refl
  fields_fit (more_fields f fs) sort d h = both (field_fits f sort d (left _ h)) (fields_fit fs sort d (right (is_field sort d f) h))

-- a name that is a word, and kinds that can be read
record Readable (p : Prototype) : Type 0 where
  name : is_word p.name ≡ true
  kinds : are_kinds p.kinds ≡ true
  limits : all_fit deepest p.kinds ≡ true

readable-by : (nm : List ℕ) (ins : Fields) (sort : Sort) → is_word nm ≡ true → are_fields sort deepest ins ≡ true → Readable (record { name = nm; kinds = kinds_of ins })
readable-by nm ins sort h q = record { name = h; kinds = fields_are_kinds ins sort deepest q; limits = fields_fit ins sort deepest q }

readable : (d : Declaration) → is_declaration d ≡ true → In Readable (name_kinds d)
unfolding is_declaration name_kinds
readable (Declaration.function m nm ins outs) h = readable-by nm ins Parameter (search (left, right)) (search (left, right))
readable (Declaration.constructor m ins) h = tt
readable (Declaration.event a nm ins) h = readable-by nm ins Event (search (left, right)) (search (left, right))
readable (Declaration.error nm ins) h = readable-by nm ins Plain (left _ h) (right (is_word nm) h)

-- Parts of a line.

pub keyword-word : (k : Keyword) → is_word (keyword_text k) ≡ true
unfolding keyword_text
keyword-word key.Function = refl
keyword-word key.Constructor = refl
keyword-word key.Event = refl
keyword-word key.Error = refl

reads-fields : (sort : Sort) (p : Prototype) → Readable p → Reads (fields sort) (lparen ∷ list_text p.kinds) [] (fields_of p.kinds)
unfolding fields
reads-fields sort p f =
    let t : List ℕ = list_text p.kinds in
    reads_then _ _ (lparen ∷ []) t [] tt (fields_of p.kinds) (reads-char lparen _ (t ++ []) refl)
    (kinds-spelled p.kinds t (list-itself p.kinds) sort deepest f.kinds f.limits [])

-- keyword, name and list, where `more` reads on behind them
reads-line : (k : Keyword) (sort : Sort) (p : Prototype) (more : List ℕ → Fields → Parser Declaration) (e : Declaration) → Readable p → Reads (more p.name (fields_of p.kinds)) [] [] e
    → Reads (keyword (keyword_text k) >>= λ _. ident >>= λ nm. fields sort >>= λ ins. more nm ins) (line k p) [] e
unfolding line canonical kind_text
reads-line k sort p more e f m =
    let t : List ℕ = lparen ∷ list_text p.kinds in
    let u : List ℕ = (space ∷ p.name) ++ t in
    reads_then (keyword (keyword_text k)) _ (keyword_text k) u [] tt e (reads-keyword (keyword_text k) (u ++ []) (keyword-word k) refl)
    (reads_then ident _ (space ∷ p.name) t [] p.name e (reads-ident p.name (t ++ []) f.name refl)
    (reads_on (fields sort) _ t [] (fields_of p.kinds) e (reads-fields sort p f) m))

-- at the end of the text
pub reads-option : {A : Type 0} (es : List (Entry A)) (d : A) → lookup es [] ≡ None → Reads (option es d) [] [] d
reads-option es d h = option-absent es d [] [] refl refl h

pub reads-returns : Reads returns [] [] no_field
unfolding returns keyword_of
reads-returns s at e = rw (returns, keyword_of, (name_spaced [] [] refl refl s at e).0) (ap (got no_field) (omega arith))

pub reads_end : Reads end [] [] tt
unfolding end then
reads_end s at e =
    let here : skip s at ≡ at = skip-none s at (rw e blank_nil) in
    rw (end, look-absent semicolon s at [] refl refl e, here, at_end, peek-first s at [] e) (ap (got tt) (omega arith))

-- Lines.

line-ascii : (k : Keyword) (p : Prototype) → is_word p.name ≡ true → all is_ascii (line k p) ≡ true
unfolding line canonical kind_text
line-ascii k p h =
    let t : List ℕ = list_text p.kinds in
    rw (all_append is_ascii (keyword_text k) (space ∷ (p.name ++ (lparen ∷ t))), all_append is_ascii p.name (lparen ∷ t))
    (both (word-ascii (keyword_text k) (keyword-word k)) (both (word-ascii p.name h) (list-ascii p.kinds t (list-itself p.kinds))))

-- the general call reads a line with this keyword, name and kinds
abbrev LineReads : Keyword → Prototype → Type 0
LineReads k p = (e : Declaration) × (n : ℕ) × (parse call.General (line k p) ≡ got e n) × (name_kinds e ≡ Some p) × (keyword_in e ≡ k)

module _ (k : Keyword) (p : Prototype) (f : Readable p) (short : length (line k p) ≤ longest_text) (e : Declaration) where
  line-whole : wanted call.General (line k p) ≡ Some k
      → name_kinds e ≡ Some (record { name = p.name; kinds = kinds_of (fields_of p.kinds) })
      → keyword_in e ≡ k
      → Reads (parser_of k) (line k p) [] e
      → LineReads k p
  unfolding parse read_declaration exec on_ans
  line-whole w says is r =
      let s : List ℕ = line k p in (
        e,
        0 + length s,
        admit-ascii (read_declaration call.General) s (line-ascii k p f.name) short
            ∙ rw (read_declaration, w) (reads_on (parser_of k) (λ d u at. on_ans (λ _. d) (end u at)) s [] e e r (λ u at q. rw (reads_end u at q)) s 0 (sym (append-nil s))),
        says ∙ rw (kinds-fields p.kinds),
        is,
      )

function-line : (p : Prototype) → Readable p → length (line key.Function p) ≤ longest_text → LineReads key.Function p
unfolding wanted line keyword_text name_kinds keyword_in function
function-line p f n =
    let e : Declaration = Declaration.function not_stated p.name (fields_of p.kinds) no_field in
    line-whole key.Function p f n e refl refl refl
    (reads-line key.Function Parameter p (λ nm ins. modifiers >>= λ m. returns >>= λ outs. return (Declaration.function m nm ins outs)) e f
    (reads_on modifiers _ [] [] not_stated e no_modifiers
    (reads_on returns _ [] [] no_field e reads-returns (reads-return e []))))

event-line : (p : Prototype) → Readable p → length (line key.Event p) ≤ longest_text → LineReads key.Event p
unfolding wanted line keyword_text name_kinds keyword_in event
event-line p f n =
    let e : Declaration = Declaration.event 0 p.name (fields_of p.kinds) in
    let anonymous : List (Entry ℕ) = entry (ascii "anonymous") 1 ∷ [] in
    line-whole key.Event p f n e refl refl refl
    (reads-line key.Event Event p (λ nm ins. option anonymous 0 >>= λ a. return (Declaration.event a nm ins)) e f
    (reads_on (option anonymous 0) _ [] [] 0 e (reads-option anonymous 0 refl) (reads-return e [])))

error-line : (p : Prototype) → Readable p → length (line key.Error p) ≤ longest_text → LineReads key.Error p
unfolding wanted line keyword_text name_kinds keyword_in error
error-line p f n =
    let e : Declaration = Declaration.error p.name (fields_of p.kinds) in
    line-whole key.Error p f n e refl refl refl (reads-line key.Error Plain p (λ nm ins. return (Declaration.error nm ins)) e f (reads-return e []))

declared-line : (d : Declaration) (p : Prototype) → Readable p → name_kinds d ≡ Some p → length (line (keyword_in d) p) ≤ longest_text → LineReads (keyword_in d) p
unfolding name_kinds keyword_in
declared-line (Declaration.function m nm ins outs) p f q n = function-line p f n
declared-line (Declaration.constructor m ins) p f q n = let z : ◌≡◌ {A = ℕ} 0 1 = cc in absurd (omega arith)
declared-line (Declaration.event a nm ins) p f q n = event-line p f n
declared-line (Declaration.error nm ins) p f q n = error-line p f n

pub line_reads : (d : Declaration) (p : Prototype) → well_formed d ≡ true → name_kinds d ≡ Some p → length (line (keyword_in d) p) ≤ longest_text → LineReads (keyword_in d) p
unfolding well_formed
line_reads d p h q = declared-line d p (subst (In Readable) q (readable d (left _ h))) q
