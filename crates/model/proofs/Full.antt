-- A declaration written out in full is read back as it is.
-- Assumes nothing.
use mathlib.Core.Path.{◌≡◌, refl, sym, ◌∙◌, ap}
use mathlib.Core.Bool.{true, false, false≢true}
use mathlib.Core.List.{List, [], ◌∷◌, ◌++◌, append-nil}
use Rattle.std.specs.Prelude.{None, Some}
use Prim.Native.Nat.{ℕ, zero, suc, ◌+◌, ◌≤◌}
use native.Mathlib.Omega.{arith}
use lib.Dec.{leb, eqb}
use lib.ListN.{length, drop}
use borrow.Author.Tests.{leb-true}
use Rattle.kinds.specs.Bytes.{between, ascii, space, lparen, all, is_ascii, is_word_byte, is_word}
use Rattle.kinds.specs.Kind.{Suffix, elementary_text, suffix_text}
use Rattle.kinds.proofs.Logic.{both, left, right, all_append}
use Rattle.model.specs.declared.Sort.{Sort}
use Rattle.model.specs.declared.Sort.TheVariants.{Plain, Parameter, Event}
use Rattle.model.specs.declared.Keyword.{Keyword}
use Rattle.model.specs.declared.Keyword.TheVariants as key
use Rattle.model.specs.declared.Call.{Call}
use Rattle.model.specs.declared.Call.TheVariants as call
use Rattle.model.specs.Text.{one}
use Rattle.model.specs.Tree.{Base, elementary, tuple, Field, field, Fields, no_field, more_fields, is_payable, not_stated, Declaration}
use Rattle.model.specs.KindText.{Entry, entry, lookup}
use Rattle.model.specs.Parser.{got, Parser, on_ans, ◌>>=◌, return, take_char, ident, keyword, keyword_of, option, end}
use Rattle.model.specs.Reading.{deepest, fields, mutabilities, visibilities, visibility, modifiers, returns, keyword_text, function, constructor, event, error, parser_of, exec, wanted, read_declaration, longest_text, parse}
use Rattle.model.specs.Layout.{Bytes}
use Rattle.model.specs.Record.{is_field_name, is_base, is_field, are_fields, is_declaration, decode, well_formed, select}
use Rattle.model.specs.Line.{keyword_in}
use Rattle.model.specs.Answer.{writes}
use Rattle.model.specs.Calls.{written, read_output}
use Rattle.model.specs.Written.{suffixes_text, name_text, by_mark, mark_word, mark_text, written_base, written_field, written_list, written_rest, itself}
use Rattle.model.specs.Full.{bracketed, mutability_text, returns_text, anonymous_text, full_text, call_of, Takes, general, named}
use Rattle.model.proofs.Bounds.{tested}
use Rattle.model.proofs.Marks.{select_word, mark-named}
use Rattle.model.proofs.Records.{decode-exactly}
use Rattle.model.proofs.Scans.{stands-past}
use Rattle.model.proofs.Stands.{Reads, reads_then, reads_on, reads-return, look-there, reads-char, word_spaced, reads-ident, reads-keyword, option-there, admit-ascii}
use Rattle.model.proofs.KindBack.{word-ascii, suffix-ascii, spelled-word}
use Rattle.model.proofs.Readback.{list_back}
use Rattle.model.proofs.Lines.{keyword-word, reads-option, reads-returns, reads_end}

-- Parts of a line.

-- a list of a sort
list_written : (sort : Sort) (fs : Fields) → are_fields sort deepest fs ≡ true → (r : List ℕ) → Reads (fields sort) (bracketed fs) r fs
unfolding fields
list_written sort fs h r = reads_then _ _ (lparen ∷ []) (written_list fs) r tt fs (reads-char lparen _ (written_list fs ++ r) refl) ((list_back fs).reads sort deepest h r)

-- keyword, name and list, where `more` reads on behind them
module _ (k : Keyword) (nm : List ℕ) (w : is_word nm ≡ true) (sort : Sort) (ins : Fields) (h : are_fields sort deepest ins ≡ true) where
  named-written : (t : List ℕ) (more : List ℕ → Fields → Parser Declaration) (d : Declaration) → Reads (more nm ins) t [] d
      → Reads (keyword (keyword_text k) >>= λ _. ident >>= λ m. fields sort >>= λ fs. more m fs) (keyword_text k ++ ((space ∷ nm) ++ (bracketed ins ++ t))) [] d
  named-written t more d m =
      let l : List ℕ = bracketed ins in
      reads_then (keyword (keyword_text k)) _ (keyword_text k) ((space ∷ nm) ++ (l ++ t)) [] tt d (reads-keyword (keyword_text k) _ (keyword-word k) refl)
      (reads_then ident _ (space ∷ nm) (l ++ t) [] nm d (reads-ident nm _ w refl)
      (reads_then (fields sort) _ l t [] ins d (list_written sort ins h (t ++ [])) m))

-- a word of a table behind a space, and one that is not of the table
module _ {A : Type 0} (es : List (Entry A)) (d : A) (w r : List ℕ) (h : is_word w ≡ true) (k : one is_word_byte r ≡ 0) where
  table-word : (a : A) → lookup es w ≡ Some a → Reads (option es d) (space ∷ w) r a
  table-word a l = option-there es d a (space ∷ w) r w (word_spaced w r h k) l

  other_word : lookup es w ≡ None → Reads (option es d) [] ((space ∷ w) ++ r) d
  unfolding option keyword_of
  other_word l s at e = rw (option, keyword_of, (word_spaced w r h k s at e).0, l) (ap (got d) (omega arith))

-- outputs: their list stands behind `returns` and a space
spaced_list : (outs : Fields) → are_fields Parameter deepest outs ≡ true → (r : List ℕ) → Reads (fields Parameter) (space ∷ bracketed outs) r outs
unfolding fields take_char
spaced_list outs h r =
    reads_then (take_char lparen _) _ (space ∷ lparen ∷ []) (written_list outs) r tt outs
    (λ s at e. rw (take_char, look-there lparen s at (written_list outs ++ r) refl e) (ap (got tt) (omega arith)))
    ((list_back outs).reads Parameter deepest h r)

returns-written : (outs : Fields) → are_fields Parameter deepest outs ≡ true → Reads returns (returns_text outs) [] outs
unfolding returns keyword_of
returns-written no_field h s at e = reads-returns s at e
returns-written (more_fields f fs) h s at e =
    let l : List ℕ = (space ∷ bracketed (more_fields f fs)) ++ [] in
    let here : drop at s ≡ ascii " returns" ++ l = e in
    let (p, q) = word_spaced (ascii "returns") l refl refl s at here in
    rw (returns, keyword_of, p, q) (spaced_list (more_fields f fs) h [] s (at + 8) (stands-past s at (ascii " returns") l here) ∙ ap (got (more_fields f fs)) (omega arith))

-- modifiers, with outputs or the end behind them: a mutability word, or none
module _ (outs : Fields) where
  abbrev behind : List ℕ
  behind = returns_text outs ++ []

  ends-word : (os : Fields) → one is_word_byte (returns_text os ++ []) ≡ 0
  ends-word no_field = refl
  ends-word (more_fields f fs) = refl

  unsaid : {A : Type 0} (es : List (Entry A)) (d : A) (os : Fields) → lookup es [] ≡ None → lookup es (ascii "returns") ≡ None → Reads (option es d) [] (returns_text os ++ []) d
  unsaid es d no_field h k = reads-option es d h
  unsaid es d (more_fields f fs) h k = other_word es d (ascii "returns") _ refl refl k

  none_seen : Reads visibility [] behind false
  unfolding visibility
  none_seen = unsaid visibilities false outs refl refl

  none-stated : Reads modifiers [] behind not_stated
  unfolding modifiers
  none-stated =
      reads_on visibility _ [] behind false not_stated none_seen
      (reads_on (option mutabilities not_stated) _ [] behind not_stated not_stated (unsaid mutabilities not_stated outs refl refl)
      (reads_on visibility _ [] behind false not_stated none_seen (reads-return not_stated behind)))

  stated : (m : ℕ) (w : List ℕ) → is_word w ≡ true → lookup mutabilities w ≡ Some m → lookup visibilities w ≡ None → Reads modifiers (space ∷ w) behind m
  unfolding modifiers visibility
  stated m w h i j =
      reads_then visibility _ [] (space ∷ w) behind false m (other_word visibilities false w behind h (ends-word outs) j)
      (reads_on (option mutabilities not_stated) _ (space ∷ w) behind m m (table-word mutabilities not_stated w behind h (ends-word outs) m i)
      (reads_on visibility _ [] behind false m none_seen (reads-return m behind)))

  modifiers-written : (m : ℕ) → leb m 3 ≡ true → Reads modifiers (mutability_text m) behind m
  modifiers-written zero h = stated 0 (ascii "pure") refl refl refl
  modifiers-written (suc zero) h = stated 1 (ascii "view") refl refl refl
  modifiers-written (suc (suc zero)) h = none-stated
  modifiers-written (suc (suc (suc zero))) h = stated 3 (ascii "payable") refl refl refl
  modifiers-written (suc (suc (suc (suc m)))) h = absurd (omega (arith, leb-true (suc (suc (suc (suc m)))) 3 h))

-- at the end: a constructor's mutability, and whether an event is anonymous
abbrev payable : List (Entry ℕ)
payable = entry (ascii "payable") is_payable ∷ []

payable-written : (m : ℕ) → between 2 3 m ≡ true → Reads (option payable not_stated) (mutability_text m) [] m
payable-written zero h = absurd (false≢true h)
payable-written (suc zero) h = absurd (false≢true h)
payable-written (suc (suc zero)) h = reads-option payable not_stated refl
payable-written (suc (suc (suc zero))) h = table-word payable not_stated (ascii "payable") [] refl refl is_payable refl
payable-written (suc (suc (suc (suc m)))) h = absurd (omega (arith, leb-true (suc (suc (suc (suc m)))) 3 (right (leb 2 (suc (suc (suc (suc m))))) h)))

abbrev anonymous : List (Entry ℕ)
anonymous = entry (ascii "anonymous") 1 ∷ []

anonymous-written : (a : ℕ) → leb a 1 ≡ true → Reads (option anonymous 0) (anonymous_text a) [] a
anonymous-written zero h = reads-option anonymous 0 refl
anonymous-written (suc zero) h = table-word anonymous 0 (ascii "anonymous") [] refl refl 1 refl
anonymous-written (suc (suc a)) h = absurd (omega (arith, leb-true (suc (suc a)) 1 h))

-- Lines.

full-reads : (d : Declaration) → is_declaration d ≡ true → Reads (parser_of (keyword_in d)) (full_text d) [] d
unfolding is_declaration keyword_in full_text function constructor event error
full-reads (Declaration.function m nm ins outs) h =
    let d : Declaration = Declaration.function m nm ins outs in
    named-written key.Function nm (search (left, right)) Parameter ins (search (left, right)) (mutability_text m ++ returns_text outs)
    (λ x fs. modifiers >>= λ y. returns >>= λ os. return (Declaration.function y x fs os)) d
    (reads_then modifiers _ (mutability_text m) (returns_text outs) [] m d (modifiers-written outs m (left _ h))
    (reads_on returns _ (returns_text outs) [] outs d (returns-written outs (search (left, right))) (reads-return d [])))
full-reads (Declaration.constructor m ins) h =
    let d : Declaration = Declaration.constructor m ins in
    reads_then (keyword (keyword_text key.Constructor)) _ (keyword_text key.Constructor) (bracketed ins ++ mutability_text m) [] tt d (reads-keyword (keyword_text key.Constructor) _ (keyword-word key.Constructor) refl)
    (reads_then (fields Parameter) _ (bracketed ins) (mutability_text m) [] ins d (list_written Parameter ins (right (between 2 3 m) h) (mutability_text m ++ []))
    (reads_on (option payable not_stated) _ (mutability_text m) [] m d (payable-written m (left _ h)) (reads-return d [])))
full-reads (Declaration.event a nm ins) h =
    let d : Declaration = Declaration.event a nm ins in
    named-written key.Event nm (search (left, right)) Event ins (search (left, right)) (anonymous_text a) (λ x fs. option anonymous 0 >>= λ y. return (Declaration.event y x fs)) d
    (reads_on (option anonymous 0) _ (anonymous_text a) [] a d (anonymous-written a (left _ h)) (reads-return d []))
full-reads (Declaration.error nm ins) h =
    let d : Declaration = Declaration.error nm ins in
    rw (append-nil (written_list ins)) at (named-written key.Error nm (left _ h) Plain ins (right (is_word nm) h) [] (λ x fs. return (Declaration.error x fs)) d (reads-return d []))

-- They are ASCII.

name-ascii : (nm : List ℕ) → is_field_name nm ≡ true → all is_ascii (name_text nm) ≡ true
name-ascii [] h = refl
name-ascii (c ∷ w) h = word-ascii (c ∷ w) h

suffixes-ascii : (ss : List Suffix) → all is_ascii (suffixes_text ss) ≡ true
unfolding suffixes_text
suffixes-ascii [] = refl
suffixes-ascii (s ∷ ss) = rw (all_append is_ascii (suffix_text s) (suffixes_text ss)) (both (suffix-ascii s) (suffixes-ascii ss))

mutual
  unfolding written_base written_field written_list written_rest is_base is_field are_fields

  base-ascii : (b : Base) (d : ℕ) → is_base d b ≡ true → all is_ascii (written_base b) ≡ true
  base-ascii (elementary e) d h = word-ascii (elementary_text e) (spelled-word (itself e))
  base-ascii (tuple fs) zero h = absurd (false≢true h)
  base-ascii (tuple fs) (suc d) h = list-ascii fs Plain d h

  field-ascii : (f : Field) (sort : Sort) (d : ℕ) → is_field sort d f ≡ true → all is_ascii (written_field f) ≡ true
  field-ascii (field m nm b ss) sort d h =
      let named-well : is_field_name nm ≡ true = search (left, right) in
      rw (all_append is_ascii (written_base b) (suffixes_text ss ++ (mark_text m ++ name_text nm)), all_append is_ascii (suffixes_text ss) (mark_text m ++ name_text nm), all_append is_ascii (mark_text m) (name_text nm))
      (both (base-ascii b d (search (left, right))) (both (suffixes-ascii ss) (both (name-ascii (mark_word m) (mark-named m)) (name-ascii nm named-well))))

  list-ascii : (fs : Fields) (sort : Sort) (d : ℕ) → are_fields sort d fs ≡ true → all is_ascii (written_list fs) ≡ true
  list-ascii no_field sort d h = refl
  list-ascii (more_fields f fs) sort d h = rw (all_append is_ascii (written_field f) (written_rest fs)) (both (field-ascii f sort d (left _ h)) (rest-ascii fs sort d (right (is_field sort d f) h)))

  rest-ascii : (fs : Fields) (sort : Sort) (d : ℕ) → are_fields sort d fs ≡ true → all is_ascii (written_rest fs) ≡ true
  rest-ascii no_field sort d h = refl
  rest-ascii (more_fields f fs) sort d h = rw (all_append is_ascii (written_field f) (written_rest fs)) (both (field-ascii f sort d (left _ h)) (rest-ascii fs sort d (right (is_field sort d f) h)))

mutability-ascii : (m : ℕ) → all is_ascii (mutability_text m) ≡ true
mutability-ascii m = name-ascii (select (by_mark mutabilities) [] m) (select_word is_field_name mutabilities refl m)

anonymous-ascii : (a : ℕ) → all is_ascii (anonymous_text a) ≡ true
anonymous-ascii a = tested (λ u. all is_ascii u ≡ true) (eqb 1 a) (λ _. refl) (λ _. refl)

returns-ascii : (outs : Fields) → are_fields Parameter deepest outs ≡ true → all is_ascii (returns_text outs) ≡ true
returns-ascii no_field h = refl
returns-ascii (more_fields f fs) h = list-ascii (more_fields f fs) Parameter deepest h

-- keyword, name and list
front-ascii : (k : Keyword) (nm : List ℕ) (sort : Sort) (ins : Fields) (t : List ℕ) → is_word nm ≡ true → are_fields sort deepest ins ≡ true → all is_ascii t ≡ true
    → all is_ascii (keyword_text k ++ ((space ∷ nm) ++ (bracketed ins ++ t))) ≡ true
front-ascii k nm sort ins t w h i =
    rw (all_append is_ascii (keyword_text k) ((space ∷ nm) ++ (bracketed ins ++ t)), all_append is_ascii nm (bracketed ins ++ t), all_append is_ascii (written_list ins) t)
    (both (word-ascii (keyword_text k) (keyword-word k)) (both (word-ascii nm w) (both (list-ascii ins sort deepest h) i)))

full-ascii : (d : Declaration) → is_declaration d ≡ true → all is_ascii (full_text d) ≡ true
unfolding full_text is_declaration
full-ascii (Declaration.function m nm ins outs) h =
    front-ascii key.Function nm Parameter ins (mutability_text m ++ returns_text outs) (search (left, right)) (search (left, right))
    (rw (all_append is_ascii (mutability_text m) (returns_text outs)) (both (mutability-ascii m) (returns-ascii outs (search (left, right)))))
full-ascii (Declaration.constructor m ins) h =
    rw (all_append is_ascii (keyword_text key.Constructor) (bracketed ins ++ mutability_text m), all_append is_ascii (written_list ins) (mutability_text m))
    (both (word-ascii (keyword_text key.Constructor) (keyword-word key.Constructor)) (both (list-ascii ins Parameter deepest (right (between 2 3 m) h)) (mutability-ascii m)))
full-ascii (Declaration.event a nm ins) h = front-ascii key.Event nm Event ins (anonymous_text a) (search (left, right)) (search (left, right)) (anonymous-ascii a)
full-ascii (Declaration.error nm ins) h = rw (append-nil (written_list ins)) at (front-ascii key.Error nm Plain ins [] (left _ h) (right (is_word nm) h) refl)

-- The calls.

full-opens : (d : Declaration) → wanted call.General (full_text d) ≡ Some (keyword_in d)
unfolding wanted full_text keyword_text keyword_in
full-opens (Declaration.function m nm ins outs) = refl
full-opens (Declaration.constructor m ins) = refl
full-opens (Declaration.event a nm ins) = refl
full-opens (Declaration.error nm ins) = refl

named-wants : (k : Keyword) (s : List ℕ) → wanted (call_of k) s ≡ Some k
unfolding wanted
named-wants key.Function s = refl
named-wants key.Constructor s = refl
named-wants key.Event s = refl
named-wants key.Error s = refl

wants : {k : Keyword} {c : Call} → Takes k c → (s : List ℕ) → wanted call.General s ≡ Some k → wanted c s ≡ Some k
wants (general k) s h = h
wants (named k) s h = named-wants k s

full_parsed : (c : Call) (d : Declaration) → wanted c (full_text d) ≡ Some (keyword_in d) → is_declaration d ≡ true → length (full_text d) ≤ longest_text → parse c (full_text d) ≡ got d (0 + length (full_text d))
unfolding parse read_declaration exec on_ans
full_parsed c d w h l =
    let s : List ℕ = full_text d in
    admit-ascii (read_declaration c) s (full-ascii d h) l
    ∙ rw (read_declaration, w) (reads_on (parser_of (keyword_in d)) (λ x u at. on_ans (λ _. x) (end u at)) s [] d d (full-reads d h) (λ u at q. rw (reads_end u at q)) s 0 (sym (append-nil s)))

-- "Read again, a line of at most 4,096 bytes gives the identical record.": by the general call, and by the call named for its keyword
pub full_back : (b : List ℕ) (d : Declaration) (c : Call) → Takes (keyword_in d) c → Bytes b → decode b ≡ Some d → length (full_text d) ≤ longest_text → read_output c (full_text d) ≡ writes b
unfolding read_output written well_formed
full_back b d c t y e l =
    let (w, same) = (decode-exactly b d y).0 e in
    rw (full_parsed c d (wants t (full_text d) (full-opens d)) (left _ w) l) (ap writes (sym same))
