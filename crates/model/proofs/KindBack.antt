-- The text of an elementary kind with suffixes, in any spelling, is read back as a whole.
-- Assumes nothing.
use mathlib.Core.Path.{◌≡◌, refl, sym, ◌∙◌, ap}
use mathlib.Core.Bool.{Bool, true, false, not, false≢true}
use mathlib.Core.List.{List, [], ◌∷◌, ◌++◌, append_assoc, append-nil}
use Rattle.std.specs.Prelude.{Some}
use Prim.Native.Nat.{ℕ, ◌≤◌}
use native.Mathlib.Omega.{arith}
use lib.Dec.{eqb}
use lib.ListN.{length, length-append}
use borrow.Author.Tests.{ne_eqb, le-leb, lt-ltb, not-true}
use Rattle.kinds.specs.Bytes.{comma, rparen, lbracket, rbracket, all, same, is_ascii, is_digit, is_word_byte, is_word}
use Rattle.kinds.specs.Decimal.{decimal, number}
use Rattle.kinds.specs.Kind.{bits, octets, is_bit_width, is_elementary, Elementary, int, uint, fixed_bytes, address, bool, function, bytes, string, Suffix, sized, unsized, elementary_text, suffix_text}
use Rattle.kinds.proofs.Logic.{both, left, right, all_append, all_weaken, digit-word, word-all, width-most, byte-length-most}
use Rattle.kinds.proofs.Decimal.{decimal-digits, decimal-word, decimal_cons, written_read}
use Rattle.model.specs.KindText.{ok, elementary_of, lookup, uncut, cut_last, peeled, bare, peel, width, byte_length, with_number, from_str}
use Rattle.model.specs.Record.{is_suffix}
use Rattle.model.specs.Written.{suffixes_text, SpellsElementary, itself, short_int, short_uint}
use Rattle.model.proofs.InBrackets.{inner, suffix-inner, inside-inner}
use Rattle.model.proofs.Suffixes.{cut-here, strip-same, from_str_peeled, from_str_bare}
use Rattle.model.proofs.Scans.{between-both, word_range, is_run_byte}

pub inner-digits : (o : Suffix) → all is_digit (inner o) ≡ true
inner-digits (sized n) = decimal-digits n
inner-digits unsized = refl

pub inner-word : (o : Suffix) → all is_word_byte (inner o) ≡ true
inner-word o = all_weaken is_digit is_word_byte digit-word (inner o) (inner-digits o)

-- a suffix takes two bytes at least
pub suffixes-long : (ss : List Suffix) → length ss ≤ length (suffixes_text ss)
unfolding suffixes_text
suffixes-long [] = omega arith
suffixes-long (o ∷ ss) = omega (arith, suffixes-long ss, length-append (suffix_text o) (suffixes_text ss), ap length (suffix-inner o))

-- the last `[`
abbrev no_open : ℕ → Bool
no_open c = not (eqb lbracket c)

cut-none : (s : List ℕ) → all no_open s ≡ true → cut_last lbracket s ≡ uncut
unfolding cut_last
cut-none [] h = refl
cut-none (c ∷ s) h = rw (cut-none s (right (no_open c) h), not-true (eqb lbracket c) (left _ h))

-- a word byte is no bracket
word_open : (t : List ℕ) → all is_word_byte t ≡ true → all no_open t ≡ true
word_open = all_weaken is_word_byte no_open (λ c h. rw (ne_eqb lbracket c (λ q. false≢true (ap is_word_byte q ∙ h))))

peel-word : (t : List ℕ) → all is_word_byte t ≡ true → peel t ≡ bare
unfolding peel
peel-word t h = rw (cut-none t (word_open t h))

peel-suffix : (t : List ℕ) (o : Suffix) → is_suffix o ≡ true → peel (t ++ suffix_text o) ≡ peeled t o
unfolding peel
peel-suffix t o h =
    let b : List ℕ = inner o ++ (rbracket ∷ []) in
    let n : all no_open b ≡ true = rw all_append (both (word_open (inner o) (inner-word o)) refl) in
    rw (suffix-inner o, cut-here lbracket t b (cut-none b n), strip-same rbracket (inner o), inside-inner o h)

-- suffixes are read off
suffixes-back : (ss os : List Suffix) (e : Elementary) (t : List ℕ) → all is_suffix ss ≡ true → from_str t ≡ ok (record { kind = e; suffixes = os })
    → from_str (t ++ suffixes_text ss) ≡ ok (record { kind = e; suffixes = os ++ ss })
unfolding suffixes_text
suffixes-back [] os e t h r = rw (append-nil os, append-nil t) r
suffixes-back (o ∷ ss) os e t h r =
    let one : from_str (t ++ suffix_text o) ≡ ok (record { kind = e; suffixes = os ++ (o ∷ []) }) = from_str_peeled (t ++ suffix_text o) t o (peel-suffix t o (left _ h)) ∙ rw r in
    simp append_assoc at (suffixes-back ss (os ++ (o ∷ [])) e (t ++ suffix_text o) (right (is_suffix o) h) one)

-- elementary kinds
decimal_nonempty : (n : ℕ) → same [] (decimal n) ≡ false
decimal_nonempty n = ap (same []) (decimal_cons n).2

width_read : (m : ℕ) → is_bit_width m ≡ true → number 256 (decimal m) ≡ Some m
width_read m h = (written_read 256 m).1 (width-most m h)

elementary-is-word : (e : Elementary) → is_word (elementary_text e) ≡ true
unfolding elementary_text
elementary-is-word (int (bits m)) = decimal-word m
elementary-is-word (uint (bits m)) = decimal-word m
elementary-is-word (fixed_bytes (octets m)) = decimal-word m
elementary-is-word address = refl
elementary-is-word bool = refl
elementary-is-word function = refl
elementary-is-word bytes = refl
elementary-is-word string = refl

elementary-back : (e : Elementary) → is_elementary e ≡ true → elementary_of (elementary_text e) ≡ ok e
unfolding is_elementary elementary_text elementary_of with_number
elementary-back (int (bits m)) h = rw (elementary_of, lookup, decimal_nonempty m, width_read m h, width, h)
elementary-back (uint (bits m)) h = rw (elementary_of, lookup, decimal_nonempty m, width_read m h, width, h)
elementary-back (fixed_bytes (octets m)) h = rw (elementary_of, lookup, decimal_nonempty m, (written_read 32 m).1 (byte-length-most m h), byte_length, h)
elementary-back address h = refl
elementary-back bool h = refl
elementary-back function h = refl
elementary-back bytes h = refl
elementary-back string h = refl

-- an elementary kind, as it may be spelled
spelled_back : {e : Elementary} {t : List ℕ} → SpellsElementary e t → is_elementary e ≡ true → elementary_of t ≡ ok e
unfolding elementary_of
spelled_back (itself e) h = elementary-back e h
spelled_back short_int h = refl
spelled_back short_uint h = refl

pub spelled-word : {e : Elementary} {t : List ℕ} → SpellsElementary e t → is_word t ≡ true
spelled-word (itself e) = elementary-is-word e
spelled-word short_int = refl
spelled-word short_uint = refl

pub spelled-suffixes : {e : Elementary} {t : List ℕ} → SpellsElementary e t → is_elementary e ≡ true → (ss : List Suffix) → all is_suffix ss ≡ true
    → from_str (t ++ suffixes_text ss) ≡ ok (record { kind = e; suffixes = ss })
spelled-suffixes {e} {t} w h ss k = suffixes-back ss [] e t k (from_str_bare t (peel-word t (word-all t (spelled-word w))) ∙ rw (spelled_back w h))

-- it is of bytes of runs, which are ASCII
word-run : (t : List ℕ) → all is_word_byte t ≡ true → all is_run_byte t ≡ true
word-run = all_weaken is_word_byte is_run_byte (λ c h.
    let (low, high) = word_range c h in
    both (both (le-leb 33 c (omega arith)) (le-leb c 127 (omega arith)))
    (rw (ne_eqb c comma (λ q. false≢true (ap is_word_byte (sym q) ∙ h)), ne_eqb c rparen (λ q. false≢true (ap is_word_byte (sym q) ∙ h)))))

suffix-run : (o : Suffix) → all is_run_byte (suffix_text o) ≡ true
suffix-run o = rw (suffix-inner o, all_append is_run_byte (inner o) (rbracket ∷ [])) (both (word-run (inner o) (inner-word o)) refl)

suffixes-run : (ss : List Suffix) → all is_run_byte (suffixes_text ss) ≡ true
unfolding suffixes_text
suffixes-run [] = refl
suffixes-run (o ∷ ss) = rw (all_append is_run_byte (suffix_text o) (suffixes_text ss)) (both (suffix-run o) (suffixes-run ss))

pub spelled-run : {e : Elementary} {t : List ℕ} → SpellsElementary e t → (ss : List Suffix) → all is_run_byte (t ++ suffixes_text ss) ≡ true
spelled-run {e} {t} w ss = rw all_append (both (word-run t (word-all t (spelled-word w))) (suffixes-run ss))

run-ascii : (t : List ℕ) → all is_run_byte t ≡ true → all is_ascii t ≡ true
run-ascii = all_weaken is_run_byte is_ascii (λ c h. let (low, high) = between-both 33 127 c (left _ h) in lt-ltb c 128 (omega arith))

pub word-ascii : (w : List ℕ) → is_word w ≡ true → all is_ascii w ≡ true
word-ascii w h = run-ascii w (word-run w (word-all w h))

pub suffix-ascii : (o : Suffix) → all is_ascii (suffix_text o) ≡ true
suffix-ascii o = run-ascii (suffix_text o) (suffix-run o)
