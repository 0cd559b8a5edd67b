-- What a kind's text spells is valid, and its record takes at most 10 bytes for each byte of the text.
-- Assumes nothing.
use mathlib.Core.Path.{◌≡◌, refl, ◌∙◌, ap, subst}
use mathlib.Core.Bool.{Bool, true, false, ◌&&◌}
use mathlib.Core.List.{List, [], ◌∷◌, ◌++◌}
use Rattle.std.specs.Prelude.{Option, None, Some}
use Prim.Native.Nat.{ℕ, zero, suc, ◌+◌, ◌*◌, ◌≤◌, ◌<◌}
use native.Mathlib.Omega.{arith}
use lib.Dec.{leb, eqb}
use lib.ListN.{length, take, drop, length-append, length-take}
use borrow.Author.Tests.{leb-true, le-leb}
use Rattle.kinds.specs.Bytes.{ascii, lbracket, rbracket, all, same}
use Rattle.kinds.specs.Decimal.{number}
use Rattle.kinds.specs.Kind.{BitWidth, bits, octets, is_bit_width, is_byte_length, is_elementary, Elementary, int, uint, fixed_bytes, address, bool, bytes, string, Suffix, sized, unsized}
use Rattle.kinds.proofs.Logic.{both, left, right, all_append, same_equal}
use Rattle.kinds.proofs.Decimal.{decimal_cons}
use Rattle.model.specs.Tree.{Base, field}
use Rattle.model.specs.KindText.{Result, ok, err, on_result, Entry, entry, lookup, kind_words, Cut, cut, uncut, cut_after, cut_last, strip_step, strip, inside, shut, Peeled, peeled, bare, peel_by, peel_at, peel, starts, width, byte_length, with_number, Spelled, add_suffix, unsuffixed, from_str_by, from_str_in, from_str}
use Rattle.model.specs.Layout.{little_endian, record_of}
use Rattle.model.specs.Record.{encode_elementary, encode_suffix, encode_suffixes, encode_name, encode_base, encode_field, is_suffix}
use Rattle.model.proofs.InBrackets.{inner, inside-exactly}

-- what is chosen by a test, by whether it passes
pub tested : {A : Type 0} (P : A → Type 0) (b : Bool) {x y : A} → (b ≡ true → P x) → (b ≡ false → P y) → P (elim b [ true ↦ x | false ↦ y ])
tested P true h k = h refl
tested P false h k = k refl

-- Sizes, where a length takes 4 bytes.

pub record_size : (k : ℕ) (body : List ℕ) → length (record_of 4 k body) ≡ 6 + length body
unfolding record_of little_endian
record_size k body = omega arith

elementary-size : (e : Elementary) → length (encode_elementary 4 e) ≤ 8
unfolding encode_elementary record_of little_endian
elementary-size (int (bits n)) = omega arith
elementary-size (uint (bits n)) = omega arith
elementary-size (fixed_bytes (octets n)) = omega arith
elementary-size address = omega arith
elementary-size bool = omega arith
elementary-size Elementary.function = omega arith
elementary-size bytes = omega arith
elementary-size string = omega arith

suffixes-snoc : (ss : List Suffix) (o : Suffix) → length (encode_suffixes 4 (ss ++ (o ∷ []))) ≡ length (encode_suffixes 4 ss) + length (encode_suffix 4 o)
unfolding encode_suffixes
suffixes-snoc [] o = simp length-append (omega arith)
suffixes-snoc (x ∷ ss) o = simp (length-append, suffixes-snoc ss o) (omega arith)

pub field-size : (m : ℕ) (nm : List ℕ) (b : Base) (ss : List Suffix) → length (encode_field 4 (field m nm b ss)) ≡ 14 + length nm + length (encode_base 4 b) + length (encode_suffixes 4 ss)
unfolding encode_field encode_name little_endian
field-size m nm b ss = simp (record_size, length-append) (omega arith)

-- What holds of a thing, if there is one.

abbrev pub In : {A : Type 0} → (A → Type 0) → Option A → Type 0
In P None = Unit {0}
In P (Some a) = P a

abbrev pub Right : {A : Type 0} → (A → Type 0) → Result A → Type 0
Right P (ok a) = P a
Right P (err w) = Unit {0}

right-on : {A B : Type 0} (P : A → Type 0) (Q : B → Type 0) (f : A → B) (r : Result A) → Right P r → ((a : A) → P a → Q (f a)) → Right Q (on_result f r)
right-on P Q f (ok a) h k = k a h
right-on P Q f (err w) h k = tt

-- Q holds of every word of a list and what it stands for
abbrev pub Entries : {A : Type 0} → (List ℕ → A → Type 0) → List (Entry A) → Type 0
Entries Q [] = Unit {0}
Entries Q (entry v a ∷ es) = Q v a × Entries Q es

pub lookup-of : {A : Type 0} (Q : List ℕ → A → Type 0) (es : List (Entry A)) (w : List ℕ) → Entries Q es → In (Q w) (lookup es w)
lookup-of Q [] w h = tt
lookup-of Q (entry v a ∷ es) w h = tested (In (Q w)) (same v w) (λ e. subst (λ u. Q u a) ((same_equal v w).0 e) h.0) (λ e. lookup-of Q es w h.1)

-- Suffixes: what stands between the brackets.

-- what m spells between brackets
pub record Inside (m : List ℕ) (o : Suffix) : Type 0 where
  pub valid : is_suffix o ≡ true
  pub paid : length (encode_suffix 4 o) ≤ 6 + 10 * length m

inner-paid : (o : Suffix) → length (encode_suffix 4 o) ≤ 6 + 10 * length (inner o)
unfolding encode_suffix record_of little_endian
inner-paid (sized n) = omega (arith, ap length (decimal_cons n).2)
inner-paid unsized = omega arith

pub inside_of : (m : List ℕ) → In (Inside m) (inside m)
inside_of m = go (inside m) refl
  where
    go : (x : Option Suffix) → inside m ≡ x → In (Inside m) x
    go None e = tt
    go (Some o) e =
        let (w, h) = (inside-exactly m o).0 e in
        record { valid = h; paid = rw w (inner-paid o) }

-- Suffixes taken off from the right.

abbrev Cuts : List ℕ → Cut → Type 0
Cuts t (cut a b) = suc (length a + length b) ≡ length t
Cuts t uncut = Unit {0}

cut_of : (d : ℕ) (t : List ℕ) → Cuts t (cut_last d t)
unfolding cut_last
cut_of d [] = tt
cut_of d (c ∷ t) = go (eqb d c) (cut_last d t) (cut_of d t)
  where
    go : (here : Bool) (r : Cut) → Cuts t r → Cuts (c ∷ t) (cut_after c t here r)
    go here (cut a b) h = omega arith
    go true uncut h = omega arith
    go false uncut h = tt

strip-of : (d : ℕ) (t : List ℕ) → In (λ m. suc (length m) ≡ length t) (strip d t)
unfolding strip
strip-of d [] = tt
strip-of d (c ∷ t) = go t (strip d t) (strip-of d t)
  where
    go : (u : List ℕ) (r : Option (List ℕ)) → In (λ m. suc (length m) ≡ length u) r → In (λ m. suc (length m) ≡ suc (length u)) (strip_step d c u r)
    go [] r h = tested (In (λ m. suc (length m) ≡ 1)) (eqb d c) (λ e. refl) (λ e. tt)
    go (b ∷ u) None h = tt
    go (b ∷ u) (Some m) h = omega arith

-- t is a and the suffix o behind it
record Peels (t a : List ℕ) (o : Suffix) : Type 0 where
  valid : is_suffix o ≡ true
  paid : length (encode_suffix 4 o) + 10 * length a ≤ 10 * length t

abbrev PeelsTo : List ℕ → Peeled → Type 0
PeelsTo t (peeled a o) = Peels t a o
PeelsTo t bare = Unit {0}

peel-of : (t : List ℕ) → PeelsTo t (peel t)
unfolding peel
peel-of t = go (cut_last lbracket t) (cut_of lbracket t)
  where
    by : (a b m : List ℕ) → suc (length a + length b) ≡ length t → suc (length m) ≡ length b → (o : Option Suffix) → In (Inside m) o → PeelsTo t (peel_by a o)
    by a b m h k None i = tt
    by a b m h k (Some o) i = record { valid = i.valid; paid = omega arith }

    shut-of : (a b : List ℕ) → suc (length a + length b) ≡ length t → (r : Option (List ℕ)) → In (λ m. suc (length m) ≡ length b) r → PeelsTo t (peel_by a (shut r))
    shut-of a b h None k = tt
    shut-of a b h (Some m) k = by a b m h k (inside m) (inside_of m)

    go : (r : Cut) → Cuts t r → PeelsTo t (peel_at r)
    go uncut h = tt
    go (cut a b) h = shut-of a b h (strip rbracket b) (strip-of rbracket b)

-- what is left is shorter
pub peel-shorter : (t a : List ℕ) (o : Suffix) → peel t ≡ peeled a o → length a < length t
unfolding encode_suffix
peel-shorter t a (sized n) e =
    let p : Peels t a (sized n) = subst (PeelsTo t) e (peel-of t) in
    omega (arith, p.paid, record_size 0xA (little_endian 8 n))
peel-shorter t a unsized e =
    let p : Peels t a unsized = subst (PeelsTo t) e (peel-of t) in
    omega (arith, p.paid, record_size 0xB [])

-- Elementary kinds.

-- no text of one is shorter than `int`
abbrev Spelt : List ℕ → Elementary → Type 0
Spelt t e = (is_elementary e && leb 3 (length t)) ≡ true

starts-of : (w t : List ℕ) → starts w t ≡ true → length w ≤ length t
starts-of w t e = omega (arith, ap length ((same_equal w (take (length w) t)).0 e), length-take (length w) t)

width-of : (t : List ℕ) (f : BitWidth → Elementary) → ((n : ℕ) → is_elementary (f (bits n)) ≡ is_bit_width n) → leb 3 (length t) ≡ true → (o : Option ℕ) → Right (Spelt t) (width f o)
width-of t f h k None = tt
width-of t f h k (Some n) = tested (Right (Spelt t)) (is_bit_width n) (λ e. both (h n ∙ e) k) (λ e. tt)

number_of : (t : List ℕ) → Right (Spelt t) (with_number t)
unfolding with_number is_elementary
number_of t =
    tested (Right (Spelt t)) (starts (ascii "int") t) (λ e. width-of t int (λ n. refl) (le-leb 3 (length t) (starts-of (ascii "int") t e)) (number 256 (drop 3 t)))
    (λ _. tested (Right (Spelt t)) (starts (ascii "uint") t) (λ e. width-of t uint (λ n. refl) (le-leb 3 (length t) (omega (arith, starts-of (ascii "uint") t e))) (number 256 (drop 4 t)))
    (λ _. tested (Right (Spelt t)) (starts (ascii "bytes") t) (λ e. length-of (le-leb 3 (length t) (omega (arith, starts-of (ascii "bytes") t e))) (number 32 (drop 5 t))) (λ _. tt)))
  where
    length-of : leb 3 (length t) ≡ true → (o : Option ℕ) → Right (Spelt t) (byte_length o)
    length-of k None = tt
    length-of k (Some n) = tested (Right (Spelt t)) (is_byte_length n) (λ e. both e k) (λ e. tt)

-- An elementary kind and its suffixes.

-- a field of it has 14 bytes besides
pub record Spells (t : List ℕ) (k : Spelled) : Type 0 where
  pub valid : is_elementary k.kind ≡ true
  pub lengths : all is_suffix k.suffixes ≡ true
  pub paid : 14 + length (encode_elementary 4 k.kind) + length (encode_suffixes 4 k.suffixes) ≤ 10 * length t

spells_bare : (t : List ℕ) (e : Elementary) → Spelt t e → Spells t (unsuffixed e)
unfolding encode_suffixes
spells_bare t e h = record { valid = left _ h; lengths = refl; paid = omega (arith, elementary-size e, leb-true 3 (length t) (right (is_elementary e) h)) }

spells_array : (t a : List ℕ) (o : Suffix) (k : Spelled) → Peels t a o → Spells a k → Spells t (add_suffix o k)
spells_array t a o k p h =
    record { valid = h.valid; lengths = rw all_append (both h.lengths (both p.valid refl)); paid = omega (arith, suffixes-snoc k.suffixes o) }

words-spelt : Entries Spelt kind_words
unfolding is_elementary
words-spelt = (refl, (refl, (refl, (refl, (refl, (refl, (refl, tt)))))))

from_str_in_lem : (k : ℕ) (t : List ℕ) → Right (Spells t) (from_str_in k t)
unfolding from_str_in
from_str_in_lem zero t = tt
from_str_in_lem (suc k) t = go (λ a. from_str_in k a) (λ a. from_str_in_lem k a) (lookup kind_words t) (peel t) (lookup-of Spelt kind_words t words-spelt) (peel-of t)
  where
    go : (inner : List ℕ → Result Spelled) → ((a : List ℕ) → Right (Spells a) (inner a)) → (e : Option Elementary) (p : Peeled) → In (Spelt t) e → PeelsTo t p → Right (Spells t) (from_str_by inner t e p)
    go inner i (Some e) p h l = spells_bare t e h
    go inner i None (peeled a o) h l = right-on (Spells a) (Spells t) (add_suffix o) (inner a) (i a) (λ j. spells_array t a o j l)
    go inner i None bare h l = right-on (Spelt t) (Spells t) unsuffixed (with_number t) (number_of t) (spells_bare t)

pub spelled : (t : List ℕ) → Right (Spells t) (from_str t)
unfolding from_str
spelled t = from_str_in_lem (suc (length t)) t
