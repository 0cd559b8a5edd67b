-- Joined canonical texts are equal exactly where the lists of prototypes are, and where they agree place by place.
-- Assumes nothing.
use mathlib.Core.Path.{◌≡◌, refl, ◌∙◌, ap}
use mathlib.Core.Logic.{◌↔◌}
use mathlib.Core.Bool.{true, false}
use mathlib.Core.List.{List, [], ◌∷◌, ◌++◌, append_assoc, append-nil}
use Rattle.std.specs.Prelude.{Some}
use Prim.Native.Nat.{ℕ}
use lib.Dec.{eqb}
use lib.Seq.{ext_get_or}
use Rattle.kinds.specs.Bytes.{ascii, lparen, rbracket, all, is_word_byte, is_word}
use Rattle.kinds.specs.Decimal.{decimal, unsigned}
use Rattle.kinds.specs.Kind.{bits, octets, Elementary, int, uint, fixed_bytes, address, bool, function, bytes, string, Suffix, sized, unsized, Kind, elementary, tuple, array, Kinds, no_kind, more_kinds, elementary_text, suffix_text, kind_text, list_text, rest_text, Prototype, canonical}
use Rattle.kinds.specs.Joined.{joined, named, nothing, Agree}
use Rattle.kinds.proofs.Logic.{both, left, right, word-all}
use Rattle.kinds.proofs.Decimal.{decimal-value, decimal-word, decimal-unsigned}
use Rattle.kinds.proofs.Machine.{elementary_of, suffix_of, Place, at, State, in_name, in_word, after_kind, in_suffix, snoc, add, open_list, close, stop, stop_word, step, feed, found}

-- a kind that holds no kind is read back from its text, which is of word bytes
elementary-read : (e : Elementary) → elementary_of (elementary_text e) ≡ Some e
unfolding elementary_of elementary_text unsigned
elementary-read (int (bits m)) = rw (decimal-value m)
elementary-read (uint (bits m)) = rw (decimal-value m)
elementary-read (fixed_bytes (octets m)) = rw (decimal-unsigned m)
elementary-read address = refl
elementary-read bool = refl
elementary-read function = refl
elementary-read bytes = refl
elementary-read string = refl

pub elementary-word : (e : Elementary) → all is_word_byte (elementary_text e) ≡ true
unfolding elementary_text
elementary-word (int (bits m)) = decimal-word m
elementary-word (uint (bits m)) = decimal-word m
elementary-word (fixed_bytes (octets m)) = decimal-word m
elementary-word address = refl
elementary-word bool = refl
elementary-word function = refl
elementary-word bytes = refl
elementary-word string = refl

-- a state that gathers word bytes takes in a run of them
module _ (mk : List ℕ → State) (one : (w : List ℕ) (c : ℕ) → is_word_byte c ≡ true → step (mk w) c ≡ mk (w ++ (c ∷ []))) where
  feed-word : (w acc t : List ℕ) → all is_word_byte w ≡ true → feed (mk acc) (w ++ t) ≡ feed (mk (acc ++ w)) t
  unfolding feed
  feed-word [] acc t h = rw append-nil
  feed-word (c ∷ w) acc t h = ap (λ s. feed s (w ++ t)) (one acc c (left _ h)) ∙ feed-word w (acc ++ (c ∷ [])) t (right (is_word_byte c) h) ∙ rw append_assoc

-- kinds read one after the other, behind those of js
joins : Kinds → Kinds → Kinds
joins js no_kind = js
joins js (more_kinds k ks) = joins (snoc js k) ks

joins-more : (j : Kind) (ks js : Kinds) → joins (more_kinds j js) ks ≡ more_kinds j (joins js ks)
unfolding joins snoc
joins-more j no_kind js = refl
joins-more j (more_kinds k ks) js = joins-more j ks (snoc js k)

joins-none : (ks : Kinds) → joins no_kind ks ≡ ks
unfolding joins snoc
joins-none no_kind = refl
joins-none (more_kinds k ks) = joins-more k ks no_kind ∙ ap (more_kinds k) (joins-none ks)

-- what can follow a kind: its first byte ends a word and opens no tuple
abbrev Stops : List ℕ → Type 0
Stops [] = ⊥
Stops (c ∷ t) = (is_word_byte c ≡ false) × (eqb c lparen ≡ false)

rest-stops : (ks : Kinds) (t : List ℕ) → Stops (rest_text ks ++ t)
unfolding rest_text
rest-stops no_kind t = (refl, refl)
rest-stops (more_kinds k ks) t = (refl, refl)

suffix-stops : (s : Suffix) (t : List ℕ) → Stops (suffix_text s ++ t)
unfolding suffix_text
suffix-stops (sized n) t = (refl, refl)
suffix-stops unsized t = (refl, refl)

-- the machine reads the kind k, whatever it has read before and whatever follows
abbrev Reads : Kind → Type 0
Reads k = (p : Place) (t : List ℕ) → Stops t → feed (in_word p []) (kind_text k ++ t) ≡ feed (after_kind p k) t

abbrev ReadsList : Kinds → Type 0
ReadsList ks = (done : List Prototype) (n : List ℕ) (out : List Kinds) (t : List ℕ) → feed (in_word (at done n no_kind out) []) (list_text ks ++ t) ≡ feed (close (at done n ks out)) t

abbrev ReadsRest : Kinds → Type 0
ReadsRest ks = (done : List Prototype) (n : List ℕ) (js : Kinds) (out : List Kinds) (k : Kind) (t : List ℕ) → feed (after_kind (at done n js out) k) (rest_text ks ++ t) ≡ feed (close (at done n (joins js (more_kinds k ks)) out)) t

reads-elementary : (e : Elementary) → Reads (elementary e)
unfolding kind_text feed step stop_word
reads-elementary e p [] h = absurd h
reads-elementary e p (c ∷ t) h =
    feed-word (in_word p) (λ w d i. rw i) (elementary_text e) [] (c ∷ t) (elementary-word e) ∙ ap (λ s. feed s t) (rw (h.0, h.1, elementary-read))

suffix-read : (p : Place) (k : Kind) (s : Suffix) (t : List ℕ) → feed (after_kind p k) (suffix_text s ++ t) ≡ feed (after_kind p (array k s)) t
unfolding suffix_text feed step stop unsigned
suffix-read p k unsized t = refl
suffix-read p k (sized n) t =
    ap (feed (in_suffix p k [])) (append_assoc (decimal n) (rbracket ∷ []) t)
    ∙ feed-word (in_suffix p k) (λ w d i. rw i) (decimal n) [] (rbracket ∷ t) (decimal-word n)
    ∙ ap (λ o. feed (after_kind p (array k (suffix_of o))) t) (decimal-unsigned n)

reads-array : (k : Kind) (s : Suffix) → Reads k → Reads (array k s)
unfolding kind_text
reads-array k s r p t h = rw append_assoc (r p (suffix_text s ++ t) (suffix-stops s t) ∙ suffix-read p k s t)

reads-tuple : (ks : Kinds) → ReadsList ks → Reads (tuple ks)
unfolding kind_text feed step open_list close
reads-tuple ks r (at done n js out) t h = r done n (js ∷ out) t

-- a kind, and what follows it in a list
reads_then : (k : Kind) → Reads k → (p : Place) (ks : Kinds) (t : List ℕ) → feed (in_word p []) (kind_text k ++ rest_text ks ++ t) ≡ feed (after_kind p k) (rest_text ks ++ t)
reads_then k r p ks t = rw append_assoc (r p (rest_text ks ++ t) (rest-stops ks t))

list-more : (k : Kind) (ks : Kinds) → Reads k → ReadsRest ks → ReadsList (more_kinds k ks)
unfolding kind_text
list-more k ks r rs done n out t =
    reads_then k r (at done n no_kind out) ks t ∙ rs done n no_kind out k t ∙ rw (joins-none (more_kinds k ks))

rest_more : (k : Kind) (ks : Kinds) → Reads k → ReadsRest ks → ReadsRest (more_kinds k ks)
unfolding kind_text feed step stop add joins
rest_more k ks r rs done n js out j t = reads_then k r (at done n (snoc js j) out) ks t ∙ rs done n (snoc js j) out k t

mutual
  unfolding kind_text feed step stop stop_word elementary_of joins add

  reads : (k : Kind) → Reads k
  reads (elementary e) = reads-elementary e
  reads (tuple ks) = reads-tuple ks (reads-list ks)
  reads (array k s) = reads-array k s (reads k)

  reads-list : (ks : Kinds) → ReadsList ks
  reads-list no_kind = λ done n out t. refl
  reads-list (more_kinds k ks) = list-more k ks (reads k) (reads-rest ks)

  reads-rest : (ks : Kinds) → ReadsRest ks
  reads-rest no_kind = λ done n js out k t. refl
  reads-rest (more_kinds k ks) = rest_more k ks (reads k) (reads-rest ks)

-- a prototype is read, and so is each of a list
pub prototype-read : (p : Prototype) (done : List Prototype) (t : List ℕ) → is_word p.name ≡ true → feed (in_name done []) (canonical p ++ t) ≡ feed (in_name (done ++ (p ∷ [])) []) t
unfolding canonical kind_text feed step close
prototype-read p done t h =
    ap (feed (in_name done [])) (append_assoc p.name (kind_text (tuple p.kinds)) t)
    ∙ feed-word (in_name done) (λ w d i. rw i) p.name [] (kind_text (tuple p.kinds) ++ t) (word-all p.name h)
    ∙ reads-list p.kinds done p.name [] t

joined-read : (ps done : List Prototype) → named ps ≡ true → feed (in_name done []) (joined ps) ≡ in_name (done ++ ps) []
unfolding joined feed named
joined-read [] done h = rw append-nil
joined-read (p ∷ ps) done h =
    prototype-read p done (joined ps) (left _ h)
    ∙ joined-read ps (done ++ (p ∷ [])) (right (is_word p.name) h)
    ∙ rw append_assoc

-- the prototypes that a joined text holds
pub apart : List ℕ → List Prototype
apart t = found (feed (in_name [] []) t)

apart-joined : (ps : List Prototype) → named ps ≡ true → apart (joined ps) ≡ ps
unfolding apart found
apart-joined ps h = ap found (joined-read ps [] h)

pub joined_equal : (xs ys : List Prototype) → named xs ≡ true → named ys ≡ true → (joined xs ≡ joined ys) ↔ (xs ≡ ys)
joined_equal xs ys h k = (λ e. cc (apart-joined xs h, apart-joined ys k), ap joined)

equal_agree : (xs ys : List Prototype) → (xs ≡ ys) ↔ Agree xs ys
equal_agree xs ys = (
  λ e. rw e (record { long = refl; names = λ i h. refl; inputs = λ i h. refl }),
  λ a. ext_get_or nothing xs ys a.long (λ i h j. record { name = a.names i h j; kinds = a.inputs i h j }),
)

pub joined_agree : (xs ys : List Prototype) → named xs ≡ true → named ys ≡ true → (joined xs ≡ joined ys) ↔ Agree xs ys
joined_agree xs ys h k = simp (joined_equal xs ys h k) (equal_agree xs ys)

-- the canonical text of a prototype, and the text of a kind, stand for no other
pub canonical_injective : (p q : Prototype) → is_word p.name ≡ true → is_word q.name ≡ true → canonical p ≡ canonical q → p ≡ q
unfolding joined named
canonical_injective p q h k e =
    let one : p ∷ [] ≡ q ∷ [] = (joined_equal (p ∷ []) (q ∷ []) (both h refl) (both k refl)).0 (rw e) in
    cc

-- f(k)
sole : Kind → Prototype
sole k = record { name = ascii "f"; kinds = more_kinds k no_kind }

pub kind-text_injective : (j k : Kind) → kind_text j ≡ kind_text k → j ≡ k
unfolding sole canonical kind_text
kind-text_injective j k e =
    let one : more_kinds j no_kind ≡ more_kinds k no_kind = ap (λ p. p.kinds) (canonical_injective (sole j) (sole k) refl refl (rw e)) in
    cc
