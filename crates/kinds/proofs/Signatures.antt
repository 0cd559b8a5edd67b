-- A canonical text is no beginning of another, whatever follows; so joined signatures are equal exactly where the lists of signatures agree.
-- Assumes nothing.
use mathlib.Core.Path.{◌≡◌, refl, sym, ◌∙◌, ap}
use mathlib.Core.Logic.{◌↔◌}
use mathlib.Core.Bool.{Bool, true, false, cond}
use mathlib.Core.List.{List, [], ◌∷◌, ◌++◌, append_assoc}
use Rattle.std.specs.Prelude.{Option, None, Some}
use Prim.Native.Nat.{ℕ}
use native.Mathlib.Omega.{arith}
use lib.Dec.{eqb}
use lib.ListN.{length, length-append}
use lib.Seq.{ext_get_or}
use Rattle.kinds.specs.Bytes.{ascii, lparen, comma, lbracket, is_word_byte, is_word}
use Rattle.kinds.specs.Kind.{Elementary, Kind, elementary, tuple, Kinds, kind_text, Prototype, canonical}
use Rattle.kinds.specs.Signatures.{Signature, signature, joined_signatures, signatures_named, no_signature, SignaturesAgree}
use Rattle.kinds.proofs.Logic.{left, right}
use Rattle.kinds.proofs.Machine.{elementary_of, Place, at, State, in_name, in_word, after_kind, in_suffix, add, open_list, close, stop, stop_word, step, feed}
use Rattle.kinds.proofs.Joined.{prototype-read}

-- the first prototype that was read whole is p
abbrev Begun : Prototype → List Prototype → Type 0
Begun p done = (more : List Prototype) × (done ≡ p ∷ more)

abbrev PlaceBegun : Prototype → Place → Type 0
PlaceBegun p (at done n ks out) = Begun p done

abbrev StateBegun : Prototype → State → Type 0
StateBegun p (in_name done n) = Begun p done
StateBegun p (in_word q w) = PlaceBegun p q
StateBegun p (after_kind q k) = PlaceBegun p q
StateBegun p (in_suffix q k d) = PlaceBegun p q

module _ (p : Prototype) where
  either : (b : Bool) (s t : State) → StateBegun p s → StateBegun p t → StateBegun p (cond b s t)
  either true s t h k = h
  either false s t h k = k

  close-begun : (q : Place) → PlaceBegun p q → StateBegun p (close q)
  unfolding close
  close-begun (at done n ks []) (more, e) = (more ++ (record { name = n; kinds = ks } ∷ []), rw e)
  close-begun (at done n ks (js ∷ out)) h = h

  add-begun : (q : Place) (k : Kind) → PlaceBegun p q → PlaceBegun p (add q k)
  unfolding add
  add-begun (at done n ks out) k h = h

  open_begun : (q : Place) → PlaceBegun p q → PlaceBegun p (open_list q)
  unfolding open_list
  open_begun (at done n ks out) h = h

  stop-begun : (q : Place) (k : Kind) (c : ℕ) → PlaceBegun p q → StateBegun p (stop q k c)
  unfolding stop
  stop-begun q k c h = either (eqb c lbracket) _ _ h (either (eqb c comma) _ _ (add-begun q k h) (close-begun (add q k) (add-begun q k h)))

  word-begun : (q : Place) (o : Option Elementary) (c : ℕ) → PlaceBegun p q → StateBegun p (stop_word q o c)
  unfolding stop_word
  word-begun q None c h = close-begun q h
  word-begun q (Some e) c h = stop-begun q (elementary e) c h

  step-begun : (s : State) (c : ℕ) → StateBegun p s → StateBegun p (step s c)
  unfolding step
  step-begun (in_name done n) c h = either (is_word_byte c) _ _ h h
  step-begun (in_word q w) c h = either (is_word_byte c) _ _ h (either (eqb c lparen) _ _ (open_begun q h) (word-begun q (elementary_of w) c h))
  step-begun (after_kind q k) c h = stop-begun q k c h
  step-begun (in_suffix q k d) c h = either (is_word_byte c) _ _ h h

  feed-begun : (t : List ℕ) (s : State) → StateBegun p s → StateBegun p (feed s t)
  unfolding feed
  feed-begun [] s h = h
  feed-begun (c ∷ t) s h = feed-begun t (step s c) (step-begun s c h)

begun-once : (p q : Prototype) (done : List Prototype) → Begun p done → Begun q done → p ≡ q
begun-once p q done (ms, e) (ns, f) = let z : p ∷ ms ≡ q ∷ ns = sym e ∙ f in cc

state_once : (p q : Prototype) (s : State) → StateBegun p s → StateBegun q s → p ≡ q
state_once p q (in_name done n) = begun-once p q done
state_once p q (in_word (at done n ks out) w) = begun-once p q done
state_once p q (after_kind (at done n ks out) k) = begun-once p q done
state_once p q (in_suffix (at done n ks out) k d) = begun-once p q done

append_same : (u t v : List ℕ) → u ++ t ≡ u ++ v → t ≡ v
append_same [] t v e = e
append_same (c ∷ u) t v e = append_same u t v cc

module _ (p q : Prototype) (t u : List ℕ) (h : is_word p.name ≡ true) (k : is_word q.name ≡ true) (e : canonical p ++ t ≡ canonical q ++ u) where
  same_first : p ≡ q
  same_first =
      let one : StateBegun p (feed (in_name [] []) (canonical p ++ t)) = rw (prototype-read p [] t h) (feed-begun p t (in_name (p ∷ []) []) ([], refl)) in
      let two : StateBegun q (feed (in_name [] []) (canonical q ++ u)) = rw (prototype-read q [] u k) (feed-begun q u (in_name (q ∷ []) []) ([], refl)) in
      state_once p q (feed (in_name [] []) (canonical q ++ u)) (rw e at one) two

  -- a canonical text is no beginning of another
  pub canonical-first : (p ≡ q) × (t ≡ u)
  canonical-first = (same_first, append_same (canonical q) t u (rw same_first at e))

-- nor is the text of a list: it is what stands behind a name
f : Kinds → Prototype
f ks = record { name = ascii "f"; kinds = ks }

pub tuple-first : (js ks : Kinds) (t u : List ℕ) → kind_text (tuple js) ++ t ≡ kind_text (tuple ks) ++ u → (js ≡ ks) × (t ≡ u)
unfolding f canonical
tuple-first js ks t u e =
    let (x, y) = canonical-first (f js) (f ks) t u refl refl (ap (λ v. ascii "f" ++ v) e) in
    (ap (λ p. p.kinds) x, y)

-- nor is a signature
signed : Signature → Prototype
signed x = record { name = x.name; kinds = x.inputs }

-- what stands behind the canonical text
outputs_text : Signature → List ℕ
outputs_text x = ascii ":" ++ kind_text (tuple x.outputs)

signature-parts : (x : Signature) (t : List ℕ) → signature x ++ t ≡ canonical (signed x) ++ (ascii ":" ++ (kind_text (tuple x.outputs) ++ t))
unfolding signature signed outputs_text
signature-parts x t = append_assoc (canonical (signed x)) (outputs_text x) t

pub signature-first : (x y : Signature) (t u : List ℕ) → is_word x.name ≡ true → is_word y.name ≡ true → signature x ++ t ≡ signature y ++ u → (x ≡ y) × (t ≡ u)
unfolding signed
signature-first x y t u h k e =
    let (a, b) = canonical-first (signed x) (signed y) _ _ h k (sym (signature-parts x t) ∙ e ∙ signature-parts y u) in
    let (c, d) = tuple-first x.outputs y.outputs t u cc in
    (λ i. record { name = (a i).name; inputs = (a i).kinds; outputs = c i }, d)

signature-long : (x : Signature) (t : List ℕ) → signature x ++ t ≡ [] → ⊥
signature-long x t e =
    omega (arith, ap length (sym (signature-parts x t) ∙ e), length-append (canonical (signed x)) (ascii ":" ++ (kind_text (tuple x.outputs) ++ t)))

signatures_equal : (xs ys : List Signature) → signatures_named xs ≡ true → signatures_named ys ≡ true → joined_signatures xs ≡ joined_signatures ys → xs ≡ ys
unfolding joined_signatures signatures_named
signatures_equal [] [] h k e = refl
signatures_equal [] (y ∷ ys) h k e = absurd (signature-long y (joined_signatures ys) (sym e))
signatures_equal (x ∷ xs) [] h k e = absurd (signature-long x (joined_signatures xs) e)
signatures_equal (x ∷ xs) (y ∷ ys) h k e =
    let (a, b) = signature-first x y (joined_signatures xs) (joined_signatures ys) (left _ h) (left _ k) e in
    let c : xs ≡ ys = signatures_equal xs ys (right (is_word x.name) h) (right (is_word y.name) k) b in
    cc

-- "Two lists of functions whose signature texts joined are equal bytes must be equally long and agree place by place in name, inputs and outputs,
-- kinds only, and the other way round."
pub signatures_agree : (xs ys : List Signature) → signatures_named xs ≡ true → signatures_named ys ≡ true → (joined_signatures xs ≡ joined_signatures ys) ↔ SignaturesAgree xs ys
signatures_agree xs ys h k = (
  λ e. rw (signatures_equal xs ys h k e) (record { long = refl; names = λ i l. refl; inputs = λ i l. refl; outputs = λ i l. refl }),
  λ a. ap joined_signatures (ext_get_or no_signature xs ys a.long (λ i l j. record { name = a.names i l j; inputs = a.inputs i l j; outputs = a.outputs i l j })),
)
