-- What it means that a decoder reads exactly what an encoder writes; the decoder's steps, and the law of its lists; for lengths of any width w.
-- Assumes nothing.
use mathlib.Core.Path.{◌≡◌, refl, sym, ◌∙◌, ap}
use mathlib.Core.Logic.{◌↔◌}
use mathlib.Core.Bool.{Bool, true, false, ◌&&◌, and-eq-true_iff}
use mathlib.Core.List.{List, [], ◌∷◌, ◌++◌, append-nil}
use Rattle.std.specs.Prelude.{Option, None, Some}
use Rattle.std.proofs.lemmas.Option.{none-some, same_Some}
use Prim.Native.Nat.{ℕ, zero, suc, ◌+◌, ◌^◌, ◌≤◌, ◌<◌}
use native.Mathlib.Omega.{arith}
use lib.Dec.{leb, eqb}
use lib.ListN.{length, take, drop, length-append, take-append-drop}
use lib.Seq.{take_at, drop_at, length-take-le}
use borrow.Author.Tests.{leb-true, le-leb, eqb-true, eq-eqb, ne_eqb}
use Rattle.kinds.proofs.Logic.{both}
use Rattle.model.specs.Layout.{little_endian, le_value, record_of, Piece, piece, no_piece, piece_of, Bytes}
use Rattle.model.specs.Record.{given, on_option, when, ended, on_piece, of_kind, wholly, fronted, Case, case, select, each_by, each_in, each}
use Rattle.model.proofs.Pieces.{bytes_take, bytes_drop, le_length, le_read, le_written, le_below, record_length, piece-read, Begins, piece-written}

-- a number that is none of the cases
module _ {A : Type 0} where
  abbrev pub Misses : ℕ → List (Case A) → Type 0
  Misses k [] = Unit {0}
  Misses k (case n a ∷ cs) = (k ≡ n → ⊥) × Misses k cs

  pub select-other : (k : ℕ) (cs : List (Case A)) (d : A) → Misses k cs → select cs d k ≡ d
  select-other k [] d m = refl
  select-other k (case n a ∷ cs) d m = rw (ne_eqb n k (λ q. m.0 (sym q)), select) (select-other k cs d m.1)

-- what T reads of a body of kind k is good, and is written so
abbrev pub Sound : (w : ℕ) {A : Type 0} → (A → Bool) → (A → List ℕ) → ℕ → (List ℕ → Option A) → Type 0
Sound w {A} good enc k T = (body : List ℕ) (a : A) → Bytes body → T body ≡ Some a → (good a ≡ true) × (enc a ≡ record_of w k body)

-- b is one record, that D reads as a
abbrev pub Written : (w : ℕ) {A : Type 0} → (ℕ → List ℕ → Option A) → List ℕ → A → Type 0
Written w D b a = (k : ℕ) × (body : List ℕ) × (k < 65536) × (b ≡ record_of w k body) × (D k body ≡ Some a)

-- D reads a kind and a body as a exactly where a is good and its encoding is their record
pub record Reads (w : ℕ) {A : Type 0} (D : ℕ → List ℕ → Option A) (good : A → Bool) (enc : A → List ℕ) : Type 0 where
  pub from : (k : ℕ) → Sound w good enc k (D k)
  pub to : (a : A) → good a ≡ true → length (enc a) < 256 ^ w → Written w D (enc a) a

-- T reads bytes as l exactly where l is good and they are its encoding
pub record Spells (w : ℕ) {L : Type 0} (T : List ℕ → Option L) (good : L → Bool) (enc : L → List ℕ) : Type 0 where
  pub from : (b : List ℕ) (l : L) → Bytes b → T b ≡ Some l → (good l ≡ true) × (b ≡ enc l)
  pub to : (l : L) → good l ≡ true → length (enc l) < 256 ^ w → T (enc l) ≡ Some l

-- P reads what bytes begin with, in that way, and goes on with f
pub record Part (w : ℕ) {X A : Type 0} (P : List ℕ → (X → List ℕ → Option A) → Option A) (good : X → Bool) (enc : X → List ℕ) : Type 1 where
  pub from : {Q : Type 0} (b : List ℕ) (f : X → List ℕ → Option A) (a : A) → Bytes b → P b f ≡ Some a → ((x : X) (r : List ℕ) → good x ≡ true → b ≡ enc x ++ r → Bytes r → f x r ≡ Some a → Q) → Q
  pub to : (x : X) (r : List ℕ) (f : X → List ℕ → Option A) → good x ≡ true → length (enc x) < 256 ^ w → P (enc x ++ r) f ≡ f x r

-- the steps backwards: what was there where a step gave something
module _ {A Q : Type 0} {a : A} where
  pub when-some : (t : Bool) (o : Option A) → when t o ≡ Some a → (t ≡ true → o ≡ Some a → Q) → Q
  when-some true o e next = next refl e
  when-some false o e next = absurd (none-some a e)

  test-some : (t : Bool) (o : Option A) → elim t as (λ _. Option A) [ true ↦ o | false ↦ None ] ≡ Some a → (t ≡ true → o ≡ Some a → Q) → Q
  test-some true o e next = next refl e
  test-some false o e next = absurd (none-some a e)

  pub given-some : {X : Type 0} (o : Option X) (f : X → Option A) → given o f ≡ Some a → ((x : X) → o ≡ Some x → f x ≡ Some a → Q) → Q
  given-some None f e next = absurd (none-some a e)
  given-some (Some x) f e next = next x refl e

  pub on_some : {X : Type 0} (f : X → A) (o : Option X) → on_option f o ≡ Some a → ((x : X) → o ≡ Some x → f x ≡ a → Q) → Q
  on_some f None e next = absurd (none-some a e)
  on_some f (Some x) e next = next x refl (same_Some _ _ e)

  pub ended_some : (t : List ℕ) (o : Option A) → ended t o ≡ Some a → (t ≡ [] → o ≡ Some a → Q) → Q
  ended_some [] o e next = next refl e
  ended_some (c ∷ t) o e next = absurd (none-some a e)

  wholly-some : (n : ℕ) (b : List ℕ) (f : ℕ → Option A) → Bytes b → wholly n b f ≡ Some a → ((v : ℕ) → v < 256 ^ n → b ≡ little_endian n v → f v ≡ Some a → Q) → Q
  wholly-some n b f h e next =
      test-some (eqb (length b) n) (f (le_value b)) e (λ p q.
      let long : length b ≡ n = eqb-true _ _ p in
      next (le_value b) (rw long at (le_below b h)) (sym (rw long at (le_written b h))) q)

  -- `fronted b f`, with o for what f says
  pub fronted-some : (b : List ℕ) (o : Option A) → Bytes b → elim (leb 2 (length b)) as (λ _. Option A) [ true ↦ o | false ↦ None ] ≡ Some a
      → (b ≡ little_endian 2 (le_value (take 2 b)) ++ drop 2 b → Bytes (drop 2 b) → o ≡ Some a → Q) → Q
  fronted-some b o h e next =
      test-some (leb 2 (length b)) o e (λ p q.
      let long : length (take 2 b) ≡ 2 = length-take-le 2 b (leb-true _ _ p) in
      next (rw (rw long at (le_written _ (bytes_take 2 b h))) (sym (take-append-drop 2 b))) (bytes_drop 2 b h) q)

  piece-some : (w : ℕ) (b : List ℕ) (f : ℕ → List ℕ → List ℕ → Option A) → Bytes b → on_piece (piece_of w b) f ≡ Some a → ((k : ℕ) (body r : List ℕ) → Begins w b k body r → f k body r ≡ Some a → Q) → Q
  piece-some w b f h e next = go (piece_of w b) refl
    where
      go : (p : Piece) → piece_of w b ≡ p → Q
      go no_piece q = absurd (none-some a (rw q at e))
      go (piece k body r) q = next k body r (piece-written w b k body r h q) (rw q at e)

  pub kind-some : (w k : ℕ) (b : List ℕ) (f : List ℕ → List ℕ → Option A) → Bytes b → of_kind k (piece_of w b) f ≡ Some a → ((body r : List ℕ) → Begins w b k body r → f body r ≡ Some a → Q) → Q
  kind-some w k b f h e next = piece-some w b _ h e (λ j body r c n. test-some (eqb j k) (f body r) n (λ p q. next body r (rw (eqb-true j k p) at c) q))

-- the steps forwards: what a step gives where something was written
module _ {A : Type 0} where
  wholly-to : (n v : ℕ) (f : ℕ → Option A) → v < 256 ^ n → wholly n (little_endian n v) f ≡ f v
  wholly-to n v f h = rw (wholly, le_length, eq-eqb n n refl, le_read n v h)

  pub number-to : (n v : ℕ) (t : ℕ → Bool) (f : ℕ → A) → v < 256 ^ n → t v ≡ true → wholly n (little_endian n v) (λ u. when (t u) (Some (f u))) ≡ Some (f v)
  number-to n v t f h g = rw (wholly-to n v, g)

  pub fronted-to : (m : ℕ) (r : List ℕ) (f : ℕ → List ℕ → Option A) → m < 256 ^ 2 → fronted (little_endian 2 m ++ r) f ≡ f m r
  fronted-to m r f h =
      let long : leb 2 (length (little_endian 2 m ++ r)) ≡ true = le-leb 2 (length (little_endian 2 m ++ r)) (simp (length-append, le_length) (omega arith)) in
      rw (fronted, long, take_at _ r 2 (le_length 2 m), drop_at _ r 2 (le_length 2 m), le_read 2 m h)

  pub kind-to : (w k : ℕ) (body r : List ℕ) (f : List ℕ → List ℕ → Option A) → k < 65536 → length (record_of w k body) < 256 ^ w → of_kind k (piece_of w (record_of w k body ++ r)) f ≡ f body r
  kind-to w k body r f h l = rw (piece-read w k body r h (rw record_length at l), on_piece, eq-eqb k k refl)

-- the first of records that D reads
pub reads-part : (w : ℕ) {A X : Type 0} (D : ℕ → List ℕ → Option X) (good : X → Bool) (enc : X → List ℕ) → Reads w D good enc
    → Part w {A = A} (λ b f. on_piece (piece_of w b) (λ k body r. given (D k body) (λ x. f x r))) good enc
reads-part w D good enc R = record {
  from = λ b f a h e next.
      piece-some w b _ h e (λ k body r c n. given-some (D k body) _ n (λ x p q.
      let (g, u) = R.from k body x c.bytes p in
      next x r g (rw u c.parts) c.rest q));
  to = λ x r f g l.
      let (k, body, small, u, p) = R.to x g l in
      rw (u, piece-read w k body r small (rw (u, record_length) at l), p);
}

-- lists, made by nil and cons, that are good and are written one after the other
pub record Lists {A L : Type 0} (nil : L) (cons : A → L → L) (good : A → Bool) (enc : A → List ℕ) (goods : L → Bool) (encs : L → List ℕ) : Type 1 where
  pub induction : (P : L → Type 0) → P nil → ((a : A) (l : L) → P l → P (cons a l)) → (l : L) → P l
  pub good_nil : goods nil ≡ true
  pub good_cons : (a : A) (l : L) → goods (cons a l) ≡ (good a && goods l)
  pub enc_nil : encs nil ≡ []
  pub enc_cons : (a : A) (l : L) → encs (cons a l) ≡ enc a ++ encs l

module _ (w : ℕ) {A L : Type 0} (nil : L) (cons : A → L → L) (D : ℕ → List ℕ → Option A) (good : A → Bool) (enc : A → List ℕ) (goods : L → Bool) (encs : L → List ℕ) (ls : Lists nil cons good enc goods encs) (R : Reads w D good enc) where
  first : Part w {A = L} (λ b f. on_piece (piece_of w b) (λ k body r. given (D k body) (λ x. f x r))) good enc
  first = reads-part w D good enc R

  each_from : (n : ℕ) (b : List ℕ) (l : L) → Bytes b → each_in w nil cons D n b ≡ Some l → (goods l ≡ true) × (b ≡ encs l)
  unfolding each_in
  each_from zero b l h e = ended_some b (Some nil) e (λ p q. rw (← (same_Some nil l q)) (ls.good_nil, p ∙ sym ls.enc_nil))
  each_from (suc n) [] l h e = rw (← (same_Some nil l e)) (ls.good_nil, sym ls.enc_nil)
  each_from (suc n) (c ∷ t) l h e =
      first.from (c ∷ t) (λ a r. on_option (cons a) (each_in w nil cons D n r)) l h e (λ a r g u k q.
      on_some (cons a) (each_in w nil cons D n r) q (λ m p same.
      let (gs, us) = each_from n r m k p in
      rw (← same) (ls.good_cons a m ∙ both g gs, u ∙ ap (λ y. enc a ++ y) us ∙ sym (ls.enc_cons a m))))

  each_step : (n : ℕ) (b : List ℕ) → 0 < length b → each_in w nil cons D (suc n) b ≡ each_by w cons D (λ r. each_in w nil cons D n r) (piece_of w b)
  unfolding each_in
  each_step n [] h = absurd (omega arith)
  each_step n (c ∷ t) h = refl

  cons_sizes : (a : A) (l : L) → goods (cons a l) ≡ true → length (encs (cons a l)) < 256 ^ w → (good a ≡ true) × (goods l ≡ true) × (length (encs (cons a l)) ≡ length (enc a) + length (encs l)) × (0 < length (enc a))
  cons_sizes a l g f =
      let (p, q) = (and-eq-true_iff _ _).0 (sym (ls.good_cons a l) ∙ g) in
      let sum : length (encs (cons a l)) ≡ length (enc a) + length (encs l) = rw (ls.enc_cons a l) (length-append (enc a) (encs l)) in
      let (k, body, small, u, e) = R.to a p (omega arith) in
      (p, q, sum, rw (u, record_length) (omega arith))

  -- read back in n steps, where n is enough
  abbrev Back : L → Type 0
  Back l = (n : ℕ) → length (encs l) ≤ n → goods l ≡ true → length (encs l) < 256 ^ w → each_in w nil cons D n (encs l) ≡ Some l

  back_nil : Back nil
  unfolding each_in
  back_nil zero h g f = rw ls.enc_nil
  back_nil (suc n) h g f = rw ls.enc_nil

  back_cons : (a : A) (l : L) → Back l → Back (cons a l)
  back_cons a l ih zero h g f = let s = cons_sizes a l g f in absurd (omega arith)
  back_cons a l ih (suc n) h g f =
      let (p, q, sum, more) = cons_sizes a l g f in
      rw (ls.enc_cons a l) (each_step n (enc a ++ encs l) (rw length-append (omega arith)) ∙ first.to a (encs l) _ p (omega arith) ∙ ap (on_option (cons a)) (ih n (omega arith) q (omega arith)))

  pub each_spells : Spells w (each w nil cons D) goods encs
  each_spells = record { from = λ b l h e. each_from (length b) b l h e; to = λ l g f. ls.induction Back back_nil back_cons l (length (encs l)) (omega arith) g f }

-- the same by what the records are mapped to
module _ (w : ℕ) {A L : Type 0} (nil : L) (cons : A → L → L) (D : ℕ → List ℕ → Option A) (text : A → List ℕ) (texts : L → List ℕ) (join : List ℕ → List ℕ → List ℕ)
    (h : (a : A) (l : L) → texts (cons a l) ≡ join (text a) (texts l)) where
  pub mapped_end : (k : ℕ) → on_option texts (each_in w nil cons D k []) ≡ Some (texts nil)
  unfolding each_in
  mapped_end zero = refl
  mapped_end (suc k) = refl

  pub mapped_step : (k : ℕ) (b : List ℕ) → 0 < length b
      → on_option texts (each_in w nil cons D (suc k) b) ≡ on_piece (piece_of w b) (λ j body r. given (on_option text (D j body)) (λ u. on_option (join u) (on_option texts (each_in w nil cons D k r))))
  unfolding each_in
  mapped_step k [] l = absurd (omega arith)
  mapped_step k (c ∷ t) l = go (piece_of w (c ∷ t))
    where
      more : (a : A) (o : Option L) → on_option texts (on_option (cons a) o) ≡ on_option (join (text a)) (on_option texts o)
      more a None = refl
      more a (Some m) = ap Some (h a m)

      taken : (o : Option A) (r : List ℕ) → on_option texts (given o (λ a. on_option (cons a) (each_in w nil cons D k r))) ≡ given (on_option text o) (λ u. on_option (join u) (on_option texts (each_in w nil cons D k r)))
      taken None r = refl
      taken (Some a) r = more a (each_in w nil cons D k r)

      go : (p : Piece) → on_option texts (each_by w cons D (λ r. each_in w nil cons D k r) p) ≡ on_piece p (λ j body r. given (on_option text (D j body)) (λ u. on_option (join u) (on_option texts (each_in w nil cons D k r))))
      go no_piece = refl
      go (piece j body r) = taken (D j body) r

-- kinds told apart by their number
module _ (w : ℕ) {A : Type 0} (good : A → Bool) (enc : A → List ℕ) where
  abbrev pub Sounds : List (Case (List ℕ → Option A)) → Type 0
  Sounds [] = Unit {0}
  Sounds (case k T ∷ cs) = Sound w good enc k T × Sounds cs

  pub select-sound : (cs : List (Case (List ℕ → Option A))) → Sounds cs → (k : ℕ) → Sound w good enc k (select cs (λ _. None) k)
  select-sound [] h k body a b e = absurd (none-some a e)
  select-sound (case n T ∷ cs) h k body a b e = go (eqb n k) refl e (select-sound cs h.1 k body a b)
    where
      go : (t : Bool) → eqb n k ≡ t → (elim t as (λ _. List ℕ → Option A) [ true ↦ T | false ↦ select cs (λ _. None) k ]) body ≡ Some a → (select cs (λ _. None) k body ≡ Some a → (good a ≡ true) × (enc a ≡ record_of w k body)) → (good a ≡ true) × (enc a ≡ record_of w k body)
      go true p q later = rw (← (eqb-true n k p)) (h.0 body a b q)
      go false p q later = later q

  -- a body that is a number in n bytes, which passes a test
  pub number-sound : (k n : ℕ) (t : ℕ → Bool) (f : ℕ → A) → ((v : ℕ) → v < 256 ^ n → t v ≡ true → good (f v) ≡ true) → ((v : ℕ) → enc (f v) ≡ record_of w k (little_endian n v))
      → Sound w good enc k (λ body. wholly n body (λ v. when (t v) (Some (f v))))
  number-sound k n t f g u body a h e =
      wholly-some n body (λ v. when (t v) (Some (f v))) h e (λ v less p q.
      when-some (t v) (Some (f v)) q (λ r s. rw (← (same_Some _ _ s), p) (g v less r, u v)))

  -- no body
  pub bare-sound : (k : ℕ) (a : A) → good a ≡ true → enc a ≡ record_of w k [] → Sound w good enc k (λ body. ended body (Some a))
  bare-sound k a g u body x h e = ended_some body (Some a) e (λ p q. rw (← (same_Some _ _ q), p) (g, u))

-- one record that is all of the bytes
module _ (w : ℕ) {A : Type 0} (D : ℕ → List ℕ → Option A) (good : A → Bool) (enc : A → List ℕ) (R : Reads w D good enc) where
  pub alone-to : (a : A) → good a ≡ true → length (enc a) < 256 ^ w → on_piece (piece_of w (enc a)) (λ k body r. ended r (D k body)) ≡ Some a
  alone-to a g l =
      let (k, body, small, u, e) = R.to a g l in
      rw (u, ← append-nil (record_of w k body), piece-read w k body [] small (rw (u, record_length) at l)) e

  pub alone-from : (b : List ℕ) (a : A) → Bytes b → on_piece (piece_of w b) (λ k body r. ended r (D k body)) ≡ Some a → (good a ≡ true) × (b ≡ enc a)
  alone-from b a h e =
      piece-some w b _ h e (λ k body r c n. ended_some r _ n (λ u q.
      let (g, v) = R.from k body a c.bytes q in
      (g, c.parts ∙ ap (λ y. record_of w k body ++ y) u ∙ append-nil _ ∙ sym v)))

  pub alone-exactly : (b : List ℕ) (a : A) → Bytes b → length b < 256 ^ w → (on_piece (piece_of w b) (λ k body r. ended r (D k body)) ≡ Some a) ↔ ((good a ≡ true) × (b ≡ enc a))
  alone-exactly b a h l = (alone-from b a h, λ p. rw p.1 (alone-to a p.0 (rw p.1 at l)))

  pub alone_injective : (a b : A) → good a ≡ true → good b ≡ true → length (enc a) < 256 ^ w → enc a ≡ enc b → a ≡ b
  alone_injective a b g k l u = same_Some a b (sym (alone-to a g l) ∙ (rw u (alone-to b k (rw u at l))))
