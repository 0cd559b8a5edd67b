-- Whether a kind admits data locations, by the records of its base and its suffixes.
-- Assumes nothing.
use mathlib.Core.Path.{◌≡◌, refl, sym, ◌∙◌, ap, subst}
use mathlib.Core.Bool.{Bool, true, false, ◌||◌, and-false}
use mathlib.Core.List.{List, [], ◌∷◌}
use Rattle.std.specs.Prelude.{Option, None, Some}
use Rattle.std.proofs.lemmas.Option.{none-some, same_Some}
use Prim.Native.Nat.{ℕ, ◌≤◌, ◌<◌}
use native.Mathlib.Omega.{arith}
use lib.Dec.{leb, eqb}
use lib.ListN.{length}
use borrow.Author.Tests.{eqb-true, le-leb, lt-leb}
use Rattle.kinds.specs.Bytes.{between}
use Rattle.kinds.specs.Kind.{bits, octets, is_bit_width, is_byte_length, Elementary, int, uint, fixed_bytes, address, bool, bytes, string, Suffix}
use Rattle.model.specs.Tree.{Base, elementary, tuple, Field, field, Fields}
use Rattle.model.specs.Reading.{is_located, can_specify_location}
use Rattle.model.specs.Layout.{le_value, Piece, piece, no_piece, piece_of}
use Rattle.model.specs.Record.{given, on_option, when, ended, on_piece, wholly, Case, case, select, elementary_cases, decode_elementary, decode_suffix, base_from, each_in, decode_suffixes}
use Rattle.model.proofs.Decoding.{when-some, given-some, on_some, ended_some}
use Rattle.record.specs.declared.Piece.{Piece as Parsed}
use Rattle.record.specs.Parts.{taken, PieceIs}
use Rattle.record.specs.Texts.{is_more, located_at, located_from}

-- what each elementary kind's number tells
module _ (body : List ℕ) (e : Elementary) where
  abbrev Tells : List (Case (List ℕ → Option Elementary)) → Type 0
  Tells [] = Unit {0}
  Tells (case n T ∷ cs) = (T body ≡ Some e → is_located e ≡ between 7 9 n) × Tells cs

  select-tells : (cs : List (Case (List ℕ → Option Elementary))) → Tells cs → (k : ℕ) → select cs (λ _. None) k body ≡ Some e → is_located e ≡ between 7 9 k
  select-tells [] h k q = absurd (none-some e q)
  select-tells (case n T ∷ cs) h k q = go (eqb n k) refl q (select-tells cs h.1 k)
    where
      go : (t : Bool) → eqb n k ≡ t → (elim t as (λ _. List ℕ → Option Elementary) [ true ↦ T | false ↦ select cs (λ _. None) k ]) body ≡ Some e → (select cs (λ _. None) k body ≡ Some e → is_located e ≡ between 7 9 k) → is_located e ≡ between 7 9 k
      go true p r later = rw (← (eqb-true n k p)) (h.0 r)
      go false p r later = later r

  numbered : (t : ℕ → Bool) (f : ℕ → Elementary) (b : Bool) → ((v : ℕ) → is_located (f v) ≡ b) → wholly 2 body (λ v. when (t v) (Some (f v))) ≡ Some e → is_located e ≡ b
  numbered t f b h q = go (eqb (length body) 2) q
    where
      go : (x : Bool) → elim x as (λ _. Option Elementary) [ true ↦ when (t (le_value body)) (Some (f (le_value body))) | false ↦ None ] ≡ Some e → is_located e ≡ b
      go true r = when-some (t (le_value body)) (Some (f (le_value body))) r (λ _ s. rw (← (same_Some _ _ s)) (h (le_value body)))
      go false r = absurd (none-some e r)

  worded : (x : Elementary) → ended body (Some x) ≡ Some e → is_located e ≡ is_located x
  worded x q = ended_some body (Some x) q (λ _ s. ap is_located (sym (same_Some _ _ s)))

  elementary-tells : Tells elementary_cases
  elementary-tells = (numbered is_bit_width (λ v. int (bits v)) false (λ v. refl), (numbered is_bit_width (λ v. uint (bits v)) false (λ v. refl), (worded address, (worded bool, (numbered is_byte_length (λ v. fixed_bytes (octets v)) false (λ v. refl), (worded Elementary.function, (worded bytes, (worded string, tt))))))))

  located_elementary : (k : ℕ) → decode_elementary k body ≡ Some e → is_located e ≡ between 7 9 k
  unfolding decode_elementary
  located_elementary k q = select-tells elementary_cases elementary-tells k q

-- a base
located_base_lem : (T : List ℕ → Option Fields) (k : ℕ) (body : List ℕ) (b : Base) → base_from T k body ≡ Some b → can_specify_location b [] ≡ between 7 9 k
unfolding base_from
located_base_lem T k body b q = go (eqb k 0x9) refl q
  where
    go : (t : Bool) → eqb k 0x9 ≡ t → elim t as (λ _. Option Base) [ true ↦ on_option tuple (T body) | false ↦ on_option elementary (decode_elementary k body) ] ≡ Some b → can_specify_location b [] ≡ between 7 9 k
    go true p r = on_some tuple (T body) r (λ fs _ s. rw (← s, eqb-true k 0x9 p))
    go false p r = on_some elementary (decode_elementary k body) r (λ e f s. rw (← s) (located_elementary body e k f))

-- suffixes
suffixed : (b : Base) (o : Suffix) (ss : List Suffix) → can_specify_location b (o ∷ ss) ≡ true
suffixed (elementary e) o ss = refl
suffixed (tuple fs) o ss = refl

located_suffixes : (b : Base) (r : List ℕ) (ss : List Suffix) → decode_suffixes 4 r ≡ Some ss → can_specify_location b ss ≡ (is_more r || can_specify_location b [])
unfolding decode_suffixes each_in
located_suffixes b [] ss q = let e : [] ≡ ss = same_Some _ _ q in rw (← e)
located_suffixes b (c ∷ t) ss q = go (piece_of 4 (c ∷ t)) q
  where
    go : (p : Piece) → on_piece p (λ k body r. given (decode_suffix k body) (λ a. on_option (λ os. a ∷ os) (each_in 4 [] ◌∷◌ decode_suffix (length t) r))) ≡ Some ss → can_specify_location b ss ≡ true
    go no_piece e = absurd (none-some ss e)
    go (piece k body r) e = given-some (decode_suffix k body) _ e (λ a _ f. on_some (λ os. a ∷ os) (each_in 4 [] ◌∷◌ decode_suffix (length t) r) f (λ os _ s. subst (λ (x : List Suffix). can_specify_location b x ≡ true) s (suffixed b a os)))

-- a field that is read: what a test J asks of its kind is told by its records
module _ (T : List ℕ → Option Fields) (J : Bool → Bool) (m : ℕ) (nm : List ℕ) where
  abbrev suffixed_by : (List Suffix → Bool) → Base → Option (List Suffix) → Option Field
  suffixed_by t b o = given o (λ ss. when (J (t ss)) (Some (field m nm b ss)))

  abbrev based_by : (Base → List Suffix → Bool) → List ℕ → Option Base → Option Field
  based_by t r o = given o (λ b. suffixed_by (t b) b (decode_suffixes 4 r))

  pub located_same : (p : Piece) → on_piece p (λ j base r. based_by can_specify_location r (base_from T j base)) ≡ on_piece p (λ j base r. based_by (λ _ _. located_at p) r (base_from T j base))
  located_same no_piece = refl
  located_same (piece j base r) = based (base_from T j base) refl
    where
      suffixes : (b : Base) → base_from T j base ≡ Some b → (o : Option (List Suffix)) → decode_suffixes 4 r ≡ o → suffixed_by (can_specify_location b) b o ≡ suffixed_by (λ _. located_at (piece j base r)) b o
      suffixes b e None q = refl
      suffixes b e (Some ss) q = ap (λ (l : Bool). when (J l) (Some (field m nm b ss))) (located_suffixes b r ss q ∙ rw (located_base_lem T j base b e))

      based : (o : Option Base) → base_from T j base ≡ o → based_by can_specify_location r o ≡ based_by (λ _ _. located_at (piece j base r)) r o
      based None e = refl
      based (Some b) e = suffixes b e (decode_suffixes 4 r) refl

-- what the code finds of it
module _ (t : List ℕ) where
  pub located_none : PieceIs t None → false ≡ located_from t
  unfolding located_from taken
  located_none i = rw (located_from, ← i.same)

  module _ (p : Parsed) (i : PieceIs t (Some p)) where
    located_piece : located_from t ≡ (is_more p.rest.now || between 7 9 p.kind)
    unfolding located_from taken
    located_piece = rw (located_from, ← i.same)

    more-behind : (u : List ℕ) → 0 < length u → is_more u ≡ true
    more-behind [] h = absurd (omega arith)
    more-behind (c ∷ u) h = refl

    pub located_array : 0 < length p.rest.now → true ≡ located_from t
    located_array h = rw (located_piece, more-behind p.rest.now h)

    none-behind : (u : List ℕ) → length u ≡ 0 → is_more u ≡ false
    none-behind [] h = refl
    none-behind (c ∷ u) h = absurd (omega arith)

    module _ (h : length p.rest.now ≡ 0) where
      pub located_base : 7 ≤ p.kind → p.kind ≤ 9 → true ≡ located_from t
      located_base a b = rw (located_piece, none-behind p.rest.now h, le-leb 7 p.kind a, le-leb p.kind 9 b)

      pub located_low : p.kind < 7 → false ≡ located_from t
      located_low a = rw (located_piece, none-behind p.rest.now h, lt-leb 7 p.kind a)

      pub located_high : 9 < p.kind → false ≡ located_from t
      located_high b = rw (located_piece, none-behind p.rest.now h, lt-leb p.kind 9 b, and-false (leb 7 p.kind))

pub ruleset locating = (located_none, located_array, located_base, located_low, located_high)
