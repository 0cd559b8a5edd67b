-- The data are judged to be an encoding exactly where they are the encoding of some values, for every kind.
-- Assumes nothing.
use mathlib.Core.Path.{◌≡◌, refl, sym, ◌∙◌, ap}
use mathlib.Core.Logic.{◌↔◌}
use mathlib.Core.Bool.{Bool, true, ◌&&◌, and-eq-true_iff, false≢true}
use mathlib.Core.List.{List, [], ◌∷◌, ◌++◌, append-nil}
use Rattle.std.specs.Prelude.{Option, None, Some}
use Prim.Native.Nat.{ℕ, zero, suc, ◌+◌, ◌*◌, ◌^◌, ◌≤◌, ◌<◌}
use native.Mathlib.Nat.{pow-le-pow_right, lt_of_lt_of_le}
use native.Mathlib.Omega.{arith}
use lib.Dec.{leb, eqb}
use lib.ListN.{length, drop, replicate}
use lib.Seq.{drop-length}
use borrow.Author.Tests.{leb-true, le-leb, eqb-true, eq-eqb}
use Rattle.kinds.specs.Bytes.{all}
use Rattle.kinds.specs.Kind.{sized, unsized, Kind, elementary, tuple, array, Kinds, no_kind, more_kinds, is_kind, are_kinds}
use Rattle.encoding.specs.Dynamic.{is_dynamic, head_length, heads_length}
use Rattle.encoding.specs.Words.{is_byte, word}
use Rattle.encoding.specs.Values.{Value, members, Values, no_value, more_values, count, every, most_elements, is_value, are_values}
use Rattle.encoding.specs.Encoding.{Part, part, heads_long, assembled, part_each, values_in, enc, parts}
use Rattle.encoding.specs.Judge.{be_value, slot, word_at, has_word, group, end_of, slots, ends_at, is_encoding}
use Rattle.kinds.proofs.Logic.{both, left, right}
use Rattle.encoding.proofs.Words.{word-length, word_read, word-written}
use Rattle.encoding.proofs.Stands.{Stands, stands_join, stands-front, stands-rest, stands-take, taken, Exact, swap, when-some, bytes-at, long-at}
use Rattle.encoding.proofs.Members.{ExactList, none-exact, more-exact, group-exact}
use Rattle.encoding.proofs.Leaves.{leaf-exact}
use Rattle.encoding.proofs.Lengths.{members_only, head-static, head-dynamic, each_long, static-long, parts-long}

abbrev pub Encoding : Kind → List ℕ → Type 0
Encoding k u = (v : Value) × (is_value k v ≡ true) × (u ≡ enc k v)

-- Members of one kind, and of several.

count-below : (n : ℕ) → n ≤ 65536 → n < 2 ^ 256
count-below n h = lt_of_lt_of_le {m = 2 ^ 17} (omega arith) (pow-le-pow_right {n = 2} (omega arith) {i = 17} {j = 256} (omega arith))

module _ (d : List ℕ) (r : ℕ → Option ℕ) (p : Value → Bool) (E : Value → List ℕ) (one : Exact d r (λ u. (v : Value) × (p v ≡ true) × (u ≡ E v))) (b : Bool) where
  abbrev Each : ℕ → List Part → Type 0
  Each n ps = (vs : Values) × (count vs ≡ n) × (every p vs ≡ true) × (ps ≡ part_each b E vs)

  each_none : (ps : List Part) → Each 0 ps → ps ≡ []
  unfolding count part_each
  each_none ps x = go x.0 x.1 x.3
    where
      go : (vs : Values) → count vs ≡ 0 → ps ≡ part_each b E vs → ps ≡ []
      go no_value n e = e
      go (more_values v vs) n e = absurd (omega arith)

  each_from : (n : ℕ) (ps : List Part) → Each (suc n) ps → (u : List ℕ) × (qs : List Part) × ((v : Value) × (p v ≡ true) × (u ≡ E v)) × Each n qs × (ps ≡ part b u ∷ qs)
  unfolding count part_each every
  each_from n ps x = go x.0 x.1 x.2 x.3
    where
      go : (vs : Values) → count vs ≡ suc n → every p vs ≡ true → ps ≡ part_each b E vs → (u : List ℕ) × (qs : List Part) × ((v : Value) × (p v ≡ true) × (u ≡ E v)) × Each n qs × (ps ≡ part b u ∷ qs)
      go no_value i t e = absurd (omega arith)
      go (more_values v vs) i t e = (E v, part_each b E vs, (v, left _ t, refl), (vs, omega arith, right (p v) t, refl), e)

  each-exact : (n : ℕ) → ExactList d (replicate n (slot b r)) (Each n)
  unfolding count part_each every
  each-exact zero = none-exact d (Each 0) (no_value, refl, refl, refl) each_none
  each-exact (suc n) =
      more-exact d r (λ u. (v : Value) × (p v ≡ true) × (u ≡ E v)) one (replicate n (slot b r)) (Each n) (each-exact n) b (Each (suc n))
      (λ u ps x q. (more_values x.0 q.0, ap suc q.1, both x.1 q.2, rw (x.2, q.3)))
      (each_from n)

module _ (d : List ℕ) (k : Kind) (g : is_kind k ≡ true) (one : Exact d (λ a. end_of d k a) (Encoding k)) where
  abbrev run : ℕ → ℕ → Option ℕ
  run n at = group d (n * head_length k) (replicate n (slot (is_dynamic k) (λ a. end_of d k a))) at

  abbrev Run : ℕ → List ℕ → Type 0
  Run n u = (vs : Values) × (count vs ≡ n) × (every (λ x. is_value k x) vs ≡ true) × (u ≡ assembled (part_each (is_dynamic k) (λ x. enc k x) vs))

  run-exact : (n : ℕ) → Exact d (run n) (Run n)
  run-exact n =
      swap d (run n) _ (Run n)
      (λ u x. let (ps, (vs, c, e, s), t) = x in (vs, c, e, t ∙ ap assembled s))
      (λ u x. let (vs, c, e, t) = x in (part_each (is_dynamic k) (λ x. enc k x) vs, (vs, c, e, refl), t))
      (group-exact d (n * head_length k) (replicate n (slot (is_dynamic k) (λ a. end_of d k a))) (Each d (λ a. end_of d k a) (λ x. is_value k x) (λ x. enc k x) one (is_dynamic k) n)
      (each-exact d (λ a. end_of d k a) (λ x. is_value k x) (λ x. enc k x) one (is_dynamic k) n)
      (λ ps x. let (vs, c, e, s) = x in
      ap heads_long s
      ∙ each_long (λ x. is_value k x) (λ x. enc k x) (is_dynamic k) (head_length k) (λ v t z. static-long k g z v t ∙ sym (head-static k z)) (λ z. sym (head-dynamic k z)) vs e
      ∙ ap (λ m. m * head_length k) c))

  sized-exact : (n : ℕ) → Exact d (run n) (Encoding (array k (sized n)))
  unfolding is_value enc
  sized-exact n =
      swap d (run n) (Run n) (Encoding (array k (sized n)))
      (λ u x. (members x.0, both (eq-eqb _ _ x.1) x.2, x.3))
      (λ u x. members_only (λ vs. eqb (count vs) n && every (λ x. is_value k x) vs) x.0 x.1 (λ vs e t.
      (vs, eqb-true _ _ (left _ t), right (eqb (count vs) n) t, x.2 ∙ ap (λ v. assembled (part_each (is_dynamic k) (λ x. enc k x) (values_in v))) e)))
      (run-exact n)

  module _ (all-bytes : all is_byte d ≡ true) where
    open_read : (at e : ℕ) → at + 32 ≤ length d → be_value (word_at d at) ≤ most_elements → (u : List ℕ) → Run (be_value (word_at d at)) u → Stands d (at + 32) u e → (x : List ℕ) × Encoding (array k unsized) x × Stands d at x e
    unfolding is_value enc
    open_read at e room few u (vs, c, t, same_bytes) st =
        let w : List ℕ = word_at d at in
        let back : word (count vs) ≡ w = ap word c ∙ word-written w (long-at d all-bytes 32 at room) (bytes-at d all-bytes 32 at) in
        (w ++ u, (members vs, both (le-leb (count vs) most_elements (omega arith)) t, rw (back, same_bytes)), stands_join d at w (at + 32) u e (stands-take d at 32 room) st)

    open_exact : Exact d (λ at. end_of d (array k unsized) at) (Encoding (array k unsized))
    unfolding end_of is_value enc
    open_exact = record {
      sound = λ at e h z.
          when-some (has_word d at && leb (be_value (word_at d at)) most_elements) _ z (λ g y.
          let (i, j) = (and-eq-true_iff _ _).0 g in
          let room : at + 32 ≤ length d = leb-true _ _ i in
          let (u, q, st) = (run-exact (be_value (word_at d at))).sound (at + 32) e room y in
          open_read at e room (leb-true _ _ j) u q st);
      complete = λ u at e x st.
          members_only (λ vs. leb (count vs) most_elements && every (λ x. is_value k x) vs) x.0 x.1 (λ vs e₁ t.
          let few : leb (count vs) most_elements ≡ true = left _ t in
          let body : List ℕ = assembled (part_each (is_dynamic k) (λ x. enc k x) vs) in
          let same_bytes : u ≡ word (count vs) ++ body = x.2 ∙ ap (λ v. word (count (values_in v)) ++ assembled (part_each (is_dynamic k) (λ x. enc k x) (values_in v))) e₁ in
          let st₁ : Stands d at (word (count vs) ++ body) e = rw same_bytes at st in
          let front = stands-front d at (word (count vs)) body e st₁ in
          let here : word_at d at ≡ word (count vs) = rw word-length at (taken d at (word (count vs)) _ front) in
          let room : at + 32 ≤ length d = omega (arith, front.inside, word-length (count vs)) in
          let n : be_value (word (count vs)) ≡ count vs = word_read (count vs) (count-below (count vs) (leb-true _ _ few)) in
          let back : Stands d (at + 32) body e = rw word-length at (stands-rest d at (word (count vs)) body e st₁) in
          rw (le-leb _ _ room, here, n, few) ((run-exact (count vs)).complete body (at + 32) e (vs, refl, right (leb (count vs) most_elements) t, refl) back));
    }

-- the members of a tuple
abbrev Members : Kinds → List Part → Type 0
Members ks ps = (vs : Values) × (are_values ks vs ≡ true) × (ps ≡ parts ks vs)

module _ (d : List ℕ) where
  members-none : ExactList d [] (Members no_kind)
  unfolding are_values is_value parts enc
  members-none = none-exact d (Members no_kind) (no_value, refl, refl) (λ ps x. x.2)

  members-from : (k : Kind) (ks : Kinds) (ps : List Part) → Members (more_kinds k ks) ps → (u : List ℕ) × (qs : List Part) × Encoding k u × Members ks qs × (ps ≡ part (is_dynamic k) u ∷ qs)
  unfolding are_values is_value parts enc
  members-from k ks ps x = go x.0 x.1 x.2
    where
      go : (vs : Values) → are_values (more_kinds k ks) vs ≡ true → ps ≡ parts (more_kinds k ks) vs → (u : List ℕ) × (qs : List Part) × Encoding k u × Members ks qs × (ps ≡ part (is_dynamic k) u ∷ qs)
      go no_value t e = absurd (false≢true t)
      go (more_values v vs) t e = (enc k v, parts ks vs, (v, left _ t, refl), (vs, right (is_value k v) t, refl), e)

  members-more : (k : Kind) (ks : Kinds) → Exact d (λ a. end_of d k a) (Encoding k) → ExactList d (slots d ks) (Members ks) → ExactList d (slot (is_dynamic k) (λ a. end_of d k a) ∷ slots d ks) (Members (more_kinds k ks))
  unfolding are_values is_value parts enc
  members-more k ks one rest =
      more-exact d (λ a. end_of d k a) (Encoding k) one (slots d ks) (Members ks) rest (is_dynamic k) (Members (more_kinds k ks))
      (λ u ps x q. (more_values x.0 q.0, both x.1 q.1, rw (x.2, q.2)))
      (members-from k ks)

  tuple-exact : (ks : Kinds) → are_kinds ks ≡ true → ExactList d (slots d ks) (Members ks) → Exact d (λ a. group d (heads_length ks) (slots d ks) a) (Encoding (tuple ks))
  unfolding is_value enc
  tuple-exact ks g all-members =
      swap d (λ a. group d (heads_length ks) (slots d ks) a) _ (Encoding (tuple ks))
      (λ u x. let (ps, (vs, t, s), e) = x in (members vs, t, e ∙ ap assembled s))
      (λ u x. members_only (λ vs. are_values ks vs) x.0 x.1 (λ vs e t. (parts ks vs, (vs, t, refl), x.2 ∙ ap (λ v. assembled (parts ks (values_in v))) e)))
      (group-exact d (heads_length ks) (slots d ks) (Members ks) all-members (λ ps x. ap heads_long x.2 ∙ parts-long ks g x.0 x.1))

module _ (d : List ℕ) (all-bytes : all is_byte d ≡ true) where
  mutual
    unfolding is_kind end_of is_value enc

    pub exact : (k : Kind) → is_kind k ≡ true → Exact d (λ a. end_of d k a) (Encoding k)
    exact (elementary e) g = leaf-exact d all-bytes e g
    exact (tuple ks) g = tuple-exact d ks g (exact-members ks g)
    exact (array k (sized n)) g = sized-exact d k g (exact k g) n
    exact (array k unsized) g = open_exact d k g (exact k g) all-bytes

    exact-members : (ks : Kinds) → are_kinds ks ≡ true → ExactList d (slots d ks) (Members ks)
    exact-members no_kind g = members-none d
    exact-members (more_kinds k ks) g = members-more d k ks (exact k (left _ g)) (exact-members ks (right (is_kind k) g))

-- "accepted exactly if they are the specification's encoding of some values"
all-stands : (d u : List ℕ) → u ≡ d → Stands d 0 u (length d)
all-stands d u e = record { there = sym (ap (λ x. x ++ drop (length d) d) e ∙ ap (λ x. d ++ x) (drop-length d) ∙ append-nil d); end = omega (arith, ap length e); inside = omega arith }

stands-all : (d u : List ℕ) → Stands d 0 u (length d) → u ≡ d
stands-all d u s = sym (append-nil u) ∙ ap (λ x. u ++ x) (sym (drop-length d)) ∙ sym s.there

pub encoding_exactly : (ks : Kinds) (d : List ℕ) → are_kinds ks ≡ true → all is_byte d ≡ true → (is_encoding ks d ≡ true) ↔ ((vs : Values) × (are_values ks vs ≡ true) × (d ≡ enc (tuple ks) (members vs)))
unfolding is_encoding is_kind is_value
encoding_exactly ks d g b = (to, from)
  where
    ends : (o : Option ℕ) → ends_at (length d) o ≡ true → o ≡ Some (length d)
    ends None h = absurd (false≢true h)
    ends (Some e) h = ap Some (eqb-true e (length d) h)

    to : is_encoding ks d ≡ true → (vs : Values) × (are_values ks vs ≡ true) × (d ≡ enc (tuple ks) (members vs))
    to h =
        let (u, (v, t, e), s) = (exact d b (tuple ks) g).sound 0 (length d) (omega arith) (ends (end_of d (tuple ks) 0) h) in
        members_only (λ vs. are_values ks vs) v t (λ vs i q. (vs, q, sym (stands-all d u s) ∙ e ∙ ap (enc (tuple ks)) i))

    from : (vs : Values) × (are_values ks vs ≡ true) × (d ≡ enc (tuple ks) (members vs)) → is_encoding ks d ≡ true
    from x =
        let (vs, t, e) = x in
        rw ((exact d b (tuple ks) g).complete (enc (tuple ks) (members vs)) 0 (length d) (members vs, t, refl) (all-stands d _ (sym e))) (eq-eqb (length d) (length d) refl)
