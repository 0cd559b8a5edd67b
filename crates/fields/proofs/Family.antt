-- Fields, tuples and lists: one law for each way through each reader.
-- Assumes nothing.
use Rattle.std.proofs.Common.{◌≡◌, refl, sym, ◌∙◌, ap, subst, ℕ, zero, suc, ◌+◌, ◌*◌, ◌-◌, ◌≤◌, ◌<◌, true, false, not, eqb, List, [], ◌∷◌, ◌++◌, append_assoc, append-nil, length, take, drop, length-append, length-drop, arith, lit<}
use Rattle.std.proofs.lemmas.Bool.Decides.{nat_tests}
use Rattle.std.proofs.lemmas.List.{length-take-le}
use borrow.Rule.Slice.PartMut.{put_mid, same_len_mid}
use Rattle.std.specs.Option.{option_eq}
use Rattle.std.specs.Prelude.{Option, None, Some, Ok, Err}
use Rattle.kinds.specs.Bytes.{comma, lparen, rparen}
use Rattle.kinds.specs.Kind.{Suffix}
use Rattle.model.specs.declared.Refusal.TheVariants.{ExpectClose}
use Rattle.model.specs.declared.Refused.{Refused}
use Rattle.model.specs.declared.Sort.{Sort}
use Rattle.model.specs.declared.Sort.TheVariants.{Plain}
use Rattle.model.specs.Tree.{tuple, Field, Fields, more_fields}
use Rattle.model.specs.Parser.{Ans, got, bad, deep, Found, Parser, on_ans, then}
use Rattle.model.specs.Reading.{FieldKind, run_kind, field_kind, field_by, suffixes, closing, follow, rest_by, rest, list, tuple_kind, can_specify_location}
use Rattle.model.specs.Layout.{record_of}
use Rattle.model.specs.Record.{encode_base, encode_suffixes, encode_field, encode_fields}
use Rattle.layout.specs.Buffer.{put, head}
use Rattle.layout.proofs.Puts.{length-head, headed}
use Rattle.text.specs.Found.{byte_or_end}
use Rattle.fields.specs.declared.Got.{Got}
use Rattle.fields.specs.declared.Failed.{Failed}
use Rattle.fields.specs.declared.Failed.TheVariants.{Bad, Deep}
use Rattle.fields.specs.declared.Seen.{Seen}
use Rattle.fields.specs.Words.{Looked, BehindIs, TakenIs}
use Rattle.fields.specs.Scratch.{Read, read_to, bad_at, failed, to_read, bytes_of, place_of, Within, Room, Begins, Grows, behind_kind, leaf_of, Put, kind_bytes, NamedPut, field_of, tuple_of, list_of}
use Rattle.fields.proofs.Begins.{begins-mid, begins-part, begins-under}
use Rattle.fields.proofs.Spots.{seen, unseen, seen-inside, behind-inside, taken-inside, refused-inside}

-- Answers, by what the code has of them.

-- one that is read
pub is-got : (a : Ans (List ℕ)) (g : Got) → Ok g ≡ to_read a → (a ≡ got (bytes_of a) g.next) × (g.len ≡ length (bytes_of a))
unfolding to_read bytes_of
is-got (got u n) g e =
    let f : g ≡ record { next = n; len = length u } = cc in
    (rw (ap (λ (x : Got). x.next) f), ap (λ (x : Got). x.len) f)
is-got (bad w n) g e = absurd cc
is-got (deep n) g e = absurd cc

-- one that fails
pub is-failed : (a : Ans (List ℕ)) (f : Failed) → Err f ≡ to_read a → a ≡ failed f
unfolding to_read failed
is-failed (got u n) f e = absurd cc
is-failed (bad w n) f e = let q : f ≡ bad_at w n = cc in rw q
is-failed (deep n) f e = let q : f ≡ Deep n = cc in rw q

pub read-failed : (f : Failed) → to_read (failed f) ≡ Err f
unfolding to_read failed
read-failed (Bad r) = refl
read-failed (Deep n) = refl

pub bytes-failed : (f : Failed) → bytes_of (failed f) ≡ []
unfolding bytes_of failed
bytes-failed (Bad r) = refl
bytes-failed (Deep n) = refl

module _ {A B : Type 0} where
  pub on-failed : (h : A → B) (f : Failed) → on_ans h (failed f) ≡ failed f
  unfolding on_ans failed
  on-failed h (Bad r) = refl
  on-failed h (Deep n) = refl

  pub then-failed : (f : Failed) (h : A → ℕ → Ans B) → then (failed f) h ≡ failed f
  unfolding then failed
  then-failed (Bad r) h = refl
  then-failed (Deep n) h = refl

-- and what was read, of which it has the bytes
pub record Behind {A : Type 0} (h : A → List ℕ) (a : Ans A) (u : List ℕ) (n : ℕ) : Type 0 where
  pub what : A
  pub same : a ≡ got what n
  pub bytes : h what ≡ u

module _ {A : Type 0} (h : A → List ℕ) where
  pub of-got : (a : Ans A) (u : List ℕ) (n : ℕ) → on_ans h a ≡ got u n → Behind h a u n
  unfolding on_ans
  of-got (got x m) u n e = record { what = x; same = cc; bytes = cc }
  of-got (bad w m) u n e = absurd cc
  of-got (deep m) u n e = absurd cc

  pub of-failed : (a : Ans A) (f : Failed) → on_ans h a ≡ failed f → a ≡ failed f
  unfolding on_ans failed
  of-failed (got x m) (Bad r) e = absurd cc
  of-failed (got x m) (Deep n) e = absurd cc
  of-failed (bad w m) (Bad r) e = cc
  of-failed (bad w m) (Deep n) e = absurd cc
  of-failed (deep m) (Bad r) e = absurd cc
  of-failed (deep m) (Deep n) e = cc

-- a reader that fails, whatever it has written
pub put-failed : (k : ℕ) (s : List ℕ) (at : ℕ) (b : List ℕ) (a : Ans (List ℕ)) (f : Failed) → place_of f ≤ length s → a ≡ failed f → Put k s at b a (Err f)
put-failed k s at b a f l e = rw e (record { same = sym (read-failed f); within = l; wrote = rw bytes-failed refl })

-- where answers lie
within_up : (k : ℕ) (s : List ℕ) (at p : ℕ) (r : Read) → Within k s p r → at ≤ p → Within k s at r
within_up k s at p (Ok g) w h = omega arith
within_up k s at p (Err f) w h = w

-- a tuple kind admits data locations
of-tuple : (fs : Fields) (ss : List Suffix) → can_specify_location (tuple fs) ss ≡ true
of-tuple fs [] = refl
of-tuple fs (o ∷ ss) = refl

tuple_located : (d : ℕ) (s : List ℕ) (p : ℕ) (k : FieldKind) (n : ℕ) → tuple_kind d s p ≡ got k n → can_specify_location k.base k.suffixes ≡ true
unfolding tuple_kind then on_ans
tuple_located zero s p k n e = absurd cc
tuple_located (suc d) s p k n e = go (list (field_by Plain (tuple_kind d)) s (p + 1)) e
  where
    by : (fs : Fields) (c : Ans (List Suffix)) → on_ans (λ ss. record { base = tuple fs; suffixes = ss }) c ≡ got k n → can_specify_location k.base k.suffixes ≡ true
    by fs (got ss m) f = let g : record { base = tuple fs; suffixes = ss } ≡ k = cc in subst (λ (j : FieldKind). can_specify_location j.base j.suffixes ≡ true) g (of-tuple fs ss)
    by fs (bad w m) f = absurd cc
    by fs (deep m) f = absurd cc

    go : (a : Ans Fields) → then a (λ fs m. on_ans (λ ss. record { base = tuple fs; suffixes = ss }) (suffixes s m)) ≡ got k n → can_specify_location k.base k.suffixes ≡ true
    go (got fs m) f = by fs (suffixes s m) f
    go (bad w m) f = absurd cc
    go (deep m) f = absurd cc

-- what was seen, by the code's test
saw : (o : Option ℕ) (c : ℕ) → false ≡ not (option_eq eqb o (Some c)) → byte_or_end o ≡ c
unfolding byte_or_end
saw None c e = absurd cc
saw (Some x) c e = grind (arith, nat_tests)

missed : (o : Option ℕ) (c : ℕ) → c < 256 → true ≡ not (option_eq eqb o (Some c)) → byte_or_end o ≡ c → ⊥
unfolding byte_or_end
missed None c b e q = omega arith
missed (Some x) c b e q = grind (arith, nat_tests)

-- a tuple opens where a `(` was seen, and there is room for it
module _ (s : List ℕ) (at : ℕ) (v : Seen) (h : Looked s at v) (g : false ≡ not (option_eq eqb v.byte (Some lparen))) where
  pub tuple-place : v.at < length s
  tuple-place = seen-inside s at v h lparen (lit< tt) (saw v.byte lparen g)

  pub tuple_room : (d : ℕ) (b : List ℕ) → (d ≡ 0 → ⊥) → Room 0 d s at b → Room 4 (d - 1) s v.at (take (length b - 14) (drop 14 b))
  tuple_room d b n r = record {
    inside = h.inside;
    small = r.small;
    room = omega (arith, r.room, tuple-place, h.low, length-take-le (length b - 14) (drop 14 b) (omega (arith, length-drop 14 b)));
    short = omega (arith, r.short, length-take-le (length b - 14) (drop 14 b) (omega (arith, length-drop 14 b)));
  }

-- a field
module _ (s : List ℕ) (at : ℕ) (sort : Sort) (d : ℕ) (v : Seen) (h : Looked s at v) where
  pub field-leaf : (b : List ℕ) (r : Read) → true ≡ not (option_eq eqb v.byte (Some lparen)) → Put 0 s v.at b (leaf_of sort s v.at) r → Put 0 s at b (field_of sort d s at) r
  unfolding field_by behind_kind leaf_of field_kind
  field-leaf b r n i =
      let e : field_kind (tuple_kind d) s at ≡ run_kind s v.at = rw (field_kind, unseen s at v h lparen (missed v.byte lparen (lit< tt) n), ← h.place) in
      let f : field_of sort d s at ≡ leaf_of sort s v.at = ap (λ (a : Ans FieldKind). on_ans (encode_field 4) (then a (λ k n. behind_kind sort k s n))) e in
      rw f (record { same = i.same; within = within_up 0 s at v.at r i.within h.low; wrote = i.wrote })

  module _ (g : false ≡ not (option_eq eqb v.byte (Some lparen))) where
    eq_nested : field_of sort d s at ≡ on_ans (encode_field 4) (then (tuple_kind d s v.at) (λ k n. behind_kind sort k s n))
    unfolding field_by behind_kind field_kind
    eq_nested =
        let e : field_kind (tuple_kind d) s at ≡ tuple_kind d s v.at = rw (field_kind, seen s at v h lparen (saw v.byte lparen g), ← h.place) in
        ap (λ (a : Ans FieldKind). on_ans (encode_field 4) (then a (λ k n. behind_kind sort k s n))) e

    -- one tuple too many
    pub field-deep : (b : List ℕ) → d ≡ 0 → Put 0 s at b (field_of sort d s at) (Err (Deep v.at))
    unfolding tuple_kind then on_ans failed
    field-deep b z = put-failed 0 s at b (field_of sort d s at) (Deep v.at) h.inside (eq_nested ∙ rw z refl)

    module _ (n : d ≡ 0 → ⊥) where
      inner : suc (d - 1) ≡ d
      inner = omega arith

      -- the tuple's record stands behind room for the field's front
      module _ (b₁ : List ℕ) where
        pub field-failed : (f : Failed) (b : List ℕ) → Put 14 s v.at b₁ (tuple_of (suc (d - 1)) s v.at) (Err f) → Put 0 s at b (field_of sort d s at) (Err f)
        field-failed f b i =
            let e : tuple_kind d s v.at ≡ failed f = of-failed kind_bytes (tuple_kind d s v.at) f (is-failed (tuple_of d s v.at) f (rw inner at i.same)) in
            put-failed 0 s at b (field_of sort d s at) f i.within (eq_nested ∙ rw (e, then-failed, on-failed))

        pub field-named : (b₀ b₂ : List ℕ) (m : ℕ) (k g : Got) → 14 ≤ length b₀ → Put 14 s v.at b₁ (tuple_of (suc (d - 1)) s v.at) (Ok k)
            → NamedPut s k.next sort k.len (put_mid 14 m b₀ b₁) b₂ g → Put 0 s at b₂ (field_of sort d s at) (Ok g)
        unfolding then on_ans bytes_of
        field-named b₀ b₂ m k g l i j =
            let i' : Put 14 s v.at b₁ (tuple_of d s v.at) (Ok k) = rw inner at i in
            let y = is-got (tuple_of d s v.at) k i'.same in
            let t = of-got kind_bytes (tuple_kind d s v.at) (bytes_of (tuple_of d s v.at)) k.next y.0 in
            let c = tuple_located d s v.at t.what k.next t.same in
            let q : length (kind_bytes t.what) ≡ k.len = ap length t.bytes ∙ sym y.1 in
            let w : Begins b₁ (kind_bytes t.what) = subst (Begins b₁) (sym t.bytes) i'.wrote in
            rw (eq_nested, t.same) (record {
              same = j.same t.what c q;
              within = omega (arith, j.inside, j.low, j.size, i.within, h.low);
              wrote = j.wrote t.what c q (begins-mid (kind_bytes t.what) b₀ b₁ 14 m w l);
            })

-- a tuple
module _ (s : List ℕ) (p d : ℕ) where
  fields_of : Ans Fields
  fields_of = list (field_by Plain (tuple_kind d)) s (p + 1)

  eq_tuple : tuple_kind (suc d) s p ≡ then fields_of (λ fs m. on_ans (λ ss. record { base = tuple fs; suffixes = ss }) (suffixes s m))
  unfolding tuple_kind fields_of
  eq_tuple = refl

  pub tuple-failed : (b₁ b : List ℕ) (f : Failed) → Put 10 s (p + 1) b₁ (list_of Plain d s (p + 1)) (Err f) → Put 14 s p b (tuple_of (suc d) s p) (Err f)
  unfolding fields_of
  tuple-failed b₁ b f i =
      let e : fields_of ≡ failed f = of-failed (encode_fields 4) fields_of f (is-failed (list_of Plain d s (p + 1)) f i.same) in
      put-failed 14 s p b (tuple_of (suc d) s p) f i.within (rw (eq_tuple, e, then-failed, on-failed))

  -- the fields' records stand behind the head, and the suffixes' records behind them
  pub tuple-got : (b₀ b₁ b₂ b₃ : List ℕ) (m k : ℕ) (f g : Got) → 6 ≤ length b₀ → Put 10 s (p + 1) b₁ (list_of Plain d s (p + 1)) (Ok f) → b₂ ≡ put 0 (head (6 + f.len) 9) (put_mid 6 m b₀ b₁)
      → Grows s f.next b₃ g → Put 14 s p (put_mid (6 + f.len) k b₂ b₃) (tuple_of (suc d) s p) (read_to g.next (6 + f.len + g.len))
  unfolding then on_ans fields_of to_read bytes_of kind_bytes encode_base
  tuple-got b₀ b₁ b₂ b₃ m k f g l i x j =
      let y = is-got (list_of Plain d s (p + 1)) f i.same in
      let t = of-got (encode_fields 4) fields_of (bytes_of (list_of Plain d s (p + 1))) f.next y.0 in
      let u : List ℕ = encode_fields 4 t.what in
      let z : 6 + f.len ≡ 6 + length u = omega (arith, y.1, ap length t.bytes) in
      let w₀ : Begins b₁ u = subst (Begins b₁) (sym t.bytes) i.wrote in
      let w₁ : Begins b₂ (head (6 + f.len) 9 ++ u) = begins-under (head (6 + f.len) 9) u (put_mid 6 m b₀ b₁) b₂ 6 (begins-mid u b₀ b₁ 6 m w₀ l) (sym (length-head (6 + f.len) 9)) x in
      let w₂ : Begins b₂ (record_of 4 9 u) = subst (Begins b₂) (headed 9 (6 + f.len) u z) w₁ in
      let c : length (record_of 4 9 u) ≡ 6 + f.len = ap length (sym (headed 9 (6 + f.len) u z)) ∙ omega (arith, length-append (head (6 + f.len) 9) u, length-head (6 + f.len) 9, z) in
      rw (eq_tuple, t.same, j.same) (record {
        same = ap (read_to g.next) (omega (arith, length-append (record_of 4 9 u) (encode_suffixes 4 j.read), c, j.size));
        within = omega (arith, i.within, j.low, j.inside, j.paid);
        wrote = begins-part (encode_suffixes 4 j.read) b₂ b₃ (6 + f.len) k j.wrote (record_of 4 9 u) w₂ (sym c);
      })

-- Lists.
on-more : (f : Field) (a : Ans Fields) → on_ans (encode_fields 4) (on_ans (more_fields f) a) ≡ on_ans (λ v. encode_field 4 f ++ v) (on_ans (encode_fields 4) a)
unfolding on_ans encode_fields
on-more f (got x n) = refl
on-more f (bad w p) = refl
on-more f (deep p) = refl

on_none : (a : Ans (List ℕ)) → a ≡ on_ans (λ v. [] ++ v) a
unfolding on_ans
on_none (got x n) = refl
on_none (bad w p) = refl
on_none (deep p) = refl

on_twice : (u v : List ℕ) (a : Ans (List ℕ)) → on_ans (λ x. u ++ x) (on_ans (λ x. v ++ x) a) ≡ on_ans (λ x. (u ++ v) ++ x) a
unfolding on_ans
on_twice u v (got x n) = rw append_assoc
on_twice u v (bad w p) = refl
on_twice u v (deep p) = refl

-- what follows a field that is read
follow-got : (R : ℕ → Ans Fields) (s : List ℕ) (at : ℕ) (a : Ans Field) (u : List ℕ) (n : ℕ) → on_ans (encode_field 4) a ≡ got u n
    → on_ans (encode_fields 4) (follow R s at a) ≡ on_ans (λ v. u ++ v) (on_ans (encode_fields 4) (R n))
follow-got R s at a u n e =
    let t = of-got (encode_field 4) a u n e in
    rw t.same (on-more t.what (R n) ∙ ap (λ (x : List ℕ). on_ans (λ v. x ++ v) (on_ans (encode_fields 4) (R n))) t.bytes)

-- the rest of a list, at most k commas, where the next field is read from `from` and the list closes at `end` if that fails
abbrev pub rest_of : Sort → ℕ → List ℕ → ℕ → ℕ → ℕ → Ans (List ℕ)
rest_of sort d s k from end = let F = field_by sort (tuple_kind d) in on_ans (encode_fields 4) (follow (rest F k s) s end (F s from))

-- of a list the fields before `from` are read, and their records u are written
pub record SoFar (s : List ℕ) (at : ℕ) (sort : Sort) (d : ℕ) (b : List ℕ) (from end len : ℕ) : Type 0 where
  pub u : List ℕ
  pub fuel : ℕ
  pub enough : length s ≤ fuel + from
  pub whole : list_of sort d s at ≡ on_ans (λ v. u ++ v) (rest_of sort d s fuel from end)
  pub size : len ≡ length u
  pub wrote : Begins b u
  pub first : at ≤ end
  pub low : end ≤ from
  pub inside : from ≤ length s
  pub paid : len + 10 * at ≤ 10 * end
  pub small : length s ≤ 4096
  pub room : len + 10 * (length s - from) + 10 * d ≤ length b
  pub short : length b ≤ 65536

pub so_start : (s : List ℕ) (at : ℕ) (sort : Sort) (d : ℕ) (b : List ℕ) → Room 0 d s at b → SoFar s at sort d b at at 0
unfolding list
so_start s at sort d b h = record {
  u = [];
  fuel = length s;
  enough = omega arith;
  whole = on_none (rest_of sort d s (length s) at at);
  size = refl;
  wrote = refl;
  first = omega arith;
  low = omega arith;
  inside = h.inside;
  paid = omega arith;
  small = h.small;
  room = omega (arith, h.room);
  short = h.short;
}

-- the end of a list, by what the code took for its `)`
closing-failed : (s : List ℕ) (at : ℕ) (v : Seen) → Looked s at v → (r : Refused) → TakenIs v rparen ExpectClose (Err r) → on_ans (encode_fields 4) (closing s at) ≡ failed (Bad r)
unfolding closing on_ans failed
closing-failed s at v h r i = rw (closing, ← i.same s at h)

closing-got : (s : List ℕ) (at : ℕ) (v : Seen) → Looked s at v → (n : ℕ) → TakenIs v rparen ExpectClose (Ok n) → on_ans (encode_fields 4) (closing s at) ≡ got [] n
unfolding closing on_ans encode_fields
closing-got s at v h n i = rw (closing, ← i.same s at h)

-- the next field is written behind the ones before it, as the bytes b₁
module _ (s : List ℕ) (at : ℕ) (sort : Sort) (d : ℕ) (b₀ : List ℕ) (from end len : ℕ) (g : SoFar s at sort d b₀ from end len) (b₁ : List ℕ) (m : ℕ) where
  abbrev F : Parser Field
  F = field_by sort (tuple_kind d)

  -- what is known of the rest
  whole-failed : (f : Failed) → rest_of sort d s g.fuel from end ≡ failed f → list_of sort d s at ≡ failed f
  whole-failed f e = g.whole ∙ rw (e, on-failed)

  whole-got : (v : List ℕ) (n : ℕ) → rest_of sort d s g.fuel from end ≡ got v n → list_of sort d s at ≡ got (g.u ++ v) n
  unfolding on_ans
  whole-got v n e = g.whole ∙ rw e

  -- records v are written, and the list ends at n
  ended : (v : List ℕ) (n l : ℕ) → rest_of sort d s g.fuel from end ≡ got v n → Begins b₁ v → l ≡ len + length v → at < n → n ≤ length s → l + 10 + 10 * at ≤ 10 * n
      → Put 10 s at (put_mid len m b₀ b₁) (list_of sort d s at) (read_to n l)
  unfolding to_read bytes_of
  ended v n l e w x y z q = rw (whole-got v n e) (record {
    same = ap (read_to n) (omega (arith, g.size, length-append g.u v));
    within = omega arith;
    wrote = begins-part v b₀ b₁ len m w g.u g.wrote g.size;
  })

  pub list-deep : (b : List ℕ) (p : ℕ) → Put 0 s from b₁ (field_of sort d s from) (Err (Deep p)) → Put 10 s at b (list_of sort d s at) (Err (Deep p))
  unfolding on_ans failed
  list-deep b p i =
      let e : F s from ≡ deep p = of-failed (encode_field 4) (F s from) (Deep p) (is-failed (field_of sort d s from) (Deep p) i.same) in
      put-failed 10 s at b (list_of sort d s at) (Deep p) i.within (whole-failed (Deep p) (rw e refl))

  -- no field stands there: the list ends before it
  module _ (w : Refused) (i : Put 0 s from b₁ (field_of sort d s from) (Err (Bad w))) (v : Seen) (h : Looked s end v) where
    rest-closes : rest_of sort d s g.fuel from end ≡ on_ans (encode_fields 4) (closing s end)
    unfolding failed
    rest-closes =
        let e : F s from ≡ bad w.refusal w.position = of-failed (encode_field 4) (F s from) (Bad w) (is-failed (field_of sort d s from) (Bad w) i.same) in
        rw e

    pub list-open : (b : List ℕ) (r : Refused) → TakenIs v rparen ExpectClose (Err r) → Put 10 s at b (list_of sort d s at) (Err (Bad r))
    list-open b r j = put-failed 10 s at b (list_of sort d s at) (Bad r) (refused-inside s end v h rparen ExpectClose r j) (whole-failed (Bad r) (rest-closes ∙ closing-failed s end v h r j))

    pub list-shut : (n : ℕ) → TakenIs v rparen ExpectClose (Ok n) → Put 10 s at (put_mid len m b₀ b₁) (list_of sort d s at) (read_to n len)
    list-shut n j =
        let k = taken-inside s end v h rparen n (lit< tt) ExpectClose j in
        ended [] n len (rest-closes ∙ closing-got s end v h n j) refl (omega arith) (omega (arith, k, g.first)) k.1 (omega (arith, k, g.paid))

  -- a field stands there
  module _ (k : Got) (i : Put 0 s from b₁ (field_of sort d s from) (Ok k)) (v : Seen) (h : Looked s k.next v) where
    abbrev u : List ℕ
    u = bytes_of (field_of sort d s from)

    is : (field_of sort d s from ≡ got u k.next) × (k.len ≡ length u)
    is = is-got (field_of sort d s from) k i.same

    after-got : (n : ℕ) → rest_of sort d s n from end ≡ on_ans (λ x. u ++ x) (on_ans (encode_fields 4) (rest F n s k.next))
    after-got n = follow-got (rest F n s) s end (F s from) u k.next is.0

    -- no `,` follows it
    module _ (c : BehindIs v comma None) where
      rest-closed : (n : ℕ) → rest F n s k.next ≡ closing s k.next
      unfolding rest
      rest-closed zero = refl
      rest-closed (suc n) = ap (rest_by F (rest F n s) s k.next) (sym (c.same s k.next h))

      after-closes : rest_of sort d s g.fuel from end ≡ on_ans (λ x. u ++ x) (on_ans (encode_fields 4) (closing s k.next))
      after-closes = after-got g.fuel ∙ rw rest-closed

      pub list-unclosed : (b : List ℕ) (r : Refused) → TakenIs v rparen ExpectClose (Err r) → Put 10 s at b (list_of sort d s at) (Err (Bad r))
      list-unclosed b r j =
          let e : rest_of sort d s g.fuel from end ≡ failed (Bad r) = after-closes ∙ rw (closing-failed s k.next v h r j, on-failed) in
          put-failed 10 s at b (list_of sort d s at) (Bad r) (refused-inside s k.next v h rparen ExpectClose r j) (whole-failed (Bad r) e)

      pub list-closed : (n : ℕ) → TakenIs v rparen ExpectClose (Ok n) → Put 10 s at (put_mid len m b₀ b₁) (list_of sort d s at) (read_to n (len + k.len))
      unfolding on_ans
      list-closed n j =
          let q = taken-inside s k.next v h rparen n (lit< tt) ExpectClose j in
          let e : rest_of sort d s g.fuel from end ≡ got (u ++ []) n = after-closes ∙ rw (closing-got s k.next v h n j) in
          ended (u ++ []) n (len + k.len) e (rw append-nil i.wrote) (omega (arith, is.1, ap length (append-nil u))) (omega (arith, q, i.within, g.first, g.low)) q.1 (omega (arith, q, i.within, g.paid, g.low))

    pub list-past : (f : ℕ) → BehindIs v comma (Some f) → (from < f) × (f ≤ length s)
    list-past f c = omega (arith, behind-inside s k.next v h comma f (lit< tt) c, i.within)

    pub list-next : (f : ℕ) → BehindIs v comma (Some f) → length b₁ ≡ length (take m (drop len b₀)) → SoFar s at sort d (put_mid len m b₀ b₁) f k.next (len + k.len)
    unfolding rest
    list-next f c z = go g.fuel g.enough g.whole
      where
        q : (k.next < f) × (f ≤ length s)
        q = behind-inside s k.next v h comma f (lit< tt) c

        size : length (put_mid len m b₀ b₁) ≡ length b₀
        size = same_len_mid len m b₀ b₁ z

        go : (n : ℕ) → length s ≤ n + from → list_of sort d s at ≡ on_ans (λ x. g.u ++ x) (rest_of sort d s n from end) → SoFar s at sort d (put_mid len m b₀ b₁) f k.next (len + k.len)
        go zero l e = absurd (omega (arith, q, i.within))
        go (suc n) l e = record {
          u = g.u ++ u;
          fuel = n;
          enough = omega (arith, q, i.within);
          whole = e ∙ ap (on_ans (λ x. g.u ++ x)) (after-got (suc n) ∙ ap (λ (x : Found (Unit {0})). on_ans (λ y. u ++ y) (on_ans (encode_fields 4) (rest_by F (rest F n s) s k.next x))) (sym (c.same s k.next h))) ∙ on_twice g.u u (rest_of sort d s n f k.next);
          size = omega (arith, g.size, is.1, length-append g.u u);
          wrote = begins-part u b₀ b₁ len m i.wrote g.u g.wrote g.size;
          first = omega (arith, g.first, g.low, i.within);
          low = omega (arith, q);
          inside = q.1;
          paid = omega (arith, g.paid, g.low, i.within);
          small = g.small;
          room = omega (arith, size, g.room, q, i.within);
          short = omega (arith, size, g.short);
        }
