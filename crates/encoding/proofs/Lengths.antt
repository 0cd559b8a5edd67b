-- Lengths: what a static kind takes, and the heads.
-- Assumes nothing.
use mathlib.Core.Path.{◌≡◌, refl, sym, ◌∙◌, ap}
use mathlib.Core.Bool.{Bool, true, false, ◌&&◌, ◌||◌, false≢true}
use mathlib.Core.List.{List, [], ◌∷◌}
use Prim.Native.Nat.{ℕ, ◌+◌, ◌*◌, ◌-◌, ◌^◌, ◌≤◌}
use native.Mathlib.Nat.{zero-mul, suc-mul, add-zero}
use native.Mathlib.Omega.{arith}
use lib.Dec.{leb, eqb}
use lib.ListN.{length}
use borrow.Author.Tests.{leb-true, eqb-true}
use Rattle.kinds.specs.Kind.{bits, octets, is_elementary, Elementary, int, uint, fixed_bytes, address, bool, function, bytes, string, sized, unsized, Kind, elementary, tuple, array, Kinds, no_kind, more_kinds, is_kind, are_kinds}
use Rattle.encoding.specs.Dynamic.{is_open_ended, is_dynamic, any_dynamic, static_length, static_lengths, head_length, head_lengths, heads_length}
use Rattle.encoding.specs.Words.{padded}
use Rattle.encoding.specs.Values.{Value, natural, negative, text, members, Values, no_value, more_values, count, every, natural_below, signed_below, text_of, members_of, is_elementary_value, is_value, are_values}
use Rattle.encoding.specs.Encoding.{Part, part, head, tail, head_list, lengths, tails, heads_long, assembled, part_each, values_in, bytes_in, integer_word, enc_elementary, enc, parts}
use Rattle.kinds.proofs.Logic.{left, right}
use Rattle.encoding.proofs.Words.{word-length}
use Rattle.encoding.proofs.Stands.{padded-long}
use Rattle.encoding.proofs.Members.{long-none, long-static, long-dynamic, assembled-length}
use Rattle.encoding.proofs.Leaves.{text-only}

-- words
natural-long : (m : ℕ) (v : Value) → natural_below m v ≡ true → length (integer_word v) ≡ 32
natural-long m (natural n) h = word-length n
natural-long m (negative n) h = absurd (false≢true h)
natural-long m (text s) h = absurd (false≢true h)
natural-long m (members vs) h = absurd (false≢true h)

signed-long : (m : ℕ) (v : Value) → signed_below m v ≡ true → length (integer_word v) ≡ 32
signed-long m (natural n) h = word-length n
signed-long m (negative n) h = word-length (2 ^ 256 - 1 - n)
signed-long m (text s) h = absurd (false≢true h)
signed-long m (members vs) h = absurd (false≢true h)

text-long : (m : ℕ) (v : Value) → 1 ≤ m → m ≤ 32 → text_of (λ n. eqb n m) v ≡ true → length (padded (bytes_in v)) ≡ 32
text-long m v low high h = text-only (λ n. eqb n m) v h (λ s e b t. ap (λ x. length (padded (bytes_in x))) e ∙ padded-long s ∙ omega (arith, eqb-true (length s) m t))

leaf-long : (e : Elementary) → is_elementary e ≡ true → is_open_ended e ≡ false → (v : Value) → is_elementary_value e v ≡ true → length (enc_elementary e v) ≡ 32
unfolding is_elementary is_open_ended is_elementary_value enc_elementary
leaf-long (int (bits m)) g s v h = signed-long (2 ^ (m - 1)) v h
leaf-long (uint (bits m)) g s v h = natural-long (2 ^ m) v h
leaf-long (fixed_bytes (octets m)) g s v h = text-long m v (leb-true 1 m (left _ g)) (leb-true m 32 (right (leb 1 m) g)) h
leaf-long address g s v h = natural-long (2 ^ 160) v h
leaf-long bool g s v h = natural-long 2 v h
leaf-long function g s v h = text-long 24 v (omega arith) (omega arith) h
leaf-long bytes g s v h = absurd (false≢true (sym s))
leaf-long string g s v h = absurd (false≢true (sym s))

-- an element is a static one of so many bytes
module _ (p : Value → Bool) (E : Value → List ℕ) where
  each-dynamic : (vs : Values) → heads_long (part_each true E vs) ≡ count vs * 32
  unfolding part_each count
  each-dynamic no_value = long-none
  each-dynamic (more_values v vs) = omega (arith, long-dynamic (E v) (part_each true E vs), each-dynamic vs)

  each-apart : (vs : Values) → tails (part_each false E vs) ≡ []
  unfolding tails tail part_each
  each-apart no_value = refl
  each-apart (more_values v vs) = each-apart vs

  each-static : (n : ℕ) → ((v : Value) → p v ≡ true → length (E v) ≡ n) → (vs : Values) → every p vs ≡ true → heads_long (part_each false E vs) ≡ count vs * n
  unfolding part_each count every
  each-static n f no_value h = long-none ∙ sym (zero-mul n)
  each-static n f (more_values v vs) h = rw (long-static (E v) (part_each false E vs), f v (left _ h), each-static n f vs (right (p v) h)) (omega (arith, suc-mul (count vs) n))

pub members_only : {Q : Type 0} (p : Values → Bool) (v : Value) → members_of p v ≡ true → ((vs : Values) → v ≡ members vs → p vs ≡ true → Q) → Q
members_only p (natural n) h next = absurd (false≢true h)
members_only p (negative n) h next = absurd (false≢true h)
members_only p (text s) h next = absurd (false≢true h)
members_only p (members vs) h next = next vs refl h

pub head-static : (k : Kind) → is_dynamic k ≡ false → head_length k ≡ static_length k
unfolding head_length
head-static k e = rw (e, head_length)

pub head-dynamic : (k : Kind) → is_dynamic k ≡ true → head_length k ≡ 32
unfolding head_length
head-dynamic k e = rw (e, head_length)

pub no_dynamic : (a b : Bool) → (a || b) ≡ false → (a ≡ false) × (b ≡ false)
no_dynamic true b e = absurd (false≢true (sym e))
no_dynamic false b e = (refl, e)

pub all-static : (ks : Kinds) → any_dynamic ks ≡ false → heads_length ks ≡ static_lengths ks
unfolding heads_length static_length any_dynamic is_dynamic
all-static no_kind e = refl
all-static (more_kinds k ks) e = let (f, g) = no_dynamic (is_dynamic k) (any_dynamic ks) e in rw (head-static k f, all-static ks g)

parts-apart : (ks : Kinds) → any_dynamic ks ≡ false → (vs : Values) → tails (parts ks vs) ≡ []
unfolding tails tail parts enc any_dynamic is_dynamic
parts-apart no_kind e vs = refl
parts-apart (more_kinds k ks) e no_value = refl
parts-apart (more_kinds k ks) e (more_values v vs) = let (f, g) = no_dynamic (is_dynamic k) (any_dynamic ks) e in rw f (parts-apart ks g vs)

-- by cases of whether the element is dynamic
part-long : (b : Bool) (u : List ℕ) (ps : List Part) (n : ℕ) → (b ≡ false → length u ≡ n) → (b ≡ true → 32 ≡ n) → heads_long (part b u ∷ ps) ≡ n + heads_long ps
part-long true u ps n f g = long-dynamic u ps ∙ ap (λ x. x + heads_long ps) (g refl)
part-long false u ps n f g = long-static u ps ∙ ap (λ x. x + heads_long ps) (f refl)

pub each_long : (p : Value → Bool) (E : Value → List ℕ) (b : Bool) (n : ℕ) → ((v : Value) → p v ≡ true → b ≡ false → length (E v) ≡ n) → (b ≡ true → 32 ≡ n) → (vs : Values) → every p vs ≡ true → heads_long (part_each b E vs) ≡ count vs * n
each_long p E true n f g vs h = each-dynamic p E vs ∙ ap (λ x. count vs * x) (g refl)
each_long p E false n f g vs h = each-static p E n (λ v t. f v t refl) vs h

tuple-long : (ks : Kinds) → any_dynamic ks ≡ false → ((vs : Values) → are_values ks vs ≡ true → heads_long (parts ks vs) ≡ heads_length ks) → (v : Value) → members_of (λ vs. are_values ks vs) v ≡ true → length (assembled (parts ks (values_in v))) ≡ static_lengths ks
tuple-long ks s f v h =
    members_only (λ vs. are_values ks vs) v h (λ vs e g.
    ap (λ x. length (assembled (parts ks (values_in x)))) e ∙ assembled-length (parts ks vs) ∙ omega (arith, f vs g, all-static ks s, ap length (parts-apart ks s vs)))

array_long : (k : Kind) (n : ℕ) → is_dynamic k ≡ false → ((v : Value) → is_value k v ≡ true → length (enc k v) ≡ static_length k) → (v : Value) → members_of (λ vs. eqb (count vs) n && every (λ x. is_value k x) vs) v ≡ true
    → length (assembled (part_each (is_dynamic k) (λ x. enc k x) (values_in v))) ≡ n * static_length k
array_long k n s f v h =
    members_only (λ vs. eqb (count vs) n && every (λ x. is_value k x) vs) v h (λ vs e g.
    let size : count vs ≡ n = eqb-true (count vs) n (left _ g) in
    ap (λ x. length (assembled (part_each (is_dynamic k) (λ x. enc k x) (values_in x)))) e ∙ rw s (
    assembled-length (part_each false (λ x. enc k x) vs)
    ∙ ap (λ x. heads_long (part_each false (λ x. enc k x) vs) + length x) (each-apart (λ x. is_value k x) (λ x. enc k x) vs)
    ∙ ap (λ x. x + 0) (each-static (λ x. is_value k x) (λ x. enc k x) (static_length k) f vs (right (eqb (count vs) n) g))
    ∙ rw (size, add-zero)))

mutual
  unfolding is_kind is_dynamic is_value enc static_length heads_length

  pub static-long : (k : Kind) → is_kind k ≡ true → is_dynamic k ≡ false → (v : Value) → is_value k v ≡ true → length (enc k v) ≡ static_length k
  static-long (elementary e) g s v h = leaf-long e g s v h
  static-long (tuple ks) g s v h = tuple-long ks s (λ vs t. parts-long ks g vs t) v h
  static-long (array k (sized n)) g s v h = array_long k n s (λ x t. static-long k g s x t) v h
  static-long (array k unsized) g s v h = absurd (false≢true (sym s))

  pub parts-long : (ks : Kinds) → are_kinds ks ≡ true → (vs : Values) → are_values ks vs ≡ true → heads_long (parts ks vs) ≡ heads_length ks
  parts-long no_kind g vs h = long-none
  parts-long (more_kinds k ks) g no_value h = absurd (false≢true h)
  parts-long (more_kinds k ks) g (more_values v vs) h =
      part-long (is_dynamic k) (enc k v) (parts ks vs) (head_length k) (λ s. static-long k (left _ g) s v (left _ h) ∙ sym (head-static k s)) (λ s. sym (head-dynamic k s))
      ∙ ap (λ x. head_length k + x) (parts-long ks (right (is_kind k) g) vs (right (is_value k v) h))

-- each member's head has head_length bytes, whatever the values and the offsets
head-long : (b : Bool) (u : List ℕ) (o n : ℕ) → (b ≡ false → length u ≡ n) → (b ≡ true → 32 ≡ n) → length (head o (part b u)) ≡ n
unfolding head
head-long true u o n f g = word-length o ∙ g refl
head-long false u o n f g = f refl

pub head-lengths : (ks : Kinds) → are_kinds ks ≡ true → (vs : Values) → are_values ks vs ≡ true → (o : ℕ) → lengths (head_list o (parts ks vs)) ≡ head_lengths ks
unfolding is_kind is_value parts enc head_list lengths head_lengths
head-lengths no_kind g vs h o = refl
head-lengths (more_kinds k ks) g no_value h o = absurd (false≢true h)
head-lengths (more_kinds k ks) g (more_values v vs) h o =
    rw (
      head-long (is_dynamic k) (enc k v) o (head_length k) (λ s. static-long k (left _ g) s v (left _ h) ∙ sym (head-static k s)) (λ s. sym (head-dynamic k s)),
      head-lengths ks (right (is_kind k) g) vs (right (is_value k v) h) (o + length (tail (part (is_dynamic k) (enc k v)))),
    )
