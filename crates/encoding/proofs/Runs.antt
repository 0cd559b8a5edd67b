-- Static kinds stand one behind the other.
-- Assumes nothing.
use mathlib.Core.Path.{◌≡◌, refl, sym, ◌∙◌, ap}
use mathlib.Core.Bool.{Bool, true, false, ◌&&◌, and-eq-true_iff, false≢true}
use mathlib.Core.List.{List}
use Rattle.std.specs.Prelude.{Option, None, Some}
use Rattle.std.proofs.lemmas.Option.{same_Some}
use Prim.Native.Nat.{ℕ, zero, suc, ◌+◌, ◌*◌, ◌≤◌}
use native.Mathlib.Nat.{suc-mul, zero-mul}
use native.Mathlib.Omega.{arith}
use lib.Dec.{leb}
use lib.ListN.{length, replicate}
use borrow.Author.Tests.{leb-true, le-leb}
use Rattle.kinds.specs.Kind.{Elementary, int, uint, fixed_bytes, address, bool, function, bytes, string, sized, unsized, Kind, elementary, tuple, array, Kinds, no_kind, more_kinds}
use Rattle.encoding.specs.Dynamic.{is_open_ended, is_dynamic, any_dynamic, static_length, head_length, heads_length}
use Rattle.encoding.specs.Judge.{is_word_of, given, when, repeated, Slot, slot, word_at, has_word, tested, leaf, follow, group, end_of, slots, in_row}
use Rattle.encoding.proofs.Stands.{when-some, given-some}
use Rattle.encoding.proofs.Lengths.{head-static, no_dynamic, all-static}

-- what takes no bytes takes none however often
pub repeated-still : (n : ℕ) (r : ℕ → Option ℕ) (at : ℕ) → r at ≡ Some at → repeated n r at ≡ Some at
unfolding repeated
repeated-still zero r at h = refl
repeated-still (suc n) r at h = rw h (repeated-still n r at h)

pub repeated-add : (m n : ℕ) (r : ℕ → Option ℕ) (at : ℕ) → repeated (m + n) r at ≡ given (repeated m r at) (λ e. repeated n r e)
unfolding repeated
repeated-add zero n r at = let z : 0 + n ≡ n = omega arith in rw z
repeated-add (suc m) n r at = let z : suc m + n ≡ suc (m + n) = omega arith in rw z (go (r at) (λ e. repeated-add m n r e))
  where
    go : (o : Option ℕ) → ((e : ℕ) → repeated (m + n) r e ≡ given (repeated m r e) (λ x. repeated n r x)) → given o (λ e. repeated (m + n) r e) ≡ given (given o (λ e. repeated m r e)) (λ e. repeated n r e)
    go None f = refl
    go (Some e) f = f e

-- an array of arrays is one array
pub repeated_mul : (m n : ℕ) (r : ℕ → Option ℕ) (at : ℕ) → repeated m (λ a. repeated n r a) at ≡ repeated (m * n) r at
unfolding repeated
repeated_mul zero n r at = rw (zero-mul n)
repeated_mul (suc m) n r at =
    let z : suc m * n ≡ n + m * n = omega (arith, suc-mul m n) in
    rw (z, repeated-add n (m * n) r at) (go (repeated n r at) (λ e. repeated_mul m n r e))
  where
    go : (o : Option ℕ) → ((e : ℕ) → repeated m (λ a. repeated n r a) e ≡ repeated (m * n) r e) → given o (λ e. repeated m (λ a. repeated n r a) e) ≡ given o (λ e. repeated (m * n) r e)
    go None f = refl
    go (Some e) f = f e

pub leaf-word : (d : List ℕ) (e : Elementary) → is_open_ended e ≡ false → (at : ℕ) → leaf d e at ≡ tested d (λ u. is_word_of e u) at
unfolding leaf is_open_ended
leaf-word d (int w) s at = refl
leaf-word d (uint w) s at = refl
leaf-word d (fixed_bytes m) s at = refl
leaf-word d address s at = refl
leaf-word d bool s at = refl
leaf-word d function s at = refl
leaf-word d bytes s at = absurd (false≢true (sym s))
leaf-word d string s at = absurd (false≢true (sym s))

module _ (d : List ℕ) where
  -- where members that are all static end
  follow-slots : (ks : Kinds) → any_dynamic ks ≡ false → (base h t : ℕ) → follow d (slots d ks) base h t ≡ given (in_row d ks h) (λ _. Some t)
  unfolding follow slots end_of in_row any_dynamic is_dynamic
  follow-slots no_kind s base h t = refl
  follow-slots (more_kinds k ks) s base h t = let (f, g) = no_dynamic (is_dynamic k) (any_dynamic ks) s in rw f (go (end_of d k h) (λ e. follow-slots ks g base e t))
    where
      go : (o : Option ℕ) → ((e : ℕ) → follow d (slots d ks) base e t ≡ given (in_row d ks e) (λ _. Some t)) → given o (λ e. follow d (slots d ks) base e t) ≡ given (given o (λ e. in_row d ks e)) (λ _. Some t)
      go None f = refl
      go (Some e) f = f e

  follow-run : (r : ℕ → Option ℕ) (n base h t : ℕ) → follow d (replicate n (slot false r)) base h t ≡ given (repeated n r h) (λ _. Some t)
  unfolding follow repeated
  follow-run r zero base h t = refl
  follow-run r (suc n) base h t = go (r h) (λ e. follow-run r n base e t)
    where
      go : (o : Option ℕ) → ((e : ℕ) → follow d (replicate n (slot false r)) base e t ≡ given (repeated n r e) (λ _. Some t))
          → given o (λ e. follow d (replicate n (slot false r)) base e t) ≡ given (given o (λ e. repeated n r e)) (λ _. Some t)
      go None f = refl
      go (Some e) f = f e

  -- they end behind their heads
  group-static : (n : ℕ) (ss : List Slot) (o : ℕ → Option ℕ) → ((base h t : ℕ) → follow d ss base h t ≡ given (o h) (λ _. Some t)) → (at e : ℕ) → group d n ss at ≡ Some e → (e ≡ at + n) × (e ≤ length d)
  unfolding group
  group-static n ss o f at e z =
      when-some (leb (at + n) (length d)) _ z (λ g y.
      given-some (o at) (λ _. Some (at + n)) (sym (f at at (at + n)) ∙ y) (λ x _ w.
      let same_end : at + n ≡ e = same_Some _ _ w in
      let room : at + n ≤ length d = leb-true (at + n) (length d) g in
      omega arith))

  pub static-end : (k : Kind) → is_dynamic k ≡ false → (at e : ℕ) → end_of d k at ≡ Some e → (e ≡ at + static_length k) × (e ≤ length d)
  unfolding end_of is_dynamic static_length tested
  static-end (elementary x) s at e z =
      when-some (has_word d at && is_word_of x (word_at d at)) (Some (at + 32)) (sym (leaf-word d x s at) ∙ z) (λ g y.
      let same_end : at + 32 ≡ e = same_Some _ _ y in
      let room : at + 32 ≤ length d = leb-true (at + 32) (length d) ((and-eq-true_iff _ _).0 g).0 in
      omega arith)
  static-end (tuple ks) s at e z = rw all-static at (group-static (heads_length ks) (slots d ks) (in_row d ks) (follow-slots ks s) at e z)
  static-end (array k (sized n)) s at e z =
      rw (head-static k s) at (group-static (n * head_length k) (replicate n (slot (is_dynamic k) (λ a. end_of d k a))) (repeated n (λ a. end_of d k a)) (rw s (follow-run (λ a. end_of d k a) n)) at e z)
  static-end (array k unsized) s at e z = absurd (false≢true (sym s))

  pub run_end : (k : Kind) → is_dynamic k ≡ false → (n at e : ℕ) → at ≤ length d → repeated n (λ a. end_of d k a) at ≡ Some e → (e ≡ at + n * static_length k) × (e ≤ length d)
  unfolding repeated
  run_end k s zero at e h z = let same_end : at ≡ e = same_Some _ _ z in omega (arith, zero-mul (static_length k))
  run_end k s (suc n) at e h z =
      given-some (end_of d k at) _ z (λ m x y.
      let p : (m ≡ at + static_length k) × (m ≤ length d) = static-end k s at m x in
      let q : (e ≡ m + n * static_length k) × (e ≤ length d) = run_end k s n m e p.1 y in
      omega (arith, suc-mul n (static_length k)))

  pub row-end : (ks : Kinds) → any_dynamic ks ≡ false → (at e : ℕ) → at ≤ length d → in_row d ks at ≡ Some e → (e ≡ at + heads_length ks) × (e ≤ length d)
  unfolding in_row any_dynamic is_dynamic heads_length
  row-end no_kind s at e h z = let same_end : at ≡ e = same_Some _ _ z in omega arith
  row-end (more_kinds k ks) s at e h z =
      let (f, g) = no_dynamic (is_dynamic k) (any_dynamic ks) s in
      given-some (end_of d k at) _ z (λ m x y.
      let p : (m ≡ at + static_length k) × (m ≤ length d) = static-end k f at m x in
      let q : (e ≡ m + heads_length ks) × (e ≤ length d) = row-end ks g m e p.1 y in
      omega (arith, head-static k f))

  nothing : (b : Bool) → ◌≡◌ {A = Option ℕ} (when b None) None
  nothing true = refl
  nothing false = refl

  -- so the test whether the heads are inside can be left to the members
  inside_anyway : (n at : ℕ) (o : Option ℕ) → ((e : ℕ) → o ≡ Some e → (e ≡ at + n) × (e ≤ length d)) → when (leb (at + n) (length d)) (given o (λ _. Some (at + n))) ≡ o
  inside_anyway n at None f = nothing (leb (at + n) (length d))
  inside_anyway n at (Some e) f = let z : (e ≡ at + n) × (e ≤ length d) = f e refl in rw (le-leb (at + n) (length d) (omega arith)) (ap Some (sym z.0))

  pub static-run : (k : Kind) → is_dynamic k ≡ false → (n at : ℕ) → at ≤ length d → group d (n * head_length k) (replicate n (slot (is_dynamic k) (λ a. end_of d k a))) at ≡ repeated n (λ a. end_of d k a) at
  unfolding group
  static-run k s n at h =
      rw (s, head-static k s, follow-run (λ a. end_of d k a) n at at (at + n * static_length k))
      (inside_anyway (n * static_length k) at (repeated n (λ a. end_of d k a) at) (λ e z. run_end k s n at e h z))

  pub static-tuple : (ks : Kinds) → any_dynamic ks ≡ false → (at : ℕ) → at ≤ length d → end_of d (tuple ks) at ≡ in_row d ks at
  unfolding end_of group
  static-tuple ks s at h =
      rw (follow-slots ks s at at (at + heads_length ks)) (inside_anyway (heads_length ks) at (in_row d ks at) (λ e z. row-end ks s at e h z))

  pub static-array : (k : Kind) (n : ℕ) → is_dynamic k ≡ false → (at : ℕ) → at ≤ length d → end_of d (array k (sized n)) at ≡ repeated n (λ a. end_of d k a) at
  unfolding end_of
  static-array k n s at h = static-run k s n at h
