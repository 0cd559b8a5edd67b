-- Elements of lists: by membership, and by their index.
-- Assumes nothing.
use mathlib.Core.Path.{◌≡◌, refl, sym, ap}
use mathlib.Core.Logic.{◌↔◌, ◌⊎◌, inl, inr}
use mathlib.Core.Bool.{Bool, true}
use mathlib.Core.List.{List, [], ◌∷◌, ◌++◌, map}
use Rattle.std.specs.Prelude.{Some, slice_get}
use Rattle.std.proofs.lemmas.Option.{none-some, same_Some}
use Prim.Native.Nat.{ℕ, zero, suc}
use Rattle.kinds.specs.Bytes.{all}
use Rattle.kinds.proofs.Logic.{left, right}

module _ {A : Type 0} where
  -- x is in a list
  abbrev pub In : A → List A → Type 0
  In x [] = ⊥
  In x (y ∷ ys) = (x ≡ y) ⊎ In x ys

  -- no element is in a list twice
  abbrev pub Once : List A → Type 0
  Once [] = Unit {0}
  Once (x ∷ xs) = (In x xs → ⊥) × Once xs

  pub in_left : (x : A) (xs ys : List A) → In x xs → In x (xs ++ ys)
  in_left x [] ys i = absurd i
  in_left x (y ∷ xs) ys (inl e) = inl e
  in_left x (y ∷ xs) ys (inr i) = inr (in_left x xs ys i)

  pub in_right : (x : A) (xs ys : List A) → In x ys → In x (xs ++ ys)
  in_right x [] ys i = i
  in_right x (y ∷ xs) ys i = inr (in_right x xs ys i)

  pub in_either : (x : A) (xs ys : List A) → In x (xs ++ ys) → In x xs ⊎ In x ys
  in_either x [] ys i = inr i
  in_either x (y ∷ xs) ys (inl e) = inl (inl e)
  in_either x (y ∷ xs) ys (inr i) = go (in_either x xs ys i)
    where
      go : In x xs ⊎ In x ys → In x (y ∷ xs) ⊎ In x ys
      go (inl j) = inl (inr j)
      go (inr j) = inr j

  pub once_append : (xs ys : List A) → Once xs → Once ys → ((x : A) → In x xs → In x ys → ⊥) → Once (xs ++ ys)
  once_append [] ys o p f = p
  once_append (x ∷ xs) ys o p f = (λ i. go (in_either x xs ys i), once_append xs ys o.1 p (λ z i j. f z (inr i) j))
    where
      go : In x xs ⊎ In x ys → ⊥
      go (inl i) = o.0 i
      go (inr i) = f x (inl refl) i

  -- what is in a list has an index
  pub index_in : (xs : List A) (i : ℕ) (x : A) → slice_get xs i ≡ Some x → In x xs
  index_in [] i x e = absurd (none-some x e)
  index_in (y ∷ xs) zero x e = inl (sym (same_Some _ _ e))
  index_in (y ∷ xs) (suc i) x e = inr (index_in xs i x e)

  in_index : (x : A) (xs : List A) → In x xs → (i : ℕ) × (slice_get xs i ≡ Some x)
  in_index x [] i = absurd i
  in_index x (y ∷ xs) (inl e) = (0, ap Some (sym e))
  in_index x (y ∷ xs) (inr i) = let (n, e) = in_index x xs i in (suc n, e)

  pub in_by_index : (x : A) (xs : List A) → ((i : ℕ) × (slice_get xs i ≡ Some x)) ↔ In x xs
  in_by_index x xs = (λ (i, e). index_in xs i x e, in_index x xs)

  -- and where none is there twice, one only
  pub once_index : (xs : List A) → Once xs → (i j : ℕ) (x : A) → slice_get xs i ≡ Some x → slice_get xs j ≡ Some x → i ≡ j
  once_index [] o i j x e f = absurd (none-some x e)
  once_index (y ∷ xs) o zero zero x e f = refl
  once_index (y ∷ xs) o zero (suc j) x e f = absurd (o.0 (rw (same_Some _ _ e) (index_in xs j x f)))
  once_index (y ∷ xs) o (suc i) zero x e f = absurd (o.0 (rw (same_Some _ _ f) (index_in xs i x e)))
  once_index (y ∷ xs) o (suc i) (suc j) x e f = ap suc (once_index xs o.1 i j x e f)

  -- what every element passes
  pub all-at : (p : A → Bool) (xs : List A) (i : ℕ) (x : A) → all p xs ≡ true → slice_get xs i ≡ Some x → p x ≡ true
  all-at p [] i x h e = absurd (none-some x e)
  all-at p (y ∷ xs) zero x h e = rw (← same_Some _ _ e) (left _ h)
  all-at p (y ∷ xs) (suc i) x h e = all-at p xs i x (right (p y) h) e

module _ {A B : Type 0} (f : A → B) where
  pub in_map : (x : A) (xs : List A) → In x xs → In (f x) (map f xs)
  in_map x [] i = i
  in_map x (y ∷ xs) (inl e) = inl (ap f e)
  in_map x (y ∷ xs) (inr i) = inr (in_map x xs i)

  pub in_mapped : (y : B) (xs : List A) → In y (map f xs) → (x : A) × In x xs × (y ≡ f x)
  in_mapped y [] i = absurd i
  in_mapped y (x ∷ xs) (inl e) = (x, inl refl, e)
  in_mapped y (x ∷ xs) (inr i) = let (z, j, e) = in_mapped y xs i in (z, inr j, e)

  pub once-map : ((x y : A) → f x ≡ f y → x ≡ y) → (xs : List A) → Once xs → Once (map f xs)
  once-map inj [] o = o
  once-map inj (x ∷ xs) o = (λ i. o.0 (back (in_mapped (f x) xs i)), once-map inj xs o.1)
    where
      back : (z : A) × In z xs × (f x ≡ f z) → In x xs
      back (z, j, e) = rw (inj x z e) j
