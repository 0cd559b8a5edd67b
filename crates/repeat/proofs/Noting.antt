-- What is noted of declarations: of one more, and whether one is repeated.
-- Assumes nothing.
use mathlib.Core.Path.{◌≡◌, refl, sym, ◌∙◌, ap, ap₂}
use mathlib.Core.Bool.{Bool, true, false, ◌||◌, false≢true}
use mathlib.Core.List.{List, [], ◌∷◌, ◌++◌, append_assoc}
use mathlib.Core.Logic.{◌⊎◌, inl, inr}
use Rattle.std.specs.Prelude.{Option, None, Some, ◌==◌}
use Rattle.std.specs.List.{list_any}
use Rattle.std.specs.declared.iter.Zip.{Zip}
use Rattle.std.specs.declared.slice.Iter.{Iter}
use Rattle.std.specs.Iterator.Adapters.{zip_first, zip_second}
use Rattle.std.specs.Slice.Iter.{iter_rest}
use Rattle.std.proofs.iter.Yields.{fronts}
use Rattle.std.proofs.lemmas.Iterator.{zips}
use Rattle.std.proofs.lemmas.Slice.Zip.{Zip-more, either_empty_from_Zip}
use denote.Ref.{Bor}
use Prim.Native.Nat.{ℕ, zero, suc, ◌-◌, ◌≤◌, ◌<◌}
use native.Mathlib.Omega.{arith}
use lib.ListN.{length, drop, get_or, length-append}
use lib.Seq.{drop_at}
use borrow.Author.Tests.{eq-eqb}
use Rattle.model.specs.Tree.{Declaration}
use Rattle.model.specs.Sheet.{repeats, has}
use Rattle.model.proofs.Sheets.{repeats-same}
use Rattle.repeat.specs.declared.Notes.{Notes}
use Rattle.repeat.specs.Prints.{print_text, print_in, prints_of}
use Rattle.repeat.specs.Noted.{Behind, AllAt, no_place, one_place, Noted, Looked, no_print, no_more, passed, found}

-- a look at the notes, one by one
module _ (Q : ℕ → Bool → Type 0) (h : ℕ) where
  -- u is left of the two arrays
  abbrev pub LookedIn : Zip (Iter ℕ) (Iter ℕ) → Bool → Type 0
  LookedIn u b = Looked Q h (iter_rest (zip_first u)) (iter_rest (zip_second u)) b

  module _ (s t : Zip (Iter ℕ) (Iter ℕ)) (r : Option (Bor ℕ × Bor ℕ)) (step : zips fronts fronts s r t) where
    module _ (p : Bor ℕ × Bor ℕ) (e : r ≡ Some p) where
      pub look_found : p.0.now ≡ h → Q p.1.now true → LookedIn s true
      look_found k q = let (x, y) = Zip-more s t r p e step in rw (x, y) (found k q)

      pub look_passed : (p.0.now ≡ h → Q p.1.now false) → (b : Bool) → LookedIn t b → LookedIn s b
      look_passed q b l = let (x, y) = Zip-more s t r p e step in rw (x, y) (passed q l)

    pub look-end : r ≡ None → LookedIn s false
    look-end e = go (either_empty_from_Zip s t r e step)
      where
        go : (iter_rest (zip_first s) ≡ []) ⊎ (iter_rest (zip_second s) ≡ []) → LookedIn s false
        go (inl x) = rw x no_print
        go (inr y) = rw y no_more

  -- where no fingerprint is the same
  look_none : (xs ats : List ℕ) → list_any (λ x. x == h) xs ≡ false → Looked Q h xs ats false
  look_none [] ats e = no_print
  look_none (x ∷ xs) [] e = no_more
  look_none (x ∷ xs) (at ∷ ats) e = go (x == h) refl e (look_none xs ats)
    where
      go : (b : Bool) → (x == h) ≡ b → (b || list_any (λ y. y == h) xs) ≡ false → (list_any (λ y. y == h) xs ≡ false → Looked Q h xs ats false) → Looked Q h (x ∷ xs) (at ∷ ats) false
      go true q f l = absurd (false≢true (sym f))
      go false q f l = passed (λ k. absurd (false≢true (sym q ∙ eq-eqb x h k))) (l f)

  pub look-none : (us xs ats : List ℕ) (r : Bool) → us ≡ xs → r ≡ list_any (λ x. x == h) us → r ≡ false → Looked Q h xs ats false
  look-none us xs ats r x e f = look_none xs ats (ap (list_any (λ x. x == h)) (sym x) ∙ sym e ∙ f)

-- declarations that repeat each other have the same fingerprint
repeats-print : (n : ℕ) (d e : Declaration) → repeats d e ≡ true → print_in n d ≡ print_in n e
unfolding print_in
repeats-print n d e h = ap (print_text n) ((repeats-same d e).0 h).1

-- a look tells whether one that is noted is repeated, where each told so of its place
pub has-looked : {P : ℕ → Declaration → Type 0} {Q : ℕ → Bool → Type 0} (m h : ℕ) (e : Declaration) → h ≡ print_in m e → ((at : ℕ) (d : Declaration) → P at d → (b : Bool) → Q at b → b ≡ repeats d e)
    → {ats : List ℕ} {ds : List Declaration} → AllAt P ats ds → (r : Bool) → Looked Q h (prints_of m ds) ats r → r ≡ has ds e
unfolding has prints_of
has-looked m h e k told no_place r no_print = refl
has-looked m h e k told no_place r no_more = refl
has-looked m h e k told (one_place {d = d} {ds = ds} p all) r (found q z) = ap (λ b. b || has ds e) (told _ d p true z)
has-looked m h e k told (one_place {d = d} {ds = ds} p all) r (passed q l) = go (repeats d e) refl (has-looked m h e k told all r l)
  where
    go : (b : Bool) → repeats d e ≡ b → r ≡ has ds e → r ≡ (b || has ds e)
    go true f z = absurd (false≢true (told _ d p false (q (repeats-print m d e f ∙ sym k)) ∙ f))
    go false f z = z

prints_more : (m : ℕ) (ds : List Declaration) (d : Declaration) → prints_of m (ds ++ (d ∷ [])) ≡ prints_of m ds ++ (print_in m d ∷ [])
unfolding prints_of
prints_more m [] d = refl
prints_more m (e ∷ es) d = ap (λ xs. print_in m e ∷ xs) (prints_more m es d)

all_more : {P : ℕ → Declaration → Type 0} {ats : List ℕ} {ds : List Declaration} {at : ℕ} {d : Declaration} → AllAt P ats ds → P at d → AllAt P (ats ++ (at ∷ [])) (ds ++ (d ∷ []))
all_more no_place r = one_place r no_place
all_more (one_place q more) r = one_place q (all_more more r)

pub noted_more : (P : ℕ → Declaration → Type 0) (m : ℕ) (v w : Notes) (ds : List Declaration) (h at : ℕ) (d : Declaration) → Noted P m v ds
    → w.prints.items ≡ v.prints.items ++ (h ∷ []) → w.places.items ≡ v.places.items ++ (at ∷ []) → h ≡ print_in m d → P at d → Noted P m w (ds ++ (d ∷ []))
noted_more P m v w ds h at d f x y e r = record {
  same = x ∙ ap₂ (λ xs z. xs ++ (z ∷ [])) f.same e ∙ sym (prints_more m ds d);
  there = rw y (all_more f.there r);
}

pub nothing-noted : (P : ℕ → Declaration → Type 0) (m : ℕ) (v : Notes) → v.prints.items ≡ [] → v.places.items ≡ [] → Noted P m v []
unfolding prints_of
nothing-noted P m v x y = record { same = x; there = rw y no_place }

-- there are as many of each
pub places-length : {P : ℕ → Declaration → Type 0} {m : ℕ} {v : Notes} {ds : List Declaration} → Noted P m v ds → length v.places.items ≡ length ds
places-length f = go f.there
  where
    go : {P : ℕ → Declaration → Type 0} {ats : List ℕ} {ds : List Declaration} → AllAt P ats ds → length ats ≡ length ds
    go no_place = refl
    go (one_place p all) = ap suc (go all)

pub prints-length : {P : ℕ → Declaration → Type 0} {m : ℕ} {v : Notes} {ds : List Declaration} → Noted P m v ds → length v.prints.items ≡ length ds
unfolding prints_of
prints-length {m = m} {ds = ds} f = ap length f.same ∙ go m ds
  where
    go : (m : ℕ) (ds : List Declaration) → length (prints_of m ds) ≡ length ds
    go m [] = refl
    go m (d ∷ ds) = ap suc (go m ds)

-- a declaration stands at each place
pub noted-at : {P : ℕ → Declaration → Type 0} {ats : List ℕ} {ds : List Declaration} → AllAt P ats ds → (k e : ℕ) → k < length ats → (d : Declaration) × P (get_or ats k e) d
noted-at no_place k e h = absurd (omega arith)
noted-at (one_place p all) zero e h = (_, p)
noted-at (one_place p all) (suc k) e h = noted-at all k e (omega arith)

-- what is left of some bytes
module _ (b r : List ℕ) (f : Behind b r) where
  pub behind-long : length r ≤ length b
  behind-long = omega (arith, ap length f.same, length-append f.before r)

  pub behind-at : (at : ℕ) → at ≡ length b - length r → drop at b ≡ r
  behind-at at e = ap (drop at) f.same ∙ drop_at f.before r at (omega (arith, ap length f.same, length-append f.before r))

  pub behind_then : (u t : List ℕ) → r ≡ u ++ t → Behind b t
  behind_then u t e = record { before = f.before ++ u; same = f.same ∙ ap (λ x. f.before ++ x) e ∙ sym (append_assoc f.before u t) }

  pub behind-rest : (t : List ℕ) → Behind r t → Behind b t
  behind-rest t g = behind_then g.before t g.same
