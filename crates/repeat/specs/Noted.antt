-- Declarations that are noted by their fingerprints and their places, one by one. P says what is known of a declaration's place.
-- Assumes nothing.
use Rattle.std.specs.Prelude.{◌≡◌, Bool, true, false, List, [], ◌∷◌, ◌++◌, ℕ}
use Rattle.model.specs.Tree.{Declaration}
use Rattle.repeat.specs.declared.Notes.{Notes}
use Rattle.repeat.specs.Prints.{prints_of}

-- b ends in r, which begins at the place `length b - length r`
pub record Behind (b r : List ℕ) : Type 0 where
  pub before : List ℕ
  pub same : b ≡ before ++ r

pub data AllAt (P : ℕ → Declaration → Type 0) : List ℕ → List Declaration → Type 0 where
  no_place : AllAt P [] []
  one_place : {at : ℕ} {d : Declaration} {ats : List ℕ} {ds : List Declaration} → P at d → AllAt P ats ds → AllAt P (at ∷ ats) (d ∷ ds)

-- the fingerprints, of at most m bytes of text, and the places are those of the declarations
pub record Noted (P : ℕ → Declaration → Type 0) (m : ℕ) (v : Notes) (ds : List Declaration) : Type 0 where
  pub same : v.prints.items ≡ prints_of m ds
  pub there : AllAt P v.places.items ds

-- whether some place that has the fingerprint h was told to be the same: Q says what was told of a place
pub data Looked (Q : ℕ → Bool → Type 0) (h : ℕ) : List ℕ → List ℕ → Bool → Type 0 where
  no_print : {ats : List ℕ} → Looked Q h [] ats false
  no_more : {xs : List ℕ} → Looked Q h xs [] false
  passed : {x at : ℕ} {xs ats : List ℕ} {r : Bool} → (x ≡ h → Q at false) → Looked Q h xs ats r → Looked Q h (x ∷ xs) (at ∷ ats) r
  found : {x at : ℕ} {xs ats : List ℕ} → x ≡ h → Q at true → Looked Q h (x ∷ xs) (at ∷ ats) true
