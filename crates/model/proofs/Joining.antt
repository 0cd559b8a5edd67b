-- Joining: the joined list is a well-formed sheet, which the bytes written decode as; with an empty back it is the front; a function is found in it
-- where the front has it.
-- Assumes nothing.
use mathlib.Core.Path.{◌≡◌, refl, sym, ◌∙◌, ap}
use mathlib.Core.Bool.{Bool, true, false, ◌||◌, not, false≢true, and-eq-true_iff}
use mathlib.Core.List.{List, [], ◌∷◌, ◌++◌, append-nil, append_assoc}
use Rattle.std.specs.Prelude.{Option, None, Some}
use Prim.Native.Nat.{ℕ, ◌≤◌}
use lib.Dec.{leb, ltb}
use lib.ListN.{length}
use borrow.Author.Tests.{leb-true, le-leb, ltb-false, le-ltb}
use Rattle.kinds.specs.Bytes.{all}
use Rattle.kinds.proofs.Logic.{both, left, right, all_append}
use Rattle.model.specs.declared.Refusal.TheVariants.{TooManyDeclarations}
use Rattle.model.specs.Tree.{Declaration}
use Rattle.model.specs.Layout.{Bytes}
use Rattle.model.specs.Record.{well_formed, is_absent}
use Rattle.model.specs.Answer.{writes}
use Rattle.model.specs.Sheet.{most_declarations, repeats, has, first_repeat, is_sheet, well_formed_sheet, encode_sheet, decode_sheet, OnLine, refuses_on, writes_sheet}
use Rattle.model.specs.Find.{search_by, find_output, found_at}
use Rattle.model.specs.Append.{of_sheet}
use Rattle.model.specs.Join.{is_constructor, is_lacking, lacking, joined, join_by, join_output}
use Rattle.model.proofs.Lengths.{refuses-not}
use Rattle.model.proofs.Sheets.{sheet-back, sheet-exactly}
use Rattle.model.proofs.Distinct.{has_append, has_last, first-distinct, distinct_append, absent-is}
use Rattle.model.proofs.Finding.{search_front}

-- what the front lacks of the back repeats nothing: xs are those that were added, and es all that came before, in the back
or_cases : {Q : Type 0} (a b : Bool) → (a || b) ≡ true → (a ≡ true → Q) → (b ≡ true → Q) → Q
or_cases true b h f g = f refl
or_cases false b h f g = g h

or_left : (a b : Bool) → a ≡ true → (a || b) ≡ true
or_left a b h = rw h

or_right : (a b : Bool) → b ≡ true → (a || b) ≡ true
or_right true b h = refl
or_right false b h = h

abbrev Within : List Declaration → List Declaration → Type 0
Within xs es = (d : Declaration) → has xs d ≡ true → has es d ≡ true

module _ (xs es : List Declaration) (d : Declaration) (w : Within xs es) where
  within_both : Within (xs ++ (d ∷ [])) (es ++ (d ∷ []))
  within_both c i =
      rw has_last (or_cases (has xs c) (repeats d c) (rw has_last at i) (λ j. or_left (has es c) (repeats d c) (w c j)) (λ j. or_right (has es c) (repeats d c) j))

  within-past : Within xs (es ++ (d ∷ []))
  within-past c i = rw has_last (or_left (has es c) (repeats d c) (w c i))

  -- what is new to es is new to xs
  still-new : (fs : List Declaration) → has fs d ≡ false → has es d ≡ false → has (fs ++ xs) d ≡ false
  still-new fs p q = has_append fs xs d ∙ (rw p (lacks (has xs d) refl))
    where
      lacks : (b : Bool) → has xs d ≡ b → has xs d ≡ false
      lacks true e = absurd (false≢true (sym q ∙ w d e))
      lacks false e = e

lacking-new : (fs : List Declaration) (d : Declaration) → is_lacking fs d ≡ true → has fs d ≡ false
unfolding is_lacking
lacking-new fs d h = go (has fs d) (right (not (is_constructor d)) h)
  where
    go : (b : Bool) → not b ≡ true → b ≡ false
    go true e = absurd (false≢true e)
    go false e = refl

lacking-distinct : (fs bs xs es : List Declaration) → Within xs es → first_repeat es bs ≡ None → first_repeat (fs ++ xs) (lacking fs bs) ≡ None
unfolding lacking first_repeat
lacking-distinct fs [] xs es w h = refl
lacking-distinct fs (d ∷ bs) xs es w h =
    let (p, q) = (first-distinct es d bs).0 h in
    go (is_lacking fs d) refl p
    (lacking-distinct fs bs (xs ++ (d ∷ [])) (es ++ (d ∷ [])) (within_both xs es d w) q)
    (lacking-distinct fs bs xs (es ++ (d ∷ [])) (within-past xs es d w) q)
  where
    go : (b : Bool) → is_lacking fs d ≡ b → has es d ≡ false → first_repeat (fs ++ (xs ++ (d ∷ []))) (lacking fs bs) ≡ None → first_repeat (fs ++ xs) (lacking fs bs) ≡ None
        → first_repeat (fs ++ xs) (elim b [ true ↦ d ∷ lacking fs bs | false ↦ lacking fs bs ]) ≡ None
    go false k p f g = g
    go true k p f g = (first-distinct (fs ++ xs) d (lacking fs bs)).1 (still-new xs es d w fs (lacking-new fs d k) p, rw (append_assoc fs xs (d ∷ [])) f)

lacking-well : (fs bs : List Declaration) → all well_formed bs ≡ true → all well_formed (lacking fs bs) ≡ true
unfolding lacking
lacking-well fs [] h = refl
lacking-well fs (d ∷ bs) h = go (is_lacking fs d) (lacking-well fs bs (right (well_formed d) h))
  where
    go : (b : Bool) → all well_formed (lacking fs bs) ≡ true → all well_formed (elim b [ true ↦ d ∷ lacking fs bs | false ↦ lacking fs bs ]) ≡ true
    go true k = both {a = well_formed d} (left (all well_formed bs) h) k
    go false k = k

-- "The joined sheet is well formed"
pub joined-well-formed : (fs bs : List Declaration) → well_formed_sheet fs ≡ true → well_formed_sheet bs ≡ true → length (joined fs bs) ≤ most_declarations → well_formed_sheet (joined fs bs) ≡ true
unfolding well_formed_sheet is_sheet joined
joined-well-formed fs bs f b l =
    let (f₁, f₂) = (and-eq-true_iff (all well_formed fs) _).0 f in
    let (b₁, b₂) = (and-eq-true_iff (all well_formed bs) _).0 b in
    let x : first_repeat [] fs ≡ None = absent-is _ (right (leb (length fs) most_declarations) f₂) in
    let y : first_repeat [] bs ≡ None = absent-is _ (right (leb (length bs) most_declarations) b₂) in
    let z : first_repeat (fs ++ []) (lacking fs bs) ≡ None = lacking-distinct fs bs [] [] (λ d i. i) y in
    let v : first_repeat [] (fs ++ lacking fs bs) ≡ None = (distinct_append [] fs (lacking fs bs)).1 (x, rw append-nil at z) in
    let a : all well_formed (fs ++ lacking fs bs) ≡ true = rw all_append (both {a = all well_formed fs} f₁ (lacking-well fs bs b₁)) in
    both a (both (le-leb (length (fs ++ lacking fs bs)) most_declarations l) (rw v))

-- what is written
pub record Joins (f b u : List ℕ) : Type 0 where
  pub front : List Declaration
  pub fronted : decode_sheet f ≡ Some front
  pub back : List Declaration
  pub backed : decode_sheet b ≡ Some back
  pub becomes : decode_sheet u ≡ Some (joined front back)

pub join_joins : (f b u : List ℕ) → Bytes f → Bytes b → (join_output f b).output ≡ writes u → Joins f b u
unfolding join_output
join_joins f b u bytes bytes₁ e = go (decode_sheet f) (decode_sheet b) refl refl e
  where
    last : (fs bs : List Declaration) → decode_sheet f ≡ Some fs → decode_sheet b ≡ Some bs → (x : Bool) → ltb most_declarations (length (joined fs bs)) ≡ x
        → (elim x as (λ _. OnLine) [ true ↦ refuses_on TooManyDeclarations 0 0 | false ↦ writes_sheet (joined fs bs) ]).output ≡ writes u → Joins f b u
    last fs bs p q true i g = absurd (refuses-not g)
    last fs bs p q false i g =
        let w = ((sheet-exactly f fs bytes).0 p).0 in
        let v = ((sheet-exactly b bs bytes₁).0 q).0 in
        let z : u ≡ encode_sheet (joined fs bs) = cc in
        record { front = fs; fronted = p; back = bs; backed = q; becomes = ap decode_sheet z ∙ sheet-back (joined fs bs) (joined-well-formed fs bs w v (ltb-false most_declarations (length (joined fs bs)) i)) }

    go : (o r : Option (List Declaration)) → decode_sheet f ≡ o → decode_sheet b ≡ r → (of_sheet o (λ fs. of_sheet r (λ bs. join_by fs bs))).output ≡ writes u → Joins f b u
    go None r p q g = absurd (refuses-not g)
    go (Some fs) None p q g = absurd (refuses-not g)
    go (Some fs) (Some bs) p q g = last fs bs p q (ltb most_declarations (length (joined fs bs))) refl g

-- "With an empty back the result is the front itself."
alone : (fs ds : List Declaration) → ds ≡ fs → ltb most_declarations (length fs) ≡ false → elim (ltb most_declarations (length ds)) as (λ _. OnLine) [ true ↦ refuses_on TooManyDeclarations 0 0 | false ↦ writes_sheet ds ] ≡ writes_sheet fs
alone fs ds e h = let m : ltb most_declarations (length ds) ≡ false = rw e h in rw m (ap writes_sheet e)

pub join_empty : (f b : List ℕ) (fs : List Declaration) → Bytes f → decode_sheet f ≡ Some fs → decode_sheet b ≡ Some [] → join_output f b ≡ record { output = writes f; line = 0 }
unfolding join_output joined lacking well_formed_sheet is_sheet
join_empty f b fs bytes x y =
    let (w, s) = (sheet-exactly f fs bytes).0 x in
    let l : leb (length fs) most_declarations ≡ true = left (is_absent (first_repeat [] fs)) (right (all well_formed fs) w) in
    let m : ltb most_declarations (length fs) ≡ false = le-ltb most_declarations (length fs) (leb-true (length fs) most_declarations l) in
    let j : join_by fs [] ≡ writes_sheet fs = alone fs (fs ++ []) (append-nil fs) m in
    rw (x, y) (j ∙ rw (← s) refl)

-- "finding a function in it gives the front's where both have one": where the front has one, whatever the back has
pub join_finds : (f b u t : List ℕ) (p q : ℕ) → Bytes f → Bytes b → (join_output f b).output ≡ writes u → find_output f t ≡ found_at p q → find_output u t ≡ found_at p q
unfolding find_output joined
join_finds f b u t p q bytes bytes₁ e h =
    let j = join_joins f b u bytes bytes₁ e in
    let s : search_by (Some j.front) t ≡ found_at p q = ap (λ o. search_by o t) (sym j.fronted) ∙ h in
    ap (λ o. search_by o t) j.becomes ∙ search_front t 0 p q j.front (lacking j.front j.back) s
