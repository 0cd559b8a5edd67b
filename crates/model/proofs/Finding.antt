-- Finding a function in a sheet: where a place is answered, the function of that place has the text and no other has; where 26 is answered, none has it.
-- Assumes nothing.
use mathlib.Core.Path.{◌≡◌, refl, sym, ◌∙◌, ap}
use mathlib.Core.Logic.{◌⊎◌, inl, inr}
use mathlib.Core.Bool.{Bool, true, false, ◌&&◌, ◌||◌, false≢true}
use mathlib.Core.List.{List, [], ◌∷◌, ◌++◌}
use Rattle.std.specs.Prelude.{Option, None, Some}
use Rattle.std.proofs.lemmas.Option.{none-some, same_Some}
use Prim.Native.Nat.{ℕ, zero, suc, ◌+◌, ◌≤◌}
use native.Mathlib.Omega.{arith}
use lib.Dec.{leb, eqb}
use lib.ListN.{length}
use borrow.Author.Tests.{leb-true}
use Rattle.kinds.proofs.Logic.{left, right}
use Rattle.model.proofs.Parts.{found-parts, missing-parts}
use Rattle.model.specs.declared.Refusal.{Refusal}
use Rattle.model.specs.declared.Refusal.TheVariants.{NotWellFormed, NoSuchFunction}
use Rattle.model.specs.Tree.{Declaration}
use Rattle.model.specs.Layout.{Piece, piece, no_piece, piece_of}
use Rattle.model.specs.Record.{is_absent, ended, on_piece}
use Rattle.model.specs.Line.{keyword_in, canonical_text}
use Rattle.model.specs.Answer.{number}
use Rattle.model.specs.Sheet.{most_declarations, same_text, repeats, has, first_repeat, is_sheet, sheet_from, decode_all, decode_sheet}
use Rattle.model.specs.Find.{is_function, counted, is_sought, search_in, search_by, find_output, functions, nth, found_at, not_found, Search}
use Rattle.model.proofs.Decoding.{when-some, given-some, ended_some}
use Rattle.model.proofs.Sheets.{text_same, repeats-same}
use Rattle.model.proofs.Distinct.{has_last, first-distinct, absent-is}

found-not : {w : Refusal} {n p q : ℕ} → not_found w n ≡ found_at p q → ⊥
found-not e = let z : ◌≡◌ {A = ℕ} 0 1 = cc in omega arith

missing-not : {w : Refusal} {n p q : ℕ} → found_at p q ≡ not_found w n → ⊥
missing-not e = let z : ◌≡◌ {A = ℕ} 0 1 = cc in omega arith

-- what is decoded is a sheet
pub decoded-sheet : (b : List ℕ) (ds : List Declaration) → decode_sheet b ≡ Some ds → is_sheet ds ≡ true
unfolding decode_sheet
decoded-sheet b ds e = go (piece_of 4 b) e
  where
    go : (p : Piece) → on_piece p (λ k body r. ended r (sheet_from k body)) ≡ Some ds → is_sheet ds ≡ true
    go no_piece f = absurd (none-some ds f)
    go (piece k body r) f =
        ended_some r (sheet_from k body) f (λ _ f₁.
        when-some (eqb k 0x30) _ f₁ (λ _ f₂.
        given-some (decode_all body) _ f₂ (λ es _ f₃.
        when-some (is_sheet es) _ f₃ (λ g f₄. rw (← (same_Some _ _ f₄)) g))))

-- the functions of a list, by their places
module _ (c : Declaration) (cs : List Declaration) where
  pub functions-past : is_function c ≡ false → functions (c ∷ cs) ≡ functions cs
  unfolding functions
  functions-past h = rw (functions, h)

  pub functions-here : is_function c ≡ true → functions (c ∷ cs) ≡ c ∷ functions cs
  unfolding functions
  functions-here h = rw (functions, h)

functions-few : (ds : List Declaration) → length (functions ds) ≤ length ds
unfolding functions
functions-few [] = omega arith
functions-few (d ∷ ds) = go (is_function d) (functions-few ds)
  where
    go : (f : Bool) → length (functions ds) ≤ length ds → length {A = Declaration} (elim f [ true ↦ d ∷ functions ds | false ↦ functions ds ]) ≤ suc (length ds)
    go true h = omega arith
    go false h = omega arith

-- what holds of each function of a list, by its place
module _ (P : ℕ → Declaration → Type 0) (c : Declaration) (cs : List Declaration) where
  by_place : (is_function c ≡ true → P 0 c) → (is_function c ≡ true → (i : ℕ) (d : Declaration) → nth (functions cs) i ≡ Some d → P (suc i) d)
      → (is_function c ≡ false → (i : ℕ) (d : Declaration) → nth (functions cs) i ≡ Some d → P i d)
      → (i : ℕ) (d : Declaration) → nth (functions (c ∷ cs)) i ≡ Some d → P i d
  by_place here later past i d e = go (is_function c) refl i e
    where
      go : (f : Bool) → is_function c ≡ f → (i : ℕ) → nth (functions (c ∷ cs)) i ≡ Some d → P i d
      go true q zero e = rw (← (same_Some _ _ (rw (functions-here c cs q) at e))) (here q)
      go true q (suc i) e = later q i d (rw (functions-here c cs q) at e)
      go false q i e = past q i d (rw (functions-past c cs q) at e)

functions_are : (ds : List Declaration) (i : ℕ) (d : Declaration) → nth (functions ds) i ≡ Some d → is_function d ≡ true
unfolding functions
functions_are [] i d e = absurd (none-some d e)
functions_are (c ∷ cs) i d e = by_place (λ j f. is_function f ≡ true) c cs (λ q. q) (λ _. functions_are cs) (λ _. functions_are cs) i d e

-- none repeats what came before
or_none_lem : (a b : Bool) → (a || b) ≡ false → (a ≡ false) × (b ≡ false)
or_none_lem true b h = absurd (false≢true (sym h))
or_none_lem false b h = (refl, h)

functions-new : (es ds : List Declaration) → first_repeat es ds ≡ None → (i : ℕ) (d : Declaration) → nth (functions ds) i ≡ Some d → has es d ≡ false
unfolding functions
functions-new es [] h i d e = absurd (none-some d e)
functions-new es (c ∷ cs) h i d e =
    let (p, q) = (first-distinct es c cs).0 h in
    let more : (j : ℕ) (f : Declaration) → nth (functions cs) j ≡ Some f → has es f ≡ false
    = λ j f g. (or_none_lem (has es f) (repeats c f) (sym (has_last es c f) ∙ functions-new (es ++ (c ∷ [])) cs q j f g)).0 in
    by_place (λ j f. has es f ≡ false) c cs (λ _. p) (λ _. more) (λ _. more) i d e

-- functions with one text repeat each other, so no two places have it
functions_repeat : (d e : Declaration) → is_function d ≡ true → is_function e ≡ true → canonical_text d ≡ canonical_text e → repeats d e ≡ true
unfolding keyword_in
functions_repeat (Declaration.function m nm ins outs) (Declaration.function n mm jns puts) p q t = (repeats-same _ _).1 (refl, t)
functions_repeat (Declaration.function m nm ins outs) (Declaration.constructor n jns) p q t = absurd (false≢true q)
functions_repeat (Declaration.function m nm ins outs) (Declaration.event n mm jns) p q t = absurd (false≢true q)
functions_repeat (Declaration.function m nm ins outs) (Declaration.error mm jns) p q t = absurd (false≢true q)
functions_repeat (Declaration.constructor m ins) e p q t = absurd (false≢true p)
functions_repeat (Declaration.event m nm ins) e p q t = absurd (false≢true p)
functions_repeat (Declaration.error nm ins) e p q t = absurd (false≢true p)

one_place : (es ds : List Declaration) → first_repeat es ds ≡ None → (i : ℕ) (d : Declaration) → nth (functions ds) i ≡ Some d → (j : ℕ) (e : Declaration) → nth (functions ds) j ≡ Some e → canonical_text d ≡ canonical_text e → i ≡ j
unfolding functions
one_place es [] h i d f = absurd (none-some d f)
one_place es (c ∷ cs) h i d f =
    let (_, q) = (first-distinct es c cs).0 h in
    let new : (j : ℕ) (e : Declaration) → nth (functions cs) j ≡ Some e → repeats c e ≡ false
    = λ j e g. (or_none_lem (has es e) (repeats c e) (sym (has_last es c e) ∙ functions-new (es ++ (c ∷ [])) cs q j e g)).1 in
    let more = one_place (es ++ (c ∷ [])) cs q in
    by_place (λ k g. (j : ℕ) (e : Declaration) → nth (functions (c ∷ cs)) j ≡ Some e → canonical_text g ≡ canonical_text e → k ≡ j) c cs (
    λ p. by_place (λ j e. canonical_text c ≡ canonical_text e → 0 ≡ j) c cs
    (λ _ _. refl)
    (λ _ j e g t. absurd (false≢true (sym (new j e g) ∙ functions_repeat c e p (functions_are cs j e g) t)))
    (λ n. absurd (false≢true (sym n ∙ p)))
    ) (
    λ p k x y. by_place (λ j e. canonical_text x ≡ canonical_text e → suc k ≡ j) c cs
    (λ _ t. absurd (false≢true (sym (new k x y) ∙ functions_repeat c x p (functions_are cs k x y) (sym t))))
    (λ _ j e g t. ap suc (more k x y j e g t))
    (λ n. absurd (false≢true (sym n ∙ p)))
    ) (
    λ p k x y. by_place (λ j e. canonical_text x ≡ canonical_text e → k ≡ j) c cs
    (λ n. absurd (false≢true (sym p ∙ n)))
    (λ n. absurd (false≢true (sym p ∙ n)))
    (λ _ j e g t. more k x y j e g t)
    ) i d f

-- a search that begins behind n functions
record Hit (t : List ℕ) (n p q : ℕ) (ds : List Declaration) : Type 0 where
  compared : q ≡ p
  before : ℕ
  place : p ≡ n + suc before
  declaration : Declaration
  there : nth (functions ds) before ≡ Some declaration
  text : canonical_text declaration ≡ Some t

search_found : (t : List ℕ) (n p q : ℕ) (ds : List Declaration) → search_in t n ds ≡ found_at p q → Hit t n p q ds
unfolding search_in is_sought
search_found t n p q [] e = absurd (found-not e)
search_found t n p q (d ∷ ds) e = go (λ m. search_found t m p q ds) (is_function d) (same_text (canonical_text d) (Some t)) refl refl e
  where
    go : ((m : ℕ) → search_in t m ds ≡ found_at p q → Hit t m p q ds) → (f s : Bool) → is_function d ≡ f → same_text (canonical_text d) (Some t) ≡ s
        → elim (f && s) as (λ _. Search) [ true ↦ found_at (elim f [ true ↦ suc n | false ↦ n ]) (elim f [ true ↦ suc n | false ↦ n ]) | false ↦ search_in t (elim f [ true ↦ suc n | false ↦ n ]) ds ] ≡ found_at p q
        → Hit t n p q (d ∷ ds)
    go past true true x y h =
        let (a, b) = found-parts h in
        record { compared = omega arith; before = 0; place = omega arith; declaration = d; there = rw (functions-here d ds x) refl; text = (text_same _ _).0 y }
    go past true false x y h =
        let z = past (suc n) h in
        record { compared = z.compared; before = suc z.before; place = omega (arith, z.place); declaration = z.declaration; there = rw (functions-here d ds x) z.there; text = z.text }
    go past false s x y h =
        let z = past n h in
        record { compared = z.compared; before = z.before; place = z.place; declaration = z.declaration; there = rw (functions-past d ds x) z.there; text = z.text }

record Miss (t : List ℕ) (n : ℕ) (w : Refusal) (m : ℕ) (ds : List Declaration) : Type 0 where
  refusal : w ≡ NoSuchFunction
  compared : m ≡ n + length (functions ds)
  none_has : (i : ℕ) (d : Declaration) → nth (functions ds) i ≡ Some d → canonical_text d ≡ Some t → ⊥

search_missing : (t : List ℕ) (n : ℕ) (w : Refusal) (m : ℕ) (ds : List Declaration) → search_in t n ds ≡ not_found w m → Miss t n w m ds
unfolding search_in is_sought functions
search_missing t n w m [] e = let (f, z) = missing-parts e in record { refusal = sym f; compared = omega arith; none_has = λ i d f. absurd (none-some d f) }
search_missing t n w m (d ∷ ds) e = go (λ k. search_missing t k w m ds) (is_function d) (same_text (canonical_text d) (Some t)) refl refl e
  where
    go : ((k : ℕ) → search_in t k ds ≡ not_found w m → Miss t k w m ds) → (f s : Bool) → is_function d ≡ f → same_text (canonical_text d) (Some t) ≡ s
        → elim (f && s) as (λ _. Search) [ true ↦ found_at (elim f [ true ↦ suc n | false ↦ n ]) (elim f [ true ↦ suc n | false ↦ n ]) | false ↦ search_in t (elim f [ true ↦ suc n | false ↦ n ]) ds ] ≡ not_found w m
        → Miss t n w m (d ∷ ds)
    go past true true x y h = absurd (missing-not h)
    go past true false x y h =
        let z = past (suc n) h in
        record {
          refusal = z.refusal;
          compared = rw (functions-here d ds x) (omega (arith, z.compared));
          none_has = by_place (λ i c. canonical_text c ≡ Some t → ⊥) d ds (λ _ u. false≢true (sym y ∙ (text_same _ _).1 u)) (λ _. z.none_has) (λ _. z.none_has);
        }
    go past false s x y h =
        let z = past n h in
        record {
          refusal = z.refusal;
          compared = rw (functions-past d ds x) z.compared;
          none_has = by_place (λ i c. canonical_text c ≡ Some t → ⊥) d ds (λ v. absurd (false≢true (sym x ∙ v))) (λ _. z.none_has) (λ _. z.none_has);
        }

-- "answer the place of the function with that text, counting functions only from 1, and how many were compared. When found, that count is the
-- place": and no other function has that text
pub record Found (b t : List ℕ) (p q : ℕ) : Type 0 where
  pub declarations : List Declaration
  pub sheet : decode_sheet b ≡ Some declarations
  pub compared : q ≡ p
  pub before : ℕ
  pub place : p ≡ suc before
  pub declaration : Declaration
  pub there : nth (functions declarations) before ≡ Some declaration
  pub text : canonical_text declaration ≡ Some t
  pub only : (i : ℕ) (d : Declaration) → nth (functions declarations) i ≡ Some d → canonical_text d ≡ Some t → i ≡ before

pub find_found : (b t : List ℕ) (p q : ℕ) → find_output b t ≡ found_at p q → Found b t p q
unfolding find_output is_sheet
find_found b t p q e = go (decode_sheet b) refl e
  where
    go : (o : Option (List Declaration)) → decode_sheet b ≡ o → search_by o t ≡ found_at p q → Found b t p q
    go None f h = absurd (found-not h)
    go (Some ds) f h =
        let z = search_found t 0 p q ds h in
        let distinct : first_repeat [] ds ≡ None = absent-is _ (right (leb (length ds) most_declarations) (decoded-sheet b ds f)) in
        record {
          declarations = ds;
          sheet = f;
          compared = z.compared;
          before = z.before;
          place = omega (arith, z.place);
          declaration = z.declaration;
          there = z.there;
          text = z.text;
          only = λ i d g u. one_place [] ds distinct i d g z.before z.declaration z.there (u ∙ sym z.text);
        }

-- "otherwise it is the number of functions, so at most 512"; "15, which carries 0"
pub record NotFound (b t : List ℕ) (q : ℕ) : Type 0 where
  pub declarations : List Declaration
  pub sheet : decode_sheet b ≡ Some declarations
  pub compared : q ≡ length (functions declarations)
  pub few : q ≤ most_declarations
  pub none_has : (i : ℕ) (d : Declaration) → nth (functions declarations) i ≡ Some d → canonical_text d ≡ Some t → ⊥

pub find_missing : (b t : List ℕ) (q : ℕ) → find_output b t ≡ not_found NoSuchFunction q → NotFound b t q
unfolding find_output is_sheet
find_missing b t q e = go (decode_sheet b) refl e
  where
    go : (o : Option (List Declaration)) → decode_sheet b ≡ o → search_by o t ≡ not_found NoSuchFunction q → NotFound b t q
    go None f h = absurd (let (y, z) = missing-parts h in let x : ◌≡◌ {A = ℕ} 0 1 = cc in omega arith)
    go (Some ds) f h =
        let z = search_missing t 0 NoSuchFunction q ds h in
        let few = leb-true (length ds) most_declarations (left (is_absent (first_repeat [] ds)) (decoded-sheet b ds f)) in
        record { declarations = ds; sheet = f; compared = omega (arith, z.compared); few = omega (arith, z.compared, functions-few ds, few); none_has = z.none_has }

pub find_ill_formed : (b t : List ℕ) (q : ℕ) → find_output b t ≡ not_found NotWellFormed q → (decode_sheet b ≡ None) × (q ≡ 0)
unfolding find_output
find_ill_formed b t q e = go (decode_sheet b) e
  where
    go : (o : Option (List Declaration)) → search_by o t ≡ not_found NotWellFormed q → (o ≡ None) × (q ≡ 0)
    go None h = let (y, z) = missing-parts h in (refl, sym z)
    go (Some ds) h = absurd (let y = (search_missing t 0 NotWellFormed q ds h).refusal in let z : ◌≡◌ {A = ℕ} 0 1 = cc in omega arith)

-- no other refusal is given
pub find_refuses : (b t : List ℕ) (w : Refusal) (q : ℕ) → find_output b t ≡ not_found w q → (number w ≡ 15) ⊎ (number w ≡ 26)
unfolding find_output number
find_refuses b t w q e = go (decode_sheet b) e
  where
    go : (o : Option (List Declaration)) → search_by o t ≡ not_found w q → (number w ≡ 15) ⊎ (number w ≡ 26)
    go None h = inl (let (z, y) = missing-parts h in rw (← z) refl)
    go (Some ds) h = inr (rw (search_missing t 0 w q ds h).refusal refl)

-- a search goes on behind a list in which it ends
pub search_front : (t : List ℕ) (n p q : ℕ) (ds es : List Declaration) → search_in t n ds ≡ found_at p q → search_in t n (ds ++ es) ≡ found_at p q
unfolding search_in
search_front t n p q [] es e = absurd (found-not e)
search_front t n p q (d ∷ ds) es e = go (is_sought t d) (search_front t (counted n d) p q ds es) e
  where
    go : (s : Bool) → (search_in t (counted n d) ds ≡ found_at p q → search_in t (counted n d) (ds ++ es) ≡ found_at p q)
        → elim s as (λ _. Search) [ true ↦ found_at (counted n d) (counted n d) | false ↦ search_in t (counted n d) ds ] ≡ found_at p q
        → elim s as (λ _. Search) [ true ↦ found_at (counted n d) (counted n d) | false ↦ search_in t (counted n d) (ds ++ es) ] ≡ found_at p q
    go true f h = h
    go false f h = f h
