-- The search: the text of a declaration, a function at a place, and all that are noted.
-- Assumes nothing.
use mathlib.Core.Path.{◌≡◌, refl, sym, ◌∙◌, ap, ap₂}
use mathlib.Core.Bool.{Bool, true, false, ◌&&◌}
use mathlib.Core.Logic.{◌⊎◌, inl, inr}
use mathlib.Core.List.{List, [], ◌∷◌}
use Rattle.std.specs.Prelude.{Option, None, Some, Ok, nat_eq}
use Rattle.std.specs.Cmp.Lexicographic.{pointwise}
use Rattle.std.specs.declared.iter.Zip.{Zip}
use Rattle.std.specs.declared.slice.Iter.{Iter}
use Rattle.std.specs.Iterator.Adapters.{zip_first, zip_second}
use Rattle.std.specs.Slice.Iter.{iter_rest}
use Rattle.std.proofs.iter.Yields.{fronts}
use Rattle.std.proofs.lemmas.Iterator.{zips}
use Rattle.std.proofs.lemmas.Slice.Eq.{bytes_eq-Decides}
use Rattle.std.proofs.lemmas.Slice.Zip.{Zip-more, either_empty_from_Zip}
use denote.Ref.{Bor}
use Prim.Native.Nat.{ℕ, suc, ◌+◌, ◌≤◌}
use native.Mathlib.Omega.{arith}
use native.Mathlib.Numerals.{add-one}
use lib.ListN.{length, take, drop}
use lib.Seq.{take_at}
use borrow.Author.Tests.{le-ltb}
use Rattle.kinds.specs.Bytes.{same}
use Rattle.kinds.proofs.Logic.{same_equal}
use Rattle.model.specs.declared.Refusal.{Refusal}
use Rattle.model.specs.declared.Refusal.TheVariants.{NoSuchFunction, NotWellFormed}
use Rattle.model.specs.Tree.{Declaration}
use Rattle.model.specs.Line.{canonical_text}
use Rattle.model.specs.Answer.{accepted, refused, number, writes, said, outcome, after, Answer, refusing}
use Rattle.model.specs.Calls.{canonical_output, or_wrong_sort}
use Rattle.model.specs.Sheet.{same_text, decode_sheet}
use Rattle.model.specs.Find.{is_function, counted, is_sought, search_in, search_by, find_output, found_at, not_found, Search}
use Rattle.model.proofs.Sheets.{text_same}
use Rattle.layout.proofs.Answers.{accepted-is, after-written}
use Rattle.record.specs.declared.Piece.{Piece}
use Rattle.record.specs.Parts.{PieceIs}
use Rattle.repeat.specs.declared.Notes.{Notes}
use Rattle.repeat.specs.Prints.{print, print_in, prints_of, OneRecord}
use Rattle.repeat.specs.Noted.{AllAt, no_place, one_place}
use Rattle.repeat.proofs.Whole.{code_in, alike, record_parts}
use Rattle.repeat.proofs.Printing.{output-is, text-short, print-is}
use Rattle.repeat.proofs.Noting.{prints-length}
use Rattle.index.specs.Indexes.{longest_text, RecordAt, OneAt, ItsRecord, SheetNoted}
use Rattle.index.specs.Searches.{AskedText, TextIs, SoughtIs, IsFunction, NoFunction}
use Rattle.index.proofs.Places.{room-enough}

-- The text of a record.

module _ (t b u b₁ : List ℕ) (a : Answer) (says : said a ≡ outcome (length b) (canonical_output t)) (leaves : b₁ ≡ after b (canonical_output t)) where
  pub line-told : (n : ℕ) → a ≡ Ok n → (r : Bool) → r ≡ pointwise nat_eq (take n b₁) u → TextIs t u r
  unfolding said
  line-told n e r f = record {
    same = λ p.
        let (v, o, x, y) = accepted-is (canonical_output t) (length b) n (sym (ap said e) ∙ says) in
        let part : take n b₁ ≡ v = ap (take n) (leaves ∙ after-written b v (canonical_output t) o y) ∙ take_at v (drop (length v) b) n (sym x) in
        rw (text_of (canonical_text p.declaration) v (sym (output-is t p) ∙ o)) (f ∙ ap (λ w. pointwise nat_eq w u) part ∙ alike _ _ (bytes_eq-Decides v u) (same_equal v u));
  }
    where
      text_of : (o : Option (List ℕ)) (v : List ℕ) → or_wrong_sort o ≡ writes v → o ≡ Some v
      text_of None v e = absurd (let z : ◌≡◌ {A = ℕ} 0 1 = cc in omega arith)
      text_of (Some w) v e = cc

  pub line-not : AskedText t b → (w : Refusal) (x : ℕ) → a ≡ refusing w x → TextIs t u false
  unfolding said outcome
  line-not q w x e = record { same = λ p. go p (canonical_text p.declaration) refl (sym (ap said e) ∙ says ∙ ap (outcome (length b)) (output-is t p)) }
    where
      go : (p : OneRecord t) (o : Option (List ℕ)) → canonical_text p.declaration ≡ o → refused (number w) x ≡ outcome (length b) (or_wrong_sort o) → false ≡ same_text o (Some u)
      go p None f g = refl
      go p (Some v) f g =
          let fits : outcome (length b) (writes v) ≡ accepted (length v) = rw (outcome, le-ltb (length b) (length v) (omega (arith, text-short t p v f, q.room))) refl in
          absurd (let h : refused (number w) x ≡ accepted (length v) = g ∙ fits in let z : ◌≡◌ {A = ℕ} 0 1 = cc in omega arith)

-- with fingerprints
pub sought-text : (t : List ℕ) (x h : ℕ) (u : List ℕ) (r : Bool) → TextIs t u r → SoughtIs t x h u r
sought-text t x h u r f = record { same = λ p _ _. f.same p }

pub sought_unlike : (t : List ℕ) (x h : ℕ) (u : List ℕ) → (x ≡ h → ⊥) → SoughtIs t x h u false
sought_unlike t x h u n = record { same = λ p e f. go p e f (same_text (canonical_text p.declaration) (Some u)) refl }
  where
    go : (p : OneRecord t) → x ≡ print_in longest_text p.declaration → h ≡ print 0 u → (c : Bool) → same_text (canonical_text p.declaration) (Some u) ≡ c → false ≡ same_text (canonical_text p.declaration) (Some u)
    go p e f true q = absurd (n (e ∙ print-is t p longest_text (room-enough t p) u ((text_same (canonical_text p.declaration) (Some u)).0 q) ∙ sym f))
    go p e f false q = sym q

pub ruleset seeking = (sought-text, sought_unlike)

-- The declaration at a place.

code-function : (d : Declaration) → code_in d ≡ 0x20 → is_function d ≡ true
unfolding code_in
code-function (Declaration.function m nm ins outs) e = refl
code-function (Declaration.constructor m ins) e = absurd (omega arith)
code-function (Declaration.event a nm ins) e = absurd (omega arith)
code-function (Declaration.error nm ins) e = absurd (omega arith)

code_other : (d : Declaration) → (code_in d ≡ 0x20 → ⊥) → is_function d ≡ false
unfolding code_in
code_other (Declaration.function m nm ins outs) e = absurd (e refl)
code_other (Declaration.constructor m ins) e = refl
code_other (Declaration.event a nm ins) e = refl
code_other (Declaration.error nm ins) e = refl

module _ (b : List ℕ) (at : ℕ) (t : List ℕ) (h : ItsRecord b at t) where
  pub its-one : OneAt b at → OneRecord t
  its-one p = record { declaration = p.declaration; one = h.is p.declaration p.one }

  module _ (x : Piece) (i : PieceIs t (Some x)) where
    pub function_is : x.kind ≡ 0x20 → IsFunction b at t
    function_is e = record { function = λ d p. code-function d (sym (record_parts t d (h.is d p) x i).kind ∙ e); is = h.is }

    pub function-not : (x.kind ≡ 0x20 → ⊥) → NoFunction b at
    function-not n = record { other = λ d p. code_other d (λ q. n ((record_parts t d (h.is d p) x i).kind ∙ q)) }

-- The declarations that are noted: u is left of the two arrays, with c functions before it.

pub record Searching (b t : List ℕ) (u : Zip (Iter ℕ) (Iter ℕ)) (c : ℕ) : Type 0 where
  pub declarations : List Declaration
  pub prints : iter_rest (zip_first u) ≡ prints_of longest_text declarations
  pub places : AllAt (RecordAt b) (iter_rest (zip_second u)) declarations
  pub few : c + length declarations ≤ 512
  pub rest : find_output b t ≡ search_in t c declarations

no-more : {P : ℕ → Declaration → Type 0} (ats : List ℕ) (d : Declaration) (ds : List Declaration) → AllAt P ats (d ∷ ds) → ats ≡ [] → ⊥
no-more [] d ds f e = elim f [ ]
no-more (at ∷ ats) d ds (one_place p all) e = omega (arith, ap length e)

-- the next declaration
record Next (b t : List ℕ) (x at : ℕ) (u : Zip (Iter ℕ) (Iter ℕ)) (c : ℕ) : Type 0 where
  declaration : Declaration
  there : RecordAt b at declaration
  print : x ≡ print_in longest_text declaration
  more : List Declaration
  prints : iter_rest (zip_first u) ≡ prints_of longest_text more
  places : AllAt (RecordAt b) (iter_rest (zip_second u)) more
  few : c + 1 + length more ≤ 512
  rest : find_output b t ≡ search_in t c (declaration ∷ more)

next_in : (b t : List ℕ) (x at : ℕ) (u : Zip (Iter ℕ) (Iter ℕ)) (c : ℕ) (ds : List Declaration) (xs ats : List ℕ) → xs ≡ x ∷ iter_rest (zip_first u) → ats ≡ at ∷ iter_rest (zip_second u) → xs ≡ prints_of longest_text ds → AllAt (RecordAt b) ats ds
    → c + length ds ≤ 512 → find_output b t ≡ search_in t c ds → Next b t x at u c
unfolding prints_of
next_in b t x at u c [] xs ats e f g no_place l h = absurd (omega (arith, ap length f))
next_in b t x at u c (d ∷ ds) xs ats e f g (one_place {at = at₁} {ats = ats₁} i all) l h =
    let p : x ∷ iter_rest (zip_first u) ≡ print_in longest_text d ∷ prints_of longest_text ds = sym e ∙ g in
    let y : at₁ ≡ at = cc in
    let z : ats₁ ≡ iter_rest (zip_second u) = cc in
    record { declaration = d; there = rw (← y) i; print = cc; more = ds; prints = cc; places = rw (← z) all; few = omega (arith, l); rest = h }

pub search_start : (b t : List ℕ) (v : Notes) (s : Zip (Iter ℕ) (Iter ℕ)) → SheetNoted b v → iter_rest (zip_first s) ≡ v.prints.items → iter_rest (zip_second s) ≡ v.places.items → length v.prints.items ≤ 512 → Searching b t s 0
unfolding find_output
search_start b t v s h x y l = record {
  declarations = h.declarations;
  prints = x ∙ h.noted.same;
  places = rw y h.noted.there;
  few = omega (arith, prints-length h.noted);
  rest = ap (λ o. search_by o t) h.sheet;
}

module _ (b t : List ℕ) (s u : Zip (Iter ℕ) (Iter ℕ)) (r : Option (Bor ℕ × Bor ℕ)) (step : zips fronts fronts s r u) (c : ℕ) (f : Searching b t s c) where
  module _ (p : Bor ℕ × Bor ℕ) (e : r ≡ Some p) where
    next : Next b t p.0.now p.1.now u c
    next = let (x, y) = Zip-more s u r p e step in next_in b t p.0.now p.1.now u c f.declarations _ _ x y f.prints f.places f.few f.rest

    pub search_at : OneAt b p.1.now
    search_at = record { declaration = next.declaration; one = next.there }

    -- one that is a function, with that text or another, and another declaration
    by_it : (g q : Bool) → is_function next.declaration ≡ g → same_text (canonical_text next.declaration) (Some t) ≡ q
        → find_output b t ≡ elim (g && q) [ true ↦ found_at (elim g [ true ↦ suc c | false ↦ c ]) (elim g [ true ↦ suc c | false ↦ c ]) | false ↦ search_in t (elim g [ true ↦ suc c | false ↦ c ]) next.more ]
    unfolding search_in is_sought
    by_it g q x y =
        let n : counted c next.declaration ≡ elim g [ true ↦ suc c | false ↦ c ] = ap (λ z. elim z as (λ _. ℕ) [ true ↦ suc c | false ↦ c ]) x in
        next.rest ∙ ap₂ (λ z m. elim z as (λ _. Search) [ true ↦ found_at m m | false ↦ search_in t m next.more ]) (ap₂ ◌&&◌ x y) n

    pub search_pass : NoFunction b p.1.now → Searching b t u c
    search_pass n = record { declarations = next.more; prints = next.prints; places = next.places; few = omega (arith, next.few); rest = by_it false _ (n.other next.declaration next.there) refl }

    module _ (q : List ℕ) (g : IsFunction b p.1.now q) where
      pub search_record : OneRecord q
      search_record = record { declaration = next.declaration; one = g.is next.declaration next.there }

      module _ (h : ℕ) (w : Bool) (k : h ≡ print 0 t) (told : SoughtIs q p.0.now h t w) where
        its-text : same_text (canonical_text next.declaration) (Some t) ≡ w
        unfolding search_record
        its-text = sym (told.same search_record next.print k)

        pub search_hit : w ≡ true → found_at (c + 1) (c + 1) ≡ find_output b t
        search_hit o = rw add-one (sym (by_it true true (g.function next.declaration next.there) (its-text ∙ o)))

        pub search_miss : w ≡ false → Searching b t u (c + 1)
        search_miss o = record {
          declarations = next.more;
          prints = next.prints;
          places = next.places;
          few = next.few;
          rest = by_it true false (g.function next.declaration next.there) (its-text ∙ o) ∙ rw add-one refl;
        }

  pub search_end : r ≡ None → not_found NoSuchFunction c ≡ find_output b t
  unfolding search_in prints_of
  search_end e = sym (f.rest ∙ ap (search_in t c) (go f.declarations (either_empty_from_Zip s u r e step) f.prints f.places))
    where
      go : (ds : List Declaration) → (iter_rest (zip_first s) ≡ []) ⊎ (iter_rest (zip_second s) ≡ []) → iter_rest (zip_first s) ≡ prints_of longest_text ds → AllAt (RecordAt b) (iter_rest (zip_second s)) ds → ds ≡ []
      go [] o x y = refl
      go (d ∷ ds) (inl z) x y = absurd (let q : [] ≡ prints_of longest_text (d ∷ ds) = sym z ∙ x in omega (arith, ap length q))
      go (d ∷ ds) (inr z) x y = absurd (no-more _ d ds y z)

pub find_none : (b t : List ℕ) → decode_sheet b ≡ None → not_found NotWellFormed 0 ≡ find_output b t
unfolding find_output
find_none b t e = ap (λ o. search_by o t) (sym e)
