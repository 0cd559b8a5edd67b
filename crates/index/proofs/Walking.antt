-- The walk over a sheet's declarations: what makes no sheet, notes of one more, and what is left.
-- Assumes nothing.
use mathlib.Core.Path.{◌≡◌, refl, sym, ◌∙◌, ap}
use mathlib.Core.Bool.{Bool, true, false, false≢true}
use mathlib.Core.List.{List, [], ◌∷◌, ◌++◌, append-nil, append_assoc}
use Rattle.std.specs.Prelude.{Option, None, Some}
use Prim.Native.Nat.{ℕ, zero, suc, ◌-◌, ◌≤◌, ◌<◌}
use native.Mathlib.Omega.{arith}
use lib.Dec.{leb}
use lib.ListN.{length, get_or, length-append}
use borrow.Author.Tests.{le-leb, lt-leb}
use Rattle.kinds.proofs.Logic.{both, right}
use Rattle.model.specs.Layout.{Bytes}
use Rattle.model.specs.Tree.{Declaration}
use Rattle.model.specs.Record.{on_option, each_in}
use Rattle.model.specs.Sheet.{most_declarations, has, first_repeat, is_sheet, decode_all, decode_sheet}
use Rattle.model.proofs.Sheets.{sheet-exactly}
use Rattle.model.proofs.Distinct.{first-distinct, distinct_append, distinct_more, absent-is}
use Rattle.repeat.specs.declared.Notes.{Notes}
use Rattle.repeat.specs.Noted.{Behind, Looked}
use Rattle.repeat.specs.Prints.{OneRecord}
use Rattle.repeat.proofs.Noting.{has-looked, noted_more, nothing-noted, noted-at, places-length, prints-length, behind-long, behind-at, behind_then}
use Rattle.index.specs.declared.Part.{Part}
use Rattle.repeat.proofs.Whole.{record-long}
use Rattle.index.specs.Indexes.{sheet_of, sheet_behind, parts_in, AreRecords, PartSaid, PartIs, longest_text, WholePrint, RecordAt, AskedAt, RepeatsAt, NotedRecords, AskedNote, NoteIs, SheetNoted}

-- What makes no sheet.

too_many : (ds : List Declaration) (d : Declaration) (es : List Declaration) → most_declarations ≤ length ds → is_sheet (ds ++ (d ∷ es)) ≡ false
unfolding is_sheet
too_many ds d es h = rw (lt-leb (length (ds ++ (d ∷ es))) most_declarations (omega (arith, length-append ds (d ∷ es)))) refl

repeated : (ds : List Declaration) (d : Declaration) (es : List Declaration) → has ds d ≡ true → is_sheet (ds ++ (d ∷ es)) ≡ false
unfolding is_sheet
repeated ds d es h = go (is_sheet (ds ++ (d ∷ es))) refl
  where
    go : (b : Bool) → is_sheet (ds ++ (d ∷ es)) ≡ b → b ≡ false
    go true q =
        let distinct : first_repeat [] (ds ++ (d ∷ es)) ≡ None = absent-is _ (right (leb (length (ds ++ (d ∷ es))) most_declarations) q) in
        absurd (false≢true (sym ((first-distinct ds d es).0 ((distinct_append [] ds (d ∷ es)).0 distinct).1).0 ∙ h))
    go false q = refl

-- Notes of one more.

module _ (b : List ℕ) (at : ℕ) (t : List ℕ) (v : Notes) where
  pub note_full : length v.places.items ≡ 512 → NoteIs b at t v v None
  note_full h p es = too_many p.declarations p.declaration es (omega (arith, places-length p.noted))

  pub note_asks : (i : AskedNote b at t v) → OneRecord t
  note_asks i = record { declaration = i.declaration; one = i.one }

  pub note_asked : AskedNote b at t v → (k e : ℕ) → k < length v.places.items → AskedAt b (get_or v.places.items k e) t
  note_asked p k e l = let (d, i) = noted-at p.noted.there k e l in record { declaration = d; one = i; declaration₁ = p.declaration; other = p.one }

  pub note_room : (length v.places.items ≡ 512 → ⊥) → AskedNote b at t v → (length v.prints.items < 512) × (length v.places.items < 512)
  note_room h p = let n = places-length p.noted in let m = prints-length p.noted in omega (arith, p.few)

  module _ (x : ℕ) (whole : WholePrint t x) (Q : ℕ → Bool → Type 0) (each : (place : ℕ) (r : Bool) → Q place r → RepeatsAt b place t r) (r : Bool) (looked : Looked Q x v.prints.items v.places.items r) where
    note-has : (p : AskedNote b at t v) → r ≡ has p.declarations p.declaration
    unfolding note_asks
    note-has p = has-looked longest_text x p.declaration (whole.same (note_asks p))
        (λ place d i c q. (each place c q).same (record { declaration = d; one = i; declaration₁ = p.declaration; other = p.one }))
        p.noted.there r (rw p.noted.same at looked)

    pub note_repeated : r ≡ true → NoteIs b at t v v None
    note_repeated e p es = repeated p.declarations p.declaration es (sym (note-has p) ∙ e)

    pub note_more : r ≡ false → (length v.places.items ≡ 512 → ⊥) → (w : Notes) → w.prints.items ≡ v.prints.items ++ (x ∷ []) → w.places.items ≡ v.places.items ++ (at ∷ []) → NoteIs b at t v w (Some tt)
    unfolding note_asks
    note_more e h w y z p = record {
      noted = noted_more (RecordAt b) longest_text v w p.declarations x at p.declaration p.noted y z (whole.same (note_asks p)) p.here;
      new = sym (note-has p) ∙ e;
      few = let n = places-length p.noted in omega (arith, p.few);
    }

pub ruleset noting = (note_asks)

-- The walk: some declarations are noted, the others are left.

pub record Walking (b left : List ℕ) (v : Notes) : Type 0 where
  pub declarations : List Declaration
  pub noted : NotedRecords b v declarations
  pub distinct : first_repeat [] declarations ≡ None
  pub few : length declarations ≤ most_declarations
  pub there : Behind b left
  pub most : ℕ
  pub enough : length left ≤ most
  pub rest : decode_sheet b ≡ sheet_behind declarations (parts_in most left)

pub walk_start : (b r : List ℕ) (v : Notes) → AreRecords b r → v.prints.items ≡ [] → v.places.items ≡ [] → Walking b r v
unfolding decode_all first_repeat
walk_start b r v h x y = record {
  declarations = [];
  noted = nothing-noted (RecordAt b) longest_text v x y;
  distinct = refl;
  few = omega arith;
  there = h.there;
  most = length r;
  enough = omega arith;
  rest = h.same;
}

behind_more : (ds : List Declaration) (d : Declaration) (o : Option (List Declaration)) → sheet_behind ds (on_option (λ es. d ∷ es) o) ≡ sheet_behind (ds ++ (d ∷ [])) o
behind_more ds d None = refl
behind_more ds d (Some es) = ap sheet_of (sym (append_assoc ds (d ∷ []) es))

not-sheet : (ds : List Declaration) (d : Declaration) (o : Option (List Declaration)) → ((es : List Declaration) → is_sheet (ds ++ (d ∷ es)) ≡ false) → sheet_behind ds (on_option (λ es. d ∷ es) o) ≡ None
not-sheet ds d None f = refl
not-sheet ds d (Some es) f = rw (f es) refl

module _ (b left : List ℕ) (v : Notes) (f : Walking b left v) where
  pub walk_long : length left ≤ length b
  walk_long = behind-long b left f.there

  module _ (h : 0 < length left) where
    -- the next one
    next : {A : Type 0} → ((k : ℕ) → f.most ≡ suc k → A) → A
    next {A} g = go f.most refl f.enough
      where
        go : (m : ℕ) → f.most ≡ m → length left ≤ m → A
        go zero e l = absurd (omega arith)
        go (suc k) e l = g k e

    pub walk_none : PartIs left None → decode_sheet b ≡ None
    walk_none n = next (λ k e. f.rest ∙ ap (sheet_behind f.declarations) (ap (λ m. parts_in m left) e ∙ n k h))

    module _ (p : Part) (s : PartSaid left p) (at : ℕ) (e : at ≡ length b - length left) where
      pub walk_asks : AskedNote b at p.record.now v
      walk_asks = record {
        declarations = f.declarations;
        noted = f.noted;
        few = f.few;
        declaration = s.declaration;
        one = s.one;
        here = record { rest = p.rest.now; there = behind-at b left f.there at e ∙ s.there ∙ ap (λ u. u ++ p.rest.now) s.one.bytes; well = s.one.well };
      }

      step : (k : ℕ) → f.most ≡ suc k → decode_sheet b ≡ sheet_behind f.declarations (on_option (λ es. s.declaration ∷ es) (parts_in k p.rest.now))
      step k e = f.rest ∙ ap (sheet_behind f.declarations) (ap (λ m. parts_in m left) e ∙ s.next k)

      module _ (w : Notes) where
        pub walk_stop : NoteIs b at p.record.now v w None → decode_sheet b ≡ None
        unfolding walk_asks
        walk_stop n = next (λ k e. step k e ∙ not-sheet f.declarations s.declaration (parts_in k p.rest.now) (n walk_asks))

        pub walk_more : (u : Unit {0}) → NoteIs b at p.record.now v w (Some u) → Walking b p.rest.now w × (length p.rest.now < length left)
        unfolding walk_asks
        walk_more u n = next (λ k e.
            let m = n walk_asks in
            let l : length p.rest.now < length left = omega (arith, ap length s.there, length-append p.record.now p.rest.now, record-long s.declaration p.record.now s.one) in (
              record {
                declarations = f.declarations ++ (s.declaration ∷ []);
                noted = m.noted;
                distinct = distinct_more f.declarations s.declaration f.distinct m.new;
                few = omega (arith, m.few, length-append f.declarations (s.declaration ∷ []));
                there = behind_then b left f.there p.record.now p.rest.now s.there;
                most = k;
                enough = omega (arith, f.enough);
                rest = step k e ∙ behind_more f.declarations s.declaration (parts_in k p.rest.now);
              },
              l,
            ))

  pub walk_end : ((i : ℕ) → get_or b i 0 < 256) → length left ≡ 0 → SheetNoted b v
  unfolding is_sheet each_in Bytes
  walk_end bytes l =
      let good : is_sheet f.declarations ≡ true = both (le-leb (length f.declarations) most_declarations f.few) (rw f.distinct refl) in
      let last : parts_in f.most left ≡ Some [] = nothing_left f.most left l in
      let sheet : decode_sheet b ≡ Some f.declarations = f.rest ∙ ap (sheet_behind f.declarations) last ∙ ap sheet_of (append-nil f.declarations) ∙ rw good refl in
      record { declarations = f.declarations; sheet = sheet; is = ((sheet-exactly b f.declarations bytes).0 sheet).1; noted = f.noted }
    where
      nothing_left : (k : ℕ) (t : List ℕ) → length t ≡ 0 → parts_in k t ≡ Some []
      nothing_left zero [] h = refl
      nothing_left (suc k) [] h = refl
      nothing_left k (c ∷ t) h = absurd (omega arith)
