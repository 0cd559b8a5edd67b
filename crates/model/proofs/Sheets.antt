-- Sheets: the decoder gives declarations exactly where the sheet is well formed and the bytes are its encoding; what is read is such a sheet, small,
-- and equal to its lines read singly.
-- Assumes nothing.
use mathlib.Core.Path.{◌≡◌, refl, sym, ◌∙◌, ap}
use mathlib.Core.Logic.{◌↔◌}
use mathlib.Core.Bool.{Bool, true, false, false≢true, and-eq-true_iff}
use mathlib.Core.List.{List, [], ◌∷◌}
use Rattle.std.specs.Prelude.{Option, None, Some}
use Rattle.std.proofs.lemmas.Option.{none-some, same_Some}
use Prim.Native.Nat.{ℕ, suc, ◌+◌, ◌*◌, ◌^◌, ◌≤◌, ◌<◌}
use native.Mathlib.Omega.{arith}
use lib.Dec.{leb, ltb, eqb, lit<}
use lib.ListN.{length, length-append}
use borrow.Author.Tests.{leb-true, le-leb, eqb-true, ltb-false}
use Rattle.kinds.specs.Bytes.{all, same}
use Rattle.kinds.proofs.Logic.{both, left, right, same_equal}
use Rattle.model.specs.Tree.{Declaration}
use Rattle.model.specs.declared.Refusal.{Refusal}
use Rattle.model.specs.declared.Refusal.TheVariants.{TooManyDeclarations}
use Rattle.model.specs.declared.Call.TheVariants as call
use Rattle.model.specs.Parser.{Ans, got, bad, deep}
use Rattle.model.specs.Reading.{keyword_text, parse}
use Rattle.model.specs.Line.{keyword_in, canonical_text}
use Rattle.model.specs.Answer.{writes}
use Rattle.model.specs.Calls.{written, read_output}
use Rattle.model.specs.Layout.{record_of, Bytes}
use Rattle.model.specs.Record.{encode, is_absent, is_declaration, longest_record, well_formed}
use Rattle.model.specs.Sheet.{line_feed, longest_sheet, most_declarations, ahead, lines_of, is_blank_line, Placed, Lines, says, fails, on_line, read_lines, declarations, line_at, same_text, repeats, first_repeat, encode_all, encode_sheet, is_sheet, well_formed_sheet, declaration_in, decode_all, sheet_from, decode_sheet, refuses_on, writes_sheet, or_repeat, sheet_by, sheet_output, Singly, no_line_lem, blank-line, one_line}
use Rattle.model.proofs.Bounds.{record_size}
use Rattle.model.proofs.Lengths.{refuses-not}
use Rattle.model.proofs.Sound.{read-well-formed, record_small}
use Rattle.model.proofs.Decoding.{Sound, Written, Reads, Spells, when-some, given-some, Lists, each_spells, alone-to, alone-from}
use Rattle.model.proofs.Records.{declaration-reads}

-- a declaration within a sheet
declaration_in_reads : Reads 4 declaration_in well_formed (encode 4)
unfolding well_formed
declaration_in_reads = record { from = from; to = to }
  where
    from : (k : ℕ) → Sound 4 well_formed (encode 4) k (declaration_in k)
    from k body d h e =
        when-some (leb (6 + length body) longest_record) _ e (λ l q.
        let (g, u) = (declaration-reads 4).from k body d h q in
        (both g (rw (u, record_size k body) l), u))

    to : (d : Declaration) → well_formed d ≡ true → length (encode 4 d) < 256 ^ 4 → Written 4 declaration_in (encode 4 d) d
    to d g f =
        let (g₁, g₂) = (and-eq-true_iff (is_declaration d) _).0 g in
        let (k, body, small, u, e) = (declaration-reads 4).to d g₁ f in
        (k, body, small, u, rw (rw (u, record_size k body) at g₂) e)

sheet_lists : Lists [] ◌∷◌ well_formed (encode 4) (all well_formed) encode_all
unfolding encode_all
sheet_lists = record { induction = go; good_nil = refl; good_cons = λ d ds. refl; enc_nil = refl; enc_cons = λ d ds. refl }
  where
    go : (P : List Declaration → Type 0) → P [] → ((d : Declaration) (ds : List Declaration) → P ds → P (d ∷ ds)) → (ds : List Declaration) → P ds
    go P n c [] = n
    go P n c (d ∷ ds) = c d ds (go P n c ds)

all_spells : Spells 4 decode_all (all well_formed) encode_all
unfolding decode_all
all_spells = each_spells 4 [] ◌∷◌ declaration_in well_formed (encode 4) (all well_formed) encode_all sheet_lists declaration_in_reads

-- how long a sheet can be
all_small : (ds : List Declaration) → all well_formed ds ≡ true → length (encode_all ds) ≤ longest_record * length ds
unfolding encode_all well_formed
all_small [] h = omega arith
all_small (d ∷ ds) h =
    let (g, r) = (and-eq-true_iff (well_formed d) _).0 h in
    rw length-append (omega (arith, all_small ds r, leb-true (length (encode 4 d)) longest_record (right (is_declaration d) g)))

sheet-reads : Reads 4 sheet_from well_formed_sheet encode_sheet
unfolding well_formed_sheet encode_sheet is_sheet
sheet-reads = record { from = from; to = to }
  where
    from : (k : ℕ) → Sound 4 well_formed_sheet encode_sheet k (sheet_from k)
    from k body ds h e =
        when-some (eqb k 0x30) _ e (λ p e₁.
        given-some (decode_all body) _ e₁ (λ es q e₂.
        when-some (is_sheet es) _ e₂ (λ g e₃.
        let (a, u) = all_spells.from body es h q in
        rw (← (same_Some _ _ e₃)) (both a g, rw (eqb-true k 0x30 p, ← u)))))

    to : (ds : List Declaration) → well_formed_sheet ds ≡ true → length (encode_sheet ds) < 256 ^ 4 → Written 4 sheet_from (encode_sheet ds) ds
    to ds g f =
        let (a, s) = (and-eq-true_iff (all well_formed ds) _).0 g in
        (0x30, encode_all ds, lit< tt, refl, rw (all_spells.to ds a (omega (arith, rw record_size at f)), s))

sheet-fits : (ds : List Declaration) → well_formed_sheet ds ≡ true → length (encode_sheet ds) < 256 ^ 4
unfolding well_formed_sheet encode_sheet is_sheet
sheet-fits ds g =
    let (a, s) = (and-eq-true_iff (all well_formed ds) _).0 g in
    rw record_size (omega (arith, all_small ds a, leb-true (length ds) most_declarations (left (is_absent (first_repeat [] ds)) s)))

pub sheet-back : (ds : List Declaration) → well_formed_sheet ds ≡ true → decode_sheet (encode_sheet ds) ≡ Some ds
unfolding decode_sheet
sheet-back ds g = alone-to 4 sheet_from well_formed_sheet encode_sheet sheet-reads ds g (sheet-fits ds g)

-- T6 for sheets: a sheet record decodes exactly where it is well formed
pub sheet-exactly : (b : List ℕ) (ds : List Declaration) → Bytes b → (decode_sheet b ≡ Some ds) ↔ ((well_formed_sheet ds ≡ true) × (b ≡ encode_sheet ds))
unfolding decode_sheet
sheet-exactly b ds h = (alone-from 4 sheet_from well_formed_sheet encode_sheet sheet-reads b ds h, λ p. rw p.1 (sheet-back ds p.0))

-- repeats are told exactly: "same keyword and same canonical text (or a second constructor)"
pub text_same : (o p : Option (List ℕ)) → (same_text o p ≡ true) ↔ (o ≡ p)
text_same None None = (λ h. refl, λ q. refl)
text_same None (Some u) = (λ h. absurd (false≢true h), λ q. absurd (none-some u q))
text_same (Some t) None = (λ h. absurd (false≢true h), λ q. absurd (none-some t (sym q)))
text_same (Some t) (Some u) = (λ h. ap Some ((same_equal t u).0 h), λ q. (same_equal t u).1 (same_Some t u q))

pub repeats-same : (d e : Declaration) → (repeats d e ≡ true) ↔ ((keyword_text (keyword_in d) ≡ keyword_text (keyword_in e)) × (canonical_text d ≡ canonical_text e))
unfolding repeats
repeats-same d e = (
  λ h. ((same_equal _ _).0 (left (same_text (canonical_text d) (canonical_text e)) h), (text_same _ _).0 (right (same (keyword_text (keyword_in d)) (keyword_text (keyword_in e))) h)),
  λ p. both ((same_equal _ _).1 p.0) ((text_same _ _).1 p.1),
)

-- "a sheet's record has at most 10 × L + 6"
total : List (List ℕ) → ℕ
total [] = 0
total (l ∷ ls) = length l + total ls

lines-total : (s : List ℕ) → total (lines_of s) ≤ length s
unfolding total lines_of
lines-total [] = omega arith
lines-total (c ∷ t) = go (eqb c line_feed) (lines_of t) (lines-total t)
  where
    go : (b : Bool) (ls : List (List ℕ)) → total ls ≤ length t → total (elim b [ true ↦ [] ∷ ls | false ↦ ahead c ls ]) ≤ suc (length t)
    go true ls h = omega arith
    go false [] h = omega arith
    go false (l ∷ ls) h = omega arith

lines-not_failing : {w : Refusal} {n p : ℕ} {ps : List Placed} → fails w n p ≡ says ps → ⊥
lines-not_failing e = let z : ◌≡◌ {A = ℕ} 0 1 = cc in omega arith

-- what lines say, one by one
module _ {Q : Type 0} (n : ℕ) (l : List ℕ) (ls : List (List ℕ)) (ps : List Placed) where
  pub line-by-line : read_lines n (l ∷ ls) ≡ says ps
      → (is_blank_line l ≡ true → read_lines (suc n) ls ≡ says ps → Q)
      → ((d : Declaration) (p : ℕ) (qs : List Placed) → is_blank_line l ≡ false → parse call.General l ≡ got d p → read_lines (suc n) ls ≡ says qs → record { line = n; declaration = d } ∷ qs ≡ ps → Q)
      → Q
  unfolding read_lines
  line-by-line e blank read = go (is_blank_line l) refl e
    where
      more : (d : Declaration) (p : ℕ) → is_blank_line l ≡ false → parse call.General l ≡ got d p → (r : Lines) → read_lines (suc n) ls ≡ r → on_line n (got d p) r ≡ says ps → Q
      more d p b q (says qs) f g = read d p qs b q f cc
      more d p b q (fails w m x) f g = absurd (lines-not_failing g)

      some-line : is_blank_line l ≡ false → (a : Ans Declaration) → parse call.General l ≡ a → on_line n a (read_lines (suc n) ls) ≡ says ps → Q
      some-line b (got d p) q f = more d p b q (read_lines (suc n) ls) refl f
      some-line b (bad w p) q f = absurd (lines-not_failing f)
      some-line b (deep p) q f = absurd (lines-not_failing f)

      go : (b : Bool) → is_blank_line l ≡ b → elim b as (λ _. Lines) [ true ↦ read_lines (suc n) ls | false ↦ on_line n (parse call.General l) (read_lines (suc n) ls) ] ≡ says ps → Q
      go true b f = blank b f
      go false b f = some-line b (parse call.General l) refl f

lines-small : (n : ℕ) (ls : List (List ℕ)) (ps : List Placed) → read_lines n ls ≡ says ps → length (encode_all (declarations ps)) ≤ 10 * total ls
unfolding read_lines encode_all total
lines-small n [] ps e = let z : [] ≡ ps = cc in rw (← z) (omega arith)
lines-small n (l ∷ ls) ps e =
    line-by-line n l ls ps e
    (λ b f. omega (arith, lines-small (suc n) ls ps f))
    (λ d p qs b q f z. rw (← z) (rw length-append (omega (arith, record_small call.General l d p q, lines-small (suc n) ls qs f))))

lines-well-formed : (n : ℕ) (ls : List (List ℕ)) (ps : List Placed) → read_lines n ls ≡ says ps → all well_formed (declarations ps) ≡ true
unfolding read_lines
lines-well-formed n [] ps e = let z : [] ≡ ps = cc in rw (← z)
lines-well-formed n (l ∷ ls) ps e =
    line-by-line n l ls ps e
    (λ b f. lines-well-formed (suc n) ls ps f)
    (λ d p qs b q f z. rw (← z) (both (read-well-formed call.General l d p q) (lines-well-formed (suc n) ls qs f)))

-- "An accepted sheet equals its lines read singly."
lines_singly : (n : ℕ) (ls : List (List ℕ)) (ps : List Placed) → read_lines n ls ≡ says ps → Singly ls (encode_all (declarations ps))
unfolding read_lines encode_all read_output written
lines_singly n [] ps e = let z : [] ≡ ps = cc in rw (← z) no_line_lem
lines_singly n (l ∷ ls) ps e =
    line-by-line n l ls ps e
    (λ b f. blank-line b (lines_singly (suc n) ls ps f))
    (λ d p qs b q f z. rw (← z) (one_line {r = encode 4 d} b (rw q refl) (lines_singly (suc n) ls qs f)))

-- what is known of a sheet that is written
record Sheeted (s u : List ℕ) : Type 0 where
  placed : List Placed
  reads : read_lines 1 (lines_of s) ≡ says placed
  well : is_sheet (declarations placed) ≡ true
  is : sheet_output s ≡ writes_sheet (declarations placed)
  same : u ≡ encode_sheet (declarations placed)

sheeted : (s u : List ℕ) → (sheet_output s).output ≡ writes u → Sheeted s u
unfolding sheet_output sheet_by is_sheet
sheeted s u e = go (ltb longest_sheet (length s)) refl e
  where
    count-is : (ps : List Placed) → length (declarations ps) ≡ length ps
    count-is [] = refl
    count-is (p ∷ ps) = ap suc (count-is ps)

    last : (ps : List Placed) → read_lines 1 (lines_of s) ≡ says ps → ltb most_declarations (length ps) ≡ false → (o : Option ℕ) → first_repeat [] (declarations ps) ≡ o → sheet_output s ≡ or_repeat o ps → (or_repeat o ps).output ≡ writes u → Sheeted s u
    last ps f c (Some i) q z g = absurd (refuses-not g)
    last ps f c None q z g = record {
      placed = ps;
      reads = f;
      well = both (le-leb (length (declarations ps)) most_declarations (omega (arith, count-is ps, ltb-false most_declarations (length ps) c))) (rw q refl);
      is = z;
      same = cc;
    }

    counted : (ps : List Placed) → read_lines 1 (lines_of s) ≡ says ps → (b : Bool) → ltb most_declarations (length ps) ≡ b
        → sheet_output s ≡ elim b [ true ↦ refuses_on TooManyDeclarations (line_at most_declarations ps) 0 | false ↦ or_repeat (first_repeat [] (declarations ps)) ps ]
        → (sheet_output s).output ≡ writes u → Sheeted s u
    counted ps f true c z g = absurd (refuses-not (sym (ap (λ o. o.output) z) ∙ g))
    counted ps f false c z g = last ps f c (first_repeat [] (declarations ps)) refl z (sym (ap (λ o. o.output) z) ∙ g)

    by : (r : Lines) → read_lines 1 (lines_of s) ≡ r → sheet_output s ≡ sheet_by r → Sheeted s u
    by (fails w n p) f z = absurd (refuses-not (sym (ap (λ o. o.output) z) ∙ e))
    by (says ps) f z = counted ps f (ltb most_declarations (length ps)) refl z e

    go : (b : Bool) → ltb longest_sheet (length s) ≡ b → (sheet_output s).output ≡ writes u → Sheeted s u
    go true c f = absurd (refuses-not (rw (sheet_output, c) at f))
    go false c f = by (read_lines 1 (lines_of s)) refl (rw (sheet_output, c) refl)

module _ (s u : List ℕ) (e : (sheet_output s).output ≡ writes u) where
  pub sheet-small : length u ≤ 10 * length s + 6
  unfolding encode_sheet
  sheet-small = let p = sheeted s u e in rw p.same (rw record_size (omega (arith, lines-small 1 (lines_of s) p.placed p.reads, lines-total s)))

  pub sheet-well-formed : (ds : List Declaration) × (decode_sheet u ≡ Some ds)
  unfolding well_formed_sheet
  sheet-well-formed = let p = sheeted s u e in
      (declarations p.placed, ap decode_sheet p.same ∙ sheet-back (declarations p.placed) (both (lines-well-formed 1 (lines_of s) p.placed p.reads) p.well))

  pub sheet_singly : (body : List ℕ) × (u ≡ record_of 4 0x30 body) × Singly (lines_of s) body
  unfolding encode_sheet
  sheet_singly = let p = sheeted s u e in
      (encode_all (declarations p.placed), p.same, lines_singly 1 (lines_of s) p.placed p.reads)

  -- the line is a refusal's only
  pub sheet-lined : (sheet_output s).line ≡ 0
  sheet-lined = ap (λ o. o.line) (sheeted s u e).is
