-- One line more, and all lines.
-- Assumes nothing.
use mathlib.Core.Path.{◌≡◌, refl, sym, ◌∙◌, ap}
use mathlib.Core.Bool.{true, false}
use mathlib.Core.List.{List, [], ◌∷◌, ◌++◌, append_assoc, append-nil}
use Rattle.std.specs.Prelude.{None, Ok, Err}
use Prim.Native.Nat.{ℕ, suc, ◌+◌, ◌*◌, ◌-◌, ◌≤◌, ◌<◌}
use native.Mathlib.Omega.{arith}
use native.Mathlib.Numerals.{add-one}
use lib.ListN.{length, take, drop}
use Rattle.model.specs.declared.Refused.{Refused}
use Rattle.model.specs.declared.Call.TheVariants as call
use Rattle.model.specs.Reading.{parse}
use Rattle.model.specs.Answer.{said, outcome, after, Answer}
use Rattle.model.specs.Calls.{read_output}
use Rattle.model.specs.Sheet.{lines_of, is_blank_line, Placed, Lines, says, fails, onto, on_line, read_lines, first_repeat, encode_all}
use Rattle.model.proofs.Sound.{record_small}
use Rattle.repeat.specs.Noted.{Behind}
use Rattle.repeat.proofs.Noting.{nothing-noted, behind-at, behind-rest}
use Rattle.sheet.specs.declared.Line.{Line}
use Rattle.sheet.specs.declared.Seen.{Seen}
use Rattle.sheet.specs.declared.RefusedLine.{RefusedLine}
use Rattle.sheet.specs.Lines.{line_length, LineIs, ReadsAt, printed, SeenIs, AskedCount, CountIs, AskedLine, LineTaken, LinesRead, LinesFail}
use Rattle.sheet.proofs.Feeds.{lines_none}
use Rattle.sheet.proofs.Reading.{read_record, line-got, line-bad}
use Rattle.sheet.proofs.Counting.{summed-more}

onto-onto : (ps : List Placed) (x : Placed) (r : Lines) → onto ps (onto (x ∷ []) r) ≡ onto (ps ++ (x ∷ [])) r
onto-onto ps x (says qs) = ap says (sym (append_assoc ps (x ∷ []) qs))
onto-onto ps x (fails w n p) = refl

onto-none : (r : Lines) → onto [] r ≡ r
onto-none (says qs) = refl
onto-none (fails w n p) = refl

module _ (s : List ℕ) (at : ℕ) (l : List ℕ) (line : ℕ) (t b : List ℕ) (v : Seen) where
  -- a blank line
  pub take-blank : is_blank_line l ≡ true → LineTaken s at l line t b v v (Ok tt)
  unfolding read_lines
  take-blank z q = record {
    placed = q.placed;
    seen = q.seen;
    small = omega arith;
    next = λ ls. ap (λ c. onto q.placed (elim c as (λ _. Lines) [ true ↦ read_lines (suc line) ls | false ↦ on_line line (parse call.General l) (read_lines (suc line) ls) ])) z;
  }

  module _ (z : is_blank_line l ≡ false) (a : Answer) (says-it : said a ≡ outcome (length t) (read_output call.General l)) (t₁ : List ℕ) (leaves : t₁ ≡ after t (read_output call.General l)) where
    -- a refused line
    pub take-bad : (x : Refused) → a ≡ Err x → LineTaken s at l line t b v v (Err x)
    take-bad x e q = line-bad l t t₁ a says-it leaves line z x e (omega (arith, q.room))

    -- a line that is read
    module _ (n : ℕ) (e : a ≡ Ok n) where
      pub take-asks : AskedLine s at l line t b v → AskedCount s at line (take n t₁) b v
      take-asks q = let (d, m, f) = line-got l t t₁ a says-it leaves n e in record {
        placed = q.placed;
        seen = q.seen;
        declaration = d;
        reads = record { inside = q.inside; place = m; reads = ap (parse call.General) (sym q.there) ∙ f };
        one = read_record l t t₁ a says-it leaves n e d m f;
        scratch = q.scratch;
        small = q.small;
      }

      pub take-read : (w : Seen) → CountIs s at line (take n t₁) b v w → LineTaken s at l line t b v w (Ok tt)
      unfolding read_lines take-asks
      take-read w g q =
          let (d, m, f) = line-got l t t₁ a says-it leaves n e in
          let x : Placed = record { line = line; declaration = d } in
          let i : SeenIs s (q.placed ++ (x ∷ [])) w = g (take-asks q) in
          record {
            placed = q.placed ++ (x ∷ []);
            seen = i;
            small = omega (arith, i.summed, q.seen.summed, summed-more q.placed x, record_small call.General l d m f);
            next = λ ls.
                ap (λ j. onto q.placed (elim j as (λ _. Lines) [ true ↦ read_lines (suc line) ls | false ↦ on_line line (parse call.General l) (read_lines (suc line) ls) ])) z
                ∙ ap (λ j. onto q.placed (on_line line j (read_lines (suc line) ls))) f ∙ onto-onto q.placed x (read_lines (suc line) ls);
          }

-- The walk: some lines are placed, the others are left.

pub record Surveying (s left : List ℕ) (line : ℕ) (v : Seen) : Type 0 where
  pub placed : List Placed
  pub seen : SeenIs s placed v
  pub rest : read_lines 1 (lines_of s) ≡ onto placed (read_lines line (lines_of left))
  pub there : Behind s left
  pub lines : line + length left ≤ length s + 1
  pub small : v.total + 10 * length left ≤ 10 * length s

pub survey_start : (s : List ℕ) (v : Seen) → v.notes.prints.items ≡ [] → v.notes.places.items ≡ [] → v.total ≡ 0 → v.crowded ≡ None → v.repeated ≡ None → Surveying s s 1 v
unfolding first_repeat encode_all
survey_start s v x y e c r = record {
  placed = [];
  seen = record { noted = nothing-noted (ReadsAt s) printed v.notes x y; summed = e; crowded = c; repeated = λ _. r };
  rest = sym (onto-none (read_lines 1 (lines_of s)));
  there = record { before = []; same = refl };
  lines = omega arith;
  small = omega (arith, e);
}

module _ (s left : List ℕ) (line : ℕ) (v : Seen) (f : Surveying s left line v) (h : 0 < length left) (l : Line) (i : LineIs left l) where
  module _ (at : ℕ) (e : at ≡ length s - length left) (k : length s ≤ 65536) (t b : List ℕ) (x : length t ≡ 40960) (y : length b ≡ printed) where
    pub survey_asks : AskedLine s at l.bytes.now line t b v
    survey_asks =
        let z : drop at s ≡ left = behind-at s left f.there at e in
        record { placed = f.placed; seen = f.seen; inside = omega arith; there = i.is ∙ ap (λ u. take (line_length u) u) (sym z); room = x; scratch = y; small = omega (arith, f.small) }

    module _ (w : Seen) where
      pub survey_more : (u : Unit {0}) → LineTaken s at l.bytes.now line t b v w (Ok u) → Surveying s l.rest.now (line + 1) w
      unfolding survey_asks
      survey_more u g = let m = g survey_asks in record {
        placed = m.placed;
        seen = m.seen;
        rest = f.rest ∙ ap (λ ls. onto f.placed (read_lines line ls)) i.front ∙ m.next i.more ∙ ap (onto m.placed) (i.back (suc line)) ∙ ap (λ n. onto m.placed (read_lines n (lines_of l.rest.now))) (sym (add-one line));
        there = behind-rest s left f.there l.rest.now i.behind;
        lines = omega (arith, f.lines, i.less h);
        small = omega (arith, f.small, m.small, i.covers);
      }

      pub survey_bad : (o : RefusedLine) → o.line ≡ line → LineTaken s at l.bytes.now line t b v w (Err o.refused) → LinesFail s o
      unfolding survey_asks
      survey_bad o z g = let m = g survey_asks in record {
        refusal = m.refusal;
        same = m.same;
        reads = f.rest ∙ ap (λ ls. onto f.placed (read_lines line ls)) i.front ∙ ap (onto f.placed) (m.next i.more) ∙ ap (λ n. fails m.refusal n o.refused.position) (sym z);
      }

pub survey_end : (s left : List ℕ) (line : ℕ) (v : Seen) → Surveying s left line v → length left ≡ 0 → length s ≤ 65536 → LinesRead s v
survey_end s left line v f h k = record {
  placed = f.placed;
  reads = f.rest ∙ ap (onto f.placed) (lines_none line left h) ∙ ap says (append-nil f.placed);
  seen = f.seen;
  small = omega (arith, f.small);
}
