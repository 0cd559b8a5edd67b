-- Line feeds: the line that a text begins with, and the lines behind it.
-- Assumes nothing.
use mathlib.Core.Path.{◌≡◌, refl, sym, ◌∙◌, ap, ap₂}
use mathlib.Core.Bool.{Bool, true, false, ◌&&◌, ◌||◌, not, false≢true, cond}
use mathlib.Core.List.{List, [], ◌∷◌, ◌++◌}
use Rattle.std.specs.Prelude.{Option, None, Some, nat_eq, ◌==◌}
use Rattle.std.specs.List.{list_any, position_or_len}
use Rattle.std.specs.Option.{unwrap_or}
use Prim.Native.Nat.{ℕ, suc, ◌+◌, ◌-◌, ◌≤◌, ◌<◌, min}
use native.Mathlib.Omega.{arith}
use lib.Dec.{eqb, ltb}
use lib.ListN.{length, take, drop, length-drop, take-append-drop}
use lib.Seq.{length-take-le, take_all}
use borrow.Author.Tests.{ltb-false, ltb-true}
use Rattle.kinds.specs.Bytes.{all}
use Rattle.kinds.proofs.Logic.{both}
use Rattle.model.specs.Text.{span_from, span, one, blank, skip}
use Rattle.model.specs.Sheet.{line_feed, lines_of, is_blank_line, says, read_lines}
use Rattle.model.proofs.Scans.{part-rest, span-bytes, span_le}
use Rattle.repeat.specs.Noted.{Behind}
use Rattle.sheet.specs.declared.Line.{Line}
use Rattle.sheet.specs.Lines.{line_length, SameLine, LineIs}

-- bytes without a line feed are passed
none-feed : (w : List ℕ) → list_any (λ c. c == line_feed) w ≡ false → all (λ c. not (eqb c line_feed)) w ≡ true
none-feed [] h = refl
none-feed (c ∷ w) h = go (eqb c line_feed) refl h (none-feed w)
  where
    go : (b : Bool) → eqb c line_feed ≡ b → (b || list_any (λ c. c == line_feed) w) ≡ false → (list_any (λ c. c == line_feed) w ≡ false → all (λ c. not (eqb c line_feed)) w ≡ true) → (not (eqb c line_feed) && all (λ c. not (eqb c line_feed)) w) ≡ true
    go true q e f = absurd (false≢true (sym e))
    go false q e f = both (ap not q) (f e)

pub line-here : (s : List ℕ) → SameLine s s
line-here s = record { same = omega arith; less = omega arith }

module _ (s t : List ℕ) (f : SameLine s t) (h : 16 ≤ length t) (r : Bool) (q : r ≡ list_any (λ c. c == line_feed) (take 16 t)) (g : r ≡ false) where
  pub block_passed : SameLine s (take (length t - 16) (drop 16 t))
  unfolding line_length
  block_passed =
      let w : length (take 16 t) ≡ 16 = length-take-le 16 t h in
      let l = span-bytes (one (λ c. not (eqb c line_feed))) (λ c. not (eqb c line_feed)) (λ c u y. rw (one, y)) (take 16 t) (drop 16 t) (none-feed (take 16 t) (sym q ∙ g)) in
      rw part-rest (record { same = omega (arith, f.same, l, ap line_length (take-append-drop 16 t), w, length-drop 16 t); less = omega (arith, f.less, length-drop 16 t) })

pub ruleset passing = (line-here, block_passed)

-- std's search for the line feed
position-line : (t : List ℕ) → position_or_len (λ c. c == line_feed) t ≡ line_length t
unfolding line_length span_from
position-line [] = refl
position-line (c ∷ t) = go (eqb c line_feed) refl (position-line t)
  where
    go : (b : Bool) → eqb c line_feed ≡ b → position_or_len (λ c. c == line_feed) t ≡ line_length t → position_or_len (λ c. c == line_feed) (c ∷ t) ≡ line_length (c ∷ t)
    go true e h = rw (line_length, span_from, e)
    go false e h = rw (line_length, span_from, e) (omega (arith, h))

pub line-long : (t : List ℕ) → line_length t ≤ length t
unfolding line_length
line-long t = span_le (one (λ c. not (eqb c line_feed))) t

pub position-is : (t : List ℕ) (r : Option ℕ) (n : ℕ) → r ≡ cond (ltb (position_or_len (λ c. c == line_feed) t) (length t)) (Some (position_or_len (λ c. c == line_feed) t)) None → n ≡ unwrap_or r (length t) → n ≡ line_length t
position-is t r n e f = go (ltb (position_or_len (λ c. c == line_feed) t) (length t)) refl
  where
    go : (b : Bool) → ltb (position_or_len (λ c. c == line_feed) t) (length t) ≡ b → n ≡ line_length t
    go true h = f ∙ rw (e, h) (position-line t)
    go false h = f ∙ rw (e, h) (omega (arith, ltb-false _ _ h, position-line t, line-long t))

pub line-told : (s t : List ℕ) (n : ℕ) → SameLine s t → n ≡ line_length t → (length s - length t + n ≡ line_length s) × (length s - length t + n ≤ length s)
line-told s t n f e = let z : length s - length t + n ≡ line_length s = omega (arith, f.same, f.less, line-long t) in (z, omega (arith, line-long s))

-- the lines of a text: the first, and those behind its line feed
split-feed : (t : List ℕ) → line_length t < length t → lines_of t ≡ take (line_length t) t ∷ lines_of (drop (suc (line_length t)) t)
unfolding line_length lines_of span_from
split-feed [] h = absurd (omega arith)
split-feed (c ∷ t) h = go (eqb c line_feed) refl (split-feed t)
  where
    go : (b : Bool) → eqb c line_feed ≡ b → (line_length t < length t → lines_of t ≡ take (line_length t) t ∷ lines_of (drop (suc (line_length t)) t)) → lines_of (c ∷ t) ≡ take (line_length (c ∷ t)) (c ∷ t) ∷ lines_of (drop (suc (line_length (c ∷ t))) (c ∷ t))
    go true e f = rw (lines_of, line_length, span_from, e) refl
    go false e f =
        let long : line_length (c ∷ t) ≡ suc (line_length t) = rw (line_length, span_from, e) refl in
        rw (lines_of, e, long) (rw (f (omega (arith, long, h))) refl)

split-last : (t : List ℕ) → line_length t ≡ length t → lines_of t ≡ t ∷ []
unfolding line_length lines_of span_from
split-last [] h = refl
split-last (c ∷ t) h = go (eqb c line_feed) refl (split-last t)
  where
    go : (b : Bool) → eqb c line_feed ≡ b → (line_length t ≡ length t → lines_of t ≡ t ∷ []) → lines_of (c ∷ t) ≡ (c ∷ t) ∷ []
    go true e f = let long : line_length (c ∷ t) ≡ 0 = rw (line_length, span_from, e) refl in absurd (omega (arith, long, h))
    go false e f =
        let long : line_length (c ∷ t) ≡ suc (line_length t) = rw (line_length, span_from, e) refl in
        rw (lines_of, e) (rw (f (omega (arith, long, h))) refl)

-- nothing is left: one empty line
pub lines_none : (n : ℕ) (t : List ℕ) → length t ≡ 0 → read_lines n (lines_of t) ≡ says []
unfolding read_lines lines_of is_blank_line skip span_from
lines_none n [] h = refl
lines_none n (c ∷ t) h = absurd (omega arith)

module _ (t : List ℕ) (n m : ℕ) (e : n ≡ line_length t) (k : m ≡ min (length t) (n + 1)) (l : Line) (b : l.bytes.now ≡ take n t) (r : l.rest.now ≡ take (length t - m) (drop m t)) where
  rest-is : l.rest.now ≡ drop m t
  rest-is = r ∙ part-rest t m

  sizes : (length l.bytes.now ≡ n) × (length l.rest.now ≡ length t - m)
  sizes = (ap length b ∙ length-take-le n t (omega (arith, line-long t)), ap length rest-is ∙ length-drop m t)

  pub line_is : LineIs t l
  unfolding read_lines
  line_is = go (ltb n (length t)) refl
    where
      behind : Behind t l.rest.now
      behind = record { before = take m t; same = sym (take-append-drop m t) ∙ ap (λ u. take m t ++ u) (sym rest-is) }

      go : (c : Bool) → ltb n (length t) ≡ c → LineIs t l
      go true q =
          let h = ltb-true n (length t) q in
          let z : m ≡ suc (line_length t) = omega (arith, k, e) in
          record {
            is = b ∙ ap (λ j. take j t) e;
            more = lines_of l.rest.now;
            front = split-feed t (omega (arith, e)) ∙ ap₂ ◌∷◌ (sym (b ∙ ap (λ j. take j t) e)) (ap lines_of (sym (rest-is ∙ ap (λ j. drop j t) z)));
            back = λ _. refl;
            behind = behind;
            covers = omega (arith, sizes);
            less = λ _. omega (arith, sizes);
          }
      go false q =
          let h = ltb-false n (length t) q in
          let z : line_length t ≡ length t = omega (arith, line-long t, e) in
          record {
            is = b ∙ ap (λ j. take j t) e;
            more = [];
            front = split-last t z ∙ ap (λ u. u ∷ []) (sym (b ∙ take_all n t h));
            back = λ j. sym (lines_none j l.rest.now (omega (arith, sizes, k)));
            behind = behind;
            covers = omega (arith, sizes, k);
            less = λ g. omega (arith, sizes, k, g);
          }

-- a line of blanks
pub blank_is : (l : List ℕ) (n : ℕ) → n ≡ span blank l → nat_eq n (length l) ≡ is_blank_line l
unfolding is_blank_line skip
blank_is l n e = ap (λ k. eqb k (length l)) (omega (arith, e))
