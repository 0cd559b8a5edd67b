-- Lines that are read: what the reading call tells of a line, and a line and a record compared.
-- Assumes nothing.
use mathlib.Core.Path.{◌≡◌, refl, sym, ◌∙◌, ap}
use mathlib.Core.Bool.{Bool, true, false, false≢true}
use mathlib.Core.List.{List, ◌∷◌, ◌++◌}
use Rattle.std.specs.Prelude.{Ok, Err}
use Rattle.std.specs.Result.{result_unwrap_or}
use Prim.Native.Nat.{ℕ, suc, ◌-◌, ◌≤◌}
use native.Mathlib.Omega.{arith}
use lib.ListN.{length, take, drop}
use lib.Seq.{take_at}
use borrow.Author.Tests.{le-ltb}
use Rattle.model.specs.declared.Refusal.{Refusal}
use Rattle.model.specs.declared.Refusal.TheVariants.{TooDeep}
use Rattle.model.specs.declared.Refused.{Refused}
use Rattle.model.specs.declared.Call.TheVariants as call
use Rattle.model.specs.Tree.{Declaration}
use Rattle.model.specs.Parser.{Ans, got, bad, deep}
use Rattle.model.specs.Reading.{parse}
use Rattle.model.specs.Record.{encode}
use Rattle.model.specs.Answer.{accepted, refused, number, writes, said, outcome, after, Answer}
use Rattle.model.specs.Calls.{written, read_output}
use Rattle.model.specs.Sheet.{is_blank_line, Lines, fails, on_line, read_lines}
use Rattle.model.proofs.Sound.{read-well-formed}
use Rattle.model.proofs.Scans.{part-rest}
use Rattle.layout.proofs.Answers.{keeps_length, accepted-is, after-written}
use Rattle.abi.specs.Writes.{Put}
use Rattle.repeat.specs.Pairs.{RecordOf, Two, Repeats}
use Rattle.repeat.proofs.Whole.{short}
use Rattle.sheet.specs.declared.Line.{Line}
use Rattle.sheet.specs.Lines.{line_length, LineIs, ReadsAt, AskedAt, LineRepeats, LineFails, LineWritten}

pub encode-short : (l : List ℕ) (d : Declaration) (m : ℕ) → parse call.General l ≡ got d m → length (encode 4 d) ≤ 40960
encode-short l d m f = short (encode 4 d) d (record { bytes = refl; well = read-well-formed call.General l d m f })

pub read_is : (l : List ℕ) (d : Declaration) (m : ℕ) → parse call.General l ≡ got d m → read_output call.General l ≡ writes (encode 4 d)
unfolding read_output written
read_is l d m e = rw (read_output, e) refl

-- a line that was read into a lent array
module _ (l b b₁ : List ℕ) (a : Answer) (says : said a ≡ outcome (length b) (read_output call.General l)) (leaves : b₁ ≡ after b (read_output call.General l)) where
  read_size : length b₁ ≡ length b
  read_size = ap length leaves ∙ keeps_length b (read_output call.General l)

  module _ (n : ℕ) (e : a ≡ Ok n) where
    pub read_fits : n ≤ length b₁
    unfolding said
    read_fits = let (u, o, x, y) = accepted-is (read_output call.General l) (length b) n (sym (ap said e) ∙ says) in omega (arith, x, y, read_size)

    pub read_put : (d : Declaration) (m : ℕ) → parse call.General l ≡ got d m → Put (encode 4 d) b b₁ n
    unfolding said
    read_put d m f =
        let (u, o, x, y) = accepted-is (read_output call.General l) (length b) n (sym (ap said e) ∙ says) in
        let w : writes (encode 4 d) ≡ writes u = sym (read_is l d m f) ∙ o in
        let same : u ≡ encode 4 d = cc in
        record { same = leaves ∙ after-written b u (read_output call.General l) o y ∙ ap (λ v. v ++ drop (length v) b) same; long = x ∙ ap length same }

    pub read_record : (d : Declaration) (m : ℕ) → parse call.General l ≡ got d m → RecordOf (take n b₁) d
    read_record d m f = let p = read_put d m f in record { bytes = ap (take n) p.same ∙ take_at (encode 4 d) (drop (length (encode 4 d)) b) n (sym p.long); well = read-well-formed call.General l d m f }

    -- what an answer tells of a line
    pub line-got : (d : Declaration) × (m : ℕ) × (parse call.General l ≡ got d m)
    unfolding said read_output written
    line-got =
        let (u, o, x, y) = accepted-is (read_output call.General l) (length b) n (sym (ap said e) ∙ says) in
        go u (parse call.General l) refl o
      where
        go : (u : List ℕ) (r : Ans Declaration) → parse call.General l ≡ r → written (encode 4) r ≡ writes u → (d : Declaration) × (m : ℕ) × (parse call.General l ≡ got d m)
        go u (got d m) q f = (d, m, q)
        go u (bad w p) q f = absurd (let z : ◌≡◌ {A = ℕ} 0 1 = cc in omega arith)
        go u (deep p) q f = absurd (let z : ◌≡◌ {A = ℕ} 0 1 = cc in omega arith)

  -- one that has room is not refused
  pub read-never : (x : Refused) → a ≡ Err x → (d : Declaration) (m : ℕ) → parse call.General l ≡ got d m → length (encode 4 d) ≤ length b → ⊥
  unfolding said outcome
  read-never x e d m f k =
      let o : outcome (length b) (writes (encode 4 d)) ≡ accepted (length (encode 4 d)) = rw (outcome, le-ltb (length b) (length (encode 4 d)) k) refl in
      let y : refused (number x.refusal) x.position ≡ accepted (length (encode 4 d)) = sym (ap said e) ∙ says ∙ ap (outcome (length b)) (read_is l d m f) ∙ o in
      let i : ◌≡◌ {A = ℕ} 0 1 = cc in omega arith

  pub line-bad : (line : ℕ) → is_blank_line l ≡ false → (x : Refused) → a ≡ Err x → 40960 ≤ length b → LineFails l line x
  unfolding said read_output written outcome read_lines
  line-bad line z x f g = go (parse call.General l) refl (sym (ap said f) ∙ says)
    where
      fails_by : (w : Refusal) (p : ℕ) → ((r : Lines) → on_line line (parse call.General l) r ≡ fails w line p) → (ls : List (List ℕ)) → read_lines line (l ∷ ls) ≡ fails w line p
      fails_by w p k ls = ap (λ c. elim c as (λ _. Lines) [ true ↦ read_lines (suc line) ls | false ↦ on_line line (parse call.General l) (read_lines (suc line) ls) ]) z ∙ k (read_lines (suc line) ls)

      same_place : (v : Refusal) (p : ℕ) → refused (number x.refusal) x.position ≡ refused (number v) p → (number x.refusal ≡ number v) × (x.position ≡ p)
      same_place v p q = (cc, cc)

      go : (r : Ans Declaration) → parse call.General l ≡ r → refused (number x.refusal) x.position ≡ outcome (length b) (written (encode 4) r) → LineFails l line x
      go (got d m) q k = absurd (read-never x f d m q (omega (arith, encode-short l d m q)))
      go (bad v p) q k = let (i, j) = same_place v p k in record { refusal = v; same = i; next = fails_by v x.position (λ r. ap (λ y. on_line line y r) q ∙ ap (fails v line) (sym j)) }
      go (deep p) q k = let (i, j) = same_place TooDeep p k in record { refusal = TooDeep; same = i; next = fails_by TooDeep x.position (λ r. ap (λ y. on_line line y r) q ∙ ap (fails TooDeep line) (sym j)) }

-- the line at a place
module _ (s : List ℕ) (at : ℕ) (t : List ℕ) (l : Line) (i : LineIs (take (length s - at) (drop at s)) l) (b b₁ : List ℕ) (a : Answer)
    (says : said a ≡ outcome (length b) (read_output call.General l.bytes.now)) (leaves : b₁ ≡ after b (read_output call.General l.bytes.now)) where
  reads : (d : Declaration) (r : ReadsAt s at d) → parse call.General l.bytes.now ≡ got d r.place
  reads d r = ap (parse call.General) (i.is ∙ ap (λ u. take (line_length u) u) (part-rest s at)) ∙ r.reads

  pub two-asked : (n : ℕ) → a ≡ Ok n → AskedAt s at t → Two (take n b₁) t
  two-asked n f p = record {
    declaration = p.declaration;
    one = read_record l.bytes.now b b₁ a says leaves n f p.declaration p.reads.place (reads p.declaration p.reads);
    declaration₁ = p.declaration₁;
    other = p.other;
  }

  pub two-told : (n : ℕ) → a ≡ Ok n → (r : Bool) → Repeats (take n b₁) t r → LineRepeats s at t r
  unfolding two-asked
  two-told n f r g = record { same = λ p. g (two-asked n f p) }

  pub two-never : (x : Refused) → a ≡ Err x → length b ≡ 40960 → LineRepeats s at t false
  two-never x f k = record {
    same = λ p. let q = reads p.declaration p.reads in absurd (read-never l.bytes.now b b₁ a says leaves x f p.declaration p.reads.place q (omega (arith, encode-short l.bytes.now p.declaration p.reads.place q)));
  }

-- what is written of a line
pub line-blank : (l b : List ℕ) → is_blank_line l ≡ true → LineWritten l b b 0
line-blank l b z = record { size = refl; inside = omega arith; blank = λ _. record { same = refl; long = refl }; read = λ y. absurd (false≢true (sym y ∙ z)) }

module _ (l b b₁ : List ℕ) (z : is_blank_line l ≡ false) (a : Answer) (says : said a ≡ outcome (length b) (read_output call.General l)) (leaves : b₁ ≡ after b (read_output call.General l)) where
  line-ok : (n : ℕ) → a ≡ Ok n → LineWritten l b b₁ n
  line-ok n e = record { size = read_size l b b₁ a says leaves; inside = read_fits l b b₁ a says leaves n e; blank = λ y. absurd (false≢true (sym z ∙ y)); read = λ _ d m f _. read_put l b b₁ a says leaves n e d m f }

  line-refused : (x : Refused) → a ≡ Err x → LineWritten l b b₁ 0
  line-refused x e = record { size = read_size l b b₁ a says leaves; inside = omega arith; blank = λ y. absurd (false≢true (sym z ∙ y)); read = λ _ d m f g. absurd (read-never l b b₁ a says leaves x e d m f g) }

  pub line-written : (n : ℕ) → n ≡ result_unwrap_or a 0 → LineWritten l b b₁ n
  line-written n e = go a refl
    where
      go : (c : Answer) → a ≡ c → LineWritten l b b₁ n
      go (Ok m) f = rw (e, f) (line-ok m f)
      go (Err x) f = rw (e, f) (line-refused x f)

pub ruleset writing = (line-blank, line-written)
