-- Records one behind the other that are read as a list: the first of them and the others, and a loop that writes what they stand for.
-- Assumes nothing.
use mathlib.Core.Path.{◌≡◌, refl, sym, ◌∙◌, ap}
use mathlib.Core.List.{List, [], ◌∷◌, ◌++◌, append_assoc, append-nil}
use Rattle.std.specs.Prelude.{Option, Some}
use Rattle.std.proofs.lemmas.Option.{none-some, same_Some}
use Prim.Native.Nat.{ℕ, zero, suc, ◌+◌, ◌-◌, ◌≤◌, ◌<◌}
use native.Mathlib.Omega.{arith}
use lib.ListN.{length, take, drop, length-append}
use borrow.Rule.Slice.PartMut.{put_mid}
use Rattle.kinds.specs.Kind.{Suffix, suffix_text}
use Rattle.model.specs.Layout.{Piece as Taken, piece, no_piece, piece_of}
use Rattle.model.specs.Record.{on_option, on_piece, each_by, each_in, decode_suffix, decode_suffixes}
use Rattle.model.specs.Written.{suffixes_text}
use Rattle.model.proofs.Decoding.{given-some, on_some}
use Rattle.record.specs.declared.Piece.{Piece}
use Rattle.record.specs.Parts.{taken, PieceIs, Headed}
use Rattle.record.proofs.Standing.{piece-headed}
use Rattle.record.specs.Texts.{suffix_from, suffixes_from}
use Rattle.abi.specs.Writes.{Put, Room, Wrote}
use Rattle.abi.proofs.Puts.{put_none, behind-room, put-inside, put-both, wrote-text}

-- of what something was read, a record stands in front
pub read-headed : {A : Type 0} (b : List ℕ) (f : ℕ → List ℕ → List ℕ → Option A) (a : A) → on_piece (piece_of 4 b) f ≡ Some a → Headed b
read-headed {A} b f a e = go (piece_of 4 b) refl e
  where
    go : (t : Taken) → piece_of 4 b ≡ t → on_piece t f ≡ Some a → Headed b
    go no_piece p q = absurd (none-some a q)
    go (piece k body r) p q = piece-headed b k body r p

module _ {A L : Type 0} (nil : L) (cons : A → L → L) (D : ℕ → List ℕ → Option A) where
  -- l is read of b, in enough steps
  pub record Reads (b : List ℕ) (l : L) : Type 0 where
    pub steps : ℕ
    pub enough : length b ≤ steps
    pub same : each_in 4 nil cons D steps b ≡ Some l

  pub record First (p : Piece) (l : L) : Type 0 where
    pub first : A
    pub others : L
    pub split : l ≡ cons first others
    pub is : D p.kind p.body.now ≡ Some first
    pub rest : Reads p.rest.now others

  step : (k : ℕ) (b : List ℕ) (l : L) → 0 < length b → length b ≤ k → each_in 4 nil cons D k b ≡ Some l
      → (j : ℕ) × (length b ≤ suc j) × (each_by 4 cons D (λ r. each_in 4 nil cons D j r) (piece_of 4 b) ≡ Some l)
  unfolding each_in
  step zero b l h m e = absurd (omega arith)
  step (suc k) [] l h m e = absurd (omega arith)
  step (suc k) (c ∷ t) l h m e = (k, m, e)

  module _ (b : List ℕ) (l : L) (s : Reads b l) where
    pub reads-none : length b ≡ 0 → l ≡ nil
    unfolding each_in
    reads-none h = go s.steps b h s.same
      where
        go : (k : ℕ) (b : List ℕ) → length b ≡ 0 → each_in 4 nil cons D k b ≡ Some l → l ≡ nil
        go zero [] h e = sym (same_Some _ _ e)
        go (suc k) [] h e = sym (same_Some _ _ e)
        go k (c ∷ t) h e = absurd (omega arith)

    pub reads-headed : 0 < length b → Headed b
    reads-headed h = let (j, _, e) = step s.steps b l h s.enough s.same in read-headed b _ l e

    pub reads-first : (p : Piece) → 0 < length b → PieceIs b (Some p) → First p l
    unfolding taken
    reads-first p h i =
        let (j, m, e) = step s.steps b l h s.enough s.same in
        given-some (D p.kind p.body.now) _ (rw (← i.same) at e) (λ a u f.
        on_some (cons a) (each_in 4 nil cons D j p.rest.now) f (λ os v g.
        record { first = a; others = os; split = sym g; is = u; rest = record { steps = j; enough = omega (arith, i.covers); same = v } }))

-- the text u of them all is put in up to that of those that are left
module _ {A L : Type 0} (nil : L) (cons : A → L → L) (D : ℕ → List ℕ → Option A) (texts : L → List ℕ) where
  pub record Run (u b₀ left : List ℕ) (n : ℕ) (out : List ℕ) : Type 0 where
    pub rest : L
    pub read : Reads nil cons D left rest
    pub done : List ℕ
    pub split : u ≡ done ++ texts rest
    pub put : Put done b₀ out n

  pub run-start : (b b₀ : List ℕ) (l : L) → each_in 4 nil cons D (length b) b ≡ Some l → Run (texts l) b₀ b 0 b₀
  run-start b b₀ l e = record { rest = l; read = record { steps = length b; enough = omega arith; same = e }; done = []; split = refl; put = put_none b₀ }

  module _ (u b₀ left : List ℕ) (n : ℕ) (out : List ℕ) (s : Run u b₀ left n out) where
    pub run-end : length left ≡ 0 → u ≡ s.done ++ texts nil
    run-end h = s.split ∙ ap (λ l. s.done ++ texts l) (reads-none nil cons D left s.rest s.read h)

    module _ (p : Piece) (h : 0 < length left) (i : PieceIs left (Some p)) where
      pub run-first : First nil cons D p s.rest
      run-first = reads-first nil cons D left s.rest s.read p h i

      module _ (t : List ℕ) (law : texts (cons run-first.first run-first.others) ≡ t ++ texts run-first.others) where
        joined : u ≡ (s.done ++ t) ++ texts run-first.others
        joined = s.split ∙ ap (λ l. s.done ++ texts l) run-first.split ∙ rw law (sym (append_assoc s.done t (texts run-first.others)))

        pub run-size : length u ≡ length (s.done ++ t) + length (texts run-first.others)
        run-size = ap length joined ∙ length-append (s.done ++ t) (texts run-first.others)

        pub run-next : (m : ℕ) (out₁ : List ℕ) → Put (s.done ++ t) b₀ out₁ m → Run u b₀ p.rest.now m out₁
        run-next m out₁ w = record { rest = run-first.others; read = run-first.rest; done = s.done ++ t; split = joined; put = w }

-- suffixes
pub record SuffixesOut (b b₀ left : List ℕ) (n : ℕ) (out : List ℕ) : Type 0 where
  pub all : List Suffix
  pub whole : decode_suffixes 4 b ≡ Some all
  pub room : length (suffixes_text all) ≤ length b₀
  pub inside : n ≤ length out
  pub run : Run [] ◌∷◌ decode_suffix suffixes_text (suffixes_text all) b₀ left n out

pub suffixes-start : (b b₀ : List ℕ) → Room (suffixes_from b) b₀ → SuffixesOut b b₀ b 0 b₀
unfolding suffixes_from decode_suffixes
suffixes-start b b₀ q =
    on_some suffixes_text (decode_suffixes 4 b) q.same (λ ss p e.
    record { all = ss; whole = p; room = omega (arith, q.room, ap length e); inside = omega arith; run = run-start _ _ _ _ b b₀ ss p })

module _ (b b₀ left : List ℕ) (n : ℕ) (out : List ℕ) (s : SuffixesOut b b₀ left n out) where
  pub suffixes-headed : 0 < length left → Headed left
  suffixes-headed = reads-headed _ _ _ left s.run.rest s.run.read

  pub suffixes-end : length left ≡ 0 → Wrote (suffixes_from b) b₀ out n
  unfolding suffixes_from suffixes_text
  suffixes-end h =
      let e : suffixes_text s.all ≡ s.run.done = run-end _ _ _ _ _ b₀ left n out s.run h ∙ append-nil s.run.done in
      wrote-text (suffixes_from b) s.run.done (ap (on_option suffixes_text) s.whole ∙ ap Some e) b₀ out n s.run.put

  module _ (p : Piece) (h : 0 < length left) (i : PieceIs left (Some p)) where
    abbrev here : First [] ◌∷◌ decode_suffix p s.run.rest
    here = run-first _ _ _ _ _ b₀ left n out s.run p h i

    law : suffixes_text (here.first ∷ here.others) ≡ suffix_text here.first ++ suffixes_text here.others
    unfolding suffixes_text
    law = refl

    here-text : suffix_from p.kind p.body.now ≡ Some (suffix_text here.first)
    unfolding suffix_from
    here-text = ap (on_option suffix_text) here.is

    here-room : length (s.run.done ++ suffix_text here.first) ≤ length b₀
    here-room = omega (arith, run-size _ _ _ _ _ b₀ left n out s.run p h i _ law, s.room)

    pub suffix-asks : Room (suffix_from p.kind p.body.now) (take (length out - n) (drop n out))
    suffix-asks = record { text = suffix_text here.first; same = here-text; room = behind-room _ _ _ _ s.run.put _ here-room }

    pub suffixes-next : (c : List ℕ) (r : ℕ) → Wrote (suffix_from p.kind p.body.now) (take (length out - n) (drop n out)) c r → SuffixesOut b b₀ p.rest.now (n + r) (put_mid n (length out - n) out c)
    suffixes-next c r w =
        let z = put-both _ _ _ _ s.run.put _ c r (w _ here-text) in
        record { all = s.all; whole = s.whole; room = s.room; inside = put-inside _ _ _ _ z here-room; run = run-next _ _ _ _ _ b₀ left n out s.run p h i _ law (n + r) _ z }
