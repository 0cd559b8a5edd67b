-- Records one behind the other, each of which stands for a text: what a loop over them knows.
-- Assumes nothing.
use mathlib.Core.Path.{◌≡◌, refl, sym, ◌∙◌, ap}
use mathlib.Core.List.{List, []}
use Rattle.std.specs.Prelude.{Option, None, Some}
use Rattle.std.proofs.lemmas.Option.{none-some, same_Some}
use Prim.Native.Nat.{ℕ, zero, suc, ◌+◌, ◌≤◌, ◌<◌}
use native.Mathlib.Omega.{arith}
use lib.ListN.{length, drop_of_length-le}
use Rattle.model.specs.Layout.{piece_of}
use Rattle.model.specs.Record.{given, on_option, on_piece}
use Rattle.record.specs.declared.Piece.{Piece}
use Rattle.record.specs.Parts.{taken, PieceIs}
use Rattle.record.specs.Texts.{size}

-- E k gives the text of at most k records up to the end: each text that `item` gives of a kind and a body is joined to the text of those behind it,
-- with so many bytes more, and `stop` stands at the end
pub record Steps (E : ℕ → List ℕ → Option (List ℕ)) (item : ℕ → List ℕ → Option (List ℕ)) (join : List ℕ → List ℕ → List ℕ) (stop : List ℕ) (extra : ℕ) : Type 0 where
  pub end : (k : ℕ) → E k [] ≡ Some stop
  pub step : (k : ℕ) (b : List ℕ) → 0 < length b → E (suc k) b ≡ on_piece (piece_of 4 b) (λ j body r. given (item j body) (λ u. on_option (join u) (E k r)))
  pub long : (u v : List ℕ) → length (join u v) ≡ length u + extra + length v

-- how long n bytes and a text are
abbrev pub behind : ℕ → Option (List ℕ) → Option ℕ
behind n = on_option (λ u. n + length u)

-- what is left of bytes of which all texts have w bytes, if there are such: n bytes stand for what is gone over
pub record Left (E : ℕ → List ℕ → Option (List ℕ)) (w : Option ℕ) (left : List ℕ) (n : ℕ) : Type 0 where
  pub most : ℕ
  pub enough : length left ≤ most
  pub same : w ≡ behind n (E most left)

module _ (E : ℕ → List ℕ → Option (List ℕ)) (item : ℕ → List ℕ → Option (List ℕ)) (join : List ℕ → List ℕ → List ℕ) (stop : List ℕ) (extra : ℕ) (st : Steps E item join stop extra) where
  module _ (w : Option ℕ) (left : List ℕ) (n : ℕ) (i : Left E w left n) where
    pub left_end : length left ≡ 0 → Some (n + length stop) ≡ w
    left_end h = sym (i.same ∙ ap (behind n) (ap (E i.most) (empty left h) ∙ st.end i.most))
      where
        empty : (t : List ℕ) → length t ≡ 0 → t ≡ []
        empty t h = drop_of_length-le t {i = 0} (omega arith)

    module _ (h : 0 < length left) where
      stepped : (r : Option Piece) → PieceIs left r → (k : ℕ) → length left ≤ k → w ≡ behind n (E k left)
          → (m : ℕ) × (length left ≤ suc m) × (w ≡ behind n (on_piece (taken r) (λ j body t. given (item j body) (λ u. on_option (join u) (E m t)))))
      stepped r p zero e q = absurd (omega arith)
      stepped r p (suc k) e q = (k, e, q ∙ ap (behind n) (st.step k left h ∙ rw (← p.same)))

      pub left-none : PieceIs left None → None ≡ w
      unfolding taken
      left-none p = let (m, l, q) = stepped None p i.most i.enough i.same in sym q

    module _ (h : 0 < length left) (p : Piece) (c : PieceIs left (Some p)) where
      here : (m : ℕ) × (length left ≤ suc m) × (w ≡ behind n (given (item p.kind p.body.now) (λ u. on_option (join u) (E m p.rest.now))))
      unfolding taken
      here = stepped h (Some p) c i.most i.enough i.same

      pub left-bad : None ≡ size (item p.kind p.body.now) → None ≡ w
      left-bad e = let (m, l, q) = here in sym (q ∙ go (item p.kind p.body.now) e m)
        where
          go : (o : Option (List ℕ)) → None ≡ size o → (m : ℕ) → behind n (given o (λ u. on_option (join u) (E m p.rest.now))) ≡ None
          go None e m = refl
          go (Some u) e m = absurd (none-some _ e)

      pub left-next : (s : ℕ) → Some s ≡ size (item p.kind p.body.now) → Left E w p.rest.now (n + (s + extra))
      left-next s e = let (m, l, q) = here in record { most = m; enough = omega (arith, c.covers); same = q ∙ go (item p.kind p.body.now) e (E m p.rest.now) }
        where
          joined : (u : List ℕ) (o : Option (List ℕ)) → s ≡ length u → behind n (on_option (join u) o) ≡ behind (n + (s + extra)) o
          joined u None e = refl
          joined u (Some v) e = ap Some (omega (arith, st.long u v))

          go : (o : Option (List ℕ)) → Some s ≡ size o → (t : Option (List ℕ)) → behind n (given o (λ u. on_option (join u) t)) ≡ behind (n + (s + extra)) t
          go None e t = absurd (none-some s (sym e))
          go (Some u) e t = joined u t (same_Some _ _ e)
