-- The last `[` of a text, and a suffix at its end.
-- Assumes nothing.
use Rattle.std.proofs.Common.{◌≡◌, refl, sym, ◌∙◌, ap, Bool, true, false, List, [], ◌∷◌, ◌++◌, append_assoc, append-nil, ℕ, ◌+◌, ◌-◌, ◌*◌, ◌≤◌, arith, length, length-append, take, drop, take-append-drop, length-drop, eqb, nat_eq, None, Some}
use Rattle.std.proofs.Math.Seq.{take_all, take-append_seam, drop-append-add}
use Rattle.std.proofs.lemmas.List.{take-append-le}
use Rattle.std.specs.Cmp.Lexicographic.{pointwise}
use Rattle.std.proofs.lemmas.Bool.Decides.{Decides-eqb}
use Rattle.std.proofs.lemmas.Slice.Eq.{bytes_eq-Decides, strip_suffix_is}
use Rattle.kinds.specs.Bytes.{lbracket, rbracket}
use Rattle.kinds.specs.Kind.{Suffix, sized, unsized}
use Rattle.model.specs.KindText.{Cut, cut, uncut, cut_after, cut_last, inside, Peeled as PeeledText, bare, peeled, peel_by, peel}
use Rattle.model.specs.Record.{encode_suffix}
use Rattle.model.proofs.Suffixes.{cut-here, cut-not, strip-same, peel-split}
use Rattle.value.specs.Peeling.{cut_at, LastIs, peel_of, PeelIs}
use Rattle.value.proofs.Suffixes.{inside-none, sized_record, unsized_record}

-- the search for the last `[`: none stands behind what is left
pub record NoneBehind (t before : List ℕ) : Type 0 where
  pub behind : List ℕ
  pub whole : t ≡ before ++ behind
  pub none : cut_last lbracket behind ≡ uncut

pub none_start : (t : List ℕ) → NoneBehind t t
unfolding cut_last
none_start t = record { behind = []; whole = sym (append-nil t); none = refl }

module _ (t before : List ℕ) (w : NoneBehind t before) where
  pub none_end : length before ≡ 0 → LastIs t None
  unfolding cut_at
  none_end z = go before z w.whole
    where
      go : (u : List ℕ) → length u ≡ 0 → t ≡ u ++ w.behind → LastIs t None
      go [] l e = record { same = sym (ap (cut_last lbracket) e ∙ w.none); inside = tt }
      go (c ∷ u) l e = absurd (omega arith)

  module _ (rest : List ℕ) (c : ℕ) (e : before ≡ rest ++ (c ∷ [])) where
    whole : t ≡ rest ++ (c ∷ w.behind)
    whole = w.whole ∙ rw (e, append_assoc)

    pub last-here : c ≡ 91 → LastIs t (Some (length rest))
    unfolding cut_at
    last-here q =
        let f : t ≡ rest ++ (lbracket ∷ w.behind) = whole ∙ rw q in
        record {
          same = rw (f, take-append_seam, drop-append-add) (sym (cut-here lbracket rest w.behind w.none));
          inside = omega (arith, ap length f, length-append rest (lbracket ∷ w.behind));
        }

    pub last_more : (c ≡ 91 → ⊥) → NoneBehind t rest
    last_more n = record { behind = c ∷ w.behind; whole = whole; none = cut-not lbracket c w.behind (λ q. n (sym q)) w.none }

-- a `]` behind a text leaves its last `[` where it is
shut_cut : Cut → Cut
shut_cut uncut = uncut
shut_cut (cut a b) = cut a (b ++ (rbracket ∷ []))

cut-shut : (s : List ℕ) → cut_last lbracket (s ++ (rbracket ∷ [])) ≡ shut_cut (cut_last lbracket s)
unfolding cut_last shut_cut
cut-shut [] = refl
cut-shut (c ∷ s) = rw (cut-shut s) (go (cut_last lbracket s) (eqb lbracket c))
  where
    go : (r : Cut) (b : Bool) → cut_after c (s ++ (rbracket ∷ [])) b (shut_cut r) ≡ shut_cut (cut_after c s b r)
    go (cut a m) b = refl
    go uncut true = refl
    go uncut false = refl

bare-is : (t : List ℕ) → peel t ≡ bare → PeelIs t None
unfolding peel_of
bare-is t e = record { same = sym e; shorter = tt }

-- a text that ends in no `]`
pub peel_open : (t : List ℕ) → pointwise nat_eq (drop (length t - 1) t) (rbracket ∷ []) ≡ false → PeelIs t None
peel_open t n = bare-is t (go (peel t) refl)
  where
    go : (r : PeeledText) → peel t ≡ r → peel t ≡ bare
    go bare e = e
    go (peeled a o) e =
        let (m, f, i) = peel-split t a o e in
        absurd (strip_suffix_is Decides-eqb t (rbracket ∷ []) None n (a ++ lbracket ∷ m) (f ∙ sym (append_assoc a (lbracket ∷ m) (rbracket ∷ []))))

-- one that does
module _ (t before : List ℕ) (ends : pointwise nat_eq (drop (length t - 1) t) (rbracket ∷ []) ≡ true) (b : before ≡ take (length t - 1) t) where
  e : t ≡ before ++ (rbracket ∷ [])
  e = sym (take-append-drop (length t - 1) t) ∙ rw (b, (bytes_eq-Decides (drop (length t - 1) t) (rbracket ∷ [])).0 ends)

  pub peel-nowhere : LastIs before None → PeelIs t None
  unfolding peel cut_at shut_cut
  peel-nowhere l = bare-is t (rw (e, cut-shut before, ← l.same))

  module _ (at : ℕ) (m : List ℕ) (l : LastIs before (Some at)) (i : m ≡ take (length before - (at + 1)) (drop (at + 1) before)) where
    inner : m ≡ drop (at + 1) before
    inner = i ∙ take_all (length before - (at + 1)) (drop (at + 1) before) (simp length-drop (omega arith))

    peel_at_is : peel t ≡ peel_by (take at t) (inside m)
    unfolding peel cut_at shut_cut
    peel_at_is =
        let f : take at t ≡ take at before = rw (e, take-append-le at before (rbracket ∷ []) (omega (arith, l.inside))) in
        rw (e, cut-shut before, ← l.same, strip-same, ← inner, ← e, f)

    pub peel-wrong : inside m ≡ None → PeelIs t None
    peel-wrong n = bare-is t (peel_at_is ∙ rw n)

    size : length m + at + 2 ≡ length t
    size = omega (arith, ap length inner, length-drop (at + 1) before, ap length e, length-append before (rbracket ∷ []), l.inside)

    pub peels : (s : Suffix) → inside m ≡ Some s → PeelIs t (Some (record { at = at; suffix = s }))
    unfolding peel_of
    peels s n = record {
      same = sym (peel_at_is ∙ rw n);
      shorter = (omega (arith, size), go s n);
    }
      where
        go : (o : Suffix) → inside m ≡ Some o → length (encode_suffix 4 o) + 5 * at ≤ 5 * length t
        go unsized k = omega (arith, size, unsized_record)
        go (sized v) k = go_on m refl
          where
            go_on : (u : List ℕ) → m ≡ u → length (encode_suffix 4 (sized v)) + 5 * at ≤ 5 * length t
            go_on [] z = let w : Some unsized ≡ Some (sized v) = sym (inside-none m (ap length z)) ∙ k in absurd cc
            go_on (c ∷ u) z = omega (arith, size, ap length z, sized_record v)
