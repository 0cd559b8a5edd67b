-- The kind of a run, suffix by suffix from the right.
-- Assumes nothing.
use Rattle.std.proofs.Common.{◌≡◌, refl, sym, ◌∙◌, ap, List, [], ◌∷◌, ◌++◌, append-nil, append_assoc, ℕ, ◌+◌, ◌*◌, ◌-◌, ◌≤◌, ◌<◌, arith, length, take, drop, length-append, length-drop, take-append-drop, None, Some, Result as StdResult, Ok, Err}
use Rattle.std.proofs.Math.Seq.{take-length, drop-length, take-take, length-take-le, drop_at}
use Rattle.std.specs.List.{between}
use Rattle.std.proofs.lemmas.Slice.{between_to_end}
use Rattle.kinds.specs.Bytes.{lbracket, rbracket}
use Rattle.kinds.specs.Kind.{Suffix}
use Rattle.model.specs.declared.Refusal.{Refusal}
use Rattle.model.specs.KindText.{Result, ok, err, on_result, peeled, peel, Spelled, add_suffix, unsuffixed, elementary_of, from_str}
use Rattle.model.specs.Record.{encode_suffix, encode_suffixes}
use Rattle.model.proofs.Suffixes.{peel-split, from_str_peeled, from_str_bare}
use Rattle.value.specs.declared.Base.{Base}
use Rattle.value.specs.declared.Peeled.{Peeled}
use Rattle.value.specs.declared.Run.{Run}
use Rattle.value.specs.Elementary.{to_result}
use Rattle.value.specs.Peeling.{peel_of, PeelIs}
use Rattle.value.specs.Run.{Suffixed, ReadIs}

-- more suffixes, outside those that a kind has
abbrev with_suffixes : List Suffix → Spelled → Spelled
with_suffixes ss k = record { kind = k.kind; suffixes = k.suffixes ++ ss }

-- the text from `end` on is suffixes, and the rest of the kind is read before it
pub record PeeledTo (t : List ℕ) (end len : ℕ) : Type 0 where
  pub suffixes : List Suffix
  pub inside : end ≤ length t
  pub suffixed : Suffixed suffixes (drop end t)
  pub size : len ≡ length (encode_suffixes 4 suffixes)
  pub small : len ≤ 5 * (length t - end)
  pub whole : from_str t ≡ on_result (with_suffixes suffixes) (from_str (take end t))

with_none : (r : Result Spelled) → r ≡ on_result (with_suffixes []) r
with_none (ok k) = ap (λ (ss : List Suffix). ok (record { kind = k.kind; suffixes = ss })) (sym (append-nil k.suffixes))
with_none (err w) = refl

with_more : (o : Suffix) (ss : List Suffix) (r : Result Spelled) → on_result (with_suffixes ss) (on_result (add_suffix o) r) ≡ on_result (with_suffixes (o ∷ ss)) r
with_more o ss (ok k) = ap (λ (os : List Suffix). ok (record { kind = k.kind; suffixes = os })) (append_assoc k.suffixes (o ∷ []) ss)
with_more o ss (err w) = refl

regroup : (a m d : List ℕ) → (a ++ lbracket ∷ (m ++ (rbracket ∷ []))) ++ d ≡ a ++ lbracket ∷ (m ++ (rbracket ∷ d))
regroup a m d = simp append_assoc

pub peeling_start : (t : List ℕ) → PeeledTo t (length t) 0
unfolding encode_suffixes
peeling_start t = record {
  suffixes = [];
  inside = omega arith;
  suffixed = drop-length t;
  size = refl;
  small = omega arith;
  whole = with_none (from_str t) ∙ rw (take-length t);
}

module _ (t : List ℕ) (end len : ℕ) (p : PeeledTo t end len) (u : List ℕ) (start : u ≡ take end t) where
  -- one more suffix
  pub peeling_more : (q : Peeled) → PeelIs u (Some q) → PeeledTo t q.at (len + length (encode_suffix 4 q.suffix))
  unfolding encode_suffixes peel_of
  peeling_more q i =
      let l : length u ≡ end = ap length start ∙ length-take-le end t p.inside in
      let a : take q.at u ≡ take q.at t = rw start (take-take q.at end t (omega (arith, i.shorter))) in
      let f : peel u ≡ peeled (take q.at t) q.suffix = sym i.same ∙ rw a in
      let (m, s, n) = peel-split u (take q.at t) q.suffix f in
      let g : t ≡ take q.at t ++ lbracket ∷ (m ++ (rbracket ∷ drop end t)) = sym (take-append-drop end t) ∙ ap (λ (v : List ℕ). v ++ drop end t) (sym start ∙ s) ∙ regroup (take q.at t) m (drop end t) in
      let h : drop q.at t ≡ lbracket ∷ (m ++ (rbracket ∷ drop end t)) = ap (drop q.at) g ∙ drop_at (take q.at t) _ q.at (length-take-le q.at t (omega (arith, i.shorter, p.inside))) in
      record {
        suffixes = q.suffix ∷ p.suffixes;
        inside = omega (arith, i.shorter, p.inside);
        suffixed = (m, drop end t, h, n, p.suffixed);
        size = omega (arith, p.size, length-append (encode_suffix 4 q.suffix) (encode_suffixes 4 p.suffixes));
        small = omega (arith, i.shorter, p.small, p.inside);
        whole = p.whole ∙ rw (← start, from_str_peeled u (take q.at t) q.suffix f) (with_more q.suffix p.suffixes (from_str (take q.at t)));
      }

  -- the measure
  pub peeling_less : (q : Peeled) → PeelIs u (Some q) → q.at < end
  peeling_less q i = omega (arith, i.shorter, ap length start, length-take-le end t p.inside)

  module _ (i : PeelIs u None) where
    base_read : (k : StdResult Base Refusal) → to_result k ≡ elementary_of u → from_str t ≡ on_result (with_suffixes p.suffixes) (on_result unsuffixed (to_result k))
    unfolding peel_of
    base_read k e = p.whole ∙ rw (← start, from_str_bare u (sym i.same), e)

    pub run-read : (b : Base) (r : Run) → to_result (Ok b) ≡ elementary_of u → r.base ≡ b → r.suffixes.now ≡ between end (length t) t → r.len ≡ len → ReadIs t r
    unfolding to_result
    run-read b r e f k h =
        let g : r.suffixes.now ≡ drop end t = k ∙ between_to_end t end (length t) (omega arith) in
        let l : length r.suffixes.now ≡ length t - end = rw g (length-drop end t) in
        let d : length t - length r.suffixes.now ≡ end = omega (arith, l, p.inside) in
        record {
          suffixes = p.suffixes;
          same = base_read (Ok b) e ∙ rw f;
          inside = omega (arith, l);
          ends = g ∙ ap (λ n. drop n t) (sym d);
          suffixed = rw g p.suffixed;
          size = h ∙ p.size;
          small = omega (arith, l, h, p.small);
        }

    pub run-refused : (w : Refusal) → to_result (Err w) ≡ elementary_of u → from_str t ≡ err w
    unfolding to_result
    run-refused w e = base_read (Err w) e
