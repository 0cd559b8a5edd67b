-- A tuple's suffixes, one behind the other.
-- Assumes nothing.
use Rattle.std.proofs.Common.{◌≡◌, refl, sym, ◌∙◌, ap, subst, ℕ, zero, suc, ◌+◌, ◌*◌, ◌-◌, ◌≤◌, List, [], ◌∷◌, ◌++◌, append_assoc, append-nil, length, length-append, arith}
use Rattle.std.specs.Prelude.{None, Some}
use Rattle.kinds.specs.Kind.{Suffix, sized, unsized}
use Rattle.model.specs.Parser.{Ans, got, bad, deep, missing, on_ans}
use Rattle.model.specs.Reading.{array_suffix, suffixes_in, suffixes}
use Rattle.model.specs.Layout.{little_endian}
use Rattle.model.specs.Record.{encode_suffix, encode_suffixes}
use Rattle.model.proofs.Bounds.{record_size}
use Rattle.layout.specs.Buffer.{put}
use Rattle.layout.proofs.Puts.{length-put}
use Rattle.fields.specs.declared.Bracket.{Bracket}
use Rattle.fields.specs.Scratch.{to_found, BracketIs, Begins, Room, Grows}
use Rattle.fields.proofs.Begins.{begins-put}

-- some suffixes are read and written, and the rest is read from `next` on
pub record Growing (s : List ℕ) (at : ℕ) (b : List ℕ) (next len : ℕ) : Type 0 where
  pub done : List Suffix
  pub fuel : ℕ
  pub enough : length s ≤ fuel + next
  pub whole : suffixes s at ≡ on_ans (λ ss. done ++ ss) (suffixes_in fuel s next)
  pub size : len ≡ length (encode_suffixes 4 done)
  pub wrote : Begins b (encode_suffixes 4 done)
  pub low : at ≤ next
  pub inside : next ≤ length s
  pub paid : len + 10 * at ≤ 10 * next
  pub room : len + 10 * (length s - next) ≤ length b
  pub short : length b ≤ 65536

on_none : (a : Ans (List Suffix)) → a ≡ on_ans (λ ss. [] ++ ss) a
unfolding on_ans
on_none (got ss n) = refl
on_none (bad w p) = refl
on_none (deep p) = refl

on-more : (done : List Suffix) (x : Suffix) (a : Ans (List Suffix)) → on_ans (λ ss. done ++ ss) (on_ans (λ ss. x ∷ ss) a) ≡ on_ans (λ ss. (done ++ (x ∷ [])) ++ ss) a
unfolding on_ans
on-more done x (got ss n) = ap (λ (l : List Suffix). got l n) (sym (append_assoc done (x ∷ []) ss))
on-more done x (bad w p) = refl
on-more done x (deep p) = refl

encodes_last : (ss : List Suffix) (x : Suffix) → encode_suffixes 4 (ss ++ (x ∷ [])) ≡ encode_suffixes 4 ss ++ encode_suffix 4 x
unfolding encode_suffixes
encodes_last [] x = append-nil (encode_suffix 4 x)
encodes_last (o ∷ ss) x = ap (encode_suffix 4 o ++◌) (encodes_last ss x) ∙ sym (append_assoc (encode_suffix 4 o) (encode_suffixes 4 ss) (encode_suffix 4 x))

-- the record of a suffix takes 6 or 14 bytes
pub suffix-size : (x : Suffix) → (6 ≤ length (encode_suffix 4 x)) × (length (encode_suffix 4 x) ≤ 14)
unfolding encode_suffix little_endian
suffix-size (sized n) = omega (arith, record_size 0xA (little_endian 8 n))
suffix-size unsized = omega (arith, record_size 0xB [])

pub growing-start : (s : List ℕ) (at : ℕ) (b : List ℕ) → Room 0 0 s at b → Growing s at b at 0
unfolding suffixes encode_suffixes
growing-start s at b r = record {
  done = [];
  fuel = length s;
  enough = omega arith;
  whole = on_none (suffixes_in (length s) s at);
  size = refl;
  wrote = refl;
  low = omega arith;
  inside = r.inside;
  paid = omega arith;
  room = omega (arith, r.room);
  short = r.short;
}

module _ (s : List ℕ) (at : ℕ) (b : List ℕ) (next len : ℕ) (g : Growing s at b next len) where
  -- one more
  module _ (x : Bracket) (i : BracketIs s next (Some x)) where
    pub growing_room : len + length (encode_suffix 4 x.suffix) ≤ length b
    growing_room = omega (arith, g.room, suffix-size x.suffix, i.behind)

    pub growing-next : (b₁ : List ℕ) (k : ℕ) → b₁ ≡ put len (encode_suffix 4 x.suffix) b → k ≡ length (encode_suffix 4 x.suffix) → Growing s at b₁ x.next (len + k)
    unfolding suffixes_in to_found
    growing-next b₁ k e f = go g.fuel g.enough g.whole
      where
        size : length b₁ ≡ length b
        size = ap length e ∙ length-put len (encode_suffix 4 x.suffix) b growing_room

        long : length (encode_suffixes 4 (g.done ++ (x.suffix ∷ []))) ≡ len + k
        long = ap length (encodes_last g.done x.suffix) ∙ omega (arith, length-append (encode_suffixes 4 g.done) (encode_suffix 4 x.suffix), g.size)

        go : (n : ℕ) → length s ≤ n + next → suffixes s at ≡ on_ans (λ ss. g.done ++ ss) (suffixes_in n s next) → Growing s at b₁ x.next (len + k)
        go zero m w = absurd (omega (arith, i.behind))
        go (suc n) m w = record {
          done = g.done ++ (x.suffix ∷ []);
          fuel = n;
          enough = omega (arith, i.behind);
          whole = w ∙ rw (← i.same) (on-more g.done x.suffix (suffixes_in n s x.next));
          size = sym long;
          wrote = subst (Begins b₁) (sym (encodes_last g.done x.suffix)) (begins-put (encode_suffixes 4 g.done) (encode_suffix 4 x.suffix) b b₁ len g.wrote g.size e);
          low = omega (arith, g.low, i.behind);
          inside = i.behind.1;
          paid = omega (arith, g.paid, i.behind, suffix-size x.suffix);
          room = omega (arith, g.room, i.behind, suffix-size x.suffix, size);
          short = omega (arith, g.short, size);
        }

  last : (f : ℕ) → array_suffix s next ≡ missing → suffixes_in f s next ≡ got [] next
  unfolding suffixes_in
  last zero a = refl
  last (suc f) a = rw a

  pub growing-end : BracketIs s next None → Grows s at b (record { next = next; len = len })
  unfolding to_found on_ans
  growing-end i = record {
    read = g.done;
    same = g.whole ∙ rw (last g.fuel (sym i.same), append-nil);
    size = g.size;
    wrote = g.wrote;
    low = g.low;
    inside = g.inside;
    paid = g.paid;
  }

pub ruleset growing = (suffix-size, growing-start, growing-next, growing-end)
