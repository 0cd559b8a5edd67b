-- Words, characters, marks and names, by what the code looks at.
-- Assumes nothing.
use Rattle.std.proofs.Common.{◌≡◌, refl, sym, ◌∙◌, ap, ℕ, ◌+◌, ◌-◌, ◌≤◌, ◌<◌, Bool, true, false, List, [], ◌∷◌, length, take, drop, length-drop, arith, eqb, eq-eqb}
use lib.Seq.{length-take-le}
use native.Mathlib.Decide.{ℕ_discrete}
use borrow.Author.Tests.{ne_eqb}
use Rattle.std.specs.Option.{ok_or, option_map}
use Rattle.std.specs.Prelude.{Option, None, Some, Result, Ok, Err}
use Rattle.std.proofs.lemmas.Option.{none-some}
use Rattle.model.specs.declared.Refusal.{Refusal}
use Rattle.model.specs.declared.Refusal.TheVariants.{Eos}
use Rattle.model.specs.declared.Refused.{Refused}
use Rattle.model.specs.declared.Mark.{Mark}
use Rattle.model.specs.declared.Mark.TheVariants.{Unmarked}
use Rattle.model.specs.declared.Sort.{Sort}
use Rattle.model.specs.declared.Sort.TheVariants.{Plain, Parameter, Event}
use Rattle.model.specs.Answer.{refusal_at}
use Rattle.model.specs.Text.{skip, peek, word_length}
use Rattle.model.specs.Mark.{mark_number}
use Rattle.model.specs.Tree.{unmarked}
use Rattle.model.specs.KindText.{Entry, lookup}
use Rattle.model.specs.Reading.{marks_by}
use Rattle.model.specs.Parser.{got, bad, Found, found, missing, require, look, why_not, take_char, word, word_end, keyword_of, is_ident, look_ident, option, optional_name}
use Rattle.model.proofs.Scans.{peek-inside}
use Rattle.text.specs.Found.{byte_or_end, Skipped}
use Rattle.fields.specs.declared.Seen.{Seen}
use Rattle.fields.specs.Words.{EndIs, WordIs, Looked, to_place, BehindIs, to_taken, TakenIs, NamedIs}

-- a look that the code made
module _ (s : List ℕ) (at : ℕ) (v : Seen) (h : Looked s at v) where
  pub seen : (c : ℕ) → byte_or_end v.byte ≡ c → eqb (peek s (skip s at)) c ≡ true
  seen c e = eq-eqb _ c (ap (peek s) (sym h.place) ∙ sym h.byte ∙ e)

  pub unseen : (c : ℕ) → (byte_or_end v.byte ≡ c → ⊥) → eqb (peek s (skip s at)) c ≡ false
  unseen c n = ne_eqb _ c (λ e. n (h.byte ∙ ap (peek s) h.place ∙ e))

  pub look-found : (c : ℕ) → byte_or_end v.byte ≡ c → look c s at ≡ found tt (v.at + 1)
  unfolding look
  look-found c e = rw (look, seen c e, ← h.place)

  pub look-missing : (c : ℕ) → (byte_or_end v.byte ≡ c → ⊥) → look c s at ≡ missing
  unfolding look
  look-missing c n = rw (look, unseen c n)

  pub seen-inside : (c : ℕ) → c < 256 → byte_or_end v.byte ≡ c → v.at < length s
  seen-inside c b e = peek-inside s v.at c (sym h.byte ∙ e) b

-- a character is there, or not
pub behind-here : (v : Seen) (c : ℕ) → v.byte ≡ Some c → BehindIs v c (Some (v.at + 1))
unfolding byte_or_end
behind-here v c e = record { same = λ s at h. sym (look-found s at v h c (ap byte_or_end e)) }

pub behind-other : (v : Seen) (c : ℕ) → c < 256 → (v.byte ≡ Some c → ⊥) → BehindIs v c None
unfolding byte_or_end
behind-other v c b n = record { same = λ s at h. sym (look-missing s at v h c (go v.byte n)) }
  where
    go : (o : Option ℕ) → (o ≡ Some c → ⊥) → byte_or_end o ≡ c → ⊥
    go None n e = omega arith
    go (Some x) n e = n (ap Some e)

-- and the place behind it lies within the text
module _ (s : List ℕ) (at : ℕ) (v : Seen) (h : Looked s at v) (c n : ℕ) (b : c < 256) where
  pub look-inside : look c s at ≡ found tt n → (at < n) × (n ≤ length s)
  look-inside e = elim (ℕ_discrete (byte_or_end v.byte) c) [ yes q ↦ here q | no q ↦ absurd (other q) ]
    where
      here : byte_or_end v.byte ≡ c → (at < n) × (n ≤ length s)
      here q = let f : found tt (v.at + 1) ≡ found tt n = sym (look-found s at v h c q) ∙ e in
          let z : v.at + 1 ≡ n = cc in omega (arith, z, h.low, seen-inside s at v h c b q)

      other : (byte_or_end v.byte ≡ c → ⊥) → ⊥
      other q = let f : missing ≡ found tt n = sym (look-missing s at v h c q) ∙ e in cc

  pub behind-inside : BehindIs v c (Some n) → (at < n) × (n ≤ length s)
  behind-inside i = look-inside (sym (i.same s at h))

  pub taken-inside : (w : Refusal) → TakenIs v c w (Ok n) → (at < n) × (n ≤ length s)
  unfolding take_char
  taken-inside w i = go (look c s at) refl (i.same s at h)
    where
      go : (f : Found (Unit {0})) → look c s at ≡ f → got tt n ≡ require (why_not w (peek s (skip s at))) (skip s at) f → (at < n) × (n ≤ length s)
      go (found x m) e q = let z : n ≡ m = cc in look-inside (rw z e)
      go missing e q = absurd cc

-- an error stands where the character was looked for
pub refused-inside : (s : List ℕ) (at : ℕ) (v : Seen) → Looked s at v → (c : ℕ) (w : Refusal) (r : Refused) → TakenIs v c w (Err r) → r.position ≤ length s
unfolding take_char
refused-inside s at v h c w r i = go (look c s at) (i.same s at h)
  where
    go : (f : Found (Unit {0})) → bad r.refusal r.position ≡ require (why_not w (peek s (skip s at))) (skip s at) f → r.position ≤ length s
    go (found x m) q = absurd cc
    go missing q = let z : r.position ≡ skip s at = cc in omega (arith, z, h.place, h.inside)

pub taken-end : (v : Seen) (c : ℕ) (w : Refusal) → c < 256 → v.byte ≡ None → TakenIs v c w (Err (refusal_at Eos v.at))
unfolding byte_or_end take_char
taken-end v c w b e = record {
  same = λ s at h.
      let f : byte_or_end v.byte ≡ 256 = ap byte_or_end e in
      sym (rw (take_char, look-missing s at v h c (λ g. omega (arith, f, g)), why_not, seen s at v h 256 f, ← h.place));
}

pub taken-by : (v : Seen) (c b : ℕ) (w : Refusal) (o : Option ℕ) (r : Result ℕ Refused) → v.byte ≡ Some b → BehindIs v c o → r ≡ ok_or o (refusal_at w v.at) → TakenIs v c w r
unfolding take_char
taken-by v c b w o r e i f = record {
  same = λ s at h.
      ap to_taken f ∙ sym (rw (take_char, ← i.same s at h, why_not, unseen s at v h 256 (λ x. none-some b (sym (h.none x) ∙ e)), ← h.place) (go o));
}
  where
    go : (o : Option ℕ) → require w v.at (to_place o) ≡ to_taken (ok_or o (refusal_at w v.at))
    go None = refl
    go (Some n) = refl

pub ruleset takes = (taken-end, taken-by)

pub ruleset behinds = (behind-here, behind-other)

-- the word behind any blanks
module _ (s : List ℕ) (at a e : ℕ) (k : Skipped s at a) (i : EndIs s a e) where
  long : word_length (drop (skip s at) s) ≡ e - a
  long = rw (← k.place) (omega (arith, i.end))

  ends : e ≡ word_end s at
  unfolding word_end
  ends = rw (← k.place) i.end

  pub word-none : at ≤ length s → a ≡ e → WordIs s at [] at
  unfolding word
  word-none h q = record {
    bytes = let z : word_length (drop (skip s at) s) ≡ 0 = omega (arith, long) in rw z;
    end = λ p. absurd (omega arith);
    stays = λ _. refl;
    low = omega arith;
    inside = h;
  }

  size : length (take (e - a) (drop a s)) ≡ e - a
  size = length-take-le (e - a) (drop a s) (rw length-drop (omega (arith, i.inside)))

  pub word-some : (a ≡ e → ⊥) → WordIs s at (take (e - a) (drop a s)) e
  unfolding word
  word-some n = record {
    bytes = rw (long, ← k.place);
    end = λ _. ends;
    stays = λ z. absurd (omega (arith, size, z, i.order));
    low = omega (arith, size, k.low, i.order);
    inside = i.inside;
  }

pub ruleset nexts = word-none

-- what such a word is read as: a name, or a word of a table, which has no empty one
module _ (s : List ℕ) (at : ℕ) (w : List ℕ) (n : ℕ) (i : WordIs s at w n) where
  by_word : (u : List ℕ) → w ≡ u → look_ident s at ≡ is_ident u (word_end s at)
  unfolding look_ident
  by_word u e = rw (look_ident, ← i.bytes, e)

  pub no_ident : length w ≡ 0 → look_ident s at ≡ missing
  no_ident z = go w refl
    where
      go : (u : List ℕ) → w ≡ u → look_ident s at ≡ missing
      go [] e = by_word [] e
      go (c ∷ u) e = absurd (omega (arith, ap length e))

  pub is-ident : 0 < length w → look_ident s at ≡ found w n
  is-ident z = go w refl
    where
      go : (u : List ℕ) → w ≡ u → look_ident s at ≡ found w n
      go [] e = absurd (omega (arith, ap length e))
      go (c ∷ u) e = by_word (c ∷ u) e ∙ rw (e, i.end z)

  pub name-is : optional_name s at ≡ got w n
  unfolding optional_name
  name-is = go w refl
    where
      go : (u : List ℕ) → w ≡ u → optional_name s at ≡ got w n
      go [] e = rw (optional_name, by_word [] e, e, i.stays (ap length e))
      go (c ∷ u) e = rw (optional_name, by_word (c ∷ u) e, e, i.end (omega (arith, ap length e)))

  module _ {A : Type 0} (es : List (Entry A)) (d : A) where
    pub option-none : lookup es w ≡ None → option es d s at ≡ got d at
    unfolding option keyword_of
    option-none e = rw (option, keyword_of, ← i.bytes, e)

    pub option-some : (m : A) → lookup es [] ≡ None → lookup es w ≡ Some m → option es d s at ≡ got m n
    unfolding option keyword_of
    option-some m h e = rw (option, keyword_of, ← i.bytes, e, i.end (go w refl))
      where
        go : (u : List ℕ) → w ≡ u → 0 < length w
        go [] q = absurd (none-some m (sym h ∙ ap (lookup es) (sym q) ∙ e))
        go (c ∷ u) q = omega (arith, ap length q)

no_empty : (sort : Sort) (l : Bool) → lookup (marks_by sort l) [] ≡ None
no_empty Plain l = refl
no_empty Parameter true = refl
no_empty Parameter false = refl
no_empty Event l = refl

-- a mark and a name
module _ (s : List ℕ) (at : ℕ) (sort : Sort) (l : Bool) (w : List ℕ) (n : ℕ) (i : WordIs s at w n) (o : Option Mark) (q : option_map mark_number o ≡ lookup (marks_by sort l) w) where
  pub named-unmarked : at ≤ length s → o ≡ None → NamedIs s at sort l Unmarked w n
  named-unmarked h e = record {
    between = at;
    marked = option-none s at w n i (marks_by sort l) unmarked (sym q ∙ rw e);
    named = name-is s at w n i;
    low = i.low;
    inside = i.inside;
  }

  pub named-marked : (m : Mark) (v : List ℕ) (k : ℕ) → o ≡ Some m → WordIs s n v k → NamedIs s at sort l m v k
  named-marked m v k e j = record {
    between = n;
    marked = option-some s at w n i (marks_by sort l) unmarked (mark_number m) (no_empty sort l) (sym q ∙ rw e);
    named = name-is s n v k j;
    low = omega (arith, i.low, j.low);
    inside = j.inside;
  }

pub ruleset names = (named-unmarked, named-marked)
