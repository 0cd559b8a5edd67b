-- The words between a function's inputs and its outputs.
-- Assumes nothing.
use Rattle.std.proofs.Common.{◌≡◌, refl, sym, ◌∙◌, ap, ℕ, ◌≤◌, ◌<◌, Bool, true, false, not, ◌||◌, List, [], ◌∷◌, length, take, drop, arith, eqb}
use Rattle.std.proofs.lemmas.Bool.{false≢true}
use Rattle.std.specs.Prelude.{Option, None, Some}
use mathlib.Core.Logic.{◌⊎◌, inl, inr}
use borrow.Author.Tests.{lt-ltb, le-ltb, eqb-true}
use Rattle.kinds.specs.Bytes.{is_word}
use Rattle.model.specs.declared.Keyword.{Keyword}
use Rattle.model.specs.declared.Keyword.TheVariants as key
use Rattle.model.specs.Text.{char_of, blank, skip, first, peek, word_length}
use Rattle.model.specs.Tree.{not_stated}
use Rattle.model.specs.KindText.{Entry, lookup}
use Rattle.model.specs.Parser.{got, then, word, word_end, keyword_of, option}
use Rattle.model.specs.Reading.{mutabilities, visibilities, visibility, modifiers}
use Rattle.model.specs.Record.{is_absent}
use Rattle.model.proofs.Bounds.{In, Entries, lookup-of}
use Rattle.model.proofs.Modifiers.{one-sort, word_first}
use Rattle.model.proofs.Scans.{skip-none}
use Rattle.model.proofs.Stands.{peek-first}
use Rattle.text.specs.Found.{byte_or_end}
use Rattle.fields.specs.declared.Seen.{Seen}
use Rattle.fields.specs.Words.{WordIs, Looked}
use Rattle.fields.proofs.Spots.{option-some as listed}
use Rattle.parser.specs.declared.Stated.{Stated}
use Rattle.parser.specs.Stages.{words_of, absent, OptionIs, is_visibility, begins_modifier, ModifierIs, VisibleIs, stated_of, StatedIs}

-- a visibility word, or none
module _ (w : List ℕ) where
  is_seen : is_visibility w ≡ true → lookup visibilities w ≡ Some true
  unfolding is_visibility
  is_seen h = go (lookup visibilities w) (lookup-of (λ _ b. b ≡ true) visibilities w (refl, (refl, tt))) h
    where
      go : (o : Option Bool) → In (λ b. b ≡ true) o → not (is_absent o) ≡ true → o ≡ Some true
      go None i k = absurd (false≢true k)
      go (Some b) i k = ap Some i

  is-unseen : is_visibility w ≡ false → lookup visibilities w ≡ None
  unfolding is_visibility
  is-unseen h = go (lookup visibilities w) h
    where
      go : (o : Option Bool) → not (is_absent o) ≡ false → o ≡ None
      go None k = refl
      go (Some b) k = absurd (false≢true (sym k))

  -- no word of a table is empty
  seen-some : is_visibility w ≡ true → 0 < length w
  unfolding is_visibility
  seen-some h = go w h
    where
      go : (v : List ℕ) → is_visibility v ≡ true → 0 < length v
      go [] k = absurd (false≢true k)
      go (c ∷ v) k = omega arith

-- by the byte behind the blanks, which begins no word of a table
module _ (s : List ℕ) (at : ℕ) (v : Seen) (x : Bool) (l : Looked s at v) (f : x ≡ begins_modifier (byte_or_end v.byte)) (g : x ≡ false) where
  unlisted : {A : Type 0} (es : List (Entry A)) → Entries (λ v _. (is_word v ≡ true) × (begins_modifier (first v) ≡ true)) es → lookup es (word s at) ≡ None
  unlisted {A} es k = go (lookup es (word s at)) (lookup-of (λ v _. (is_word v ≡ true) × (begins_modifier (first v) ≡ true)) es (word s at) k)
    where
      go : (o : Option A) → In (λ _. (is_word (word s at) ≡ true) × (begins_modifier (first (word s at)) ≡ true)) o → o ≡ None
      go None p = refl
      go (Some y) p = absurd (false≢true (sym g ∙ f ∙ ap begins_modifier (l.byte ∙ ap (peek s) l.place ∙ word_first s at p.0) ∙ p.1))

  pub unbegun : ModifierIs s at None
  unbegun = (unlisted visibilities ((refl, refl), ((refl, refl), tt)), unlisted mutabilities ((refl, refl), ((refl, refl), ((refl, refl), tt))))

-- a word stands where a text begins, and no blank
abbrev Opens : List ℕ → Type 0
Opens t = (blank t ≡ 0) × (0 < length (take (word_length t) t))

-- so it does by the first byte of a word of a table
opens-word : (c : ℕ) (t : List ℕ) → begins_modifier c ≡ true → Opens (c ∷ t)
unfolding blank char_of word_length
opens-word c t h = go (eqb c 101) (eqb c 112) (eqb c 118) refl refl refl h
  where
    go : (x y z : Bool) → eqb c 101 ≡ x → eqb c 112 ≡ y → eqb c 118 ≡ z → (x || (y || z)) ≡ true → Opens (c ∷ t)
    go true y z p q r k = rw (eqb-true c 101 p) (refl, omega arith)
    go false true z p q r k = rw (eqb-true c 112 q) (refl, omega arith)
    go false false z p q r k = rw (eqb-true c 118 (r ∙ k)) (refl, omega arith)

-- by the byte behind the blanks, which begins a word of a table: the word that is read from there on is the one behind them
module _ (s : List ℕ) (at : ℕ) (v : Seen) (x : Bool) (l : Looked s at v) (f : x ≡ begins_modifier (byte_or_end v.byte)) (g : x ≡ true) where
  opens-there : Opens (drop v.at s)
  opens-there = go (drop v.at s) refl
    where
      go : (t : List ℕ) → drop v.at s ≡ t → Opens t
      go [] e = absurd (false≢true (ap begins_modifier (sym (l.byte ∙ peek-first s v.at [] e)) ∙ sym f ∙ g))
      go (c ∷ t) e = opens-word c t (ap begins_modifier (sym (l.byte ∙ peek-first s v.at (c ∷ t) e)) ∙ sym f ∙ g)

  here : skip s v.at ≡ v.at
  here = skip-none s v.at opens-there.0

  pub begun : (w : List ℕ) (n : ℕ) → WordIs s v.at w n → WordIs s at w n
  unfolding word word_end
  begun w n i =
      let same : w ≡ take (word_length (drop v.at s)) (drop v.at s) = i.bytes ∙ rw (word, here) in record {
        bytes = same ∙ rw (word, ← l.place);
        end = λ p. i.end p ∙ rw (word_end, here, ← l.place);
        stays = λ z. absurd (omega (arith, opens-there.1, z, ap length same));
        low = omega (arith, i.low, l.low);
        inside = i.inside;
      }

-- where no visibility word stands
module _ (s : List ℕ) (at : ℕ) (e : lookup visibilities (word s at) ≡ None) where
  unseen : visibility s at ≡ got false at
  unfolding visibility option keyword_of
  unseen = rw (visibility, option, keyword_of, e)

  visible-none : at ≤ length s → VisibleIs s at at
  visible-none h = record { same = unseen ∙ rw (le-ltb at at (omega arith)); low = omega arith; inside = h }

  stated-none : (m : ℕ) → OptionIs s at key.Function (record { number = m; next = at }) → StatedIs s at key.Function (record { number = m; next = at })
  unfolding stated_of modifiers then words_of absent
  stated-none m j = record { same = rw (unseen, j.same, unseen); low = j.low; inside = j.inside }

-- nor a mutability word
module _ (s : List ℕ) (at : ℕ) (h : at ≤ length s) (i : ModifierIs s at None) where
  pub visible-unbegun : VisibleIs s at at
  visible-unbegun = visible-none s at i.0 h

  pub stated-unbegun : StatedIs s at key.Function (record { number = not_stated; next = at })
  unfolding option keyword_of words_of absent
  stated-unbegun = stated-none s at i.0 _ (record { same = rw (option, keyword_of, i.1); low = omega arith; inside = h })

-- by the word that stands there
module _ (s : List ℕ) (at n : ℕ) (w : List ℕ) (h : at ≤ length s) (i : WordIs s at w n) (x : Bool) (f : x ≡ is_visibility w) where
  word-seen : x ≡ true → visibility s at ≡ got true n
  unfolding visibility
  word-seen g = listed s at w n i visibilities false true refl (is_seen w (sym f ∙ g))

  pub visible-there : x ≡ true → VisibleIs s at n
  visible-there g = record { same = word-seen g ∙ rw (lt-ltb at n (omega (arith, i.low, seen-some w (sym f ∙ g)))); low = omega (arith, i.low); inside = i.inside }

  word-unseen : x ≡ false → lookup visibilities (word s at) ≡ None
  word-unseen g = rw (← i.bytes) (is-unseen w (sym f ∙ g))

  pub visible-other : x ≡ false → VisibleIs s at at
  visible-other g = visible-none s at (word-unseen g) h

  pub stated-visible : (r : Stated) → x ≡ true → OptionIs s n key.Function r → StatedIs s at key.Function r
  unfolding stated_of modifiers then words_of absent
  stated-visible r g j = record { same = rw (word-seen g, j.same); low = omega (arith, i.low, j.low); inside = j.inside }

  module _ (o : Option ℕ) (q : o ≡ lookup mutabilities w) where
    pub stated-first : (m p : ℕ) → o ≡ Some m → VisibleIs s n p → StatedIs s at key.Function (record { number = m; next = p })
    unfolding stated_of modifiers then
    stated-first m p e j =
        let y : lookup mutabilities w ≡ Some m = sym q ∙ e in
        let u : lookup visibilities (word s at) ≡ None = rw (← i.bytes) (one-sort w m y) in
        record { same = rw (unseen s at u, listed s at w n i mutabilities not_stated m refl y, j.same); low = omega (arith, i.low, j.low); inside = j.inside }

    pub stated-other : x ≡ false → o ≡ None → StatedIs s at key.Function (record { number = not_stated; next = at })
    stated-other g e = stated-unbegun s at h (word-unseen g, rw (← i.bytes) (sym q ∙ e))

-- by the keyword
pub stated-option : (s : List ℕ) (at : ℕ) (k : Keyword) (r : Stated) → (k ≡ key.Constructor) ⊎ ((k ≡ key.Event) ⊎ (k ≡ key.Error)) → OptionIs s at k r → StatedIs s at k r
unfolding stated_of
stated-option s at k r (inl e) j = rw e (rw e at j)
stated-option s at k r (inr (inl e)) j = rw e (rw e at j)
stated-option s at k r (inr (inr e)) j = rw e (rw e at j)
