-- Words: the keyword, the name, and what is stated behind the inputs.
-- Assumes nothing.
use Rattle.std.proofs.Common.{◌≡◌, refl, sym, ◌∙◌, ap, subst, ℕ, zero, suc, ◌+◌, ◌≤◌, ◌<◌, Bool, true, false, List, [], ◌∷◌, ◌++◌, length, length-append, arith, eqb, eqb-true}
use Rattle.std.proofs.lemmas.Bool.{false≢true}
use Rattle.std.specs.Prelude.{Option, None, Some, Ok, Err}
use Rattle.kinds.specs.Bytes.{same}
use Rattle.kinds.proofs.Logic.{same_equal}
use Rattle.model.specs.declared.Refusal.TheVariants.{ExpectKeyword, ExpectIdentifier}
use Rattle.model.specs.declared.Keyword.{Keyword}
use Rattle.model.specs.declared.Refused.{Refused}
use Rattle.model.specs.declared.Keyword.TheVariants as key
use Rattle.model.specs.Answer.{at_start}
use Rattle.model.specs.KindText.{entry, lookup}
use Rattle.model.specs.Parser.{got, found, missing, on_ans, keyword_of, look_ident, ident, keyword}
use Rattle.model.specs.Reading.{keyword_text}
use Rattle.model.specs.Layout.{record_of}
use Rattle.model.specs.Record.{encode_name}
use Rattle.layout.specs.Buffer.{put, head}
use Rattle.layout.proofs.Puts.{length-head, headed}
use Rattle.fields.specs.Words.{WordIs}
use Rattle.fields.proofs.Begins.{begins-put}
use Rattle.fields.proofs.Spots.{no_ident, is-ident, option-none as unlisted, option-some as listed}
use Rattle.fields.specs.Scratch.{read_to, bad_at, to_read, bytes_of, Begins}
use Rattle.parser.specs.Stages.{Did, Took, ident_of, words_of, absent, OptionIs}

keyword-least : (k : Keyword) → 5 ≤ length (keyword_text k)
unfolding keyword_text
keyword-least key.Function = omega arith
keyword-least key.Constructor = omega arith
keyword-least key.Event = omega arith
keyword-least key.Error = omega arith

-- no word of a table is empty
empty-unlisted : (k : Keyword) → lookup (words_of k) [] ≡ None
unfolding words_of
empty-unlisted key.Function = refl
empty-unlisted key.Constructor = refl
empty-unlisted key.Event = refl
empty-unlisted key.Error = refl

-- the word behind any blanks
module _ (s : List ℕ) (at n : ℕ) (w : List ℕ) (i : WordIs s at w n) where
  -- one wanted word, where r is the code's test
  module _ (v : List ℕ) (r : Bool) (q : r ≡ same v w) where
    pub word-found : r ≡ true → 0 < length v → keyword_of {A = Unit {0}} (entry v tt ∷ []) s at ≡ found tt n
    unfolding keyword_of
    word-found f l = rw (keyword_of, ← i.bytes, lookup, ← q, f, ← i.end (rw (← (same_equal v w).0 (sym q ∙ f)) l))

    pub word-missing : r ≡ false → keyword_of {A = Unit {0}} (entry v tt ∷ []) s at ≡ missing
    unfolding keyword_of
    word-missing f = rw (keyword_of, ← i.bytes, lookup, ← q, f)

  -- what is stated
  module _ (k : Keyword) (o : Option ℕ) (q : o ≡ lookup (words_of k) w) where
    pub option-none : (d : ℕ) → at ≤ length s → o ≡ None → d ≡ absent k → OptionIs s at k (record { number = d; next = at })
    option-none d l e f = record { same = unlisted s at w n i (words_of k) (absent k) (sym q ∙ e) ∙ ap (λ (x : ℕ). got x at) (sym f); low = omega arith; inside = l }

    pub option-some : (m : ℕ) → o ≡ Some m → OptionIs s at k (record { number = m; next = n })
    option-some m e = record { same = listed s at w n i (words_of k) (absent k) m (empty-unlisted k) (sym q ∙ e); low = omega (arith, i.low); inside = i.inside }

  -- a name, where x is the code's test
  pub ident-none : (b : List ℕ) (x : Bool) → x ≡ eqb (length w) 0 → x ≡ true → Did 0 s at b (ident_of s at) (Err (bad_at ExpectIdentifier at))
  unfolding ident_of ident look_ident on_ans to_read bytes_of
  ident-none b x f e = rw (ident_of, ident, no_ident s at w n i (eqb-true (length w) 0 (sym f ∙ e))) (record { same = refl; within = tt; wrote = refl })

  named : (l : ℕ) → eqb l 0 ≡ false → 0 < l
  named zero e = absurd (false≢true (sym e))
  named (suc l) e = omega arith

  pub ident-got : (b b₁ b₂ : List ℕ) (x : Bool) → x ≡ eqb (length w) 0 → x ≡ false → b₁ ≡ put 0 (head (6 + length w) 17) b → b₂ ≡ put 6 w b₁ → Did 0 s at b₂ (ident_of s at) (read_to n (6 + length w))
  unfolding ident_of ident on_ans to_read bytes_of encode_name
  ident-got b b₁ b₂ x p z f g =
      let h : List ℕ = head (6 + length w) 17 in
      let e : h ++ w ≡ record_of 4 17 w = headed 17 (6 + length w) w refl in
      let l : length (record_of 4 17 w) ≡ 6 + length w = ap length (sym e) ∙ omega (arith, length-append h w, length-head (6 + length w) 17) in
      rw (ident_of, ident, is-ident s at w n i (named (length w) (sym p ∙ z))) (record {
        same = ap (read_to n) (sym l);
        within = omega (arith, i.low, i.inside, named (length w) (sym p ∙ z));
        wrote = subst (Begins b₂) e (begins-put h w b₁ b₂ 6 (begins-put [] h b b₁ 0 refl refl f) (sym (length-head (6 + length w) 17)) g);
      })

-- the keyword
module _ (s : List ℕ) (k : Keyword) (n : ℕ) (w t : List ℕ) (r : Bool) (i : WordIs s 0 w n) (e : t ≡ keyword_text k) (q : r ≡ same t w) where
  pub keyword-here : r ≡ true → Took s 5 (keyword (keyword_text k) s 0) (Ok n)
  unfolding keyword
  keyword-here f =
      let l : 5 ≤ length w = rw (← (same_equal t w).0 (sym q ∙ f), e) (keyword-least k) in
      record {
        same = sym (rw (keyword, word-found s 0 n w i (keyword_text k) r (q ∙ ap (λ (x : List ℕ). same x w) e) f (omega (arith, keyword-least k))));
        within = omega (arith, l, i.low, i.inside);
      }

  pub keyword-missing : (x : Refused) → r ≡ false → x ≡ at_start ExpectKeyword → Took s 5 (keyword (keyword_text k) s 0) (Err x)
  unfolding keyword
  keyword-missing x f g = record { same = rw g (sym (rw (keyword, word-missing s 0 n w i (keyword_text k) r (q ∙ ap (λ (x : List ℕ). same x w) e) f))); within = tt }

pub ruleset wording = (option-none, option-some, ident-none, ident-got, keyword-here, keyword-missing)
