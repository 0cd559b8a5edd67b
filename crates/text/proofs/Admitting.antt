-- What is admitted is what is read.
-- Assumes nothing.
use mathlib.Core.Path.{◌≡◌, refl}
use mathlib.Core.Bool.{Bool, true, false}
use mathlib.Core.List.{List}
use Rattle.std.specs.Prelude.{Option, None, Some}
use Rattle.std.proofs.lemmas.Option.{none-some, same_Some}
use Prim.Native.Nat.{ℕ}
use lib.Dec.{ltb}
use lib.ListN.{length}
use Rattle.model.specs.declared.Refusal.TheVariants.{TooLong, NotUtf8}
use Rattle.model.specs.declared.Refused.{Refused}
use Rattle.model.specs.Answer.{at_start, refusal_at}
use Rattle.model.specs.Text.{valid_length}
use Rattle.model.specs.Parser.{Ans, bad}
use Rattle.model.specs.Reading.{longest_text, admit}
use Rattle.text.specs.Admitted.{refused_first}

-- what is read of a text that is refused first, or not
by : {A : Type 0} → Ans A → Option Refused → Ans A
by a None = a
by a (Some r) = bad r.refusal r.position

module _ {A : Type 0} (f : List ℕ → Ans A) (s : List ℕ) where
  admit-by : admit f s ≡ by (f s) (refused_first s)
  unfolding admit refused_first by
  admit-by = go (ltb longest_text (length s)) (ltb (valid_length s) (length s))
    where
      go : (a b : Bool) → elim a as (λ _. Ans A) [ true ↦ bad TooLong 0 | false ↦ elim b [ true ↦ bad NotUtf8 (valid_length s) | false ↦ f s ] ]
          ≡ by (f s) (elim a as (λ _. Option Refused) [ true ↦ Some (at_start TooLong) | false ↦ elim b [ true ↦ Some (refusal_at NotUtf8 (valid_length s)) | false ↦ None ] ])
      go true b = refl
      go false true = refl
      go false false = refl

  pub admits : refused_first s ≡ None → admit f s ≡ f s
  unfolding by
  admits e = rw (admit-by, e)

  pub refuses-first : (r : Refused) → refused_first s ≡ Some r → admit f s ≡ bad r.refusal r.position
  unfolding by
  refuses-first r e = rw (admit-by, e)
