-- The keyword that is wanted, and the wordings.
-- Assumes nothing.
use mathlib.Core.Path.{◌≡◌, refl}
use mathlib.Core.Bool.{Bool, true, false}
use mathlib.Core.List.{List}
use Prim.Native.Nat.{ℕ}
use Rattle.std.specs.Prelude.{Option, None, Some}
use Rattle.kinds.specs.Bytes.{ascii}
use Rattle.model.specs.declared.Refusal.{Refusal}
use Rattle.model.specs.declared.Refusal.TheVariants.{Eos, ExpectOpen, ExpectClose, ExpectDeclaration, ExpectKeyword, ExpectIdentifier, ExpectEnd, TooLong, NotUtf8, TooDeep, InvalidBitWidth, InvalidByteLength, Unknown, NotWellFormed, WrongSort, NoRoom, SheetTooLong, TooManyDeclarations, Repeated, CallTooLong, NotAnEncoding, NoSuchFunction, SheetChanged, NotTight, NoSuchSample}
use Rattle.model.specs.declared.Keyword.{Keyword}
use Rattle.model.specs.declared.Keyword.TheVariants as key
use Rattle.model.specs.declared.Call.TheVariants as call
use Rattle.model.specs.KindText.{starts}
use Rattle.model.specs.Reading.{keyword_text, wanted}
use Rattle.model.specs.Answer.{number}
use Rattle.model.specs.Message.{wording}

-- the general call, where t₁ to t₄ are the code's tests
module _ (s : List ℕ) (t₁ : Bool) (e₁ : t₁ ≡ starts (ascii "function") s) where
  pub opens-function : t₁ ≡ true → Some key.Function ≡ wanted call.General s
  unfolding wanted keyword_text
  opens-function h = rw (wanted, ← e₁, h)

  module _ (t₂ : Bool) (f₁ : t₁ ≡ false) (e₂ : t₂ ≡ starts (ascii "constructor") s) where
    pub opens-constructor : t₂ ≡ true → Some key.Constructor ≡ wanted call.General s
    unfolding wanted keyword_text
    opens-constructor h = rw (wanted, ← e₁, f₁, ← e₂, h)

    module _ (t₃ : Bool) (f₂ : t₂ ≡ false) (e₃ : t₃ ≡ starts (ascii "event") s) where
      pub opens-event : t₃ ≡ true → Some key.Event ≡ wanted call.General s
      unfolding wanted keyword_text
      opens-event h = rw (wanted, ← e₁, f₁, ← e₂, f₂, ← e₃, h)

      module _ (t₄ : Bool) (f₃ : t₃ ≡ false) (e₄ : t₄ ≡ starts (ascii "error") s) where
        pub opens-error : t₄ ≡ true → Some key.Error ≡ wanted call.General s
        unfolding wanted keyword_text
        opens-error h = rw (wanted, ← e₁, f₁, ← e₂, f₂, ← e₃, f₃, ← e₄, h)

        pub opens-nothing : t₄ ≡ false → None ≡ wanted call.General s
        unfolding wanted keyword_text
        opens-nothing h = rw (wanted, ← e₁, f₁, ← e₂, f₂, ← e₃, f₃, ← e₄, h)

-- a refusal that is none of the first seven has no wording
pub wordless : (w : Refusal) (k : Option Keyword) → (w ≡ Eos → ⊥) → (w ≡ ExpectOpen → ⊥) → (w ≡ ExpectClose → ⊥) → (w ≡ ExpectDeclaration → ⊥) → (w ≡ ExpectKeyword → ⊥) → (w ≡ ExpectIdentifier → ⊥) → (w ≡ ExpectEnd → ⊥) → None ≡ wording w k
unfolding wording number
wordless Eos k h1 h2 h3 h4 h5 h6 h7 = absurd (h1 refl)
wordless ExpectOpen k h1 h2 h3 h4 h5 h6 h7 = absurd (h2 refl)
wordless ExpectClose k h1 h2 h3 h4 h5 h6 h7 = absurd (h3 refl)
wordless ExpectDeclaration k h1 h2 h3 h4 h5 h6 h7 = absurd (h4 refl)
wordless ExpectKeyword k h1 h2 h3 h4 h5 h6 h7 = absurd (h5 refl)
wordless ExpectIdentifier k h1 h2 h3 h4 h5 h6 h7 = absurd (h6 refl)
wordless ExpectEnd k h1 h2 h3 h4 h5 h6 h7 = absurd (h7 refl)
wordless TooLong k h1 h2 h3 h4 h5 h6 h7 = refl
wordless NotUtf8 k h1 h2 h3 h4 h5 h6 h7 = refl
wordless TooDeep k h1 h2 h3 h4 h5 h6 h7 = refl
wordless InvalidBitWidth k h1 h2 h3 h4 h5 h6 h7 = refl
wordless InvalidByteLength k h1 h2 h3 h4 h5 h6 h7 = refl
wordless Unknown k h1 h2 h3 h4 h5 h6 h7 = refl
wordless NotWellFormed k h1 h2 h3 h4 h5 h6 h7 = refl
wordless WrongSort k h1 h2 h3 h4 h5 h6 h7 = refl
wordless NoRoom k h1 h2 h3 h4 h5 h6 h7 = refl
wordless SheetTooLong k h1 h2 h3 h4 h5 h6 h7 = refl
wordless TooManyDeclarations k h1 h2 h3 h4 h5 h6 h7 = refl
wordless Repeated k h1 h2 h3 h4 h5 h6 h7 = refl
wordless CallTooLong k h1 h2 h3 h4 h5 h6 h7 = refl
wordless NotAnEncoding k h1 h2 h3 h4 h5 h6 h7 = refl
wordless NoSuchFunction k h1 h2 h3 h4 h5 h6 h7 = refl
wordless SheetChanged k h1 h2 h3 h4 h5 h6 h7 = refl
wordless NotTight k h1 h2 h3 h4 h5 h6 h7 = refl
wordless NoSuchSample k h1 h2 h3 h4 h5 h6 h7 = refl
