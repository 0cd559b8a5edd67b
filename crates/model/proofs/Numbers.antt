-- No refusal has number 0, which C is told of an acceptance, or 14. Order 3: "Number 14 is no longer given."
-- Assumes nothing.
use mathlib.Core.Path.{◌≡◌}
use Prim.Native.Nat.{ℕ, ◌≤◌, ◌<◌}
use native.Mathlib.Omega.{arith}
use denote.Enum.Declared.{tag_of}
use Rattle.model.specs.declared.Refusal.{Refusal}
use Rattle.model.specs.declared.Refusal.TheVariants.{Eos, ExpectOpen, ExpectClose, ExpectDeclaration, ExpectKeyword, ExpectIdentifier, ExpectEnd, TooLong, NotUtf8, TooDeep, InvalidBitWidth, InvalidByteLength, Unknown, NotWellFormed, WrongSort, NoRoom, SheetTooLong, TooManyDeclarations, Repeated, CallTooLong, NotAnEncoding, NoSuchFunction, SheetChanged, NotTight, NoSuchSample}
use Rattle.std.specs.Prelude.{Ok, Err}
use Rattle.model.specs.Answer.{Answer, refused, number, said}
use Rattle.model.specs.contracts.Refusal.{the_type}

-- numbers that no refusal has; and the number of a refusal that stands behind the first seven in the enum
numbers : (w : Refusal) → (number w ≡ 0 → ⊥) × (number w ≡ 14 → ⊥) × (7 ≤ tag_of the_type w → 7 < number w)
unfolding number
numbers Eos = (λ e. omega arith, λ e. omega arith, λ h. omega arith)
numbers ExpectOpen = (λ e. omega arith, λ e. omega arith, λ h. omega arith)
numbers ExpectClose = (λ e. omega arith, λ e. omega arith, λ h. omega arith)
numbers ExpectDeclaration = (λ e. omega arith, λ e. omega arith, λ h. omega arith)
numbers ExpectKeyword = (λ e. omega arith, λ e. omega arith, λ h. omega arith)
numbers ExpectIdentifier = (λ e. omega arith, λ e. omega arith, λ h. omega arith)
numbers ExpectEnd = (λ e. omega arith, λ e. omega arith, λ h. omega arith)
numbers TooLong = (λ e. omega arith, λ e. omega arith, λ h. omega arith)
numbers NotUtf8 = (λ e. omega arith, λ e. omega arith, λ h. omega arith)
numbers TooDeep = (λ e. omega arith, λ e. omega arith, λ h. omega arith)
numbers InvalidBitWidth = (λ e. omega arith, λ e. omega arith, λ h. omega arith)
numbers InvalidByteLength = (λ e. omega arith, λ e. omega arith, λ h. omega arith)
numbers Unknown = (λ e. omega arith, λ e. omega arith, λ h. omega arith)
numbers NotWellFormed = (λ e. omega arith, λ e. omega arith, λ h. omega arith)
numbers WrongSort = (λ e. omega arith, λ e. omega arith, λ h. omega arith)
numbers NoRoom = (λ e. omega arith, λ e. omega arith, λ h. omega arith)
numbers SheetTooLong = (λ e. omega arith, λ e. omega arith, λ h. omega arith)
numbers TooManyDeclarations = (λ e. omega arith, λ e. omega arith, λ h. omega arith)
numbers Repeated = (λ e. omega arith, λ e. omega arith, λ h. omega arith)
numbers CallTooLong = (λ e. omega arith, λ e. omega arith, λ h. omega arith)
numbers NotAnEncoding = (λ e. omega arith, λ e. omega arith, λ h. omega arith)
numbers NoSuchFunction = (λ e. omega arith, λ e. omega arith, λ h. omega arith)
numbers SheetChanged = (λ e. omega arith, λ e. omega arith, λ h. omega arith)
numbers NotTight = (λ e. omega arith, λ e. omega arith, λ h. omega arith)
numbers NoSuchSample = (λ e. omega arith, λ e. omega arith, λ h. omega arith)

pub no_refusal_0 : (w : Refusal) → number w ≡ 0 → ⊥
no_refusal_0 w e = (numbers w).0 e

pub no_refusal_14 : (w : Refusal) → number w ≡ 14 → ⊥
no_refusal_14 w e = (numbers w).1 e

pub number-behind_7 : (w : Refusal) → 7 ≤ tag_of the_type w → 7 < number w
number-behind_7 w h = (numbers w).2 h

-- so no call says it
pub never_14 : (a : Answer) (p : ℕ) → said a ≡ refused 14 p → ⊥
unfolding said
never_14 (Ok n) p e = let z : ◌≡◌ {A = ℕ} 0 1 = cc in omega arith
never_14 (Err r) p e = no_refusal_14 r.refusal cc
