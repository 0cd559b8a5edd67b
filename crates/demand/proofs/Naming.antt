-- What the name call hands back, as the theorems take it.
-- Assumes nothing.
use mathlib.Core.Path.{◌≡◌, sym, ap}
use mathlib.Core.List.{List, []}
use Prim.Native.Nat.{ℕ}
use Rattle.model.specs.declared.Refusal.{Refusal}
use Rattle.model.specs.Answer.{writes, refuses, number, handed, refusal_number}
use Rattle.model.specs.Calls.{name_output}
use Rattle.demand.specs.Runs.{NameRun}

module _ (b : List ℕ) where
  pub name_run : (u : List ℕ) → name_output b ≡ writes u → NameRun b u 0
  unfolding handed refusal_number
  name_run u e = record { hands = ap handed (sym e); tells = ap refusal_number (sym e) }

  pub refused_run : (w : Refusal) → name_output b ≡ refuses w 0 → NameRun b [] (number w)
  unfolding handed refusal_number
  refused_run w e = record { hands = ap handed (sym e); tells = ap refusal_number (sym e) }
