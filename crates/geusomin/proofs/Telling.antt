-- From a call's answer to what C is told.
-- Assumes nothing.
use mathlib.Core.Path.{◌≡◌, refl, sym, ◌∙◌, ap}
use mathlib.Core.List.{List}
use Rattle.std.specs.Prelude.{Option, None, Some, Ok, Err}
use Prim.Native.Nat.{ℕ}
use lib.ListN.{length}
use Rattle.model.specs.declared.Refusal.{Refusal}
use Rattle.model.specs.declared.Refused.{Refused}
use Rattle.model.specs.declared.Found.{Found}
use Rattle.model.specs.declared.Missing.{Missing}
use Rattle.model.specs.Answer.{Outcome, Output, writes, refuses, number, said, outcome, after, Answer, refusing}
use Rattle.model.specs.Calls.{name_output}
use Rattle.model.specs.Sheet.{OnLine}
use Rattle.model.specs.Find.{told as told_in, Search}
use Rattle.geusomin.specs.Told.{code, worth}

module _ (a : Answer) where
  pub tells-accepted : (n : ℕ) → a ≡ Ok n → (0 ≡ code (said a)) × (n ≡ worth (said a))
  unfolding code worth said
  tells-accepted n e = (rw e, rw e)

  pub tells-refused : (x : Refused) (r : ℕ) → a ≡ Err x → r ≡ number x.refusal → (r ≡ code (said a)) × (x.position ≡ worth (said a))
  unfolding code worth said
  tells-refused x r e f = (rw e f, rw e)

  -- a call that writes nothing: what it says is told
  pub told_so : (x : Outcome) (r v : ℕ) → said a ≡ x → r ≡ code (said a) → v ≡ worth (said a) → (r ≡ code x) × (v ≡ worth x)
  told_so x r v e h k = (h ∙ ap code e, k ∙ ap worth e)

  -- any call: what it says is told, and what it leaves stays
  pub told : (o : Output) (b b₁ : List ℕ) (r v : ℕ) → said a ≡ outcome (length b) o → b₁ ≡ after b o → r ≡ code (said a) → v ≡ worth (said a)
      → (r ≡ code (outcome (length b) o)) × ((v ≡ worth (outcome (length b) o)) × (b₁ ≡ after b o))
  told o b b₁ r v e g h k = (h ∙ ap code e, (k ∙ ap worth e, g))

  -- and one that tells a line
  pub told_lined : (o : OnLine) (b b₁ : List ℕ) (r v n : ℕ) → said a ≡ outcome (length b) o.output → b₁ ≡ after b o.output → n ≡ o.line → r ≡ code (said a) → v ≡ worth (said a)
      → (r ≡ code (outcome (length b) o.output)) × ((v ≡ worth (outcome (length b) o.output)) × ((b₁ ≡ after b o.output) × (n ≡ o.line)))
  told_lined o b b₁ r v n e g l h k = let t = told o.output b b₁ r v e g h k in (t.0, (t.1.0, (t.1.1, l)))

-- a search in three numbers
module _ (s o : Search) (e : s ≡ o) where
  pub told-found : (x : Found) → s ≡ Ok x → (0 ≡ (told_in o).refusal) × ((x.place ≡ (told_in o).place) × (x.compared ≡ (told_in o).compared))
  unfolding told_in
  told-found x f = let g : o ≡ Ok x = sym e ∙ f in (rw g, (rw g, rw g))

  pub told-missing : (x : Missing) (r : ℕ) → s ≡ Err x → r ≡ number x.refusal → (r ≡ (told_in o).refusal) × ((0 ≡ (told_in o).place) × (x.compared ≡ (told_in o).compared))
  unfolding told_in
  told-missing x r f h = let g : o ≡ Err x = sym e ∙ f in (rw g h, (rw g, rw g))

-- the name call
module _ (s b : List ℕ) where
  pub name_copied : (a : Answer) (p b₁ : List ℕ) (r v : ℕ) → name_output s ≡ writes p → said a ≡ outcome (length b) (writes p) → b₁ ≡ after b (writes p) → r ≡ code (said a) → v ≡ worth (said a)
      → (r ≡ code (outcome (length b) (name_output s))) × ((v ≡ worth (outcome (length b) (name_output s))) × (b₁ ≡ after b (name_output s)))
  name_copied a p b₁ r v o g h k l = rw o (told a (writes p) b b₁ r v g h k l)

  pub name-refused : (a : Answer) (w : Refusal) (r v : ℕ) → name_output s ≡ refuses w 0 → a ≡ refusing w 0 → r ≡ code (said a) → v ≡ worth (said a)
      → (r ≡ code (outcome (length b) (name_output s))) × ((v ≡ worth (outcome (length b) (name_output s))) × (b ≡ after b (name_output s)))
  unfolding said outcome after
  name-refused a w r v o e k l = rw o (told a (refuses w 0) b b r v (rw e) refl k l)
