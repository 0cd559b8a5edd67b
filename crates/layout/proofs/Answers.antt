-- What a call says and leaves, by how it ends: refused, too little room, or written.
-- Assumes nothing.
use Rattle.std.specs.Prelude.{Ok}
use mathlib.Core.Path.{◌≡◌, refl, ◌∙◌}
use mathlib.Core.Logic.{◌↔◌}
use mathlib.Core.Bool.{Bool, true, false}
use mathlib.Core.List.{List, ◌++◌}
use Prim.Native.Nat.{ℕ, ◌≤◌, ◌<◌}
use native.Mathlib.Omega.{arith}
use native.Mathlib.Nat.{zero-add}
use lib.Dec.{ltb}
use lib.ListN.{length, drop, length-append, length-drop}
use borrow.Author.Tests.{lt-ltb, le-ltb, ltb-true, ltb-false}
use Rattle.model.specs.declared.Refusal.{Refusal}
use Rattle.model.specs.declared.Refusal.TheVariants.{NoRoom}
use Rattle.model.specs.Answer.{accepted, refused, Output, writes, refuses, number, said, needed, outcome, after, Answer, refusing}
use Rattle.layout.specs.Answers.{Ends}
use Rattle.layout.specs.Buffer.{put}

module _ (o : Output) (b : List ℕ) (r : Answer) where
  pub ends-refused : (w : Refusal) (p : ℕ) → r ≡ refusing w p → o ≡ refuses w p → Ends o b b r
  unfolding said outcome after
  ends-refused w p e f = (rw (e, f), rw f)

  pub ends-full : (u : List ℕ) → r ≡ refusing NoRoom 0 → o ≡ writes u → length b < length u → Ends o b b r
  unfolding said outcome after
  ends-full u e f h = (rw (e, f, outcome, lt-ltb (length b) (length u) h), rw (f, after, lt-ltb (length b) (length u) h))

  pub ends-written : (u b₁ : List ℕ) → r ≡ Ok (length u) → o ≡ writes u → length u ≤ length b → b₁ ≡ put 0 u b → Ends o b b₁ r
  unfolding said outcome after put
  ends-written u b₁ e f h g = (rw (e, f, outcome, le-ltb (length b) (length u) h), rw (f, after, le-ltb (length b) (length u) h) (g ∙ rw zero-add))

-- "20 while the output would fit fails demand 2, because the needed length has a definition": what a call would write is refused exactly where it
-- is lent less than that
pub no_room : (room : ℕ) (u : List ℕ) → (outcome room (writes u) ≡ refused (number NoRoom) 0) ↔ (room < needed (writes u))
unfolding outcome needed
no_room room u = (λ e. go (ltb room (length u)) refl e, λ h. rw (outcome, lt-ltb room (length u) h))
  where
    go : (t : Bool) → ltb room (length u) ≡ t → outcome room (writes u) ≡ refused (number NoRoom) 0 → room < length u
    go true q e = ltb-true room (length u) q
    go false q e = let f : accepted (length u) ≡ refused (number NoRoom) 0 = rw (outcome, q) at e in let z : ◌≡◌ {A = ℕ} 0 1 = cc in absurd (omega arith)

-- what is left has the length of what was lent
pub keeps_length : (b : List ℕ) (o : Output) → length (after b o) ≡ length b
unfolding after
keeps_length b (writes u) = go (ltb (length b) (length u)) refl
  where
    go : (t : Bool) → ltb (length b) (length u) ≡ t → length {A = ℕ} (elim t as (λ _. List ℕ) [ true ↦ b | false ↦ u ++ drop (length u) b ]) ≡ length b
    go true e = refl
    go false e = length-append u (drop (length u) b) ∙ omega (arith, length-drop (length u) b, ltb-false (length b) (length u) e)
keeps_length b (refuses w p) = refl

-- an acceptance tells that there was something to write, and room for it
pub accepted-is : (o : Output) (room n : ℕ) → accepted n ≡ outcome room o → (u : List ℕ) × (o ≡ writes u) × (n ≡ length u) × (length u ≤ room)
unfolding outcome
accepted-is (writes u) room n e = go (ltb room (length u)) refl e
  where
    go : (b : Bool) → ltb room (length u) ≡ b → accepted n ≡ elim b [ true ↦ refused (number NoRoom) 0 | false ↦ accepted (length u) ] → (v : List ℕ) × (writes u ≡ writes v) × (n ≡ length v) × (length v ≤ room)
    go true q f = absurd (let z : ◌≡◌ {A = ℕ} 0 1 = cc in omega arith)
    go false q f = let z : n ≡ length u = cc in (u, refl, z, ltb-false room (length u) q)
accepted-is (refuses w p) room n e = absurd (let z : ◌≡◌ {A = ℕ} 0 1 = cc in omega arith)

pub after-written : (b u : List ℕ) (o : Output) → o ≡ writes u → length u ≤ length b → after b o ≡ u ++ drop (length u) b
unfolding after
after-written b u o e h = rw (e, after, le-ltb (length b) (length u) h)
