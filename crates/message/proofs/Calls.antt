-- The call, by how the reading ends.
-- Assumes nothing.
use mathlib.Core.Path.{◌≡◌, refl, sym, ◌∙◌, ap}
use mathlib.Core.Bool.{Bool, true, false}
use mathlib.Core.List.{List, [], ◌++◌}
use Rattle.std.specs.Prelude.{Option, None, Some, Ok, Err}
use Prim.Native.Nat.{ℕ, ◌≤◌}
use native.Mathlib.Omega.{arith}
use lib.Dec.{ltb}
use lib.ListN.{length, take}
use Rattle.model.specs.declared.Refusal.{Refusal}
use Rattle.model.specs.declared.Refused.{Refused}
use Rattle.model.specs.declared.Refusal.TheVariants.{TooDeep, NoRoom}
use Rattle.model.specs.declared.Keyword.{Keyword}
use Rattle.model.specs.declared.Call.{Call}
use Rattle.model.specs.Tree.{Declaration}
use Rattle.model.specs.Parser.{Ans, got, bad, deep}
use Rattle.model.specs.Reading.{wanted, parse}
use Rattle.model.specs.Record.{encode}
use Rattle.model.specs.Answer.{Output, writes, accepted, refused, number, said, outcome, after, Answer}
use Rattle.model.specs.Calls.{written, read_output}
use Rattle.model.specs.Message.{wording, message_text, message_by, message_of, message_output}
use Rattle.layout.specs.Answers.{Ends}
use Rattle.layout.specs.Buffer.{put}
use Rattle.layout.proofs.Answers.{ends-written}
use Rattle.message.specs.Lines.{placed, display}

-- an accepted text with no room
full : (n : ℕ) (k : Option Keyword) (s : List ℕ) (w : Refusal) (p : ℕ) (t : Bool) → refused (number w) p ≡ elim t [ true ↦ refused (number NoRoom) 0 | false ↦ accepted n ] → writes [] ≡ message_by s p (wording w k)
unfolding wording number
full n k s w p true e =
    let f : number w ≡ number NoRoom = cc in
    rw f
full n k s w p false e = absurd (let z : ◌≡◌ {A = ℕ} 0 1 = cc in omega arith)

-- what a refusal tells of the reading
of-refused : (s : List ℕ) (k : Option Keyword) (a : Ans Declaration) (w : Refusal) (p : ℕ) → refused (number w) p ≡ outcome 1 (written (encode 4) a) → message_of s k a ≡ message_by s p (wording w k)
unfolding written outcome wording number
of-refused s k (got d n) w p e = full (length (encode 4 d)) k s w p (ltb 1 (length (encode 4 d))) e
of-refused s k (bad v q) w p e =
    let f : number v ≡ number w = cc in
    let g : q ≡ p = cc in
    rw (f, g)
of-refused s k (deep q) w p e =
    let f : number w ≡ number TooDeep = cc in
    rw f

-- and an acceptance
of-accepted : (s : List ℕ) (k : Option Keyword) (a : Ans Declaration) (n : ℕ) → accepted n ≡ outcome 1 (written (encode 4) a) → message_of s k a ≡ writes []
unfolding written outcome
of-accepted s k (got d m) n e = refl
of-accepted s k (bad v q) n e = absurd (let z : ◌≡◌ {A = ℕ} 0 1 = cc in omega arith)
of-accepted s k (deep q) n e = refl

put-empty : (b : List ℕ) → b ≡ put 0 [] b
unfolding put
put-empty b = refl

-- nothing is written
nothing : (o : Output) (b : List ℕ) → o ≡ writes [] → Ends o b b (Ok 0)
nothing o b e = ends-written o b (Ok 0) [] b refl e (omega arith) (put-empty b)

module _ (c : Call) (s b : List ℕ) (r : Answer) (h : said r ≡ outcome 1 (read_output c s)) where
  pub message-accepted : (n : ℕ) → r ≡ Ok n → Ends (message_output c s) b b (Ok 0)
  unfolding message_output read_output said
  message-accepted n e = nothing (message_output c s) b (of-accepted s (wanted c s) (parse c s) n (rw e at h))

  pub message-refused : (e : Refused) (b₁ : List ℕ) (x : Answer) → r ≡ Err e → said x ≡ outcome (length b) (display c s e.refusal e.position) → b₁ ≡ after b (display c s e.refusal e.position) → Ends (message_output c s) b b₁ x
  unfolding message_output read_output said display
  message-refused e b₁ x f g i = rw (of-refused s (wanted c s) (parse c s) e.refusal e.position (rw f at h)) (g, i)

-- a refusal displayed
module _ (c : Call) (s : List ℕ) (w : Refusal) (p : ℕ) (b : List ℕ) where
  pub display-none : (o : Option (List ℕ)) → o ≡ wording w (wanted c s) → o ≡ None → Ends (display c s w p) b b (Ok 0)
  unfolding display
  display-none o e f = nothing (display c s w p) b (rw (← e, f) refl)

  pub display-some : (o : Option (List ℕ)) (u l b₁ : List ℕ) (x : Answer) → o ≡ wording w (wanted c s) → o ≡ Some u → l ≡ u ++ placed s p → said x ≡ outcome (length b) (writes l) → b₁ ≡ after b (writes l) → Ends (display c s w p) b b₁ x
  unfolding display message_text placed
  display-some o u l b₁ x e f g h i =
      let line : display c s w p ≡ writes l = ap (message_by s p) (sym e ∙ f) ∙ ap writes (sym g) in
      rw line (h, i)
