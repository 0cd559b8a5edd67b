-- The reading call, by how it ends.
-- Assumes nothing.
use Rattle.std.proofs.Common.{◌≡◌, refl, sym, ◌∙◌, ap, subst, ℕ, ◌-◌, ◌≤◌, ◌<◌, List, ◌++◌, length, take, drop, arith}
use Rattle.std.proofs.lemmas.List.{length-take}
use Rattle.std.specs.Prelude.{Option, None, Some, Result, Ok, Err}
use Rattle.std.specs.Result.{IsErrAnd}
use native.Mathlib.Nat.{sub-zero}
use Rattle.model.specs.declared.Refusal.TheVariants.{ExpectDeclaration, NoRoom}
use Rattle.model.specs.declared.Refused.{Refused}
use Rattle.model.specs.declared.Keyword.{Keyword}
use Rattle.model.specs.declared.Call.{Call}
use Rattle.model.specs.Tree.{Declaration}
use Rattle.model.specs.Parser.{Ans, got, bad, deep, on_ans}
use Rattle.model.specs.Reading.{exec, parser_of, wanted, read_by, read_declaration, admit, parse}
use Rattle.model.specs.Record.{encode}
use Rattle.model.specs.Answer.{Output, writes, refuses, said, outcome, after, Answer, at_start}
use Rattle.model.specs.Calls.{written, read_output}
use Rattle.layout.specs.Buffer.{put}
use Rattle.layout.specs.Answers.{Ends}
use Rattle.layout.proofs.Answers.{ends-refused, ends-full, ends-written}
use Rattle.fields.specs.declared.Failed.{Failed}
use Rattle.fields.specs.declared.Failed.TheVariants.{Bad, Deep}
use Rattle.fields.specs.declared.Got.{Got}
use Rattle.fields.specs.Scratch.{Read, refusal_of, failed, bytes_of}
use Rattle.fields.proofs.Family.{is-got, of-got, is-failed, of-failed}
use Rattle.parser.specs.Stages.{Whole}
use Rattle.text.specs.Admitted.{AdmittedIs}
use Rattle.text.proofs.Admitting.{admits, refuses-first}
use Rattle.declaration.specs.Outputs.{exec_output}

-- a failure that a `?` hands on
pub refused-exit : (o : Output) (b : List ℕ) (r : Answer) (x : Refused) → IsErrAnd r (λ y. y ≡ x) → o ≡ refuses x.refusal x.position → Ends o b b r
refused-exit o b (Ok n) x h e = absurd h
refused-exit o b (Err y) x h e = ends-refused o b (Err y) x.refusal x.position (ap Err h) e

-- a reading into an array
written-failed : {A : Type 0} (E : A → List ℕ) (f : Failed) → written E (failed f) ≡ refuses (refusal_of f).refusal (refusal_of f).position
unfolding written failed
written-failed E (Bad r) = refl
written-failed E (Deep p) = refl

module _ (s : List ℕ) (k : Keyword) (c : List ℕ) (r : Read) (w : Whole c (on_ans (encode 4) (exec (parser_of k) s)) r) where
  a : Ans (List ℕ)
  a = on_ans (encode 4) (exec (parser_of k) s)

  pub exec-refuses : (f : Failed) → r ≡ Err f → exec_output k s ≡ refuses (refusal_of f).refusal (refusal_of f).position
  unfolding exec_output a
  exec-refuses f e = rw (exec_output, of-failed (encode 4) (exec (parser_of k) s) f (is-failed a f (sym e ∙ w.same))) (written-failed (encode 4) f)

  module _ (g : Got) (e : r ≡ Ok g) where
    is : (a ≡ got (bytes_of a) g.next) × (g.len ≡ length (bytes_of a))
    unfolding a
    is = is-got a g (sym e ∙ w.same)

    pub read-within : g.len ≤ length c
    unfolding a
    read-within = omega (arith, length-take (length (bytes_of a)) c, ap length w.wrote, is.1)

    pub exec-writes : exec_output k s ≡ writes (take g.len c)
    unfolding exec_output written a
    exec-writes =
        let o = of-got (encode 4) (exec (parser_of k) s) (bytes_of a) g.next is.0 in
        let t : take g.len c ≡ bytes_of a = rw is.1 w.wrote in
        rw (exec_output, o.same, t) (ap writes o.bytes)

-- the checks that come first, and the keyword
module _ (s : List ℕ) (c : Call) (i : Result (Unit {0}) Refused) (a : AdmittedIs s i) where
  pub not-admitted : (x : Refused) → i ≡ Err x → read_output c s ≡ refuses x.refusal x.position
  unfolding read_output parse written
  not-admitted x e = ap (written (encode 4)) (refuses-first (read_declaration c) s x (rw e at a))

  module _ (e : i ≡ Ok tt) (o : Option Keyword) (w : o ≡ wanted c s) where
    admitted : read_output c s ≡ written (encode 4) (read_by o s)
    unfolding read_output parse read_declaration
    admitted = let f : AdmittedIs s (Ok tt) = rw e at a in ap (written (encode 4)) (admits (read_declaration c) s f.1 ∙ ap (λ (k : Option Keyword). read_by k s) (sym w))

    pub not-wanted : (b : List ℕ) (x : Refused) → o ≡ None → x ≡ at_start ExpectDeclaration → Ends (read_output c s) b b (Err x)
    unfolding written
    not-wanted b x f g = ends-refused (read_output c s) b (Err x) ExpectDeclaration 0 (ap Err g) (admitted ∙ rw f)

    pub keyword-wanted : (k : Keyword) → o ≡ Some k → read_output c s ≡ exec_output k s
    unfolding exec_output
    keyword-wanted k f = admitted ∙ rw f
