-- The calls, by what the check of the record found.
-- Assumes nothing.
use mathlib.Core.Path.{◌≡◌, ◌∙◌, ap}
use mathlib.Core.List.{List}
use Rattle.std.specs.Prelude.{Option, None, Err, ℕ}
use Rattle.std.specs.Result.{IsErrAnd}
use Rattle.std.proofs.lemmas.Result.{err_from_is_err_and}
use Rattle.kinds.specs.Kind.{canonical}
use Rattle.model.specs.declared.Sort.TheVariants.{Plain, Parameter, Event}
use Rattle.model.specs.declared.Keyword.{Keyword}
use Rattle.model.specs.declared.Keyword.TheVariants as keyword
use Rattle.model.specs.declared.Refusal.{Refusal}
use Rattle.model.specs.declared.Refusal.TheVariants.{NotWellFormed, WrongSort}
use Rattle.model.specs.Tree.{name_kinds}
use Rattle.model.specs.Record.{decode, decode_lone}
use Rattle.model.specs.Line.{canonical_text, signature_text, field_text, name_of}
use Rattle.model.specs.Answer.{writes, refuses, Output, Answer, refusing, at_start}
use Rattle.model.specs.Calls.{canonical_output, signature_output, kind_text_output, name_output}
use Rattle.layout.specs.Answers.{Ends}
use Rattle.layout.proofs.Answers.{ends-refused}
use Rattle.record.specs.declared.Measured.{Measured}
use Rattle.record.specs.Says.{ConstructorSaid, Declares, FieldSaid}
use Rattle.abi.specs.Lines.{Lined, line_of, signature_of, KindEnds, Declared, Undeclared}

-- a declaration that has a name
module _ (b nm : List ℕ) (i : Measured) (u : Option Measured) where
  pub declared-is : (k : Keyword) → Declares k (decode b) nm i u → Declared b nm i u
  unfolding canonical_output canonical_text canonical signature_output signature_text name_kinds line_of signature_of
  declared-is keyword.Function w =
      let p : Lined nm i = record { name = w.name; sort = Parameter; fields = w.ins; named = w.named; listed = w.inputs } in
      record { line = p; canonical = rw (canonical_output, w.same); signature = rw w.some (record { line = p; sort = Parameter; outputs = w.outs; listed = w.outputs }, rw (signature_output, w.same)) }
  declared-is keyword.Constructor w = absurd w
  declared-is keyword.Event w = record {
    line = record { name = w.name; sort = Event; fields = w.ins; named = w.named; listed = w.inputs };
    canonical = rw (canonical_output, w.same);
    signature = rw w.none (rw (signature_output, w.same));
  }
  declared-is keyword.Error w = record {
    line = record { name = w.name; sort = Plain; fields = w.ins; named = w.named; listed = w.inputs };
    canonical = rw (canonical_output, w.same);
    signature = rw w.none (rw (signature_output, w.same));
  }

  pub declared-name : (k : Keyword) → Declares k (decode b) nm i u → name_output b ≡ writes nm
  unfolding name_output name_of
  declared-name keyword.Function w = rw (name_output, w.same, w.named.same)
  declared-name keyword.Constructor w = absurd w
  declared-name keyword.Event w = rw (name_output, w.same, w.named.same)
  declared-name keyword.Error w = rw (name_output, w.same, w.named.same)

-- anything else
module _ (b : List ℕ) where
  pub nothing : decode b ≡ None → Undeclared b NotWellFormed
  unfolding canonical_output signature_output
  nothing e = record { canonical = rw (canonical_output, e); signature = rw (signature_output, e) }

  pub constructor-is : (i : Measured) → ConstructorSaid (decode b) i → Undeclared b WrongSort
  unfolding canonical_output canonical_text signature_output signature_text name_kinds
  constructor-is i w = record { canonical = rw (canonical_output, w.same); signature = rw (signature_output, w.same) }

  pub constructor-name : (i : Measured) → ConstructorSaid (decode b) i → name_output b ≡ refuses WrongSort 0
  unfolding name_output name_of
  constructor-name i w = rw (name_output, w.same)

  module _ (e : decode b ≡ None) where
    pub field_named : (nm : List ℕ) (l : Measured) → FieldSaid (decode_lone b) nm l → name_output b ≡ writes nm
    unfolding name_output
    field_named nm l w = rw (name_output, e, w.same, w.named.same)

    pub nameless : decode_lone b ≡ None → name_output b ≡ refuses NotWellFormed 0
    unfolding name_output
    nameless f = rw (name_output, e, f)

  -- the kind of a field
  module _ (text : List ℕ) where
    pub no_kind_text : (r : Answer) → decode_lone b ≡ None → r ≡ refusing NotWellFormed 0 → Ends (kind_text_output b) text text r
    unfolding kind_text_output
    no_kind_text r e f = ends-refused (kind_text_output b) text r NotWellFormed 0 f (rw (kind_text_output, e))

    pub kind_text_ends : (nm : List ℕ) (l : Measured) → FieldSaid (decode_lone b) nm l → (text₁ : List ℕ) (r : Answer) → KindEnds l text text₁ r → Ends (kind_text_output b) text text₁ r
    unfolding kind_text_output
    kind_text_ends nm l w text₁ r h = let e : kind_text_output b ≡ writes (field_text w.tree) = rw (kind_text_output, w.same) in rw e (h (record { field = w.tree; said = w.kind }))

-- a refusal that is handed on
pub handed-on : (o : Output) (b : List ℕ) (w : Refusal) (r : Answer) → IsErrAnd r (λ e. e ≡ at_start w) → o ≡ refuses w 0 → Ends o b b r
handed-on o b w r i e = let p = err_from_is_err_and r i in ends-refused o b r w 0 (p.1 ∙ ap Err p.2) e
