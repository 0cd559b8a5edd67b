use mathlib.Core.Path.{refl}
use native.Mathlib.Omega.{arith}
use Rattle.full.proofs.Choosing.{long_enough, function-line, event-line, error-line, constructor-line}
use Rattle.full.proofs.Line.of.Goals as goal

pub mutability_word-requires : goal.mutability_word-requires
mutability_word-requires c =
    let i = c.in-Declared-Function-default-default-default in
    let w = rw (i.is, i.keyword-is) at c.in_ok-name.ensures.says in
    long_enough _ (λ j. omega (arith, c.type_inv.record j)) _ _ refl w.0.same

pub anonymous_word-requires : goal.anonymous_word-requires
anonymous_word-requires c =
    let i = c.in-Declared-Event-default-default-default in
    let w = rw (i.is, i.keyword-is) at c.in_ok-name.ensures.says in
    long_enough _ (λ j. omega (arith, c.type_inv.record j)) _ _ refl w.0.same

pub mutability_word-requires-in-Constructor : goal.mutability_word-requires-in-Constructor
mutability_word-requires-in-Constructor c =
    let w = rw c.in-Constructor.is at c.in_ok-name.ensures.says in
    long_enough _ (λ j. omega (arith, c.type_inv.record j)) _ _ refl w.0.same

pub returns-in-Declared-Function-default-default-default : goal.returns-in-Declared-Function-default-default-default
returns-in-Declared-Function-default-default-default c =
    let i = c.in-Declared-Function-default-default-default in
    let w = rw (i.is, i.keyword-is) at c.in_ok-name.ensures.says in
    function-line _ (λ j. omega (arith, c.type_inv.record j)) _ _ w.0 refl c.mutability_word.ensures c.filled.ensures

pub returns-in-Declared-Event-default-default-default : goal.returns-in-Declared-Event-default-default-default
returns-in-Declared-Event-default-default-default c =
    let i = c.in-Declared-Event-default-default-default in
    let w = rw (i.is, i.keyword-is) at c.in_ok-name.ensures.says in
    event-line _ (λ j. omega (arith, c.type_inv.record j)) _ _ w.0 refl c.anonymous_word.ensures refl

pub returns-in-Declared-Error-default-default-default : goal.returns-in-Declared-Error-default-default-default
returns-in-Declared-Error-default-default-default c =
    let i = c.in-Declared-Error-default-default-default in
    let w = rw (i.is, i.keyword-is) at c.in_ok-name.ensures.says in
    error-line _ (λ j. omega (arith, c.type_inv.record j)) _ _ w.0 refl refl refl

pub returns-in-Constructor : goal.returns-in-Constructor
returns-in-Constructor c =
    let w = rw c.in-Constructor.is at c.in_ok-name.ensures.says in
    constructor-line _ (λ j. omega (arith, c.type_inv.record j)) _ w.0 refl refl c.mutability_word-in-Constructor.ensures refl
