use Rattle.std.proofs.Common.{◌≡◌, ℕ, ◌<◌, List, [], ◌∷◌, ◌++◌, length, sym, ap, ◌∙◌, rules}
use Rattle.std.specs.Slice.Iter.{chunks_rest}
use Rattle.tables.specs.Hex.{bytes_value}
use Rattle.tables.proofs.Hexing.{pair_some, pair_none, at_end, put_behind, put_one, put_none, put_full}
use Rattle.tables.proofs.put_hex.Goals as goal

pub loop-pair-preserved : goal.loop-pair-preserved
loop-pair-preserved g c =
    let xs = c.loop-pair.out.items in
    let size = c.loop-pair.invariant.0 in
    let steps = c.in-Some.ensures.steps in
    let bytes = bytes_value (chunks_rest c.next.new.self) in
    let pushed : c.try_push.new.self.items ≡ xs ++ (c.in-Some-byte_of.byte ∷ []) = search rules in
    let room : length xs < g.row.N = search rules in
    let more = pair_some _ _ _ _ steps.1.0 (rw size at steps.1.1) c.in-Some-byte_of.ensures in (
      steps.0 ∙ size,
      ap (λ (ys : List ℕ). put_behind g.row.N ys bytes) pushed
          ∙ (put_one g.row.N _ xs bytes room ∙ (ap (λ (bs : List ℕ). put_behind g.row.N xs bs) (sym more) ∙ c.loop-pair.invariant.1)),
    )

pub returns-in_default : goal.returns-in_default
returns-in_default g c =
    let steps = c.in-Some.ensures.steps in
    let none = pair_none _ _ _ steps.1.0 (rw c.loop-pair.invariant.0 at steps.1.1) steps.1.2 c.in_default.ensures in
    sym (put_none g.row.N c.loop-pair.out.items _ none) ∙ c.loop-pair.invariant.1

pub returns-in-None : goal.returns-in-None
returns-in-None g c = sym (put_none g.row.N c.loop-pair.out.items _ (at_end _ c.in-None.ensures.steps.1.0)) ∙ c.loop-pair.invariant.1

pub returns-then-is_err : goal.returns-then-is_err
returns-then-is_err g c =
    let same : c.try_push.new.self ≡ c.loop-pair.out = search rules in
    let full : length c.loop-pair.out.items ≡ g.row.N = search rules in
    ap (λ v. v.items) same ∙ (sym (put_full g.row.N c.loop-pair.out.items _ full) ∙ c.loop-pair.invariant.1)
