use Rattle.std.proofs.Common.{◌≡◌, refl, ℕ, arith}
use Rattle.std.specs.Prelude.{Option, None, Some}
use Rattle.text.specs.Found.{byte_or_end}
use Rattle.fields.proofs.look.Goals as goal

pub returns : goal.returns
unfolding byte_or_end
returns c = record { place = c.skip-place.ensures.place; byte = c.peek.ensures; none = go c.peek.result refl; low = c.skip-place.ensures.low; inside = c.skip-place.ensures.inside }
  where
    go : (o : Option ℕ) → c.peek.result ≡ o → byte_or_end o ≡ 256 → o ≡ None
    go None e f = refl
    go (Some b) e f = let h = rw e at c.peek.type_inv in absurd (omega arith)
