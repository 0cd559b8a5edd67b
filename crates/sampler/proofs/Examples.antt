-- The sampler's lists, evaluated.
-- Assumes nothing.
use mathlib.Core.Path.{◌≡◌, refl}
use mathlib.Core.List.{[], ◌∷◌, map}
use lib.ListN.{length, replicate}
use Rattle.kinds.specs.Bytes.{ascii}
use Rattle.kinds.specs.Decimal.{decimal, digits}
use Rattle.kinds.specs.Kind.{kind_text, elementary_text, suffix_text}
use Rattle.model.specs.declared.Refusal.TheVariants.{NoSuchSample}
use Rattle.model.specs.Answer.{writes, refuses}
use Rattle.sampler.specs.Sampler.{chains, spread, kinds_in, lists_in, sampled, sample_output}

-- "There are 5, 10, 45 and 315."
pub sampled_counts : map (λ w. length (sampled w)) (1 ∷ 2 ∷ 3 ∷ 4 ∷ []) ≡ 5 ∷ 10 ∷ 45 ∷ 315 ∷ []
unfolding sampled kinds_in lists_in spread chains
sampled_counts = refl

pub sampled-one : map kind_text (sampled 1) ≡ map ascii ("address" ∷ "bool" ∷ "uint256" ∷ "string" ∷ "()" ∷ [])
unfolding sampled kinds_in lists_in spread chains kind_text elementary_text suffix_text decimal digits
sampled-one = refl

pub sampled-two : map kind_text (sampled 2)
    ≡ map ascii ("address[]" ∷ "bool[]" ∷ "uint256[]" ∷ "string[]" ∷ "()[]" ∷ "(address)" ∷ "(bool)" ∷ "(uint256)" ∷ "(string)" ∷ "(())" ∷ [])
unfolding sampled kinds_in lists_in spread chains kind_text elementary_text suffix_text decimal digits
sampled-two = refl

-- of weight 4: the first and the last array, the first tuples by the weight of their first component, and the last kind
pub sampled-four : map (sample_output 4) (0 ∷ 44 ∷ 45 ∷ 70 ∷ 220 ∷ 270 ∷ 314 ∷ [])
    ≡ map (λ t. writes (ascii t))
    ("address[][][]" ∷ "((()))[]" ∷ "(address,address,address)" ∷ "(address,address[])" ∷ "(address[],address)" ∷ "(address[][])" ∷ "(((())))" ∷ [])
unfolding sample_output sampled kinds_in lists_in spread chains kind_text elementary_text suffix_text decimal digits
sampled-four = refl

-- "weight or index outside these"
pub outside : sample_output 0 0 ∷ sample_output 1 5 ∷ sample_output 4 315 ∷ sample_output 5 0 ∷ [] ≡ replicate 4 (refuses NoSuchSample 0)
unfolding sample_output sampled kinds_in lists_in spread chains
outside = refl
