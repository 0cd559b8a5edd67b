-- A tuple's suffix.
-- Assumes nothing.
use Rattle.std.proofs.Common.{◌≡◌, refl, sym, ◌∙◌, ℕ, ◌+◌, ◌-◌, ◌≤◌, ◌<◌, List, length, take, drop, arith, lit<}
use Rattle.std.specs.Prelude.{Option, None, Some}
use Rattle.kinds.specs.Bytes.{is_digit, lbracket, rbracket}
use Rattle.kinds.specs.Kind.{Suffix}
use Rattle.model.specs.Text.{span, one}
use Rattle.model.specs.KindText.{inside}
use Rattle.model.specs.Parser.{found, missing}
use Rattle.model.specs.Reading.{closed, array_suffix}
use Rattle.model.proofs.Scans.{part-rest}
use Rattle.fields.specs.declared.Seen.{Seen}
use Rattle.fields.specs.Words.{Looked, to_place, BehindIs}
use Rattle.fields.specs.Scratch.{to_found, BracketIs}
use Rattle.fields.proofs.Spots.{behind-inside}

-- the suffix from what was seen of its `[`
module _ (s : List ℕ) (at : ℕ) (v : Seen) (h : Looked s at v) where
  pub bracket_none : BehindIs v lbracket None → BracketIs s at None
  unfolding to_found array_suffix
  bracket_none i = record { same = rw (array_suffix, ← i.same s at h); behind = tt }

  module _ (from : ℕ) (i : BehindIs v lbracket (Some from)) where
    pub open-inside : (at < from) × (from ≤ length s)
    open-inside = behind-inside s at v h lbracket from (lit< tt) i

    -- behind it n digits, and what was seen of its `]`
    module _ (n : ℕ) (d : n ≡ span (one is_digit) (take (length s - from) (drop from s))) (u : Seen) (k : Looked s (from + n) u) where
      suffix_is : (o : Option ℕ) → BehindIs u rbracket o → closed (inside (take n (drop from s))) (to_place o) ≡ array_suffix s at
      unfolding array_suffix
      suffix_is o j = let e : span (one is_digit) (drop from s) ≡ n = sym (rw part-rest at d) in rw (array_suffix, ← i.same s at h, e, j.same s (from + n) k)

      pub bracket_open : BehindIs u rbracket None → BracketIs s at None
      unfolding to_found
      bracket_open j = record { same = go (inside (take n (drop from s))) ∙ suffix_is None j; behind = tt }
        where
          go : (x : Option Suffix) → missing ≡ closed x missing
          go None = refl
          go (Some y) = refl

      module _ (next : ℕ) (j : BehindIs u rbracket (Some next)) where
        closed_is : (r : Option Suffix) → r ≡ inside (take (from + n - from) (drop from s)) → closed r (found tt next) ≡ array_suffix s at
        closed_is r g = let z : from + n - from ≡ n = omega arith in let e : r ≡ inside (take n (drop from s)) = rw z at g in rw e (suffix_is (Some next) j)

        pub bracket_wrong : None ≡ inside (take (from + n - from) (drop from s)) → BracketIs s at None
        unfolding to_found
        bracket_wrong g = record { same = closed_is None g; behind = tt }

        pub bracket_is : (x : Suffix) → Some x ≡ inside (take (from + n - from) (drop from s)) → BracketIs s at (Some (record { suffix = x; next = next }))
        unfolding to_found
        bracket_is x g = record { same = closed_is (Some x) g; behind = omega (arith, open-inside, behind-inside s (from + n) u k rbracket next (lit< tt) j) }
