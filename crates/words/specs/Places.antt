-- Numbers, as the code tells them apart.
-- Assumes nothing.
use Rattle.std.specs.Prelude.{ℕ, min}

-- 65,537 stands for every number above 65,536
abbrev pub capped : ℕ → ℕ
capped n = min n 65537
