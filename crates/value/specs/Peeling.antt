-- What the code finds of suffixes, by the definitions.
-- Assumes nothing.
use Rattle.std.specs.Prelude.{◌≡◌, List, ℕ, ◌+◌, ◌*◌, ◌≤◌, ◌<◌, length, take, drop, Option, None, Some}
use Rattle.kinds.specs.Bytes.{lbracket}
use Rattle.model.specs.KindText.{Cut, cut, uncut, cut_last, Peeled as PeeledText, peeled, bare, peel}
use Rattle.model.specs.Record.{encode_suffix}
use Rattle.value.specs.declared.Peeled.{Peeled}

-- a text cut at a place
unfoldable pub cut_at : List ℕ → Option ℕ → Cut
cut_at t (Some q) = cut (take q t) (drop (q + 1) t)
cut_at t None = uncut

abbrev pub Inside : List ℕ → Option ℕ → Type 0
Inside t (Some q) = q < length t
Inside t None = Unit {0}

-- the last `[`
pub record LastIs (t : List ℕ) (r : Option ℕ) : Type 0 where
  pub same : cut_at t r ≡ cut_last lbracket t
  pub inside : Inside t r

-- what the cases of a peeled text say
unfoldable pub peel_of : List ℕ → Option Peeled → PeeledText
peel_of t (Some p) = peeled (take p.at t) p.suffix
peel_of t None = bare

-- what is peeled off pays for the suffix's record, at 5 bytes for each byte of text
abbrev pub Shorter : List ℕ → Option Peeled → Type 0
Shorter t (Some p) = (p.at + 2 ≤ length t) × (length (encode_suffix 4 p.suffix) + 5 * p.at ≤ 5 * length t)
Shorter t None = Unit {0}

pub record PeelIs (t : List ℕ) (r : Option Peeled) : Type 0 where
  pub same : peel_of t r ≡ peel t
  pub shorter : Shorter t r
