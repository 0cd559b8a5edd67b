-- The records that bytes begin with, as the code takes them apart.
-- Assumes nothing.
use Rattle.std.specs.Prelude.{◌≡◌, List, ℕ, ◌+◌, ◌≤◌, ◌<◌, length, take, drop, Option, None, Some}
use Rattle.model.specs.Layout.{le_value, Piece as Taken, piece, no_piece, piece_of}
use Rattle.model.specs.declared.Sort.{Sort}
use Rattle.model.specs.declared.Mark.{Mark}
use Rattle.model.specs.Mark.{mark_number}
use Rattle.record.specs.declared.Piece.{Piece}
use Rattle.record.specs.declared.Fronted.{Fronted}
use Rattle.record.specs.Texts.{kind_from, field_text_from}

-- what a piece says, by the definitions
unfoldable pub taken : Option Piece → Taken
taken None = no_piece
taken (Some p) = piece p.kind p.body.now p.rest.now

-- it covers all bytes: its head has six of them
abbrev pub Covers : List ℕ → Option Piece → Type 0
Covers b None = Unit {0}
Covers b (Some p) = 6 + length p.body.now + length p.rest.now ≡ length b

-- the record that b begins with, if there is one
pub record PieceIs (b : List ℕ) (r : Option Piece) : Type 0 where
  pub same : taken r ≡ piece_of 4 b
  pub covers : Covers b r

-- p stands at a place of b
pub record StandsIn (b p : List ℕ) : Type 0 where
  pub from : ℕ
  pub there : take (length p) (drop from b) ≡ p
  pub inside : from + length p ≤ length b

-- b begins with a record
pub record Headed (b : List ℕ) : Type 0 where
  pub low : 6 ≤ le_value (take 4 b)
  pub inside : le_value (take 4 b) ≤ length b

-- the number in front of a body, with what stands behind it
abbrev pub FrontedIs : List ℕ → Option Fronted → Type 0
FrontedIs b None = length b < 2
FrontedIs b (Some t) = (2 ≤ length b) × (t.number ≡ le_value (take 2 b)) × (t.rest.now ≡ drop 2 b)

-- the mark that a number stands for
abbrev pub MarkIs : ℕ → Option Mark → Type 0
MarkIs n None = 3 < n
MarkIs n (Some m) = n ≡ mark_number m

-- n is the name in a field's body, with the kind behind it; where it is none the body is no field's
pub record FrontRead (sort : Sort) (body : List ℕ) (n : Piece) : Type 0 where
  pub there : PieceIs (drop 2 body) (Some n)
  pub long : 2 ≤ length body
  pub same : (d : ℕ) → field_text_from sort d 0x10 body ≡ kind_from d n.rest.now

abbrev pub FrontIs : Sort → List ℕ → Option Piece → Type 0
FrontIs sort body None = (d : ℕ) → field_text_from sort d 0x10 body ≡ None
FrontIs sort body (Some n) = FrontRead sort body n
