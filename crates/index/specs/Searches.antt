-- What the search in a sheet asks and tells.
-- Assumes nothing.
use Rattle.std.specs.Prelude.{◌≡◌, true, false, Bool, List, ℕ, ◌*◌, ◌≤◌, length, Some}
use Rattle.model.specs.Tree.{Declaration}
use Rattle.model.specs.Line.{canonical_text}
use Rattle.model.specs.Sheet.{same_text}
use Rattle.model.specs.Find.{is_function}
use Rattle.repeat.specs.Pairs.{RecordOf}
use Rattle.repeat.specs.Prints.{print, print_in, OneRecord}
use Rattle.index.specs.Indexes.{longest_text, RecordAt}

-- the record of a declaration, and room for its text
pub record AskedText (t b : List ℕ) : Type 0 where
  pub one : OneRecord t
  pub room : 2 * length t ≤ length b

-- whether u is its text
pub record TextIs (t u : List ℕ) (r : Bool) : Type 0 where
  pub same : (p : OneRecord t) → r ≡ same_text (canonical_text p.declaration) (Some u)

-- the same with its fingerprint x, and that of the text
pub record SoughtIs (t : List ℕ) (x h : ℕ) (u : List ℕ) (r : Bool) : Type 0 where
  pub same : (p : OneRecord t) → x ≡ print_in longest_text p.declaration → h ≡ print 0 u → r ≡ same_text (canonical_text p.declaration) (Some u)

-- t is the record of a function at a place, and there is another declaration
pub record IsFunction (b : List ℕ) (at : ℕ) (t : List ℕ) : Type 0 where
  pub function : (d : Declaration) → RecordAt b at d → is_function d ≡ true
  pub is : (d : Declaration) → RecordAt b at d → RecordOf t d

pub record NoFunction (b : List ℕ) (at : ℕ) : Type 0 where
  pub other : (d : Declaration) → RecordAt b at d → is_function d ≡ false
