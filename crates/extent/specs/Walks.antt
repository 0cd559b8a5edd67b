-- Kinds of record, and what a base and its suffixes say.
-- Assumes nothing.
use Rattle.std.specs.Prelude.{List, [], ℕ}
use Rattle.kinds.specs.Kind.{bits, octets, Elementary, int, uint, fixed_bytes, address, bool, function, bytes, string, Kind}
use Rattle.model.specs.Tree.{arrays, base_kind}
use Rattle.model.specs.Reading.{FieldKind}
use Rattle.model.specs.Layout.{little_endian}

-- the number of an elementary kind's record: "1 int, 2 uint", "5 bytesN", "3 address, 4 bool, 6 function, 7 bytes, 8 string"
unfoldable pub elementary_code : Elementary → ℕ
elementary_code (int w) = 0x1
elementary_code (uint w) = 0x2
elementary_code address = 0x3
elementary_code bool = 0x4
elementary_code (fixed_bytes m) = 0x5
elementary_code function = 0x6
elementary_code bytes = 0x7
elementary_code string = 0x8

-- and its body: "width, 2 bytes", "length, 2 bytes", "no body"
abbrev pub elementary_body : Elementary → List ℕ
elementary_body (int (bits n)) = little_endian 2 n
elementary_body (uint (bits n)) = little_endian 2 n
elementary_body (fixed_bytes (octets n)) = little_endian 2 n
elementary_body address = []
elementary_body bool = []
elementary_body function = []
elementary_body bytes = []
elementary_body string = []

-- the kind that a base and its suffixes say
abbrev pub tree_of : FieldKind → Kind
tree_of k = arrays (base_kind k.base) k.suffixes
