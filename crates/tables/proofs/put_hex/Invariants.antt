use Rattle.std.proofs.Common.{◌≡◌}
use Rattle.std.specs.Slice.Iter.{chunks_rest, chunks_size}
use Rattle.tables.specs.Hex.{bytes_value}
use Rattle.tables.proofs.Hexing.{put_behind}
use Rattle.tables.proofs.put_hex.Given as goal

abbrev pub invariant-loop-pair : goal.invariant-loop-pair
invariant-loop-pair g l =
    (chunks_size l.pair-iterator ≡ 2)
    × (put_behind g.row.N l.out.items (bytes_value (chunks_rest l.pair-iterator)) ≡ put_behind g.row.N l.initial.out.items (bytes_value l.hex))
