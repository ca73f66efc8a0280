use Rattle.std.proofs.Common.{◌≡◌, ◌+◌, ◌*◌, length, take}
use Rattle.std.specs.List.{flat_map}
use Rattle.table_file.specs.Puts.{put}
use Rattle.table_file.proofs.text.put_all.Given as goal

abbrev pub invariant-loop-item : goal.invariant-loop-item
invariant-loop-item g l =
    (l.at ≡ l.start + g.row.N * l.item-index)
    × (length (flat_map g.L.Line.text (take l.item-index l.items)) ≡ g.row.N * l.item-index)
    × (l.text ≡ put (flat_map g.L.Line.text (take l.item-index l.items)) l.start l.initial.text)
