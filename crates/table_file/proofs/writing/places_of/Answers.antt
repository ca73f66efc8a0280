use Rattle.std.proofs.Common.{◌≡◌, ℕ, ◌-◌, List, length, replicate, refl, ap, ◌∙◌, arith}
use Rattle.std.proofs.lemmas.List.{length-map}
use Rattle.planner.specs.Tables.{holds}
use Rattle.planner.specs.Reading.{lent}
use Rattle.table_file.proofs.Carried.{fixed_valid, room_for, read_filled, read_places}
use Rattle.table_file.proofs.writing.places_of.Goals as goal

pub returns : goal.returns
returns g c =
    let m = holds c.args.table.now in
    let r = c.read_out in
    let rows = c.rows-count.result.now in
    let zeros : List ℕ = replicate 32 0 in
    let h = read_filled m c.requires r.result (lent zeros zeros zeros) (lent r.new.tasks r.new.lengths r.new.bounds) r.ensures (room_for m c.requires zeros zeros zeros refl refl refl) in
    let count : length rows - 0 ≡ length m.tasks = omega (arith, length-map rows (λ r. r.task), ap length c.rows-count.ensures.tasks) in
    record { places = c.pair_up.ensures ∙ read_places m c.requires zeros zeros r.new.tasks r.new.lengths h.0 h.1 _ count; valid = fixed_valid m c.requires }
