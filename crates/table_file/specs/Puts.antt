-- Text that is written into a lent text.
use Rattle.std.specs.Prelude.{ℕ, ◌+◌, List, ◌++◌, length, take, drop, map, zip}
use Rattle.table_file.specs.declared.place.Place.{Place}

-- items over a list from the index at on; the rest stays
abbrev pub put : List ℕ → ℕ → List ℕ → List ℕ
put items at old = take at old ++ (items ++ drop (at + length items) old)

-- the places that two lists give, entry by entry
abbrev pub paired : List ℕ → List ℕ → List Place
paired ns ls = map (λ p. record { task = p.0; length = p.1 }) (zip ns ls)
