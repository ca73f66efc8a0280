-- What a sheet holds.
use Rattle.planner.specs.Tables.{held}
use Rattle.table_file.specs.declared.sheet.Sheet.{Sheet}
use Rattle.table_file.specs.Stored.{Stored, stored}

abbrev pub kept : Sheet → Stored
kept s = stored (held s.table).cores (held s.table).tasks s.places.items
