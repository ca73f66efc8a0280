use Rattle.std.proofs.Common.{rules}
use Rattle.table_file.proofs.OnFrames.{parts_hex}
use Rattle.table_file.proofs.frames.frame_of.Goals as goal

pub sized-requires : goal.sized-requires
sized-requires c = let hex = parts_hex c.args.s.digits.now c.args.s.hex in search rules

pub sized-requires-in-Ok-Task : goal.sized-requires-in-Ok-Task
sized-requires-in-Ok-Task c = let hex = parts_hex c.args.s.digits.now c.args.s.hex in search rules

pub sized-requires-in-Ok-Place : goal.sized-requires-in-Ok-Place
sized-requires-in-Ok-Place c = let hex = parts_hex c.args.s.digits.now c.args.s.hex in search rules
