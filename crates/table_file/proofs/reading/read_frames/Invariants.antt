use Rattle.std.proofs.Common.{◌≡◌, length}
use Rattle.table_file.specs.Lines.{lines_of}
use Rattle.table_file.specs.Progress.{view, begin}
use Rattle.table_file.specs.Reading.{read_lines}
use Rattle.table_file.proofs.reading.read_frames.Given as goal

abbrev pub invariant-loop-lines : goal.invariant-loop-lines
invariant-loop-lines l = read_lines l.lines.line (view l.reader) (lines_of l.lines.rest.now) ≡ read_lines 1 begin (lines_of l.bytes)

abbrev pub decreases-loop-lines : goal.decreases-loop-lines
decreases-loop-lines l = length l.lines.rest.now
