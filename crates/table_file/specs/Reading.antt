-- What reading a table file means: its lines in turn, each as a line of digits, as a frame, and as a part of a table.
use Rattle.std.specs.Prelude.{ℕ, ◌+◌, cond, List, [], ◌∷◌, length, Ok, Err, Result, nat_lt}
use Rattle.table_file.specs.declared.fault.Number.TheVariants.{TooLong}
use Rattle.table_file.specs.declared.fault.Fault.{Fault}
use Rattle.table_file.specs.Numbers.{fault_at}
use Rattle.table_file.specs.Lines.{TextLine, lines_of, check_line}
use Rattle.table_file.specs.Frames.{form_of}
use Rattle.table_file.specs.Stored.{Stored}
use Rattle.table_file.specs.Progress.{Progress, begin, bind, step, finish, carried}

abbrev pub read_line : ℕ → Progress → TextLine → Result Progress Fault
read_line ln s t = bind (check_line t ln) (λ ds. bind (form_of ds ln) (λ form. step s form))

abbrev pub read_lines : ℕ → Progress → List TextLine → Result Stored Fault
read_lines ln s [] = bind (finish s ln) (λ _. Ok (carried s))
read_lines ln s (t ∷ ts) = bind (read_line ln s t) (λ next. read_lines (ln + 1) next ts)

abbrev pub read_file : List ℕ → Result Stored Fault
read_file bs = cond (nat_lt 65535 (length bs)) (Err (fault_at TooLong 1 1)) (read_lines 1 begin (lines_of bs))
