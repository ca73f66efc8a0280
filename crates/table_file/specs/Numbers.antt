-- The number and the layer of each refusal that a file can get.
use Rattle.std.specs.Prelude.{ℕ}
use Rattle.table_file.specs.declared.fault.Number.{Number}
use Rattle.table_file.specs.declared.fault.Number.TheVariants.{CoreCount, TableFull, Limits, NoSuchTask, NamedAgain, Length, Digit, Line, Kind, Size, NotDue, TooLong}
use Rattle.table_file.specs.declared.fault.Layer.{Layer}
use Rattle.table_file.specs.declared.fault.Layer.TheVariants.{Lines, Frames, Table, Search}
use Rattle.table_file.specs.declared.fault.Fault.{Fault}

abbrev pub number_of : Number → ℕ
number_of CoreCount = 1
number_of TableFull = 2
number_of Limits = 3
number_of NoSuchTask = 4
number_of NamedAgain = 5
number_of Length = 6
number_of Digit = 12
number_of Line = 13
number_of Kind = 14
number_of Size = 15
number_of NotDue = 16
number_of TooLong = 17

abbrev pub layer_number : Layer → ℕ
layer_number Lines = 1
layer_number Frames = 2
layer_number Table = 3
layer_number Search = 4

-- the layer whose rules have this number
abbrev pub layer_of : Number → Layer
layer_of CoreCount = Table
layer_of TableFull = Table
layer_of Limits = Table
layer_of NoSuchTask = Table
layer_of NamedAgain = Table
layer_of Length = Table
layer_of Digit = Lines
layer_of Line = Lines
layer_of Kind = Frames
layer_of Size = Frames
layer_of NotDue = Frames
layer_of TooLong = Lines

-- a fault at a line and a column, both counted from 1
abbrev pub fault_at : Number → ℕ → ℕ → Fault
fault_at n l c = record { number = n; layer = layer_number (layer_of n); line = l; column = c }
