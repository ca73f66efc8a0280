-- The kind byte of each frame.
use Rattle.std.specs.Prelude.{◌≡◌, ◌≢◌, ℕ, Result, MatchResult}
use Rattle.table_file.specs.declared.kind.Kind.{Kind}
use Rattle.table_file.specs.declared.kind.Kind.TheVariants.{Cores, Task, Place, Notice}
use Rattle.table_file.specs.declared.kind.UnknownKind.{UnknownKind}

abbrev pub kind_byte : Kind → ℕ
kind_byte Cores = 1
kind_byte Task = 2
kind_byte Place = 3
kind_byte Notice = 127

-- the kind with this byte, or the byte, which no kind has
abbrev pub Decodes : ℕ → Result Kind UnknownKind → Type 0
Decodes b r = MatchResult r (λ kind. kind_byte kind ≡ b) (λ e. (e.0 ≡ b) × (b ≢ 1) × (b ≢ 2) × (b ≢ 3) × (b ≢ 127))
