-- How much a program over lines takes.
use Rattle.std.specs.Prelude.{ℕ}

-- the most lines of an input
abbrev pub max_lines : ℕ
max_lines = 1000000

-- the most bytes of a line, without its end
abbrev pub max_line_bytes : ℕ
max_line_bytes = 2097152

-- the most bytes of an input
abbrev pub max_bytes : ℕ
max_bytes = 67108864

-- how many bytes are read at most: one past the limit tells that it was passed
abbrev pub bytes_read : ℕ
bytes_read = 67108865

-- the most bytes of a printed run that is judged
abbrev pub max_run_bytes : ℕ
max_run_bytes = 268435456

-- how many bytes of one are read at most
abbrev pub run_bytes_read : ℕ
run_bytes_read = 268435457
