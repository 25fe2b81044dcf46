-- Files by name, and what those in memory show.
use Rattle.std.specs.Prelude.{ℕ, List, find, Option, None, option_map}
use Rattle.std.specs.Str.{bytes_eq}
use Rattle.command_line.specs.declared.files.NamedFile.{NamedFile}
use Rattle.command_line.specs.declared.files.MemFiles.{MemFiles}
use Rattle.command_line.specs.declared.files.RealFiles.{RealFiles}

-- how many bytes the longest file of the system that is read has
abbrev pub max_file : ℕ
max_file = 2147483648

-- the bytes of the first file of that name, where there is one
abbrev pub file_at : List ℕ → List NamedFile → Option (List ℕ)
file_at name files = option_map (λ (f : NamedFile). f.bytes)
    (find (λ (f : NamedFile). bytes_eq f.name name) files)

-- the files
abbrev pub mem_files : MemFiles → List NamedFile
mem_files d = d.files.items

-- the numbers of the calls that are to fail
abbrev pub files_fails : MemFiles → List ℕ
files_fails d = d.fails.items

-- how many calls were made, which is the number of the next one
abbrev pub files_calls : MemFiles → ℕ
files_calls d = d.calls

-- how often reading failed
abbrev pub files_faults : MemFiles → ℕ
files_faults d = d.faults

-- the files of the system, which are not told
abbrev pub real_files : {S F D : Type 0} → RealFiles S F D → Option (List NamedFile)
real_files d = None

-- how often reading a file of the system failed
abbrev pub real_files_faults : {S F D : Type 0} → RealFiles S F D → ℕ
real_files_faults d = d.faults
