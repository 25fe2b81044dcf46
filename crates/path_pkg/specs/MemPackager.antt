-- What a packager in memory shows.
use Rattle.std.specs.Prelude.{ℕ, List}
use Rattle.path_pkg.specs.declared.mem_packager.MemPackager.{MemPackager}

-- the bytes that it appends
abbrev pub packager_bytes : MemPackager → List ℕ
packager_bytes p = p.bytes

-- the numbers of the calls that are to be refused
abbrev pub packager_refuses : MemPackager → List ℕ
packager_refuses p = p.refuses.items

-- how many calls were made, which is the number of the next one
abbrev pub packager_calls : MemPackager → ℕ
packager_calls p = p.calls

-- how often it refused
abbrev pub packager_refusals : MemPackager → ℕ
packager_refusals p = p.refusals
