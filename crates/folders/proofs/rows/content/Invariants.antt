-- The file is not among those so far.
use Rattle.std.proofs.Common.{◌≡◌, drop}
use Rattle.folders.specs.Files.{file_at}
use Rattle.folders.proofs.rows.content.Given as goal

abbrev pub invariant-loop-here : goal.invariant-loop-here
invariant-loop-here l = file_at (drop l.here-index l.files) l.path ≡ file_at l.files l.path
