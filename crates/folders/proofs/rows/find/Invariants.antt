-- What was found is what the files so far give.
use Rattle.std.proofs.Common.{◌≡◌, take}
use Rattle.folders.specs.Files.{found_behind}
use Rattle.folders.proofs.rows.find.Given as goal

abbrev pub invariant-loop-path : goal.invariant-loop-path
invariant-loop-path l = l.found.items ≡ found_behind l.begun (take l.path-index l.files)
