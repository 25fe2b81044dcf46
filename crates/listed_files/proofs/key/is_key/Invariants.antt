-- Whether the parts so far are plain, and whether the last is a temporary file's name.
use Rattle.std.proofs.Common.{◌≡◌, [], map}
use Rattle.std.specs.List.{list_all}
use Rattle.folders.specs.Plain.{is_plain}
use Rattle.listed_files.specs.Key.{is_temporary, last_behind}
use Rattle.listed_files.proofs.key.is_key.Given as goal

abbrev pub invariant-loop-part : goal.invariant-loop-part
invariant-loop-part l =
    (l.plain ≡ list_all is_plain (map (λ p. p.now) l.yielded))
    × (l.temporary ≡ is_temporary (last_behind [] (map (λ p. p.now) l.yielded)))
