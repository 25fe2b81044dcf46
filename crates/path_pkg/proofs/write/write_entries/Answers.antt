use Rattle.std.proofs.Common.{◌∙◌, ap, map}
use Rattle.path_pkg.specs.Written.{piece_at, texts_of}
use Rattle.path_pkg.proofs.GroupLemmas.{pieces_then, pieces_stopped}
use Rattle.path_pkg.proofs.OutlineLemmas.{stopped_package}
use Rattle.path_pkg.proofs.write.write_entries.Goals as goal

pub returns-in-Err-clause-outline : goal.returns-in-Err-clause-outline
returns-in-Err-clause-outline g c = stopped_package c.in-Err.fault _ _ _ _ c.in-Err.ensures.outline

pub returns-in-Ok-clause-puts : goal.returns-in-Ok-clause-puts
returns-in-Ok-clause-puts g c = λ t e.
    let here = ap (λ w. w.nodes) c.in-Ok.ensures.writes.0 ∙ e in
    pieces_then c.write_files.result (map (piece_at t 0) (texts_of c.args.dirs.now.entries)) _ _ _ _
    (c.in-Ok.ensures.puts t e) (c.write_files.ensures.puts t here)

pub returns-in-Err-clause-puts : goal.returns-in-Err-clause-puts
returns-in-Err-clause-puts g c = λ t e.
    pieces_stopped (map (piece_at t 0) (texts_of c.args.dirs.now.entries)) _ _ _
    (c.in-Err.ensures.puts t e)
