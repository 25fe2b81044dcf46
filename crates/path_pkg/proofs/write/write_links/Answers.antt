use Rattle.std.proofs.Common.{[], ◌∷◌, Some, map}
use Rattle.path_pkg.specs.Written.{piece_at, texts_of}
use Rattle.path_pkg.proofs.GroupLemmas.{one_piece, pieces_then, pieces_stopped}
use Rattle.path_pkg.proofs.OutlineLemmas.{stopped_end}
use Rattle.path_pkg.proofs.write.write_links.Goals as goal

pub returns-in-Err-clause-outline : goal.returns-in-Err-clause-outline
returns-in-Err-clause-outline g c = stopped_end c.in-Err.fault _ _ _ c.in-Err.ensures.outline

pub returns-in-Ok-clause-puts : goal.returns-in-Ok-clause-puts
returns-in-Ok-clause-puts g c = λ t e.
    pieces_then c.write.result (map (piece_at t 2) (texts_of c.args.links.now.entries)) (Some (69 ∷ []) ∷ [])
    _ _ _ (c.in-Ok.ensures.puts t e) (one_piece c.write.result (69 ∷ []) _ _ c.write.ensures.puts)

pub returns-in-Err-clause-puts : goal.returns-in-Err-clause-puts
returns-in-Err-clause-puts g c = λ t e.
    pieces_stopped (map (piece_at t 2) (texts_of c.args.links.now.entries)) _ _ _ (c.in-Err.ensures.puts t e)
