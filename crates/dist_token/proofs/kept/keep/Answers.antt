use Rattle.std.proofs.Common.{List, ℕ, Some, string_bytes, subst}
use Rattle.std.proofs.lemmas.Map.Text.{btree_map_updates_text}
use Rattle.dist_token.specs.Forwarded.{Moves}
use Rattle.dist_token.specs.ProxyViews.{moment_in}
use Rattle.dist_token.proofs.kept.keep.Goals as goal

pub returns-clause-ok : goal.returns-clause-ok
returns-clause-ok c =
    let P : List ℕ → Type 0 = λ token. Moves (moment_in c.args.kept.now)
    (moment_in (record { moments = c.insert.new.self })) token (Some c.args.now) in
    subst P c.in_ok-token.ensures.ok
    (btree_map_updates_text (string_bytes c.in_ok-token.token) c.args.kept.now.moments c.insert.new.self
    (Some c.args.now) c.in-Ok.ensures.updates)
