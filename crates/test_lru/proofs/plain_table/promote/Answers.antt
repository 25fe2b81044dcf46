use Rattle.std.proofs.Common.{sym, ap, ◌∙◌, ◌-◌, is_some}
use Rattle.indexmap.specs.IndexMap.{move_index}
use Rattle.test_lru.proofs.MoveLemmas.{moved, not_moved}
use Rattle.test_lru.proofs.plain_table.promote.Goals as goal

pub returns-in_err-place-clause-pairs : goal.returns-in_err-place-clause-pairs
returns-in_err-place-clause-pairs g c =
    sym (not_moved (g.K.PartialEq.eq c.args.key.now) c.args.map.now.entries
    (sym c.in_err-place.ensures.index)).0

pub returns-in_err-place-clause-found : goal.returns-in_err-place-clause-found
returns-in_err-place-clause-found g c =
    rw c.from_residual.ensures
    (sym (ap is_some (not_moved (g.K.PartialEq.eq c.args.key.now) c.args.map.now.entries
    (sym c.in_err-place.ensures.index)).1))

pub returns-clause-pairs : goal.returns-clause-pairs
returns-clause-pairs g c =
    let at = moved (g.K.PartialEq.eq c.args.key.now) c.args.map.now.entries c.in_ok-place.place
    (sym c.in_ok-place.ensures.index) in
    c.move_index.ensures.entries
    ∙ (ap (λ n. move_index c.args.map.now.entries c.in_ok-place.place (n - 1)) c.len-last.ensures.len
    ∙ at.0)

pub returns-clause-found : goal.returns-clause-found
returns-clause-found g c =
    sym (moved (g.K.PartialEq.eq c.args.key.now) c.args.map.now.entries c.in_ok-place.place
    (sym c.in_ok-place.ensures.index)).1
