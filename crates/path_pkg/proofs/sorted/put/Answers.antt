use Rattle.std.proofs.Common.{◌∙◌, ap}
use Rattle.path_pkg.specs.Written.{texts_of, put}
use Rattle.path_pkg.proofs.WrittenLemmas.{put_view}
use Rattle.path_pkg.proofs.sorted.put.Goals as goal

pub returns-clause-put : goal.returns-clause-put
returns-clause-put c =
    let old = c.args.entries.now.entries in
    ap texts_of c.in_ok-insert.ensures.entries ∙ put_view old c.in_ok-key.key c.in_ok-value.value
    ∙ ap (λ x. put (texts_of old) (x, c.in_ok-value.value)) c.in_ok-key.ensures.ok
    ∙ ap (λ x. put (texts_of old) (c.args.path.now, x)) c.in_ok-value.ensures.text
