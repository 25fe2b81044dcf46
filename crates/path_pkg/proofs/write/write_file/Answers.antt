use Rattle.std.proofs.Common.{◌∙◌, sym, ap, rules}
use Rattle.path_pkg.specs.Resolved.{content_at}
use Rattle.path_pkg.proofs.GroupLemmas.{file_piece}
use Rattle.path_pkg.proofs.OutlineLemmas.{file_frame_put}
use Rattle.path_pkg.proofs.write.write_file.Goals as goal

pub returns-clause-outline : goal.returns-clause-outline
returns-clause-outline g c =
    let put = file_frame_put c.write_both.result c.args.path.now c.in_ok-content.content.items
    (g.W.Sink.held c.args.out.now) (g.W.Sink.held c.write_both.new.out) in
    search (rules, put)

pub returns-clause-puts : goal.returns-clause-puts
returns-clause-puts g c = λ t e.
    let there = ap (content_at t) (sym (c.as_str.ensures.value ∙ c.in_ok-rooted.ensures))
    ∙ c.in_ok-content.ensures.content t e in
    let piece = file_piece c.write_both.result t c.args.path.now c.in_ok-content.content.items
    (g.W.Sink.held c.args.out.now) (g.W.Sink.held c.write_both.new.out) there in
    search (rules, piece)
