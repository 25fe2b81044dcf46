use Rattle.std.proofs.Common.{rules}
use Rattle.path_pkg.proofs.OutlineLemmas.{dir_put, link_put}
use Rattle.path_pkg.proofs.write.write_frame.Goals as goal

pub returns-then-rank-eq0-clause-outline : goal.returns-then-rank-eq0-clause-outline
returns-then-rank-eq0-clause-outline g c =
    let put = dir_put c.write.result c.args.rank c.args.path.now c.args.target.now
    (g.W.Sink.held c.args.out.now) (g.W.Sink.held c.write.new.out) in
    search (rules, put)

pub returns-clause-outline : goal.returns-clause-outline
returns-clause-outline g c =
    let put = link_put c.write-2.result c.args.rank c.args.path.now c.args.target.now
    (g.W.Sink.held c.args.out.now) (g.W.Sink.held c.write-2.new.out) in
    search (rules, put)
