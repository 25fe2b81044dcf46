use Rattle.std.proofs.Common.{◌∙◌, sym, ap, rules}
use Rattle.path_pkg.specs.Written.{texts_of}
use Rattle.path_pkg.proofs.GroupLemmas.{one_more_done, one_refused, all_done, fit_rest}
use Rattle.path_pkg.proofs.OutlineLemmas.{one_so_far, stopped_so_far}
use Rattle.path_pkg.proofs.write.write_group.Goals as goal

pub loop-path-preserved : goal.loop-path-preserved
loop-path-preserved g c =
    let writes = c.in-Ok.ensures.writes in
    let rest = ap texts_of c.in-Some.ensures.steps in
    record {
      told = writes.0 ∙ c.loop-path.invariant.told;
      steady = writes.1 ∙ c.loop-path.invariant.steady;
      fit = fit_rest _ _ _ rest c.loop-path.invariant.fit;
      so_far = λ t e.
          let here = ap (λ w. w.nodes) (sym writes.0) ∙ e in
          one_more_done t c.args.rank _ _ _ _ _ _ _ _ _ _ rest c.as_str.ensures.value c.get.ensures.text
          (c.loop-path.invariant.so_far t here) (c.in-Ok.ensures.puts t here);
      some = one_so_far _ c.args.rank _ _ _ _ _ _ _ _ _ _ rest c.as_str.ensures.value c.get.ensures.text
          c.loop-path.invariant.some c.in-Ok.ensures.outline;
    }

pub returns-in-Err-clause-puts : goal.returns-in-Err-clause-puts
returns-in-Err-clause-puts g c = λ t e.
    let here = ap (λ w. w.nodes) c.loop-path.invariant.told ∙ e in
    let rest = ap texts_of c.in-Some.ensures.steps in
    one_refused c.in-Err.fault t c.args.rank _ _ _ _ _ _ _ _ _ _ rest c.as_str.ensures.value
    c.get.ensures.text (c.loop-path.invariant.so_far t here) (c.in-Err.ensures.puts t here)

pub returns-in-Err-clause-outline : goal.returns-in-Err-clause-outline
returns-in-Err-clause-outline g c =
    let rest = ap texts_of c.in-Some.ensures.steps in
    stopped_so_far c.in-Err.fault c.args.rank _ _ _ _ _ _ _ _ _ _ rest c.as_str.ensures.value
    c.get.ensures.text c.loop-path.invariant.some c.in-Err.ensures.outline

pub returns-clause-puts : goal.returns-clause-puts
returns-clause-puts g c = λ t e.
    let here = ap (λ w. w.nodes) c.loop-path.invariant.told ∙ e in
    let done = all_done t c.args.rank _ _ _ _ (c.loop-path.invariant.so_far t here) in search (rules, done)
