use Rattle.std.proofs.Common.{◌∙◌, sym, ap, arith, string_bytes}
use Rattle.path_pkg.specs.Records.{found}
use Rattle.path_pkg.proofs.FoundLemmas.{one_more, refused_here, all_here}
use Rattle.path_pkg.proofs.collect.all_found.Goals as goal

pub returns-in-Err-clause-records : goal.returns-in-Err-clause-records
returns-in-Err-clause-records g c = λ t e d.
    let here = ap (λ w. w.nodes) c.loop-path.invariant.told ∙ e in
    refused_here t (λ p. string_bytes p) c.args.paths.now c.loop-path.path-index _ _ _ _
    (omega arith) c.path-item.is
    (ap (found t) (sym c.as_str.ensures.value) ∙ c.in-Err.ensures.records t here d)
    (c.loop-path.invariant.same t here)

pub loop-path-preserved : goal.loop-path-preserved
loop-path-preserved g c =
    let leaves = c.in-Ok.ensures.leaves in
    record {
      told = leaves ∙ c.loop-path.invariant.told;
      same = λ t e.
          let here = ap (λ w. w.nodes) (sym leaves) ∙ e in
          one_more t (λ p. string_bytes p) c.args.paths.now c.loop-path.path-index _ _ _ _ _
          (omega arith) c.path-item.is
          (ap (found t) (sym c.as_str.ensures.value) ∙ c.in-Ok.ensures.records t here)
          c.in_ok-append-in-Ok.ensures.items (c.loop-path.invariant.same t here);
    }

pub returns-clause-records : goal.returns-clause-records
returns-clause-records g c = λ t e.
    let here = ap (λ w. w.nodes) c.loop-path.invariant.told ∙ e in
    all_here t (λ p. string_bytes p) c.args.paths.now c.loop-path.path-index _ _ (omega arith)
    (c.loop-path.invariant.same t here)
