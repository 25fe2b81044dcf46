use Rattle.std.proofs.Common.{◌∙◌, sym, ap, Err, arith}
use Rattle.path_pkg.specs.Place.{spot_of}
use Rattle.path_pkg.proofs.TakenLemmas.{kept_up, kept_name, kept_linked, ends_up, ends_many, goes_on}
use Rattle.path_pkg.proofs.TakenLemmas.{ends_here, gives_same}
use Rattle.path_pkg.proofs.simplify.+take.Goals as goal

pub loop-step-preserved-in-Ok : goal.loop-step-preserved-in-Ok
loop-step-preserved-in-Ok g m c =
    let leaves = c.in-Ok.ensures.leaves in
    record {
      told = leaves ∙ c.loop-step.invariant.told;
      same = λ t e.
          let here = ap (λ w. w.nodes) (sym leaves) ∙ e in
          kept_up c.args.left t c.args.recording _ _ _ _ _ _ _ c.in-Some.ensures.items c.in-Up.is
          c.in-Ok.ensures.up (c.in-Ok.ensures.free t here) (c.loop-step.invariant.same t here);
    }

pub returns-in-Err-clause-taken : goal.returns-in-Err-clause-taken
returns-in-Err-clause-taken g m c = λ t e d.
    let here = ap (λ w. w.nodes) c.loop-step.invariant.told ∙ e in
    let why = c.in-Err.ensures.at_link d in
    ends_up c.args.left t c.args.recording _ _ _ _ _ _ c.in-Some.ensures.items c.in-Up.is (why.1 t here)
    (c.loop-step.invariant.same t here) ∙ ap (λ x. Err x) (sym why.0)

pub returns-then-left-eq0-clause-taken : goal.returns-then-left-eq0-clause-taken
returns-then-left-eq0-clause-taken g m c = λ t e d.
    let here = ap (λ w. w.nodes) c.loop-step.invariant.told ∙ e in
    ends_many c.args.left t c.args.recording _ _ _ _ _ _ _ _ c.in-Some.ensures.items c.in-Name.is
    c.in_ok-place-in-Name.ensures
    (sym (c.in_ok-is_met-in-Name.ensures.met t here) ∙ c.if-branch.true) (c.if-left-eq0.true)
    (c.loop-step.invariant.same t here)

pub returns-then-branch-clause-taken : goal.returns-then-branch-clause-taken
returns-then-branch-clause-taken g m c = λ t e.
    let here = ap (λ w. w.nodes) c.loop-step.invariant.told ∙ e in
    let next = ap (λ w. w.nodes) c.in_ok-is_met-in-Name.ensures.leaves ∙ here in
    let last = ap (λ w. w.nodes) c.in_ok-next-in-Name.ensures.leaves ∙ next in
    gives_same spot_of _ _ c.take.result
    (goes_on c.args.left t c.args.recording _ _ _ _ _ _ _ _ _ _ c.in-Some.ensures.items c.in-Name.is
    c.in_ok-place-in-Name.ensures
    (sym (c.in_ok-is_met-in-Name.ensures.met t here) ∙ c.if-branch.true) (omega arith)
    (c.in_ok-next-in-Name.ensures.place t next) (c.in_ok-next-in-Name.ensures.steps t next)
    (c.loop-step.invariant.same t here))
    (c.take.ensures.taken t last)

pub loop-step-preserved-else-branch : goal.loop-step-preserved-else-branch
loop-step-preserved-else-branch g m c =
    let leaves = c.in_ok-is_met-in-Name.ensures.leaves in
    record {
      told = leaves ∙ c.loop-step.invariant.told;
      same = λ t e.
          let here = ap (λ w. w.nodes) (sym leaves) ∙ e in
          kept_name c.args.left t c.args.recording _ _ _ _ _ _ _ _ c.in-Some.ensures.items c.in-Name.is
          c.in_ok-place-in-Name.ensures
          (sym (c.in_ok-is_met-in-Name.ensures.met t here) ∙ c.if-branch.false)
          (c.loop-step.invariant.same t here);
    }

pub loop-step-preserved : goal.loop-step-preserved
loop-step-preserved g m c =
    record {
      told = c.loop-step.invariant.told;
      same = λ t e.
          kept_linked c.args.left t c.args.recording _ _ _ _ _ _ _ _ c.in-Some.ensures.items c.in-Linked.is
          c.in_ok-place-in-Linked.ensures (c.loop-step.invariant.same t e);
    }

pub returns-clause-taken : goal.returns-clause-taken
returns-clause-taken g m c = λ t e.
    let here = ap (λ w. w.nodes) c.loop-step.invariant.told ∙ e in
    ends_here c.args.left t c.args.recording _ _ c.loop-step.todo.items _
    (omega (arith, c.loop-step.todo.ok, c.in_default.ensures.cases)) (c.loop-step.invariant.same t here)
