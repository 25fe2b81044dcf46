use Rattle.std.proofs.Common.{◌≤◌, length, refl, ap, ◌∙◌, sym, arith, map}
use Rattle.std.proofs.lemmas.List.{drop_more, drop_all}
use Rattle.quota.specs.Holdings.{ended_at_all}
use Rattle.quota.proofs.EndLemmas.{drop_none, regs_next, regs_none}
use Rattle.quota.proofs.holdings.Holdings.end_all.Goals as goal

pub loop-reg-init : goal.loop-reg-init
loop-reg-init c = (
  ap (λ ns. map (ended_at_all ns) c.args.self.now.owned) (drop_none c.args.regs.now),
  refl,
  refl,
)

pub loop-reg-preserved : goal.loop-reg-preserved
loop-reg-preserved c = let l = c.loop-reg in (
  ap (map (ended_at_all _)) c.end_at.ensures.owned ∙ regs_next _ _ l.self.owned
      ∙ ap (λ ns. map (ended_at_all ns) l.self.owned)
      (sym (drop_more c.args.regs.now l.reg-index _ c.loop-reg-test.true)) ∙ l.invariant.0,
  c.end_at.ensures.first ∙ l.invariant.1,
  c.end_at.ensures.clients ∙ l.invariant.2,
)

pub returns-clause-owned : goal.returns-clause-owned
returns-clause-owned c =
    let l = c.loop-reg in
    let le : length c.args.regs.now ≤ l.reg-index = omega (arith, c.loop-reg-test.false) in
    sym (regs_none l.self.owned) ∙ ap (λ ns. map (ended_at_all ns) l.self.owned)
    (sym (drop_all l.reg-index c.args.regs.now le)) ∙ l.invariant.0

pub returns-clause-first : goal.returns-clause-first
returns-clause-first c = c.loop-reg.invariant.1

pub returns-clause-clients : goal.returns-clause-clients
returns-clause-clients c = c.loop-reg.invariant.2
