use Rattle.std.proofs.Common.{ℕ, ◌≤◌, List, length, sym, subst}
use Rattle.mirror_script.specs.declared.line.Site.TheVariants as site
use Rattle.mirror_script.specs.declared.line.Step.TheVariants as step
use Rattle.mirror_script.specs.declared.said.Said.TheVariants as said
use Rattle.mirror_run.specs.Sites.{Does}
use Rattle.mirror_run.proofs.SiteLemmas.{put_far}
use Rattle.mirror_run.proofs.sites.put_far.Goals as goal

pub returns-in-Ok : goal.returns-in-Ok
returns-in-Ok c = record {
  does = subst
      (λ (v : List ℕ). Does (step.Put site.Far v) (said.Put c.in-Ok.tc) c.args.sites.now c.put_far.new.self)
      c.get.ensures.bytes
      (put_far c.in-Ok.tc c.in-Ok.tc c.get.result.now c.args.sites.now c.put_far.new.self
      (subst (λ (v : List ℕ). length v ≤ 1048576) (sym c.get.ensures.bytes) c.requires.short)
      c.in-Ok.ensures.id c.in-Ok.ensures.stores c.in-Ok.ensures.dialer.0 c.in-Ok.ensures.rest);
}
