use Rattle.std.proofs.Common.{IfOk, sym, subst}
use Rattle.mirror_script.specs.declared.line.Site.{Site}
use Rattle.mirror_script.specs.declared.line.Step.TheVariants as step
use Rattle.mirror_run.specs.Sites.{Does}
use Rattle.mirror_run.proofs.sites.put.Goals as goal

pub returns-in-Near : goal.returns-in-Near
returns-in-Near c = record {
  does = subst
      (λ (s : Site). IfOk c.put_near.result
      (λ l. Does (step.Put s c.args.bytes.now) l c.args.sites.now c.put_near.new.sites))
      (sym c.in-Near.is) c.put_near.ensures.does;
}

pub returns-in-Far : goal.returns-in-Far
returns-in-Far c = record {
  does = subst
      (λ (s : Site). IfOk c.put_far.result
      (λ l. Does (step.Put s c.args.bytes.now) l c.args.sites.now c.put_far.new.sites))
      (sym c.in-Far.is) c.put_far.ensures.does;
}
