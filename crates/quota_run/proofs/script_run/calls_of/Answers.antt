use Rattle.std.proofs.Common.{◌∙◌, ap, map, refl, sym}
use Rattle.std.proofs.lemmas.Iterator.Adapters.{YieldsList-from_vec}
use Rattle.std.proofs.lemmas.Iterator.Consumers.{YieldsList-end}
use Rattle.core_rules.proofs.Lists.{map-same}
use Rattle.quota_script.specs.declared.event.Event.{Event}
use Rattle.quota_run.specs.Lines.{call_of}
use Rattle.quota_run.proofs.script_run.calls_of.Goals as goal

pub returns : goal.returns
returns c =
    let gives = c.into_iter-event-iterator.ensures.into_iter_gives in
    let l = c.loop-event in
    let end = YieldsList-end (YieldsList-from_vec {s = c.into_iter-event-iterator.result}
    c.into_inner-event-items.result.items gives.0 (gives.1 ∙ c.into_inner-event-items.result.ok.0)) l.yielded
    l.event-iterator l.yielded_by c.next.result c.next.new.self c.in-None.is c.next.ensures.steps in
    l.invariant ∙ ap (map call_of) (sym (map-same (λ (e : Event). e) (λ (e : Event). refl) l.yielded) ∙ end.0
    ∙ c.into_inner-event-items.ensures.items)
