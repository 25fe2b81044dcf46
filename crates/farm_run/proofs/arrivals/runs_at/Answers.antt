use Rattle.std.proofs.Common.{length, refl, sym, ap, ◌∙◌, arith}
use Rattle.std.proofs.lemmas.Option.{same_Some, slice_get_read}
use Rattle.farm_stations.specs.Post.{Post}
use Rattle.farm_run.proofs.ServerLemmas.{within}
use Rattle.farm_run.proofs.arrivals.runs_at.Goals as goal

pub returns-in-None : goal.returns-in-None
returns-in-None g c = λ st at.
    absurd (omega (arith, within c.args.stations.now c.args.place st at, c.in-None.ensures.lookup.3))

pub returns-in-Some : goal.returns-in-Some
returns-in-Some g c = λ st at.
    c.is_running.ensures
    ∙ ap (λ (x : Post). x.running)
    (same_Some c.in-Some.station.now st
    (sym (slice_get_read c.args.stations.now (length c.args.stations.now) c.args.place c.in-Some.station.now refl
    c.in-Some.ensures.lookup.3.0 c.in-Some.ensures.lookup.1) ∙ at))
