use Rattle.std.proofs.Common.{◌<◌, ◌^◌, List, length, ap, subst}
use Rattle.std.specs.Option.{option_map}
use Rattle.build_server.specs.Builds.{builder_of}
use Rattle.farm_script.specs.declared.setup.BuilderLine.{BuilderLine}
use Rattle.farm_stations.proofs.HandLemmas.{own_build}
use Rattle.farm_stations.proofs.station.build.Goals as goal

pub returns-in_ok-done-in-Some-own-clause-goes : goal.returns-in_ok-done-in-Some-own-clause-goes
returns-in_ok-done-in-Some-own-clause-goes g c =
    let told = builder_of g.B.BuilderIncoming.built g.B.BuilderIncoming.refusals in
    (own_build c.args.server.now c.args.builds (option_map told c.args.builder.now) c.args.own.now
    c.in-Some-own.own c.build_own.new.own c.args.held c.args.run.now c.args.inputs.now
    c.in_ok-done-in-Some-own.done (ap (option_map told) c.in-None.is) c.in-Some-own.is
    (subst (λ (l : List BuilderLine). length l < 2 ^ 64) c.get-lines.ensures.items c.has_count.ensures)
    c.requires.hand c.in_ok-done-in-Some-own.ensures.builds c.build_own.ensures.called.answers
    c.build_own.ensures.word).0

pub returns-in_ok-done-in-Some-own-clause-left : goal.returns-in_ok-done-in-Some-own-clause-left
returns-in_ok-done-in-Some-own-clause-left g c =
    let told = builder_of g.B.BuilderIncoming.built g.B.BuilderIncoming.refusals in
    (own_build c.args.server.now c.args.builds (option_map told c.args.builder.now) c.args.own.now
    c.in-Some-own.own c.build_own.new.own c.args.held c.args.run.now c.args.inputs.now
    c.in_ok-done-in-Some-own.done (ap (option_map told) c.in-None.is) c.in-Some-own.is
    (subst (λ (l : List BuilderLine). length l < 2 ^ 64) c.get-lines.ensures.items c.has_count.ensures)
    c.requires.hand c.in_ok-done-in-Some-own.ensures.builds c.build_own.ensures.called.answers
    c.build_own.ensures.word).1
