use Rattle.std.proofs.Common.{true, false, cond, Bool, Option, refl, sym, ap, subst, ◌∙◌}
use Rattle.std.specs.Prelude.{is_some}
use Rattle.std.specs.Option.{option_map}
use Rattle.dist_types.specs.Cause.{counted}
use Rattle.build_server.specs.Books.{Books}
use Rattle.build_server.specs.Builds.{builder_of, is_due}
use Rattle.build_server.specs.declared.run.Ran.{Ran}
use Rattle.farm_entries.specs.Weather.{failed_after_run}
use Rattle.farm_stations.specs.Hands.{hand_by}
use Rattle.farm_stations.specs.Post.{Post as Station, shelf}
use Rattle.farm_stations.specs.Stations.{BuildsBy}
use Rattle.farm_stations.proofs.HandLemmas.{there_still}
use Rattle.farm_stations.proofs.RunLemmas.{ran_on, works_by}
use Rattle.farm_stations.proofs.StationLemmas.{none_was}
use Rattle.farm_stations.proofs.station.Station.run.Goals as goal

pub invariant_of-self-in_err-done : goal.invariant_of-self-in_err-done
invariant_of-self-in_err-done g c = (
  (λ e folder. c.self.invariant.0 (none_was c.self.inside.builder c.build.new.builder c.build.ensures.kept e)
      folder),
  refl,
  there_still c.self.inside.builder c.build.new.builder c.self.inside.own c.build.new.own c.build.ensures.kept
      c.build.ensures.owned c.self.invariant.2,
)

pub returns-then-not-broke_in-clause-works : goal.returns-then-not-broke_in-clause-works
returns-then-not-broke_in-clause-works g c =
    let told = builder_of g.B.BuilderIncoming.built g.B.BuilderIncoming.refusals in
    let new : Station = record {
      life = c.self.inside.life;
      nonce = c.self.inside.nonce;
      authorizer = c.self.inside.authorizer;
      running = true;
      state = c.take_out.new.state;
      failed = c.self.inside.failed;
      builds = c.asked_for-self-inside.result;
      builder = option_map told c.build.new.builder;
      hand = hand_by (option_map told c.build.new.builder) c.build.new.own;
    } in
    works_by c.args.server.now c.args.self.now new c.in-Some.state c.args.job c.in-Ok.held c.args.run.now
    c.args.inputs.now c.in_ok-done.done
    (ap (λ (st : Station). st.state) (sym c.self.view_is)
    ∙ ap (λ (b : Option Books). shelf b (option_map g.F.Folder.held c.self.inside.closed)) c.in-Some.is)
    c.in-Ok.ensures.begins
    (subst (λ (st : Station). BuildsBy c.args.server.now st.builds st.builder new.builder c.in-Ok.held
    c.args.run.now c.args.inputs.now c.in_ok-done.done) c.self.view_is c.in_ok-done.ensures.goes)
    (ap (λ (st : Station). st.failed) c.self.view_is)
    (ap (λ (r : Ran). failed_after_run r false) (sym c.ran.ensures.ran) ∙ sym c.broke_in.ensures
    ∙ c.if-not-broke_in.true)

pub returns-then-not-broke_in-clause-after : goal.returns-then-not-broke_in-clause-after
returns-then-not-broke_in-clause-after g c =
    let told = builder_of g.B.BuilderIncoming.built g.B.BuilderIncoming.refusals in
    let new : Station = record {
      life = c.self.inside.life;
      nonce = c.self.inside.nonce;
      authorizer = c.self.inside.authorizer;
      running = true;
      state = c.take_out.new.state;
      failed = c.self.inside.failed;
      builds = c.asked_for-self-inside.result;
      builder = option_map told c.build.new.builder;
      hand = hand_by (option_map told c.build.new.builder) c.build.new.own;
    } in
    ran_on c.args.server.now c.args.self.now new c.in-Some.state c.args.job c.in-Ok.held c.args.run.now
    c.args.inputs.now c.in_ok-done.done
    (ap (λ (st : Station). st.state) (sym c.self.view_is)
    ∙ ap (λ (b : Option Books). shelf b (option_map g.F.Folder.held c.self.inside.closed)) c.in-Some.is)
    c.in-Ok.ensures.begins
    (subst (λ (st : Station). BuildsBy c.args.server.now st.builds st.builder new.builder c.in-Ok.held
    c.args.run.now c.args.inputs.now c.in_ok-done.done) c.self.view_is c.in_ok-done.ensures.goes)
    (c.asked_for-self-inside.ensures
    ∙ ap (λ (b : Bool). cond b (counted c.self.inside.builds) c.self.inside.builds) c.is_due-due.ensures.due
    ∙ ap (λ (st : Station). cond (is_due c.in-Ok.held) (counted st.builds) st.builds) c.self.view_is)
    (ap (λ (st : Station). st.life) c.self.view_is) (ap (λ (st : Station). st.authorizer) c.self.view_is)
    (ap (λ (st : Station). st.nonce) c.self.view_is)
    (ap (λ (b : Option Books). is_some b) (sym c.in-Some.is) ∙ ap (λ (st : Station). st.running) c.self.view_is)
