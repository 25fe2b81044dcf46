use Rattle.std.proofs.Common.{ap, refl, vec_len, ◌∙◌}
use Rattle.core_rules.specs.Rule.{rule}
use Rattle.core_rules.specs.declared.call.Call.TheVariants as call
use Rattle.sched.proofs.PassLemmas.{ends_step, pass_step, turn_step, spends_nothing}
use Rattle.sched.proofs.scheduler.Scheduler.handle_heartbeat_server.Goals as goal

pub end-requires-clause-may : goal.end-requires-clause-may
end-requires-clause-may g c κs lives =
    let p = c.pass.invariant in
    let b = c.begin-turn.ensures.begins p.view (ap (λ x. x.views) c.replace.ensures.value ∙ p.is) in
    ends_step (call.Beat c.now-now.result c.args.server_id c.args.nonce c.args.num_cpus
    (g.A.JobAuthorizer.key_of c.args.job_authorizer)) _ _ _ p.view _ c.desk.inside.state
    c.hear-answer.new.state
    (vec_len c.desk.inside.passes) c.begin-turn.result.1 c.desk.view_is b p.holds c.hear-answer.ensures.step
    (λ log begins. spends_nothing log p.view.own
    (rule (record { start = p.view.start; log = log })
    (call.Beat c.now-now.result c.args.server_id c.args.nonce c.args.num_cpus
    (g.A.JobAuthorizer.key_of c.args.job_authorizer))) (λ job. refl))

pub invariant_of-pass : goal.invariant_of-pass
invariant_of-pass g c =
    let p = c.pass.invariant in
    let b = c.begin-turn.ensures.begins p.view (ap (λ x. x.views) c.replace.ensures.value ∙ p.is) in
    pass_step (call.Beat c.now-now.result c.args.server_id c.args.nonce c.args.num_cpus
    (g.A.JobAuthorizer.key_of c.args.job_authorizer)) _ _ _ _ _ _ _ _ _ c.desk.inside.state
    c.hear-answer.new.state
    (vec_len c.desk.inside.passes) c.begin-turn.result.1 p c.desk.view_is b c.hear-answer.ensures.step
    c.end.ensures.views c.end.ensures.few c.end.ensures.counted

pub returns : goal.returns
returns g c =
    let p = c.pass.invariant in
    let b = c.begin-turn.ensures.begins p.view (ap (λ x. x.views) c.replace.ensures.value ∙ p.is) in
    record {
      heard = turn_step (λ now. call.Beat now c.args.server_id c.args.nonce c.args.num_cpus
          (g.A.JobAuthorizer.key_of c.args.job_authorizer)) _ _ _ _ _ c.now-now.result _ _ _ _ _ _ _
          c.desk.inside.state c.hear-answer.new.state
          (vec_len c.desk.inside.passes) c.begin-turn.result.1 _ p c.desk.view_is b
          c.hear-answer.ensures.step
          c.end.ensures.views
          (c.end.ensures.of ∙ (c.begin-turn.ensures.of ∙ ap (λ x. x.table_id) c.replace.ensures.value))
          c.pass.view_is
          (record {
            given = c.now-now.ensures.given;
            left = c.now-now.ensures.left;
            last =
                c.now-now.ensures.last;
          });
    }
