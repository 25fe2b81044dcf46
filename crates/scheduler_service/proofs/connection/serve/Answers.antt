use Rattle.std.proofs.Common.{Ok, Err, refl, ap, sym, ◌∙◌}
use Rattle.core_rules.specs.declared.start.Start.{Start}
use Rattle.http_connections.specs.Form.{form_of}
use Rattle.http_connections.proofs.ConnectionLemmas.{sent_by, unsent}
use Rattle.scheduler_service.proofs.EntryLemmas.{done_at}
use Rattle.scheduler_service.proofs.RepliedLemmas.{replied, unrouted, drains_by_two}
use Rattle.scheduler_service.proofs.SettledLemmas.{replied_whole}
use Rattle.scheduler_service.proofs.connection.serve.Goals as goal

pub returns-in-Ok-answer-clause-served : goal.returns-in-Ok-answer-clause-served
returns-in-Ok-answer-clause-served g c =
    let same_rules = c.rules-rules.ensures.rules ∙ ap (λ (s : Start). s.rules) (sym c.requires.pass.start) in
    let refusals = (g.met.K.ClientAuthCheck g.world.𝓛 g.world.𝓜 g.world.𝓡
    ((λ s x. x), (λ x. x), (λ x. x), λ x. x)).refusals in
    let alone = g.met.L.Link.writes_alone in
    let same = sym (alone c.take.new.link) ∙ (sym c.sent.ensures.apart ∙ alone c.sent.new.link) in
    sent_by _ _ _ _ c.in-Ok.request c.in-Ok-answer.reply c.sent.result _ _ _ _ _ _ _ _ _ _ _ _
    c.in-Ok.ensures.cut (c.in-Ok.ensures.steady (λ e. cc))
    (ap (λ p. p.0) same) (ap (λ p. p.1) same) c.in-Ok.ensures.writes.0
    c.in-Ok.ensures.writes.1
    (replied_whole c.rules-rules.result _ _ _ refusals _ _ _ _ _ same_rules)
    (replied c.rules-rules.result _ _ _ _ c.in-Ok.request _ _ _
    (record { coming = g.C.Clock.moments c.routed.new.clock; last = g.C.Clock.last c.routed.new.clock })
    (Ok c.in-Ok-routed.routing) _ (Ok c.in-Ok-answer.reply) same_rules c.in-Ok-routed.ensures.read
    c.in-Ok-routed.ensures.asks
    (done_at (form_of c.in-Ok.request) c.in-Ok-routed.routing (record {
      pass = c.args.pass.now;
      clock = record {
        coming = g.C.Clock.moments c.routed.new.clock;
        last = g.C.Clock.last
            c.routed.new.clock;
      };
      asked = g.D.Dialer.asked c.args.dialer.now;
      faults = g.D.Dialer.faults c.args.dialer.now;
    })
    (record {
      pass = c.answer.new.pass;
      clock = record {
        coming = g.C.Clock.moments c.answer.new.clock;
        last = g.C.Clock.last
            c.answer.new.clock;
      };
      asked = g.D.Dialer.asked c.answer.new.dialer;
      faults = g.D.Dialer.faults c.answer.new.dialer;
    })
    (Ok c.in-Ok-answer.reply) (rw c.form_of-json.ensures at c.in-Ok-answer.ensures.told)))
    (record {
      answered = c.sent.ensures.answered;
      failed = c.sent.ensures.failed;
      memory = c.sent.ensures.memory;
      steady = c.sent.ensures.steady;
      no_read = c.sent.ensures.no_read;
    })

pub returns-in-Err-clause-served : goal.returns-in-Err-clause-served
returns-in-Err-clause-served g c =
    let same_rules = c.rules-rules.ensures.rules ∙ ap (λ (s : Start). s.rules) (sym c.requires.pass.start) in
    let refusals = (g.met.K.ClientAuthCheck g.world.𝓛 g.world.𝓜 g.world.𝓡
    ((λ s x. x), (λ x. x), (λ x. x), λ x. x)).refusals in
    unsent _ _ _ _ c.in-Ok.request c.in-Err.field-0 _ _ _ _ _ _ _ _ c.in-Ok.ensures.cut
    (c.in-Ok.ensures.steady (λ e. cc)) c.in-Ok.ensures.writes
    (replied_whole c.rules-rules.result _ _ _ refusals _ _ _ _ _ same_rules)
    (unrouted c.rules-rules.result _ _ _ _ c.in-Ok.request _ _ _
    (record { coming = g.C.Clock.moments c.routed.new.clock; last = g.C.Clock.last c.routed.new.clock })
    c.in-Err.field-0 c.in-Err.field-0 (Err c.in-Err.field-0) same_rules c.in-Err.ensures.read
    c.in-Err.ensures.asks refl)

pub returns-clause-served : goal.returns-clause-served
returns-clause-served g c =
    let same_rules = c.rules-rules.ensures.rules ∙ ap (λ (s : Start). s.rules) (sym c.requires.pass.start) in
    let refusals = (g.met.K.ClientAuthCheck g.world.𝓛 g.world.𝓜 g.world.𝓡
    ((λ s x. x), (λ x. x), (λ x. x), λ x. x)).refusals in
    unsent _ _ _ _ c.in-Ok.request c.in-Err-answer.field-0 _ _ _ _ _ _ _ _ c.in-Ok.ensures.cut
    (c.in-Ok.ensures.steady (λ e. cc)) c.in-Ok.ensures.writes
    (replied_whole c.rules-rules.result _ _ _ refusals _ _ _ _ _ same_rules)
    (replied c.rules-rules.result _ _ _ _ c.in-Ok.request _ _ _
    (record { coming = g.C.Clock.moments c.routed.new.clock; last = g.C.Clock.last c.routed.new.clock })
    (Ok c.in-Ok-routed.routing) _ (Err c.in-Err-answer.field-0) same_rules c.in-Ok-routed.ensures.read
    c.in-Ok-routed.ensures.asks
    (done_at (form_of c.in-Ok.request) c.in-Ok-routed.routing (record {
      pass = c.args.pass.now;
      clock = record {
        coming = g.C.Clock.moments c.routed.new.clock;
        last = g.C.Clock.last
            c.routed.new.clock;
      };
      asked = g.D.Dialer.asked c.args.dialer.now;
      faults = g.D.Dialer.faults c.args.dialer.now;
    })
    (record {
      pass = c.answer.new.pass;
      clock = record {
        coming = g.C.Clock.moments c.answer.new.clock;
        last = g.C.Clock.last
            c.answer.new.clock;
      };
      asked = g.D.Dialer.asked c.answer.new.dialer;
      faults = g.D.Dialer.faults c.answer.new.dialer;
    })
    (Err c.in-Err-answer.field-0) (rw c.form_of-json.ensures at c.in-Err-answer.ensures.told)))

pub answer-requires-clause-version : goal.answer-requires-clause-version
answer-requires-clause-version g c = λ server drain is.
    sym c.rules-rules.ensures.rules
    ∙ drains_by_two c.rules-rules.result _ _ _ _ c.in-Ok.request _ _ _ c.in-Ok-routed.routing server drain
    c.in-Ok-routed.ensures.asks is
