use Rattle.std.proofs.Common.{Ok, Err, ap, sym, ◌∙◌}
use Rattle.http_connections.proofs.ConnectionLemmas.{sent_by, unsent}
use Rattle.quota_service.proofs.QuestionLemmas.{asks_listed, asks_no_drain}
use Rattle.quota_service.proofs.WholeLemmas.{replied_whole, replied, unrouted}
use Rattle.quota_service.proofs.connection.serve_quota_connection.Goals as goal

pub answer-requires : goal.answer-requires
answer-requires g c = record {
  listed = asks_listed c.args.quota.now.clients (g.V.ServerAuthCheck.server_of c.args.server.now) c.args.peer
      c.in-Ok.request c.in-Ok-route.what (rw c.new-client.ensures at c.in-Ok-route.ensures);
  no_drain = asks_no_drain c.args.quota.now.clients (g.V.ServerAuthCheck.server_of c.args.server.now)
      c.args.peer c.in-Ok.request c.in-Ok-route.what (rw c.new-client.ensures at c.in-Ok-route.ensures);
}

pub returns-in-Ok-answer : goal.returns-in-Ok-answer
returns-in-Ok-answer g c =
    let alone = g.met.L.Link.writes_alone in
    let same = sym (alone c.take.new.link) ∙ (sym c.send.ensures.apart ∙ alone c.send.new.link) in
    record {
      served = sent_by _ _ _ _ c.in-Ok.request c.in-Ok-answer.reply c.send.result _ _ _ _ _ _ _ _ _ _ _ _
          (rw c.new-client.ensures at c.in-Ok.ensures.cut) (c.in-Ok.ensures.steady (λ e. cc))
          (ap (λ p. p.0) same) (ap (λ p. p.1) same) c.in-Ok.ensures.writes.0
          c.in-Ok.ensures.writes.1 (replied_whole _ _ _ _ _)
          (replied _ _ c.in-Ok.request _ _
          (record { coming = g.C.Clock.moments c.now-now.new.self; last = g.C.Clock.last c.now-now.new.self })
          c.now-now.result c.in-Ok-route.what (Ok c.in-Ok-answer.reply)
          (record { left = c.now-now.ensures.left; last = rw c.now-now.ensures.last c.now-now.ensures.given })
          c.now-now.ensures.last (rw c.new-client.ensures at c.in-Ok-route.ensures) c.in-Ok-answer.ensures.done)
          (record {
            answered = c.send.ensures.answered;
            failed = c.send.ensures.failed;
            memory = c.send.ensures.memory;
            steady = c.send.ensures.steady;
            no_read = c.send.ensures.no_read;
          });
    }

pub returns-in-Err : goal.returns-in-Err
returns-in-Err g c = record {
  served = unsent _ _ _ _ c.in-Ok.request c.in-Err.field-0 _ _ _ _ _ _ _ _
      (rw c.new-client.ensures at c.in-Ok.ensures.cut) (c.in-Ok.ensures.steady (λ e. cc))
      c.in-Ok.ensures.writes (replied_whole _ _ _ _ _)
      (unrouted _ _ c.in-Ok.request _
      (record { coming = g.C.Clock.moments c.now-now.new.self; last = g.C.Clock.last c.now-now.new.self })
      c.in-Err.field-0
      (record { left = c.now-now.ensures.left; last = rw c.now-now.ensures.last c.now-now.ensures.given }));
}

pub returns : goal.returns
returns g c = record {
  served = unsent _ _ _ _ c.in-Ok.request c.in-Err-answer.field-0 _ _ _ _ _ _ _ _
      (rw c.new-client.ensures at c.in-Ok.ensures.cut) (c.in-Ok.ensures.steady (λ e. cc))
      c.in-Ok.ensures.writes (replied_whole _ _ _ _ _)
      (replied _ _ c.in-Ok.request _ _
      (record { coming = g.C.Clock.moments c.now-now.new.self; last = g.C.Clock.last c.now-now.new.self })
      c.now-now.result c.in-Ok-route.what (Err c.in-Err-answer.field-0)
      (record { left = c.now-now.ensures.left; last = rw c.now-now.ensures.last c.now-now.ensures.given })
      c.now-now.ensures.last (rw c.new-client.ensures at c.in-Ok-route.ensures) c.in-Err-answer.ensures.done);
}
