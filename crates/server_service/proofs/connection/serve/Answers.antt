use Rattle.std.proofs.Common.{ap, sym, ◌∙◌}
use Rattle.http_connections.proofs.ConnectionLemmas.{sent_by, unsent}
use Rattle.server_service.proofs.SettledLemmas.{replied_whole}
use Rattle.server_service.proofs.connection.serve.Goals as goal

pub returns-in-Ok-reply_to : goal.returns-in-Ok-reply_to
returns-in-Ok-reply_to g c =
    let alone = g.met.L.Link.writes_alone in
    let same = sym (alone c.take.new.link) ∙ (sym c.sent.ensures.apart ∙ alone c.sent.new.link) in
    record {
      served = sent_by _ _ _ _ c.in-Ok.request c.in-Ok-reply_to.reply c.sent.result _ _ _ _ _ _ _ _ _ _ _ _
          c.in-Ok.ensures.cut (c.in-Ok.ensures.steady (λ e. cc))
          (ap (λ p. p.0) same) (ap (λ p. p.1) same) c.in-Ok.ensures.writes.0
          c.in-Ok.ensures.writes.1
          (replied_whole _ _ _ _ _)
          c.in-Ok-reply_to.ensures.replied
          (record {
            answered = c.sent.ensures.answered;
            failed = c.sent.ensures.failed;
            memory = c.sent.ensures.memory;
            steady = c.sent.ensures.steady;
            no_read = c.sent.ensures.no_read;
          });
    }

pub returns : goal.returns
returns g c = record {
  served = unsent _ _ _ _ c.in-Ok.request c.in-Err.field-0 _ _ _ _ _ _ _ _ c.in-Ok.ensures.cut
      (c.in-Ok.ensures.steady (λ e. cc)) c.in-Ok.ensures.writes (replied_whole _ _ _ _ _)
      c.in-Err.ensures.replied;
}
