use Rattle.std.proofs.Common.{sym, ◌∙◌}
use Rattle.http_routes.proofs.AskLemmas.{beat_asked, status_asked, drain_asked, elsewhere_asked}
use Rattle.http_routes.proofs.route.asked_of.Goals as goal

pub returns-then-is_at-2 : goal.returns-then-is_at-2
returns-then-is_at-2 g c =
    rw (beat_asked c.args.terms.rules (g.V.ServerAuthCheck.server_of c.args.check.now) c.args.request.now
    c.args.terms.peer c.args.said (sym c.is_at.ensures ∙ c.if-is_at.false)
    (sym c.is_at-2.ensures ∙ c.if-is_at-2.true)) c.beat_of.ensures

pub returns-then-is_at-3 : goal.returns-then-is_at-3
returns-then-is_at-3 g c =
    status_asked c.args.terms.rules (g.V.ServerAuthCheck.server_of c.args.check.now) c.args.request.now
    c.args.terms.peer c.args.said (sym c.is_at.ensures ∙ c.if-is_at.false)
    (sym c.is_at-2.ensures ∙ c.if-is_at-2.false) (sym c.is_at-3.ensures ∙ c.if-is_at-3.true)

pub returns-then-at_drain : goal.returns-then-at_drain
returns-then-at_drain g c =
    rw (drain_asked c.args.terms.rules (g.V.ServerAuthCheck.server_of c.args.check.now) c.args.request.now
    c.args.terms.peer c.args.said (sym c.is_at.ensures ∙ c.if-is_at.false)
    (sym c.is_at-2.ensures ∙ c.if-is_at-2.false) (sym c.is_at-3.ensures ∙ c.if-is_at-3.false)
    (sym c.at_drain.ensures ∙ c.if-at_drain.true)) c.drain_of.ensures

pub returns : goal.returns
returns g c =
    rw (elsewhere_asked c.args.terms.rules (g.V.ServerAuthCheck.server_of c.args.check.now)
    c.args.request.now c.args.terms.peer c.args.said (sym c.is_at.ensures ∙ c.if-is_at.false)
    (sym c.is_at-2.ensures ∙ c.if-is_at-2.false) (sym c.is_at-3.ensures ∙ c.if-is_at-3.false)
    (sym c.at_drain.ensures ∙ c.if-at_drain.false)) c.report_of.ensures
