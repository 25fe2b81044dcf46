use Rattle.std.proofs.Common.{rules, ◌≡◌, ◌∙◌, [], ◌∷◌, ◌++◌, Result, inl, sym, ap}
use Rattle.dist_types.specs.declared.fault.Failed.{Failed}
use Rattle.dist_config.specs.Serve.{serve_calls, serve_verdict, serve_missed}
use Rattle.dist_config.specs.declared.serve.ServeCall.{ServeCall}
use Rattle.dist_config.proofs.serve.MemServe.take.Goals as goal

pub returns-then-contains-clause-row : goal.returns-then-contains-clause-row
returns-then-contains-clause-row c =
    let row : Result (Unit {0}) Failed → ServeCall = λ a. record { config = c.args.config; answer = a } in
    let calls : serve_calls c.fail.new.self ≡ serve_calls c.args.self.now ++ row c.fail.result ∷ [] =
    c.fail.ensures.kept ∙ (c.in_ok-keep_row.ensures.ok.0
    ∙ ap (λ (a : Result (Unit {0}) Failed). serve_calls c.args.self.now ++ row a ∷ [])
    (sym c.fail.ensures.err)) in
    let verdict : c.fail.result ≡ serve_verdict c.args.self.now = search rules in
    let missed : serve_missed c.fail.new.self ≡ serve_missed c.args.self.now =
    c.fail.ensures.missed ∙ c.in_ok-keep_row.ensures.ok.1 in
    inl (calls, verdict, missed)
