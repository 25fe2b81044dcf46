use Rattle.std.proofs.Common.{◌≡◌, ◌∙◌, ap, length, arith}
use Rattle.http_connections.specs.Came.{came, role_of}
use Rattle.http_connections.specs.Looked.{kept_kind}
use Rattle.http_connections.proofs.WholeLemmas.{no_kind_yet, of_kind}
use Rattle.http_connections.proofs.begun.Begun.kind.Goals as goal

pub returns-in-Open : goal.returns-in-Open
returns-in-Open c = record {
  kind = no_kind_yet (role_of c.args.self.now) (came c.args.self.now) c.args.more_comes c.in-Open.field-0
      (c.args.self.now.goes_on _ c.in-Open.is);
}

pub returns-in-Stopped : goal.returns-in-Stopped
returns-in-Stopped c =
    let len : c.len.result ≡ length (came c.args.self.now) =
    omega (arith, c.len.ensures, c.args.self.now.bytes.ok.0) in
    record {
      kind = of_kind (role_of c.args.self.now) (came c.args.self.now) c.args.more_comes c.in-Stopped.opened _
          (c.args.self.now.stopped _ c.in-Stopped.is)
          (c.kind_by.ensures ∙ ap (λ n. kept_kind n c.args.more_comes c.in-Stopped.opened) len);
    }
