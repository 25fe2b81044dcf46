use Rattle.std.proofs.Common.{◌≡◌, ◌∙◌, ap, length, arith}
use Rattle.http_connections.specs.Came.{came, role_of}
use Rattle.http_connections.specs.Looked.{is_whole_by}
use Rattle.http_connections.proofs.WholeLemmas.{not_there, is_there}
use Rattle.http_connections.proofs.begun.Begun.is_whole.Goals as goal

pub returns-in-Open : goal.returns-in-Open
returns-in-Open c = record {
  there = not_there (came c.args.self.now) c.in-Open.field-0 (c.args.self.now.goes_on _ c.in-Open.is);
}

pub returns-in-Stopped : goal.returns-in-Stopped
returns-in-Stopped c =
    let len : c.len.result ≡ length (came c.args.self.now) =
    omega (arith, c.len.ensures, c.args.self.now.bytes.ok.0) in
    record {
      there = is_there (role_of c.args.self.now) (came c.args.self.now) c.in-Stopped.opened _
          (c.args.self.now.stopped _ c.in-Stopped.is)
          (c.is_whole_by.ensures ∙ ap (λ n. is_whole_by n c.in-Stopped.opened) len);
    }
