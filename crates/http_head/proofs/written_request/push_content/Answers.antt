use Rattle.std.proofs.Common.{append_assoc}
use Rattle.http_head.proofs.written_request.push_content.Goals as goal

pub returns-in_ok-push_str-in-Post-2 : goal.returns-in_ok-push_str-in-Post-2
returns-in_ok-push_str-in-Post-2 c =
    rw (
      c.in_ok-push_str-in-Post-2.ensures.bytes,
      c.in_ok-write-in-Post.ensures.bytes,
      c.in_ok-push_str-in-Post.ensures.bytes,
      c.in-Post.is,
    ) (simp append_assoc)
