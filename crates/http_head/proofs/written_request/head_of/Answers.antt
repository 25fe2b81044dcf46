use Rattle.std.proofs.Common.{append_assoc}
use Rattle.http_head.proofs.written_request.head_of.Goals as goal

pub returns : goal.returns
returns c =
    rw (
      c.in_ok-push_str-7.ensures.bytes,
      c.in_ok-push_content.ensures,
      c.in_ok-push_token.ensures,
      c.in_ok-push_str-6.ensures.bytes,
      c.in_ok-push_str-5.ensures.bytes,
      c.in_ok-push_str-4.ensures.bytes,
      c.in_ok-push_str-3.ensures.bytes,
      c.in_ok-push_str-2.ensures.bytes,
      c.in_ok-push_str.ensures.bytes,
      c.in_ok-head.ensures.bytes,
      c.name_of.ensures,
      c.get.ensures.text,
      c.get-2.ensures.text,
      c.token_of.ensures,
      c.body_of.ensures,
    ) (simp append_assoc)
