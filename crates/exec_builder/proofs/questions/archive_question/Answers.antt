use Rattle.std.proofs.Common.{◌∙◌, ◌++◌, codes}
use Rattle.http_head.specs.WrittenRequest.{request_text}
use Rattle.http_routes.specs.Requests.{post_with}
use Rattle.exec_builder.specs.Questions.{host_at, archive_question}
use Rattle.exec_builder.proofs.questions.archive_question.Goals as goal

pub returns : goal.returns
unfolding archive_question
returns c = record {
  text = c.in_ok-bytes.ensures ∙ (λ i. request_text
      (post_with
      ((c.in_ok-target.ensures.ok ∙ (λ j. codes "/api/v1/executor/archive/" ++ c.archive_id-id.ensures.id j)) i)
      (host_at c.args.executor.now) c.args.executor.now.secret (c.in_ok-body.ensures.bytes i)));
}
