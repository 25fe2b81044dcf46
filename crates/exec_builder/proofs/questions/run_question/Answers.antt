use Rattle.std.proofs.Common.{◌∙◌, ◌++◌, codes}
use Rattle.http_head.specs.WrittenRequest.{request_text}
use Rattle.http_routes.specs.Requests.{post_with}
use Rattle.exec_builder.specs.Questions.{host_at, run_question}
use Rattle.exec_builder.proofs.questions.run_question.Goals as goal

pub returns-clause-text : goal.returns-clause-text
unfolding run_question
returns-clause-text c =
    c.in_ok-bytes.ensures ∙ (λ i. request_text
    (post_with
    ((c.in_ok-target.ensures.ok ∙ (λ j. codes "/api/v1/executor/run/" ++ c.archive_id-id.ensures.id j)) i)
    (host_at c.args.executor.now) c.args.executor.now.secret (c.in_ok-body.ensures.body i)))
