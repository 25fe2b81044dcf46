use Rattle.std.proofs.Common.{Ok, inl}
use Rattle.exec_builder.proofs.asking.ask.Goals as goal

pub returns-in-Ok-answer-clause-answers : goal.returns-in-Ok-answer-clause-answers
returns-in-Ok-answer-clause-answers g c = inl (record {
  heard = Ok c.in-Ok.reply.items;
  row = rw c.get.ensures.text at c.in-Ok.ensures.ok;
  says = λ other. rw c.deref.ensures.value at c.in-Ok-answer.ensures.ok;
})
