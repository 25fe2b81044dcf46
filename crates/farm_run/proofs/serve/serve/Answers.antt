use Rattle.std.proofs.Common.{refl, ◌∙◌}
use Rattle.farm_run.proofs.ServeLemmas.{begun_served, drains_by_two}
use Rattle.farm_run.proofs.serve.serve.Goals as goal

pub serve_asked-requires : goal.serve_asked-requires
serve_asked-requires c = record {
  version = λ server wish is.
      c.requires.rules
      ∙ drains_by_two c.args.desk.now.setup.rules c.args.desk.now.setup c.args.arrival.now.peer
      c.args.arrival.now.bytes.now c.in_ok-question.question server wish refl c.in_ok-question.ensures.ok is;
}

pub returns-clause-kept : goal.returns-clause-kept
returns-clause-kept c =
    begun_served c.args.desk.now.setup c.args.desk.now.state.log c.args.arrival.now.stamp.number
    c.args.arrival.now.peer c.args.arrival.now.bytes.now c.in_ok-question.question
    c.serve_asked.result c.in_ok-question.ensures.ok c.serve_asked.ensures.kept
