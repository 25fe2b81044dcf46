use Rattle.farm.proofs.AnswerLemmas.{answered, statuses_of, faulty_of, faultless_of, left_of, order_of}
use Rattle.farm.proofs.AnswerLemmas.{counts_of, no_command_of, command_of, configured_of, served_of, storm_of}
use Rattle.farm.proofs.AuditAnswerLemmas.{AuditLaws, held_of, refused_of, behind_of}
use Rattle.farm.proofs.NeedLemmas.{undrawn_of, unserved_of}
use Rattle.farm.proofs.command.dist_main.Goals as goal

-- what was done, reported
told : goal.returns-clause-answered
told g c = answered c.run_words-done.result c.report.result _ _ _ c.run_words-done.ensures.done
    c.report.ensures.reported

pub returns-clause-answered : goal.returns-clause-answered
returns-clause-answered g c = told g c

pub returns-clause-statuses : goal.returns-clause-statuses
returns-clause-statuses g c = statuses_of c.report.result _ _ _ (told g c)

pub returns-clause-faulty : goal.returns-clause-faulty
returns-clause-faulty g c = faulty_of c.report.result _ _ _ (told g c)

pub returns-clause-faultless : goal.returns-clause-faultless
returns-clause-faultless g c = faultless_of c.report.result _ _ _ (told g c)

pub returns-clause-left : goal.returns-clause-left
returns-clause-left g c = left_of c.report.result _ _ _ (told g c)

pub returns-clause-order : goal.returns-clause-order
returns-clause-order g c = order_of c.report.result _ _ _ (told g c)

pub returns-clause-counts : goal.returns-clause-counts
returns-clause-counts g c = counts_of c.report.result _ _ _ (told g c)

pub returns-clause-no_command : goal.returns-clause-no_command
returns-clause-no_command g c = no_command_of c.report.result _ _ _ (told g c)

pub returns-clause-command : goal.returns-clause-command
returns-clause-command g c = command_of c.report.result _ _ _ (told g c)

pub returns-clause-storms : goal.returns-clause-storms
returns-clause-storms g c = storm_of c.report.result _ _ _ (told g c)

pub returns-clause-configured : goal.returns-clause-configured
returns-clause-configured g c = configured_of c.report.result _ _ _ (told g c)

pub returns-clause-served : goal.returns-clause-served
returns-clause-served g c = served_of c.report.result _ _ _ (told g c)

pub returns-clause-undrawn : goal.returns-clause-undrawn
returns-clause-undrawn g c = undrawn_of c.report.result _ _ _ (told g c)

pub returns-clause-unserved : goal.returns-clause-unserved
returns-clause-unserved g c = unserved_of c.report.result _ _ _ (told g c)

pub returns-clause-held : goal.returns-clause-held
returns-clause-held g c = held_of (record {
  holds = c.what_holds_is_held.ensures;
  text = c.refusals_are_first_faults.ensures.text;
  judged = c.refusals_are_first_faults.ensures.judged;
  books = c.refusals_are_first_faults.ensures.books;
}) c.report.result _ _ _ (told g c)

pub returns-clause-refused : goal.returns-clause-refused
returns-clause-refused g c = refused_of (record {
  holds = c.what_holds_is_held.ensures;
  text = c.refusals_are_first_faults.ensures.text;
  judged = c.refusals_are_first_faults.ensures.judged;
  books = c.refusals_are_first_faults.ensures.books;
}) c.report.result _ _ _ (told g c)

pub returns-clause-behind : goal.returns-clause-behind
returns-clause-behind g c = behind_of c.report.result _ _ _ (told g c)
