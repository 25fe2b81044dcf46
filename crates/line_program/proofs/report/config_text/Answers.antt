use Rattle.line_program.proofs.ReportLemmas.{missing_text, unreadable_text}
use Rattle.line_program.proofs.report.config_text.Goals as goal

pub returns-in-Missing-clause-text : goal.returns-in-Missing-clause-text
returns-in-Missing-clause-text c = rw c.in-Missing.is missing_text

pub returns-in-Unreadable-clause-text : goal.returns-in-Unreadable-clause-text
returns-in-Unreadable-clause-text c = rw c.in-Unreadable.is unreadable_text
