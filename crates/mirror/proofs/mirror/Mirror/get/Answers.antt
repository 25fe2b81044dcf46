use Rattle.mirror.proofs.ByRouteLemmas.{as_one_by, rules_by}
use Rattle.mirror.proofs.GetLemmas.{get_no_more, get_stays}
use Rattle.mirror.proofs.mirror.Mirror.get.Goals as goal

pub returns-clause-unlisted : goal.returns-clause-unlisted
returns-clause-unlisted g c = get_no_more _ _ _ _ _ _ c.find-answer.ensures.gets.gets

pub returns-clause-stays : goal.returns-clause-stays
returns-clause-stays g c = get_stays _ _ _ _ _ _ c.find-answer.ensures.gets.gets

pub returns-clause-rules : goal.returns-clause-rules
returns-clause-rules g c =
    rules_by _ _ _ _ c.args.tc.now c.archive_id-id.ensures.long c.archive_id-id.ensures.lower _ _ _
    c.find-answer.ensures.gets

pub returns-clause-as_one : goal.returns-clause-as_one
returns-clause-as_one g c =
    as_one_by _ _ _ _ c.args.tc.now c.archive_id-id.ensures.long c.archive_id-id.ensures.lower _ _ _
    c.find-answer.ensures.gets
