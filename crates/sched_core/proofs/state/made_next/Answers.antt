use Rattle.sched_core.specs.Books.{kept_by}
use Rattle.sched_core.proofs.KeyLemmas.{have_keys}
use Rattle.sched_core.proofs.state.made_next.Goals as goal

pub made-requires-clause-keys : goal.made-requires-clause-keys
made-requires-clause-keys g c κs within = let j = c.args.journal.now in
    have_keys j.log.items j.books.lists.rows (kept_by g.A.JobAuthorizer.key_of j.keys.entries)
    c.requires.rows c.requires.keys

pub returns-clause-made : goal.returns-clause-made
returns-clause-made g c = c.made.ensures.made c.args.journal.now.log.items (record {
  number = c.len-number.ensures;
  rows = c.requires.rows;
  keys = c.requires.keys;
})
