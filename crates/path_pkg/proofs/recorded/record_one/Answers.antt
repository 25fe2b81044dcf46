use Rattle.std.proofs.Common.{◌∙◌, sym, ap, string_bytes}
use Rattle.std.specs.Option.{option_map}
use Rattle.path_pkg.specs.Windows.{pairs_of}
use Rattle.path_pkg.proofs.WrittenLemmas.{put_pairs}
use Rattle.path_pkg.proofs.RestoreLemmas.{found_pairs, keys_in_order}
use Rattle.path_pkg.proofs.recorded.record_one.Goals as goal

pub returns-clause-ok : goal.returns-clause-ok
returns-clause-ok c = ap pairs_of c.in_ok-old.ensures.entries
    ∙ put_pairs c.args.links.now.entries c.args.path c.args.target

pub returns-clause-old : goal.returns-clause-old
returns-clause-old c = sym (ap (option_map string_bytes) c.in_ok-old.ensures.old
    ∙ found_pairs c.args.links.now.entries (string_bytes c.args.path))

pub returns-clause-sorted : goal.returns-clause-sorted
returns-clause-sorted c = keys_in_order c.args.links.now.entries c.in_ok-old.ensures.was_ordered

pub returns-in_err-old-clause-sorted : goal.returns-in_err-old-clause-sorted
returns-in_err-old-clause-sorted c = keys_in_order c.args.links.now.entries c.in_err-old.ensures.was_ordered
