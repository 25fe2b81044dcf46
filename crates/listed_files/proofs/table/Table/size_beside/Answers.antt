use Rattle.std.proofs.Common.{sym, ap, ◌∙◌}
use Rattle.listed_files.specs.Disk.{without_key}
use Rattle.listed_files.specs.Entries.{total}
use Rattle.lru_metered.proofs.Lookups.{others-none}
use Rattle.listed_files.proofs.Trims.{beside_some}
use Rattle.std.specs.Str.{bytes_eq}
use Rattle.listed_files.proofs.table.Table.size_beside.Goals as goal

pub overflow_sub-result : goal.overflow_sub-result
overflow_sub-result c =
    (beside_some c.args.key.now c.in-Some.own.now c.size-size.result c.self.inside.list.pairs
    c.size-size.ensures.size (sym c.in-Some.ensures)).0

pub returns-in-Some : goal.returns-in-Some
returns-in-Some c =
    (beside_some c.args.key.now c.in-Some.own.now c.size-size.result c.self.inside.list.pairs
    c.size-size.ensures.size (sym c.in-Some.ensures)).1
    ∙ ap (λ t. total (without_key c.args.key.now t.entries)) c.self.view_is

pub returns-in-None : goal.returns-in-None
returns-in-None c =
    c.size-size.ensures.size
    ∙ (ap total (sym (others-none (bytes_eq c.args.key.now) c.self.inside.list.pairs (sym c.in-None.ensures)))
    ∙ ap (λ t. total (without_key c.args.key.now t.entries)) c.self.view_is)
