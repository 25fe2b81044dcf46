use Rattle.std.proofs.Common.{ap, ◌∙◌}
use Rattle.std.specs.Map.{lookup}
use Rattle.std.specs.Str.{bytes_eq}
use Rattle.listed_files.proofs.Trims.{unlisted}
use Rattle.listed_files.proofs.table.Table.unlist.Goals as goal

pub returns-clause-absent : goal.returns-clause-absent
returns-clause-absent c =
    ap (λ m. lookup (bytes_eq c.args.key.now) m.pairs) c.remove-size.ensures.others
    ∙ unlisted c.args.key.now c.self.inside.list.pairs c.len-len.ensures.valid.distinct
