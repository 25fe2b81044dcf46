use Rattle.std.proofs.Common.{ap, sym, ◌∙◌, arith}
use Rattle.std.specs.Map.{lookup, remove_entry}
use Rattle.std.specs.Str.{bytes_eq}
use Rattle.lru_metered.proofs.Lookups.{size-others}
use Rattle.listed_files.specs.Entries.{total, sizes}
use Rattle.listed_files.proofs.Trims.{relisted, unlisted}
use Rattle.listed_files.proofs.table.Table.await_key.Goals as goal

pub returns-clause-ok : goal.returns-clause-ok
returns-clause-ok c =
    relisted c.self.inside.list c.insert.new.self c.args.self.now c.args.key 0 c.self.view_is
    c.in-Ok.ensures.pairs
    (omega (
      arith,
      c.len-len.ensures.valid.within,
      ap (λ t. t.capacity) c.self.view_is,
      ap (λ t. total (remove_entry (bytes_eq c.args.key) t.entries)) c.self.view_is,
      size-others (bytes_eq c.args.key) sizes c.self.inside.list.pairs,
    ))

pub returns-clause-absent : goal.returns-clause-absent
returns-clause-absent c =
    sym (ap (λ t. lookup (bytes_eq c.args.key) (remove_entry (bytes_eq c.args.key) t.entries)) c.self.view_is)
    ∙ unlisted c.args.key c.self.inside.list.pairs c.len-len.ensures.valid.distinct

pub returns-in_default-clause-absent : goal.returns-in_default-clause-absent
returns-in_default-clause-absent c =
    sym (ap (λ t. lookup (bytes_eq c.args.key) (remove_entry (bytes_eq c.args.key) t.entries)) c.self.view_is)
    ∙ unlisted c.args.key c.self.inside.list.pairs c.len-len.ensures.valid.distinct
