use Rattle.std.proofs.Common.{◌∙◌, sym, ap, inr}
use Rattle.toolchain_cache.specs.Cleaned.{other_keys}
use Rattle.toolchain_cache.proofs.OtherKeys.{none_at, not_told, cleared_ok}
use Rattle.toolchain_cache.proofs.others.drop_others.Goals as goal

pub returns-then-is_empty-clause-keys : goal.returns-then-is_empty-clause-keys
returns-then-is_empty-clause-keys g c =
    none_at c.args.cache.now.disk.entries c.as_slice-rest.result.now
    (c.as_slice-rest.ensures.value ∙ (c.in-Ok.ensures ∙ ap other_keys c.entries.ensures.rest))
    (sym c.is_empty.ensures ∙ c.if-is_empty.true)

pub drop_each-requires : goal.drop_each-requires
drop_each-requires g c =
    not_told (g.F.Folder.held c.args.cache.now.folder) c.args.cache.now.disk.entries c.as_slice-rest.result.now
    c.requires (c.as_slice-rest.ensures.value ∙ (c.in-Ok.ensures ∙ ap other_keys c.entries.ensures.rest))
    (sym c.is_empty.ensures ∙ c.if-is_empty.false)

pub returns-clause-same : goal.returns-clause-same
returns-clause-same g c = inr (
  not_told (g.F.Folder.held c.args.cache.now.folder) c.args.cache.now.disk.entries c.as_slice-rest.result.now
      c.requires (c.as_slice-rest.ensures.value ∙ (c.in-Ok.ensures ∙ ap other_keys c.entries.ensures.rest))
      (sym c.is_empty.ensures ∙ c.if-is_empty.false),
  c.drop_each.ensures.untold,
)

pub returns-clause-keys : goal.returns-clause-keys
returns-clause-keys g c =
    cleared_ok c.args.cache.now.disk.entries c.drop_each.new.cache.disk.entries c.as_slice-rest.result.now
    c.drop_each.result (c.as_slice-rest.ensures.value ∙ (c.in-Ok.ensures ∙ ap other_keys c.entries.ensures.rest))
    c.drop_each.ensures.keys
