use Rattle.std.proofs.Common.{◌≡◌, ◌∙◌, ap, subst, sym, arith, drop, take}
use Rattle.std.proofs.lemmas.Result.{err_from_is_err_and}
use Rattle.std.proofs.lemmas.List.{drop-drop}
use Rattle.std.specs.Option.{option_map}
use Rattle.folders.specs.Files.{without, DoneOrNot}
use Rattle.folders.specs.Held.{Became}
use Rattle.listed_files.specs.Arriving.{without_paths, Cut}
use Rattle.listed_files.specs.Entries.{Listed}
use Rattle.listed_files.proofs.Cuts.{one_more, cut_short}
use Rattle.listed_files.proofs.storing.drop_each.Goals as goal

pub loop-path-preserved : goal.loop-path-preserved
loop-path-preserved g c =
    let held = g.F.Folder.held in let i = c.loop-path.path-index in let before = c.args.table.now in (
      c.take_first-entry.ensures.rest
          ∙ (ap (λ (t : Listed). record t { entries = drop 1 t.entries }) c.loop-path.invariant.0
          ∙ ap {B = Listed} (λ l. record before { entries = l }) (drop-drop 1 i before.entries)),
      one_more c.args.paths.now i c.path-item.result (omega (arith, c.loop-path-test.true))
          c.path-item.is (held c.args.folder.now).files (held c.loop-path.folder).files
          (held c.remove_at.new.folder).files c.loop-path.invariant.1
          (subst (λ p. Became (λ old new. new ≡ without p old) (held c.loop-path.folder).files
          (held c.remove_at.new.folder).files) c.get.ensures.text c.in_ok-remove_at.ensures.exact),
      c.in_ok-remove_at.ensures.counts ∙ c.loop-path.invariant.2,
      λ files told.
          c.in_ok-remove_at.ensures.failed _
          (c.loop-path.invariant.1 ∙ ap (option_map (without_paths (take i c.args.paths.now))) told)
          ∙ c.loop-path.invariant.3 files told,
    )

pub returns-in_err-remove_at-clause-cut : goal.returns-in_err-remove_at-clause-cut
returns-in_err-remove_at-clause-cut g c =
    let held = g.F.Folder.held in let i = c.loop-path.path-index in let before = c.args.table.now in
    let p = err_from_is_err_and c.from_residual.result c.from_residual.ensures.1 in
    subst (λ r. Cut r c.args.paths.now before.entries c.take_first-entry.new.self.entries
    (held c.args.folder.now).files (held c.remove_at.new.folder).files) (sym p.1)
    (cut_short c.args.paths.now i c.path-item.result (omega (arith, c.loop-path-test.true))
    c.path-item.is p.0 before.entries c.take_first-entry.new.self.entries (held c.args.folder.now).files
    (held c.loop-path.folder).files (held c.remove_at.new.folder).files
    (ap (λ (t : Listed). t.entries) c.take_first-entry.ensures.rest
    ∙ (ap (λ (t : Listed). drop 1 t.entries) c.loop-path.invariant.0 ∙ drop-drop 1 i before.entries))
    c.loop-path.invariant.1
    (subst (λ p. Became (DoneOrNot (without p)) (held c.loop-path.folder).files
    (held c.remove_at.new.folder).files) c.get.ensures.text c.remove_at.ensures.done))
