use Rattle.std.proofs.Common.{Err, ap, ◌∙◌, arith}
use Rattle.folders.specs.Files.{front, found_under}
use Rattle.folders.specs.Changed.{ButUnder}
use Rattle.folders.proofs.Became.{became_map}
use Rattle.folders.proofs.CallLemmas.{counts_after}
use Rattle.disk_cache.specs.Opening.{SameArchives}
use Rattle.folders.specs.Held.{Never}
use Rattle.folders.proofs.CallLemmas.{left_same}
use Rattle.folders.proofs.Removals.{same_spared}
use Rattle.disk_cache.proofs.EmptyLemmas.{Emptying, listed_first, listed_more, listed_last, listed_part}
use Rattle.disk_cache.proofs.EmptyLemmas.{listed_removed}
use Rattle.disk_cache.proofs.emptied.empty.Goals as goal

pub loop-file-init : goal.loop-file-init
loop-file-init g c = (
  listed_first c.args.under.now c.deref-file-items.result.now (g.F.Folder.held c.args.folder.now)
      (g.F.Folder.held c.list.new.self)
      (λ files told. c.deref-file-items.ensures.value
      ∙ (c.in-Ok.ensures.found files told ∙ ap (λ u. found_under u files) c.get.ensures.text))
      (ap (λ k. k.files) c.in-Ok.ensures.leaves.0),
  ap (λ k. k.faults) c.in-Ok.ensures.leaves.0,
)

pub loop-file-preserved : goal.loop-file-preserved
loop-file-preserved g c = (
  listed_more c.args.under.now c.deref-file-items.result.now c.loop-file.file-index c.file-item.result
      (g.F.Folder.held c.args.folder.now).files (g.F.Folder.held c.loop-file.folder).files
      (g.F.Folder.held c.discard.new.folder).files
      (omega (arith, c.loop-file-test.true)) c.file-item.is c.loop-file.invariant.0
      c.in-Ok-discard.ensures.exact,
  c.in-Ok-discard.ensures.counts ∙ c.loop-file.invariant.1,
)

pub returns-in-Err-discard-clause-counts : goal.returns-in-Err-discard-clause-counts
returns-in-Err-discard-clause-counts g c =
    counts_after {T = Unit {0}}
    (Emptying c.args.under.now c.deref-file-items.result.now c.loop-file.file-index)
    (Err c.in-Err-discard.fault) (g.F.Folder.held c.args.folder.now) (g.F.Folder.held c.loop-file.folder)
    (g.F.Folder.held c.discard.new.folder) c.loop-file.invariant.0 c.loop-file.invariant.1
    c.in-Err-discard.ensures.counts

pub returns-clause-emptied : goal.returns-clause-emptied
returns-clause-emptied g c =
    listed_last c.args.under.now c.deref-file-items.result.now c.loop-file.file-index
    (g.F.Folder.held c.args.folder.now) (g.F.Folder.held c.loop-file.folder)
    (omega (arith, c.loop-file-test.false)) c.loop-file.invariant.0

pub returns-clause-others : goal.returns-clause-others
returns-clause-others g c =
    became_map (Emptying c.args.under.now c.deref-file-items.result.now c.loop-file.file-index)
    (ButUnder (front c.args.under.now)) (g.F.Folder.held c.args.folder.now).files
    (g.F.Folder.held c.loop-file.folder).files (λ x y h. h.others) c.loop-file.invariant.0

pub returns-clause-archives : goal.returns-clause-archives
returns-clause-archives g c = λ path beside.
    became_map (Emptying c.args.under.now c.deref-file-items.result.now c.loop-file.file-index)
    (SameArchives path) (g.F.Folder.held c.args.folder.now).files
    (g.F.Folder.held c.loop-file.folder).files (λ x y h. h.archives path beside) c.loop-file.invariant.0

pub returns-in-Err-clause-left : goal.returns-in-Err-clause-left
returns-in-Err-clause-left g c =
    same_spared (front c.args.under.now) (g.F.Folder.held c.args.folder.now).files
    (g.F.Folder.held c.list.new.self).files
    (left_same Never c.list.result (g.F.Folder.held c.args.folder.now) (g.F.Folder.held c.list.new.self)
    c.list.ensures.leaves)

pub returns-in-Err-discard-clause-left : goal.returns-in-Err-discard-clause-left
returns-in-Err-discard-clause-left g c =
    listed_part c.args.under.now c.deref-file-items.result.now c.loop-file.file-index c.file-item.result
    (g.F.Folder.held c.args.folder.now).files (g.F.Folder.held c.loop-file.folder).files
    (g.F.Folder.held c.discard.new.folder).files (omega (arith, c.loop-file-test.true)) c.file-item.is
    c.loop-file.invariant.0 c.discard.ensures.part

pub returns-clause-left : goal.returns-clause-left
returns-clause-left g c =
    listed_removed c.args.under.now c.deref-file-items.result.now c.loop-file.file-index
    (g.F.Folder.held c.args.folder.now).files (g.F.Folder.held c.loop-file.folder).files
    c.loop-file.invariant.0
