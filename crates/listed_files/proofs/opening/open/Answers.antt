use Rattle.std.proofs.Common.{ap, sym, ◌∙◌}
use Rattle.folders.specs.Files.{front}
use Rattle.listed_files.specs.Entries.{Listed, trim}
use Rattle.listed_files.proofs.Opens.{opens, opens_stands, opens_in_step, opens_cleared, from_empty}
use Rattle.listed_files.proofs.Opens.{keys_from_empty, kept_from_empty, room_in_empty}
use Rattle.folders.specs.Held.{Never}
use Rattle.folders.proofs.CallLemmas.{left_same}
use Rattle.folders.proofs.Exactly.{removed_twice, outside_twice}
use Rattle.folders.proofs.Removals.{same_spared, spared_both}
use Rattle.listed_files.proofs.Keeping.{opened_same, sorted_opened, dropped_opened}
use Rattle.folders.specs.Changed.{SameAt, RemovedUnder}
use Rattle.folders.specs.Held.{Became}
use Rattle.listed_files.specs.Opened.{KeepsOpened}
use Rattle.listed_files.proofs.opening.open.Given.{Over}
use Rattle.listed_files.proofs.opening.open.Goals.{After-list, After-sort_out, After-drop_old}
use Rattle.listed_files.proofs.opening.open.Goals as goal

-- ---- the files behind each step, whatever it answered

same : (g : Over) (c : After-list g)
    → Became SameAt (g.F.Folder.held c.args.folder.now).files (g.F.Folder.held c.list.new.self).files
same g c =
    left_same Never c.list.result (g.F.Folder.held c.args.folder.now) (g.F.Folder.held c.list.new.self)
    c.list.ensures.leaves

sorted_spares : (g : Over) (c : After-sort_out g) → Became (RemovedUnder c.args.root.now)
    (g.F.Folder.held c.args.folder.now).files (g.F.Folder.held c.sort_out.new.folder).files
sorted_spares g c =
    spared_both c.args.root.now (g.F.Folder.held c.args.folder.now).files
    (g.F.Folder.held c.list.new.self).files (g.F.Folder.held c.sort_out.new.folder).files
    (same_spared c.args.root.now (g.F.Folder.held c.args.folder.now).files
    (g.F.Folder.held c.list.new.self).files
    (left_same Never c.list.result (g.F.Folder.held c.args.folder.now) (g.F.Folder.held c.list.new.self)
    c.list.ensures.leaves)) c.sort_out.ensures.spares

dropped_spares : (g : Over) (c : After-drop_old g) → Became (RemovedUnder c.args.root.now)
    (g.F.Folder.held c.args.folder.now).files (g.F.Folder.held c.sort_out.new.folder).files
    → Became (RemovedUnder c.args.root.now) (g.F.Folder.held c.args.folder.now).files
    (g.F.Folder.held c.drop_old.new.folder).files
dropped_spares g c sorted =
    spared_both c.args.root.now (g.F.Folder.held c.args.folder.now).files
    (g.F.Folder.held c.sort_out.new.folder).files (g.F.Folder.held c.drop_old.new.folder).files sorted
    c.drop_old.ensures.spares

dropped_keeps : (g : Over) (c : After-drop_old g)
    → Became (KeepsOpened c.args.root.now c.args.capacity) (g.F.Folder.held c.args.folder.now).files
    (g.F.Folder.held c.drop_old.new.folder).files
dropped_keeps g c =
    let good_is = kept_from_empty c.args.root.now c.args.capacity c.in_ok-found.found.items c.deref.result.now
    c.new-good.result.items c.sort_out.new.good.items c.new-good.ensures.items c.deref.ensures.value
    c.in_ok-sort_out.ensures.list in
    dropped_opened c.args.root.now (front c.get.result.now) c.args.capacity c.in_ok-found.found.items
    c.deref-2.result.now (g.F.Folder.held c.args.folder.now) (g.F.Folder.held c.sort_out.new.folder)
    (g.F.Folder.held c.drop_old.new.folder) (ap front c.get.ensures.text ∙ sym c.requires)
    (c.deref-2.ensures.value ∙ good_is) c.in_ok-found.ensures.found
    (sorted_opened c.args.root.now c.args.capacity (g.F.Folder.held c.args.folder.now)
    (g.F.Folder.held c.list.new.self) (g.F.Folder.held c.sort_out.new.folder) c.in_ok-found.ensures.distinct
    (left_same Never c.list.result (g.F.Folder.held c.args.folder.now) (g.F.Folder.held c.list.new.self)
    c.list.ensures.leaves) c.sort_out.ensures.keeps) c.drop_old.ensures.keeps

pub list_all-requires : goal.list_all-requires
list_all-requires g c =
    room_in_empty c.in-Ok.table.entries c.in_ok-rest.rest.now c.sort_out.new.good.items c.args.capacity
    c.in-Ok.table.capacity (ap (λ (t : Listed). t.entries) c.in-Ok.ensures)
    (ap (λ (t : Listed). t.capacity) c.in-Ok.ensures)
    (c.in_ok-rest.ensures.list ∙ ap (trim c.args.capacity) c.deref-2.ensures.value)

pub returns-clause-opened : goal.returns-clause-opened
returns-clause-opened g c =
    let empty = ap (λ (t : Listed). t.entries) c.in-Ok.ensures in
    let good_is = kept_from_empty c.args.root.now c.args.capacity c.in_ok-found.found.items c.deref.result.now
    c.new-good.result.items c.sort_out.new.good.items c.new-good.ensures.items c.deref.ensures.value
    c.in_ok-sort_out.ensures.list in
    let rest_is = c.in_ok-rest.ensures.list ∙ ap (trim c.args.capacity) c.deref-2.ensures.value in
    let list = from_empty c.in-Ok.table.entries c.in_ok-rest.rest.now c.list_all.new.table.entries empty
    c.in-Ok-list_all.ensures.list in
    opens c.args.root.now (front c.get.result.now) c.args.capacity c.in_ok-found.found.items
    c.sort_out.new.good.items c.in_ok-rest.rest.now c.list_all.new.table.entries
    (g.F.Folder.held c.args.folder.now) (ap front c.get.ensures.text ∙ sym c.requires) good_is rest_is
    list c.in_ok-found.ensures.found c.in_ok-found.ensures.distinct

pub returns-clause-in_step : goal.returns-clause-in_step
returns-clause-in_step g c =
    let empty = ap (λ (t : Listed). t.entries) c.in-Ok.ensures in
    let good_is = kept_from_empty c.args.root.now c.args.capacity c.in_ok-found.found.items c.deref.result.now
    c.new-good.result.items c.sort_out.new.good.items c.new-good.ensures.items c.deref.ensures.value
    c.in_ok-sort_out.ensures.list in
    let rest_is = c.in_ok-rest.ensures.list ∙ ap (trim c.args.capacity) c.deref-2.ensures.value in
    let list = from_empty c.in-Ok.table.entries c.in_ok-rest.rest.now c.list_all.new.table.entries empty
    c.in-Ok-list_all.ensures.list in
    opens_in_step c.args.root.now c.args.capacity c.in_ok-found.found.items c.sort_out.new.good.items
    c.in_ok-rest.rest.now c.list_all.new.table.entries (g.F.Folder.held c.drop_old.new.folder) good_is
    rest_is list c.in_ok-rest.ensures.shows

pub returns-clause-stands : goal.returns-clause-stands
returns-clause-stands g c =
    let empty = ap (λ (t : Listed). t.entries) c.in-Ok.ensures in
    let good_is = kept_from_empty c.args.root.now c.args.capacity c.in_ok-found.found.items c.deref.result.now
    c.new-good.result.items c.sort_out.new.good.items c.new-good.ensures.items c.deref.ensures.value
    c.in_ok-sort_out.ensures.list in
    let rest_is = c.in_ok-rest.ensures.list ∙ ap (trim c.args.capacity) c.deref-2.ensures.value in
    let list = from_empty c.in-Ok.table.entries c.in_ok-rest.rest.now c.list_all.new.table.entries empty
    c.in-Ok-list_all.ensures.list in
    let keys = keys_from_empty c.in-Ok.table.entries c.in_ok-rest.rest.now c.list_all.new.table.entries empty
    c.in-Ok-list_all.ensures.keys in
    opens_stands c.args.root.now c.args.capacity c.in_ok-found.found.items c.sort_out.new.good.items
    c.in_ok-rest.rest.now c.list_all.new.table.entries (g.F.Folder.held c.drop_old.new.folder) good_is
    rest_is list keys c.in_ok-rest.ensures.shows

pub returns-clause-cleared : goal.returns-clause-cleared
returns-clause-cleared g c =
    let empty = ap (λ (t : Listed). t.entries) c.in-Ok.ensures in
    let list = from_empty c.in-Ok.table.entries c.in_ok-rest.rest.now c.list_all.new.table.entries empty
    c.in-Ok-list_all.ensures.list in
    opens_cleared c.args.root.now c.in_ok-rest.rest.now c.list_all.new.table.entries
    (g.F.Folder.held c.drop_old.new.folder) list c.in_ok-rest.ensures.shows

pub returns-clause-removed : goal.returns-clause-removed
returns-clause-removed g c =
    removed_twice (g.F.Folder.held c.args.folder.now).files (g.F.Folder.held c.list.new.self).files
    (g.F.Folder.held c.sort_out.new.folder).files (g.F.Folder.held c.drop_old.new.folder).files
    (same g (goal.at.returns-clause-removed g c).After-list) c.in_ok-sort_out.ensures.removed
    c.in_ok-rest.ensures.removed

pub returns-clause-others : goal.returns-clause-others
returns-clause-others g c =
    outside_twice c.args.root.now (g.F.Folder.held c.args.folder.now).files
    (g.F.Folder.held c.list.new.self).files (g.F.Folder.held c.sort_out.new.folder).files
    (g.F.Folder.held c.drop_old.new.folder).files
    (same g (goal.at.returns-clause-others g c).After-list) c.in_ok-sort_out.ensures.others
    c.in_ok-rest.ensures.others

pub returns-in_err-found-clause-spares : goal.returns-in_err-found-clause-spares
returns-in_err-found-clause-spares g c =
    same_spared c.args.root.now (g.F.Folder.held c.args.folder.now).files
    (g.F.Folder.held c.list.new.self).files (same g (goal.at.returns-in_err-found-clause-spares g c).After-list)

pub returns-in_err-sort_out-clause-spares : goal.returns-in_err-sort_out-clause-spares
returns-in_err-sort_out-clause-spares g c =
    sorted_spares g (goal.at.returns-in_err-sort_out-clause-spares g c).After-sort_out

pub returns-in_err-rest-clause-spares : goal.returns-in_err-rest-clause-spares
returns-in_err-rest-clause-spares g c =
    let at = goal.at.returns-in_err-rest-clause-spares g c in
    dropped_spares g at.After-drop_old (sorted_spares g at.After-sort_out)

pub returns-in_default-clause-spares : goal.returns-in_default-clause-spares
returns-in_default-clause-spares g c =
    let at = goal.at.returns-in_default-clause-spares g c in
    dropped_spares g at.After-drop_old (sorted_spares g at.After-sort_out)

pub returns-in_default-list_all-clause-spares : goal.returns-in_default-list_all-clause-spares
returns-in_default-list_all-clause-spares g c =
    let at = goal.at.returns-in_default-list_all-clause-spares g c in
    dropped_spares g at.After-drop_old (sorted_spares g at.After-sort_out)

pub returns-clause-spares : goal.returns-clause-spares
returns-clause-spares g c =
    let at = goal.at.returns-clause-spares g c in
    dropped_spares g at.After-drop_old (sorted_spares g at.After-sort_out)

pub returns-in_err-found-clause-keeps : goal.returns-in_err-found-clause-keeps
returns-in_err-found-clause-keeps g c =
    opened_same c.args.root.now c.args.capacity (g.F.Folder.held c.args.folder.now).files
    (g.F.Folder.held c.list.new.self).files (same g (goal.at.returns-in_err-found-clause-keeps g c).After-list)

pub returns-in_err-sort_out-clause-keeps : goal.returns-in_err-sort_out-clause-keeps
returns-in_err-sort_out-clause-keeps g c =
    sorted_opened c.args.root.now c.args.capacity (g.F.Folder.held c.args.folder.now)
    (g.F.Folder.held c.list.new.self) (g.F.Folder.held c.sort_out.new.folder) c.in_ok-found.ensures.distinct
    (left_same Never c.list.result (g.F.Folder.held c.args.folder.now) (g.F.Folder.held c.list.new.self)
    c.list.ensures.leaves) c.sort_out.ensures.keeps

pub returns-in_err-rest-clause-keeps : goal.returns-in_err-rest-clause-keeps
returns-in_err-rest-clause-keeps g c =
    let at = goal.at.returns-in_err-rest-clause-keeps g c in
    dropped_keeps g at.After-drop_old

pub returns-in_default-clause-keeps : goal.returns-in_default-clause-keeps
returns-in_default-clause-keeps g c =
    let at = goal.at.returns-in_default-clause-keeps g c in
    dropped_keeps g at.After-drop_old

pub returns-in_default-list_all-clause-keeps : goal.returns-in_default-list_all-clause-keeps
returns-in_default-list_all-clause-keeps g c =
    let at = goal.at.returns-in_default-list_all-clause-keeps g c in
    dropped_keeps g at.After-drop_old

pub returns-clause-keeps : goal.returns-clause-keeps
returns-clause-keeps g c =
    let at = goal.at.returns-clause-keeps g c in
    dropped_keeps g at.After-drop_old
