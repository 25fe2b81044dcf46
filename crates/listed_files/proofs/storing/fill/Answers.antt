use Rattle.std.proofs.Common.{◌+◌, ◌∷◌, ◌++◌, Ok, Err, inl, inr, ap, refl, subst, sym, ◌∙◌, arith}
use Rattle.std.specs.Option.{option_map}
use Rattle.std.specs.Str.{bytes_eq}
use Rattle.folders.specs.Changed.{IsNeither}
use Rattle.folders.specs.Held.{Became}
use Rattle.listed_files.specs.Disk.{Stands, Keeps, Left, dropped, without_each, without_key}
use Rattle.listed_files.specs.Entries.{Listed, total}
use Rattle.listed_files.proofs.Cuts.{filled, Cleared}
use Rattle.listed_files.proofs.Fills.{from_kept, content_after, outside_listed, outside_then, kept_ok}
use Rattle.listed_files.proofs.Fills.{left_err, listed_untouched, fill_untouched}
use Rattle.listed_files.proofs.Opens.{trim_within}
use Rattle.listed_files.proofs.Spared.{all_removed, one_then}
use Rattle.listed_files.proofs.Standing.{avoids_removed, avoids_end, keeps_then, end_all}
use Rattle.listed_files.proofs.Tolds.{placed_ok, placed_err, placed_told, placed_exact, removal_told}
use Rattle.listed_files.proofs.Whole.{listed_moved, listed_then_moved}
use Rattle.listed_files.proofs.storing.fill.Given.{Over}
use Rattle.listed_files.proofs.storing.fill.Goals.{In-Ok-drop_each, In-Err}
use Rattle.listed_files.proofs.storing.fill.Goals as goal

-- what the least recent leave that went
went : (g : Over) (c : In-Ok-drop_each g) → Cleared c.args.root.now c.args.arrival.now.key
    c.args.arrival.now.limit c.args.table.now.capacity (Ok c.in-Ok-drop_each.field-0)
    (without_key c.args.arrival.now.key c.args.table.now.entries) c.drop_each.new.table.entries
    (g.F.Folder.held c.args.folder.now) (g.F.Folder.held c.drop_each.new.folder)
went g c =
    filled c.args.root.now c.args.arrival.now.key c.in_ok-listed.listed c.args.arrival.now.limit
    c.args.table.now c.await_key.new.self c.drop_each.new.table (Ok c.in-Ok-drop_each.field-0)
    c.deref.result.now (g.F.Folder.held c.args.folder.now) (g.F.Folder.held c.drop_each.new.folder)
    c.in_ok-listed.ensures.text c.await_key.ensures.distinct c.await_key.ensures.absent c.requires.stands
    c.in-Ok.ensures.ok (c.deref.ensures.value ∙ c.in_ok-paths.ensures) c.in-Ok-drop_each.ensures.cut

failed : (g : Over) (c : In-Err g) → Cleared c.args.root.now c.args.arrival.now.key
    c.args.arrival.now.limit c.args.table.now.capacity (Err c.in-Err.fault)
    (without_key c.args.arrival.now.key c.args.table.now.entries) c.drop_each.new.table.entries
    (g.F.Folder.held c.args.folder.now) (g.F.Folder.held c.drop_each.new.folder)
failed g c =
    filled c.args.root.now c.args.arrival.now.key c.in_ok-listed.listed c.args.arrival.now.limit
    c.args.table.now c.await_key.new.self c.drop_each.new.table (Err c.in-Err.fault) c.deref.result.now
    (g.F.Folder.held c.args.folder.now) (g.F.Folder.held c.drop_each.new.folder)
    c.in_ok-listed.ensures.text c.await_key.ensures.distinct c.await_key.ensures.absent c.requires.stands
    c.in-Ok.ensures.ok (c.deref.ensures.value ∙ c.in_ok-paths.ensures) c.in-Err.ensures.cut

pub place-requires-clause-awaits : goal.place-requires-clause-awaits
place-requires-clause-awaits g c =
    (went g (goal.at.place-requires-clause-awaits g c).In-Ok-drop_each).awaits

pub place-requires-clause-avoids : goal.place-requires-clause-avoids
place-requires-clause-avoids g c =
    avoids_end c.args.root.now c.args.arrival.now.from (without_key c.args.arrival.now.key c.args.table.now.entries) (without_key c.args.arrival.now.key c.drop_each.new.table.entries) (went g (goal.at.place-requires-clause-avoids g c).In-Ok-drop_each).drops.rest (avoids_removed c.args.root.now c.args.arrival.now.from (bytes_eq c.args.arrival.now.key) c.args.table.now.entries (without_key c.args.arrival.now.key c.args.table.now.entries) refl c.requires.avoids)

pub place-requires-clause-absent : goal.place-requires-clause-absent
place-requires-clause-absent g c =
    (went g (goal.at.place-requires-clause-absent g c).In-Ok-drop_each).absent

pub place-requires-clause-room : goal.place-requires-clause-room
place-requires-clause-room g c =
    omega (arith, ap total (went g (goal.at.place-requires-clause-room g c).In-Ok-drop_each).stays, trim_within c.args.arrival.now.limit (without_key c.args.arrival.now.key c.args.table.now.entries), c.drop_each.ensures.capacity, ap (λ (t : Listed). t.capacity) c.in-Ok.ensures.ok, c.requires.fits)

pub place-requires-clause-stands : goal.place-requires-clause-stands
place-requires-clause-stands g c =
    (went g (goal.at.place-requires-clause-stands g c).In-Ok-drop_each).drops.stands

pub place-requires-clause-written : goal.place-requires-clause-written
place-requires-clause-written g c =
    from_kept c.args.root.now c.args.arrival.now.from c.args.arrival.now.size (without_key c.args.arrival.now.key c.args.table.now.entries) (g.F.Folder.held c.args.folder.now) (g.F.Folder.held c.drop_each.new.folder) (avoids_removed c.args.root.now c.args.arrival.now.from (bytes_eq c.args.arrival.now.key) c.args.table.now.entries (without_key c.args.arrival.now.key c.args.table.now.entries) refl c.requires.avoids) (went g (goal.at.place-requires-clause-written g c).In-Ok-drop_each).drops.others c.requires.written

pub returns-in-Ok-drop_each-clause-ok : goal.returns-in-Ok-drop_each-clause-ok
returns-in-Ok-drop_each-clause-ok g c =
    placed_ok c.args.arrival.now.key c.args.arrival.now.size c.args.arrival.now.limit c.args.table.now.entries (without_key c.args.arrival.now.key c.drop_each.new.table.entries) c.drop_each.new.table c.place.new.table c.args.table.now.capacity c.place.result c.place.ensures.ok (c.drop_each.ensures.capacity ∙ ap (λ (t : Listed). t.capacity) c.in-Ok.ensures.ok) (went g (goal.at.returns-in-Ok-drop_each-clause-ok g c).In-Ok-drop_each).stays

pub returns-in-Ok-drop_each-clause-err : goal.returns-in-Ok-drop_each-clause-err
returns-in-Ok-drop_each-clause-err g c =
    placed_err c.args.arrival.now.key c.args.arrival.now.size c.args.arrival.now.limit c.args.table.now.entries (without_key c.args.arrival.now.key c.drop_each.new.table.entries) c.drop_each.new.table c.place.new.table c.args.table.now.capacity c.place.result c.place.ensures.err (c.drop_each.ensures.capacity ∙ ap (λ (t : Listed). t.capacity) c.in-Ok.ensures.ok) (went g (goal.at.returns-in-Ok-drop_each-clause-err g c).In-Ok-drop_each).drops.rest (went g (goal.at.returns-in-Ok-drop_each-clause-err g c).In-Ok-drop_each).drops.needed

pub returns-in-Ok-drop_each-clause-content : goal.returns-in-Ok-drop_each-clause-content
returns-in-Ok-drop_each-clause-content g c =
    content_after c.args.root.now c.args.arrival.now.from c.args.arrival.now.path (without_key c.args.arrival.now.key c.args.table.now.entries) c.place.result (g.F.Folder.held c.args.folder.now) (g.F.Folder.held c.drop_each.new.folder) (g.F.Folder.held c.place.new.folder) (avoids_removed c.args.root.now c.args.arrival.now.from (bytes_eq c.args.arrival.now.key) c.args.table.now.entries (without_key c.args.arrival.now.key c.args.table.now.entries) refl c.requires.avoids) (went g (goal.at.returns-in-Ok-drop_each-clause-content g c).In-Ok-drop_each).drops.others c.place.ensures.content

pub returns-in-Ok-drop_each-clause-whole : goal.returns-in-Ok-drop_each-clause-whole
returns-in-Ok-drop_each-clause-whole g c =
    listed_then_moved c.args.root.now c.args.arrival.now.key c.args.arrival.now.from c.args.arrival.now.path (without_key c.args.arrival.now.key c.args.table.now.entries) (g.F.Folder.held c.args.folder.now).files (g.F.Folder.held c.drop_each.new.folder).files (g.F.Folder.held c.place.new.folder).files c.requires.path (went g (goal.at.returns-in-Ok-drop_each-clause-whole g c).In-Ok-drop_each).unlisted (avoids_removed c.args.root.now c.args.arrival.now.from (bytes_eq c.args.arrival.now.key) c.args.table.now.entries (without_key c.args.arrival.now.key c.args.table.now.entries) refl c.requires.avoids) (went g (goal.at.returns-in-Ok-drop_each-clause-whole g c).In-Ok-drop_each).drops.others c.place.ensures.whole

pub returns-in-Ok-drop_each-clause-others : goal.returns-in-Ok-drop_each-clause-others
returns-in-Ok-drop_each-clause-others g c =
    outside_then c.args.root.now c.args.arrival.now.from (g.F.Folder.held c.args.folder.now).files (g.F.Folder.held c.drop_each.new.folder).files (g.F.Folder.held c.place.new.folder).files (outside_listed c.args.root.now c.args.arrival.now.from (without_key c.args.arrival.now.key c.args.table.now.entries) (g.F.Folder.held c.args.folder.now).files (g.F.Folder.held c.drop_each.new.folder).files (went g (goal.at.returns-in-Ok-drop_each-clause-others g c).In-Ok-drop_each).drops.others) c.place.ensures.others

pub returns-in-Ok-drop_each-clause-untouched : goal.returns-in-Ok-drop_each-clause-untouched
returns-in-Ok-drop_each-clause-untouched g c =
    fill_untouched c.args.root.now c.args.arrival.now.from c.args.arrival.now.path c.args.arrival.now.key c.args.table.now.entries (without_key c.args.arrival.now.key c.args.table.now.entries) (without_key c.args.arrival.now.key c.drop_each.new.table.entries) (g.F.Folder.held c.args.folder.now).files (g.F.Folder.held c.drop_each.new.folder).files (g.F.Folder.held c.place.new.folder).files refl (went g (goal.at.returns-in-Ok-drop_each-clause-untouched g c).In-Ok-drop_each).drops.rest (went g (goal.at.returns-in-Ok-drop_each-clause-untouched g c).In-Ok-drop_each).drops.others c.place.ensures.untouched

pub returns-in-Ok-drop_each-clause-kept : goal.returns-in-Ok-drop_each-clause-kept
returns-in-Ok-drop_each-clause-kept g c =
    kept_ok c.args.root.now (without_key c.args.arrival.now.key c.drop_each.new.table.entries) _ c.place.result (g.F.Folder.held c.args.folder.now) (g.F.Folder.held c.place.new.folder) (keeps_then c.args.root.now (without_key c.args.arrival.now.key c.drop_each.new.table.entries) (without_key c.args.arrival.now.key c.drop_each.new.table.entries) (g.F.Folder.held c.args.folder.now).files (g.F.Folder.held c.drop_each.new.folder).files (g.F.Folder.held c.place.new.folder).files (end_all (without_key c.args.arrival.now.key c.drop_each.new.table.entries)) (went g (goal.at.returns-in-Ok-drop_each-clause-kept g c).In-Ok-drop_each).drops.kept c.place.ensures.kept) (went g (goal.at.returns-in-Ok-drop_each-clause-kept g c).In-Ok-drop_each).stays

pub returns-in-Ok-drop_each-clause-left : goal.returns-in-Ok-drop_each-clause-left
returns-in-Ok-drop_each-clause-left g c =
    left_err c.args.root.now (record c.drop_each.new.table { entries = (without_key c.args.arrival.now.key c.drop_each.new.table.entries) }) c.place.new.table c.place.result (g.F.Folder.held c.args.folder.now) (g.F.Folder.held c.place.new.folder) c.place.ensures.err (keeps_then c.args.root.now (without_key c.args.arrival.now.key c.drop_each.new.table.entries) (without_key c.args.arrival.now.key c.drop_each.new.table.entries) (g.F.Folder.held c.args.folder.now).files (g.F.Folder.held c.drop_each.new.folder).files (g.F.Folder.held c.place.new.folder).files (end_all (without_key c.args.arrival.now.key c.drop_each.new.table.entries)) (went g (goal.at.returns-in-Ok-drop_each-clause-left g c).In-Ok-drop_each).drops.kept c.place.ensures.kept)

pub returns-in-Ok-drop_each-clause-exact : goal.returns-in-Ok-drop_each-clause-exact
returns-in-Ok-drop_each-clause-exact g c =
    placed_exact c.args.root.now c.args.arrival.now.from c.args.arrival.now.path (dropped c.args.arrival.now.limit (without_key c.args.arrival.now.key c.args.table.now.entries)) c.place.result (g.F.Folder.held c.args.folder.now).files (g.F.Folder.held c.drop_each.new.folder).files (g.F.Folder.held c.place.new.folder).files (went g (goal.at.returns-in-Ok-drop_each-clause-exact g c).In-Ok-drop_each).exact c.place.ensures.exact

pub returns-in-Ok-drop_each-clause-removed : goal.returns-in-Ok-drop_each-clause-removed
returns-in-Ok-drop_each-clause-removed g c =
    one_then (IsNeither c.args.arrival.now.from c.args.arrival.now.path) (g.F.Folder.held c.args.folder.now).files (g.F.Folder.held c.drop_each.new.folder).files (g.F.Folder.held c.place.new.folder).files (all_removed (IsNeither c.args.arrival.now.from c.args.arrival.now.path) (g.F.Folder.held c.args.folder.now).files (g.F.Folder.held c.drop_each.new.folder).files (went g (goal.at.returns-in-Ok-drop_each-clause-removed g c).In-Ok-drop_each).removed) c.place.ensures.removed

pub returns-in-Ok-drop_each-clause-failed : goal.returns-in-Ok-drop_each-clause-failed
returns-in-Ok-drop_each-clause-failed g c =
    λ files told. placed_told c.args.arrival.now.key c.args.arrival.now.size c.args.arrival.now.limit c.args.table.now.entries (without_key c.args.arrival.now.key c.drop_each.new.table.entries) c.drop_each.new.table c.place.new.table c.place.result (g.F.Folder.failures c.args.folder.now) (g.F.Folder.failures c.drop_each.new.folder) (g.F.Folder.failures c.place.new.folder) c.place.ensures.err (went g (goal.at.returns-in-Ok-drop_each-clause-failed g c).In-Ok-drop_each).stays (c.in-Ok-drop_each.ensures.failed files told) (c.place.ensures.failed _ ((went g (goal.at.returns-in-Ok-drop_each-clause-failed g c).In-Ok-drop_each).exact ∙ ap (option_map (without_each c.args.root.now (dropped c.args.arrival.now.limit (without_key c.args.arrival.now.key c.args.table.now.entries)))) told))

pub returns-in-Err-clause-err : goal.returns-in-Err-clause-err
returns-in-Err-clause-err g c =
    (ap (λ (t : Listed). t.capacity) c.unlist.ensures.entries ∙ (c.drop_each.ensures.capacity ∙ ap (λ (t : Listed). t.capacity) c.in-Ok.ensures.ok), subst (Left c.args.arrival.now.key c.args.arrival.now.limit c.args.table.now.entries) (sym (ap (λ (t : Listed). t.entries) c.unlist.ensures.entries)) (inr ((failed g (goal.at.returns-in-Err-clause-err g c).In-Err).drops.rest, (failed g (goal.at.returns-in-Err-clause-err g c).In-Err).drops.needed)))

pub returns-in-Err-clause-stands : goal.returns-in-Err-clause-stands
returns-in-Err-clause-stands g c =
    subst (Stands c.args.root.now (g.F.Folder.held c.drop_each.new.folder)) (sym (ap (λ (t : Listed). t.entries) c.unlist.ensures.entries)) (failed g (goal.at.returns-in-Err-clause-stands g c).In-Err).drops.stands

pub returns-in-Err-clause-whole : goal.returns-in-Err-clause-whole
returns-in-Err-clause-whole g c =
    listed_moved c.args.root.now c.args.arrival.now.key c.args.arrival.now.from c.args.arrival.now.path (without_key c.args.arrival.now.key c.args.table.now.entries) (g.F.Folder.held c.args.folder.now).files (g.F.Folder.held c.drop_each.new.folder).files c.requires.path (failed g (goal.at.returns-in-Err-clause-whole g c).In-Err).unlisted (avoids_removed c.args.root.now c.args.arrival.now.from (bytes_eq c.args.arrival.now.key) c.args.table.now.entries (without_key c.args.arrival.now.key c.args.table.now.entries) refl c.requires.avoids) (failed g (goal.at.returns-in-Err-clause-whole g c).In-Err).drops.others

pub returns-in-Err-clause-others : goal.returns-in-Err-clause-others
returns-in-Err-clause-others g c =
    outside_listed c.args.root.now c.args.arrival.now.from (without_key c.args.arrival.now.key c.args.table.now.entries) (g.F.Folder.held c.args.folder.now).files (g.F.Folder.held c.drop_each.new.folder).files (failed g (goal.at.returns-in-Err-clause-others g c).In-Err).drops.others

pub returns-in-Err-clause-untouched : goal.returns-in-Err-clause-untouched
returns-in-Err-clause-untouched g c =
    listed_untouched c.args.root.now c.args.arrival.now.from c.args.arrival.now.path c.args.arrival.now.key c.args.table.now.entries (without_key c.args.arrival.now.key c.args.table.now.entries) (g.F.Folder.held c.args.folder.now).files (g.F.Folder.held c.drop_each.new.folder).files refl (failed g (goal.at.returns-in-Err-clause-untouched g c).In-Err).drops.others

pub returns-in-Err-clause-left : goal.returns-in-Err-clause-left
returns-in-Err-clause-left g c =
    subst (λ l. Became (Keeps c.args.root.now l) (g.F.Folder.held c.args.folder.now).files (g.F.Folder.held c.drop_each.new.folder).files) (sym (ap (λ (t : Listed). t.entries) c.unlist.ensures.entries)) (failed g (goal.at.returns-in-Err-clause-left g c).In-Err).drops.kept

pub returns-in-Err-clause-removed : goal.returns-in-Err-clause-removed
returns-in-Err-clause-removed g c =
    all_removed (IsNeither c.args.arrival.now.from c.args.arrival.now.path) (g.F.Folder.held c.args.folder.now).files (g.F.Folder.held c.drop_each.new.folder).files (failed g (goal.at.returns-in-Err-clause-removed g c).In-Err).removed

pub returns-in-Err-clause-failed : goal.returns-in-Err-clause-failed
returns-in-Err-clause-failed g c =
    λ files told. let some = (failed g (goal.at.returns-in-Err-clause-failed g c).In-Err).some in inr (inl ((some.0, some.1, some.2 ∙ ap (λ l. some.0 ++ some.1 ∷ l) (sym (ap (λ (t : Listed). t.entries) c.unlist.ensures.entries))), removal_told c.in-Err.fault (g.F.Folder.failures c.args.folder.now) (g.F.Folder.failures c.drop_each.new.folder) c.in-Err.ensures.found (c.in-Err.ensures.failed files told)))
