use Rattle.std.proofs.Common.{length, sym, ap, ◌∙◌, Some, subst}
use Rattle.folders.specs.Files.{put}
use Rattle.std.proofs.lemmas.Result.{err_from_is_err_and}
use Rattle.listed_files.specs.Told.{ToldStored}
use Rattle.listed_files.proofs.Tolds.{call_told, early_told}
use Rattle.listed_files.proofs.Fills.{temp_apart, temp_avoided, keeps_temp, stands_kept, under_temp}
use Rattle.listed_files.proofs.Fills.{under_both, kept_behind, left_behind, content_written, on_err}
use Rattle.listed_files.proofs.Fills.{temp_untouched, store_untouched}
use Rattle.listed_files.proofs.Whole.{temp_new, written_whole}
use Rattle.std.specs.Option.{option_map}
use Rattle.folders.specs.Changed.{IsNeither}
use Rattle.listed_files.proofs.Spared.{beside_one, one_then}
use Rattle.listed_files.proofs.storing.store.Goals as goal

pub returns-in_err-write_temp-clause-stands : goal.returns-in_err-write_temp-clause-stands
returns-in_err-write_temp-clause-stands g c =
    stands_kept c.args.root.now c.args.table.now.entries (g.F.Folder.held c.args.folder.now)
    (g.F.Folder.held c.write_temp.new.folder) c.requires.stands
    (keeps_temp c.args.root.now c.args.arrival.now.from c.args.table.now.entries
    (g.F.Folder.held c.args.folder.now).files (g.F.Folder.held c.write_temp.new.folder).files
    c.requires.temp c.requires.stands.keys c.write_temp.ensures.others)

pub returns-in_err-write_temp-clause-others : goal.returns-in_err-write_temp-clause-others
returns-in_err-write_temp-clause-others g c =
    under_temp c.args.root.now c.args.arrival.now.from (g.F.Folder.held c.args.folder.now).files
    (g.F.Folder.held c.write_temp.new.folder).files c.requires.temp c.write_temp.ensures.others

pub returns-in_err-write_temp-clause-left : goal.returns-in_err-write_temp-clause-left
returns-in_err-write_temp-clause-left g c =
    on_err c.from_residual.result (keeps_temp c.args.root.now c.args.arrival.now.from c.args.table.now.entries
    (g.F.Folder.held c.args.folder.now).files (g.F.Folder.held c.write_temp.new.folder).files
    c.requires.temp c.requires.stands.keys c.write_temp.ensures.others)

pub fill-requires-clause-apart : goal.fill-requires-clause-apart
fill-requires-clause-apart g c =
    temp_apart c.args.root.now c.args.arrival.now.path c.args.arrival.now.key c.args.arrival.now.from
    c.requires.temp c.requires.path c.requires.key

pub fill-requires-clause-avoids : goal.fill-requires-clause-avoids
fill-requires-clause-avoids g c =
    temp_avoided c.args.root.now c.args.arrival.now.from c.args.table.now.entries c.requires.temp
    c.requires.stands.keys

pub fill-requires-clause-stands : goal.fill-requires-clause-stands
fill-requires-clause-stands g c =
    stands_kept c.args.root.now c.args.table.now.entries (g.F.Folder.held c.args.folder.now)
    (g.F.Folder.held c.write_temp.new.folder) c.requires.stands
    (keeps_temp c.args.root.now c.args.arrival.now.from c.args.table.now.entries
    (g.F.Folder.held c.args.folder.now).files (g.F.Folder.held c.write_temp.new.folder).files
    c.requires.temp c.requires.stands.keys c.write_temp.ensures.others)

pub fill-requires-clause-written : goal.fill-requires-clause-written
fill-requires-clause-written g c = λ files told.
    ap (option_map length) (c.in_ok-write_temp.ensures.written files told) ∙ ap Some (sym c.requires.size)

pub returns-clause-content : goal.returns-clause-content
returns-clause-content g c =
    content_written c.args.arrival.now.from c.args.arrival.now.path c.args.bytes.now c.fill.result
    (g.F.Folder.held c.write_temp.new.folder) (g.F.Folder.held c.fill.new.folder)
    c.in_ok-write_temp.ensures.written c.fill.ensures.content

pub returns-clause-others : goal.returns-clause-others
returns-clause-others g c =
    under_both c.args.root.now c.args.arrival.now.from (g.F.Folder.held c.args.folder.now).files
    (g.F.Folder.held c.write_temp.new.folder).files (g.F.Folder.held c.fill.new.folder).files
    c.requires.temp c.write_temp.ensures.others c.fill.ensures.others

pub returns-clause-kept : goal.returns-clause-kept
returns-clause-kept g c =
    kept_behind c.args.root.now c.args.arrival.now.from c.args.arrival.now.key c.args.arrival.now.size _
    c.args.table.now c.fill.new.table c.fill.result (g.F.Folder.held c.args.folder.now)
    (g.F.Folder.held c.write_temp.new.folder) (g.F.Folder.held c.fill.new.folder) c.requires.temp
    c.fill.ensures.ok c.fill.ensures.stands c.write_temp.ensures.others c.fill.ensures.kept

pub returns-clause-left : goal.returns-clause-left
returns-clause-left g c =
    left_behind c.args.root.now c.args.arrival.now.from c.fill.new.table c.fill.result
    (g.F.Folder.held c.args.folder.now) (g.F.Folder.held c.write_temp.new.folder)
    (g.F.Folder.held c.fill.new.folder) c.requires.temp c.fill.ensures.stands c.write_temp.ensures.others
    c.fill.ensures.left

pub returns-in_err-write_temp-clause-untouched : goal.returns-in_err-write_temp-clause-untouched
returns-in_err-write_temp-clause-untouched g c =
    temp_untouched c.args.root.now c.args.arrival.now.from c.args.arrival.now.path c.args.table.now.entries
    (g.F.Folder.held c.args.folder.now).files (g.F.Folder.held c.write_temp.new.folder).files
    c.write_temp.ensures.others

pub returns-clause-untouched : goal.returns-clause-untouched
returns-clause-untouched g c =
    store_untouched c.args.root.now c.args.arrival.now.from c.args.arrival.now.path c.args.table.now.entries
    (g.F.Folder.held c.args.folder.now).files (g.F.Folder.held c.write_temp.new.folder).files
    (g.F.Folder.held c.fill.new.folder).files c.write_temp.ensures.others c.fill.ensures.untouched

pub returns-in_err-write_temp-clause-whole : goal.returns-in_err-write_temp-clause-whole
returns-in_err-write_temp-clause-whole g c =
    temp_new c.args.arrival.now.from c.args.arrival.now.path c.args.bytes.now
    (g.F.Folder.held c.args.folder.now).files (g.F.Folder.held c.write_temp.new.folder).files
    (temp_apart c.args.root.now c.args.arrival.now.path c.args.arrival.now.key c.args.arrival.now.from
    c.requires.temp c.requires.path c.requires.key) c.write_temp.ensures.others

pub returns-clause-whole : goal.returns-clause-whole
returns-clause-whole g c =
    written_whole c.args.arrival.now.from c.args.arrival.now.path c.args.bytes.now
    (g.F.Folder.held c.args.folder.now) (g.F.Folder.held c.write_temp.new.folder)
    (g.F.Folder.held c.fill.new.folder)
    (temp_apart c.args.root.now c.args.arrival.now.path c.args.arrival.now.key c.args.arrival.now.from
    c.requires.temp c.requires.path c.requires.key) c.write_temp.ensures.others
    c.in_ok-write_temp.ensures.written c.fill.ensures.whole

pub returns-in_err-write_temp-clause-removed : goal.returns-in_err-write_temp-clause-removed
returns-in_err-write_temp-clause-removed g c =
    beside_one c.args.arrival.now.from c.args.arrival.now.path (g.F.Folder.held c.args.folder.now).files
    (g.F.Folder.held c.write_temp.new.folder).files c.write_temp.ensures.others

pub returns-clause-removed : goal.returns-clause-removed
returns-clause-removed g c =
    one_then (IsNeither c.args.arrival.now.from c.args.arrival.now.path)
    (g.F.Folder.held c.args.folder.now).files (g.F.Folder.held c.write_temp.new.folder).files
    (g.F.Folder.held c.fill.new.folder).files
    (beside_one c.args.arrival.now.from c.args.arrival.now.path (g.F.Folder.held c.args.folder.now).files
    (g.F.Folder.held c.write_temp.new.folder).files c.write_temp.ensures.others) c.fill.ensures.removed

pub returns-in_err-write_temp-clause-failed : goal.returns-in_err-write_temp-clause-failed
returns-in_err-write_temp-clause-failed g c = λ files told.
    let p = err_from_is_err_and c.from_residual.result c.from_residual.ensures.1 in
    early_told c.args.arrival.now.key c.args.arrival.now.limit c.args.table.now.entries
    c.from_residual.result p.0 (g.F.Folder.failures c.args.folder.now)
    (g.F.Folder.failures c.write_temp.new.folder) p.1
    (call_told c.write_temp.result (g.F.Folder.failures c.args.folder.now)
    (g.F.Folder.failures c.write_temp.new.folder) (c.write_temp.ensures.failed files told))

pub returns-clause-failed : goal.returns-clause-failed
returns-clause-failed g c = λ files told.
    subst (λ f. ToldStored c.fill.result c.args.arrival.now.key c.args.arrival.now.limit
    c.args.table.now.entries c.fill.new.table.entries f (g.F.Folder.failures c.fill.new.folder))
    (c.in_ok-write_temp.ensures.failed files told)
    (c.fill.ensures.failed _ (c.in_ok-write_temp.ensures.exact
    ∙ ap (option_map (put c.args.arrival.now.from c.args.bytes.now)) told))
