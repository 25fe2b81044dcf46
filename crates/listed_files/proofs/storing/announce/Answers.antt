use Rattle.std.proofs.Common.{refl}
use Rattle.listed_files.proofs.Fills.{keeps_temp, stands_kept, under_temp, under_then, under_listed}
use Rattle.listed_files.proofs.Fills.{temp_avoided, temp_untouched, untouched_then, untouched_listed}
use Rattle.listed_files.proofs.Fills.{both_keep, still_found}
use Rattle.listed_files.proofs.Standing.{end_all}
use Rattle.folders.specs.Changed.{IsNeither}
use Rattle.listed_files.proofs.Spared.{beside_one, all_removed, one_then}
use Rattle.listed_files.proofs.storing.announce.Goals as goal

pub make_room-requires : goal.make_room-requires
make_room-requires g c =
    stands_kept c.args.root.now c.args.table.now.entries (g.F.Folder.held c.args.folder.now)
    (g.F.Folder.held c.write_temp.new.folder) c.requires.stands
    (keeps_temp c.args.root.now c.args.arrival.now.from c.args.table.now.entries
    (g.F.Folder.held c.args.folder.now).files (g.F.Folder.held c.write_temp.new.folder).files
    c.requires.temp c.requires.stands.keys c.write_temp.ensures.others)

pub returns-in_err-write_temp-clause-room : goal.returns-in_err-write_temp-clause-room
returns-in_err-write_temp-clause-room g c = (end_all c.args.table.now.entries, refl)

pub returns-in_err-write_temp-clause-stands : goal.returns-in_err-write_temp-clause-stands
returns-in_err-write_temp-clause-stands g c =
    stands_kept c.args.root.now c.args.table.now.entries (g.F.Folder.held c.args.folder.now)
    (g.F.Folder.held c.write_temp.new.folder) c.requires.stands
    (keeps_temp c.args.root.now c.args.arrival.now.from c.args.table.now.entries
    (g.F.Folder.held c.args.folder.now).files (g.F.Folder.held c.write_temp.new.folder).files
    c.requires.temp c.requires.stands.keys c.write_temp.ensures.others)

pub returns-in_err-write_temp-clause-others : goal.returns-in_err-write_temp-clause-others
returns-in_err-write_temp-clause-others g c =
    under_temp c.args.root.now c.args.arrival.now.from (g.F.Folder.held c.args.folder.now).files
    (g.F.Folder.held c.write_temp.new.folder).files c.requires.temp c.write_temp.ensures.others

pub returns-in_err-write_temp-clause-untouched : goal.returns-in_err-write_temp-clause-untouched
returns-in_err-write_temp-clause-untouched g c =
    temp_untouched c.args.root.now c.args.arrival.now.from c.args.arrival.now.from c.args.table.now.entries
    (g.F.Folder.held c.args.folder.now).files (g.F.Folder.held c.write_temp.new.folder).files
    c.write_temp.ensures.others

pub returns-in_err-write_temp-clause-kept : goal.returns-in_err-write_temp-clause-kept
returns-in_err-write_temp-clause-kept g c =
    keeps_temp c.args.root.now c.args.arrival.now.from c.args.table.now.entries
    (g.F.Folder.held c.args.folder.now).files (g.F.Folder.held c.write_temp.new.folder).files c.requires.temp
    c.requires.stands.keys c.write_temp.ensures.others

pub returns-clause-there : goal.returns-clause-there
returns-clause-there g c =
    still_found c.args.root.now c.args.arrival.now.from _ c.args.table.now.entries c.make_room.result
    (g.F.Folder.held c.write_temp.new.folder) (g.F.Folder.held c.make_room.new.folder)
    (temp_avoided c.args.root.now c.args.arrival.now.from c.args.table.now.entries c.requires.temp
    c.requires.stands.keys) c.make_room.ensures.drops.others c.in_ok-write_temp.ensures.written

pub returns-clause-others : goal.returns-clause-others
returns-clause-others g c =
    under_then c.args.root.now (g.F.Folder.held c.args.folder.now).files
    (g.F.Folder.held c.write_temp.new.folder).files (g.F.Folder.held c.make_room.new.folder).files
    (under_temp c.args.root.now c.args.arrival.now.from (g.F.Folder.held c.args.folder.now).files
    (g.F.Folder.held c.write_temp.new.folder).files c.requires.temp c.write_temp.ensures.others)
    (under_listed c.args.root.now c.args.table.now.entries (g.F.Folder.held c.write_temp.new.folder).files
    (g.F.Folder.held c.make_room.new.folder).files c.make_room.ensures.drops.others)

pub returns-clause-untouched : goal.returns-clause-untouched
returns-clause-untouched g c =
    untouched_then c.args.root.now c.args.arrival.now.from c.args.arrival.now.from c.args.table.now.entries
    (g.F.Folder.held c.args.folder.now).files (g.F.Folder.held c.write_temp.new.folder).files
    (g.F.Folder.held c.make_room.new.folder).files
    (temp_untouched c.args.root.now c.args.arrival.now.from c.args.arrival.now.from
    c.args.table.now.entries (g.F.Folder.held c.args.folder.now).files
    (g.F.Folder.held c.write_temp.new.folder).files c.write_temp.ensures.others)
    (untouched_listed c.args.root.now c.args.arrival.now.from c.args.arrival.now.from
    c.args.table.now.entries (g.F.Folder.held c.write_temp.new.folder).files
    (g.F.Folder.held c.make_room.new.folder).files c.make_room.ensures.drops.others)

pub returns-clause-kept : goal.returns-clause-kept
returns-clause-kept g c =
    both_keep c.args.root.now c.make_room.new.table.entries (g.F.Folder.held c.args.folder.now).files
    (g.F.Folder.held c.write_temp.new.folder).files (g.F.Folder.held c.make_room.new.folder).files
    (keeps_temp c.args.root.now c.args.arrival.now.from c.make_room.new.table.entries
    (g.F.Folder.held c.args.folder.now).files (g.F.Folder.held c.write_temp.new.folder).files
    c.requires.temp c.make_room.ensures.drops.stands.keys c.write_temp.ensures.others)
    c.make_room.ensures.drops.kept

pub returns-in_err-write_temp-clause-removed : goal.returns-in_err-write_temp-clause-removed
returns-in_err-write_temp-clause-removed g c =
    beside_one c.args.arrival.now.from c.args.arrival.now.from (g.F.Folder.held c.args.folder.now).files
    (g.F.Folder.held c.write_temp.new.folder).files c.write_temp.ensures.others

pub returns-clause-removed : goal.returns-clause-removed
returns-clause-removed g c =
    one_then (IsNeither c.args.arrival.now.from c.args.arrival.now.from)
    (g.F.Folder.held c.args.folder.now).files (g.F.Folder.held c.write_temp.new.folder).files
    (g.F.Folder.held c.make_room.new.folder).files
    (beside_one c.args.arrival.now.from c.args.arrival.now.from (g.F.Folder.held c.args.folder.now).files
    (g.F.Folder.held c.write_temp.new.folder).files c.write_temp.ensures.others)
    (all_removed (IsNeither c.args.arrival.now.from c.args.arrival.now.from)
    (g.F.Folder.held c.write_temp.new.folder).files (g.F.Folder.held c.make_room.new.folder).files
    c.make_room.ensures.removed)
