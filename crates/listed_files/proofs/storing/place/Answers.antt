use Rattle.std.proofs.Common.{Ok, Err, IsSome, List, ℕ, ◌++◌, ◌∷◌, [], ap, subst, sym, ◌∙◌}
use Rattle.std.specs.Map.{lookup}
use Rattle.std.specs.Str.{bytes_eq}
use Rattle.folders.specs.Held.{Became}
use Rattle.listed_files.specs.Disk.{Stands, ButThese, without_key}
use Rattle.listed_files.specs.Entries.{Listed}
use Rattle.listed_files.proofs.Renames.{renamed, rename_told, Renamed, Carried}
use Rattle.listed_files.proofs.Trims.{pushed_there}
use Rattle.listed_files.proofs.Whole.{renamed_whole}
use Rattle.listed_files.proofs.Spared.{renamed_removed}
use Rattle.listed_files.proofs.storing.place.Given.{Over}
use Rattle.listed_files.proofs.storing.place.Goals.{In-Ok, In-Err}
use Rattle.listed_files.proofs.storing.place.Goals as goal

-- what the rename left
done : (g : Over) (c : In-Ok g) → Renamed c.args.root.now c.args.arrival.now.key
    c.args.arrival.now.from c.args.arrival.now.size (without_key c.args.arrival.now.key c.args.table.now.entries) (Ok c.in-Ok.field-0)
    (g.F.Folder.held c.args.folder.now) (g.F.Folder.held c.rename.new.self)
done g c =
    renamed c.args.root.now c.args.arrival.now.key c.args.arrival.now.from c.args.arrival.now.size
    (without_key c.args.arrival.now.key c.args.table.now.entries) (g.F.Folder.held c.args.folder.now) (g.F.Folder.held c.rename.new.self)
    c.get.result.now c.get-2.result.now (Ok c.in-Ok.field-0) c.get.ensures.text
    (c.get-2.ensures.text ∙ c.requires.path) c.requires.key c.requires.avoids c.requires.absent
    c.requires.stands c.requires.written c.in-Ok.ensures.renames

failed : (g : Over) (c : In-Err g) → Renamed c.args.root.now c.args.arrival.now.key c.args.arrival.now.from
    c.args.arrival.now.size (without_key c.args.arrival.now.key c.args.table.now.entries) (Err c.in-Err.fault)
    (g.F.Folder.held c.args.folder.now) (g.F.Folder.held c.rename.new.self)
failed g c =
    renamed c.args.root.now c.args.arrival.now.key c.args.arrival.now.from c.args.arrival.now.size
    (without_key c.args.arrival.now.key c.args.table.now.entries) (g.F.Folder.held c.args.folder.now) (g.F.Folder.held c.rename.new.self)
    c.get.result.now c.get-2.result.now (Err c.in-Err.fault) c.get.ensures.text
    (c.get-2.ensures.text ∙ c.requires.path) c.requires.key c.requires.avoids c.requires.absent
    c.requires.stands c.requires.written c.in-Err.ensures.renames

pub arrive-requires-clause-listed : goal.arrive-requires-clause-listed
arrive-requires-clause-listed g c =
    let key = c.args.arrival.now.key in
    subst (λ k. IsSome (lookup (bytes_eq k) c.args.table.now.entries)) (sym c.requires.same)
    (subst (λ es. IsSome (lookup (bytes_eq key) es)) (sym c.requires.awaits)
    (pushed_there (without_key key c.args.table.now.entries) key 0))

pub returns-in-Ok-clause-stands : goal.returns-in-Ok-clause-stands
returns-in-Ok-clause-stands g c =
    let before = c.args.table.now.entries in let n = c.args.arrival.now.size in
    subst (λ l. Stands c.args.root.now (g.F.Folder.held c.rename.new.self) l)
    (sym (ap (λ (t : Listed). t.entries) c.arrive.ensures
    ∙ ap (λ k. without_key k before ++ (k, n) ∷ []) c.requires.same))
    (done g (goal.at.returns-in-Ok-clause-stands g c).In-Ok).pushed

pub returns-in-Ok-clause-content : goal.returns-in-Ok-clause-content
returns-in-Ok-clause-content g c =
    let Q : List ℕ → Type 0 = λ b. Became (Carried c.args.arrival.now.from b)
    (g.F.Folder.held c.args.folder.now).files (g.F.Folder.held c.rename.new.self).files in
    subst Q (sym c.requires.path) (done g (goal.at.returns-in-Ok-clause-content g c).In-Ok).content

pub returns-in-Ok-clause-others : goal.returns-in-Ok-clause-others
returns-in-Ok-clause-others g c =
    (done g (goal.at.returns-in-Ok-clause-others g c).In-Ok).others

pub returns-in-Ok-clause-kept : goal.returns-in-Ok-clause-kept
returns-in-Ok-clause-kept g c =
    (done g (goal.at.returns-in-Ok-clause-kept g c).In-Ok).keeps

pub returns-in-Ok-clause-untouched : goal.returns-in-Ok-clause-untouched
returns-in-Ok-clause-untouched g c =
    let Q : List ℕ → Type 0 = λ b.
    Became (ButThese c.args.root.now c.args.arrival.now.from b (without_key c.args.arrival.now.key c.args.table.now.entries))
    (g.F.Folder.held c.args.folder.now).files (g.F.Folder.held c.rename.new.self).files in
    subst Q (sym c.requires.path)
    (done g (goal.at.returns-in-Ok-clause-untouched g c).In-Ok).untouched

pub returns-in-Err-clause-stands : goal.returns-in-Err-clause-stands
returns-in-Err-clause-stands g c =
    subst (λ (l : Listed). Stands c.args.root.now (g.F.Folder.held c.rename.new.self) l.entries)
    (sym c.unlist.ensures.entries) (failed g (goal.at.returns-in-Err-clause-stands g c).In-Err).stands

pub returns-in-Err-clause-failed : goal.returns-in-Err-clause-failed
returns-in-Err-clause-failed g c =
    rename_told c.get.result.now c.get-2.result.now c.args.arrival.now.from c.args.arrival.now.size
    c.in-Err.fault (g.F.Folder.held c.args.folder.now) (g.F.Folder.held c.rename.new.self) _ _
    c.get.ensures.text c.requires.written c.in-Err.ensures.renames c.in-Err.ensures.failed

pub returns-in-Err-clause-others : goal.returns-in-Err-clause-others
returns-in-Err-clause-others g c = (failed g (goal.at.returns-in-Err-clause-others g c).In-Err).others

pub returns-in-Err-clause-kept : goal.returns-in-Err-clause-kept
returns-in-Err-clause-kept g c = (failed g (goal.at.returns-in-Err-clause-kept g c).In-Err).keeps

pub returns-in-Err-clause-counts : goal.returns-in-Err-clause-counts
returns-in-Err-clause-counts g c = (failed g (goal.at.returns-in-Err-clause-counts g c).In-Err).counts

pub returns-in-Err-clause-untouched : goal.returns-in-Err-clause-untouched
returns-in-Err-clause-untouched g c =
    let Q : List ℕ → Type 0 = λ b.
    Became (ButThese c.args.root.now c.args.arrival.now.from b (without_key c.args.arrival.now.key c.args.table.now.entries))
    (g.F.Folder.held c.args.folder.now).files (g.F.Folder.held c.rename.new.self).files in
    subst Q (sym c.requires.path) (failed g (goal.at.returns-in-Err-clause-untouched g c).In-Err).untouched

pub returns-in-Ok-clause-whole : goal.returns-in-Ok-clause-whole
returns-in-Ok-clause-whole g c =
    renamed_whole c.get.result.now c.args.arrival.now.from c.get-2.result.now c.args.arrival.now.path
    (Ok c.in-Ok.field-0) (g.F.Folder.held c.args.folder.now) (g.F.Folder.held c.rename.new.self)
    c.get.ensures.text c.get-2.ensures.text c.requires.apart c.in-Ok.ensures.renames

pub returns-in-Err-clause-whole : goal.returns-in-Err-clause-whole
returns-in-Err-clause-whole g c =
    renamed_whole c.get.result.now c.args.arrival.now.from c.get-2.result.now c.args.arrival.now.path
    (Err c.in-Err.fault) (g.F.Folder.held c.args.folder.now) (g.F.Folder.held c.rename.new.self)
    c.get.ensures.text c.get-2.ensures.text c.requires.apart c.in-Err.ensures.renames

pub returns-in-Ok-clause-removed : goal.returns-in-Ok-clause-removed
returns-in-Ok-clause-removed g c =
    renamed_removed c.get.result.now c.args.arrival.now.from c.get-2.result.now c.args.arrival.now.path
    (Ok c.in-Ok.field-0) (g.F.Folder.held c.args.folder.now) (g.F.Folder.held c.rename.new.self)
    c.get.ensures.text c.get-2.ensures.text c.in-Ok.ensures.renames

pub returns-in-Err-clause-removed : goal.returns-in-Err-clause-removed
returns-in-Err-clause-removed g c =
    renamed_removed c.get.result.now c.args.arrival.now.from c.get-2.result.now c.args.arrival.now.path
    (Err c.in-Err.fault) (g.F.Folder.held c.args.folder.now) (g.F.Folder.held c.rename.new.self)
    c.get.ensures.text c.get-2.ensures.text c.in-Err.ensures.renames
