use Rattle.std.proofs.Common.{[], ◌++◌, Some, sym, ap, subst, ◌∙◌}
use Rattle.listed_files.specs.Key.{is_key}
use Rattle.listed_files.specs.Opened.{stripped, with_key, Shows}
use Rattle.folders.proofs.Exactly.{outside_ok}
use Rattle.listed_files.proofs.Sorting.{one_dropped, one_kept}
use Rattle.folders.proofs.Removals.{spared_at}
use Rattle.listed_files.proofs.Keeping.{kept_but, not_key, too_large}
use Rattle.listed_files.proofs.opening.sort_one.Goals as goal

pub returns-then-not-is_key-clause-shows : goal.returns-then-not-is_key-clause-shows
returns-then-not-is_key-clause-shows g c = λ rest shows.
    let is = sym (c.in-Some.ensures ∙ (λ i. stripped (c.get.ensures.text i) (c.get-2.ensures.text i)))
    ∙ ap Some (sym c.in_ok-key.ensures.text) in
    one_dropped c.args.root.now c.args.file.now.path c.in_ok-key.key c.args.file.now.size
    c.args.good.now.items rest c.remove_file.result (g.F.Folder.held c.args.folder.now)
    (g.F.Folder.held c.remove_file.new.folder) is c.remove_file.ensures.exact shows

pub returns-then-file-capacity-clause-shows : goal.returns-then-file-capacity-clause-shows
returns-then-file-capacity-clause-shows g c = λ rest shows.
    let is = sym (c.in-Some.ensures ∙ (λ i. stripped (c.get.ensures.text i) (c.get-2.ensures.text i)))
    ∙ ap Some (sym c.in_ok-key.ensures.text) in
    one_dropped c.args.root.now c.args.file.now.path c.in_ok-key.key c.args.file.now.size
    c.args.good.now.items rest c.remove_file-then-file-capacity.result (g.F.Folder.held c.args.folder.now)
    (g.F.Folder.held c.remove_file-then-file-capacity.new.folder) is
    c.remove_file-then-file-capacity.ensures.exact shows

pub returns-clause-shows : goal.returns-clause-shows
returns-clause-shows g c = λ rest shows.
    let is = sym (c.in-Some.ensures ∙ (λ i. stripped (c.get.ensures.text i) (c.get-2.ensures.text i)))
    ∙ ap Some (sym c.in_ok-key.ensures.text) in
    one_kept c.args.root.now c.args.file.now.path c.in_ok-key.key c.args.file.now.size c.args.good.now.items
    rest c.push.new.self.items (g.F.Folder.held c.args.folder.now) is c.in-Ok.ensures.items shows

pub returns-then-not-is_key-clause-others : goal.returns-then-not-is_key-clause-others
returns-then-not-is_key-clause-others g c =
    outside_ok c.args.root.now c.in_ok-key.key c.remove_file.result (g.F.Folder.held c.args.folder.now).files
    (g.F.Folder.held c.remove_file.new.folder).files c.remove_file.ensures.others

pub returns-then-file-capacity-clause-others : goal.returns-then-file-capacity-clause-others
returns-then-file-capacity-clause-others g c =
    outside_ok c.args.root.now c.in_ok-key.key c.remove_file-then-file-capacity.result
    (g.F.Folder.held c.args.folder.now).files
    (g.F.Folder.held c.remove_file-then-file-capacity.new.folder).files
    c.remove_file-then-file-capacity.ensures.others

pub returns-then-not-is_key-clause-spares : goal.returns-then-not-is_key-clause-spares
returns-then-not-is_key-clause-spares g c = spared_at c.args.root.now c.in_ok-key.key (g.F.Folder.held c.args.folder.now).files (g.F.Folder.held c.remove_file.new.folder).files
    c.remove_file.ensures.part

pub returns-then-file-capacity-clause-spares : goal.returns-then-file-capacity-clause-spares
returns-then-file-capacity-clause-spares g c = spared_at c.args.root.now c.in_ok-key.key (g.F.Folder.held c.args.folder.now).files
    (g.F.Folder.held c.remove_file-then-file-capacity.new.folder).files c.remove_file-then-file-capacity.ensures.part

pub returns-then-not-is_key-clause-keeps : goal.returns-then-not-is_key-clause-keeps
returns-then-not-is_key-clause-keeps g c = λ rest shows.
    let is = sym (c.in-Some.ensures ∙ (λ i. stripped (c.get.ensures.text i) (c.get-2.ensures.text i)))
    ∙ ap Some (sym c.in_ok-key.ensures.text) in
    kept_but c.args.root.now c.in_ok-key.key c.args.file.now.size c.args.capacity c.args.good.now.items rest
    (g.F.Folder.held c.args.folder.now) (g.F.Folder.held c.remove_file.new.folder)
    (not_key c.args.capacity c.in_ok-key.key c.args.file.now.size
    (sym (c.is_key.ensures ∙ ap is_key c.get-3.ensures.text) ∙ c.if-not-is_key.true))
    c.remove_file.ensures.part
    (subst (λ o. Shows c.args.root.now (g.F.Folder.held c.args.folder.now)
    (c.args.good.now.items ++ (with_key o c.args.file.now.size [] ++ rest))) is shows)

pub returns-then-file-capacity-clause-keeps : goal.returns-then-file-capacity-clause-keeps
returns-then-file-capacity-clause-keeps g c = λ rest shows.
    let is = sym (c.in-Some.ensures ∙ (λ i. stripped (c.get.ensures.text i) (c.get-2.ensures.text i)))
    ∙ ap Some (sym c.in_ok-key.ensures.text) in
    kept_but c.args.root.now c.in_ok-key.key c.args.file.now.size c.args.capacity c.args.good.now.items rest
    (g.F.Folder.held c.args.folder.now) (g.F.Folder.held c.remove_file-then-file-capacity.new.folder)
    (too_large c.args.capacity c.in_ok-key.key c.args.file.now.size c.if-file-capacity.true)
    c.remove_file-then-file-capacity.ensures.part
    (subst (λ o. Shows c.args.root.now (g.F.Folder.held c.args.folder.now)
    (c.args.good.now.items ++ (with_key o c.args.file.now.size [] ++ rest))) is shows)
