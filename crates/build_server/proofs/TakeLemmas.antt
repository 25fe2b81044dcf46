-- What taking a job out comes to.
use Rattle.std.proofs.Common.{◌≡◌, ℕ, Bool, true, false, cond, List, [], ◌∷◌, Some, None, Ok, refl, sym, ◌∙◌}
use Rattle.std.proofs.Common.{ap, subst, arith}
use Rattle.std.specs.Prelude.{not}
use Rattle.dist_types.specs.declared.ids.JobId.{JobId}
use Rattle.listed_files.specs.Entries.{promoted_key}
use Rattle.build_server.specs.Books.{Books, Table, is_job, held_for, without_job, is_listed, KeepsStep}
use Rattle.build_server.specs.Rules.{Finds, FolderHeld, SamePlace, IsTaken}
use Rattle.build_server.specs.Stores.{Reads}
use Rattle.build_server.proofs.StoreLemmas.{others_same}
use Rattle.build_server.specs.declared.run.Taken.{Taken}
use Rattle.build_server.specs.declared.run.Taken.TheVariants as taken

-- a job that is not held needs not be taken out
pub not_held : (job : JobId) (table : Table) → held_for job table ≡ None → without_job job table ≡ table
not_held job [] e = refl
not_held job (h ∷ hs) e = by (is_job job h.0) (not_held job hs) e
  where
    by : (b : Bool) → (held_for job hs ≡ None → without_job job hs ≡ hs)
        → cond b (Some h.1) (held_for job hs) ≡ None
        → cond (not b) (h ∷ without_job job hs) (without_job job hs) ≡ h ∷ hs
    by true rest e = cc
    by false rest e = ap (λ l. h ∷ l) (rest e)

-- nothing changed but the jobs
still : (old : Books) (held : Table) → SamePlace old (record old { held = held })
still old held = record {
  capacity = refl;
  path = refl;
  others = others_same old.path old.folder.files;
  later = omega arith;
}

-- nothing was held
nothing_held : (job : JobId) (old : Books) → held_for job old.held ≡ None → IsTaken job old old taken.None
nothing_held job old e = record {
  finds = subst (λ found. Finds found old old taken.None) (sym e) refl;
  held = sym (not_held job old.held e);
  archives = refl;
  step = λ _ s. s;
  place = still old old.held;
}

pub took_none : (job : JobId) (old seen : Books) (outcome : Taken) → old ≡ seen
    → held_for job old.held ≡ None → outcome ≡ taken.None → IsTaken job seen seen outcome
took_none job old seen outcome same e is = subst (λ x. IsTaken job seen seen x) (sym is)
    (nothing_held job seen (subst (λ o. held_for job o.held ≡ None) same e))

-- its archive is not listed
pub took_unlisted : (job : JobId) (tc : List ℕ) (old seen new : Books) (outcome : Taken) → old ≡ seen
    → held_for job old.held ≡ Some tc → is_listed tc old.archives ≡ false
    → new ≡ record old { held = without_job job old.held } → outcome ≡ taken.Unlisted tc
    → IsTaken job seen new outcome
took_unlisted job tc old seen new outcome same e unlisted made is =
    subst (λ o. IsTaken job o new outcome) same
    (subst (λ n. IsTaken job old n outcome) (sym made)
    (subst (λ x. IsTaken job old (record old { held = without_job job old.held }) x)
    (sym is) taken_out))
  where
    taken_out : IsTaken job old (record old { held = without_job job old.held }) (taken.Unlisted tc)
    taken_out = record {
      finds = subst (λ found. Finds found old (record old { held = without_job job old.held })
          (taken.Unlisted tc)) (sym e) (refl, unlisted, refl);
      held = refl;
      archives = refl;
      step = λ _ s. s;
      place = still old (without_job job old.held);
    }

-- its archive was read, or the folder failed
read_by : (job : JobId) (tc : List ℕ) (outcome : Taken) (old new : Books) → held_for job old.held ≡ Some tc
    → is_listed tc old.archives ≡ true
    → Reads tc (Ok outcome) old.archives new.archives old.folder new.folder
    → new.held ≡ without_job job old.held → (FolderHeld outcome → KeepsStep old new) → SamePlace old new
    → IsTaken job old new outcome
read_by job tc (taken.Folder t) old new e listed h held step place = record {
  finds = subst (λ found. Finds found old new (taken.Folder t)) (sym e) (h.0, listed, h.2);
  held = held;
  archives = h.1 ∙ ap (λ k. promoted_key k old.archives) (sym h.0);
  step = step;
  place = place;
}
read_by job tc (taken.Read t archive) old new e listed h held step place = record {
  finds = subst (λ found. Finds found old new (taken.Read t archive)) (sym e) (h.0, listed, h.2, h.3);
  held = held;
  archives = h.1 ∙ ap (λ k. promoted_key k old.archives) (sym h.0);
  step = step;
  place = place;
}
read_by job tc taken.None old new e listed h held step place = absurd h
read_by job tc (taken.Unlisted t) old new e listed h held step place = absurd h

pub took_read : (job : JobId) (tc : List ℕ) (found outcome : Taken) (old seen new : Books) → old ≡ seen
    → held_for job old.held ≡ Some tc → is_listed tc old.archives ≡ true
    → Reads tc (Ok found) old.archives new.archives old.folder new.folder
    → new.held ≡ without_job job old.held → (FolderHeld found → KeepsStep old new) → SamePlace old new
    → outcome ≡ found → IsTaken job seen new outcome
took_read job tc found outcome old seen new same e listed h held step place is =
    subst (λ o. IsTaken job o new outcome) same
    (subst (λ x. IsTaken job old new x) (sym is)
    (read_by job tc found old new e listed h held step place))
