-- What a server's calls leave of its folder and of its builder.
use Rattle.std.proofs.Common.{◌≡◌, ◌≤◌, ◌⊎◌, inl, inr, codes, ℕ, Bool, true, false, List, Option, Some, None}
use Rattle.std.proofs.Common.{Result, Ok, Err, refl, sym, ap, subst, ◌∙◌, arith}
use Rattle.std.specs.Prelude.{is_some, slice_get}
use Rattle.std.proofs.lemmas.Bool.{true≢false}
use Rattle.dist_types.specs.Builder.{Built}
use Rattle.dist_types.specs.Content.{Recorded, KeptOrRecorded}
use Rattle.dist_types.specs.declared.builder.BuildFault.{BuildFault}
use Rattle.dist_types.specs.declared.builder.BuildFault.TheVariants as build
use Rattle.dist_types.specs.declared.fault.Memory as want
use Rattle.dist_types.specs.declared.ids.JobId.{JobId}
use Rattle.dist_types.specs.declared.results.BuildResult.{BuildResult}
use Rattle.dist_types.specs.declared.results.UpdateJobStateResult.{UpdateJobStateResult}
use Rattle.dist_wire.specs.declared.run.RunJobHttpRequest.{RunJobHttpRequest}
use Rattle.folders.proofs.Became.{became_map, became_same}
use Rattle.folders.specs.Changed.{OnlyRemoved, ButUnder, RemovedUnder}
use Rattle.folders.specs.Files.{Files, front}
use Rattle.folders.specs.Held.{Held, Became}
use Rattle.dist_types.specs.declared.folder_fault.FolderFault.TheVariants as folder
use Rattle.lru_disk_cache.specs.Store.{OpenFails}
use Rattle.dist_types.specs.declared.cache_error.Error.{Error}
use Rattle.dist_types.specs.declared.cache_error.Error.TheVariants as error
use Rattle.build_server.specs.Books.{Books, held_for, Fails}
use Rattle.build_server.specs.Builds.{Builder, Order, row_for, IsBuilt, Builds, outcome_of, outcome_by, ran_of}
use Rattle.build_server.specs.Rules.{Submits, Begins, SamePlace, IsSubmitted, IsTaken, Finds, Comes}
use Rattle.build_server.specs.Rules.{submit_verdict}
use Rattle.build_server.specs.declared.fault.ServerFault.{ServerFault}
use Rattle.build_server.specs.declared.fault.ServerFault.TheVariants as fault
use Rattle.build_server.specs.declared.run.Outcome.{Outcome}
use Rattle.build_server.specs.declared.run.Outcome.TheVariants as outcome
use Rattle.build_server.specs.declared.run.Taken.{Taken}
use Rattle.build_server.specs.declared.run.Taken.TheVariants as taken
use Rattle.build_server.specs.declared.submit.Submitted.{Submitted}
use Rattle.build_server.specs.declared.submit.Submitted.TheVariants as submitted
use Rattle.farm_entries.specs.declared.site.SiteServer.{SiteServer as SetupServer}
use Rattle.farm_entries.specs.Passage.{Stays, IsAsked, AsksOnce, Leaves}
use Rattle.farm_entries.specs.Served.{build_answer}
use Rattle.farm_entries.specs.Weather.{Outside, OnlyClears, failed_after_submit, failed_after_run, order_of}
use Rattle.farm_stations.specs.Post.{is_io}
use Rattle.farm_stations.specs.Stations.{BuildsBy}

-- ---- nothing

pub others_same : (files : Option Files) → Became (ButUnder (front (codes "tc"))) files files
others_same files = became_same (ButUnder (front (codes "tc"))) files (λ f q outside. refl)

asked_same : (b : Builder) → IsAsked b b
asked_same b = record { rows = inl refl; later = omega arith }

pub asks_same : (o : Option Builder) → AsksOnce o o
asks_same None = refl
asks_same (Some b) = asked_same b

pub stays_same : (o : Outside) → Stays o o
stays_same o = record {
  own = refl;
  others = others_same o.folder.files;
  later = omega arith;
  cause = λ failed. inl failed;
}

pub leaves_same : (o : Outside) → Leaves o o
leaves_same o = record { stays = stays_same o; asked = asks_same o.builder }

-- ---- parts

asks_own : (old new : Option Builder) → AsksOnce old new → is_some new ≡ is_some old
asks_own None new none = ap (λ (o : Option Builder). is_some o) none
asks_own (Some b) None asked = absurd asked
asks_own (Some b) (Some c) asked = refl

pub leaves_by : (old new : Outside) → AsksOnce old.builder new.builder
    → Became (ButUnder (front (codes "tc"))) old.folder.files new.folder.files
    → old.folder.faults ≤ new.folder.faults
    → (new.failed ≡ true → (old.failed ≡ true) ⊎ Fails old.folder new.folder) → Leaves old new
leaves_by old new asked others later cause = record {
  stays = record {
    own = asks_own old.builder new.builder asked;
    others = others;
    later = later;
    cause = cause;
  };
  asked = asked;
}

-- ---- openings

pub clears_same : (held : Held) → OnlyClears held held
clears_same held = record {
  removed = became_same OnlyRemoved held.files (λ f q bytes there. there);
  others = others_same held.files;
  later = omega arith;
}

pub cleared : (old new : Held) → Became OnlyRemoved old.files new.files
    → Became (ButUnder (front (codes "tc"))) old.files new.files → new.faults ≡ old.faults
    → OnlyClears old new
cleared old new removed others same = record {
  removed = removed;
  others = others;
  later = omega (arith, same);
}

pub cleared_in_part : (old new : Held) → Became (RemovedUnder (front (codes "tc"))) old.files new.files
    → old.faults ≤ new.faults → OnlyClears old new
cleared_in_part old new left later = record {
  removed = became_map (RemovedUnder (front (codes "tc"))) OnlyRemoved old.files new.files (λ f g h. h.0)
      left;
  others = became_map (RemovedUnder (front (codes "tc"))) (ButUnder (front (codes "tc"))) old.files new.files
      (λ f g h. h.1) left;
  later = later;
}

-- an opening that failed by its folder
pub io_fails : (e : Error) (old new : Held) → is_io e ≡ true → OpenFails e old new → Fails old new
io_fails (error.Io folder.Failed) old new io fails = inl fails
io_fails (error.Io folder.Missing) old new io fails = inr fails
io_fails (error.Io folder.Memory) old new io fails = absurd fails
io_fails error.Memory old new io fails = absurd (true≢false (sym io))
io_fails error.BadKey old new io fails = absurd fails
io_fails error.FileTooLarge old new io fails = absurd fails
io_fails error.FileNotInCache old new io fails = absurd fails
io_fails error.PendingSpace old new io fails = absurd fails
io_fails error.NotPending old new io fails = absurd fails
io_fails error.WrongDigest old new io fails = absurd fails
io_fails error.WriterRefused old new io fails = absurd fails

-- ---- submissions

pub submits_in_place : (job : JobId) (u : UpdateJobStateResult) (bytes : List ℕ) (old new : Books)
    (r : Result Submitted ServerFault) → Submits job (Ok u) bytes old new r → SamePlace old new
submits_in_place job u bytes old new (Ok o) is = is.place
submits_in_place job u bytes old new (Err fault.Memory) is = is.place
submits_in_place job u bytes old new (Err (fault.AlreadyAssigned other)) is = absurd is
submits_in_place job u bytes old new (Err (fault.UpdateFailed why)) is = absurd is
submits_in_place job u bytes old new (Err (fault.BuildFailed why)) is = absurd is

comes_fails : (verdict o : Submitted) (old new : Held) → Comes verdict o old new
    → failed_after_submit o false ≡ true → Fails old new
comes_fails verdict (submitted.Folder gone) old new comes broke = comes.1
comes_fails verdict submitted.None old new comes broke = absurd (true≢false (sym broke))
comes_fails verdict submitted.Listed old new comes broke = absurd (true≢false (sym broke))
comes_fails verdict (submitted.Stored size gone) old new comes broke = absurd (true≢false (sym broke))
comes_fails verdict submitted.Digest old new comes broke = absurd (true≢false (sym broke))
comes_fails verdict submitted.Capacity old new comes broke = absurd (true≢false (sym broke))

pub submit_fails : (job : JobId) (bytes : List ℕ) (old new : Books) (o : Submitted)
    → IsSubmitted job bytes old new o → failed_after_submit o false ≡ true → Fails old.folder new.folder
submit_fails job bytes old new o is broke = comes_fails (submit_verdict old (held_for job old.held) bytes) o
    old.folder new.folder is.comes broke

-- ---- runs

pub begins_in_place : (job : JobId) (u : UpdateJobStateResult) (old new : Books)
    (r : Result Taken ServerFault) → Begins job (Ok u) old new r → SamePlace old new
begins_in_place job u old new (Ok o) is = is.place
begins_in_place job u old new (Err fault.Memory) is = is.place
begins_in_place job u old new (Err (fault.AlreadyAssigned other)) is = absurd is
begins_in_place job u old new (Err (fault.UpdateFailed why)) is = absurd is
begins_in_place job u old new (Err (fault.BuildFailed why)) is = absurd is

kept_or_more : (row : Built) (old new : Option (List Built)) → KeptOrRecorded row old new
    → (new ≡ old) ⊎ ((more : Built) × Recorded more old new)
kept_or_more row old new (inl same) = inl same
kept_or_more row old new (inr more) = inr (row, more)

asked_in : (tc archive : List ℕ) (order : Order) (heard : Result BuildResult BuildFault) (old new : Builder)
    → IsBuilt tc archive order heard old new → IsAsked old new
asked_in tc archive order (Ok built) old new is = record {
  rows = inr (row_for tc archive order (Ok built), is.row (λ e. cc));
  later = is.later;
}
asked_in tc archive order (Err build.Refused) old new is = record {
  rows = inr (row_for tc archive order (Err build.Refused), is.row (λ e. cc));
  later = is.later;
}
asked_in tc archive order (Err build.Memory) old new is = record {
  rows = kept_or_more (row_for tc archive order (Err build.Memory)) old.rows new.rows (is.memory refl);
  later = is.later;
}

asked_none : (old new : Builder) → new ≡ old → IsAsked old new
asked_none old new same = subst (λ (b : Builder). IsAsked old b) (sym same) (asked_same old)

pub asked_of : (t : Taken) (order : Order) (old new : Builder) (r : Result Outcome (Taken × want.Memory))
    → Builds t order old new r → IsAsked old new
asked_of taken.None order old new r is = asked_none old new is.0
asked_of (taken.Unlisted tc) order old new r is = asked_none old new is.0
asked_of (taken.Folder tc) order old new r is = asked_none old new is.0
asked_of (taken.Read tc archive) order old new r is = asked_in tc archive order is.heard old new is.built

-- whether the folder failed in a run that came to this
abbrev broke : Outcome → Bool
broke o = failed_after_run (ran_of o) false

ok_of : (x y : Outcome) → ◌≡◌ {A = Result Outcome (Taken × want.Memory)} (Ok x) (Ok y) → x ≡ y
ok_of x y e = cc

sound : (o other : Outcome) → o ≡ other → broke other ≡ false → broke o ≡ true → ⊥
sound o other same off on = true≢false (sym on ∙ ap broke same ∙ off)

heard_sound : (tc archive : List ℕ) (heard : Result BuildResult BuildFault) (o : Outcome)
    → outcome_of tc archive heard ≡ Ok o → broke o ≡ true → ⊥
heard_sound tc archive (Ok built) o e on =
    sound o (outcome.Built tc built) (ok_of o (outcome.Built tc built) (sym e)) refl on
heard_sound tc archive (Err build.Refused) o e on =
    sound o (outcome.Refused tc) (ok_of o (outcome.Refused tc) (sym e)) refl on
heard_sound tc archive (Err build.Memory) o e on = cc

-- it failed as the archive was looked up
abbrev Looked : Taken → Type 0
Looked t = (tc : List ℕ) × (t ≡ taken.Folder tc)

looked_by : (t : Taken) (heard : Result BuildResult BuildFault) (o : Outcome) → outcome_by t heard ≡ Ok o
    → broke o ≡ true → Looked t
looked_by taken.None heard o e on = absurd (sound o outcome.None (ok_of o outcome.None (sym e)) refl on)
looked_by (taken.Unlisted tc) heard o e on =
    absurd (sound o (outcome.Unlisted tc) (ok_of o (outcome.Unlisted tc) (sym e)) refl on)
looked_by (taken.Folder tc) heard o e on = (tc, refl)
looked_by (taken.Read tc archive) heard o e on = absurd (heard_sound tc archive heard o e on)

looked_in : (t : Taken) (order : Order) (old new : Builder) (o : Outcome) → Builds t order old new (Ok o)
    → broke o ≡ true → Looked t
looked_in taken.None order old new o is on =
    absurd (sound o outcome.None (ok_of o outcome.None is.1) refl on)
looked_in (taken.Unlisted tc) order old new o is on =
    absurd (sound o (outcome.Unlisted tc) (ok_of o (outcome.Unlisted tc) is.1) refl on)
looked_in (taken.Folder tc) order old new o is on = (tc, refl)
looked_in (taken.Read tc archive) order old new o is on =
    absurd (heard_sound tc archive is.heard o (sym is.gives) on)

looked : (s : SetupServer) (n : ℕ) (old new : Option Builder) (t : Taken) (run : RunJobHttpRequest)
    (inputs : List ℕ) (o : Outcome) → BuildsBy s n old new t run inputs o → broke o ≡ true → Looked t
looked s n None new t run inputs o is on =
    looked_by t (build_answer (slice_get s.builder n) run.outputs inputs) o is.1 on
looked s n (Some b) None t run inputs o is on = absurd is
looked s n (Some b) (Some c) t run inputs o is on = looked_in t (order_of run inputs) b c o is on

finds_fails : (found : Option (List ℕ)) (old new : Books) (tc : List ℕ) → Finds found old new (taken.Folder tc)
    → Fails old.folder new.folder
finds_fails None old new tc is = absurd is
finds_fails (Some held) old new tc is = is.2

pub run_fails : (job : JobId) (old new : Books) (t : Taken) (s : SetupServer) (n : ℕ)
    (before after : Option Builder) (run : RunJobHttpRequest) (inputs : List ℕ) (o : Outcome)
    → IsTaken job old new t → BuildsBy s n before after t run inputs o
    → failed_after_run (ran_of o) false ≡ true → Fails old.folder new.folder
run_fails job old new t s n before after run inputs o is builds on =
    let at = looked s n before after t run inputs o builds on in
    finds_fails (held_for job old.held) old new at.0
    (subst (λ (x : Taken). Finds (held_for job old.held) old new x) at.1 is.finds)
