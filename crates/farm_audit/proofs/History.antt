-- What the history of a farm has, whose text holds.
use Rattle.std.specs.Prelude.{◌≡◌, ℕ, List, [], ◌∷◌, ◌++◌, Option, Some, None, true, false, option_to_list}
use Rattle.dist_types.specs.declared.ids.JobId.{JobId}
use Rattle.core_rules.specs.declared.start.Start.{Start}
use Rattle.core_rules.specs.declared.entry.CoreEntry.{CoreEntry}
use Rattle.core_rules.specs.Log.{names_job}
use Rattle.core_rules.specs.Laws.{IsLegal}
use Rattle.farm_entries.specs.Seen.{core_log}
use Rattle.farm_entries.specs.declared.entry.Entry.{Entry}
use Rattle.farm_entries.specs.declared.entry.Step.{Step}
use Rattle.audit.specs.Reading.{built_in}
use Rattle.audit.specs.Replay.{is_begun}

-- the job that an entry's step built, or whose builder refused it
abbrev pub built_of : Option Step → Option JobId
built_of None = None
built_of (Some s) = built_in s.kind

-- a build, if there is one, stands behind the accepted start of its job, and is the job's first
abbrev pub IsFirstBuild : List CoreEntry → List JobId → Option JobId → Type 0
IsFirstBuild log built None = Unit {0}
IsFirstBuild log built (Some job) = (is_begun log job ≡ true) × (names_job built job ≡ false)

-- each of the entries' builds is so, behind core entries and builds before them
abbrev pub AreFirstBuilds : List CoreEntry → List JobId → List Entry → Type 0
AreFirstBuilds log built [] = Unit {0}
AreFirstBuilds log built (e ∷ es) =
    IsFirstBuild (log ++ option_to_list e.core) built (built_of e.step)
    × AreFirstBuilds (log ++ option_to_list e.core) (built ++ option_to_list (built_of e.step)) es

-- the moment of a core entry is that of its event
abbrev pub HasMoment : ℕ → Option CoreEntry → Type 0
HasMoment at None = Unit {0}
HasMoment at (Some e) = e.now ≡ at

abbrev pub HaveMoments : List Entry → Type 0
HaveMoments [] = Unit {0}
HaveMoments (e ∷ es) = HasMoment e.event.at e.core × HaveMoments es

-- its core log is legal, its core entries have the moments of their events, and its builds are each a job's
-- first behind its accepted start
pub record IsHistory (start : Start) (es : List Entry) : Type 0 where
  pub legal : IsLegal start (core_log es)
  pub moments : HaveMoments es
  pub builds : AreFirstBuilds [] [] es
