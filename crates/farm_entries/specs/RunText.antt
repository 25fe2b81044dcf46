-- The text of a script's run.
use Rattle.std.specs.Prelude.{◌≡◌, ℕ, List, [], take, Ok}
use Rattle.farm_script.specs.declared.setup.Setup.{Setup}
use Rattle.farm_script.specs.declared.event.Event.{Event}
use Rattle.farm_script.specs.Script.{script}
use Rattle.farm_script.specs.FirstFaulty.{IsFaultless}
use Rattle.farm_script.specs.Spelled.{SpellsScript}
use Rattle.farm_entries.specs.declared.entry.Entry.{Entry}
use Rattle.farm_entries.specs.Builds.{AreBuilds, AreRanOnce}
use Rattle.farm_entries.specs.Next.{EachNext}
use Rattle.farm_entries.specs.Lawful.{AreLawful}
use Rattle.farm_entries.specs.Printed.{run_text}
use Rattle.farm_entries.specs.Reliable.{IsReliable, ReturnsGrant}
use Rattle.farm_entries.specs.Sites.{site_of}
use Rattle.farm_entries.specs.Weather.{calm}

-- The text is that of a script's run: no line of the script is faulty, its lines say a setup and events, and
-- the text is that of the farm that is set up so and of a list that has one entry for each event, each next
-- over those before it. After each front of the entries the laws of the scheduler hold; and each build goes
-- on from an accepted start, no id is built or run behind one twice, and a call is settled at most once; an
-- entry is replied to at most once, and a request whose calls are granted gets the reply that its row names;
-- and the return of a delivery that got a 200 grants what was asked.
pub record IsRunText (bytes text : List ℕ) : Type 0 where
  pub setup : Setup
  pub events : List Event
  pub entries : List Entry
  pub fine : IsFaultless bytes
  pub says : SpellsScript bytes setup events
  pub each : EachNext calm (site_of setup) [] events entries
  pub lawful : AreLawful (site_of setup) entries
  pub builds : AreBuilds (site_of setup) entries
  pub ran : (n : ℕ) → AreRanOnce (take n entries)
  pub reliable : IsReliable calm (site_of setup) entries
  pub grants : ReturnsGrant (site_of setup) entries
  pub is : text ≡ run_text (site_of setup) entries

-- the same, where the script is what reading it gives
pub record IsReadText (bytes text : List ℕ) : Type 0 where
  pub setup : Setup
  pub events : List Event
  pub entries : List Entry
  pub read : script bytes ≡ Ok (setup, events)
  pub each : EachNext calm (site_of setup) [] events entries
  pub lawful : AreLawful (site_of setup) entries
  pub builds : AreBuilds (site_of setup) entries
  pub ran : (n : ℕ) → AreRanOnce (take n entries)
  pub reliable : IsReliable calm (site_of setup) entries
  pub grants : ReturnsGrant (site_of setup) entries
  pub is : text ≡ run_text (site_of setup) entries
