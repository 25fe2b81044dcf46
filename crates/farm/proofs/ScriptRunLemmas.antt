-- What was read of input is the script that input told.
use Rattle.std.proofs.Common.{◌≡◌, ◌⊎◌, inl, inr, ℕ, List, [], ◌∷◌, Option, Ok, Err}
use Rattle.std.specs.Prelude.{IfSome, map}
use Rattle.std.proofs.lemmas.Option.{IfSome_then}
use Rattle.line_program.specs.declared.fault.FarmFault.{FarmFault}
use Rattle.line_program.specs.declared.fault.FarmFault.TheVariants.{Memory}
use Rattle.line_program.specs.Pieces.{pieces}
use Rattle.line_program.specs.Program.{IsEnough, HasRun}
use Rattle.line_program.specs.Report.{NamesLine}
use Rattle.line_program.specs.Side.{Side}
use Rattle.line_program.proofs.FirstFaultyLemmas.{faulty_line, refused_enough, fine_enough}
use Rattle.line_program.proofs.ProgramLemmas as programs
use Rattle.farm_script.specs.Script.{line_reader, finished, nothing_read, script}
use Rattle.farm_script.specs.FirstFaulty.{of_scripts, IsFirstFaulty, IsFaultless}
use Rattle.farm_script.specs.declared.setup.Setup.{Setup}
use Rattle.farm_script.specs.Setups.{AreApart, IsSetup}
use Rattle.farm_script.proofs.FirstFaultyLemmas.{follows}
use Rattle.farm_script.proofs.MatchLemmas.{Matches, matches_nothing}
use Rattle.farm_script.proofs.SpelledLemmas.{script_says}
use Rattle.farm_entries.specs.RunText.{IsRunText, IsReadText}
use Rattle.farm.specs.Command.{farm_runs}

-- the addresses of a setup that was read differ
pub setup_apart : (s : Setup) → IsSetup s → AreApart (s.scheduler.addr ∷ map (λ t. t.addr) s.servers)
setup_apart s is = is.apart

same_text : (v bytes text : List ℕ) (r : IsReadText v text)
    → IsFaultless bytes × (script bytes ≡ Ok (r.setup, r.events)) → IsRunText bytes text
same_text v bytes text r p = record {
  setup = r.setup;
  events = r.events;
  entries = r.entries;
  fine = p.0;
  says = script_says bytes (r.setup, r.events) p.1;
  each = r.each;
  lawful = r.lawful;
  builds = r.builds;
  ran = r.ran;
  reliable = r.reliable;
  grants = r.grants;
  is = r.is;
}

-- the text of the run of what was read
pub text_run : (v text : List ℕ) (content : Option (List ℕ)) → IsEnough v content → IsReadText v text
    → IfSome content (λ bytes. IsFaultless bytes × IsRunText bytes text)
text_run v text content enough r = IfSome_then content
    (fine_enough of_scripts line_reader finished Matches follows nothing_read matches_nothing (r.setup, r.events) v
    content enough r.read)
    (λ bytes p. (p.0, same_text v bytes text r p))

-- the first faulty line is named
pub line_or_memory : (bytes : List ℕ) (f : FarmFault) → (f ≡ Memory) ⊎ IsFirstFaulty bytes f
    → (f ≡ Memory) ⊎ (NamesLine f × IsFirstFaulty bytes f)
line_or_memory bytes f (inl e) = inl e
line_or_memory bytes f (inr h) = inr (faulty_line of_scripts [] [] (pieces bytes) f h, h)

unnamed : (bytes : List ℕ) (f : FarmFault) → (f ≡ Memory) ⊎ (NamesLine f × IsFirstFaulty bytes f)
    → (f ≡ Memory) ⊎ IsFirstFaulty bytes f
unnamed bytes f (inl e) = inl e
unnamed bytes f (inr h) = inr h.1

-- why there was no run of what was read
pub no_run : (f : FarmFault) (v : List ℕ) (content : Option (List ℕ)) (o : Side) → IsEnough v content
    → (f ≡ Memory) ⊎ (NamesLine f × IsFirstFaulty v f) → HasRun farm_runs (Err f) content o o
no_run f v content o enough why = programs.no_run farm_runs f content o
    (refused_enough of_scripts line_reader finished Matches follows nothing_read matches_nothing f v content enough
    (unnamed v f why))
