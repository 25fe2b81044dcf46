-- What the program of a scheduler with quotas has to do: the calls of a script, or tell a fault.
use Rattle.std.specs.Prelude.{◌≡◌, ℕ, List, codes}
use Rattle.line_program.specs.Program.{Runs}
use Rattle.quota.specs.Calls.{IsIsolated}
use Rattle.quota_script.specs.FirstFaulty.{IsFirstFaulty, IsFaultless}
use Rattle.quota_script.specs.Script.{Said}
use Rattle.quota_script.specs.Spelled.{SpellsScript}
use Rattle.quota_run.specs.Lines.{start_of, calls_of, lines_of}

-- An input is a script without a faulty line, and says this.
pub record IsScript (bytes : List ℕ) (s : Said) : Type 0 where
  pub fine : IsFaultless bytes
  pub says : SpellsScript bytes s

-- the lines of a script: one for each event, that of its call over the calls before it
abbrev pub script_lines : Said → List ℕ
script_lines s = lines_of (start_of s) (calls_of s)

-- An input says a script, and this is the text of its lines.
abbrev pub IsQuotaText : List ℕ → List ℕ → Type 0
IsQuotaText bytes text = (s : Said) × IsScript bytes s × (text ≡ script_lines s)

-- Its runs. Nothing is written before every call was answered: where memory ran out, out is as it was.
abbrev pub quota_runs : Runs
quota_runs = record {
  name = codes "sccache_quota";
  first_faulty = IsFirstFaulty;
  whole = IsQuotaText;
  begun = IsQuotaText;
  left = λ content text. ⊥;
}

-- Of each script that the input is: a client that is refused leaves the log and all other answers as they were.
abbrev pub AreIsolated : List ℕ → Type 0
AreIsolated bytes = (s : Said) → IsScript bytes s → IsIsolated (start_of s) (calls_of s)
