-- The remembered error of a registration, asked of the whole log.
use Rattle.std.specs.Prelude.{ℕ, List, map, Bool, false, not, Option, Some, None, if◌then◌else◌}
use Rattle.std.specs.List.{list_any}
use Rattle.core_rules.specs.Cuts.{Cut, lasting}
use Rattle.core_rules.specs.declared.entry.CoreEntry.{CoreEntry}
use Rattle.core_rules.specs.declared.entry.CoreKind.{CoreKind}
use Rattle.core_rules.specs.declared.entry.CoreKind.TheVariants.{Reserve, Undo}
use Rattle.core_rules.specs.declared.entry.Reserved.TheVariants.{Job}
use Rattle.core_rules.specs.Log.{names, is_this, newest}

-- an error: the moment of an undo that noted the registration, and the entries after it
pub record Noted : Type 0 where
  pub now : ℕ
  pub later : List CoreEntry

-- whether an entry is an undo that noted the registration
abbrev pub notes_by : CoreKind → ℕ → Bool
notes_by (Undo job noted ended) reg = is_this noted reg
notes_by other reg = false

-- whether an entry is a reserve that names the registration as forgiven
abbrev pub forgives_by : CoreKind → ℕ → Bool
forgives_by (Reserve (Job job other forgiven)) reg = names forgiven reg
forgives_by other reg = false

-- the error that an entry notes at the registration, if it notes one
abbrev pub noted_by : CoreKind → ℕ → ℕ → List CoreEntry → Option Noted
noted_by kind reg now later = if notes_by kind reg then Some (record { now = now; later = later }) else None

-- the error that the entry at the cut noted, if it did
abbrev pub noted_at : ℕ → Cut CoreEntry → Option Noted
noted_at reg c = noted_by c.at.kind reg c.at.now c.after

-- no later reserve forgives it
abbrev pub is_remembered : ℕ → Noted → Bool
is_remembered reg n = not (list_any (λ e. forgives_by e.kind reg) n.later)

-- the moment of the last undo that noted it and that no later reserve forgives
abbrev pub error_of : List CoreEntry → ℕ → Option ℕ
error_of log reg = newest None (map (λ n. n.now) (lasting (noted_at reg) (is_remembered reg) log))
