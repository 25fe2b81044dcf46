-- The log as it is kept.
use Rattle.std.specs.Prelude.{ℕ, List}
use Rattle.core_rules.specs.declared.entry.CoreEntry.{CoreEntry}

-- What contracts see of the log: its entries, how many there are, and for how many there is room.
pub record LogRoom : Type 0 where
  pub items : List CoreEntry
  pub len : ℕ
  pub capacity : ℕ
