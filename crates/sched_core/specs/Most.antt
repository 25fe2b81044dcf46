-- The most registrations that stood at one time, and how many a reserve forgives.
use Rattle.std.specs.Prelude.{ℕ, List, [], ◌∷◌, ◌++◌, length, map, max}
use Rattle.core_rules.specs.declared.entry.CoreEntry.{CoreEntry}
use Rattle.core_rules.specs.declared.entry.CoreKind.{CoreKind}
use Rattle.core_rules.specs.declared.entry.CoreKind.TheVariants.{Reserve}
use Rattle.sched_core.specs.Registrations.{forgiven_in}
use Rattle.core_rules.specs.Cuts.{cuts}
use Rattle.core_rules.specs.Standing.{standing}

-- the log before each entry, and the whole
abbrev pub fronts : List CoreEntry → List (List CoreEntry)
fronts log = map (λ c. c.before) (cuts log) ++ log ∷ []

-- the greatest of some numbers
abbrev pub greatest : List ℕ → ℕ
greatest [] = 0
greatest (n ∷ ns) = max n (greatest ns)

-- the greatest number of registrations that stood after some entries of the log
abbrev pub most_standing : List CoreEntry → ℕ
most_standing log = greatest (map (λ front. length (standing front)) (fronts log))

-- how many registrations an entry forgives
abbrev pub forgiven_count : CoreKind → ℕ
forgiven_count (Reserve reserved) = length (forgiven_in reserved)
forgiven_count other = 0
