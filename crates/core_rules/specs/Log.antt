-- The core log, and the plain tests on ids and numbers that every question to it uses.
use Rattle.std.specs.Prelude.{ℕ, List, [], ◌∷◌, ◌++◌, Bool, false, ◌==◌, Option, Some, None}
use Rattle.std.specs.List.{list_any}
use Rattle.dist_types.specs.declared.ids.JobId.{JobId}
use Rattle.core_rules.specs.declared.entry.CoreEntry.{CoreEntry}
use Rattle.core_rules.specs.declared.start.Start.{Start}

-- what a caller sees of the scheduler: where its ids begin, and the log
pub record Core : Type 0 where
  pub start : Start
  pub log : List CoreEntry

-- the scheduler with one more entry
abbrev pub logged : Core → CoreEntry → Core
logged s e = record s { log = s.log ++ e ∷ [] }

-- whether two jobs are one
abbrev pub same_job : JobId → JobId → Bool
same_job a b = a.0 == b.0

-- whether the number is among those
abbrev pub names : List ℕ → ℕ → Bool
names numbers number = list_any (λ n. n == number) numbers

-- whether the job is among those
abbrev pub names_job : List JobId → JobId → Bool
names_job jobs job = list_any (λ j. same_job j job) jobs

-- whether there is a number, and it is this one
abbrev pub is_this : Option ℕ → ℕ → Bool
is_this None number = false
is_this (Some n) number = n == number

-- the last of a list, or what stands for it where the list is empty
abbrev pub latest : {X : Type 0} → X → List X → X
latest first [] = first
latest first (x ∷ xs) = latest x xs

-- the last of a list, if there is one
abbrev pub newest : {X : Type 0} → Option X → List X → Option X
newest before [] = before
newest before (x ∷ xs) = newest (Some x) xs

-- the newer of two, if there is one
abbrev pub newer : {X : Type 0} → Option X → Option X → Option X
newer None old = old
newer (Some x) old = Some x
