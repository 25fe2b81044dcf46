-- When two steps of a farm tell the same of what is outside of its servers.
use Rattle.std.specs.Prelude.{◌≡◌, ℕ, List, slice_get, Some}
use Rattle.dist_types.specs.Builder.{Built}
use Rattle.build_server.specs.Builds.{Builder}
use Rattle.farm_entries.specs.Weather.{Outside, IsTold}

-- A builder that was handed in tells the same rows at the one moment and at the other. From the first moment
-- to either the folder's files are told, and its count does not rise.
abbrev pub AreAlike : Outside → Outside → Outside → Type 0
AreAlike was one other = (builder : Builder) → was.builder ≡ Some builder
    → (rows : List Built) × IsTold was one rows × IsTold was other rows

-- so outside of each server
abbrev pub AllAlike : List Outside → List Outside → List Outside → Type 0
AllAlike old ones others = (i : ℕ) (was one other : Outside) → slice_get old i ≡ Some was
    → slice_get ones i ≡ Some one → slice_get others i ≡ Some other → AreAlike was one other
