-- The lives of a scheduler: what each begins with, and what it comes to.
use Rattle.std.specs.Prelude.{◌≡◌, ◌≤◌, ℕ, ◌+◌, ◌-◌, ◌%◌, ◌^◌, List, [], ◌∷◌, length, map, slice_get, Some, take}
use Rattle.std.specs.Prelude.{Bool, true, false}
use Rattle.std.specs.List.{AllByRecursion}
use Rattle.dist_types.specs.declared.addr.Addr.{Addr}
use Rattle.dist_types.specs.declared.ids.JobId.{JobId}
use Rattle.core_rules.specs.Cuts.{cuts}
use Rattle.core_rules.specs.Reservation.{Booking, bookings}
use Rattle.core_rules.specs.declared.entry.CoreKind.{CoreKind}
use Rattle.core_rules.specs.declared.entry.CoreKind.TheVariants.{Reserve}
use Rattle.core_rules.specs.declared.entry.Reserved.TheVariants.{Spent}
use Rattle.farm_entries.specs.Seen.{core_log}
use Rattle.farm_entries.specs.declared.site.Site.{Site}
use Rattle.farm_entries.specs.declared.entry.Entry.{Entry}
use Rattle.farm_entries.specs.Builds.{AreBuilds, AreRanOnce, IsBuild}
use Rattle.farm_entries.specs.Lawful.{AreLawful}
use Rattle.farm_entries.specs.Next.{EachNext}
use Rattle.farm_entries.specs.Reliable.{IsReliable, ReturnsGrant}
use Rattle.farm_entries.specs.Sites.{site_of}
use Rattle.farm_entries.specs.Weather.{calm}
use Rattle.farm_run.specs.GoesOn.{next_site}
use Rattle.lives_script.specs.declared.script.Life.{Life}
use Rattle.lives_script.specs.declared.script.Script.{Script}

-- ---- ids

-- how many ids were given before a life of so many, where none is left behind it
abbrev pub given_before : ℕ → ℕ
given_before count = 2 ^ 64 - 1 - count

-- the id that the first job of all would have had, where the first of a life of so many ids has this one
abbrev pub base_of : ℕ → ℕ → ℕ
base_of from count = (from + count + 1) % 2 ^ 64

-- ---- one life

-- a life that is over: what it was asked, the farm as it began, and its entries
pub record Lived : Type 0 where
  pub life : Life
  pub site : Site
  pub entries : List Entry

abbrev pub lived_in : Life → Site → List Entry → Lived
lived_in life site entries = record { life = life; site = site; entries = entries }

-- The entries are those of a run of the farm: one for each event, each next over those before it. After each front of
-- them the laws of the scheduler hold; each build goes on from an accepted start, and no id is built or run behind one
-- twice; an entry is replied to at most once; and the return of a delivery that got a 200 grants what was asked.
pub record IsLived (l : Lived) : Type 0 where
  pub each : EachNext calm l.site [] l.life.events l.entries
  pub lawful : AreLawful l.site l.entries
  pub builds : AreBuilds l.site l.entries
  pub ran : (n : ℕ) → AreRanOnce (take n l.entries)
  pub reliable : IsReliable calm l.site l.entries
  pub grants : ReturnsGrant l.site l.entries

-- ---- one life after the other

-- the farm as a life begins: the one that ended goes on with the ids of the life
abbrev pub site_for : Life → Site → List Entry → Site
site_for life site log = next_site (base_of life.from life.count) (given_before life.count) site log

-- each life begins with what the one before it left, and the first with a farm that has that site and those entries
abbrev pub AreInTurn : Site → List Entry → List Lived → Type 0
AreInTurn site log [] = Unit {0}
AreInTurn site log (l ∷ ls) = (l.site ≡ site_for l.life site log) × AreInTurn l.site l.entries ls

-- No id is built twice: two entries that tell a build of one job, in whichever lives and by whichever servers, are one.
abbrev pub AreBuiltOnceIn : List (List Entry) → Type 0
AreBuiltOnceIn all = (i j m n : ℕ) (one other : List Entry) (d e : Entry) (s t : Addr) (job : JobId)
    → slice_get all i ≡ Some one → slice_get all j ≡ Some other
    → slice_get one m ≡ Some d → slice_get other n ≡ Some e
    → IsBuild d s job → IsBuild e t job → (i ≡ j) × (m ≡ n)

-- the lives of a script: each is a run, and each begins with what the one before it left
pub record AreLives (s : Script) (lived : List Lived) : Type 0 where
  pub lives : map (λ l. l.life) lived ≡ s.lives
  pub in_turn : AreInTurn (site_of s.setup) [] lived
  pub each : AllByRecursion IsLived lived

-- ---- the ids that a life gives

-- whether an entry says that the ids are spent
abbrev pub says_spent : CoreKind → Bool
says_spent (Reserve Spent) = true
says_spent other = false

-- A life gives the ids of its range in their order, so many at most; and a request is told that they are spent only
-- behind the last of them.
pub record GivesIds (l : Lived) : Type 0 where
  pub each : (k : ℕ) (b : Booking) → slice_get (bookings (core_log l.entries)) k ≡ Some b
      → b.job.0 ≡ (l.life.from + k) % 2 ^ 64
  pub few : length (bookings (core_log l.entries)) ≤ l.life.count
  pub spent : AllByRecursion (λ c. says_spent c.at.kind ≡ true → length (bookings c.before) ≡ l.life.count)
      (cuts (core_log l.entries))
