-- Where a line may stand, by what the lines before it say.
use Rattle.std.specs.Prelude.{◌≢◌, ℕ, ◌||◌, Bool, false, not, List, [], ◌∷◌, map, Option, Some, None}
use Rattle.std.specs.List.{filter_map, list_any, AllByRecursion}
use Rattle.std.specs.Str.{bytes_eq}
use Rattle.farm_script.specs.Place.{is_nil}
use Rattle.quota_script.specs.declared.event.Event.{Event}
use Rattle.quota_script.specs.declared.line.Line.{Line}
use Rattle.quota_script.specs.declared.line.Line.TheVariants as lines

-- a client: its name, and how many reservations it may hold
abbrev pub Client : Type 0
Client = List ℕ × ℕ

-- the number of the first job, if the line says it
abbrev pub base_in : Line → Option ℕ
base_in lines.Skip = None
base_in (lines.Ids base) = Some base
base_in (lines.Client name limit) = None
base_in (lines.Event e) = None

-- the client that the line lists, if it lists one
abbrev pub client_in : Line → Option Client
client_in lines.Skip = None
client_in (lines.Ids base) = None
client_in (lines.Client name limit) = Some (name, limit)
client_in (lines.Event e) = None

-- what happens, if the line says so
abbrev pub event_in : Line → Option Event
event_in lines.Skip = None
event_in (lines.Ids base) = None
event_in (lines.Client name limit) = None
event_in (lines.Event e) = Some e

-- the names of clients
abbrev pub names_of : List Client → List (List ℕ)
names_of clients = map (λ c. c.0) clients

-- whether the name is among them
abbrev pub is_listed : List ℕ → List (List ℕ) → Bool
is_listed name names = list_any (λ n. bytes_eq name n) names

-- no name stands twice
abbrev pub AreNamedOnce : List Client → Type 0
AreNamedOnce [] = Unit {0}
AreNamedOnce (c ∷ clients) = AllByRecursion (λ d. d.0 ≢ c.0) clients × AreNamedOnce clients

-- what decides where a line may stand: the number of the first job, the names of clients, and what happens
pub record Before : Type 0 where
  pub base : List ℕ
  pub names : List (List ℕ)
  pub events : List Event

-- the same, of the lines before
abbrev pub before_of : List Line → Before
before_of said = record {
  base = filter_map base_in said;
  names = names_of (filter_map client_in said);
  events = filter_map event_in said;
}

-- First stands the number of the first job, once; then the clients, each once; and then what happens.
abbrev pub misplaced : Before → Line → Bool
misplaced b lines.Skip = false
misplaced b (lines.Ids base) = not (is_nil b.base)
misplaced b (lines.Client name limit) = is_nil b.base || not (is_nil b.events) || is_listed name b.names
misplaced b (lines.Event e) = is_nil b.base
