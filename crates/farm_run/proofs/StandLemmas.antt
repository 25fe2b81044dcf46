-- What an event leaves of the stations, and outside of them.
use Rattle.std.proofs.Common.{◌≡◌, inl, ℕ, zero, suc, Bool, cond, List, [], ◌∷◌}
use Rattle.std.proofs.Common.{map, set, Option, Some, None, refl, sym, ap, subst, ◌∙◌}
use Rattle.std.specs.Prelude.{slice_get}
use Rattle.std.proofs.lemmas.Option.{same_Some}
use Rattle.dist_types.specs.declared.addr.Addr.{Addr}
use Rattle.core_rules.proofs.AddressLemmas.{same_self}
use Rattle.build_server.specs.Builds.{Builder}
use Rattle.farm_script.specs.declared.event.Event.{Event}
use Rattle.farm_script.specs.declared.event.EventKind.{EventKind}
use Rattle.farm_script.specs.declared.event.EventKind.TheVariants.{Request, Deliver, Fail, Return, Answer}
use Rattle.farm_script.specs.declared.event.EventKind.TheVariants.{Beat, Restart}
use Rattle.farm_entries.specs.declared.site.Site.{Site as Setup}
use Rattle.farm_entries.specs.declared.site.SiteServer.{SiteServer as SetupServer}
use Rattle.farm_entries.specs.declared.entry.Effect.{Effect}
use Rattle.farm_entries.specs.declared.entry.Entry.{Entry}
use Rattle.farm_entries.specs.declared.entry.Step.{Step}
use Rattle.farm_entries.specs.declared.entry.StepKind.{StepKind}
use Rattle.farm_entries.specs.declared.entry.StepKind.TheVariants as kinds
use Rattle.farm_entries.specs.Effects.{entry_of}
use Rattle.farm_run.specs.Farm.{Stands}
use Rattle.farm_entries.specs.Passage.{reaches, reached_in, reached, Leaves, LeavesTo, LeavesOutside}
use Rattle.farm_entries.specs.Passage.{AreOwn, Moves}
use Rattle.farm_entries.specs.Passage.{IsMoved}
use Rattle.farm_stations.proofs.LeftLemmas.{leaves_same as leaves_itself}
use Rattle.farm_stations.specs.Post.{Post as Station, around_of, outside_of}
use Rattle.farm_entries.specs.Servers.{restart_by}
use Rattle.farm_stations.specs.Stations.{AreStations, IsStepAt, HasApart}
use Rattle.farm_entries.specs.Weather.{Outside, calm, weather_by, weather_of}
use Rattle.farm_run.proofs.ServerLemmas.{IsStepOf, stations_same, stations_stepped}

-- ---- lists

pub get_map : {A B : Type 0} (f : A → B) (xs : List A) (i : ℕ) (x : A) → slice_get xs i ≡ Some x
    → slice_get (map f xs) i ≡ Some (f x)
get_map {A} {B} f [] i x e = absurd cc
get_map {A} {B} f (y ∷ ys) zero x e = ap (λ (z : A). Some (f z)) (same_Some y x e)
get_map {A} {B} f (y ∷ ys) (suc i) x e = get_map f ys i x e

pub set_map : {A B : Type 0} (f : A → B) (xs : List A) (i : ℕ) (x : A) → map f (set xs i x) ≡ set (map f xs) i
    (f x)
set_map {A} {B} f [] i x = refl
set_map {A} {B} f (y ∷ ys) zero x = refl
set_map {A} {B} f (y ∷ ys) (suc i) x = ap (λ (zs : List B). f y ∷ zs) (set_map f ys i x)

set_same : {A : Type 0} (xs : List A) (i : ℕ) (x : A) → slice_get xs i ≡ Some x → set xs i x ≡ xs
set_same {A} [] i x e = refl
set_same {A} (y ∷ ys) zero x e = ap (λ (z : A). z ∷ ys) (sym (same_Some y x e))
set_same {A} (y ∷ ys) (suc i) x e = ap (λ (zs : List A). y ∷ zs) (set_same ys i x e)

-- what is outside of all stations, where that of one is as it was
pub outside_kept : (sts : List Station) (place : ℕ) (st after : Station) → slice_get sts place ≡ Some st
    → outside_of after ≡ outside_of st → map outside_of (set sts place after) ≡ map outside_of sts
outside_kept sts place st after at same = set_map outside_of sts place after
    ∙ ap (set (map outside_of sts) place) same
    ∙ set_same (map outside_of sts) place (outside_of st) (get_map outside_of sts place st at)

pub around_kept : (sts : List Station) (place : ℕ) (st after : Station) → slice_get sts place ≡ Some st
    → around_of after ≡ around_of st → map around_of (set sts place after) ≡ map around_of sts
around_kept sts place st after at same = set_map around_of sts place after
    ∙ ap (set (map around_of sts) place) same
    ∙ set_same (map around_of sts) place (around_of st) (get_map around_of sts place st at)

leaves_to : (o : Option Addr) (old new : Outside) → new ≡ old → LeavesTo o old new
leaves_to None old new same = same
leaves_to (Some addr) old new same = subst (λ (o : Outside). Leaves old o) (sym same) (leaves_itself old)

pub leaves_same : (step : Option Step) (old new : Outside) → new ≡ old → LeavesOutside step old new
leaves_same step old new same = leaves_to (reached_in step) old new same

-- ---- events that restart nothing

-- what such an event reaches is told by its step
pub reached_still : (k : EventKind) (step : Option Step) → ((a : Addr) → restart_by a k ≡ None)
    → reached k step ≡ reached_in step
reached_still (Request target peer bytes) step still = refl
reached_still (Deliver c) step still = refl
reached_still (Fail c) step still = refl
reached_still (Return d) step still = refl
reached_still (Answer c bytes) step still = refl
reached_still (Beat server) step still = refl
reached_still (Restart server key nonce) step still =
    let no : ◌≡◌ {A = Option (List ℕ × ℕ)} (Some (key, nonce)) None =
    ap (λ (b : Bool). cond b (Some (key, nonce)) None) (sym (same_self server)) ∙ still server in
    absurd cc

-- an event that reaches for nothing
pub still_moved : (setup : Setup) (event : Event) (x : Effect) (old new : List Outside)
    → ((a : Addr) → restart_by a event.kind ≡ None) → reached_in x.step ≡ None → new ≡ old
    → IsMoved setup (entry_of event x) calm old new
still_moved setup event x old new still none same =
    subst (λ (o : Option Addr). Moves setup o calm old new)
    (sym (reached_still event.kind x.step still ∙ none)) (record { left = same; own = λ own. refl })

-- one without a step
pub stands_same : (setup : Setup) (log : List Entry) (sts : List Station) (x : Effect)
    → AreStations setup.servers log sts → x.step ≡ None → Stands setup log x calm sts sts
stands_same setup log sts x are none = λ event still. (
  stations_same setup.servers log sts (entry_of event x) are still none,
  still_moved setup event x (map outside_of sts) (map outside_of sts) still (ap reached_in none) refl,
)

-- a step of the server at a place that reaches for nothing
pub stands_stepped : (setup : Setup) (log : List Entry) (sts new : List Station) (x : Effect) (place : ℕ)
    (s : SetupServer) (st : Station) → HasApart setup → AreStations setup.servers log sts
    → slice_get setup.servers place ≡ Some s → slice_get sts place ≡ Some st → IsStepOf s.addr x.step
    → IsStepAt s place st x.step sts new → reached_in x.step ≡ None → Stands setup log x calm sts new
stands_stepped setup log sts new x place s st apart are at bt of is none = λ event still. (
  stations_stepped setup log sts new event x place s st apart are at bt of is still,
  still_moved setup event x (map outside_of sts) (map outside_of new) still none
      (ap (map outside_of) is.is
      ∙ outside_kept sts place st is.after bt
      (subst (λ (o : Option Addr). LeavesTo o (outside_of st) (outside_of is.after)) none is.outside)),
)

-- who is reached for is the server of the step
reaches_own : (k : StepKind) (server addr : Addr) → reaches k server ≡ Some addr → server ≡ addr
reaches_own (kinds.Heard as_what) server addr e = absurd cc
reaches_own (kinds.Assigned job tc ready) server addr e = absurd cc
reaches_own (kinds.Submitted job outcome) server addr e = same_Some server addr e
reaches_own (kinds.Ran job ran result) server addr e = same_Some server addr e
reaches_own (kinds.Finished job) server addr e = absurd cc
reaches_own (kinds.Unreported job) server addr e = absurd cc
reaches_own (kinds.Opened archives) server addr e = same_Some server addr e

pub reached_own : (step : Option Step) (own addr : Addr) → IsStepOf own step → reached_in step ≡ Some addr
    → own ≡ addr
reached_own None own addr of e = absurd cc
reached_own (Some step) own addr of e = sym of ∙ reaches_own step.kind step.server addr e

own_calm : (sts : List Station) (place : ℕ) (st after : Station) → slice_get sts place ≡ Some st
    → AreOwn (map outside_of sts) → weather_of (outside_of st) (outside_of after) ≡ calm
own_calm sts place st after at own =
    ap (λ (o : Option Builder). weather_by o (outside_of st) (outside_of after))
    (own place (outside_of st) (get_map outside_of sts place st at))

moves_by : (setup : Setup) (sts : List Station) (place : ℕ) (s : SetupServer) (st after : Station)
    (step : Option Step) (o : Option Addr) → slice_get setup.servers place ≡ Some s
    → slice_get sts place ≡ Some st → IsStepOf s.addr step → reached_in step ≡ o
    → LeavesTo o (outside_of st) (outside_of after)
    → Moves setup o (weather_of (outside_of st) (outside_of after)) (map outside_of sts)
    (map outside_of (set sts place after))
moves_by setup sts place s st after step None at bt of is leaves = record {
  left = outside_kept sts place st after bt leaves;
  own = own_calm sts place st after bt;
}
moves_by setup sts place s st after step (Some addr) at bt of is left = inl (record {
  place = place;
  server = s;
  there = at;
  at = reached_own step s.addr addr of is;
  was = outside_of st;
  is = outside_of after;
  before = get_map outside_of sts place st bt;
  left = set_map outside_of sts place after;
  weather = refl;
  leaves = left;
})

-- a step of the server at a place
pub stands_reported : (setup : Setup) (log : List Entry) (sts new : List Station) (x : Effect) (place : ℕ)
    (s : SetupServer) (st : Station) → HasApart setup → AreStations setup.servers log sts
    → slice_get setup.servers place ≡ Some s → slice_get sts place ≡ Some st → IsStepOf s.addr x.step
    → (is : IsStepAt s place st x.step sts new)
    → Stands setup log x (weather_of (outside_of st) (outside_of is.after)) sts new
stands_reported setup log sts new x place s st apart are at bt of is = λ event still. (
  stations_stepped setup log sts new event x place s st apart are at bt of is still,
  subst (λ (o : Option Addr). Moves setup o (weather_of (outside_of st) (outside_of is.after))
      (map outside_of sts) (map outside_of new)) (sym (reached_still event.kind x.step still))
      (subst (λ (ys : List Station). Moves setup (reached_in x.step)
      (weather_of (outside_of st) (outside_of is.after)) (map outside_of sts) (map outside_of ys)) (sym is.is)
      (moves_by setup sts place s st is.after x.step (reached_in x.step) at bt of refl is.outside)),
)
