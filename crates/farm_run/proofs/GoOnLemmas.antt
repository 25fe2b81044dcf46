-- Servers that begin again, one by one.
use Rattle.std.proofs.Common.{◌≡◌, inl, inr, ℕ, zero, suc, ◌+◌, ◌<◌, List, [], ◌∷◌, ◌++◌, length, map, drop}
use Rattle.std.proofs.Common.{Option}
use Rattle.std.proofs.Common.{Some, None, Result, refl, sym, ap, subst, ◌∙◌, arith}
use Rattle.std.specs.Prelude.{slice_get, IfOk}
use Rattle.std.proofs.lemmas.Bool.{cases_lt}
use Rattle.std.proofs.lemmas.List.{length-map}
use Rattle.std.proofs.lemmas.Option.{same_Some}
use Rattle.toolchain_cache.specs.Archives.{Archives}
use Rattle.dist_types.specs.declared.addr.Addr.{Addr}
use Rattle.build_server.specs.Builds.{Builder}
use Rattle.farm_script.specs.Setups.{AreApart}
use Rattle.line_program.specs.declared.fault.FarmFault.{FarmFault}
use Rattle.farm_entries.specs.declared.site.Site.{Site}
use Rattle.farm_entries.specs.declared.site.SiteServer.{SiteServer}
use Rattle.farm_entries.specs.declared.entry.Entry.{Entry}
use Rattle.farm_entries.specs.Passage.{AreOwn, Leaves, Stays, AllStay}
use Rattle.farm_entries.specs.Servers.{ServerNow, server_begun, server_of}
use Rattle.farm_entries.specs.Weather.{Outside, Opens, weather_by, weather_of}
use Rattle.farm_stations.specs.Hands.{Hand}
use Rattle.farm_stations.specs.Left.{with_left}
use Rattle.farm_stations.specs.Post.{Post, outside_of}
use Rattle.farm_stations.specs.Stations.{now_of, begun_again, IsWell, AreStations}
use Rattle.farm_stations.proofs.StationLemmas.{none_was}
use Rattle.farm_run.specs.Farm.{Farmed}
use Rattle.farm_run.specs.GoesOn.{left_of, next_server, next_site, with_ids}
use Rattle.farm_run.proofs.BeginLemmas.{map_end, own_end, get_left, get_end}
use Rattle.farm_run.proofs.ResultLemmas.{ok_then}
use Rattle.farm_run.proofs.ServerLemmas.{stations_none, stations_push}
use Rattle.farm_run.proofs.StandLemmas.{get_map}

-- ---- one server

-- of a server of the farm's own, the opening finds the archives that it had
pub left_by : (s t : SiteServer) (old new : Post) (found : Option Archives)
    → Opens (weather_of (outside_of old) (outside_of new)) (now_of s old) found
    → t ≡ with_left old.builds found s → old.builder ≡ None → t ≡ left_of (now_of s old)
left_by s t old new found opens is none =
    let same : found ≡ Some (now_of s old).archives =
    subst (λ (b : Option Builder). Opens (weather_by b (outside_of old) (outside_of new)) (now_of s old) found)
    none opens in
    is ∙ ap (λ (o : Option Archives). with_left old.builds o s) same

pub begins_as : (s t : SiteServer) (old new : Post) (builds : ℕ) (found : Option Archives)
    → now_of s new ≡ begun_again (now_of s old) found → t ≡ with_left builds found s
    → now_of t new ≡ server_begun t
begins_as s t old new builds found now is =
    subst (λ (u : SiteServer). now_of u new ≡ server_begun u) (sym is)
    (ap (λ (n : ServerNow). record n { setup = with_left builds found s }) now)

pub well_by : (s t : SiteServer) (st : Post) (builds : ℕ) (found : Option Archives)
    → IsWell (with_left builds found s) st → t ≡ with_left builds found s → IsWell t st
well_by s t st builds found well same = subst (λ (u : SiteServer). IsWell u st) (sym same) well

pub own_by : (old new : Post) → Leaves (outside_of old) (outside_of new) → old.builder ≡ None
    → new.builder ≡ None
own_by old new left none = none_was new.builder old.builder (sym left.stays.own) none

-- ---- the servers so far

-- what is outside of those so far stayed
abbrev pub StaySoFar : List Outside → List Outside → Type 0
StaySoFar old new = (i : ℕ) (was is : Outside) → slice_get old i ≡ Some was → slice_get new i ≡ Some is
    → Stays was is

stay_end : (old new : List Outside) (i : ℕ) (was is : Outside) → StaySoFar old new → slice_get old i ≡ Some was
    → length new ≡ i → Stays was is → StaySoFar old (new ++ is ∷ [])
stay_end old new i was is so_far at size stays = λ j x y xt yt. elim (cases_lt j (length new)) [
  | inl before ↦ so_far j x y xt (sym (get_left new is j before) ∙ yt)
  | inr past ↦
      let e = get_end new is y j past yt in
      let here : was ≡ x = same_Some was x (sym at ∙ ap (slice_get old) (sym size ∙ sym e.0) ∙ xt) in
      subst (λ (z : Outside). Stays x z) e.1 (subst (λ (z : Outside). Stays z is) here stays)
]

pub record AgainSoFar (log : List Entry) (ss : List SiteServer) (old : List Post) (ts : List SiteServer)
    (sts : List Post) : Type 0 where
  pub sites : AreOwn (map outside_of old) → ts ≡ map (next_server log) ss
  pub stations : AreStations ts [] sts
  pub own : AreOwn (map outside_of old) → AreOwn (map outside_of sts)
  pub stays : StaySoFar (map outside_of old) (map outside_of sts)
  pub addresses : map (λ t. t.addr) ts ≡ map (λ s. s.addr) ss

pub again_none : (log : List Entry) (old : List Post) → AgainSoFar log [] old [] []
again_none log old = record {
  sites = λ own. refl;
  stations = stations_none [];
  own = λ own i o at. absurd cc;
  stays = λ i was is at bt. absurd cc;
  addresses = refl;
}

pub again_push : (log : List Entry) (all ss : List SiteServer) (old : List Post) (ts : List SiteServer)
    (sts : List Post) (s t : SiteServer) (st new : Post) (i : ℕ) → AgainSoFar log ss old ts sts
    → AreStations all log old → slice_get all i ≡ Some s → slice_get old i ≡ Some st
    → (st.builder ≡ None → t ≡ left_of (now_of s st)) → now_of t new ≡ server_begun t → IsWell t new
    → (st.builder ≡ None → new.builder ≡ None) → t.addr ≡ s.addr → length ss ≡ i
    → Stays (outside_of st) (outside_of new) → AgainSoFar log (ss ++ s ∷ []) old (ts ++ t ∷ []) (sts ++ new ∷ [])
again_push log all ss old ts sts s t st new i is are at there next now well own addr size stays =
    let sizes : length ts ≡ length ss = sym (length-map ts (λ (u : SiteServer). u.addr))
    ∙ ap (λ (l : List Addr). length l) is.addresses ∙ length-map ss (λ (u : SiteServer). u.addr) in
    let is_own : AreOwn (map outside_of old) → st.builder ≡ None =
    (λ all_own. all_own i (outside_of st) (get_map outside_of old i st there)) in record {
      sites = λ all_own.
          let one : t ≡ next_server log s =
          next (is_own all_own) ∙ ap left_of (are.each i s st at there).now in
          ap (λ (us : List SiteServer). us ++ t ∷ []) (is.sites all_own)
          ∙ ap (λ (u : SiteServer). map (next_server log) ss ++ u ∷ []) one
          ∙ sym (map_end (next_server log) ss s);
      stations = stations_push [] ts sts t new is.stations (record { now = now; well = well });
      own = λ all_own. subst AreOwn (sym (map_end outside_of sts new))
          (own_end (map outside_of sts) (outside_of new) (is.own all_own) (own (is_own all_own)));
      stays = subst (StaySoFar (map outside_of old)) (sym (map_end outside_of sts new))
          (stay_end (map outside_of old) (map outside_of sts) i (outside_of st) (outside_of new) is.stays
          (get_map outside_of old i st there)
          (length-map sts outside_of ∙ is.stations.size ∙ sizes ∙ size) stays);
      addresses = map_end (λ (u : SiteServer). u.addr) ts t
          ∙ ap (λ (addrs : List Addr). addrs ++ t.addr ∷ []) is.addresses
          ∙ ap (λ (a : Addr). map (λ (u : SiteServer). u.addr) ss ++ a ∷ []) addr
          ∙ sym (map_end (λ (u : SiteServer). u.addr) ss s);
    }

-- the addresses of a farm that goes on are those that it had
pub apart_again : (addr own : Addr) (ss ts : List SiteServer) → AreApart (addr ∷ map (λ s. s.addr) ss)
    → own ≡ addr → map (λ t. t.addr) ts ≡ map (λ s. s.addr) ss → AreApart (own ∷ map (λ t. t.addr) ts)
apart_again addr own ss ts apart same are =
    subst (λ (a : Addr). AreApart (a ∷ map (λ (t : SiteServer). t.addr) ts)) (sym same)
    (subst (λ (l : List Addr). AreApart (addr ∷ l)) (sym are) apart)

-- ---- the farm that goes on

-- a farm that began so over the servers that begin again
abbrev pub Begins : Result Farmed FarmFault → Site → List Outside → List Hand → Type 0
Begins r site outside hands =
    IfOk r (λ farm. farm ≡ record { setup = site; entries = []; outside = outside; hands = hands })

module _ (self : Farmed) (site : Site) (entries : List Entry) (old : List Post) (r : Result Farmed FarmFault)
    (new : Site) (outside : List Outside) (hands : List Hand)
    (view : record {
      setup = site;
      entries = entries;
      outside = map outside_of old;
      hands = map (λ st. st.hand) old;
    } ≡ self)
    (begins : Begins r new outside hands) where
  pub goes_setup : (base count : ℕ) (servers : List SiteServer)
      → (AreOwn (map outside_of old) → servers ≡ map (next_server entries) site.servers)
      → new ≡ record { rules = site.rules; scheduler = with_ids base count site.scheduler; servers = servers }
      → IfOk r (λ farm. AreOwn self.outside → farm.setup ≡ next_site base count self.setup self.entries)
  goes_setup base count servers sites is =
      subst (λ (s : Farmed). IfOk r
      (λ farm. AreOwn s.outside → farm.setup ≡ next_site base count s.setup s.entries)) view
      (ok_then r begins (λ farm same own. ap (λ (f : Farmed). f.setup) same ∙ is
      ∙ ap (λ (ss : List SiteServer). record {
        rules = site.rules;
        scheduler = with_ids base count site.scheduler;
        servers = ss;
      }) (sites own)))

  pub goes_none : IfOk r (λ farm. farm.entries ≡ [])
  goes_none = ok_then r begins (λ farm same. ap (λ (f : Farmed). f.entries) same)

  pub goes_stays : AllStay (map outside_of old) outside → IfOk r (λ farm. AllStay self.outside farm.outside)
  goes_stays stays =
      subst (λ (s : Farmed). IfOk r (λ farm. AllStay s.outside farm.outside)) view
      (ok_then r begins (λ farm same.
      subst (AllStay (map outside_of old)) (sym (ap (λ (f : Farmed). f.outside) same)) stays))

  pub goes_own : (AreOwn (map outside_of old) → AreOwn outside)
      → IfOk r (λ farm. AreOwn self.outside → AreOwn farm.outside)
  goes_own stays =
      subst (λ (s : Farmed). IfOk r (λ farm. AreOwn s.outside → AreOwn farm.outside)) view
      (ok_then r begins (λ farm same own.
      subst AreOwn (sym (ap (λ (f : Farmed). f.outside) same)) (stays own)))
