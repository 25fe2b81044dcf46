-- What a server's calls leave of its station.
use Rattle.std.proofs.Common.{◌≡◌, ◌≤◌, codes, ℕ, Bool, true, false, List, [], Option}
use Rattle.std.proofs.Common.{Some, None, Result, Ok, Err, refl, sym, ap, subst, ◌∙◌}
use Rattle.std.specs.Prelude.{is_some, is_none, IfOk, not, ◌&&◌}
use Rattle.std.specs.Option.{option_map}
use Rattle.std.proofs.lemmas.Bool.{true≢false}
use Rattle.dist_types.specs.Cause.{counted}
use Rattle.toolchain_cache.specs.Archives.{Archives, archives_in, opened_archives, IsInStep}
use Rattle.toolchain_cache.specs.Archiving.{ArchivesReopen}
use Rattle.listed_files.specs.Entries.{total}
use Rattle.folders.specs.Held.{Held, Holds}
use Rattle.lru_disk_cache.specs.Store.{OpenFails}
use Rattle.dist_types.specs.declared.cache_error.Error.{Error}
use Rattle.build_server.specs.Books.{Books}
use Rattle.build_server.specs.Builds.{Builder}
use Rattle.farm_entries.specs.declared.site.SiteServer.{SiteServer as SetupServer}
use Rattle.farm_stations.specs.Post.{Post as Station, outside_of, closed_over, is_io, IsTelling, IsReopened}
use Rattle.farm_stations.specs.Stations.{now_of, IsWell}
use Rattle.farm_entries.specs.Weather.{weather_by, weather_of}
use Rattle.farm_entries.specs.Weather.{Opens, OnlyClears}

pub unmapped : {A B : Type 0} (f : A → B) (o : Option A) → option_map f o ≡ None → o ≡ None
unmapped f None e = refl
unmapped f (Some x) e = absurd cc

-- a builder that is as it was, whether there is one
pub none_was : {A : Type 0} (old new : Option A) → is_some new ≡ is_some old → new ≡ None → old ≡ None
none_was None new same none = refl
none_was (Some x) new same none =
    absurd (true≢false (sym same ∙ ap (λ (o : Option _). is_some o) none))

-- ---- an assignment

-- ---- a restart

-- an opening over the folder of a server that ran
pub reopens : {F E : Type 0} (held : F → Held) (capacity : ℕ) (old : Books) (archives : Archives) (most : ℕ)
    (origin : F) (r : Result Books E) → old.folder ≡ held origin → old.capacity ≡ capacity
    → old.path ≡ codes "tc" → archives ≡ old.archives → most ≡ old.capacity → total archives ≤ most
    → ArchivesReopen → IfOk r (λ s. s.held ≡ [])
    → IfOk r (λ s. Holds (held origin) (λ files. s.archives ≡ opened_archives (codes "tc") capacity files))
    → IfOk r (λ s. (s.capacity ≡ capacity) × (s.path ≡ codes "tc"))
    → IfOk r (λ s. IsInStep s.path s.folder s.archives)
    → IfOk r (λ s. s.folder.faults ≡ (held origin).faults)
    → IfOk r (λ s. OnlyClears (held origin) s.folder) → IfOk r (IsReopened held true capacity old)
reopens held capacity old archives most origin (Err e) from cap path same size fits law none opens at step
    steady clears =
    tt
reopens held capacity old archives most origin (Ok s) from cap path same size fits law none opens at step
    steady clears =
    record {
      holds = none;
      origin = origin;
      from = from;
      archives = λ files told. opens files (sym (ap (λ (h : Held). h.files) from) ∙ told);
      keeps = λ ran in_step files told.
          let fit : total old.archives ≤ capacity =
          subst (λ (n : ℕ). total old.archives ≤ n) (size ∙ cap)
          (subst (λ (a : Archives). total a ≤ most) same fits) in
          let are : archives_in (codes "tc") files ≡ old.archives =
          subst (λ (p : List ℕ). archives_in p files ≡ old.archives) path (in_step files told) in
          opens files (sym (ap (λ (h : Held). h.files) from) ∙ told)
          ∙ law (codes "tc") capacity files old.archives are fit;
      capacity_is = at.0;
      path_is = at.1;
      step = step;
      steady = steady ∙ ap (λ (h : Held). h.faults) (sym from);
      clears = subst (λ (h : Held). OnlyClears h s.folder) (sym from) clears;
    }

-- the station of the next life, over those books
abbrev pub reborn : Station → List ℕ → ℕ → Bool → Books → Bool → Station
reborn st key nonce running books failed = record {
  life = counted st.life;
  nonce = nonce;
  authorizer = key;
  running = running;
  state = books;
  failed = failed;
  builds = st.builds;
  builder = st.builder;
  hand = st.hand;
}

some_is : {X : Type 0} (o : Option X) → is_some o ≡ true → (x : X) × (o ≡ Some x)
some_is None e = absurd (true≢false (sym e))
some_is (Some x) e = (x, refl)

module _ {F : Type 0} (held : F → Held) (s : SetupServer) (st : Station) (new : Books) (key : List ℕ)
    (nonce : ℕ) (well : IsWell s st) (is : IsReopened held st.running s.capacity st.state new) where
  abbrev next : Station
  next = reborn st key nonce true new false

  kept : st.running ≡ true → st.failed ≡ false → Holds st.state.folder (λ files. new.archives
      ≡ st.state.archives)
  kept runs sound = is.keeps runs ((well.0 runs).step sound)

  pub opened_so : (st.builder ≡ None → IsTelling held) → (st.builder ≡ None → st.running ≡ true)
      → Opens (weather_of (outside_of st) (outside_of next)) (now_of s st) (Some new.archives)
  opened_so tells runs = by_builder st.builder refl
    where
      by_builder : (b : Option Builder) → st.builder ≡ b
          → Opens (weather_by b (outside_of st) (outside_of next)) (now_of s st) (Some new.archives)
      by_builder None e =
          let (files, are) = some_is (held is.origin).files (tells e is.origin) in
          let told : st.state.folder.files ≡ Some files = ap (λ (h : Held). h.files) is.from ∙ are in
          ap (λ (a : Archives). Some a) (kept (runs e) ((well.0 (runs e)).own e) files told)
      by_builder (Some b) e = (
        is.archives,
        (λ files told runs sound. kept runs sound files told),
        refl,
        is.steady,
        refl,
        is.clears,
      )

-- the same in the words of a call
pub opened_at : {F : Type 0} (held : F → Held) (s : SetupServer) (st : Station) (new : Books)
    (found : Archives) (key : List ℕ) (nonce : ℕ) → IsWell s st
    → IsReopened held st.running s.capacity st.state new → found ≡ new.archives
    → (st.builder ≡ None → IsTelling held) → (is_none st.builder && not st.running) ≡ false
    → Opens (weather_of (outside_of st) (outside_of (reborn st key nonce true new false))) (now_of s st)
    (Some found)
opened_at held s st new found key nonce well is same tells shut =
    subst (λ (a : Archives). Opens
    (weather_of (outside_of st) (outside_of (reborn st key nonce true new false)))
    (now_of s st) (Some a)) (sym same)
    (opened_so held s st new key nonce well is tells (λ e. runs st.running
    (sym (ap (λ (o : Option Builder). is_none o && not st.running) e) ∙ shut)))
  where
    runs : (b : Bool) → not b ≡ false → b ≡ true
    runs true h = refl
    runs false h = absurd (true≢false h)

module _ (s : SetupServer) (st : Station) (key : List ℕ) (nonce : ℕ) (closed : Option Held) (error : Error)
    (io : is_io error ≡ true) (fails : OpenFails error st.state.folder (closed_over closed).folder)
    (handed : is_none st.builder ≡ false) where
  abbrev shut : Station
  shut = reborn st key nonce false (closed_over closed) true
