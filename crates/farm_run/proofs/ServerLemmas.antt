-- Where a server stands in its setup, and what an entry leaves of the others.
use Rattle.std.proofs.Common.{◌≡◌, ◌≢◌, ℕ, zero, suc, ◌+◌, ◌-◌, ◌<◌, ◌≤◌, Bool, true, false, cond, List, []}
use Rattle.std.proofs.Common.{◌∷◌, ◌++◌, length, map, set, Option, Some, None, refl, sym, ap, subst, ◌∙◌}
use Rattle.std.proofs.Common.{inl, inr, arith}
use Rattle.std.specs.Borrow.{Bor}
use Rattle.std.specs.Prelude.{slice_get, position, find, is_some, MatchOption}
use Rattle.std.specs.Slice.{IsItemAt}
use Rattle.std.specs.List.{position_from, AllByRecursion}
use Rattle.std.proofs.lemmas.Iterator.Adapters.{position_from-zero}
use Rattle.std.specs.Option.{option_map}
use Rattle.std.proofs.lemmas.Bool.{cases_eq}
use Rattle.std.proofs.lemmas.List.{length-set}
use Rattle.std.proofs.lemmas.Option.{same_Some, slice_get_read}
use Rattle.dist_types.specs.Addr.{same_addr}
use Rattle.dist_types.specs.declared.addr.Addr.{Addr}
use Rattle.core_rules.proofs.AddressLemmas.{same_is, same_self}
use Rattle.core_rules.proofs.AllLemmas.{is_false, true_false}
use Rattle.farm_script.specs.declared.event.Event.{Event}
use Rattle.farm_script.specs.declared.event.EventKind.TheVariants.{Restart}
use Rattle.farm_script.specs.Setups.{AreApart}
use Rattle.farm_entries.specs.declared.site.Site.{Site as Setup}
use Rattle.farm_entries.specs.declared.site.SiteServer.{SiteServer as SetupServer}
use Rattle.farm_entries.specs.declared.entry.Effect.{Effect}
use Rattle.farm_entries.specs.declared.entry.Entry.{Entry}
use Rattle.farm_entries.specs.declared.entry.Step.{Step}
use Rattle.farm_stations.specs.Post.{Post as Station}
use Rattle.farm_entries.specs.Effects.{entry_of}
use Rattle.farm_entries.specs.Servers.{ServerNow, kind_after, restart_by, restarted, stepped, server_of}
use Rattle.farm_entries.specs.Servers.{server_at, server_now}
use Rattle.farm_stations.specs.Stations.{now_of, IsWell, AreWell, IsStation, AreStations, IsStepAt, HasApart}
use Rattle.farm_entries.proofs.StepLemmas.{server-push, server_setup}

-- ---- places

-- at the first place where a test passes stands the first that passes
found_from : {X : Type 0} (p : X → Bool) (n i : ℕ) (xs : List X) → position_from p n xs ≡ Some i → (n ≤ i)
    × ((x : X) × (slice_get xs (i - n) ≡ Some x) × (find p xs ≡ Some x) × (p x ≡ true))
found_from {X} p n i [] e = absurd cc
found_from {X} p n i (x ∷ xs) e = at_head (p x) refl (found_from p (n + 1) i xs) e
  where
    at_head : (b : Bool) → p x ≡ b
        → (position_from p (n + 1) xs ≡ Some i → (n + 1 ≤ i)
        × ((y : X) × (slice_get xs (i - (n + 1)) ≡ Some y) × (find p xs ≡ Some y) × (p y ≡ true)))
        → cond b (Some n) (position_from p (n + 1) xs) ≡ Some i → (n ≤ i)
        × ((y : X) × (slice_get (x ∷ xs) (i - n) ≡ Some y) × (find p (x ∷ xs) ≡ Some y) × (p y ≡ true))
    at_head true is rest e =
        let same : n ≡ i = same_Some n i e in
        let here : i - n ≡ zero = omega (arith, same) in (
          omega (arith, same),
          (
            x,
            ap (slice_get (x ∷ xs)) here,
            ap (λ (b : Bool). cond b (Some x) (find p xs)) is,
            is,
          ),
        )
    at_head false is rest e =
        let r = rest e in
        let more : i - n ≡ suc (i - (n + 1)) = omega (arith, r.0) in (
          omega (arith, r.0),
          (
            r.1.0,
            ap (slice_get (x ∷ xs)) more ∙ r.1.1,
            ap (λ (b : Bool). cond b (Some x) (find p xs)) is ∙ r.1.2,
            r.1.3,
          ),
        )

none_from : {X : Type 0} (p : X → Bool) (n : ℕ) (xs : List X) → position_from p n xs ≡ None → find p xs ≡ None
none_from p n [] e = refl
none_from p n (x ∷ xs) e = at_head (p x) refl (none_from p (n + 1) xs) e
  where
    at_head : (b : Bool) → p x ≡ b → (position_from p (n + 1) xs ≡ None → find p xs ≡ None)
        → cond b (Some n) (position_from p (n + 1) xs) ≡ None → find p (x ∷ xs) ≡ None
    at_head true is rest e = absurd cc
    at_head false is rest e = ap (λ (b : Bool). cond b (Some x) (find p xs)) is ∙ rest e

-- and then no test passes
lacks_from : {X : Type 0} (p : X → Bool) (n : ℕ) (xs : List X) → position_from p n xs ≡ None → (i : ℕ) (x : X)
    → slice_get xs i ≡ Some x → p x ≡ false
lacks_from {X} p n [] e i x at = absurd cc
lacks_from {X} p n (y ∷ ys) e i x at = at_head (p y) refl (lacks_from p (n + 1) ys) e i x at
  where
    at_head : (b : Bool) → p y ≡ b
        → (position_from p (n + 1) ys ≡ None → (i : ℕ) (x : X) → slice_get ys i ≡ Some x → p x ≡ false)
        → cond b (Some n) (position_from p (n + 1) ys) ≡ None → (i : ℕ) (x : X)
        → slice_get (y ∷ ys) i ≡ Some x → p x ≡ false
    at_head true is rest e i x at = absurd cc
    at_head false is rest e zero x at = ap p (sym (same_Some y x at)) ∙ is
    at_head false is rest e (suc i) x at = rest e i x at

-- the server at a place that was found
pub record IsFound (setup : Setup) (addr : Addr) (place : ℕ) : Type 0 where
  pub server : SetupServer
  pub there : slice_get setup.servers place ≡ Some server
  pub found : server_at setup addr ≡ Some server
  pub at : server.addr ≡ addr

pub place_found : (setup : Setup) (addr : Addr) (place : ℕ)
    → position (λ (s : SetupServer). same_addr s.addr addr) setup.servers ≡ Some place
    → IsFound setup addr place
place_found setup addr place e =
    let r = found_from (λ (s : SetupServer). same_addr s.addr addr) zero place setup.servers
    (sym (position_from-zero (λ (s : SetupServer). same_addr s.addr addr) setup.servers) ∙ e) in
    let same : place - 0 ≡ place = omega arith in
    record {
      server = r.1.0;
      there = ap (slice_get setup.servers) (sym same) ∙ r.1.1;
      found = r.1.2;
      at = same_is r.1.0.addr addr r.1.3;
    }

-- the same where it is known what stands there
pub found_is : (setup : Setup) (addr : Addr) (place : ℕ) (s : SetupServer)
    → position (λ (s : SetupServer). same_addr s.addr addr) setup.servers ≡ Some place
    → slice_get setup.servers place ≡ Some s → (server_at setup addr ≡ Some s) × (s.addr ≡ addr)
found_is setup addr place s e there =
    let f = place_found setup addr place e in
    let same : f.server ≡ s = same_Some f.server s (sym f.there ∙ there) in
    (f.found ∙ ap (λ (x : SetupServer). Some x) same, ap (λ (x : SetupServer). x.addr) (sym same) ∙ f.at)

pub place_none : (setup : Setup) (addr : Addr)
    → position (λ (s : SetupServer). same_addr s.addr addr) setup.servers ≡ None → server_at setup addr ≡ None
place_none setup addr e = none_from (λ (s : SetupServer). same_addr s.addr addr) zero setup.servers
    (sym (position_from-zero (λ (s : SetupServer). same_addr s.addr addr) setup.servers) ∙ e)

-- whether a place is found is whether the server is
found_some : (setup : Setup) (addr : Addr) (o : Option ℕ)
    → position (λ (s : SetupServer). same_addr s.addr addr) setup.servers ≡ o
    → is_some o ≡ is_some (server_at setup addr)
found_some setup addr None e = sym (ap is_some (place_none setup addr e))
found_some setup addr (Some place) e = sym (ap is_some (place_found setup addr place e).found)

pub inside_is : (setup : Setup) (addr : Addr)
    → is_some (position (λ (s : SetupServer). same_addr s.addr addr) setup.servers) ≡ is_some
    (server_at setup addr)
inside_is setup addr = found_some setup addr
    (position (λ (s : SetupServer). same_addr s.addr addr) setup.servers) refl

-- ---- addresses that differ

all_at : (P : Addr → Type 0) (xs : List SetupServer) (i : ℕ) (s : SetupServer)
    → AllByRecursion P (map (λ x. x.addr) xs) → slice_get xs i ≡ Some s → P s.addr
all_at P [] i s all at = absurd cc
all_at P (x ∷ xs) zero s all at = subst (λ (y : SetupServer). P y.addr) (same_Some x s at) all.0
all_at P (x ∷ xs) (suc i) s all at = all_at P xs i s all.1 at

pub apart_at : (xs : List SetupServer) (i j : ℕ) (s t : SetupServer) → AreApart (map (λ x. x.addr) xs)
    → slice_get xs i ≡ Some s → slice_get xs j ≡ Some t → i ≢ j → s.addr ≢ t.addr
apart_at [] i j s t apart at bt differ = absurd cc
apart_at (x ∷ xs) zero zero s t apart at bt differ = absurd (differ refl)
apart_at (x ∷ xs) zero (suc j) s t apart at bt differ = λ same.
    all_at (λ b. b ≢ x.addr) xs j t apart.0 bt
    (sym same ∙ ap (λ (y : SetupServer). y.addr) (sym (same_Some x s at)))
apart_at (x ∷ xs) (suc i) zero s t apart at bt differ = λ same.
    all_at (λ b. b ≢ x.addr) xs i s apart.0 at
    (same ∙ ap (λ (y : SetupServer). y.addr) (sym (same_Some x t bt)))
apart_at (x ∷ xs) (suc i) (suc j) s t apart at bt differ = apart_at xs i j s t apart.1 at bt
    (λ same. differ (ap (λ (k : ℕ). suc k) same))

not_same : (a b : Addr) → a ≢ b → same_addr a b ≡ false
not_same a b differ = is_false (same_addr a b) (λ on. differ (same_is a b on))

-- ---- one more entry

-- that a step is of the server at an address, or none
abbrev pub IsStepOf : Addr → Option Step → Type 0
IsStepOf addr None = Unit {0}
IsStepOf addr (Some step) = step.server ≡ addr

other_step : (s : ServerNow) (addr : Addr) (step : Option Step) → IsStepOf addr step → s.setup.addr ≢ addr
    → stepped step s ≡ s
other_step s addr None of differ = refl
other_step s addr (Some step) of differ =
    ap (λ (b : Bool). cond b (kind_after step.kind s) s)
    (not_same step.server s.setup.addr (λ same. differ (sym same ∙ of)))

-- a server of another address is as it was
pub other_server : (s : SetupServer) (log : List Entry) (e : Entry) (addr : Addr)
    → restart_by s.addr e.event.kind ≡ None → IsStepOf addr e.step → s.addr ≢ addr
    → server_of s (log ++ e ∷ []) ≡ server_of s log
other_server s log e addr still of differ =
    let own : (server_of s log).setup.addr ≡ s.addr = ap (λ (x : SetupServer). x.addr) (server_setup s log) in
    let none : restart_by (server_of s log).setup.addr e.event.kind ≡ None =
    ap (λ (a : Addr). restart_by a e.event.kind) own ∙ still in
    server-push s log e ∙ ap (λ (o : Option (List ℕ × ℕ)). stepped e.step (restarted o (server_of s log)))
    none
    ∙ other_step (server_of s log) addr e.step of (λ same. differ (sym own ∙ same))

-- an entry without a step, whose event restarts nothing
pub same_server : (s : SetupServer) (log : List Entry) (e : Entry) → restart_by s.addr e.event.kind ≡ None
    → e.step ≡ None → server_of s (log ++ e ∷ []) ≡ server_of s log
same_server s log e still none =
    let own : (server_of s log).setup.addr ≡ s.addr = ap (λ (x : SetupServer). x.addr) (server_setup s log) in
    server-push s log e
    ∙ ap (λ (o : Option Step).
    stepped o (restarted (restart_by (server_of s log).setup.addr e.event.kind) (server_of s log))) none
    ∙ ap (λ (a : Addr). restarted (restart_by a e.event.kind) (server_of s log)) own
    ∙ ap (λ (o : Option (List ℕ × ℕ)). restarted o (server_of s log)) still

-- ---- the stations

pub get_set_same : {X : Type 0} (xs : List X) (n : ℕ) (a : X) → n < length xs → slice_get (set xs n a) n
    ≡ Some a
get_set_same [] n a h = absurd (omega arith)
get_set_same (x ∷ xs) zero a h = refl
get_set_same (x ∷ xs) (suc n) a h = get_set_same xs n a (omega arith)

pub get_set_other : {X : Type 0} (xs : List X) (n m : ℕ) (a : X) → n ≢ m
    → slice_get (set xs n a) m ≡ slice_get xs m
get_set_other [] n m a h = refl
get_set_other (x ∷ xs) zero zero a h = absurd (h refl)
get_set_other (x ∷ xs) zero (suc m) a h = refl
get_set_other (x ∷ xs) (suc n) zero a h = refl
get_set_other (x ∷ xs) (suc n) (suc m) a h = get_set_other xs n m a (λ same. h (ap (λ (k : ℕ). suc k) same))

pub within : {X : Type 0} (xs : List X) (i : ℕ) (x : X) → slice_get xs i ≡ Some x → i < length xs
within [] i x e = absurd cc
within (y ∷ ys) zero x e = omega arith
within (y ∷ ys) (suc i) x e = omega (arith, within ys i x e)

-- an entry that touches no server
pub stations_same : (servers : List SetupServer) (log : List Entry) (sts : List Station) (e : Entry)
    → AreStations servers log sts → ((a : Addr) → restart_by a e.event.kind ≡ None) → e.step ≡ None
    → AreStations servers (log ++ e ∷ []) sts
stations_same servers log sts e are still none = record {
  size = are.size;
  each = λ i s st at bt.
      let is = are.each i s st at bt in
      record { now = is.now ∙ sym (same_server s log e (still s.addr) none); well = is.well };
}

-- an entry with a step of one server, or that restarts it, whose station is now that
pub stations_set : (setup : Setup) (log : List Entry) (sts : List Station) (e : Entry) (place : ℕ)
    (s : SetupServer) (st after : Station) → HasApart setup → AreStations setup.servers log sts
    → slice_get setup.servers place ≡ Some s → slice_get sts place ≡ Some st → IsStepOf s.addr e.step
    → ((a : Addr) → a ≢ s.addr → restart_by a e.event.kind ≡ None)
    → now_of s after ≡ stepped e.step (restarted (restart_by s.addr e.event.kind) (now_of s st))
    → IsWell s after → AreStations setup.servers (log ++ e ∷ []) (set sts place after)
stations_set setup log sts e place s st after apart are at bt of still now well = record {
  size = length-set sts place after ∙ are.size;
  each = λ i t tt' ct dt. elim (cases_eq place i) [
    | inl same ↦ own i t tt' same ct dt
    | inr differ ↦
        let old = are.each i t tt' ct (sym (get_set_other sts place i after differ) ∙ dt) in
        let far : t.addr ≢ s.addr = apart_at setup.servers i place t s apart.1 ct at
        (λ same. differ (sym same)) in
        record {
          now = old.now ∙ sym (other_server t log e s.addr (still t.addr far) of far);
          well = old.well;
        }
  ];
}
  where
    own : (i : ℕ) (t : SetupServer) (u : Station) → place ≡ i → slice_get setup.servers i ≡ Some t
        → slice_get (set sts place after) i ≡ Some u → IsStation t (log ++ e ∷ []) u
    own i t u same ct dt =
        let one : s ≡ t = same_Some s t (sym at ∙ ap (slice_get setup.servers) same ∙ ct) in
        let two : after ≡ u = same_Some after u (sym (get_set_same sts place after (within sts place st bt))
        ∙ ap (slice_get (set sts place after)) same ∙ dt) in
        let was = are.each place s st at bt in
        let addr : (server_of s log).setup.addr ≡ s.addr = ap (λ (x : SetupServer). x.addr)
        (server_setup s log) in
        let is : IsStation s (log ++ e ∷ []) after = record {
          now = now
              ∙ ap (λ (n : ServerNow). stepped e.step (restarted (restart_by s.addr e.event.kind) n)) was.now
              ∙ ap (λ (a : Addr). stepped e.step (restarted (restart_by a e.event.kind) (server_of s log)))
              (sym addr)
              ∙ sym (server-push s log e);
          well = well;
        } in
        subst (λ (v : Station). IsStation t (log ++ e ∷ []) v) two
        (subst (λ (x : SetupServer). IsStation x (log ++ e ∷ []) after) one is)

-- the same where nothing is restarted
pub stations_stepped : (setup : Setup) (log : List Entry) (sts new : List Station) (event : Event)
    (x : Effect) (place : ℕ) (s : SetupServer) (st : Station) → HasApart setup
    → AreStations setup.servers log sts
    → slice_get setup.servers place ≡ Some s → slice_get sts place ≡ Some st → IsStepOf s.addr x.step
    → IsStepAt s place st x.step sts new → ((a : Addr) → restart_by a event.kind ≡ None)
    → AreStations setup.servers (log ++ entry_of event x ∷ []) new
stations_stepped setup log sts new event x place s st apart are at bt of is still =
    subst (AreStations setup.servers (log ++ entry_of event x ∷ [])) (sym is.is)
    (stations_set setup log sts (entry_of event x) place s st is.after apart are at bt of (λ a far. still a)
    (is.now ∙ ap (λ (o : Option (List ℕ × ℕ)). stepped x.step (restarted o (now_of s st)))
    (sym (still s.addr))) is.well)

-- the stations of a farm are well
pub are_well : (servers : List SetupServer) (log : List Entry) (sts : List Station)
    → AreStations servers log sts → AreWell servers sts
are_well servers log sts are = λ i s st at bt. (are.each i s st at bt).well

-- a station is the server at its place
pub station_now : (setup : Setup) (log : List Entry) (sts : List Station) (addr : Addr) (place : ℕ)
    (st : Station) (f : IsFound setup addr place) → AreStations setup.servers log sts
    → slice_get sts place ≡ Some st
    → server_now setup log addr ≡ Some (now_of f.server st)
station_now setup log sts addr place st f are bt =
    ap (λ (o : Option SetupServer). option_map (λ s. server_of s log) o) f.found
    ∙ ap (λ (n : ServerNow). Some n) (sym (are.each place f.server st f.there bt).now)

-- ---- stations that are opened one by one

tail_are : (log : List Entry) (s : SetupServer) (servers : List SetupServer) (st : Station)
    (sts : List Station) → AreStations (s ∷ servers) log (st ∷ sts) → AreStations servers log sts
tail_are log s servers st sts are = record {
  size = omega (arith, are.size);
  each = λ i t u at bt.
      are.each (suc i) t u at bt;
}

cons_are : (log : List Entry) (s : SetupServer) (servers : List SetupServer) (st : Station)
    (sts : List Station) → IsStation s log st → AreStations servers log sts → AreStations (s ∷ servers) log
    (st ∷ sts)
cons_are log s servers st sts is are = record { size = omega (arith, are.size); each = at }
  where
    at : (i : ℕ) (t : SetupServer) (u : Station) → slice_get (s ∷ servers) i ≡ Some t
        → slice_get (st ∷ sts) i ≡ Some u → IsStation t log u
    at zero t u bt dt = subst (λ (v : Station). IsStation t log v) (same_Some st u dt)
        (subst (λ (x : SetupServer). IsStation x log st) (same_Some s t bt) is)
    at (suc i) t u bt dt = are.each i t u bt dt

pub stations_none : (log : List Entry) → AreStations [] log []
stations_none log = record { size = refl; each = λ i t u bt dt. absurd cc }

pub stations_push : (log : List Entry) (servers : List SetupServer) (sts : List Station) (s : SetupServer)
    (st : Station) → AreStations servers log sts → IsStation s log st → AreStations (servers ++ s ∷ []) log
    (sts ++ st ∷ [])
stations_push log [] [] s st are is = cons_are log s [] st [] is (stations_none log)
stations_push log [] (u ∷ us) s st are is = absurd (omega (arith, are.size))
stations_push log (t ∷ ts) [] s st are is = absurd (omega (arith, are.size))
stations_push log (t ∷ ts) (u ∷ us) s st are is =
    cons_are log t (ts ++ s ∷ []) u (us ++ st ∷ []) (are.each zero t u refl refl)
    (stations_push log ts us s st (tail_are log t ts u us are) is)

-- ---- a restart

pub there_is : {X : Type 0} (xs : List X) (i : ℕ) → i < length xs → (x : X) × (slice_get xs i ≡ Some x)
there_is [] i h = absurd (omega arith)
there_is (x ∷ xs) zero h = (x, refl)
there_is (x ∷ xs) (suc i) h = there_is xs i (omega (arith, h))

-- the station at a place of the setup
pub station_there : (servers : List SetupServer) (log : List Entry) (sts : List Station) (place : ℕ)
    (s : SetupServer) → AreStations servers log sts → slice_get servers place ≡ Some s → (st : Station)
    × (slice_get sts place ≡ Some st)
station_there servers log sts place s are at =
    there_is sts place (omega (arith, are.size, within servers place s at))

-- an event that restarts a server which is not of the farm, and does nothing
pub stations_gone : (setup : Setup) (log : List Entry) (sts : List Station) (e : Entry) (addr : Addr)
    (key : List ℕ) (nonce : ℕ) → AreStations setup.servers log sts
    → position (λ (s : SetupServer). same_addr s.addr addr) setup.servers ≡ None
    → e.event.kind ≡ Restart addr key nonce → e.step ≡ None → AreStations setup.servers (log ++ e ∷ []) sts
stations_gone setup log sts e addr key nonce are none kind silent = record {
  size = are.size;
  each = λ i s st at bt.
      let is = are.each i s st at bt in
      let off = lacks_from (λ (x : SetupServer). same_addr x.addr addr) zero setup.servers
      (sym (position_from-zero (λ (x : SetupServer). same_addr x.addr addr) setup.servers) ∙ none) i s at
      in
      let far : same_addr addr s.addr ≡ false = not_same addr s.addr
      (λ same. true_false (same_addr s.addr addr) (ap (λ (a : Addr). same_addr s.addr a) same
      ∙ same_self s.addr) off) in
      let still : restart_by s.addr e.event.kind ≡ None = ap (restart_by s.addr) kind
      ∙ ap (λ (b : Bool). cond b (Some (key, nonce)) None) far in
      record { now = is.now ∙ sym (same_server s log e still silent); well = is.well };
}

-- the server at its place starts again
pub stations_restarted : (setup : Setup) (log : List Entry) (sts : List Station) (e : Entry) (addr : Addr)
    (key : List ℕ) (nonce : ℕ) (place : ℕ) (st after : Station) (f : IsFound setup addr place)
    → HasApart setup → AreStations setup.servers log sts
    → slice_get sts place ≡ Some st → e.event.kind ≡ Restart addr key nonce → IsStepOf f.server.addr e.step
    → now_of f.server after ≡ stepped e.step (restarted (Some (key, nonce)) (now_of f.server st))
    → IsWell f.server after
    → AreStations setup.servers (log ++ e ∷ []) (set sts place after)
stations_restarted setup log sts e addr key nonce place st after f apart are bt kind of now well =
    let own : restart_by f.server.addr e.event.kind ≡ Some (key, nonce) =
    ap (restart_by f.server.addr) kind ∙ ap (λ (a : Addr). cond (same_addr addr a) (Some (key, nonce)) None)
    f.at ∙ ap (λ (b : Bool). cond b (Some (key, nonce)) None) (same_self addr) in
    stations_set setup log sts e place f.server st after apart are f.there bt of
    (λ a far. ap (restart_by a) kind ∙ ap (λ (b : Bool). cond b (Some (key, nonce)) None)
    (not_same addr a (λ same. far (sym same ∙ sym f.at))))
    (now ∙ ap (λ (o : Option (List ℕ × ℕ)). stepped e.step (restarted o (now_of f.server st))) (sym own)) well

-- the station that is looked up at a place is the server there
pub station_look : (servers : List SetupServer) (log : List Entry) (sts : List Station) (place : ℕ)
    (o : Option (Bor Station)) → AreStations servers log sts → IsItemAt sts place o
    → MatchOption o (length servers ≤ place) (λ st. (s : SetupServer) → slice_get servers place ≡ Some s
    → now_of s st.now ≡ server_of s log)
station_look servers log sts place None are h = omega (arith, are.size, h.3)
station_look servers log sts place (Some b) are h = λ s at.
    (are.each place s b.now at (slice_get_read sts (length sts) place b.now refl h.3.0 h.1)).now
