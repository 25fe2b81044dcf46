-- What a run comes to, and what it leaves of its server.
use Rattle.std.proofs.Common.{◌≡◌, ℕ, Bool, false, cond, List, Option, Some, None, Result, Ok, Err}
use Rattle.std.proofs.Common.{codes, refl, sym, ap, subst, ◌∙◌}
use Rattle.std.specs.Prelude.{if◌then◌else◌, slice_get}
use Rattle.std.proofs.lemmas.Bool.{true≢false}
use Rattle.dist_types.specs.Cause.{counted}
use Rattle.dist_types.specs.declared.builder.BuildFault.{BuildFault}
use Rattle.dist_types.specs.declared.builder.BuildFault.TheVariants as build
use Rattle.dist_types.specs.declared.fault.Memory as want
use Rattle.dist_types.specs.declared.ids.JobId.{JobId}
use Rattle.dist_types.specs.declared.results.BuildResult.{BuildResult}
use Rattle.dist_wire.specs.declared.run.RunJobHttpRequest.{RunJobHttpRequest}
use Rattle.toolchain_cache.specs.Archives.{Archives}
use Rattle.build_server.specs.Books.{Books, Table, held_for, is_listed}
use Rattle.build_server.specs.Builds.{Builder, Order, Builds, outcome_of, outcome_by, is_due, ran_of, built_of}
use Rattle.build_server.specs.Rules.{IsTaken, Finds, archives_after_taking}
use Rattle.build_server.specs.declared.run.Outcome.{Outcome}
use Rattle.build_server.specs.declared.run.Outcome.TheVariants as outcome
use Rattle.build_server.specs.declared.run.Taken.{Taken}
use Rattle.build_server.specs.declared.run.Taken.TheVariants as taken
use Rattle.farm_script.proofs.PlaceLemmas.{same_self}
use Rattle.farm_entries.specs.declared.entry.StepKind.TheVariants as step
use Rattle.farm_entries.specs.declared.site.SiteServer.{SiteServer as SetupServer}
use Rattle.farm_entries.specs.Served.{build_answer, built, run_outcome}
use Rattle.farm_entries.specs.Servers.{ServerNow, archives_after_run, builds_after_run, kind_after, stepped}
use Rattle.farm_entries.specs.Weather.{failed_after_run, order_of, IsOrdered, weather_by, weather_of, Works}
use Rattle.farm_stations.specs.Post.{Post as Station, outside_of}
use Rattle.farm_stations.specs.Stations.{now_of, BuildsBy}

-- ---- outcomes

done_is : (x y : Outcome) → ◌≡◌ {A = Result Outcome (Taken × want.Memory)} (Ok x) (Ok y) → y ≡ x
done_is x y e = cc

-- what a run that was read came to is what its builder answered
read_is : (tc archive : List ℕ) (heard : Result BuildResult BuildFault) (o : Outcome)
    → outcome_of tc archive heard ≡ Ok o → o ≡ built tc heard
read_is tc archive (Ok b) o e = done_is (outcome.Built tc b) o e
read_is tc archive (Err build.Refused) o e = done_is (outcome.Refused tc) o e
read_is tc archive (Err build.Memory) o e = absurd cc

heard_in : (t : Taken) (order : Order) (old new : Builder) (o : Outcome) → Builds t order old new (Ok o)
    → (heard : Result BuildResult BuildFault) × (outcome_by t heard ≡ Ok o)
heard_in taken.None order old new o is = (Err build.Refused, sym is.1)
heard_in (taken.Unlisted tc) order old new o is = (Err build.Refused, sym is.1)
heard_in (taken.Folder tc) order old new o is = (Err build.Refused, sym is.1)
heard_in (taken.Read tc archive) order old new o is = (is.heard, sym is.gives)

heard_by : (s : SetupServer) (n : ℕ) (old new : Option Builder) (t : Taken) (run : RunJobHttpRequest)
    (inputs : List ℕ) (o : Outcome) → BuildsBy s n old new t run inputs o
    → (heard : Result BuildResult BuildFault) × (outcome_by t heard ≡ Ok o)
heard_by s n None new t run inputs o is = (build_answer (slice_get s.builder n) run.outputs inputs, is.1)
heard_by s n (Some b) None t run inputs o is = absurd is
heard_by s n (Some b) (Some c) t run inputs o is = heard_in t (order_of run inputs) b c o is

-- the archives, and the number of builds, behind a run that came to this
abbrev Leaves : Taken → Archives → ℕ → Outcome → Type 0
Leaves t archives n o = (archives_after_taking t archives ≡ archives_after_run (ran_of o) archives)
    × (cond (is_due t) (counted n) n ≡ builds_after_run (ran_of o) n)

leaves_read : (tc archive : List ℕ) (heard : Result BuildResult BuildFault) (o : Outcome) (archives : Archives)
    (n : ℕ) → outcome_of tc archive heard ≡ Ok o → Leaves (taken.Read tc archive) archives n o
leaves_read tc archive (Ok b) o archives n e =
    subst (Leaves (taken.Read tc archive) archives n) (sym (done_is (outcome.Built tc b) o e)) (refl, refl)
leaves_read tc archive (Err build.Refused) o archives n e =
    subst (Leaves (taken.Read tc archive) archives n) (sym (done_is (outcome.Refused tc) o e)) (refl, refl)
leaves_read tc archive (Err build.Memory) o archives n e = absurd cc

leaves_by : (t : Taken) (heard : Result BuildResult BuildFault) (o : Outcome) (archives : Archives) (n : ℕ)
    → outcome_by t heard ≡ Ok o → Leaves t archives n o
leaves_by taken.None heard o archives n e =
    subst (Leaves taken.None archives n) (sym (done_is outcome.None o e)) (refl, refl)
leaves_by (taken.Unlisted tc) heard o archives n e =
    subst (Leaves (taken.Unlisted tc) archives n) (sym (done_is (outcome.Unlisted tc) o e)) (refl, refl)
leaves_by (taken.Folder tc) heard o archives n e =
    subst (Leaves (taken.Folder tc) archives n) (sym (done_is (outcome.Folder tc) o e)) (refl, refl)
leaves_by (taken.Read tc archive) heard o archives n e = leaves_read tc archive heard o archives n e

-- ---- what it leaves of its server

pub ran_on : (s : SetupServer) (old new : Station) (state : Books) (job : JobId) (t : Taken)
    (run : RunJobHttpRequest) (inputs : List ℕ) (o : Outcome) → old.state ≡ state
    → IsTaken job state new.state t → BuildsBy s old.builds old.builder new.builder t run inputs o
    → new.builds ≡ cond (is_due t) (counted old.builds) old.builds → new.life ≡ old.life
    → new.authorizer ≡ old.authorizer → new.nonce ≡ old.nonce → new.running ≡ old.running
    → now_of s new
    ≡ stepped (Some (record { server = s.addr; kind = step.Ran job (ran_of o) (built_of o) })) (now_of s old)
ran_on s old new state job t run inputs o at is builds count life key nonce runs =
    let (heard, gives) = heard_by s old.builds old.builder new.builder t run inputs o builds in
    let leaves = leaves_by t heard o old.state.archives old.builds gives in
    let took : IsTaken job old.state new.state t =
    subst (λ (x : Books). IsTaken job x new.state t) (sym at) is in
    let now : ℕ → List ℕ → ℕ → Bool → Table → Archives → ℕ → ServerNow = λ l k m r h a b. record {
      setup = s;
      life = l;
      key = k;
      nonce = m;
      running = r;
      held = h;
      archives = a;
      builds = b;
    } in
    let after = kind_after (step.Ran job (ran_of o) (built_of o)) (now_of s old) in
    ap (λ (l : ℕ). now l new.authorizer new.nonce new.running new.state.held new.state.archives new.builds) life
    ∙ ap (λ (k : List ℕ). now old.life k new.nonce new.running new.state.held new.state.archives new.builds) key
    ∙ ap (λ (m : ℕ). now old.life old.authorizer m new.running new.state.held new.state.archives new.builds) nonce
    ∙ ap (λ (r : Bool). now old.life old.authorizer old.nonce r new.state.held new.state.archives new.builds) runs
    ∙ ap (λ (h : Table). now old.life old.authorizer old.nonce old.running h new.state.archives new.builds)
    took.held
    ∙ ap (λ (a : Archives). now old.life old.authorizer old.nonce old.running after.held a new.builds)
    (took.archives ∙ leaves.0)
    ∙ ap (λ (b : ℕ). now old.life old.authorizer old.nonce old.running after.held after.archives b)
    (count ∙ leaves.1)
    ∙ ap (λ (b : Bool). if b then after else now_of s old) (sym (same_self s.addr))

-- ---- what it comes to in its weather

unbroken : (o : Outcome) (failed : Bool) → failed_after_run (ran_of o) false ≡ false
    → failed_after_run (ran_of o) failed ≡ failed
unbroken outcome.None failed sound = refl
unbroken (outcome.Unlisted tc) failed sound = refl
unbroken (outcome.Folder tc) failed sound = absurd (true≢false sound)
unbroken (outcome.Built tc b) failed sound = refl
unbroken (outcome.Refused tc) failed sound = refl

calm_run : (s : ServerNow) (found : Option (List ℕ)) (old new : Books) (t : Taken) (outputs : List (List ℕ))
    (inputs : List ℕ) (o : Outcome) → s.archives ≡ old.archives → Finds found old new t
    → outcome_by t (build_answer (slice_get s.setup.builder s.builds) outputs inputs) ≡ Ok o
    → failed_after_run (ran_of o) false ≡ false → o ≡ run_outcome s found outputs inputs
calm_run s None old new taken.None outputs inputs o same is e sound = done_is outcome.None o e
calm_run s None old new (taken.Unlisted tc) outputs inputs o same is e sound = absurd is
calm_run s None old new (taken.Folder tc) outputs inputs o same is e sound = absurd is
calm_run s None old new (taken.Read tc archive) outputs inputs o same is e sound = absurd is
calm_run s (Some held) old new taken.None outputs inputs o same is e sound = absurd is
calm_run s (Some held) old new (taken.Unlisted tc) outputs inputs o same is e sound =
    let answer = build_answer (slice_get s.setup.builder s.builds) outputs inputs in
    done_is (outcome.Unlisted tc) o e ∙ ap (λ (x : List ℕ). outcome.Unlisted x) is.0
    ∙ sym (ap (λ (b : Bool). if b then built held answer else outcome.Unlisted held)
    (ap (is_listed held) same ∙ is.1))
calm_run s (Some held) old new (taken.Folder tc) outputs inputs o same is e sound =
    absurd (true≢false (ap (λ (x : Outcome). failed_after_run (ran_of x) false)
    (sym (done_is (outcome.Folder tc) o e)) ∙ sound))
calm_run s (Some held) old new (taken.Read tc archive) outputs inputs o same is e sound =
    let answer = build_answer (slice_get s.setup.builder s.builds) outputs inputs in
    read_is tc archive answer o e ∙ ap (λ (x : List ℕ). built x answer) is.0
    ∙ sym (ap (λ (b : Bool). if b then built held answer else outcome.Unlisted held)
    (ap (is_listed held) same ∙ is.1))

-- those books over that folder
abbrev over : Books → Books → Books
over x y = record {
  held = x.held;
  archives = x.archives;
  capacity = x.capacity;
  path = x.path;
  folder = y.folder;
}

finds_over : (found : Option (List ℕ)) (x y old new : Books) (t : Taken) → x.archives ≡ old.archives
    → Finds found old new t → Finds found (over x old) (over y new) t
finds_over None x y old new taken.None same is = is
finds_over None x y old new (taken.Unlisted tc) same is = absurd is
finds_over None x y old new (taken.Folder tc) same is = absurd is
finds_over None x y old new (taken.Read tc archive) same is = absurd is
finds_over (Some held) x y old new taken.None same is = absurd is
finds_over (Some held) x y old new (taken.Unlisted tc) same is =
    (is.0, ap (is_listed held) same ∙ is.1, is.2)
finds_over (Some held) x y old new (taken.Folder tc) same is =
    (is.0, ap (is_listed held) same ∙ is.1, is.2)
finds_over (Some held) x y old new (taken.Read tc archive) same is =
    (is.0, ap (is_listed held) same ∙ is.1, is.2, is.3)

pub works_by : (s : SetupServer) (old new : Station) (state : Books) (job : JobId) (t : Taken)
    (run : RunJobHttpRequest) (inputs : List ℕ) (o : Outcome) → old.state ≡ state
    → IsTaken job state new.state t → BuildsBy s old.builds old.builder new.builder t run inputs o
    → new.failed ≡ old.failed → failed_after_run (ran_of o) false ≡ false
    → Works (weather_of (outside_of old) (outside_of new)) (now_of s old) (held_for job old.state.held) run
    inputs o
works_by s old new state job t run inputs o at is builds kept sound = by_builder old.builder refl builds
  where
    took : IsTaken job old.state new.state t
    took = subst (λ (x : Books). IsTaken job x new.state t) (sym at) is

    by_builder : (b : Option Builder) → old.builder ≡ b → BuildsBy s old.builds b new.builder t run inputs o
        → Works (weather_by b (outside_of old) (outside_of new)) (now_of s old) (held_for job old.state.held)
        run inputs o
    by_builder None e goes =
        calm_run (now_of s old) (held_for job old.state.held) old.state new.state t run.outputs inputs o refl
        took.finds goes.1 sound
    by_builder (Some b) e goes = record {
      taken = t;
      finds = finds_over (held_for job old.state.held) (record {
        held = old.state.held;
        archives = old.state.archives;
        capacity = s.capacity;
        path = codes "tc";
        folder = old.state.folder;
      }) (record {
        held = old.state.held;
        archives = old.state.archives;
        capacity = s.capacity;
        path = codes "tc";
        folder = new.state.folder;
      }) old.state new.state t refl took.finds;
      asked = subst (λ (x : Option Builder). IsOrdered x new.builder t (order_of run inputs) o) (sym e) goes;
      failed = kept ∙ sym (unbroken o old.failed sound);
    }
