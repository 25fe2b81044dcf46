-- Each build of a run is its job's first, behind its accepted start.
use Rattle.std.proofs.Common.{◌≡◌, ℕ, zero, suc, ◌<◌, Bool, true, ◌||◌, List, [], ◌∷◌, ◌++◌, length}
use Rattle.std.proofs.Common.{Option, Some, None, refl, sym, ap, subst, ◌∙◌, append_assoc, inl, inr, arith}
use Rattle.std.specs.Prelude.{slice_get, option_to_list}
use Rattle.std.specs.List.{filter_map, list_any, cons_option}
use Rattle.std.proofs.lemmas.Bool.{cases_Bool}
use Rattle.std.proofs.lemmas.Option.{same_Some, slice_get_within}
use Rattle.std.proofs.lemmas.List.Elements.{filter_map-append}
use Rattle.dist_types.specs.declared.ids.JobId.{JobId}
use Rattle.core_rules.specs.Log.{same_job, names_job}
use Rattle.core_rules.specs.Reservation.{claims_by}
use Rattle.core_rules.specs.declared.entry.CoreEntry.{CoreEntry}
use Rattle.core_rules.proofs.AllLemmas.{or_true, is_false, same_job-refl, same_job-eq}
use Rattle.build_server.specs.declared.run.Ran.{Ran}
use Rattle.build_server.specs.declared.run.Ran.TheVariants as ran
use Rattle.farm_entries.specs.declared.site.Site.{Site}
use Rattle.farm_entries.specs.declared.entry.Entry.{Entry}
use Rattle.farm_entries.specs.declared.entry.Step.{Step}
use Rattle.farm_entries.specs.declared.entry.StepKind.{StepKind}
use Rattle.farm_entries.specs.declared.entry.StepKind.TheVariants as step
use Rattle.farm_entries.specs.Builds.{build_by, IsBuild, AreBuiltOnce, AreStarted}
use Rattle.farm_entries.specs.Seen.{core_log}
use Rattle.farm_laws.proofs.CallLemmas.{get_left}
use Rattle.farm_laws.proofs.RunLemmas.{core_log-push}
use Rattle.audit.specs.Reading.{built_in}
use Rattle.audit.specs.Replay.{is_begun}
use Rattle.farm_audit.proofs.History.{built_of, IsFirstBuild, AreFirstBuilds}

-- the jobs that entries built
abbrev pub builds_of : List Entry → List JobId
builds_of es = filter_map (λ e. built_of e.step) es

-- ---- a build is told so in both words

same_run : (job : JobId) (went : Ran) (result : _) → built_in (step.Ran job went result) ≡ build_by
    (step.Ran job went result)
same_run job ran.None result = refl
same_run job (ran.Unlisted tc) result = refl
same_run job (ran.Folder tc) result = refl
same_run job (ran.Built tc) result = refl
same_run job (ran.Refused tc) result = refl

same_build : (k : StepKind) → built_in k ≡ build_by k
same_build (step.Heard as_what) = refl
same_build (step.Assigned job tc ready) = refl
same_build (step.Submitted job outcome) = refl
same_build (step.Ran job went result) = same_run job went result
same_build (step.Finished job) = refl
same_build (step.Unreported job) = refl
same_build (step.Opened archives) = refl

-- the step of an entry that built
step_of : (o : Option Step) (job : JobId) → built_of o ≡ Some job → (s : Step) × (o ≡ Some s)
    × (build_by s.kind ≡ Some job)
step_of None job is = absurd cc
step_of (Some s) job is = (s, refl, sym (same_build s.kind) ∙ is)

-- ---- what stands in a list

at_place : {X : Type 0} (xs : List X) (x : X) (ys : List X) → slice_get (xs ++ x ∷ ys) (length xs) ≡ Some x
at_place [] x ys = refl
at_place (z ∷ xs) x ys = at_place xs x ys

any_left : {X : Type 0} (p : X → Bool) (xs ys : List X) → list_any p xs ≡ true → list_any p (xs ++ ys) ≡ true
any_left p [] ys is = absurd cc
any_left p (x ∷ xs) ys is = elim (cases_Bool (p x)) [
  | inl on ↦ ap (λ (b : Bool). b || list_any p (xs ++ ys)) on
  | inr off ↦ or_true (p x) (list_any p (xs ++ ys))
      (any_left p xs ys (sym (ap (λ (b : Bool). b || list_any p xs) off) ∙ is))
]

-- ---- a start that was accepted

begun_more : (o : Option CoreEntry) (log : List CoreEntry) (job : JobId) → is_begun log job ≡ true
    → is_begun (cons_option o log) job ≡ true
begun_more None log job is = is
begun_more (Some e) log job is = or_true (claims_by e.kind job) (is_begun log job) is

begun_here : (o : Option CoreEntry) (log : List CoreEntry) (job : JobId) (c : CoreEntry) → o ≡ Some c
    → claims_by c.kind job ≡ true → is_begun (cons_option o log) job ≡ true
begun_here o log job c is claims =
    ap (λ (x : Option CoreEntry). is_begun (cons_option x log) job) is
    ∙ ap (λ (b : Bool). b || is_begun log job) claims

-- an entry whose core entry accepts it
begun_in : (es : List Entry) (d : ℕ) (e : Entry) (c : CoreEntry) (job : JobId) → slice_get es d ≡ Some e
    → e.core ≡ Some c → claims_by c.kind job ≡ true → is_begun (core_log es) job ≡ true
begun_in [] d e c job there core claims = absurd cc
begun_in (x ∷ xs) zero e c job there core claims =
    begun_here x.core (core_log xs) job c (ap (λ (y : Entry). y.core) (same_Some x e there) ∙ core) claims
begun_in (x ∷ xs) (suc d) e c job there core claims =
    begun_more x.core (core_log xs) job (begun_in xs d e c job there core claims)

-- ---- a job that was built

-- the entry that built it
pub record BuiltAt (es : List Entry) (job : JobId) : Type 0 where
  pub place : ℕ
  pub entry : Entry
  pub there : slice_get es place ≡ Some entry
  pub built : built_of entry.step ≡ Some job

one_more : (x : Entry) (xs : List Entry) (job : JobId) → BuiltAt xs job → BuiltAt (x ∷ xs) job
one_more x xs job at = record { place = suc at.place; entry = at.entry; there = at.there; built = at.built }

built_at : (es : List Entry) (job : JobId) → names_job (builds_of es) job ≡ true → BuiltAt es job
built_at [] job is = absurd cc
built_at (x ∷ xs) job is = by_first (built_of x.step) refl is (built_at xs job)
  where
    by_first : (o : Option JobId) → built_of x.step ≡ o → names_job (cons_option o (builds_of xs)) job ≡ true
        → (names_job (builds_of xs) job ≡ true → BuiltAt xs job) → BuiltAt (x ∷ xs) job
    by_first None e named later = one_more x xs job (later named)
    by_first (Some j) e named later = elim (cases_Bool (same_job j job)) [
      | inl on ↦ record {
        place = 0;
        entry = x;
        there = refl;
        built = e ∙ ap (λ (k : JobId). Some k) (same_job-eq j job on);
      }
      | inr off ↦ one_more x xs job
          (later (sym (ap (λ (b : Bool). b || names_job (builds_of xs) job) off) ∙ named))
    ]

-- ---- each build

builds_push : (done : List Entry) (e : Entry)
    → builds_of (done ++ e ∷ []) ≡ builds_of done ++ option_to_list (built_of e.step)
builds_push done e = filter_map-append (λ d. built_of d.step) done (e ∷ [])
    ∙ ap (λ js. builds_of done ++ js) (one (built_of e.step))
  where
    one : (o : Option JobId) → cons_option o [] ≡ option_to_list o
    one None = refl
    one (Some j) = refl

first_build : (setup : Site) (done es : List Entry) (e : Entry) → AreStarted setup (done ++ e ∷ es)
    → AreBuiltOnce (done ++ e ∷ es) → (o : Option JobId) → built_of e.step ≡ o
    → IsFirstBuild (core_log done ++ option_to_list e.core) (builds_of done) o
first_build setup done es e started once None is = tt
first_build setup done es e started once (Some job) is =
    let s = step_of e.step job is in
    let here : slice_get (done ++ e ∷ es) (length done) ≡ Some e = at_place done e es in
    let build : IsBuild e s.0.server job = record { step = s.0; there = s.1; at = refl; builds = s.2 } in
    let st = started (length done) e s.0.server job here build in
    let d = st.starts in
    let there : slice_get done st.delivery ≡ Some d.entry =
    sym (get_left done (e ∷ es) st.delivery st.in_order.1) ∙ d.there in
    let begun : is_begun (core_log done) job ≡ true =
    begun_in done st.delivery d.entry _ job there d.accepts (same_job-refl job) in (
      any_left (λ (c : CoreEntry). claims_by c.kind job) (core_log done) (option_to_list e.core) begun,
      is_false (names_job (builds_of done) job) (λ named.
          let b = built_at done job named in
          let t = step_of b.entry.step job b.built in
          let within : b.place < length done = slice_get_within done b.place b.entry b.there in
          let at : slice_get (done ++ e ∷ es) b.place ≡ Some b.entry =
          get_left done (e ∷ es) b.place within ∙ b.there in
          let other : IsBuild b.entry t.0.server job =
          record { step = t.0; there = t.1; at = refl; builds = t.2 } in
          let one = once b.place (length done) b.entry e t.0.server s.0.server job at here other build in
          omega (arith, one, within)),
    )

builds_behind : (setup : Site) (done es : List Entry) → AreStarted setup (done ++ es) → AreBuiltOnce (done ++ es)
    → AreFirstBuilds (core_log done) (builds_of done) es
builds_behind setup done [] started once = tt
builds_behind setup done (e ∷ es) started once =
    let same : done ++ e ∷ es ≡ (done ++ e ∷ []) ++ es = sym (append_assoc done (e ∷ []) es) in
    let rest = builds_behind setup (done ++ e ∷ []) es (subst (AreStarted setup) same started)
    (subst AreBuiltOnce same once) in (
      first_build setup done es e started once (built_of e.step) refl,
      subst (λ (js : List JobId). AreFirstBuilds (core_log done ++ option_to_list e.core) js es)
          (builds_push done e)
          (subst (λ (log : List CoreEntry). AreFirstBuilds log (builds_of (done ++ e ∷ [])) es)
          (core_log-push done e) rest),
    )

pub first_builds : (setup : Site) (es : List Entry) → AreStarted setup es → AreBuiltOnce es
    → AreFirstBuilds [] [] es
first_builds setup es started once = builds_behind setup [] es started once
