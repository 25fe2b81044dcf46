-- No id is run twice behind an accepted start.
use Rattle.std.proofs.Common.{◌≡◌, inl, inr, ℕ, suc, ◌<◌, ◌^◌, List, [], ◌∷◌, ◌++◌, take, Option, Some, None}
use Rattle.std.proofs.Common.{refl, ap, ◌∙◌, sym, subst, append-nil, append_assoc, arith}
use Rattle.std.specs.Prelude.{slice_get, option_to_list}
use Rattle.std.proofs.lemmas.Bool.{cases_lt}
use Rattle.std.proofs.lemmas.Option.{same_Some}
use Rattle.dist_types.specs.declared.addr.Addr.{Addr}
use Rattle.dist_types.specs.declared.ids.JobId.{JobId}
use Rattle.dist_types.specs.declared.results.JobState.TheVariants.{Started}
use Rattle.core_rules.specs.Laws.{IsRule, IsLegal, IsLegalBehind}
use Rattle.core_rules.specs.declared.entry.CoreEntry.{CoreEntry}
use Rattle.core_rules.specs.declared.entry.CoreKind.TheVariants as core
use Rattle.core_rules.specs.declared.entry.UpdateAnswer.TheVariants.{Accepted}
use Rattle.core_rules.specs.declared.start.Start.{Start}
use Rattle.core_rules.proofs.AllLemmas.{same_job-refl}
use Rattle.core_rules.proofs.LegalLemmas as rules
use Rattle.farm_script.specs.declared.event.Event.{Event}
use Rattle.farm_script.specs.declared.event.EventKind.TheVariants.{Deliver}
use Rattle.farm_entries.specs.declared.site.Site.{Site as Setup}
use Rattle.farm_entries.specs.declared.entry.Effect.{Effect}
use Rattle.farm_entries.specs.declared.entry.Entry.{Entry}
use Rattle.farm_entries.specs.declared.entry.EntryWord.TheVariants.{Void}
use Rattle.farm_entries.specs.Builds.{SettlesCall, RunsStarted, AreRanOnce}
use Rattle.farm_entries.specs.Calls.{delivered_by, delivery_at, waiting_at}
use Rattle.farm_entries.specs.Effects.{word_effect, entry_of}
use Rattle.farm_entries.specs.Next.{IsSettled, IsMade, EachNext}
use Rattle.farm_entries.specs.Seen.{ids_start, core_log, core_of}
use Rattle.farm_entries.specs.Ways.{Way, return_way, way_of}
use Rattle.farm_entries.specs.Weather.{Weather, free}
use Rattle.farm_laws.proofs.BuildLemmas.{core_among, delivered}
use Rattle.farm_laws.proofs.FreeLemmas.{each_free}
use Rattle.farm_laws.proofs.NextLemmas.{runs_lawful}
use Rattle.farm_laws.proofs.RepliedLemmas.{settles}
use Rattle.farm_laws.proofs.RunLemmas.{core_log-push}
use Rattle.farm_laws.proofs.SettleLemmas.{get_front, next_at, each_front, settled_once}
use Rattle.farm_laws.proofs.StartedLemmas.{starts_by, once}
use Rattle.farm_laws.proofs.TakenLemmas.{take_some}

-- the last entry of a legal log is the rule's over those before it
legal_last : (start : Start) (front log : List CoreEntry) (e : CoreEntry)
    → IsLegalBehind start front (log ++ e ∷ []) → IsRule (rules.core_of start (front ++ log)) e
legal_last start front [] e legal =
    subst (λ (l : List CoreEntry). IsRule (rules.core_of start l) e) (sym (append-nil front)) legal.0
legal_last start front (x ∷ xs) e legal =
    subst (λ (l : List CoreEntry). IsRule (rules.core_of start l) e) (append_assoc front (x ∷ []) xs)
    (legal_last start (front ++ x ∷ []) xs e legal.1)

-- the core entry that accepts that the job of that server is started
abbrev start_by : Addr → ℕ → JobId → CoreEntry
start_by server at job = record { now = at; kind = core.Update server job Started Accepted }

module _ (setup : Setup) (events : List Event) (entries : List Entry)
    (each : EachNext free setup [] events entries) where
  -- what a run behind an accepted start settles: the call that its delivery delivered
  record Settles (k d : ℕ) : Type 0 where
    number : ℕ
    settles_call : SettlesCall entries number k
    entry : Entry
    there : slice_get entries d ≡ Some entry
    delivers : entry.event.kind ≡ Deliver number

  module _ (k : ℕ) (job : JobId) (q : RunsStarted entries k job) (x : Effect)
      (is : q.entry ≡ entry_of q.entry.event x) where
    no_step : x ≡ word_effect Void → Settles k q.delivery
    no_step void =
        let no : None ≡ Some q.step = sym (ap (λ (z : Effect). z.step) void)
        ∙ sym (ap (λ (y : Entry). y.step) is) ∙ q.steps in
        absurd cc

    by_wait : (n : ℕ) (bytes : List ℕ) → delivery_at (take k entries) q.delivery ≡ Some (n, bytes)
        → (o : Option Entry) → IsSettled free setup (take k entries) q.entry.event.at n (Some bytes) o x
        → Settles k q.delivery
    by_wait n bytes same None h = no_step h
    by_wait n bytes same (Some w) h =
        let v = delivered (take k entries) q.delivery n bytes same in
        record {
          number = n;
          settles_call = settles setup events entries each n k q.entry q.there x is (Some bytes) h.0
              (ap (way_of setup (take k entries)) q.returns ∙ ap return_way same) h.1 h.2;
          entry = v.entry;
          there = (get_front entries q.delivery k v.entry v.there).1;
          delivers = v.delivers;
        }

    by_delivery : (o : Option (ℕ × List ℕ)) → delivery_at (take k entries) q.delivery ≡ o
        → IsMade free setup (take k entries) q.entry.event.at (return_way o) x → Settles k q.delivery
    by_delivery None same made = no_step made
    by_delivery (Some (n, bytes)) same made = by_wait n bytes same (waiting_at (take k entries) n) made

  run_settles : (k : ℕ) (job : JobId) (q : RunsStarted entries k job) → Settles k q.delivery
  run_settles k job q =
      let (x, made, is) = next_at free setup [] events entries k q.entry each q.there in
      by_delivery k job q x is (delivery_at (take k entries) q.delivery) refl
      (subst (λ (way : Way). IsMade free setup (take k entries) q.entry.event.at way x)
      (ap (way_of setup (take k entries)) q.returns) made)

  module _ (fits : setup.scheduler.count < 2 ^ 64) where
    legal : (n : ℕ) → IsLegal (ids_start setup) (core_log (take n entries))
    legal n = (runs_lawful setup events entries fits each n).legal

    rule_at : (d : ℕ) (e : Entry) (made : CoreEntry) → slice_get entries d ≡ Some e → e.core ≡ Some made
        → IsRule (core_of setup (take d entries)) made
    rule_at d e made there is =
        let log : core_log (take (suc d) entries) ≡ core_log (take d entries) ++ made ∷ [] =
        ap core_log (take_some entries d e there) ∙ core_log-push (take d entries) e
        ∙ ap (λ (o : Option CoreEntry). core_log (take d entries) ++ option_to_list o) is in
        legal_last (ids_start setup) [] (core_log (take d entries)) made
        (subst (IsLegal (ids_start setup)) log (legal (suc d)))

    -- two accepted starts of one job are one
    no_two : (c d : ℕ) (x y : Entry) (s t : Addr) (m n : ℕ) (job : JobId) → slice_get entries c ≡ Some x
        → slice_get entries d ≡ Some y → x.core ≡ Some (start_by s m job)
        → y.core ≡ Some (start_by t n job) → c < d → ⊥
    no_two c d x y s t m n job at bt first second less =
        once (ids_start setup) (core_log (take d entries)) (start_by t n job) job fits (legal d)
        (rule_at d y (start_by t n job) bt second) (same_job-refl job)
        (core_among (λ (k : CoreEntry). starts_by k.kind job) entries c d x (start_by s m job) less at first
        (same_job-refl job))

    one_start : (j k : ℕ) (job : JobId) (a : RunsStarted entries j job) (b : RunsStarted entries k job)
        → a.delivery ≡ b.delivery
    one_start j k job a b = elim (cases_lt a.delivery b.delivery) [
      | inl less ↦ absurd (no_two a.delivery b.delivery a.start b.start a.server b.server a.at b.at job
          a.delivered b.delivered a.accepts b.accepts less)
      | inr at_most ↦ elim (cases_lt b.delivery a.delivery) [
        | inl more ↦ absurd (no_two b.delivery a.delivery b.start a.start b.server a.server b.at a.at job
            b.delivered a.delivered b.accepts a.accepts more)
        | inr least ↦ omega (arith, at_most, least)
      ]
    ]

    ran_once : AreRanOnce entries
    ran_once = λ j k job a b.
        let f = run_settles j job a in
        let g = run_settles k job b in
        let same : f.entry ≡ g.entry = same_Some f.entry g.entry
        (sym f.there ∙ ap (slice_get entries) (one_start j k job a b) ∙ g.there) in
        let delivers : Deliver f.number ≡ Deliver g.number = sym f.delivers
        ∙ ap (λ (y : Entry). y.event.kind) same ∙ g.delivers in
        let one : f.number ≡ g.number = same_Some f.number g.number (ap delivered_by delivers) in
        settled_once free setup events entries each g.number j k
        (subst (λ (n : ℕ). SettlesCall entries n j) one f.settles_call) g.settles_call

-- at every prefix of a run no id is run twice behind an accepted start
pub never_ran_twice : (w : Weather) (setup : Setup) (events : List Event) (entries : List Entry)
    → setup.scheduler.count < 2 ^ 64 → EachNext w setup [] events entries
    → (n : ℕ) → AreRanOnce (take n entries)
never_ran_twice w setup events entries fits each n =
    ran_once setup (take n events) (take n entries)
    (each_front free setup [] events entries n (each_free w setup [] events entries each)) fits
