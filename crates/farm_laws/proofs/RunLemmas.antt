-- One more entry, and one more event.
use Rattle.std.proofs.Common.{◌≡◌, List, [], ◌∷◌, ◌++◌, map, Option, Some, None, refl, ap, ◌∙◌, sym, subst}
use Rattle.std.proofs.Common.{append_assoc, append-nil}
use Rattle.std.specs.Prelude.{option_to_list}
use Rattle.std.specs.List.{cons_option}
use Rattle.std.proofs.lemmas.List.Elements.{filter_map-append}
use Rattle.core_rules.specs.declared.start.Start.{Start}
use Rattle.core_rules.specs.declared.entry.CoreEntry.{CoreEntry}
use Rattle.farm_script.specs.declared.event.Event.{Event}
use Rattle.farm_entries.specs.declared.entry.Entry.{Entry}
use Rattle.farm_entries.specs.declared.site.Site.{Site as Setup}
use Rattle.farm_entries.specs.Seen.{with_core}
use Rattle.farm_entries.specs.Next.{IsNext, EachNext, IsRun}
use Rattle.farm_entries.specs.Seen.{ids_start, core_log, core_of}
use Rattle.farm_entries.specs.Weather.{Weather}

one_core : {X : Type 0} (o : Option X) → cons_option o [] ≡ option_to_list o
one_core None = refl
one_core (Some x) = refl

pub core_log-push : (log : List Entry) (e : Entry)
    → core_log (log ++ e ∷ []) ≡ core_log log ++ option_to_list e.core
core_log-push log e = filter_map-append (λ d. d.core) log (e ∷ []) ∙ ap (λ cs. core_log log ++ cs)
    (one_core e.core)

with_option : (start : Start) (log : List CoreEntry) (o : Option CoreEntry)
    → with_core (record { start = start; log = log }) o ≡ record {
      start = start;
      log = log ++ option_to_list o;
    }
with_option start log None = ap (λ (l : List CoreEntry). record { start = start; log = l })
    (sym (append-nil log))
with_option start log (Some e) = refl

-- the scheduler with an entry's core entry is that of the log with the entry
pub core_of-push : (setup : Setup) (log : List Entry) (e : Entry)
    → with_core (core_of setup log) e.core ≡ core_of setup (log ++ e ∷ [])
core_of-push setup log e =
    with_option (ids_start setup) (core_log log) e.core
    ∙ ap (λ (l : List CoreEntry). record {
      start = ids_start setup;
      log = l;
    }) (sym (core_log-push log e))

pub EachNext-push : (w : Weather) (setup : Setup) (log : List Entry) (events : List Event)
    (entries : List Entry)
    (event : Event) (e : Entry)
    → EachNext w setup log events entries → IsNext w setup (log ++ entries) event e
    → EachNext w setup log (events ++ event ∷ []) (entries ++ e ∷ [])
EachNext-push w setup log [] [] event e each is =
    (subst (λ (l : List Entry). IsNext w setup l event e) (append-nil log) is, tt)
EachNext-push w setup log (v ∷ vs) (x ∷ xs) event e each is = (
  each.0,
  EachNext-push w setup (log ++ x ∷ []) vs xs event e each.1
      (subst (λ (l : List Entry). IsNext w setup l event e) (sym (append_assoc log (x ∷ []) xs)) is),
)
EachNext-push w setup log [] (x ∷ xs) event e each is = absurd each
EachNext-push w setup log (v ∷ vs) [] event e each is = absurd each

mapped_push : (log : List Entry) (e : Entry) → map (λ (d : Entry). d.event) (log ++ e ∷ []) ≡ map
    (λ (d : Entry). d.event) log ++ e.event ∷ []
mapped_push [] e = refl
mapped_push (x ∷ xs) e = ap (λ (vs : List Event). x.event ∷ vs) (mapped_push xs e)

-- a run from none with one more entry, which is next
pub IsRun-push : (w : Weather) (setup : Setup) (log : List Entry) (e : Entry) → IsRun w setup log
    → IsNext w setup log e.event e → IsRun w setup (log ++ e ∷ [])
IsRun-push w setup log e run is =
    subst (λ (vs : List Event). EachNext w setup [] vs (log ++ e ∷ [])) (sym (mapped_push log e))
    (EachNext-push w setup [] (map (λ (d : Entry). d.event) log) log e.event e run is)
