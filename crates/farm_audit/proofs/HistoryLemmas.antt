-- The marks of a farm's history are good.
use Rattle.std.proofs.Common.{◌≡◌, ℕ, ◌+◌, true, false, List, [], ◌∷◌, ◌++◌}
use Rattle.std.proofs.Common.{length, map, Option, Some, None, refl, sym, ap, subst, ◌∙◌, append_assoc, append-nil}
use Rattle.std.proofs.Common.{arith}
use Rattle.std.specs.Prelude.{option_to_list}
use Rattle.std.specs.List.{cons_option}
use Rattle.std.proofs.lemmas.List.{map-append, length-append, length-map}
use Rattle.dist_types.specs.declared.ids.JobId.{JobId}
use Rattle.core_rules.specs.declared.start.Start.{Start}
use Rattle.core_rules.specs.declared.entry.CoreEntry.{CoreEntry}
use Rattle.core_rules.specs.declared.call.Call.{Call}
use Rattle.core_rules.specs.declared.call.Call.TheVariants as call
use Rattle.core_rules.specs.Log.{Core, logged, names_job}
use Rattle.core_rules.specs.Same.{same_but_key}
use Rattle.core_rules.specs.Laws.{IsRule, IsLegal, IsLegalBehind}
use Rattle.core_rules.specs.Rule.{rule}
use Rattle.audit.specs.Keyless.{keyless, without_key, without_keys, keyless_call}
use Rattle.core_rules.proofs.SameLemmas.{same_as_itself}
use Rattle.audit.proofs.KeylessLemmas.{rule_keyless, call_keyless, begun_keyless}
use Rattle.farm_entries.specs.Printed.{core_count}
use Rattle.farm_entries.specs.Seen.{core_log}
use Rattle.farm_entries.specs.declared.entry.Entry.{Entry}
use Rattle.audit.specs.declared.mark.Mark.{Mark}
use Rattle.audit.specs.declared.mark.Mark.TheVariants as mark
use Rattle.audit.specs.Replay.{Judged, is_begun}
use Rattle.audit.specs.Held.{HasNoKey, IsGoodMark, AllGood}
use Rattle.farm_audit.specs.RunLines.{entry_lines}
use Rattle.farm_audit.proofs.History.{built_of, IsFirstBuild, AreFirstBuilds, HasMoment, HaveMoments}

-- the marks of an entry whose first line has that number, and how many lines it has
abbrev pub core_marks : ℕ → ℕ → ℕ → Option CoreEntry → List Mark
core_marks n at number None = []
core_marks n at number (Some e) = mark.Core n number (record { now = at; kind = keyless e.kind }) ∷ []

abbrev pub build_marks : ℕ → Option JobId → List Mark
build_marks n None = []
build_marks n (Some job) = mark.Built n job ∷ []

-- ---- one entry

-- a scheduler behind core entries, without their keys
abbrev pub behind : Start → List CoreEntry → List JobId → Judged
behind start log built = record { core = without_keys (record { start = start; log = log }); built = built }

no_key : (c : Call) → HasNoKey (keyless_call c)
no_key (call.Reserve now) = tt
no_key (call.Commit now number job state) = tt
no_key (call.Undo now number job) = tt
no_key (call.Beat now server nonce cpus key) = refl
no_key (call.Update now server job state) = tt
no_key (call.Status now) = tt
no_key (call.Drain now server nonce on) = tt

core_good : (start : Start) (log : List CoreEntry) (built : List JobId) (n number at : ℕ) (e : CoreEntry)
    → number ≡ length log → e.now ≡ at → IsRule (record { start = start; log = log }) e
    → IsGoodMark (behind start log built) (mark.Core n number (record { now = at; kind = keyless e.kind }))
    (behind start (log ++ e ∷ []) built)
core_good start log built n number at e is_number moment is =
    let s : Core = record { start = start; log = log } in
    let c = is.0 in
    let made : rule (without_keys s) (keyless_call c) ≡ without_key e = rule_keyless s c ∙ ap without_key (sym is.2) in
    let same : same_but_key (rule (without_keys s) (keyless_call c)) (record { now = at; kind = keyless e.kind }) ≡ true =
    ap (λ x. same_but_key x (record { now = at; kind = keyless e.kind })) made
    ∙ ap (λ m. same_but_key (without_key e) (record { now = m; kind = keyless e.kind })) (sym moment)
    ∙ same_as_itself (without_key e) in
    let log_is : (behind start (log ++ e ∷ []) built).core ≡ logged (without_keys s)
    (rule (without_keys s) (keyless_call c)) =
    ap (λ es. record { start = start; log = es }) (map-append without_key log (e ∷ [])
    ∙ ap (λ x. map without_key log ++ x ∷ []) (sym made)) in (
      is_number ∙ sym (length-map log without_key),
      keyless_call c,
      no_key c,
      call_keyless s c is.1,
      same,
      ap (λ x. record { core = x; built = built }) log_is,
    )

build_good : (start : Start) (log : List CoreEntry) (built : List JobId) (n : ℕ) (job : JobId)
    → is_begun log job ≡ true → names_job built job ≡ false
    → IsGoodMark (behind start log built) (mark.Built n job) (behind start log (built ++ job ∷ []))
build_good start log built n job begun first = (begun_keyless log job ∙ begun, first, refl)

-- the marks of an entry are good, and so are those behind them
core_step : (start : Start) (log : List CoreEntry) (built : List JobId) (n number at : ℕ) (c : Option CoreEntry)
    (ms : List Mark) (k : Judged) → number ≡ length log → HasMoment at c
    → IsLegalBehind start log (option_to_list c)
    → AllGood (behind start (log ++ option_to_list c) built) ms k
    → AllGood (behind start log built) (core_marks n at number c ++ ms) k
core_step start log built n number at None ms k is_number moment legal rest =
    subst (λ es. AllGood (behind start es built) ms k) (append-nil log) rest
core_step start log built n number at (Some e) ms k is_number moment legal rest = (
  behind start (log ++ e ∷ []) built,
  core_good start log built n number at e is_number moment legal.0,
  rest,
)

build_step : (start : Start) (log : List CoreEntry) (built : List JobId) (n : ℕ) (o : Option JobId)
    (ms : List Mark) (k : Judged) → IsFirstBuild log built o
    → AllGood (behind start log (built ++ option_to_list o)) ms k
    → AllGood (behind start log built) (build_marks n o ++ ms) k
build_step start log built n None ms k first rest =
    subst (λ js. AllGood (behind start log js) ms k) (append-nil built) rest
build_step start log built n (Some job) ms k first rest = (
  behind start log (built ++ job ∷ []),
  build_good start log built n job first.0 first.1,
  rest,
)

-- ---- all entries

-- the marks of entries, the first of which has that number of lines before it
abbrev pub entry_size : Entry → ℕ
entry_size e = length (entry_lines 0 0 e)

abbrev pub marks_of : ℕ → ℕ → List Entry → List Mark
marks_of n number [] = []
marks_of n number (e ∷ es) =
    core_marks (n + 1) e.event.at number e.core
    ++ (build_marks (n + 1 + core_count e.core) (built_of e.step)
    ++ marks_of (n + entry_size e) (number + core_count e.core) es)

-- the jobs that entries built
abbrev pub built_by : List JobId → List Entry → List JobId
built_by built [] = built
built_by built (e ∷ es) = built_by (built ++ option_to_list (built_of e.step)) es

split_legal : (start : Start) (front : List CoreEntry) (c : Option CoreEntry) (es : List CoreEntry)
    → IsLegalBehind start front (option_to_list c ++ es)
    → IsLegalBehind start front (option_to_list c) × IsLegalBehind start (front ++ option_to_list c) es
split_legal start front None es legal = (tt, subst (λ xs. IsLegalBehind start xs es) (sym (append-nil front)) legal)
split_legal start front (Some e) es legal = ((legal.0, tt), legal.1)

pub core_log_of : (e : Entry) (es : List Entry) → core_log (e ∷ es) ≡ option_to_list e.core ++ core_log es
core_log_of e es = split e.core
  where
    split : (c : Option CoreEntry) → cons_option c (core_log es) ≡ option_to_list c ++ core_log es
    split None = refl
    split (Some x) = refl

count_is : (c : Option CoreEntry) → length (option_to_list c) ≡ core_count c
count_is None = refl
count_is (Some e) = refl

entries_good : (start : Start) (log : List CoreEntry) (built : List JobId) (n number : ℕ) (es : List Entry)
    → number ≡ length log → IsLegalBehind start log (core_log es) → HaveMoments es → AreFirstBuilds log built es
    → AllGood (behind start log built) (marks_of n number es) (behind start (log ++ core_log es) (built_by built es))
entries_good start log built n number [] is_number legal moments builds =
    ap (λ xs. behind start xs built) (sym (append-nil log))
entries_good start log built n number (e ∷ es) is_number legal moments builds =
    let own = option_to_list e.core in
    let parts = split_legal start log e.core (core_log es) (subst (IsLegalBehind start log) (core_log_of e es) legal) in
    let next_number : number + core_count e.core ≡ length (log ++ own) =
    omega (arith, is_number, count_is e.core, length-append log own) in
    let rest = entries_good start (log ++ own) (built ++ option_to_list (built_of e.step)) (n + entry_size e)
    (number + core_count e.core) es next_number parts.1 moments.1 builds.1 in
    let whole : (log ++ own) ++ core_log es ≡ log ++ core_log (e ∷ es) = append_assoc log own (core_log es)
    ∙ ap (λ xs. log ++ xs) (sym (core_log_of e es)) in
    let end : Judged = behind start (log ++ core_log (e ∷ es)) (built_by built (e ∷ es)) in
    let rest_end : AllGood (behind start (log ++ own) (built ++ option_to_list (built_of e.step)))
    (marks_of (n + entry_size e) (number + core_count e.core) es) end =
    subst (λ xs. AllGood (behind start (log ++ own) (built ++ option_to_list (built_of e.step)))
    (marks_of (n + entry_size e) (number + core_count e.core) es)
    (behind start xs (built_by (built ++ option_to_list (built_of e.step)) es))) whole rest in
    core_step start log built (n + 1) number e.event.at e.core
    (build_marks (n + 1 + core_count e.core) (built_of e.step)
    ++ marks_of (n + entry_size e) (number + core_count e.core) es)
    end is_number moments.0 parts.0
    (build_step start (log ++ own) built (n + 1 + core_count e.core) (built_of e.step)
    (marks_of (n + entry_size e) (number + core_count e.core) es) end builds.0 rest_end)

pub history_good : (start : Start) (es : List Entry) → IsLegal start (core_log es) → HaveMoments es
    → AreFirstBuilds [] [] es → AllGood (behind start [] []) (marks_of 2 0 es) (behind start (core_log es)
    (built_by [] es))
history_good start es legal moments builds = entries_good start [] [] 2 0 es refl legal moments builds
