-- What each kind of core entry says is its one text, and that text is read.
use Rattle.std.proofs.Common.{◌≡◌, ℕ, Bool, List, [], ◌∷◌, ◌++◌, Option, Some, None, codes, refl, ap, subst, ◌∙◌}
use Rattle.std.specs.Fmt.{decimal}
use Rattle.std.proofs.lemmas.Option.{same_Some}
use Rattle.dist_types.proofs.AddrLemmas.{bind_some}
use Rattle.farm_script.specs.Words.{field, named, last}
use Rattle.farm_script.specs.Fields.{number_at}
use Rattle.farm_script.specs.Grammar.{IsNumber}
use Rattle.farm_script.proofs.FieldLemmas.{number_law, decimal_lacks}
use Rattle.farm_script.proofs.WordLemmas.{bind_is, field_sound, field_complete, named_sound, named_complete}
use Rattle.farm_script.proofs.WordLemmas.{last_sound, last_complete, follow, follow_number}
use Rattle.dist_types.specs.declared.ids.JobId.{JobId}
use Rattle.dist_types.specs.Addr.{addr_text}
use Rattle.dist_types.specs.Ids.{state_text}
use Rattle.dist_types.specs.declared.addr.Addr.{Addr}
use Rattle.dist_types.specs.declared.results.JobState.{JobState}
use Rattle.core_rules.specs.declared.entry.CoreKind.{CoreKind}
use Rattle.core_rules.specs.declared.entry.CoreKind.TheVariants as core
use Rattle.core_rules.specs.declared.entry.UpdateAnswer.{UpdateAnswer}
use Rattle.farm_entries.specs.Printed.{numbers_text, jobs_text, number_text, kept_text, ended_text, age_text}
use Rattle.farm_entries.specs.Printed.{on_text, advance_text, core_text}
use Rattle.run_lines.specs.Grammar.{AllFit, JobsFit, SomeFits, HasText, CoreFits}
use Rattle.run_lines.specs.Fields.{exact_at, numbers_at, job_of, jobs_at, maybe_at, state_at, either_at}
use Rattle.run_lines.specs.CoreLines.{commit_at, undo_at, beat_at, advance_at, update_at, status_at, drain_at}
use Rattle.run_lines.proofs.PartLemmas.{numbers_law, numbers_lack}
use Rattle.run_lines.proofs.FieldLemmas.{Exact, Anything, pre, exact_law, addr_lacks, jobs_law, jobs_lack}
use Rattle.run_lines.proofs.FieldLemmas.{maybe_law, maybe_lacks, state_law, state_lacks, kept_law, ended_law}
use Rattle.run_lines.proofs.FieldLemmas.{age_law, on_law, on_lacks}
use Rattle.run_lines.proofs.KindLemmas.{advance_law}

-- ---- written by tools/line_lemmas.py

pub commit_sound : (t : List ℕ) (k : CoreKind) → commit_at t ≡ Some k → Exact core_text CoreFits (pre (codes
    "commit ") t) k
unfolding commit_at
commit_sound t k e =
    let a0 = bind_some (named (codes "job ") number_at t) _ k e in
    let a1 = bind_some (named (codes "state ") state_at a0.0.1) _ k a0.2 in
    let a2 = bind_some ((either_at (codes "kept") (codes "dropped")) a1.0.1) _ k a1.2 in
    let f0 = named_sound (codes "job ") number_at IsNumber number_law t a0.0.0 a0.0.1 a0.1 in
    let f1 = named_sound (codes "state ") state_at (Exact state_text Anything) state_law a0.0.1 a1.0.0
    a1.0.1 a1.1 in
    let f2 = kept_law.sound a1.0.1 a2.0 a2.1 in
    let made : CoreKind = core.Commit (job_of a0.0.0) a1.0.0 a2.0 in
    let is : Exact core_text CoreFits (pre (codes "commit ") t) made = (
      ap (pre (codes "commit ")) (follow_number _ (codes "job ") f0.0 _ _ _ f0.2 f0.1.0
          (follow_number _ (codes "state ") f1.0 _ _ _ f1.2 f1.1.0
          f2.0)),
      f0.1.1,
    ) in
    subst (Exact core_text CoreFits (pre (codes "commit ") t)) (same_Some made k a2.2) is

pub commit_complete : (job : JobId) (state : JobState) (kept : Bool) → CoreFits (core.Commit job state kept) →
    commit_at (codes "job " ++ ((decimal job.0) ++ 32 ∷ (codes "state " ++ ((state_text state) ++ 32 ∷
    (kept_text kept))))) ≡ Some (core.Commit (job_of job.0) state kept)
unfolding commit_at
commit_complete job state kept h =
    let r2 : List ℕ = (kept_text kept) in
    let r1 : List ℕ = (codes "state " ++ ((state_text state) ++ 32 ∷ (kept_text kept))) in
    bind_is _ _ _ _ (named_complete (codes "job ") number_at IsNumber number_law (decimal job.0) job.0 r1
    (refl, h) (decimal_lacks job.0 h))
    (bind_is _ _ _ _ (named_complete (codes "state ") state_at (Exact state_text Anything) state_law
    (state_text state) state r2 (refl, tt) (state_lacks state))
    (bind_is _ _ _ _ (kept_law.complete (kept_text kept) kept (refl, tt))
    refl))

pub undo_sound : (t : List ℕ) (k : CoreKind) → undo_at t ≡ Some k → Exact core_text CoreFits (pre (codes
    "undo ") t) k
unfolding undo_at
undo_sound t k e =
    let a0 = bind_some (named (codes "job ") number_at t) _ k e in
    let a1 = bind_some (named (codes "noted ") maybe_at a0.0.1) _ k a0.2 in
    let a2 = bind_some (last (codes "ended ") (either_at (codes "yes") (codes "no")) a1.0.1) _ k a1.2 in
    let f0 = named_sound (codes "job ") number_at IsNumber number_law t a0.0.0 a0.0.1 a0.1 in
    let f1 = named_sound (codes "noted ") maybe_at (Exact number_text SomeFits) maybe_law a0.0.1 a1.0.0
    a1.0.1 a1.1 in
    let f2 = last_sound (codes "ended ") (either_at (codes "yes") (codes "no")) (Exact ended_text Anything)
    ended_law a1.0.1 a2.0 a2.1 in
    let made : CoreKind = core.Undo (job_of a0.0.0) a1.0.0 a2.0 in
    let is : Exact core_text CoreFits (pre (codes "undo ") t) made = (
      ap (pre (codes "undo ")) (follow_number _ (codes "job ") f0.0 _ _ _ f0.2 f0.1.0
          (follow_number _ (codes "noted ") f1.0 _ _ _ f1.2 f1.1.0
          (f2.2 ∙ ap (λ (w : List ℕ). codes "ended " ++ w) f2.1.0))),
      (f0.1.1, f1.1.1),
    ) in
    subst (Exact core_text CoreFits (pre (codes "undo ") t)) (same_Some made k a2.2) is

pub undo_complete : (job : JobId) (noted : Option ℕ) (ended : Bool) → CoreFits (core.Undo job noted ended) →
    undo_at (codes "job " ++ ((decimal job.0) ++ 32 ∷ (codes "noted " ++ ((number_text noted) ++ 32 ∷
    (codes "ended " ++ (ended_text ended)))))) ≡ Some (core.Undo (job_of job.0) noted ended)
unfolding undo_at
undo_complete job noted ended h =
    let r2 : List ℕ = (codes "ended " ++ (ended_text ended)) in
    let r1 : List ℕ = (codes "noted " ++ ((number_text noted) ++ 32 ∷ (codes "ended " ++ (ended_text
    ended)))) in
    bind_is _ _ _ _ (named_complete (codes "job ") number_at IsNumber number_law (decimal job.0) job.0 r1
    (refl, h.0) (decimal_lacks job.0 h.0))
    (bind_is _ _ _ _ (named_complete (codes "noted ") maybe_at (Exact number_text SomeFits) maybe_law
    (number_text noted) noted r2 (refl, h.1) (maybe_lacks noted h.1))
    (bind_is _ _ _ _ (last_complete (codes "ended ") (either_at (codes "yes") (codes "no")) (Exact
    ended_text Anything) ended_law (ended_text ended) ended (refl, tt))
    refl))

pub beat_sound : (t : List ℕ) (k : CoreKind) → beat_at t ≡ Some k → Exact core_text CoreFits (pre (codes
    "beat ") t) k
unfolding beat_at
beat_sound t k e =
    let a0 = bind_some (field exact_at t) _ k e in
    let a1 = bind_some (named (codes "nonce ") number_at a0.0.1) _ k a0.2 in
    let a2 = bind_some (named (codes "cpus ") number_at a1.0.1) _ k a1.2 in
    let a3 = bind_some (named (codes "pruned ") numbers_at a2.0.1) _ k a2.2 in
    let a4 = bind_some (named (codes "reaped ") jobs_at a3.0.1) _ k a3.2 in
    let a5 = bind_some (named (codes "replaced ") maybe_at a4.0.1) _ k a4.2 in
    let a6 = bind_some ((either_at (codes "new") (codes "old")) a5.0.1) _ k a5.2 in
    let f0 = field_sound exact_at (Exact addr_text HasText) exact_law t a0.0.0 a0.0.1 a0.1 in
    let f1 = named_sound (codes "nonce ") number_at IsNumber number_law a0.0.1 a1.0.0 a1.0.1 a1.1 in
    let f2 = named_sound (codes "cpus ") number_at IsNumber number_law a1.0.1 a2.0.0 a2.0.1 a2.1 in
    let f3 = named_sound (codes "pruned ") numbers_at (Exact numbers_text AllFit) numbers_law a2.0.1 a3.0.0
    a3.0.1 a3.1 in
    let f4 = named_sound (codes "reaped ") jobs_at (Exact jobs_text JobsFit) jobs_law a3.0.1 a4.0.0 a4.0.1
    a4.1 in
    let f5 = named_sound (codes "replaced ") maybe_at (Exact number_text SomeFits) maybe_law a4.0.1 a5.0.0
    a5.0.1 a5.1 in
    let f6 = age_law.sound a5.0.1 a6.0 a6.1 in
    let made : CoreKind = core.Beat a0.0.0 a1.0.0 a2.0.0 [] a3.0.0 a4.0.0 a5.0.0 a6.0 in
    let is : Exact core_text CoreFits (pre (codes "beat ") t) made = (
      ap (pre (codes "beat ")) (follow _ _ _ _ _ f0.2 f0.1.0
          (follow_number _ (codes "nonce ") f1.0 _ _ _ f1.2 f1.1.0
          (follow_number _ (codes "cpus ") f2.0 _ _ _ f2.2 f2.1.0
          (follow_number _ (codes "pruned ") f3.0 _ _ _ f3.2 f3.1.0
          (follow_number _ (codes "reaped ") f4.0 _ _ _ f4.2 f4.1.0
          (follow_number _ (codes "replaced ") f5.0 _ _ _ f5.2 f5.1.0
          f6.0)))))),
      (f0.1.1, f1.1.1, f2.1.1, refl, f3.1.1, f4.1.1, f5.1.1),
    ) in
    subst (Exact core_text CoreFits (pre (codes "beat ") t)) (same_Some made k a6.2) is

pub beat_complete : (server : Addr) (nonce : ℕ) (cpus : ℕ) (pruned : List ℕ) (reaped : List JobId) (replaced :
    Option ℕ) (is_new : Bool) → CoreFits (core.Beat server nonce cpus [] pruned reaped replaced is_new) →
    beat_at ((addr_text server) ++ 32 ∷ (codes "nonce " ++ ((decimal nonce) ++ 32 ∷ (codes "cpus " ++
    ((decimal cpus) ++ 32 ∷ (codes "pruned " ++ ((numbers_text pruned) ++ 32 ∷ (codes "reaped " ++
    ((jobs_text reaped) ++ 32 ∷ (codes "replaced " ++ ((number_text replaced) ++ 32 ∷ (age_text
    is_new)))))))))))) ≡ Some (core.Beat server nonce cpus [] pruned reaped replaced is_new)
unfolding beat_at
beat_complete server nonce cpus pruned reaped replaced is_new h =
    let r6 : List ℕ = (age_text is_new) in
    let r5 : List ℕ = (codes "replaced " ++ ((number_text replaced) ++ 32 ∷ (age_text is_new))) in
    let r4 : List ℕ = (codes "reaped " ++ ((jobs_text reaped) ++ 32 ∷ (codes "replaced " ++ ((number_text
    replaced) ++ 32 ∷ (age_text is_new))))) in
    let r3 : List ℕ = (codes "pruned " ++ ((numbers_text pruned) ++ 32 ∷ (codes "reaped " ++ ((jobs_text
    reaped) ++ 32 ∷ (codes "replaced " ++ ((number_text replaced) ++ 32 ∷ (age_text is_new))))))) in
    let r2 : List ℕ = (codes "cpus " ++ ((decimal cpus) ++ 32 ∷ (codes "pruned " ++ ((numbers_text pruned)
    ++ 32 ∷ (codes "reaped " ++ ((jobs_text reaped) ++ 32 ∷ (codes "replaced " ++ ((number_text replaced)
    ++ 32 ∷ (age_text is_new))))))))) in
    let r1 : List ℕ = (codes "nonce " ++ ((decimal nonce) ++ 32 ∷ (codes "cpus " ++ ((decimal cpus) ++ 32 ∷
    (codes "pruned " ++ ((numbers_text pruned) ++ 32 ∷ (codes "reaped " ++ ((jobs_text reaped) ++ 32 ∷
    (codes "replaced " ++ ((number_text replaced) ++ 32 ∷ (age_text is_new))))))))))) in
    bind_is _ _ _ _ (field_complete exact_at (Exact addr_text HasText) exact_law (addr_text server) server
    r1 (refl, h.0) (addr_lacks server h.0))
    (bind_is _ _ _ _ (named_complete (codes "nonce ") number_at IsNumber number_law (decimal nonce) nonce
    r2 (refl, h.1) (decimal_lacks nonce h.1))
    (bind_is _ _ _ _ (named_complete (codes "cpus ") number_at IsNumber number_law (decimal cpus) cpus r3
    (refl, h.2) (decimal_lacks cpus h.2))
    (bind_is _ _ _ _ (named_complete (codes "pruned ") numbers_at (Exact numbers_text AllFit) numbers_law
    (numbers_text pruned) pruned r4 (refl, h.4) (numbers_lack pruned h.4))
    (bind_is _ _ _ _ (named_complete (codes "reaped ") jobs_at (Exact jobs_text JobsFit) jobs_law
    (jobs_text reaped) reaped r5 (refl, h.5) (jobs_lack reaped h.5))
    (bind_is _ _ _ _ (named_complete (codes "replaced ") maybe_at (Exact number_text SomeFits) maybe_law
    (number_text replaced) replaced r6 (refl, h.6) (maybe_lacks replaced h.6))
    (bind_is _ _ _ _ (age_law.complete (age_text is_new) is_new (refl, tt))
    refl))))))

pub update_sound : (t : List ℕ) (k : CoreKind) → update_at t ≡ Some k → Exact core_text CoreFits (pre (codes
    "update ") t) k
unfolding update_at
update_sound t k e =
    let a0 = bind_some (field exact_at t) _ k e in
    let a1 = bind_some (named (codes "job ") number_at a0.0.1) _ k a0.2 in
    let a2 = bind_some (named (codes "state ") state_at a1.0.1) _ k a1.2 in
    let a3 = bind_some (advance_at a2.0.1) _ k a2.2 in
    let f0 = field_sound exact_at (Exact addr_text HasText) exact_law t a0.0.0 a0.0.1 a0.1 in
    let f1 = named_sound (codes "job ") number_at IsNumber number_law a0.0.1 a1.0.0 a1.0.1 a1.1 in
    let f2 = named_sound (codes "state ") state_at (Exact state_text Anything) state_law a1.0.1 a2.0.0
    a2.0.1 a2.1 in
    let f3 = advance_law.sound a2.0.1 a3.0 a3.1 in
    let made : CoreKind = core.Update a0.0.0 (job_of a1.0.0) a2.0.0 a3.0 in
    let is : Exact core_text CoreFits (pre (codes "update ") t) made = (
      ap (pre (codes "update ")) (follow _ _ _ _ _ f0.2 f0.1.0
          (follow_number _ (codes "job ") f1.0 _ _ _ f1.2 f1.1.0
          (follow_number _ (codes "state ") f2.0 _ _ _ f2.2 f2.1.0
          f3.0))),
      (f0.1.1, f1.1.1),
    ) in
    subst (Exact core_text CoreFits (pre (codes "update ") t)) (same_Some made k a3.2) is

pub update_complete : (server : Addr) (job : JobId) (state : JobState) (answer : UpdateAnswer) → CoreFits
    (core.Update server job state answer) → update_at ((addr_text server) ++ 32 ∷ (codes "job " ++
    ((decimal job.0) ++ 32 ∷ (codes "state " ++ ((state_text state) ++ 32 ∷ (advance_text answer)))))) ≡
    Some (core.Update server (job_of job.0) state answer)
unfolding update_at
update_complete server job state answer h =
    let r3 : List ℕ = (advance_text answer) in
    let r2 : List ℕ = (codes "state " ++ ((state_text state) ++ 32 ∷ (advance_text answer))) in
    let r1 : List ℕ = (codes "job " ++ ((decimal job.0) ++ 32 ∷ (codes "state " ++ ((state_text state) ++
    32 ∷ (advance_text answer))))) in
    bind_is _ _ _ _ (field_complete exact_at (Exact addr_text HasText) exact_law (addr_text server) server
    r1 (refl, h.0) (addr_lacks server h.0))
    (bind_is _ _ _ _ (named_complete (codes "job ") number_at IsNumber number_law (decimal job.0) job.0 r2
    (refl, h.1) (decimal_lacks job.0 h.1))
    (bind_is _ _ _ _ (named_complete (codes "state ") state_at (Exact state_text Anything) state_law
    (state_text state) state r3 (refl, tt) (state_lacks state))
    (bind_is _ _ _ _ (advance_law.complete (advance_text answer) answer (refl, tt))
    refl)))

pub status_sound : (t : List ℕ) (k : CoreKind) → status_at t ≡ Some k → Exact core_text CoreFits (pre (codes
    "status ") t) k
unfolding status_at
status_sound t k e =
    let a0 = bind_some (named (codes "pruned ") numbers_at t) _ k e in
    let a1 = bind_some (named (codes "servers ") number_at a0.0.1) _ k a0.2 in
    let a2 = bind_some (named (codes "cpus ") number_at a1.0.1) _ k a1.2 in
    let a3 = bind_some (last (codes "jobs ") number_at a2.0.1) _ k a2.2 in
    let f0 = named_sound (codes "pruned ") numbers_at (Exact numbers_text AllFit) numbers_law t a0.0.0
    a0.0.1 a0.1 in
    let f1 = named_sound (codes "servers ") number_at IsNumber number_law a0.0.1 a1.0.0 a1.0.1 a1.1 in
    let f2 = named_sound (codes "cpus ") number_at IsNumber number_law a1.0.1 a2.0.0 a2.0.1 a2.1 in
    let f3 = last_sound (codes "jobs ") number_at IsNumber number_law a2.0.1 a3.0 a3.1 in
    let made : CoreKind = core.Status a0.0.0 a1.0.0 a2.0.0 a3.0 in
    let is : Exact core_text CoreFits (pre (codes "status ") t) made = (
      ap (pre (codes "status ")) (follow_number _ (codes "pruned ") f0.0 _ _ _ f0.2 f0.1.0
          (follow_number _ (codes "servers ") f1.0 _ _ _ f1.2 f1.1.0
          (follow_number _ (codes "cpus ") f2.0 _ _ _ f2.2 f2.1.0
          (f3.2 ∙ ap (λ (w : List ℕ). codes "jobs " ++ w) f3.1.0)))),
      (f0.1.1, f1.1.1, f2.1.1, f3.1.1),
    ) in
    subst (Exact core_text CoreFits (pre (codes "status ") t)) (same_Some made k a3.2) is

pub status_complete : (pruned : List ℕ) (servers : ℕ) (cpus : ℕ) (jobs : ℕ) → CoreFits (core.Status pruned
    servers cpus jobs) → status_at (codes "pruned " ++ ((numbers_text pruned) ++ 32 ∷ (codes "servers " ++
    ((decimal servers) ++ 32 ∷ (codes "cpus " ++ ((decimal cpus) ++ 32 ∷ (codes "jobs " ++ (decimal
    jobs)))))))) ≡ Some (core.Status pruned servers cpus jobs)
unfolding status_at
status_complete pruned servers cpus jobs h =
    let r3 : List ℕ = (codes "jobs " ++ (decimal jobs)) in
    let r2 : List ℕ = (codes "cpus " ++ ((decimal cpus) ++ 32 ∷ (codes "jobs " ++ (decimal jobs)))) in
    let r1 : List ℕ = (codes "servers " ++ ((decimal servers) ++ 32 ∷ (codes "cpus " ++ ((decimal cpus) ++
    32 ∷ (codes "jobs " ++ (decimal jobs)))))) in
    bind_is _ _ _ _ (named_complete (codes "pruned ") numbers_at (Exact numbers_text AllFit) numbers_law
    (numbers_text pruned) pruned r1 (refl, h.0) (numbers_lack pruned h.0))
    (bind_is _ _ _ _ (named_complete (codes "servers ") number_at IsNumber number_law (decimal servers)
    servers r2 (refl, h.1) (decimal_lacks servers h.1))
    (bind_is _ _ _ _ (named_complete (codes "cpus ") number_at IsNumber number_law (decimal cpus) cpus r3
    (refl, h.2) (decimal_lacks cpus h.2))
    (bind_is _ _ _ _ (last_complete (codes "jobs ") number_at IsNumber number_law (decimal jobs) jobs
    (refl, h.3))
    refl)))

pub drain_sound : (t : List ℕ) (k : CoreKind) → drain_at t ≡ Some k → Exact core_text CoreFits (pre (codes
    "drain ") t) k
unfolding drain_at
drain_sound t k e =
    let a0 = bind_some (field exact_at t) _ k e in
    let a1 = bind_some (named (codes "nonce ") number_at a0.0.1) _ k a0.2 in
    let a2 = bind_some (field (either_at (codes "on") (codes "off")) a1.0.1) _ k a1.2 in
    let a3 = bind_some (last (codes "reg ") maybe_at a2.0.1) _ k a2.2 in
    let f0 = field_sound exact_at (Exact addr_text HasText) exact_law t a0.0.0 a0.0.1 a0.1 in
    let f1 = named_sound (codes "nonce ") number_at IsNumber number_law a0.0.1 a1.0.0 a1.0.1 a1.1 in
    let f2 = field_sound (either_at (codes "on") (codes "off")) (Exact on_text Anything) on_law a1.0.1
    a2.0.0 a2.0.1 a2.1 in
    let f3 = last_sound (codes "reg ") maybe_at (Exact number_text SomeFits) maybe_law a2.0.1 a3.0 a3.1 in
    let made : CoreKind = core.Drain a0.0.0 a1.0.0 a2.0.0 a3.0 in
    let is : Exact core_text CoreFits (pre (codes "drain ") t) made = (
      ap (pre (codes "drain ")) (follow _ _ _ _ _ f0.2 f0.1.0
          (follow_number _ (codes "nonce ") f1.0 _ _ _ f1.2 f1.1.0
          (follow _ _ _ _ _ f2.2 f2.1.0
          (f3.2 ∙ ap (λ (w : List ℕ). codes "reg " ++ w) f3.1.0)))),
      (f0.1.1, f1.1.1, f3.1.1),
    ) in
    subst (Exact core_text CoreFits (pre (codes "drain ") t)) (same_Some made k a3.2) is

pub drain_complete : (server : Addr) (nonce : ℕ) (on : Bool) (reg : Option ℕ) → CoreFits (core.Drain server
    nonce on reg) → drain_at ((addr_text server) ++ 32 ∷ (codes "nonce " ++ ((decimal nonce) ++ 32 ∷
    ((on_text on) ++ 32 ∷ (codes "reg " ++ (number_text reg)))))) ≡ Some (core.Drain server nonce on reg)
unfolding drain_at
drain_complete server nonce on reg h =
    let r3 : List ℕ = (codes "reg " ++ (number_text reg)) in
    let r2 : List ℕ = ((on_text on) ++ 32 ∷ (codes "reg " ++ (number_text reg))) in
    let r1 : List ℕ = (codes "nonce " ++ ((decimal nonce) ++ 32 ∷ ((on_text on) ++ 32 ∷ (codes "reg " ++
    (number_text reg))))) in
    bind_is _ _ _ _ (field_complete exact_at (Exact addr_text HasText) exact_law (addr_text server) server
    r1 (refl, h.0) (addr_lacks server h.0))
    (bind_is _ _ _ _ (named_complete (codes "nonce ") number_at IsNumber number_law (decimal nonce) nonce
    r2 (refl, h.1) (decimal_lacks nonce h.1))
    (bind_is _ _ _ _ (field_complete (either_at (codes "on") (codes "off")) (Exact on_text Anything) on_law
    (on_text on) on r3 (refl, tt) (on_lacks on))
    (bind_is _ _ _ _ (last_complete (codes "reg ") maybe_at (Exact number_text SomeFits) maybe_law
    (number_text reg) reg (refl, h.2))
    refl)))
