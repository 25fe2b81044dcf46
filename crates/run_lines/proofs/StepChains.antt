-- What each kind of step says is its one text, and that text is read.
use Rattle.std.proofs.Common.{◌≡◌, ℕ, Bool, List, [], ◌∷◌, ◌++◌, Option, Some, None, codes, refl, ap, subst, ◌∙◌}
use Rattle.std.specs.Fmt.{decimal}
use Rattle.std.proofs.lemmas.Option.{same_Some}
use Rattle.dist_types.proofs.AddrLemmas.{bind_some}
use Rattle.farm_script.specs.Words.{field, named, last}
use Rattle.farm_script.specs.Fields.{number_at}
use Rattle.farm_script.specs.Grammar.{IsNumber}
use Rattle.farm_script.proofs.FieldLemmas.{number_law, decimal_lacks}
use Rattle.farm_script.proofs.WordLemmas.{bind_is, field_sound, field_complete, named_sound, named_complete}
use Rattle.farm_script.proofs.WordLemmas.{last_sound, last_complete, follow, follow_number}
use Rattle.dist_types.specs.declared.ids.JobId.{JobId}
use Rattle.build_server.specs.declared.submit.Submitted.{Submitted}
use Rattle.build_server.specs.declared.run.Ran.{Ran}
use Rattle.farm_entries.specs.declared.entry.StepKind.{StepKind}
use Rattle.farm_entries.specs.declared.entry.StepKind.TheVariants as step
use Rattle.farm_entries.specs.Printed.{ready_text, submitted_text, ran_text, step_text}
use Rattle.run_lines.specs.Grammar.{IsId, SubmittedFits, RanFits, StepFits}
use Rattle.run_lines.specs.Fields.{id_at, either_at, job_of}
use Rattle.run_lines.specs.StepLines.{assigned_at, outcome_at, submitted_at, ran_at, run_step_at}
use Rattle.run_lines.proofs.FieldLemmas.{Exact, Anything, pre, itself, id_law, ready_law}
use Rattle.run_lines.proofs.ItemLemmas.{id_lacks}
use Rattle.run_lines.proofs.KindLemmas.{outcome_law, ran_law}

-- ---- written by tools/line_lemmas.py

pub assigned_sound : (t : List ℕ) (k : StepKind) → assigned_at t ≡ Some k → Exact step_text StepFits (pre
    (codes "assigned ") t) k
unfolding assigned_at
assigned_sound t k e =
    let a0 = bind_some (field number_at t) _ k e in
    let a1 = bind_some (field id_at a0.0.1) _ k a0.2 in
    let a2 = bind_some ((either_at (codes "ready") (codes "pending")) a1.0.1) _ k a1.2 in
    let f0 = field_sound number_at IsNumber number_law t a0.0.0 a0.0.1 a0.1 in
    let f1 = field_sound id_at (Exact itself IsId) id_law a0.0.1 a1.0.0 a1.0.1 a1.1 in
    let f2 = ready_law.sound a1.0.1 a2.0 a2.1 in
    let made : StepKind = step.Assigned (job_of a0.0.0) a1.0.0 a2.0 in
    let is : Exact step_text StepFits (pre (codes "assigned ") t) made = (
      ap (pre (codes "assigned ")) (follow _ _ _ _ _ f0.2 f0.1.0
          (follow _ _ _ _ _ f1.2 f1.1.0
          f2.0)),
      (f0.1.1, f1.1.1),
    ) in
    subst (Exact step_text StepFits (pre (codes "assigned ") t)) (same_Some made k a2.2) is

pub assigned_complete : (job : JobId) (tc : List ℕ) (ready : Bool) → StepFits (step.Assigned job tc ready) →
    assigned_at ((decimal job.0) ++ 32 ∷ (tc ++ 32 ∷ (ready_text ready))) ≡ Some (step.Assigned (job_of
    job.0) tc ready)
unfolding assigned_at
assigned_complete job tc ready h =
    let r2 : List ℕ = (ready_text ready) in
    let r1 : List ℕ = (tc ++ 32 ∷ (ready_text ready)) in
    bind_is _ _ _ _ (field_complete number_at IsNumber number_law (decimal job.0) job.0 r1 (refl, h.0)
    (decimal_lacks job.0 h.0))
    (bind_is _ _ _ _ (field_complete id_at (Exact itself IsId) id_law tc tc r2 (refl, h.1) (id_lacks tc
    h.1))
    (bind_is _ _ _ _ (ready_law.complete (ready_text ready) ready (refl, tt))
    refl))

pub submitted_sound : (t : List ℕ) (k : StepKind) → submitted_at t ≡ Some k → Exact step_text StepFits (pre
    (codes "submitted ") t) k
unfolding submitted_at
submitted_sound t k e =
    let a0 = bind_some (field number_at t) _ k e in
    let a1 = bind_some (outcome_at a0.0.1) _ k a0.2 in
    let f0 = field_sound number_at IsNumber number_law t a0.0.0 a0.0.1 a0.1 in
    let f1 = outcome_law.sound a0.0.1 a1.0 a1.1 in
    let made : StepKind = step.Submitted (job_of a0.0.0) a1.0 in
    let is : Exact step_text StepFits (pre (codes "submitted ") t) made = (
      ap (pre (codes "submitted ")) (follow _ _ _ _ _ f0.2 f0.1.0
          f1.0),
      (f0.1.1, f1.1),
    ) in
    subst (Exact step_text StepFits (pre (codes "submitted ") t)) (same_Some made k a1.2) is

pub submitted_complete : (job : JobId) (outcome : Submitted) → StepFits (step.Submitted job outcome) →
    submitted_at ((decimal job.0) ++ 32 ∷ (submitted_text outcome)) ≡ Some (step.Submitted (job_of job.0)
    outcome)
unfolding submitted_at
submitted_complete job outcome h =
    let r1 : List ℕ = (submitted_text outcome) in
    bind_is _ _ _ _ (field_complete number_at IsNumber number_law (decimal job.0) job.0 r1 (refl, h.0)
    (decimal_lacks job.0 h.0))
    (bind_is _ _ _ _ (outcome_law.complete (submitted_text outcome) outcome (refl, h.1))
    refl)

pub run_step_sound : (t : List ℕ) (k : StepKind) → run_step_at t ≡ Some k → Exact step_text StepFits (pre
    (codes "ran ") t) k
unfolding run_step_at
run_step_sound t k e =
    let a0 = bind_some (field number_at t) _ k e in
    let a1 = bind_some (ran_at a0.0.1) _ k a0.2 in
    let f0 = field_sound number_at IsNumber number_law t a0.0.0 a0.0.1 a0.1 in
    let f1 = ran_law.sound a0.0.1 a1.0 a1.1 in
    let made : StepKind = step.Ran (job_of a0.0.0) a1.0 None in
    let is : Exact step_text StepFits (pre (codes "ran ") t) made = (
      ap (pre (codes "ran ")) (follow _ _ _ _ _ f0.2 f0.1.0
          f1.0),
      (f0.1.1, f1.1, refl),
    ) in
    subst (Exact step_text StepFits (pre (codes "ran ") t)) (same_Some made k a1.2) is

pub run_step_complete : (job : JobId) (how : Ran) → StepFits (step.Ran job how None) → run_step_at ((decimal
    job.0) ++ 32 ∷ (ran_text how)) ≡ Some (step.Ran (job_of job.0) how None)
unfolding run_step_at
run_step_complete job how h =
    let r1 : List ℕ = (ran_text how) in
    bind_is _ _ _ _ (field_complete number_at IsNumber number_law (decimal job.0) job.0 r1 (refl, h.0)
    (decimal_lacks job.0 h.0))
    (bind_is _ _ _ _ (ran_law.complete (ran_text how) how (refl, h.1))
    refl)
