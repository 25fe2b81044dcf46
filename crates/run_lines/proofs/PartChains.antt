-- What a reserve and a stored submission say is their one text, and that text is read.
use Rattle.std.proofs.Common.{◌≡◌, ℕ, Bool, List, [], ◌∷◌, ◌++◌, Option, Some, None, codes, refl, ap, subst, ◌∙◌}
use Rattle.std.specs.Fmt.{decimal}
use Rattle.std.proofs.lemmas.Option.{same_Some}
use Rattle.dist_types.proofs.AddrLemmas.{bind_some}
use Rattle.farm_script.specs.Words.{field, named, last}
use Rattle.farm_script.specs.Fields.{number_at}
use Rattle.farm_script.specs.Grammar.{IsNumber}
use Rattle.farm_script.proofs.FieldLemmas.{number_law, decimal_lacks}
use Rattle.farm_script.proofs.WordLemmas.{bind_is, field_sound, field_complete, named_sound, named_complete}
use Rattle.farm_script.proofs.WordLemmas.{last_sound, last_complete, follow, follow_number}
use Rattle.dist_types.specs.declared.ids.JobId.{JobId}
use Rattle.core_rules.specs.declared.entry.Reserved.{Reserved}
use Rattle.core_rules.specs.declared.entry.Reserved.TheVariants as reserve
use Rattle.build_server.specs.declared.submit.Submitted.{Submitted}
use Rattle.build_server.specs.declared.submit.Submitted.TheVariants as submitted
use Rattle.farm_entries.specs.Printed.{numbers_text, ids_text, reserved_text, submitted_text}
use Rattle.run_lines.specs.Grammar.{AllFit, AreIds, ReservedFits, SubmittedFits}
use Rattle.run_lines.specs.Fields.{numbers_at, ids_at, job_of}
use Rattle.run_lines.specs.CoreLines.{job_at}
use Rattle.run_lines.specs.StepLines.{stored_at}
use Rattle.run_lines.proofs.PartLemmas.{numbers_law}
use Rattle.run_lines.proofs.FieldLemmas.{Exact, pre}
use Rattle.run_lines.proofs.ItemLemmas.{ids_law}

-- ---- written by tools/line_lemmas.py

pub job_sound : (t : List ℕ) (k : Reserved) → job_at t ≡ Some k → Exact reserved_text ReservedFits (pre (codes
    "job ") t) k
unfolding job_at
job_sound t k e =
    let a0 = bind_some (field number_at t) _ k e in
    let a1 = bind_some (named (codes "reg ") number_at a0.0.1) _ k a0.2 in
    let a2 = bind_some (last (codes "forgiven ") numbers_at a1.0.1) _ k a1.2 in
    let f0 = field_sound number_at IsNumber number_law t a0.0.0 a0.0.1 a0.1 in
    let f1 = named_sound (codes "reg ") number_at IsNumber number_law a0.0.1 a1.0.0 a1.0.1 a1.1 in
    let f2 = last_sound (codes "forgiven ") numbers_at (Exact numbers_text AllFit) numbers_law a1.0.1 a2.0
    a2.1 in
    let made : Reserved = reserve.Job (job_of a0.0.0) a1.0.0 a2.0 in
    let is : Exact reserved_text ReservedFits (pre (codes "job ") t) made = (
      ap (pre (codes "job ")) (follow _ _ _ _ _ f0.2 f0.1.0
          (follow_number _ (codes "reg ") f1.0 _ _ _ f1.2 f1.1.0
          (f2.2 ∙ ap (λ (w : List ℕ). codes "forgiven " ++ w) f2.1.0))),
      (f0.1.1, f1.1.1, f2.1.1),
    ) in
    subst (Exact reserved_text ReservedFits (pre (codes "job ") t)) (same_Some made k a2.2) is

pub job_complete : (job : JobId) (reg : ℕ) (forgiven : List ℕ) → ReservedFits (reserve.Job job reg forgiven) →
    job_at ((decimal job.0) ++ 32 ∷ (codes "reg " ++ ((decimal reg) ++ 32 ∷ (codes "forgiven " ++
    (numbers_text forgiven))))) ≡ Some (reserve.Job (job_of job.0) reg forgiven)
unfolding job_at
job_complete job reg forgiven h =
    let r2 : List ℕ = (codes "forgiven " ++ (numbers_text forgiven)) in
    let r1 : List ℕ = (codes "reg " ++ ((decimal reg) ++ 32 ∷ (codes "forgiven " ++ (numbers_text
    forgiven)))) in
    bind_is _ _ _ _ (field_complete number_at IsNumber number_law (decimal job.0) job.0 r1 (refl, h.0)
    (decimal_lacks job.0 h.0))
    (bind_is _ _ _ _ (named_complete (codes "reg ") number_at IsNumber number_law (decimal reg) reg r2
    (refl, h.1) (decimal_lacks reg h.1))
    (bind_is _ _ _ _ (last_complete (codes "forgiven ") numbers_at (Exact numbers_text AllFit) numbers_law
    (numbers_text forgiven) forgiven (refl, h.2))
    refl))

pub stored_sound : (t : List ℕ) (k : Submitted) → stored_at t ≡ Some k → Exact submitted_text SubmittedFits
    (pre (codes "stored ") t) k
unfolding stored_at
stored_sound t k e =
    let a0 = bind_some (field number_at t) _ k e in
    let a1 = bind_some (last (codes "dropped ") ids_at a0.0.1) _ k a0.2 in
    let f0 = field_sound number_at IsNumber number_law t a0.0.0 a0.0.1 a0.1 in
    let f1 = last_sound (codes "dropped ") ids_at (Exact ids_text AreIds) ids_law a0.0.1 a1.0 a1.1 in
    let made : Submitted = submitted.Stored a0.0.0 a1.0 in
    let is : Exact submitted_text SubmittedFits (pre (codes "stored ") t) made = (
      ap (pre (codes "stored ")) (follow _ _ _ _ _ f0.2 f0.1.0
          (f1.2 ∙ ap (λ (w : List ℕ). codes "dropped " ++ w) f1.1.0)),
      (f0.1.1, f1.1.1),
    ) in
    subst (Exact submitted_text SubmittedFits (pre (codes "stored ") t)) (same_Some made k a1.2) is

pub stored_complete : (size : ℕ) (dropped : List (List ℕ)) → SubmittedFits (submitted.Stored size dropped) →
    stored_at ((decimal size) ++ 32 ∷ (codes "dropped " ++ (ids_text dropped))) ≡ Some (submitted.Stored
    size dropped)
unfolding stored_at
stored_complete size dropped h =
    let r1 : List ℕ = (codes "dropped " ++ (ids_text dropped)) in
    bind_is _ _ _ _ (field_complete number_at IsNumber number_law (decimal size) size r1 (refl, h.0)
    (decimal_lacks size h.0))
    (bind_is _ _ _ _ (last_complete (codes "dropped ") ids_at (Exact ids_text AreIds) ids_law (ids_text
    dropped) dropped (refl, h.1))
    refl)
