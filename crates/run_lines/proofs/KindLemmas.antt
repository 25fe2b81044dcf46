-- What the parts of core entries and of steps say is their one text, and that text is read.
use Rattle.std.proofs.Common.{◌≡◌, ℕ, List, ◌++◌, Option, Some, None, codes, refl, sym, ap, subst, ◌∙◌}
use Rattle.std.specs.Fmt.{decimal}
use Rattle.dist_types.specs.Addr.{◌>>=◌}
use Rattle.dist_types.specs.Ids.{state_text}
use Rattle.dist_types.proofs.AddrLemmas.{bind_some}
use Rattle.core_rules.specs.declared.entry.Reserved.{Reserved}
use Rattle.core_rules.specs.declared.entry.Reserved.TheVariants as reserve
use Rattle.core_rules.specs.declared.entry.UpdateAnswer.{UpdateAnswer}
use Rattle.core_rules.specs.declared.entry.UpdateAnswer.TheVariants.{Accepted, Unknown, Wrong, Transition}
use Rattle.farm_script.specs.Words.{strip, behind}
use Rattle.farm_script.specs.Fields.{number_at}
use Rattle.farm_script.proofs.FieldLemmas.{number_law}
use Rattle.farm_script.proofs.WordLemmas.{IsReader, bind_is}
use Rattle.build_server.specs.declared.submit.Submitted.{Submitted}
use Rattle.build_server.specs.declared.submit.Submitted.TheVariants as submitted
use Rattle.build_server.specs.declared.run.Ran.{Ran}
use Rattle.build_server.specs.declared.run.Ran.TheVariants as ran
use Rattle.farm_entries.specs.declared.entry.HeardAs.{HeardAs}
use Rattle.farm_entries.specs.declared.entry.HeardAs.TheVariants as heard
use Rattle.farm_entries.specs.Printed.{ids_text, reserved_text, advance_text, heard_text, submitted_text, ran_text}
use Rattle.run_lines.specs.Grammar.{IsId, ReservedFits, SubmittedFits, RanFits}
use Rattle.run_lines.specs.Fields.{state_at, id_at, ids_at}
use Rattle.run_lines.specs.CoreLines.{job_at, reserved_at, advance_at}
use Rattle.run_lines.specs.StepLines.{heard_at, stored_at, outcome_at, ran_at}
use Rattle.run_lines.proofs.FieldLemmas.{Exact, Anything, then_word, then_behind, this_value, state_law, id_law}
use Rattle.run_lines.proofs.ItemLemmas.{ids_law}
use Rattle.run_lines.proofs.PartChains.{job_sound, job_complete, stored_sound, stored_complete}

-- ---- core entries

reserved_sound : (t : List ℕ) (k : Reserved) → reserved_at t ≡ Some k → Exact reserved_text ReservedFits t k
unfolding reserved_at
reserved_sound t k e = then_behind (codes "job ") t job_at _ k (Exact reserved_text ReservedFits t k) e
    (λ r is f. subst (λ (x : List ℕ). Exact reserved_text ReservedFits x k) (sym is) (job_sound r k f))
    (λ e2. then_behind (codes "none ") t (λ r. number_at r >>= λ n. Some (reserve.NoRoom n)) _ k
    (Exact reserved_text ReservedFits t k) e2
    (λ r is f.
    let a = bind_some (number_at r) (λ n. Some (reserve.NoRoom n)) k f in
    let s = number_law.sound r a.0 a.1 in
    this_value reserved_text ReservedFits t (reserve.NoRoom a.0) k a.2
    (is ∙ ap (λ (x : List ℕ). codes "none " ++ x) s.0) s.1)
    (λ e3. then_word (codes "spent") t _ _ k (Exact reserved_text ReservedFits t k) e3
    (λ is f. this_value reserved_text ReservedFits t reserve.Spent k f is tt) (λ e4. absurd cc)))

reserved_complete : (t : List ℕ) (k : Reserved) → Exact reserved_text ReservedFits t k → reserved_at t ≡ Some k
unfolding reserved_at
reserved_complete t (reserve.Job job reg forgiven) is = ap reserved_at is.0 ∙ job_complete job reg forgiven is.1
reserved_complete t (reserve.NoRoom n) is = ap reserved_at is.0
    ∙ bind_is (number_at (decimal n)) (λ m. Some (reserve.NoRoom m)) n (Some (reserve.NoRoom n))
    (number_law.complete (decimal n) n (refl, is.1)) refl
reserved_complete t reserve.Spent is = ap reserved_at is.0

pub reserved_law : IsReader reserved_at (Exact reserved_text ReservedFits)
reserved_law = record { sound = reserved_sound; complete = reserved_complete }

advance_sound : (t : List ℕ) (k : UpdateAnswer) → advance_at t ≡ Some k → Exact advance_text Anything t k
unfolding advance_at
advance_sound t k e = then_behind (codes "transition ") t (λ r. state_at r >>= λ s. Some (Transition s)) _ k
    (Exact advance_text Anything t k) e
    (λ r is f.
    let a = bind_some (state_at r) (λ s. Some (Transition s)) k f in
    this_value advance_text Anything t (Transition a.0) k a.2
    (is ∙ ap (λ (x : List ℕ). codes "transition " ++ x) (state_law.sound r a.0 a.1).0) tt)
    (λ e2. then_word (codes "accepted") t _ _ k (Exact advance_text Anything t k) e2
    (λ is f. this_value advance_text Anything t Accepted k f is tt)
    (λ e3. then_word (codes "unknown") t _ _ k (Exact advance_text Anything t k) e3
    (λ is f. this_value advance_text Anything t Unknown k f is tt)
    (λ e4. then_word (codes "wrong") t _ _ k (Exact advance_text Anything t k) e4
    (λ is f. this_value advance_text Anything t Wrong k f is tt) (λ e5. absurd cc))))

advance_complete : (t : List ℕ) (k : UpdateAnswer) → Exact advance_text Anything t k → advance_at t ≡ Some k
unfolding advance_at
advance_complete t Accepted is = ap advance_at is.0
advance_complete t Unknown is = ap advance_at is.0
advance_complete t Wrong is = ap advance_at is.0
advance_complete t (Transition s) is = ap advance_at is.0
    ∙ bind_is (state_at (state_text s)) (λ x. Some (Transition x)) s (Some (Transition s))
    (state_law.complete (state_text s) s (refl, tt)) refl

pub advance_law : IsReader advance_at (Exact advance_text Anything)
advance_law = record { sound = advance_sound; complete = advance_complete }

-- ---- steps

heard_sound : (t : List ℕ) (k : HeardAs) → heard_at t ≡ Some k → Exact heard_text Anything t k
heard_sound t k e = then_word (codes "new") t _ _ k (Exact heard_text Anything t k) e
    (λ is f. this_value heard_text Anything t heard.New k f is tt)
    (λ e2. then_word (codes "old") t _ _ k (Exact heard_text Anything t k) e2
    (λ is f. this_value heard_text Anything t heard.Old k f is tt)
    (λ e3. then_word (codes "lost") t _ _ k (Exact heard_text Anything t k) e3
    (λ is f. this_value heard_text Anything t heard.Lost k f is tt) (λ e4. absurd cc)))

heard_complete : (k : HeardAs) → heard_at (heard_text k) ≡ Some k
heard_complete heard.New = refl
heard_complete heard.Old = refl
heard_complete heard.Lost = refl

heard_read : (t : List ℕ) (k : HeardAs) → Exact heard_text Anything t k → heard_at t ≡ Some k
heard_read t k is = ap heard_at is.0 ∙ heard_complete k

pub heard_law : IsReader heard_at (Exact heard_text Anything)
heard_law = record { sound = heard_sound; complete = heard_read }

outcome_sound : (t : List ℕ) (k : Submitted) → outcome_at t ≡ Some k → Exact submitted_text SubmittedFits t k
unfolding outcome_at
outcome_sound t k e = then_behind (codes "stored ") t stored_at _ k (Exact submitted_text SubmittedFits t k) e
    (λ r is f. subst (λ (x : List ℕ). Exact submitted_text SubmittedFits x k) (sym is) (stored_sound r k f))
    (λ e2. then_behind (codes "refused folder dropped ") t (λ r. ids_at r >>= λ d. Some (submitted.Folder d)) _ k
    (Exact submitted_text SubmittedFits t k) e2
    (λ r is f.
    let a = bind_some (ids_at r) (λ d. Some (submitted.Folder d)) k f in
    let s = ids_law.sound r a.0 a.1 in
    this_value submitted_text SubmittedFits t (submitted.Folder a.0) k a.2
    (is ∙ ap (λ (x : List ℕ). codes "refused folder dropped " ++ x) s.0) s.1)
    (λ e3. then_word (codes "none") t _ _ k (Exact submitted_text SubmittedFits t k) e3
    (λ is f. this_value submitted_text SubmittedFits t submitted.None k f is tt)
    (λ e4. then_word (codes "listed") t _ _ k (Exact submitted_text SubmittedFits t k) e4
    (λ is f. this_value submitted_text SubmittedFits t submitted.Listed k f is tt)
    (λ e5. then_word (codes "refused digest") t _ _ k (Exact submitted_text SubmittedFits t k) e5
    (λ is f. this_value submitted_text SubmittedFits t submitted.Digest k f is tt)
    (λ e6. then_word (codes "refused capacity") t _ _ k (Exact submitted_text SubmittedFits t k) e6
    (λ is f. this_value submitted_text SubmittedFits t submitted.Capacity k f is tt) (λ e7. absurd cc))))))

outcome_complete : (t : List ℕ) (k : Submitted) → Exact submitted_text SubmittedFits t k → outcome_at t ≡ Some k
unfolding outcome_at
outcome_complete t submitted.None is = ap outcome_at is.0
outcome_complete t submitted.Listed is = ap outcome_at is.0
outcome_complete t (submitted.Stored size dropped) is = ap outcome_at is.0 ∙ stored_complete size dropped is.1
outcome_complete t submitted.Digest is = ap outcome_at is.0
outcome_complete t submitted.Capacity is = ap outcome_at is.0
outcome_complete t (submitted.Folder dropped) is = ap outcome_at is.0
    ∙ bind_is (ids_at (ids_text dropped)) (λ d. Some (submitted.Folder d)) dropped (Some (submitted.Folder dropped))
    (ids_law.complete (ids_text dropped) dropped (refl, is.1)) refl

pub outcome_law : IsReader outcome_at (Exact submitted_text SubmittedFits)
outcome_law = record { sound = outcome_sound; complete = outcome_complete }

-- a word before an id
then_id : (p : List ℕ) (make : List ℕ → Ran) (t : List ℕ) (other : Option Ran) (k : Ran)
    → ((tc : List ℕ) → ran_text (make tc) ≡ p ++ tc) → ((tc : List ℕ) → IsId tc → RanFits (make tc))
    → behind (strip p t) (λ r. id_at r >>= λ tc. Some (make tc)) other ≡ Some k
    → (other ≡ Some k → Exact ran_text RanFits t k) → Exact ran_text RanFits t k
then_id p make t other k text fits e there =
    then_behind p t (λ r. id_at r >>= λ tc. Some (make tc)) other k (Exact ran_text RanFits t k) e
    (λ r is f.
    let a = bind_some (id_at r) (λ tc. Some (make tc)) k f in
    let s = id_law.sound r a.0 a.1 in
    this_value ran_text RanFits t (make a.0) k a.2
    (is ∙ ap (λ (x : List ℕ). p ++ x) s.0 ∙ sym (text a.0)) (fits a.0 s.1))
    there

ran_sound : (t : List ℕ) (k : Ran) → ran_at t ≡ Some k → Exact ran_text RanFits t k
unfolding ran_at
ran_sound t k e = then_id (codes "unlisted ") ran.Unlisted t _ k (λ r. refl) (λ r is. is) e
    (λ e2. then_id (codes "folder ") ran.Folder t _ k (λ r. refl) (λ r is. is) e2
    (λ e3. then_id (codes "built ") ran.Built t _ k (λ r. refl) (λ r is. is) e3
    (λ e4. then_id (codes "refused ") ran.Refused t _ k (λ r. refl) (λ r is. is) e4
    (λ e5. then_word (codes "none") t _ _ k (Exact ran_text RanFits t k) e5
    (λ is f. this_value ran_text RanFits t ran.None k f is tt) (λ e6. absurd cc)))))

id_read : (tc : List ℕ) (make : List ℕ → Ran) → IsId tc → (id_at tc >>= λ x. Some (make x)) ≡ Some (make tc)
id_read tc make is = bind_is (id_at tc) (λ x. Some (make x)) tc (Some (make tc)) (id_law.complete tc tc (refl, is)) refl

ran_complete : (t : List ℕ) (k : Ran) → Exact ran_text RanFits t k → ran_at t ≡ Some k
unfolding ran_at
ran_complete t ran.None is = ap ran_at is.0
ran_complete t (ran.Unlisted tc) is = ap ran_at is.0 ∙ id_read tc ran.Unlisted is.1
ran_complete t (ran.Folder tc) is = ap ran_at is.0 ∙ id_read tc ran.Folder is.1
ran_complete t (ran.Built tc) is = ap ran_at is.0 ∙ id_read tc ran.Built is.1
ran_complete t (ran.Refused tc) is = ap ran_at is.0 ∙ id_read tc ran.Refused is.1

pub ran_law : IsReader ran_at (Exact ran_text RanFits)
ran_law = record { sound = ran_sound; complete = ran_complete }
