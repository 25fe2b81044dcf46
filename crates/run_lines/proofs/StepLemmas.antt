-- What a step's line says is its one text, and that text is read.
use Rattle.std.proofs.Common.{◌≡◌, ℕ, true, List, [], ◌∷◌, ◌++◌, Option, Some, None, codes, refl, sym, ap, subst, ◌∙◌}
use Rattle.std.specs.List.{list_all}
use Rattle.std.specs.Fmt.{decimal}
use Rattle.dist_types.specs.Addr.{◌>>=◌}
use Rattle.dist_types.proofs.AddrLemmas.{bind_some}
use Rattle.farm_script.specs.Words.{first_word, is_visible}
use Rattle.farm_script.specs.Fields.{number_at}
use Rattle.farm_script.specs.Grammar.{IsNumber}
use Rattle.farm_script.proofs.FieldLemmas.{number_law}
use Rattle.farm_script.proofs.WordLemmas.{IsReader, bind_is, visible_lacks, first_word_sound, first_word_complete}
use Rattle.farm_entries.specs.declared.entry.StepKind.{StepKind}
use Rattle.farm_entries.specs.declared.entry.StepKind.TheVariants as step
use Rattle.farm_entries.specs.Printed.{heard_text, archives_text, step_text}
use Rattle.run_lines.specs.Grammar.{StepFits, ArchivesFit}
use Rattle.run_lines.specs.Fields.{job_of, archives_at}
use Rattle.run_lines.specs.StepLines.{heard_at, step_behind, step_at}
use Rattle.run_lines.proofs.FieldLemmas.{Exact, Anything, pre, at_word, then_word, this_value}
use Rattle.run_lines.proofs.ItemLemmas.{archives_law}
use Rattle.run_lines.proofs.KindLemmas.{heard_law}
use Rattle.run_lines.proofs.StepChains.{assigned_sound, assigned_complete, submitted_sound, submitted_complete}
use Rattle.run_lines.proofs.StepChains.{run_step_sound, run_step_complete}

-- a value behind a word, alone
alone_sound : {A : Type 0} (word : List ℕ) (read : List ℕ → Option A) (Is : List ℕ → A → Type 0)
    → IsReader read Is → (make : A → StepKind) (t : List ℕ) (k : StepKind)
    → ((x : A) → Is t x → Exact step_text StepFits (pre word t) (make x))
    → (read t >>= λ x. Some (make x)) ≡ Some k → Exact step_text StepFits (pre word t) k
alone_sound word read Is law make t k said e =
    let a = bind_some (read t) (λ x. Some (make x)) k e in
    let is = said a.0 (law.sound t a.0 a.1) in
    this_value step_text StepFits (pre word t) (make a.0) k a.2 is.0 is.1

alone_complete : {A : Type 0} (read : List ℕ → Option A) (Is : List ℕ → A → Type 0) → IsReader read Is
    → (make : A → StepKind) (t : List ℕ) (x : A) → Is t x → (read t >>= λ y. Some (make y)) ≡ Some (make x)
alone_complete read Is law make t x is = bind_is (read t) (λ y. Some (make y)) x (Some (make x))
    (law.complete t x is) refl

behind_sound : (w t : List ℕ) (k : StepKind) → step_behind w t ≡ Some k
    → Exact step_text StepFits (w ++ 32 ∷ t) k
behind_sound w t k e =
    then_word (codes "heard") w _ _ k (Exact step_text StepFits (w ++ 32 ∷ t) k) e
    (λ is f. at_word step_text StepFits (codes "heard ") (codes "heard") w t k is refl
    (alone_sound (codes "heard ") heard_at (Exact heard_text Anything) heard_law step.Heard t k
    (λ x s. (ap (pre (codes "heard ")) s.0, tt)) f))
    (λ e1. then_word (codes "assigned") w _ _ k (Exact step_text StepFits (w ++ 32 ∷ t) k) e1
    (λ is f. at_word step_text StepFits (codes "assigned ") (codes "assigned") w t k is refl (assigned_sound t k f))
    (λ e2. then_word (codes "submitted") w _ _ k (Exact step_text StepFits (w ++ 32 ∷ t) k) e2
    (λ is f. at_word step_text StepFits (codes "submitted ") (codes "submitted") w t k is refl
    (submitted_sound t k f))
    (λ e3. then_word (codes "ran") w _ _ k (Exact step_text StepFits (w ++ 32 ∷ t) k) e3
    (λ is f. at_word step_text StepFits (codes "ran ") (codes "ran") w t k is refl (run_step_sound t k f))
    (λ e4. then_word (codes "finished") w _ _ k (Exact step_text StepFits (w ++ 32 ∷ t) k) e4
    (λ is f. at_word step_text StepFits (codes "finished ") (codes "finished") w t k is refl
    (alone_sound (codes "finished ") number_at IsNumber number_law (λ n. step.Finished (job_of n)) t k
    (λ x s. (ap (pre (codes "finished ")) s.0, s.1)) f))
    (λ e5. then_word (codes "unreported") w _ _ k (Exact step_text StepFits (w ++ 32 ∷ t) k) e5
    (λ is f. at_word step_text StepFits (codes "unreported ") (codes "unreported") w t k is refl
    (alone_sound (codes "unreported ") number_at IsNumber number_law (λ n. step.Unreported (job_of n)) t k
    (λ x s. (ap (pre (codes "unreported ")) s.0, s.1)) f))
    (λ e6. then_word (codes "opened") w _ _ k (Exact step_text StepFits (w ++ 32 ∷ t) k) e6
    (λ is f. at_word step_text StepFits (codes "opened ") (codes "opened") w t k is refl
    (alone_sound (codes "opened ") archives_at (Exact archives_text ArchivesFit) archives_law step.Opened t k
    (λ x s. (ap (pre (codes "opened ")) s.0, s.1)) f))
    (λ e7. absurd cc)))))))

step_sound : (t : List ℕ) (k : StepKind) → step_at t ≡ Some k → Exact step_text StepFits t k
unfolding step_at
step_sound t k e =
    let a = bind_some (first_word t) (λ w. step_behind w.0 w.1) k e in
    subst (λ (x : List ℕ). Exact step_text StepFits x k) (sym (first_word_sound t a.0.0 a.0.1 a.1))
    (behind_sound a.0.0 a.0.1 k a.2)

-- a step is read by its word
by_word : (word r t : List ℕ) (k : Option StepKind) → list_all is_visible word ≡ true
    → t ≡ word ++ 32 ∷ r → step_behind word r ≡ k → step_at t ≡ k
unfolding step_at
by_word word r t k visible spelled h = ap step_at spelled
    ∙ bind_is (first_word (word ++ 32 ∷ r)) _ (word, r) k
    (first_word_complete word r (visible_lacks word visible)) h

step_complete : (t : List ℕ) (k : StepKind) → Exact step_text StepFits t k → step_at t ≡ Some k
step_complete t (step.Heard h) is = by_word (codes "heard") (heard_text h) t _ refl is.0
    (alone_complete heard_at (Exact heard_text Anything) heard_law step.Heard (heard_text h) h (refl, tt))
step_complete t (step.Assigned job tc ready) is = by_word (codes "assigned") _ t _ refl is.0
    (assigned_complete job tc ready is.1)
step_complete t (step.Submitted job outcome) is = by_word (codes "submitted") _ t _ refl is.0
    (submitted_complete job outcome is.1)
step_complete t (step.Ran job how result) is = by_word (codes "ran") _ t _ refl is.0
    (run_step_complete job how (is.1.0, is.1.1, refl)
    ∙ ap (λ r. Some (step.Ran job how r)) (sym is.1.2))
step_complete t (step.Finished job) is = by_word (codes "finished") (decimal job.0) t _ refl is.0
    (alone_complete number_at IsNumber number_law (λ n. step.Finished (job_of n)) (decimal job.0) job.0 (refl, is.1))
step_complete t (step.Unreported job) is = by_word (codes "unreported") (decimal job.0) t _ refl is.0
    (alone_complete number_at IsNumber number_law (λ n. step.Unreported (job_of n)) (decimal job.0) job.0
    (refl, is.1))
step_complete t (step.Opened archives) is = by_word (codes "opened") (archives_text archives) t _ refl is.0
    (alone_complete archives_at (Exact archives_text ArchivesFit) archives_law step.Opened (archives_text archives)
    archives (refl, is.1))

pub step_law : IsReader step_at (Exact step_text StepFits)
step_law = record { sound = step_sound; complete = step_complete }
