-- What comes from a folder that does not fail and tells its files, and from a builder whose rows are told, is
-- one.
use Rattle.std.proofs.Common.{◌≡◌, inr, ℕ, Bool, true, false, List, [], ◌∷◌, ◌++◌, Option, Some, None}
use Rattle.std.proofs.Common.{Result, Ok, Err, refl, sym, ap, subst, ◌∙◌}
use Rattle.std.specs.Prelude.{slice_get, drop}
use Rattle.std.proofs.lemmas.Option.{same_Some}
use Rattle.dist_types.specs.Builder.{Built}
use Rattle.dist_types.specs.Content.{Recorded}
use Rattle.dist_types.specs.declared.builder.BuildFault.{BuildFault}
use Rattle.dist_types.specs.declared.builder.BuildFault.TheVariants as build
use Rattle.dist_types.specs.declared.fault.Memory as want
use Rattle.dist_types.specs.declared.results.BuildResult.{BuildResult}
use Rattle.toolchain_cache.specs.Archives.{Archives}
use Rattle.folders.specs.Files.{Files}
use Rattle.folders.specs.Held.{Held}
use Rattle.build_server.specs.Books.{held_for, is_listed, Fails}
use Rattle.build_server.specs.Builds.{Builder, Order, row_for, IsBuilt, outcome_of}
use Rattle.build_server.specs.Rules.{submit_verdict, Comes, Finds}
use Rattle.build_server.specs.declared.run.Outcome.{Outcome}
use Rattle.build_server.specs.declared.run.Outcome.TheVariants as outcome
use Rattle.build_server.specs.declared.run.Taken.{Taken}
use Rattle.build_server.specs.declared.run.Taken.TheVariants as taken
use Rattle.build_server.specs.declared.submit.Submitted.{Submitted}
use Rattle.build_server.specs.declared.submit.Submitted.TheVariants as submitted
use Rattle.farm_script.specs.declared.event.Event.{Event}
use Rattle.farm_entries.specs.declared.site.Site.{Site as Setup}
use Rattle.farm_entries.specs.declared.entry.Entry.{Entry}
use Rattle.farm_entries.specs.Next.{IsNext}
use Rattle.farm_entries.specs.Servers.{ServerNow}
use Rattle.farm_entries.specs.Served.{books_of}
use Rattle.farm_entries.specs.Weather.{Outside, between, books_in, order_of, IsOrdered, Worked, OpensBetween}
use Rattle.farm_entries.specs.Weather.{rows_of, IsTold}
use Rattle.farm_laws.proofs.FreeLemmas.{found_none}
use Rattle.farm_laws.proofs.OneLemmas.{Agrees, agreed_next}

-- ---- submissions

comes_so : (verdict o : Submitted) (old new : Held) → ¬ (Fails old new) → Comes verdict o old new
    → o ≡ verdict
comes_so verdict (submitted.Folder gone) old new sound comes = absurd (sound comes.1)
comes_so verdict submitted.None old new sound comes = comes.0
comes_so verdict submitted.Listed old new sound comes = comes.0
comes_so verdict (submitted.Stored size gone) old new sound comes = comes.0
comes_so verdict submitted.Digest old new sound comes = comes.0
comes_so verdict submitted.Capacity old new sound comes = comes.0

-- ---- openings

are_told : (old new : Held) → ¬ (Fails old new) → (files : Files) × (old.files ≡ Some files)
are_told old new sound = by_files old.files refl
  where
    by_files : (o : Option Files) → old.files ≡ o → (files : Files) × (old.files ≡ Some files)
    by_files None none = absurd (sound (inr none))
    by_files (Some files) are = (files, are)

opens_so : (a b c : Outside) (s : ServerNow) (o p : Option Archives) → ¬ (Fails a.folder b.folder)
    → ¬ (Fails a.folder c.folder) → OpensBetween a b s o → OpensBetween a c s p → o ≡ p
opens_so a b c s (Some list) (Some other) sound steady x y =
    let (files, are) = are_told a.folder b.folder sound in
    ap (λ (l : Archives). Some l) (x.0 files are ∙ sym (y.0 files are))
opens_so a b c s None p sound steady x y = absurd (sound x.0)
opens_so a b c s (Some list) None sound steady x y = absurd (steady y.0)

-- ---- runs

end_so : (xs : List Built) (x y : Built) → xs ++ x ∷ [] ≡ xs ++ y ∷ [] → x ≡ y
end_so [] x y e = same_Some x y (ap (λ (l : List Built). slice_get l 0) e)
end_so (z ∷ zs) x y e = end_so zs x y (ap (λ (l : List Built). drop 1 l) e)

recorded_so : (old : Option (List Built)) (rows : List Built) (x y : Built) → Recorded x old (Some rows)
    → Recorded y old (Some rows) → x ≡ y
recorded_so None rows x y a b =
    let no : ◌≡◌ {A = Option (List Built)} (Some rows) None = a in
    absurd cc
recorded_so (Some old) rows x y a b =
    let one : rows ≡ old ++ x ∷ [] = same_Some rows (old ++ x ∷ []) a in
    let other : rows ≡ old ++ y ∷ [] = same_Some rows (old ++ y ∷ []) b in
    end_so old x y (sym one ∙ other)

-- the builder's last row is that of a build in the toolchain, and the outcome is what it heard
record IsHeardIn (tc : List ℕ) (old : Option (List Built)) (rows : List Built) (order : Order)
    (o : Outcome) : Type 0 where
  pub archive : List ℕ
  pub heard : Result BuildResult BuildFault
  pub row : Recorded (row_for tc archive order heard) old (Some rows)
  pub gives : Ok o ≡ outcome_of tc archive heard

abbrev Answered : Type 0
Answered = Result Outcome (Taken × want.Memory)

ok_of : (x y : Outcome) → ◌≡◌ {A = Answered} (Ok x) (Ok y) → x ≡ y
ok_of x y e = cc

heard_same : (tc first second : List ℕ) (heard : Result BuildResult BuildFault) (o p : Outcome)
    → Ok o ≡ outcome_of tc first heard → Ok p ≡ outcome_of tc second heard → o ≡ p
heard_same tc first second (Ok built) o p a b = ok_of o p (a ∙ sym b)
heard_same tc first second (Err build.Refused) o p a b = ok_of o p (a ∙ sym b)
heard_same tc first second (Err build.Memory) o p a b = absurd cc

heard_so : (tc : List ℕ) (old : Option (List Built)) (rows : List Built) (order : Order) (o p : Outcome)
    → IsHeardIn tc old rows order o → IsHeardIn tc old rows order p → o ≡ p
heard_so tc old rows order o p a b =
    let same : a.heard ≡ b.heard = ap (λ (r : Built). r.answer)
    (recorded_so old rows (row_for tc a.archive order a.heard) (row_for tc b.archive order b.heard) a.row
    b.row) in
    heard_same tc a.archive b.archive b.heard o p
    (subst (λ (h : Result BuildResult BuildFault). Ok o ≡ outcome_of tc a.archive h) same a.gives) b.gives

heard_in : (tc archive : List ℕ) (old new : Builder) (rows : List Built) (order : Order) (o : Outcome)
    (heard : Result BuildResult BuildFault) → IsBuilt tc archive order heard old new
    → Ok o ≡ outcome_of tc archive heard → new.rows ≡ Some rows → IsHeardIn tc old.rows rows order o
heard_in tc archive old new rows order o (Ok built) is gives are = record {
  archive = archive;
  heard = Ok built;
  row = sym are ∙ is.row (λ e. cc);
  gives = gives;
}
heard_in tc archive old new rows order o (Err build.Refused) is gives are = record {
  archive = archive;
  heard = Err build.Refused;
  row = sym are ∙ is.row (λ e. cc);
  gives = gives;
}
heard_in tc archive old new rows order o (Err build.Memory) is gives are = absurd cc

-- what a run of a job with that toolchain came to, where that is listed and where it is not
abbrev CameTo : Bool → List ℕ → Option (List Built) → List Built → Order → Outcome → Type 0
CameTo false tc old rows order o = o ≡ outcome.Unlisted tc
CameTo true tc old rows order o = IsHeardIn tc old rows order o

came_so : (listed : Bool) (tc : List ℕ) (old : Option (List Built)) (rows : List Built) (order : Order)
    (o p : Outcome) → CameTo listed tc old rows order o → CameTo listed tc old rows order p → o ≡ p
came_so false tc old rows order o p a b = a ∙ sym b
came_so true tc old rows order o p a b = heard_so tc old rows order o p a b

came : (a b : Outside) (s : ServerNow) (tc : List ℕ) (rows : List Built) (order : Order) (o : Outcome)
    (t : Taken) (old new : Option Builder) → ¬ (Fails a.folder b.folder) → rows_of new ≡ Some rows
    → Finds (Some tc) (books_in s a) (books_in s b) t → IsOrdered old new t order o
    → CameTo (is_listed tc s.archives) tc (rows_of old) rows order o
came a b s tc rows order o t None new sound are finds asked = absurd asked
came a b s tc rows order o t (Some old) None sound are finds asked = absurd asked
came a b s tc rows order o taken.None (Some old) (Some new) sound are finds asked = absurd finds
came a b s tc rows order o (taken.Unlisted at) (Some old) (Some new) sound are finds asked =
    subst (λ (l : Bool). CameTo l tc old.rows rows order o) (sym finds.1)
    (subst (λ (x : List ℕ). o ≡ outcome.Unlisted x) finds.0 (ok_of o (outcome.Unlisted at) asked.1))
came a b s tc rows order o (taken.Folder at) (Some old) (Some new) sound are finds asked =
    absurd (sound finds.2)
came a b s tc rows order o (taken.Read at archive) (Some old) (Some new) sound are finds asked =
    subst (λ (l : Bool). CameTo l tc old.rows rows order o) (sym finds.1)
    (subst (λ (x : List ℕ). IsHeardIn x old.rows rows order o) finds.0
    (heard_in at archive old new rows order o asked.heard asked.built asked.gives are))

works_so : (a b c : Outside) (rows : List Built) (s : ServerNow) (found : Option (List ℕ)) (order : Order)
    (o p : Outcome) → IsTold a b rows → IsTold a c rows → Worked a b s found order o
    → Worked a c s found order p → o ≡ p
works_so a b c rows s None order o p told other x y =
    found_none a b s order o x.taken x.finds x.asked
    ∙ sym (found_none a c s order p y.taken y.finds y.asked)
works_so a b c rows s (Some tc) order o p told other x y =
    came_so (is_listed tc s.archives) tc (rows_of a.builder) rows order o p
    (came a b s tc rows order o x.taken a.builder b.builder told.sound told.rows_are x.finds x.asked)
    (came a c s tc rows order p y.taken a.builder c.builder other.sound other.rows_are y.finds y.asked)

-- ---- entries

pub told_agrees : (a b c : Outside) (rows : List Built) → IsTold a b rows → IsTold a c rows
    → Agrees (between a b) (between a c)
told_agrees a b c rows told other = record {
  stores = λ s job bytes o p x y.
      comes_so (submit_verdict (books_of s) (held_for job s.held) bytes) o a.folder b.folder told.sound x.0
      ∙ sym (comes_so (submit_verdict (books_of s) (held_for job s.held) bytes) p a.folder c.folder
      other.sound y.0);
  works = λ s found run inputs o p x y. works_so a b c rows s found (order_of run inputs) o p told other x y;
  opens = λ s o p x y. opens_so a b c s o p told.sound other.sound x y;
}

pub told_next : (setup : Setup) (log : List Entry) (event : Event) (old one other : Outside)
    (rows : List Built) (a b : Entry) → IsTold old one rows → IsTold old other rows
    → IsNext (between old one) setup log event a → IsNext (between old other) setup log event b → a ≡ b
told_next setup log event old one other rows a b told same p q =
    agreed_next (between old one) (between old other) (told_agrees old one other rows told same) setup log
    event a b p q
