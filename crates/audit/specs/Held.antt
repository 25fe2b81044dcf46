-- What it is that a text holds, and which is its first fault, in the words of the rules.
use Rattle.std.specs.Prelude.{◌≡◌, ℕ, suc, ◌+◌, ◌<◌, ◌≤◌, ◌^◌, ◌⊎◌, true, false, List, [], ◌∷◌, ◌++◌, length}
use Rattle.dist_types.specs.declared.ids.JobId.{JobId}
use Rattle.core_rules.specs.declared.start.Start.{Start}
use Rattle.core_rules.specs.declared.entry.CoreEntry.{CoreEntry}
use Rattle.core_rules.specs.declared.call.Call.{Call}
use Rattle.core_rules.specs.declared.call.Call.TheVariants as call
use Rattle.core_rules.specs.Log.{Core, logged, names_job}
use Rattle.core_rules.specs.Same.{same_but_key}
use Rattle.core_rules.specs.Laws.{IsLegal}
use Rattle.core_rules.specs.Rule.{rule, IsCall}
use Rattle.audit.specs.declared.mark.Mark.{Mark}
use Rattle.audit.specs.declared.mark.Mark.TheVariants as mark
use Rattle.audit.specs.declared.mark.Book.{Book}
use Rattle.line_program.specs.declared.why.Why.{Why}
use Rattle.line_program.specs.declared.why.Why.TheVariants as why
use Rattle.audit.specs.Reading.{Read}
use Rattle.audit.specs.FirstBad.{IsPrinted}
use Rattle.audit.specs.Replay.{Judged, is_begun, HasOneNumber}
use Rattle.audit.specs.Books.{due_books}
use Rattle.audit.specs.Verdict.{start_of}

-- a heartbeat's key is left aside: the call has none
abbrev pub HasNoKey : Call → Type 0
HasNoKey (call.Beat now server nonce cpus key) = key ≡ []
HasNoKey other = Unit {0}

-- A core entry has the number that is due, and is the rule's for some call over those before it; a build
-- stands behind the accepted start of its job, and is the job's first. Behind it stands this.
abbrev pub IsGoodMark : Judged → Mark → Judged → Type 0
IsGoodMark j (mark.Core line number e) k = (number ≡ length j.core.log) × (c : Call) × HasNoKey c × IsCall j.core c
    × (same_but_key (rule j.core c) e ≡ true) × (k ≡ record { core = logged j.core (rule j.core c); built = j.built })
IsGoodMark j (mark.Built line job) k = (is_begun j.core.log job ≡ true) × (names_job j.built job ≡ false)
    × (k ≡ record { core = j.core; built = j.built ++ job ∷ [] })

-- each of them, behind those before it
abbrev pub AllGood : Judged → List Mark → Judged → Type 0
AllGood j [] k = j ≡ k
AllGood j (m ∷ ms) k = (next : Judged) × IsGoodMark j m next × AllGood next ms k

-- the line of a mark, and why it is refused where it is not good
abbrev pub cause_of : Mark → ℕ × Why
cause_of (mark.Core line number e) = (line, why.Core)
cause_of (mark.Built line job) = (line, why.Build)

-- the first that is not good has this cause
abbrev pub FirstFault : Judged → List Mark → ℕ × Why → Type 0
FirstFault j [] x = ⊥
FirstFault j (m ∷ ms) x = ((x ≡ cause_of m) × ((k : Judged) → IsGoodMark j m k → ⊥))
    ⊎ ((next : Judged) × IsGoodMark j m next × FirstFault next ms x)

-- The text is a printed run; no more ids are taken than were given; each core entry is the rule's, and each
-- build a job's first behind its start; and the books are those of the entries.
pub record IsHeld (text : List ℕ) : Type 0 where
  pub run : Read
  pub printed : IsPrinted text run
  pub given : run.made ≤ run.count
  pub end : Judged
  pub good : AllGood (start_of run) run.marks end
  pub books : run.books ≡ due_books end.core.log

-- the run is outside its given ids, or a mark is the first that is not good
abbrev pub IsFault : Read → ℕ × Why → Type 0
IsFault r x = ((r.count < r.made) × (x ≡ (r.ids_line, why.Core)))
    ⊎ ((r.made ≤ r.count) × FirstFault (start_of r) r.marks x)

-- the first place at which two lists of lines differ, one too many or too few included
abbrev pub IsFirstDifference : List Book → List Book → ℕ → Type 0
IsFirstDifference [] [] i = ⊥
IsFirstDifference [] (d ∷ ds) i = i ≡ 0
IsFirstDifference (p ∷ ps) [] i = i ≡ 0
IsFirstDifference (p ∷ ps) (d ∷ ds) i = ((i ≡ 0) × (p ≡ d → ⊥))
    ⊎ ((p ≡ d) × (k : ℕ) × (i ≡ suc k) × IsFirstDifference ps ds k)

-- The text is a printed run whose core entries and builds are good, and whose books first differ at this line.
pub record IsWrongBook (text : List ℕ) (n : ℕ) : Type 0 where
  pub run : Read
  pub printed : IsPrinted text run
  pub given : run.made ≤ run.count
  pub end : Judged
  pub good : AllGood (start_of run) run.marks end
  pub place : ℕ
  pub differs : IsFirstDifference run.books (due_books end.core.log) place
  pub line : n ≡ run.ids_line + 1 + place
