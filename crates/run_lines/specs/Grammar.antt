-- Which values have a line: those whose numbers fit their types. A line is the one text of such a value.
use Rattle.std.specs.Prelude.{◌≡◌, ℕ, ◌^◌, ◌<◌, ◌⊎◌, List, [], ◌∷◌, length, Option, Some, None, Bool, true, false}
use Rattle.std.specs.Prelude.{not, ◌==◌}
use Rattle.std.specs.List.{list_all}
use Rattle.dist_types.specs.Addr.{IsAddrText, addr_text}
use Rattle.dist_types.specs.declared.addr.Addr.{Addr}
use Rattle.dist_types.specs.Toolchain.{is_lower_hex}
use Rattle.dist_types.specs.declared.ids.JobId.{JobId}
use Rattle.core_rules.specs.declared.entry.CoreKind.{CoreKind}
use Rattle.core_rules.specs.declared.entry.CoreKind.TheVariants as core
use Rattle.core_rules.specs.declared.entry.Reserved.{Reserved}
use Rattle.core_rules.specs.declared.entry.Reserved.TheVariants as reserve
use Rattle.core_rules.specs.declared.rows.ServerRow.{ServerRow}
use Rattle.farm_script.specs.Grammar.{IsHex, IsLine}
use Rattle.farm_script.specs.declared.lines.Line.TheVariants as script
use Rattle.build_server.specs.declared.submit.Submitted.{Submitted}
use Rattle.build_server.specs.declared.submit.Submitted.TheVariants as submitted
use Rattle.build_server.specs.declared.run.Ran.{Ran}
use Rattle.build_server.specs.declared.run.Ran.TheVariants as ran
use Rattle.farm_entries.specs.declared.entry.StepKind.{StepKind}
use Rattle.farm_entries.specs.declared.entry.StepKind.TheVariants as step
use Rattle.farm_entries.specs.Printed.{hex_text}
use Rattle.run_lines.specs.Texts.{event_text, line_text}
use Rattle.run_lines.specs.declared.line.RunLine.{RunLine}
use Rattle.run_lines.specs.declared.line.RunLine.TheVariants as line

-- the number fits 64 bits
abbrev pub Fits : ℕ → Type 0
Fits n = n < 2 ^ 64

-- each of the values is so
abbrev pub Each : {A : Type 0} → (A → Type 0) → List A → Type 0
Each fits [] = Unit {0}
Each fits (x ∷ xs) = fits x × Each fits xs

-- each of the numbers fits
abbrev pub AllFit : List ℕ → Type 0
AllFit ns = Each Fits ns

-- the job's number fits
abbrev pub JobFits : JobId → Type 0
JobFits j = Fits j.0

-- each of the jobs' numbers does
abbrev pub JobsFit : List JobId → Type 0
JobsFit js = Each JobFits js

-- it does, if there is one
abbrev pub SomeFits : Option ℕ → Type 0
SomeFits None = Unit {0}
SomeFits (Some n) = Fits n

-- the text that is printed of the address is one of its texts
abbrev pub HasText : Addr → Type 0
HasText addr = IsAddrText (addr_text addr) addr

-- the hex that is printed of the bytes is a hex of them
abbrev pub HasHex : List ℕ → Type 0
HasHex bytes = IsHex (hex_text bytes) bytes

-- 64 hex digits in lower case
abbrev pub IsId : List ℕ → Type 0
IsId id = (length id ≡ 64) × (list_all is_lower_hex id ≡ true)

-- each of the texts is an id
abbrev pub AreIds : List (List ℕ) → Type 0
AreIds ids = Each IsId ids

-- an archive has an id, and its size fits
abbrev pub ArchiveFits : List ℕ × ℕ → Type 0
ArchiveFits p = IsId p.0 × Fits p.1

-- each of the archives does
abbrev pub ArchivesFit : List (List ℕ × ℕ) → Type 0
ArchivesFit ps = Each ArchiveFits ps

-- what a reserve gave
abbrev pub ReservedFits : Reserved → Type 0
ReservedFits (reserve.Job job reg forgiven) = Fits job.0 × Fits reg × AllFit forgiven
ReservedFits (reserve.NoRoom standing) = Fits standing
ReservedFits reserve.Spent = Unit {0}

-- what a core entry says; no line shows a key
abbrev pub CoreFits : CoreKind → Type 0
CoreFits (core.Reserve reserved) = ReservedFits reserved
CoreFits (core.Commit job state kept) = Fits job.0
CoreFits (core.Undo job noted ended) = Fits job.0 × SomeFits noted
CoreFits (core.Beat server nonce cpus key pruned reaped replaced is_new) =
    HasText server × Fits nonce × Fits cpus × (key ≡ []) × AllFit pruned × JobsFit reaped × SomeFits replaced
CoreFits (core.Update server job state answer) = HasText server × Fits job.0
CoreFits (core.Status pruned servers cpus jobs) = AllFit pruned × Fits servers × Fits cpus × Fits jobs
CoreFits (core.Drain server nonce on reg) = HasText server × Fits nonce × SomeFits reg

-- how a submission went
abbrev pub SubmittedFits : Submitted → Type 0
SubmittedFits (submitted.Stored size dropped) = Fits size × AreIds dropped
SubmittedFits (submitted.Folder dropped) = AreIds dropped
SubmittedFits other = Unit {0}

-- how a run went
abbrev pub RanFits : Ran → Type 0
RanFits ran.None = Unit {0}
RanFits (ran.Unlisted tc) = IsId tc
RanFits (ran.Folder tc) = IsId tc
RanFits (ran.Built tc) = IsId tc
RanFits (ran.Refused tc) = IsId tc

-- what a build server did; no line shows what a build gave
abbrev pub StepFits : StepKind → Type 0
StepFits (step.Heard as_what) = Unit {0}
StepFits (step.Assigned job tc ready) = Fits job.0 × IsId tc
StepFits (step.Submitted job outcome) = Fits job.0 × SubmittedFits outcome
StepFits (step.Ran job how result) = Fits job.0 × RanFits how × (result ≡ None)
StepFits (step.Finished job) = Fits job.0
StepFits (step.Unreported job) = Fits job.0
StepFits (step.Opened archives) = ArchivesFit archives

-- a registration; no line shows whether it drains
abbrev pub RowFits : ServerRow → Type 0
RowFits row = HasText row.server × Fits row.reg × Fits row.cpus × Fits row.nonce × Fits row.seen × Fits row.load
    × SomeFits row.error × (row.draining ≡ false)

-- a value that has a line; of an entry, one whose event has a line in scripts
abbrev pub LineFits : RunLine → Type 0
LineFits (line.Run version entries) = ((version ≡ 1) ⊎ (version ≡ 2)) × Fits entries
LineFits (line.Entry number e) = Fits number × IsLine (event_text e) (script.Event e)
LineFits (line.Core number kind) = Fits number × CoreFits kind
LineFits (line.Step server kind) = HasText server × StepFits kind
LineFits (line.Call target bytes) = HasText target × HasHex bytes
LineFits (line.Reply to bytes) = Fits to × HasHex bytes
LineFits (line.Word w) = Unit {0}
LineFits line.Books = Unit {0}
LineFits (line.Ids base count) = Fits base × Fits count
LineFits (line.Server row) = RowFits row
LineFits (line.Job job reg state claimed) = Fits job.0 × Fits reg
LineFits (line.Held server job tc) = HasText server × Fits job.0 × IsId tc
LineFits (line.Archive server tc size) = HasText server × IsId tc × Fits size
LineFits line.End = Unit {0}

-- a line of a printed run, without its end
abbrev pub IsRunLine : List ℕ → RunLine → Type 0
IsRunLine t l = (t ≡ line_text l) × LineFits l

-- it is no line end
abbrev pub keeps : ℕ → Bool
keeps b = not (b == 10)

-- a text without a line end
abbrev pub Unbroken : List ℕ → Type 0
Unbroken t = list_all keeps t ≡ true
