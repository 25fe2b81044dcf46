-- The printed run: the text of a farm and its log.
use Rattle.std.specs.Prelude.{ℕ, ◌+◌, List, [], ◌∷◌, ◌++◌, length, Option, Some, None, Bool, true, false}
use Rattle.std.specs.Prelude.{codes}
use Rattle.std.specs.List.{flat_map}
use Rattle.std.specs.Fmt.{decimal}
use Rattle.hex.specs.Hex.{encode_lower}
use Rattle.dist_types.specs.Addr.{addr_text}
use Rattle.dist_types.specs.declared.addr.Addr.{Addr}
use Rattle.dist_types.specs.Ids.{state_text}
use Rattle.dist_types.specs.declared.ids.JobId.{JobId}
use Rattle.dist_types.specs.declared.results.JobState.{JobState}
use Rattle.dist_types.specs.declared.rules.Rules.{Rules}
use Rattle.dist_types.specs.declared.rules.Rules.TheVariants.{One, Two}
use Rattle.core_rules.specs.Reservation.{Booking, bookings, is_claimed}
use Rattle.core_rules.specs.Job.{state_of}
use Rattle.core_rules.specs.Rows.{servers_of, unended_by_id}
use Rattle.core_rules.specs.declared.rows.ServerRow.{ServerRow}
use Rattle.core_rules.specs.declared.entry.CoreEntry.{CoreEntry}
use Rattle.core_rules.specs.declared.entry.CoreKind.{CoreKind}
use Rattle.core_rules.specs.declared.entry.CoreKind.TheVariants as core
use Rattle.core_rules.specs.declared.entry.Reserved.{Reserved}
use Rattle.core_rules.specs.declared.entry.Reserved.TheVariants.{Job, NoRoom, Spent}
use Rattle.core_rules.specs.declared.entry.UpdateAnswer.{UpdateAnswer}
use Rattle.core_rules.specs.declared.entry.UpdateAnswer.TheVariants.{Accepted, Unknown, Wrong, Transition}
use Rattle.farm_entries.specs.declared.site.Site.{Site as Setup}
use Rattle.farm_script.specs.declared.setup.SetupScheduler.{SetupScheduler}
use Rattle.farm_script.specs.declared.event.EventKind.{EventKind}
use Rattle.farm_script.specs.declared.event.EventKind.TheVariants as event
use Rattle.build_server.specs.declared.submit.Submitted.{Submitted as Submission}
use Rattle.build_server.specs.declared.submit.Submitted.TheVariants as submitted
use Rattle.build_server.specs.declared.run.Ran.{Ran as Went}
use Rattle.build_server.specs.declared.run.Ran.TheVariants as ran
use Rattle.farm_entries.specs.Servers.{ServerNow, server_of}
use Rattle.farm_entries.specs.declared.entry.Entry.{Entry}
use Rattle.farm_entries.specs.declared.entry.HeardAs.{HeardAs}
use Rattle.farm_entries.specs.declared.entry.HeardAs.TheVariants.{New, Old, Lost}
use Rattle.farm_entries.specs.declared.entry.StepKind.{StepKind}
use Rattle.farm_entries.specs.declared.entry.StepKind.TheVariants.{Heard, Assigned, Submitted, Ran, Finished}
use Rattle.farm_entries.specs.declared.entry.StepKind.TheVariants.{Unreported, Opened}
use Rattle.farm_entries.specs.declared.entry.Step.{Step}
use Rattle.farm_entries.specs.declared.entry.OutCall.{OutCall}
use Rattle.farm_entries.specs.declared.entry.Reply.{Reply}
use Rattle.farm_entries.specs.declared.entry.EntryWord.{EntryWord}
use Rattle.farm_entries.specs.declared.entry.EntryWord.TheVariants.{Void, Down, Waiting, Died}
use Rattle.line_program.specs.Texts.{◌⧺◌}
use Rattle.farm_entries.specs.Seen.{core_log}

-- ---- fields

-- numbers joined by commas, or a dash
abbrev pub numbers_text : List ℕ → List ℕ
numbers_text [] = codes "-"
numbers_text (n ∷ ns) = decimal n ++ flat_map (λ m. codes "," ++ decimal m) ns

-- the same for the numbers of jobs
abbrev pub jobs_text : List JobId → List ℕ
jobs_text [] = codes "-"
jobs_text (j ∷ js) = decimal j.0 ++ flat_map (λ k. codes "," ++ decimal k.0) js

-- a number, or a dash
abbrev pub number_text : Option ℕ → List ℕ
number_text None = codes "-"
number_text (Some n) = decimal n

-- bytes in hex of lower case, or a dash for none
abbrev pub hex_text : List ℕ → List ℕ
hex_text [] = codes "-"
hex_text (b ∷ bs) = encode_lower (b ∷ bs)

-- ---- the line of an event, as scripts have it

-- what happens, without its moment
abbrev pub kind_text : EventKind → List ℕ
kind_text (event.Request target peer bytes) = codes "request " ⧺ addr_text target ⧺ codes " " ⧺ addr_text peer
    ⧺ codes " " ⧺ hex_text bytes
kind_text (event.Deliver call) = codes "deliver " ⧺ decimal call
kind_text (event.Fail call) = codes "fail " ⧺ decimal call
kind_text (event.Return delivery) = codes "return " ⧺ decimal delivery
kind_text (event.Answer call bytes) = codes "answer " ⧺ decimal call ⧺ codes " " ⧺ hex_text bytes
kind_text (event.Beat server) = codes "beat " ⧺ addr_text server
kind_text (event.Restart server key nonce) = codes "restart " ⧺ addr_text server ⧺ codes " key "
    ⧺ hex_text key ⧺ codes " nonce " ⧺ decimal nonce

-- ---- the line of a core entry

-- whether a heartbeat made a registration
abbrev pub age_text : Bool → List ℕ
age_text true = codes "new"
age_text false = codes "old"

-- whether a commit kept its job
abbrev pub kept_text : Bool → List ℕ
kept_text true = codes "kept"
kept_text false = codes "dropped"

-- whether an undo ended its reservation
abbrev pub ended_text : Bool → List ℕ
ended_text true = codes "yes"
ended_text false = codes "no"

-- what a reserve gave
abbrev pub reserved_text : Reserved → List ℕ
reserved_text (Job job reg forgiven) = codes "job " ⧺ decimal job.0 ⧺ codes " reg " ⧺ decimal reg
    ⧺ codes " forgiven " ⧺ numbers_text forgiven
reserved_text (NoRoom standing) = codes "none " ⧺ decimal standing
reserved_text Spent = codes "spent"

-- what an update was answered
abbrev pub advance_text : UpdateAnswer → List ℕ
advance_text Accepted = codes "accepted"
advance_text Unknown = codes "unknown"
advance_text Wrong = codes "wrong"
advance_text (Transition state) = codes "transition " ⧺ state_text state

-- whether a server is to drain
abbrev pub on_text : Bool → List ℕ
on_text true = codes "on"
on_text false = codes "off"

-- what a core entry says, behind its number
abbrev pub core_text : CoreKind → List ℕ
core_text (core.Reserve reserved) = codes "reserve " ⧺ reserved_text reserved
core_text (core.Commit job state kept) = codes "commit job " ⧺ decimal job.0 ⧺ codes " state "
    ⧺ state_text state ⧺ codes " " ⧺ kept_text kept
core_text (core.Undo job noted ended) = codes "undo job " ⧺ decimal job.0 ⧺ codes " noted "
    ⧺ number_text noted ⧺ codes " ended " ⧺ ended_text ended
core_text (core.Beat server nonce cpus key pruned reaped replaced is_new) =
    codes "beat " ⧺ addr_text server ⧺ codes " nonce " ⧺ decimal nonce ⧺ codes " cpus " ⧺ decimal cpus
    ⧺ codes " pruned " ⧺ numbers_text pruned ⧺ codes " reaped " ⧺ jobs_text reaped
    ⧺ codes " replaced " ⧺ number_text replaced ⧺ codes " " ⧺ age_text is_new
core_text (core.Update server job state answer) =
    codes "update " ⧺ addr_text server ⧺ codes " job " ⧺ decimal job.0 ⧺ codes " state " ⧺ state_text state
    ⧺ codes " " ⧺ advance_text answer
core_text (core.Status pruned servers cpus jobs) =
    codes "status pruned " ⧺ numbers_text pruned ⧺ codes " servers " ⧺ decimal servers ⧺ codes " cpus "
    ⧺ decimal cpus ⧺ codes " jobs " ⧺ decimal jobs
core_text (core.Drain server nonce on reg) =
    codes "drain " ⧺ addr_text server ⧺ codes " nonce " ⧺ decimal nonce ⧺ codes " " ⧺ on_text on
    ⧺ codes " reg " ⧺ number_text reg

-- ---- the lines of an entry

-- `number` is that of the core entry
abbrev pub core_line : ℕ → Option CoreEntry → List ℕ
core_line number None = []
core_line number (Some e) = codes "core " ⧺ decimal number ⧺ codes " " ⧺ core_text e.kind ⧺ codes "\n"

-- the target and the bytes of the call, if one was made
abbrev pub call_line : Option OutCall → List ℕ
call_line None = []
call_line (Some call) = codes "call " ⧺ addr_text call.target ⧺ codes " " ⧺ hex_text call.bytes ⧺ codes "\n"

-- which entry is answered, and the bytes, if there is a reply
abbrev pub reply_line : Option Reply → List ℕ
reply_line None = []
reply_line (Some reply) = codes "reply " ⧺ decimal reply.to ⧺ codes " " ⧺ hex_text reply.bytes ⧺ codes "\n"

-- the word, if there is one
abbrev pub word_line : Option EntryWord → List ℕ
word_line None = []
word_line (Some Void) = codes "word void\n"
word_line (Some Down) = codes "word down\n"
word_line (Some Waiting) = codes "word waiting\n"
word_line (Some Died) = codes "word died\n"

-- how a heartbeat was settled
abbrev pub heard_text : HeardAs → List ℕ
heard_text New = codes "new"
heard_text Old = codes "old"
heard_text Lost = codes "lost"

-- whether the server has the job's archive
abbrev pub ready_text : Bool → List ℕ
ready_text true = codes "ready"
ready_text false = codes "pending"

-- an archive's id and its size
abbrev pub archive_text : List ℕ × ℕ → List ℕ
archive_text p = p.0 ++ codes ":" ++ decimal p.1

-- archives joined by commas, or a dash
abbrev pub archives_text : List (List ℕ × ℕ) → List ℕ
archives_text [] = codes "-"
archives_text (p ∷ ps) = archive_text p ++ flat_map (λ q. codes "," ++ archive_text q) ps

-- ids joined by commas, or a dash
abbrev pub ids_text : List (List ℕ) → List ℕ
ids_text [] = codes "-"
ids_text (id ∷ ids) = id ++ flat_map (λ other. codes "," ++ other) ids

-- how a submission went
abbrev pub submitted_text : Submission → List ℕ
submitted_text submitted.None = codes "none"
submitted_text submitted.Listed = codes "listed"
submitted_text (submitted.Stored size dropped) = codes "stored " ⧺ decimal size ⧺ codes " dropped "
    ⧺ ids_text dropped
submitted_text submitted.Digest = codes "refused digest"
submitted_text submitted.Capacity = codes "refused capacity"
submitted_text (submitted.Folder dropped) = codes "refused folder dropped " ⧺ ids_text dropped

-- how a run went
abbrev pub ran_text : Went → List ℕ
ran_text ran.None = codes "none"
ran_text (ran.Unlisted tc) = codes "unlisted " ⧺ tc
ran_text (ran.Folder tc) = codes "folder " ⧺ tc
ran_text (ran.Built tc) = codes "built " ⧺ tc
ran_text (ran.Refused tc) = codes "refused " ⧺ tc

-- what a build server did, behind its address
abbrev pub step_text : StepKind → List ℕ
step_text (Heard as_what) = codes "heard " ⧺ heard_text as_what
step_text (Assigned job tc ready) = codes "assigned " ⧺ decimal job.0 ⧺ codes " " ⧺ tc ⧺ codes " "
    ⧺ ready_text ready
step_text (Submitted job outcome) = codes "submitted " ⧺ decimal job.0 ⧺ codes " " ⧺ submitted_text outcome
step_text (Ran job ran result) = codes "ran " ⧺ decimal job.0 ⧺ codes " " ⧺ ran_text ran
step_text (Finished job) = codes "finished " ⧺ decimal job.0
step_text (Unreported job) = codes "unreported " ⧺ decimal job.0
step_text (Opened archives) = codes "opened " ⧺ archives_text archives

-- the step of a build server, if there is one
abbrev pub step_line : Option Step → List ℕ
step_line None = []
step_line (Some step) = codes "step " ⧺ addr_text step.server ⧺ codes " " ⧺ step_text step.kind ⧺ codes "\n"

-- an entry of that number, whose core entry, if it has one, has that other number
abbrev pub entry_text : ℕ → ℕ → Entry → List ℕ
entry_text number core_number e =
    codes "entry " ⧺ decimal number ⧺ codes " " ⧺ decimal e.event.at ⧺ codes " " ⧺ kind_text e.event.kind
    ⧺ codes "\n"
    ⧺ core_line core_number e.core ⧺ step_line e.step ⧺ call_line e.call ⧺ reply_line e.reply
    ⧺ word_line e.word

-- how many core entries an entry has
abbrev pub core_count : Option CoreEntry → ℕ
core_count None = 0
core_count (Some e) = 1

-- entries, the first of which has that number, and so many core entries before it
abbrev pub entries_text : ℕ → ℕ → List Entry → List ℕ
entries_text number core_number [] = []
entries_text number core_number (e ∷ es) = entry_text number core_number e ++ entries_text (number + 1)
    (core_number + core_count e.core) es

-- ---- the books

-- the line of a registration that stands
abbrev pub row_text : ServerRow → List ℕ
row_text row =
    codes "server " ⧺ addr_text row.server ⧺ codes " reg " ⧺ decimal row.reg ⧺ codes " cpus "
    ⧺ decimal row.cpus ⧺ codes " nonce " ⧺ decimal row.nonce
    ⧺ codes " seen " ⧺ decimal row.seen ⧺ codes " load " ⧺ decimal row.load ⧺ codes " error "
    ⧺ number_text row.error ⧺ codes "\n"

-- how far the job of a reservation is: reserved alone, or the state that it is committed in
abbrev pub stage_text : Option JobState → List ℕ
stage_text None = codes "reserved"
stage_text (Some state) = state_text state

-- whether the build of a reservation's job has begun
abbrev pub claim_text : Bool → List ℕ
claim_text true = codes "claimed"
claim_text false = codes "unclaimed"

-- the line of a job that is reserved at a registration, how far it is and whether its build has begun
abbrev pub job_line : JobId → ℕ → Option JobState → Bool → List ℕ
job_line job reg state claimed =
    codes "job " ⧺ decimal job.0 ⧺ codes " reg " ⧺ decimal reg ⧺ codes " " ⧺ stage_text state ⧺ codes " "
    ⧺ claim_text claimed ⧺ codes "\n"

-- the line of a reservation that is unended
abbrev pub job_text : Booking → List ℕ
job_text b = job_line b.job b.reg (state_of b.job b.later) (is_claimed b)

-- how many ids are given after the whole log: those before the script, and one for each job that was reserved
abbrev pub ids_given : SetupScheduler → List CoreEntry → ℕ
ids_given scheduler log = scheduler.count + length (bookings log)

-- the line of a job that a server holds
abbrev pub held_text : Addr → JobId × List ℕ → List ℕ
held_text addr p = codes "held " ⧺ addr_text addr ⧺ codes " " ⧺ decimal p.0.0 ⧺ codes " " ⧺ p.1 ⧺ codes "\n"

-- the line of a server's archive
abbrev pub kept_archive_text : Addr → List ℕ × ℕ → List ℕ
kept_archive_text addr p = codes "archive " ⧺ addr_text addr ⧺ codes " " ⧺ p.0 ⧺ codes " " ⧺ decimal p.1
    ⧺ codes "\n"

-- what a server keeps: the jobs that it holds, by rising id, and its archives, least recent first
abbrev pub server_text : ServerNow → List ℕ
server_text s = flat_map (held_text s.setup.addr) s.held ++ flat_map
    (kept_archive_text s.setup.addr) s.archives

-- the registrations that stand after the whole log, by rising number, the reservations that are unended, by
-- rising id, and what each server keeps, in the order of the setup
abbrev pub standing_text : Setup → List Entry → List ℕ
standing_text setup entries =
    flat_map row_text (servers_of (core_log entries)) ++ flat_map job_text (unended_by_id (core_log entries))
    ++ flat_map (λ s. server_text (server_of s entries)) setup.servers ++ codes "end\n"

-- the ids, and what stands
abbrev pub books_text : Setup → List Entry → List ℕ
books_text setup entries =
    (codes "books\nids base " ⧺ decimal setup.scheduler.base ⧺ codes " count " ⧺ decimal
    (ids_given setup.scheduler (core_log entries)) ⧺ codes "\n")
    ++ standing_text setup entries

-- the number of a version of the rules
abbrev pub version_of : Rules → ℕ
version_of One = 1
version_of Two = 2

-- the whole text, which begins with the farm's version
abbrev pub run_text : Setup → List Entry → List ℕ
run_text setup entries =
    (codes "run " ⧺ decimal (version_of setup.rules) ⧺ codes " entries " ⧺ decimal (length entries) ⧺ codes "\n")
    ++ entries_text 0 0 entries ++ books_text setup entries
