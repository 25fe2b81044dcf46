-- What a running server's answers say of its rows.
use Rattle.std.proofs.Common.{◌≡◌, ◌≤◌, ◌<◌, inl, inr, ℕ, List, [], ◌∷◌, ◌++◌, length, Option, Some, None}
use Rattle.std.proofs.Common.{Result, Ok, Err, refl, sym, ◌∙◌, ap, subst, append_assoc, append-nil, arith}
use Rattle.std.specs.Prelude.{IfSome, OnOk}
use Rattle.std.specs.Option.{option_map}
use Rattle.sha2.specs.Sha256.{sha256}
use Rattle.dist_types.specs.Builder.{built_row}
use Rattle.dist_types.specs.Cause.{Rose}
use Rattle.dist_types.specs.Content.{Recorded, KeptOrRecorded, Taken as Took, IsAtEnd}
use Rattle.dist_types.specs.Outgoing.{Updated, Peer, updated_row}
use Rattle.dist_types.specs.declared.builder.BuildFault.{BuildFault}
use Rattle.dist_types.specs.declared.builder.BuildFault.TheVariants as build
use Rattle.dist_types.specs.declared.dialer.Asked.{Asked}
use Rattle.dist_types.specs.declared.fault.Memory as want
use Rattle.dist_types.specs.declared.ids.JobId.{JobId}
use Rattle.dist_types.specs.declared.outgoing.CallFault.{CallFault}
use Rattle.dist_types.specs.declared.outgoing.CallFault.TheVariants as call
use Rattle.dist_types.specs.declared.results.BuildResult.{BuildResult}
use Rattle.dist_types.specs.declared.results.JobState.{JobState}
use Rattle.dist_types.specs.declared.results.JobState.TheVariants.{Ready, Started, Complete}
use Rattle.dist_types.specs.declared.results.RunJobResult.{RunJobResult}
use Rattle.dist_types.specs.declared.results.SubmitToolchainResult.{SubmitToolchainResult}
use Rattle.dist_types.specs.declared.results.SubmitToolchainResult.TheVariants.{CannotCache}
use Rattle.dist_types.specs.declared.results.UpdateJobStateResult.{UpdateJobStateResult}
use Rattle.dist_types.specs.declared.source.ReadError.{ReadError}
use Rattle.dist_types.specs.declared.source.ReadError.TheVariants as read
use Rattle.build_server.specs.Books.{Books}
use Rattle.build_server.specs.Builds.{Order, Builder, IsBuilt, Builds, outcome_of, run_answer, ended}
use Rattle.build_server.specs.Laws.{MayHaveBuilt, AnswersBuild, RecordedAll, ReportedBoth, AnswersReports}
use Rattle.build_server.specs.Laws.{RunsAreTold, AnswersReady, AnswersReading, SubmissionsAreTold}
use Rattle.build_server.specs.Rows.{Reports, Reading, IsReported, IsWhole, Unread, Ends, Fetches, Submitting}
use Rattle.build_server.specs.Rows.{submit_answer, Follows, Proceeds, Running}
use Rattle.build_server.specs.Rules.{Update, fault_of, TellsUpdate}
use Rattle.build_server.specs.declared.fault.ServerFault.{ServerFault}
use Rattle.build_server.specs.declared.fault.ServerFault.TheVariants as fault
use Rattle.build_server.specs.declared.run.Outcome.{Outcome}
use Rattle.build_server.specs.declared.run.Outcome.TheVariants as outcome
use Rattle.build_server.specs.declared.run.Taken.{Taken}
use Rattle.build_server.specs.declared.run.Taken.TheVariants as taken
use Rattle.build_server.specs.declared.submit.Submitted.{Submitted}

-- the builder

-- the builder had at most one build of the order
may_have : (tc archive : List ℕ) (order : Order) (heard : Result BuildResult BuildFault) (old new : Builder)
    → IsBuilt tc archive order heard old new → MayHaveBuilt order old new
may_have tc archive order (Ok x) old new b = inr
    (Ok x, record { toolchain = tc; digest = sha256 archive; row = b.row (λ e. cc) })
may_have tc archive order (Err build.Refused) old new b =
    inr (Err build.Refused, record { toolchain = tc; digest = sha256 archive; row = b.row (λ e. cc) })
may_have tc archive order (Err build.Memory) old new b = by (b.memory refl)
  where
    by : KeptOrRecorded (built_row tc (sha256 archive) order.command order.outputs order.inputs
        (Err build.Memory)) old.rows new.rows → MayHaveBuilt order old new
    by (inl same) = inl same
    by (inr row) = inr (Err build.Memory, record { toolchain = tc; digest = sha256 archive; row = row })

may_have_built : (taken : Taken) (order : Order) (old new : Builder)
    (went : Result Outcome (Taken × want.Memory)) → Builds taken order old new went
    → MayHaveBuilt order old new
may_have_built taken.None order old new went b = inl (ap (λ x. x.rows) b.0)
may_have_built (taken.Unlisted tc) order old new went b = inl (ap (λ x. x.rows) b.0)
may_have_built (taken.Folder tc) order old new went b = inl (ap (λ x. x.rows) b.0)
may_have_built (taken.Read tc archive) order old new went b =
    may_have tc archive order b.heard old new b.built

-- what an accepted Complete tells is what the builder did
told_of : (tc archive : List ℕ) (order : Order) (heard : Result BuildResult BuildFault) (old new : Builder)
    (out : Outcome) → IsBuilt tc archive order heard old new
    → Ok out ≡ outcome_of tc archive heard → AnswersBuild order old new (run_answer out)
told_of tc archive order (Ok x) old new out b e =
    let f : out ≡ outcome.Built tc x = cc in
    subst (λ o. AnswersBuild order old new (run_answer o)) (sym f)
    (x, refl, record { toolchain = tc; digest = sha256 archive; row = b.row (λ e. cc) })
told_of tc archive order (Err build.Refused) old new out b e =
    let f : out ≡ outcome.Refused tc = cc in
    subst (λ o. AnswersBuild order old new (run_answer o)) (sym f)
    (record { toolchain = tc; digest = sha256 archive; row = b.row (λ e. cc) }, b.cause refl)
told_of tc archive order (Err build.Memory) old new out b e = cc

told_built : (taken : Taken) (order : Order) (old new : Builder) (out : Outcome)
    → Builds taken order old new (Ok out) → AnswersBuild order old new (run_answer out)
told_built taken.None order old new out b = let f : out ≡ outcome.None = cc (b.1) in
    subst (λ o. AnswersBuild order old new (run_answer o)) (sym f) b.0
told_built (taken.Unlisted tc) order old new out b = let f : out ≡ outcome.Unlisted tc = cc (b.1) in
    subst (λ o. AnswersBuild order old new (run_answer o)) (sym f) b.0
told_built (taken.Folder tc) order old new out b = let f : out ≡ outcome.Folder tc = cc (b.1) in
    subst (λ o. AnswersBuild order old new (run_answer o)) (sym f) b.0
told_built (taken.Read tc archive) order old new out b =
    told_of tc archive order b.heard old new out b.built b.gives

-- an update that was not accepted hides what was built
hidden : (e : CallFault) (order : Order) (old new : Builder) → MayHaveBuilt order old new
    → AnswersBuild order old new (Err (fault_of e))
hidden call.Lost order old new m = m
hidden (call.Status code) order old new m = m
hidden call.Unreadable order old new m = m
hidden (call.BadState state) order old new m = m
hidden call.Memory order old new m = m

ended_built : (complete : Update) (taken : Taken) (order : Order) (old new : Builder) (out : Outcome)
    → Builds taken order old new (Ok out) → AnswersBuild order old new (ended out complete)
ended_built (Ok x) taken order old new out b = told_built taken order old new out b
ended_built (Err e) taken order old new out b =
    hidden e order old new (may_have_built taken order old new (Ok out) b)

works_built : (says : Peer → Updated → Asked → Type 0) (job : JobId) (taken : Taken) (order : Order)
    (old new : Reports) (builder built : Builder) (went : Result Outcome (Taken × want.Memory))
    (answer : Result RunJobResult ServerFault)
    → Builds taken order builder built went → Follows says job went old new answer
    → AnswersBuild order builder built answer
works_built says job taken order old new builder built (Ok out) answer b f =
    subst (AnswersBuild order builder built) (sym f.gives)
    (ended_built f.complete taken order builder built out b)
works_built says job taken order old new builder built (Err e) answer b f =
    subst (AnswersBuild order builder built) (sym f.0) (may_have_built taken order builder built (Err e) b)

proceeds_built : (says : Peer → Updated → Asked → Type 0) (job : JobId) (order : Order)
    (started : UpdateJobStateResult) (begun : Result Taken ServerFault) (old new : Reports)
    (builder built : Builder) (answer : Result RunJobResult ServerFault)
    → TellsUpdate (Ok started) begun → Proceeds says job order begun old new builder built answer
    → AnswersBuild order builder built answer
proceeds_built says job order started (Ok taken) old new builder built answer t p =
    works_built says job taken order old new builder built p.went answer p.builds p.follows
proceeds_built says job order started (Err e) old new builder built answer t p =
    subst (AnswersBuild order builder built) (sym (p.0 ∙ ap Err t)) (inl (ap (λ x. x.rows) p.2))

running_built : (says : Peer → Updated → Asked → Type 0) (job : JobId) (order : Order) (started : Update)
    (kept turned : Option Books) (old new : Reports) (builder built : Builder)
    (answer : Result RunJobResult ServerFault)
    → Running says job order started kept turned old new builder built answer
    → AnswersBuild order builder built answer
running_built says job order (Ok x) kept turned old new builder built answer r =
    proceeds_built says job order x r.begun old new builder built answer r.tells r.proceeds
running_built says job order (Err e) kept turned old new builder built answer r =
    subst (AnswersBuild order builder built) (sym r.0)
    (hidden e order builder built (inl (ap (λ x. x.rows) r.3)))

-- the reports

twice : (a b : Updated) (old mid new : Option (List Updated)) → Recorded a old mid → Recorded b mid new
    → RecordedAll (a ∷ b ∷ []) old new
twice a b None mid new r s = let e : mid ≡ None = r in s ∙ ap (option_map (λ rows. rows ++ b ∷ [])) e
twice a b (Some rows) mid new r s = s ∙ (ap (option_map (λ rows. rows ++ b ∷ [])) r
    ∙ ap Some (append_assoc rows (a ∷ []) (b ∷ [])))

-- one report: its row, unless memory ran out
row_of : (says : Peer → Updated → Asked → Type 0) (job : JobId) (state : JobState)
    (x : UpdateJobStateResult) (old new : Reports) → IsReported says job state (Ok x) old new
    → Recorded (updated_row job.0 state (Ok x)) old.rows new.rows
row_of says job state x old new r = r.row (λ e. cc)

-- Started was accepted, and this is told of Complete
ended_reports : (says : Peer → Updated → Asked → Type 0) (job : JobId) (x : UpdateJobStateResult)
    (complete : Update) (out : Outcome) (old mid new : Reports)
    → Recorded (updated_row job.0 Started (Ok x)) old.rows mid.rows
    → IsReported says job Complete complete mid new → AnswersReports job old new (ended out complete)
ended_reports says job x (Ok y) out old mid new r s = by out
  where
    both : ReportedBoth job (Ok y) old new
    both = (x, twice _ _ old.rows mid.rows new.rows r (row_of says job Complete y mid new s))

    by : (out : Outcome) → AnswersReports job old new (run_answer out)
    by outcome.None = (y, both)
    by (outcome.Unlisted tc) = (y, both)
    by (outcome.Folder tc) = (y, both)
    by (outcome.Built tc built) = (y, both)
    by (outcome.Refused tc) = (y, both)
ended_reports says job x (Err e) out old mid new r s = by e s
  where
    by : (e : CallFault) → IsReported says job Complete (Err e) mid new
        → AnswersReports job old new (Err (fault_of e))
    by call.Lost s = inr (x, twice _ _ old.rows mid.rows new.rows r (s.row (λ e. cc)))
    by (call.Status code) s = inr (x, twice _ _ old.rows mid.rows new.rows r (s.row (λ e. cc)))
    by call.Unreadable s = inr (x, twice _ _ old.rows mid.rows new.rows r (s.row (λ e. cc)))
    by (call.BadState state) s = inr (x, twice _ _ old.rows mid.rows new.rows r (s.row (λ e. cc)))
    by call.Memory s = at (s.memory refl)
      where
        at : KeptOrRecorded (updated_row job.0 Complete (Err call.Memory)) mid.rows new.rows
            → AnswersReports job old new (Err fault.Memory)
        at (inl same) = inr (inl (Ok x, same ∙ r))
        at (inr row) = inr (inr (Err call.Memory, (x, twice _ _ old.rows mid.rows new.rows r row)))

-- nothing but Started was reported, and want of memory is told
starved_reports : (job : JobId) (x : UpdateJobStateResult) (old mid new : Reports)
    → Recorded (updated_row job.0 Started (Ok x)) old.rows mid.rows → new ≡ mid
    → AnswersReports job old new (Err fault.Memory)
starved_reports job x old mid new r same = inr (inl (Ok x, ap (λ w. w.rows) same ∙ r))

works_reports : (says : Peer → Updated → Asked → Type 0) (job : JobId) (x : UpdateJobStateResult)
    (went : Result Outcome (Taken × want.Memory)) (old mid new : Reports)
    (answer : Result RunJobResult ServerFault)
    → Recorded (updated_row job.0 Started (Ok x)) old.rows mid.rows → Follows says job went mid new answer
    → AnswersReports job old new answer
works_reports says job x (Ok out) old mid new answer r f =
    subst (AnswersReports job old new) (sym f.gives)
    (ended_reports says job x f.complete out old mid new r f.reported)
works_reports says job x (Err e) old mid new answer r f =
    subst (AnswersReports job old new) (sym f.0) (starved_reports job x old mid new r f.1)

proceeds_reports : (says : Peer → Updated → Asked → Type 0) (job : JobId) (order : Order)
    (x : UpdateJobStateResult) (begun : Result Taken ServerFault) (old mid new : Reports)
    (builder built : Builder) (answer : Result RunJobResult ServerFault)
    → TellsUpdate (Ok x) begun → Recorded (updated_row job.0 Started (Ok x)) old.rows mid.rows
    → Proceeds says job order begun mid new builder built answer → AnswersReports job old new answer
proceeds_reports says job order x (Ok taken) old mid new builder built answer t r p =
    works_reports says job x p.went old mid new answer r p.follows
proceeds_reports says job order x (Err e) old mid new builder built answer t r p =
    subst (AnswersReports job old new) (sym (p.0 ∙ ap Err t)) (starved_reports job x old mid new r p.1)

refused_reports : (says : Peer → Updated → Asked → Type 0) (job : JobId) (e : CallFault)
    (old mid new : Reports) → IsReported says job Started (Err e) old mid → new ≡ mid
    → AnswersReports job old new (Err (fault_of e))
refused_reports says job call.Lost old mid new r same = inl (ap (λ w. w.rows) same ∙ r.row (λ e. cc))
refused_reports says job (call.Status code) old mid new r same = inl (ap (λ w. w.rows) same ∙ r.row (λ e. cc))
refused_reports says job call.Unreadable old mid new r same = inl (ap (λ w. w.rows) same ∙ r.row (λ e. cc))
refused_reports says job (call.BadState state) old mid new r same =
    inl (ap (λ w. w.rows) same ∙ r.row (λ e. cc))
refused_reports says job call.Memory old mid new r same = at (r.memory refl)
  where
    at : KeptOrRecorded (updated_row job.0 Started (Err call.Memory)) old.rows mid.rows
        → AnswersReports job old new (Err fault.Memory)
    at (inl kept) = inl (ap (λ w. w.rows) same ∙ kept)
    at (inr row) = inr (inl (Err call.Memory, ap (λ w. w.rows) same ∙ row))

running_reports : (says : Peer → Updated → Asked → Type 0) (job : JobId) (order : Order) (started : Update)
    (kept turned : Option Books) (old mid new : Reports) (builder built : Builder)
    (answer : Result RunJobResult ServerFault)
    → IsReported says job Started started old mid
    → Running says job order started kept turned mid new builder built answer
    → AnswersReports job old new answer
running_reports says job order (Ok x) kept turned old mid new builder built answer r w =
    proceeds_reports says job order x w.begun old mid new builder built answer w.tells
    (row_of says job Started x old mid r) w.proceeds
running_reports says job order (Err e) kept turned old mid new builder built answer r w =
    subst (AnswersReports job old new) (sym w.0) (refused_reports says job e old mid new r w.2)

pub runs_told : (says : Peer → Updated → Asked → Type 0) → RunsAreTold says
runs_told says job order kept turned before after builder built answer r = record {
  build = running_built says job order r.started kept turned r.between after builder built answer r.running;
  reports = running_reports says job order r.started kept turned before r.between after builder built answer
      r.reported r.running;
}

-- submissions

unread_ready : (says : Peer → Updated → Asked → Type 0) (job : JobId) (x : UpdateJobStateResult)
    (e : ReadError) (before after : Reports) (old new : Reading)
    (answer : Result SubmitToolchainResult ServerFault)
    → Recorded (updated_row job.0 Ready (Ok x)) before.rows after.rows → Unread e old new answer
    → AnswersReady job before after answer
unread_ready says job x read.Failed before after old new answer r u =
    subst (AnswersReady job before after) (sym u.2) (x, r)
unread_ready says job x read.TooLong before after old new answer r u =
    subst (AnswersReady job before after) (sym u.3) (x, r)
unread_ready says job x read.Memory before after old new answer r u =
    subst (AnswersReady job before after) (sym u.2) (inr (Ok x, r))

ends_ready : (job : JobId) (x : UpdateJobStateResult) (done : Result Submitted ServerFault)
    (before after : Reports) → TellsUpdate (Ok x) done
    → Recorded (updated_row job.0 Ready (Ok x)) before.rows after.rows
    → AnswersReady job before after (submit_answer done)
ends_ready job x (Ok out) before after t r = (x, r)
ends_ready job x (Err e) before after t r = subst (λ w. AnswersReady job before after (Err w)) (sym t)
    (inr (Ok x, r))

fetches_ready : (says : Peer → Updated → Asked → Type 0) (job : JobId) (x : UpdateJobStateResult)
    (fetched : Result (List ℕ) ReadError) (kept turned : Option Books) (before after : Reports)
    (old new : Reading) (answer : Result SubmitToolchainResult ServerFault)
    → Recorded (updated_row job.0 Ready (Ok x)) before.rows after.rows
    → Fetches job (Ok x) fetched kept turned old new answer → AnswersReady job before after answer
fetches_ready says job x (Ok bytes) kept turned before after old new answer r f =
    subst (AnswersReady job before after) (sym f.1.gives)
    (ends_ready job x f.1.ended before after f.1.tells r)
fetches_ready says job x (Err e) kept turned before after old new answer r f =
    unread_ready says job x e before after old new answer r f.0

refused_ready : (says : Peer → Updated → Asked → Type 0) (job : JobId) (e : CallFault)
    (before after : Reports) → IsReported says job Ready (Err e) before after
    → AnswersReady job before after (Err (fault_of e))
refused_ready says job call.Lost before after r = r.row (λ e. cc)
refused_ready says job (call.Status code) before after r = r.row (λ e. cc)
refused_ready says job call.Unreadable before after r = r.row (λ e. cc)
refused_ready says job (call.BadState state) before after r = r.row (λ e. cc)
refused_ready says job call.Memory before after r = at (r.memory refl)
  where
    at : KeptOrRecorded (updated_row job.0 Ready (Err call.Memory)) before.rows after.rows
        → AnswersReady job before after (Err fault.Memory)
    at (inl kept) = inl kept
    at (inr row) = inr (Err call.Memory, row)

submitting_ready : (says : Peer → Updated → Asked → Type 0) (job : JobId) (ready : Update)
    (kept turned : Option Books) (before after : Reports) (old new : Reading)
    (answer : Result SubmitToolchainResult ServerFault)
    → IsReported says job Ready ready before after → Submitting job ready kept turned old new answer
    → AnswersReady job before after answer
submitting_ready says job (Ok x) kept turned before after old new answer r s =
    fetches_ready says job x s.0 kept turned before after old new answer
    (row_of says job Ready x before after r) s.1
submitting_ready says job (Err e) kept turned before after old new answer r s =
    subst (AnswersReady job before after) (sym s.0) (refused_ready says job e before after r)

-- the reader

on_ok : {T E : Type 0} (r : Result T E) (P : Type 0) → P → OnOk r P
on_ok (Ok x) P p = p
on_ok (Err e) P p = tt

-- what was read to the end is all that was left
all_left : (bytes : List ℕ) (left : List ℕ) (rest : Option (List ℕ)) → Took bytes (Some left) rest
    → IsAtEnd rest → bytes ≡ left
all_left bytes left None t e = cc t
all_left bytes left (Some []) t e = sym (cc (t ∙ ap Some (append-nil bytes)))
all_left bytes left (Some (x ∷ xs)) t e = cc e

-- the books of a submission of which nothing was read are as they were
none_read : (job : JobId) (kept turned : Option Books) (old new : Reading)
    (answer : Result SubmitToolchainResult ServerFault) (e : ServerFault) → answer ≡ Err e → turned ≡ kept
    → new.faults ≡ old.faults → AnswersReading job kept turned old new answer
none_read job kept turned old new answer e is same steady = record {
  failed = λ n. absurd (n steady);
  long = by old.left;
  whole = at old.left;
}
  where
    by : (left : Option (List ℕ)) → IfSome left (λ left. 1073741824 < length left
        → OnOk answer (answer ≡ Ok CannotCache) × (turned ≡ kept))
    by None = tt
    by (Some left) = λ l. (subst (λ w. OnOk w (w ≡ Ok CannotCache)) (sym is) tt, same)

    at : (left : Option (List ℕ)) → IfSome left (λ left. length left ≤ 1073741824
        → ¬ Rose old.faults new.faults
        → OnOk answer ((ready : UpdateJobStateResult) × Ends job (Ok ready) left kept turned answer))
    at None = tt
    at (Some left) = λ l n. subst (λ w. OnOk w ((ready : UpdateJobStateResult)
        × Ends job (Ok ready) left kept turned w)) (sym is) tt

-- an archive that was not read whole
unread_reading : (job : JobId) (e : ReadError) (kept turned : Option Books) (old new : Reading)
    (answer : Result SubmitToolchainResult ServerFault) → Unread e old new answer → turned ≡ kept
    → AnswersReading job kept turned old new answer
unread_reading job read.Failed kept turned old new answer u same = record {
  failed = λ n. (u.2, same);
  long = by old.left;
  whole = at old.left;
}
  where
    by : (left : Option (List ℕ)) → IfSome left (λ left. 1073741824 < length left
        → OnOk answer (answer ≡ Ok CannotCache) × (turned ≡ kept))
    by None = tt
    by (Some left) = λ l. (subst (λ w. OnOk w (w ≡ Ok CannotCache)) (sym u.2) refl, same)

    at : (left : Option (List ℕ)) → IfSome left (λ left. length left ≤ 1073741824
        → ¬ Rose old.faults new.faults
        → OnOk answer ((ready : UpdateJobStateResult) × Ends job (Ok ready) left kept turned answer))
    at None = tt
    at (Some left) = λ l n. absurd (n u.0)
unread_reading job read.TooLong kept turned old new answer u same = record {
  failed = λ n. (u.3, same);
  long = by old.left;
  whole = at old.left u.1;
}
  where
    by : (left : Option (List ℕ)) → IfSome left (λ left. 1073741824 < length left
        → OnOk answer (answer ≡ Ok CannotCache) × (turned ≡ kept))
    by None = tt
    by (Some left) = λ l. (subst (λ w. OnOk w (w ≡ Ok CannotCache)) (sym u.3) refl, same)

    at : (left : Option (List ℕ)) → IfSome left (λ left. 1073741824 < length left)
        → IfSome left (λ left. length left ≤ 1073741824 → ¬ Rose old.faults new.faults
        → OnOk answer ((ready : UpdateJobStateResult) × Ends job (Ok ready) left kept turned answer))
    at None m = tt
    at (Some left) m = λ l n. absurd (omega (arith, l, m))
unread_reading job read.Memory kept turned old new answer u same =
    none_read job kept turned old new answer fault.Memory u.2 same u.0

-- an archive that was read whole
whole_reading : (job : JobId) (x : UpdateJobStateResult) (bytes : List ℕ) (kept turned : Option Books)
    (old new : Reading) (answer : Result SubmitToolchainResult ServerFault) → IsWhole bytes old new
    → Ends job (Ok x) bytes kept turned answer → AnswersReading job kept turned old new answer
whole_reading job x bytes kept turned old new answer w ends = record {
  failed = λ n. absurd (n w.steady);
  long = by old.left w.all;
  whole = at old.left w.all;
}
  where
    by : (left : Option (List ℕ)) → Took bytes left new.left
        → IfSome left (λ left. 1073741824 < length left
        → OnOk answer (answer ≡ Ok CannotCache) × (turned ≡ kept))
    by None t = tt
    by (Some left) t = λ l. let e = all_left bytes left new.left t w.at_end in
        let s : length bytes ≤ 1073741824 = w.short in
        absurd (omega (arith, l, subst (λ b. length b ≤ 1073741824) e s))

    at : (left : Option (List ℕ)) → Took bytes left new.left
        → IfSome left (λ left. length left ≤ 1073741824 → ¬ Rose old.faults new.faults
        → OnOk answer ((ready : UpdateJobStateResult) × Ends job (Ok ready) left kept turned answer))
    at None t = tt
    at (Some left) t = λ l n. let e = all_left bytes left new.left t w.at_end in
        on_ok answer _ (x, subst (λ b. Ends job (Ok x) b kept turned answer) e ends)

fetches_reading : (job : JobId) (x : UpdateJobStateResult) (fetched : Result (List ℕ) ReadError)
    (kept turned : Option Books) (old new : Reading) (answer : Result SubmitToolchainResult ServerFault)
    → Fetches job (Ok x) fetched kept turned old new answer → AnswersReading job kept turned old new answer
fetches_reading job x (Ok bytes) kept turned old new answer f =
    whole_reading job x bytes kept turned old new answer f.0 f.1
fetches_reading job x (Err e) kept turned old new answer f =
    unread_reading job e kept turned old new answer f.0 f.1

submitting_reading : (job : JobId) (ready : Update) (kept turned : Option Books) (old new : Reading)
    (answer : Result SubmitToolchainResult ServerFault) → Submitting job ready kept turned old new answer
    → AnswersReading job kept turned old new answer
submitting_reading job (Ok x) kept turned old new answer s =
    fetches_reading job x s.0 kept turned old new answer s.1
submitting_reading job (Err e) kept turned old new answer s =
    none_read job kept turned old new answer (fault_of e) s.0 s.1 (ap (λ w. w.faults) s.2)

pub submissions_told : (says : Peer → Updated → Asked → Type 0) → SubmissionsAreTold says
submissions_told says job kept turned before after old new answer s = record {
  ready = submitting_ready says job s.ready kept turned before after old new answer s.reported s.submitting;
  reading = submitting_reading job s.ready kept turned old new answer s.submitting;
}
