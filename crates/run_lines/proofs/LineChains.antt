-- What each kind of line says is its one text, and that text is read.
use Rattle.std.proofs.Common.{◌≡◌, ℕ, Bool, List, [], ◌∷◌, ◌++◌, Option, Some, None, codes, refl, ap, subst, ◌∙◌}
use Rattle.std.specs.Fmt.{decimal}
use Rattle.std.proofs.lemmas.Option.{same_Some}
use Rattle.dist_types.proofs.AddrLemmas.{bind_some}
use Rattle.farm_script.specs.Words.{field, named, last}
use Rattle.farm_script.specs.Fields.{number_at}
use Rattle.farm_script.specs.Grammar.{IsNumber}
use Rattle.farm_script.proofs.FieldLemmas.{number_law, decimal_lacks}
use Rattle.farm_script.proofs.WordLemmas.{bind_is, field_sound, field_complete, named_sound, named_complete}
use Rattle.farm_script.proofs.WordLemmas.{last_sound, last_complete, follow, follow_number}
use Rattle.dist_types.specs.declared.ids.JobId.{JobId}
use Rattle.dist_types.specs.Addr.{addr_text}
use Rattle.dist_types.specs.declared.addr.Addr.{Addr}
use Rattle.dist_types.specs.declared.results.JobState.{JobState}
use Rattle.core_rules.specs.declared.entry.CoreKind.{CoreKind}
use Rattle.farm_script.specs.declared.event.Event.{Event}
use Rattle.farm_entries.specs.declared.entry.StepKind.{StepKind}
use Rattle.farm_entries.specs.Printed.{number_text, hex_text, core_text, step_text, stage_text, claim_text}
use Rattle.run_lines.specs.Texts.{event_text, line_text}
use Rattle.run_lines.specs.Grammar.{SomeFits, HasText, HasHex, IsId, CoreFits, StepFits, LineFits}
use Rattle.run_lines.specs.Fields.{exact_at, lower_at, job_of, maybe_at, either_at, stage_at, id_at}
use Rattle.run_lines.specs.CoreLines.{core_at}
use Rattle.run_lines.specs.StepLines.{step_at}
use Rattle.run_lines.specs.Lines.{version_at, run_at, printed_event_at, entry_at, core_line_at, step_line_at, call_at}
use Rattle.run_lines.specs.Lines.{reply_at, ids_at, row_of, row_at, job_line_at, held_at, archive_line_at}
use Rattle.run_lines.specs.declared.line.RunLine.{RunLine}
use Rattle.run_lines.specs.declared.line.RunLine.TheVariants.{Run, Entry, Core, Step, Call, Reply, Ids, Server, Job}
use Rattle.run_lines.specs.declared.line.RunLine.TheVariants.{Held, Archive}
use Rattle.run_lines.proofs.FieldLemmas.{Exact, Anything, pre, exact_law, addr_lacks, maybe_law, stage_law}
use Rattle.run_lines.proofs.FieldLemmas.{stage_lacks, claim_law, itself, id_law, lower_law}
use Rattle.run_lines.proofs.ItemLemmas.{id_lacks}
use Rattle.run_lines.proofs.CoreLemmas.{core_law}
use Rattle.run_lines.proofs.StepLemmas.{step_law}
use Rattle.run_lines.proofs.EventLemmas.{IsVersion, version_law, version_lacks, HasLine, event_law}

-- ---- written by tools/line_lemmas.py

pub run_sound : (t : List ℕ) (k : RunLine) → run_at t ≡ Some k → Exact line_text LineFits (pre (codes "run ")
    t) k
unfolding run_at
run_sound t k e =
    let a0 = bind_some (field version_at t) _ k e in
    let a1 = bind_some (last (codes "entries ") number_at a0.0.1) _ k a0.2 in
    let f0 = field_sound version_at (Exact decimal IsVersion) version_law t a0.0.0 a0.0.1 a0.1 in
    let f1 = last_sound (codes "entries ") number_at IsNumber number_law a0.0.1 a1.0 a1.1 in
    let made : RunLine = Run a0.0.0 a1.0 in
    let is : Exact line_text LineFits (pre (codes "run ") t) made = (
      ap (pre (codes "run ")) (follow _ _ _ _ _ f0.2 f0.1.0
          (f1.2 ∙ ap (λ (w : List ℕ). codes "entries " ++ w) f1.1.0)),
      (f0.1.1, f1.1.1),
    ) in
    subst (Exact line_text LineFits (pre (codes "run ") t)) (same_Some made k a1.2) is

pub run_complete : (version : ℕ) (entries : ℕ) → LineFits (Run version entries) → run_at ((decimal version) ++
    32 ∷ (codes "entries " ++ (decimal entries))) ≡ Some (Run version entries)
unfolding run_at
run_complete version entries h =
    let r1 : List ℕ = (codes "entries " ++ (decimal entries)) in
    bind_is _ _ _ _ (field_complete version_at (Exact decimal IsVersion) version_law (decimal version)
    version r1 (refl, h.0) (version_lacks version h.0))
    (bind_is _ _ _ _ (last_complete (codes "entries ") number_at IsNumber number_law (decimal entries)
    entries (refl, h.1))
    refl)

pub entry_sound : (t : List ℕ) (k : RunLine) → entry_at t ≡ Some k → Exact line_text LineFits (pre (codes
    "entry ") t) k
unfolding entry_at
entry_sound t k e =
    let a0 = bind_some (field number_at t) _ k e in
    let a1 = bind_some (printed_event_at a0.0.1) _ k a0.2 in
    let f0 = field_sound number_at IsNumber number_law t a0.0.0 a0.0.1 a0.1 in
    let f1 = event_law.sound a0.0.1 a1.0 a1.1 in
    let made : RunLine = Entry a0.0.0 a1.0 in
    let is : Exact line_text LineFits (pre (codes "entry ") t) made = (
      ap (pre (codes "entry ")) (follow _ _ _ _ _ f0.2 f0.1.0
          f1.0),
      (f0.1.1, f1.1),
    ) in
    subst (Exact line_text LineFits (pre (codes "entry ") t)) (same_Some made k a1.2) is

pub entry_complete : (number : ℕ) (event : Event) → LineFits (Entry number event) → entry_at ((decimal number)
    ++ 32 ∷ (event_text event)) ≡ Some (Entry number event)
unfolding entry_at
entry_complete number event h =
    let r1 : List ℕ = (event_text event) in
    bind_is _ _ _ _ (field_complete number_at IsNumber number_law (decimal number) number r1 (refl, h.0)
    (decimal_lacks number h.0))
    (bind_is _ _ _ _ (event_law.complete (event_text event) event (refl, h.1))
    refl)

pub core_line_sound : (t : List ℕ) (k : RunLine) → core_line_at t ≡ Some k → Exact line_text LineFits (pre
    (codes "core ") t) k
unfolding core_line_at
core_line_sound t k e =
    let a0 = bind_some (field number_at t) _ k e in
    let a1 = bind_some (core_at a0.0.1) _ k a0.2 in
    let f0 = field_sound number_at IsNumber number_law t a0.0.0 a0.0.1 a0.1 in
    let f1 = core_law.sound a0.0.1 a1.0 a1.1 in
    let made : RunLine = Core a0.0.0 a1.0 in
    let is : Exact line_text LineFits (pre (codes "core ") t) made = (
      ap (pre (codes "core ")) (follow _ _ _ _ _ f0.2 f0.1.0
          f1.0),
      (f0.1.1, f1.1),
    ) in
    subst (Exact line_text LineFits (pre (codes "core ") t)) (same_Some made k a1.2) is

pub core_line_complete : (number : ℕ) (kind : CoreKind) → LineFits (Core number kind) → core_line_at ((decimal
    number) ++ 32 ∷ (core_text kind)) ≡ Some (Core number kind)
unfolding core_line_at
core_line_complete number kind h =
    let r1 : List ℕ = (core_text kind) in
    bind_is _ _ _ _ (field_complete number_at IsNumber number_law (decimal number) number r1 (refl, h.0)
    (decimal_lacks number h.0))
    (bind_is _ _ _ _ (core_law.complete (core_text kind) kind (refl, h.1))
    refl)

pub step_line_sound : (t : List ℕ) (k : RunLine) → step_line_at t ≡ Some k → Exact line_text LineFits (pre
    (codes "step ") t) k
unfolding step_line_at
step_line_sound t k e =
    let a0 = bind_some (field exact_at t) _ k e in
    let a1 = bind_some (step_at a0.0.1) _ k a0.2 in
    let f0 = field_sound exact_at (Exact addr_text HasText) exact_law t a0.0.0 a0.0.1 a0.1 in
    let f1 = step_law.sound a0.0.1 a1.0 a1.1 in
    let made : RunLine = Step a0.0.0 a1.0 in
    let is : Exact line_text LineFits (pre (codes "step ") t) made = (
      ap (pre (codes "step ")) (follow _ _ _ _ _ f0.2 f0.1.0
          f1.0),
      (f0.1.1, f1.1),
    ) in
    subst (Exact line_text LineFits (pre (codes "step ") t)) (same_Some made k a1.2) is

pub step_line_complete : (server : Addr) (kind : StepKind) → LineFits (Step server kind) → step_line_at
    ((addr_text server) ++ 32 ∷ (step_text kind)) ≡ Some (Step server kind)
unfolding step_line_at
step_line_complete server kind h =
    let r1 : List ℕ = (step_text kind) in
    bind_is _ _ _ _ (field_complete exact_at (Exact addr_text HasText) exact_law (addr_text server) server
    r1 (refl, h.0) (addr_lacks server h.0))
    (bind_is _ _ _ _ (step_law.complete (step_text kind) kind (refl, h.1))
    refl)

pub call_sound : (t : List ℕ) (k : RunLine) → call_at t ≡ Some k → Exact line_text LineFits (pre (codes
    "call ") t) k
unfolding call_at
call_sound t k e =
    let a0 = bind_some (field exact_at t) _ k e in
    let a1 = bind_some (lower_at a0.0.1) _ k a0.2 in
    let f0 = field_sound exact_at (Exact addr_text HasText) exact_law t a0.0.0 a0.0.1 a0.1 in
    let f1 = lower_law.sound a0.0.1 a1.0 a1.1 in
    let made : RunLine = Call a0.0.0 a1.0 in
    let is : Exact line_text LineFits (pre (codes "call ") t) made = (
      ap (pre (codes "call ")) (follow _ _ _ _ _ f0.2 f0.1.0
          f1.0),
      (f0.1.1, f1.1),
    ) in
    subst (Exact line_text LineFits (pre (codes "call ") t)) (same_Some made k a1.2) is

pub call_complete : (target : Addr) (bytes : List ℕ) → LineFits (Call target bytes) → call_at ((addr_text
    target) ++ 32 ∷ (hex_text bytes)) ≡ Some (Call target bytes)
unfolding call_at
call_complete target bytes h =
    let r1 : List ℕ = (hex_text bytes) in
    bind_is _ _ _ _ (field_complete exact_at (Exact addr_text HasText) exact_law (addr_text target) target
    r1 (refl, h.0) (addr_lacks target h.0))
    (bind_is _ _ _ _ (lower_law.complete (hex_text bytes) bytes (refl, h.1))
    refl)

pub reply_sound : (t : List ℕ) (k : RunLine) → reply_at t ≡ Some k → Exact line_text LineFits (pre (codes
    "reply ") t) k
unfolding reply_at
reply_sound t k e =
    let a0 = bind_some (field number_at t) _ k e in
    let a1 = bind_some (lower_at a0.0.1) _ k a0.2 in
    let f0 = field_sound number_at IsNumber number_law t a0.0.0 a0.0.1 a0.1 in
    let f1 = lower_law.sound a0.0.1 a1.0 a1.1 in
    let made : RunLine = Reply a0.0.0 a1.0 in
    let is : Exact line_text LineFits (pre (codes "reply ") t) made = (
      ap (pre (codes "reply ")) (follow _ _ _ _ _ f0.2 f0.1.0
          f1.0),
      (f0.1.1, f1.1),
    ) in
    subst (Exact line_text LineFits (pre (codes "reply ") t)) (same_Some made k a1.2) is

pub reply_complete : (to : ℕ) (bytes : List ℕ) → LineFits (Reply to bytes) → reply_at ((decimal to) ++ 32 ∷
    (hex_text bytes)) ≡ Some (Reply to bytes)
unfolding reply_at
reply_complete to bytes h =
    let r1 : List ℕ = (hex_text bytes) in
    bind_is _ _ _ _ (field_complete number_at IsNumber number_law (decimal to) to r1 (refl, h.0)
    (decimal_lacks to h.0))
    (bind_is _ _ _ _ (lower_law.complete (hex_text bytes) bytes (refl, h.1))
    refl)

pub ids_sound : (t : List ℕ) (k : RunLine) → ids_at t ≡ Some k → Exact line_text LineFits (pre (codes "ids ")
    t) k
unfolding ids_at
ids_sound t k e =
    let a0 = bind_some (named (codes "base ") number_at t) _ k e in
    let a1 = bind_some (last (codes "count ") number_at a0.0.1) _ k a0.2 in
    let f0 = named_sound (codes "base ") number_at IsNumber number_law t a0.0.0 a0.0.1 a0.1 in
    let f1 = last_sound (codes "count ") number_at IsNumber number_law a0.0.1 a1.0 a1.1 in
    let made : RunLine = Ids a0.0.0 a1.0 in
    let is : Exact line_text LineFits (pre (codes "ids ") t) made = (
      ap (pre (codes "ids ")) (follow_number _ (codes "base ") f0.0 _ _ _ f0.2 f0.1.0
          (f1.2 ∙ ap (λ (w : List ℕ). codes "count " ++ w) f1.1.0)),
      (f0.1.1, f1.1.1),
    ) in
    subst (Exact line_text LineFits (pre (codes "ids ") t)) (same_Some made k a1.2) is

pub ids_complete : (base : ℕ) (count : ℕ) → LineFits (Ids base count) → ids_at (codes "base " ++ ((decimal
    base) ++ 32 ∷ (codes "count " ++ (decimal count)))) ≡ Some (Ids base count)
unfolding ids_at
ids_complete base count h =
    let r1 : List ℕ = (codes "count " ++ (decimal count)) in
    bind_is _ _ _ _ (named_complete (codes "base ") number_at IsNumber number_law (decimal base) base r1
    (refl, h.0) (decimal_lacks base h.0))
    (bind_is _ _ _ _ (last_complete (codes "count ") number_at IsNumber number_law (decimal count) count
    (refl, h.1))
    refl)

pub row_sound : (t : List ℕ) (k : RunLine) → row_at t ≡ Some k → Exact line_text LineFits (pre (codes
    "server ") t) k
unfolding row_at
row_sound t k e =
    let a0 = bind_some (field exact_at t) _ k e in
    let a1 = bind_some (named (codes "reg ") number_at a0.0.1) _ k a0.2 in
    let a2 = bind_some (named (codes "cpus ") number_at a1.0.1) _ k a1.2 in
    let a3 = bind_some (named (codes "nonce ") number_at a2.0.1) _ k a2.2 in
    let a4 = bind_some (named (codes "seen ") number_at a3.0.1) _ k a3.2 in
    let a5 = bind_some (named (codes "load ") number_at a4.0.1) _ k a4.2 in
    let a6 = bind_some (last (codes "error ") maybe_at a5.0.1) _ k a5.2 in
    let f0 = field_sound exact_at (Exact addr_text HasText) exact_law t a0.0.0 a0.0.1 a0.1 in
    let f1 = named_sound (codes "reg ") number_at IsNumber number_law a0.0.1 a1.0.0 a1.0.1 a1.1 in
    let f2 = named_sound (codes "cpus ") number_at IsNumber number_law a1.0.1 a2.0.0 a2.0.1 a2.1 in
    let f3 = named_sound (codes "nonce ") number_at IsNumber number_law a2.0.1 a3.0.0 a3.0.1 a3.1 in
    let f4 = named_sound (codes "seen ") number_at IsNumber number_law a3.0.1 a4.0.0 a4.0.1 a4.1 in
    let f5 = named_sound (codes "load ") number_at IsNumber number_law a4.0.1 a5.0.0 a5.0.1 a5.1 in
    let f6 = last_sound (codes "error ") maybe_at (Exact number_text SomeFits) maybe_law a5.0.1 a6.0 a6.1
    in
    let made : RunLine = Server (row_of a0.0.0 a1.0.0 a2.0.0 a3.0.0 a4.0.0 a5.0.0 a6.0) in
    let is : Exact line_text LineFits (pre (codes "server ") t) made = (
      ap (pre (codes "server ")) (follow _ _ _ _ _ f0.2 f0.1.0
          (follow_number _ (codes "reg ") f1.0 _ _ _ f1.2 f1.1.0
          (follow_number _ (codes "cpus ") f2.0 _ _ _ f2.2 f2.1.0
          (follow_number _ (codes "nonce ") f3.0 _ _ _ f3.2 f3.1.0
          (follow_number _ (codes "seen ") f4.0 _ _ _ f4.2 f4.1.0
          (follow_number _ (codes "load ") f5.0 _ _ _ f5.2 f5.1.0
          (f6.2 ∙ ap (λ (w : List ℕ). codes "error " ++ w) f6.1.0))))))),
      (f0.1.1, f1.1.1, f2.1.1, f3.1.1, f4.1.1, f5.1.1, f6.1.1, refl),
    ) in
    subst (Exact line_text LineFits (pre (codes "server ") t)) (same_Some made k a6.2) is

pub row_complete : (server : Addr) (reg : ℕ) (cpus : ℕ) (nonce : ℕ) (seen : ℕ) (load : ℕ) (error : Option ℕ) →
    LineFits (Server (row_of server reg cpus nonce seen load error)) → row_at ((addr_text server) ++ 32 ∷
    (codes "reg " ++ ((decimal reg) ++ 32 ∷ (codes "cpus " ++ ((decimal cpus) ++ 32 ∷ (codes "nonce " ++
    ((decimal nonce) ++ 32 ∷ (codes "seen " ++ ((decimal seen) ++ 32 ∷ (codes "load " ++ ((decimal load) ++
    32 ∷ (codes "error " ++ (number_text error))))))))))))) ≡ Some (Server (row_of server reg cpus nonce
    seen load error))
unfolding row_at
row_complete server reg cpus nonce seen load error h =
    let r6 : List ℕ = (codes "error " ++ (number_text error)) in
    let r5 : List ℕ = (codes "load " ++ ((decimal load) ++ 32 ∷ (codes "error " ++ (number_text error))))
    in
    let r4 : List ℕ = (codes "seen " ++ ((decimal seen) ++ 32 ∷ (codes "load " ++ ((decimal load) ++ 32 ∷
    (codes "error " ++ (number_text error)))))) in
    let r3 : List ℕ = (codes "nonce " ++ ((decimal nonce) ++ 32 ∷ (codes "seen " ++ ((decimal seen) ++ 32 ∷
    (codes "load " ++ ((decimal load) ++ 32 ∷ (codes "error " ++ (number_text error)))))))) in
    let r2 : List ℕ = (codes "cpus " ++ ((decimal cpus) ++ 32 ∷ (codes "nonce " ++ ((decimal nonce) ++ 32 ∷
    (codes "seen " ++ ((decimal seen) ++ 32 ∷ (codes "load " ++ ((decimal load) ++ 32 ∷ (codes "error " ++
    (number_text error)))))))))) in
    let r1 : List ℕ = (codes "reg " ++ ((decimal reg) ++ 32 ∷ (codes "cpus " ++ ((decimal cpus) ++ 32 ∷
    (codes "nonce " ++ ((decimal nonce) ++ 32 ∷ (codes "seen " ++ ((decimal seen) ++ 32 ∷ (codes "load " ++
    ((decimal load) ++ 32 ∷ (codes "error " ++ (number_text error)))))))))))) in
    bind_is _ _ _ _ (field_complete exact_at (Exact addr_text HasText) exact_law (addr_text server) server
    r1 (refl, h.0) (addr_lacks server h.0))
    (bind_is _ _ _ _ (named_complete (codes "reg ") number_at IsNumber number_law (decimal reg) reg r2
    (refl, h.1) (decimal_lacks reg h.1))
    (bind_is _ _ _ _ (named_complete (codes "cpus ") number_at IsNumber number_law (decimal cpus) cpus r3
    (refl, h.2) (decimal_lacks cpus h.2))
    (bind_is _ _ _ _ (named_complete (codes "nonce ") number_at IsNumber number_law (decimal nonce) nonce
    r4 (refl, h.3) (decimal_lacks nonce h.3))
    (bind_is _ _ _ _ (named_complete (codes "seen ") number_at IsNumber number_law (decimal seen) seen r5
    (refl, h.4) (decimal_lacks seen h.4))
    (bind_is _ _ _ _ (named_complete (codes "load ") number_at IsNumber number_law (decimal load) load r6
    (refl, h.5) (decimal_lacks load h.5))
    (bind_is _ _ _ _ (last_complete (codes "error ") maybe_at (Exact number_text SomeFits) maybe_law
    (number_text error) error (refl, h.6))
    refl))))))

pub job_line_sound : (t : List ℕ) (k : RunLine) → job_line_at t ≡ Some k → Exact line_text LineFits (pre (codes
    "job ") t) k
unfolding job_line_at
job_line_sound t k e =
    let a0 = bind_some (field number_at t) _ k e in
    let a1 = bind_some (named (codes "reg ") number_at a0.0.1) _ k a0.2 in
    let a2 = bind_some (field stage_at a1.0.1) _ k a1.2 in
    let a3 = bind_some ((either_at (codes "claimed") (codes "unclaimed")) a2.0.1) _ k a2.2 in
    let f0 = field_sound number_at IsNumber number_law t a0.0.0 a0.0.1 a0.1 in
    let f1 = named_sound (codes "reg ") number_at IsNumber number_law a0.0.1 a1.0.0 a1.0.1 a1.1 in
    let f2 = field_sound stage_at (Exact stage_text Anything) stage_law a1.0.1 a2.0.0 a2.0.1 a2.1 in
    let f3 = claim_law.sound a2.0.1 a3.0 a3.1 in
    let made : RunLine = Job (job_of a0.0.0) a1.0.0 a2.0.0 a3.0 in
    let is : Exact line_text LineFits (pre (codes "job ") t) made = (
      ap (pre (codes "job ")) (follow _ _ _ _ _ f0.2 f0.1.0
          (follow_number _ (codes "reg ") f1.0 _ _ _ f1.2 f1.1.0
          (follow _ _ _ _ _ f2.2 f2.1.0
          f3.0))),
      (f0.1.1, f1.1.1),
    ) in
    subst (Exact line_text LineFits (pre (codes "job ") t)) (same_Some made k a3.2) is

pub job_line_complete : (job : JobId) (reg : ℕ) (stage : Option JobState) (claimed : Bool) → LineFits (Job job
    reg stage claimed) → job_line_at ((decimal job.0) ++ 32 ∷ (codes "reg " ++ ((decimal reg) ++ 32 ∷
    ((stage_text stage) ++ 32 ∷ (claim_text claimed))))) ≡ Some (Job (job_of job.0) reg stage claimed)
unfolding job_line_at
job_line_complete job reg stage claimed h =
    let r3 : List ℕ = (claim_text claimed) in
    let r2 : List ℕ = ((stage_text stage) ++ 32 ∷ (claim_text claimed)) in
    let r1 : List ℕ = (codes "reg " ++ ((decimal reg) ++ 32 ∷ ((stage_text stage) ++ 32 ∷ (claim_text
    claimed)))) in
    bind_is _ _ _ _ (field_complete number_at IsNumber number_law (decimal job.0) job.0 r1 (refl, h.0)
    (decimal_lacks job.0 h.0))
    (bind_is _ _ _ _ (named_complete (codes "reg ") number_at IsNumber number_law (decimal reg) reg r2
    (refl, h.1) (decimal_lacks reg h.1))
    (bind_is _ _ _ _ (field_complete stage_at (Exact stage_text Anything) stage_law (stage_text stage)
    stage r3 (refl, tt) (stage_lacks stage))
    (bind_is _ _ _ _ (claim_law.complete (claim_text claimed) claimed (refl, tt))
    refl)))

pub held_sound : (t : List ℕ) (k : RunLine) → held_at t ≡ Some k → Exact line_text LineFits (pre (codes
    "held ") t) k
unfolding held_at
held_sound t k e =
    let a0 = bind_some (field exact_at t) _ k e in
    let a1 = bind_some (field number_at a0.0.1) _ k a0.2 in
    let a2 = bind_some (id_at a1.0.1) _ k a1.2 in
    let f0 = field_sound exact_at (Exact addr_text HasText) exact_law t a0.0.0 a0.0.1 a0.1 in
    let f1 = field_sound number_at IsNumber number_law a0.0.1 a1.0.0 a1.0.1 a1.1 in
    let f2 = id_law.sound a1.0.1 a2.0 a2.1 in
    let made : RunLine = Held a0.0.0 (job_of a1.0.0) a2.0 in
    let is : Exact line_text LineFits (pre (codes "held ") t) made = (
      ap (pre (codes "held ")) (follow _ _ _ _ _ f0.2 f0.1.0
          (follow _ _ _ _ _ f1.2 f1.1.0
          f2.0)),
      (f0.1.1, f1.1.1, f2.1),
    ) in
    subst (Exact line_text LineFits (pre (codes "held ") t)) (same_Some made k a2.2) is

pub held_complete : (server : Addr) (job : JobId) (tc : List ℕ) → LineFits (Held server job tc) → held_at
    ((addr_text server) ++ 32 ∷ ((decimal job.0) ++ 32 ∷ tc)) ≡ Some (Held server (job_of job.0) tc)
unfolding held_at
held_complete server job tc h =
    let r2 : List ℕ = tc in
    let r1 : List ℕ = ((decimal job.0) ++ 32 ∷ tc) in
    bind_is _ _ _ _ (field_complete exact_at (Exact addr_text HasText) exact_law (addr_text server) server
    r1 (refl, h.0) (addr_lacks server h.0))
    (bind_is _ _ _ _ (field_complete number_at IsNumber number_law (decimal job.0) job.0 r2 (refl, h.1)
    (decimal_lacks job.0 h.1))
    (bind_is _ _ _ _ (id_law.complete tc tc (refl, h.2))
    refl))

pub archive_line_sound : (t : List ℕ) (k : RunLine) → archive_line_at t ≡ Some k → Exact line_text LineFits
    (pre (codes "archive ") t) k
unfolding archive_line_at
archive_line_sound t k e =
    let a0 = bind_some (field exact_at t) _ k e in
    let a1 = bind_some (field id_at a0.0.1) _ k a0.2 in
    let a2 = bind_some (number_at a1.0.1) _ k a1.2 in
    let f0 = field_sound exact_at (Exact addr_text HasText) exact_law t a0.0.0 a0.0.1 a0.1 in
    let f1 = field_sound id_at (Exact itself IsId) id_law a0.0.1 a1.0.0 a1.0.1 a1.1 in
    let f2 = number_law.sound a1.0.1 a2.0 a2.1 in
    let made : RunLine = Archive a0.0.0 a1.0.0 a2.0 in
    let is : Exact line_text LineFits (pre (codes "archive ") t) made = (
      ap (pre (codes "archive ")) (follow _ _ _ _ _ f0.2 f0.1.0
          (follow _ _ _ _ _ f1.2 f1.1.0
          f2.0)),
      (f0.1.1, f1.1.1, f2.1),
    ) in
    subst (Exact line_text LineFits (pre (codes "archive ") t)) (same_Some made k a2.2) is

pub archive_line_complete : (server : Addr) (tc : List ℕ) (size : ℕ) → LineFits (Archive server tc size) →
    archive_line_at ((addr_text server) ++ 32 ∷ (tc ++ 32 ∷ (decimal size))) ≡ Some (Archive server tc
    size)
unfolding archive_line_at
archive_line_complete server tc size h =
    let r2 : List ℕ = (decimal size) in
    let r1 : List ℕ = (tc ++ 32 ∷ (decimal size)) in
    bind_is _ _ _ _ (field_complete exact_at (Exact addr_text HasText) exact_law (addr_text server) server
    r1 (refl, h.0) (addr_lacks server h.0))
    (bind_is _ _ _ _ (field_complete id_at (Exact itself IsId) id_law tc tc r2 (refl, h.1) (id_lacks tc
    h.1))
    (bind_is _ _ _ _ (number_law.complete (decimal size) size (refl, h.2))
    refl))
