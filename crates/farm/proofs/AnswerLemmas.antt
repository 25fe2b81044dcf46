-- The clauses of the command, from what was done and what was told.
use Rattle.std.proofs.Common.{◌≡◌, ◌≢◌, ◌⊎◌, inl, inr, ℕ, zero, suc, ◌<◌, ◌≤◌, List, [], Option, Some, None}
use Rattle.std.proofs.Common.{IfSome, Result, Ok, Err, refl, sym, ap, subst, ◌∙◌, arith}
use Rattle.std.specs.Prelude.{⊤}
use Rattle.std.proofs.lemmas.Option.{IfSome_then}
use Rattle.rand_core.specs.Stream.{Stream}
use Rattle.dist_types.specs.declared.fault.Failed.{Failed}
use Rattle.dist_config.specs.Serve.{scheduler_call, server_call}
use Rattle.dist_config.specs.declared.serve.ServeCall.{ServeCall}
use Rattle.dist_types.specs.Content.{left_behind}
use Rattle.line_program.specs.declared.fault.ConfigCause.{ConfigCause}
use Rattle.line_program.specs.declared.fault.ConfigCause.TheVariants.{Missing, Unreadable, NotToml, Key}
use Rattle.line_program.specs.declared.fault.FarmFault.{FarmFault}
use Rattle.line_program.specs.declared.fault.FarmFault.TheVariants.{Usage, BadLine, DuplicateAddress}
use Rattle.line_program.specs.declared.fault.FarmFault.TheVariants.{ScopedAddress, OverlappingIds}
use Rattle.line_program.specs.declared.fault.FarmFault.TheVariants.{ReadFault, WriteFault}
use Rattle.line_program.specs.declared.fault.FarmFault.TheVariants.{BadConfig, ServeFault, Memory, AuditRefused}
use Rattle.farm_script.specs.FirstFaulty.{IsFirstFaulty, IsFaultless}
use Rattle.command_line.specs.declared.files.NamedFile.{NamedFile}
use Rattle.command_line.specs.declared.command.AuthSubcommand.{AuthSubcommand}
use Rattle.command_line.specs.declared.command.Command.{Command}
use Rattle.command_line.specs.declared.command.Command.TheVariants.{Farm, Storm, Auth, Scheduler, Server, Audit}
use Rattle.command_line.specs.Asked.{Invocation, farm, random, token_under, token_of, scheduler, server, storm}
use Rattle.command_line.specs.Asked.{asked_by, audit}
use Rattle.command_line.specs.Parsed.{OverFiles, command_in}
use Rattle.line_program.specs.Report.{fault_status, IsTold, IsLong, StandsFor, IsReported}
use Rattle.line_program.specs.Side.{Side}
use Rattle.farm.specs.Command.{program_name, Serving, Called, Moment, farm_runs, IsFarmRun}
use Rattle.farm.specs.Command.{IsStormRun, IsAuthRun, IsStarted, IsCarriedOut, IsUnparsed}
use Rattle.farm.specs.Command.{IsWorked, IsDoneBy, IsDone}
use Rattle.farm.specs.Command.{IsAnswered}
use Rattle.line_program.proofs.ProgramLemmas as programs
use Rattle.farm.proofs.AuditLemmas.{memory_audit, input_audit, out_audit}

status_some : (f : FarmFault) → 0 < fault_status f
status_some Usage = omega arith
status_some (BadLine n) = omega arith
status_some (DuplicateAddress n) = omega arith
status_some (ScopedAddress n) = omega arith
status_some ReadFault = omega arith
status_some WriteFault = omega arith
status_some (BadConfig c) = omega arith
status_some ServeFault = omega arith
status_some (AuditRefused n why) = omega arith
status_some (OverlappingIds n) = omega arith
status_some Memory = omega arith

status_most : (f : FarmFault) → fault_status f ≤ 8
status_most Usage = omega arith
status_most (BadLine n) = omega arith
status_most (DuplicateAddress n) = omega arith
status_most (ScopedAddress n) = omega arith
status_most ReadFault = omega arith
status_most WriteFault = omega arith
status_most (BadConfig c) = omega arith
status_most ServeFault = omega arith
status_most (AuditRefused n why) = omega arith
status_most (OverlappingIds n) = omega arith
status_most Memory = omega arith

told_some : (f : FarmFault) (answer : ℕ) (e x : Side) → IsTold program_name f answer e x → 0 < answer
told_some f answer e x (inl p) = omega (arith, p.0, status_some f)
told_some f answer e x (inr p) = omega (arith, p.0)

-- a status that is not 5 is the fault's own, and errs did not fail
pub own : (f : FarmFault) (answer : ℕ) (e x : Side) → IsTold program_name f answer e x → answer ≢ 5 → (answer ≡ fault_status f)
    × (x.faults ≡ e.faults)
own f answer e x (inl p) h = (p.0, p.2)
own f answer e x (inr p) h = absurd (h p.0)

-- ---- want of memory is told in place of a fault whose text takes memory

memory_storm : (n : ℕ) (met : FarmFault) (o p : Side) → IsLong met → IsStormRun n (Err met) o p → ⊥
memory_storm n (BadConfig c) o p long h = h
memory_storm n (AuditRefused k why) o p long h = h
memory_storm n (OverlappingIds k) o p long h = h
memory_storm n (BadLine k) o p long h = h
memory_storm n (DuplicateAddress k) o p long h = h
memory_storm n (ScopedAddress k) o p long h = h
memory_storm n Usage o p long h = long
memory_storm n ReadFault o p long h = long
memory_storm n WriteFault o p long h = long
memory_storm n ServeFault o p long h = long
memory_storm n Memory o p long h = long

memory_auth : (auth : AuthSubcommand) (met : FarmFault) (s t : Stream) (o p : Side) → IsLong met
    → IsAuthRun auth (Err met) s t o p → IsAuthRun auth (Err Memory) s t o p
memory_auth auth (BadConfig (Key key)) s t o p long h = (h.3, inl h.2)
memory_auth auth (BadConfig Missing) s t o p long h = absurd h
memory_auth auth (BadConfig Unreadable) s t o p long h = absurd h
memory_auth auth (BadConfig NotToml) s t o p long h = absurd h
memory_auth auth (BadLine n) s t o p long h = absurd h
memory_auth auth (AuditRefused n why) s t o p long h = absurd h
memory_auth auth (OverlappingIds n) s t o p long h = absurd h
memory_auth auth (DuplicateAddress n) s t o p long h = absurd h
memory_auth auth (ScopedAddress n) s t o p long h = absurd h
memory_auth auth Usage s t o p long h = absurd long
memory_auth auth ReadFault s t o p long h = absurd long
memory_auth auth WriteFault s t o p long h = absurd long
memory_auth auth ServeFault s t o p long h = absurd long
memory_auth auth Memory s t o p long h = absurd long

no_start : (row : Result (Unit {0}) Failed → ServeCall) (met : FarmFault) (s t : Serving) → IsLong met
    → IsStarted row (Err met) s t → ⊥
no_start row (BadConfig c) s t long h = h
no_start row (BadLine n) s t long h = h
no_start row (AuditRefused n why) s t long h = h
no_start row (OverlappingIds n) s t long h = h
no_start row (DuplicateAddress n) s t long h = h
no_start row (ScopedAddress n) s t long h = h
no_start row Usage s t long h = long
no_start row ReadFault s t long h = long
no_start row WriteFault s t long h = long
no_start row ServeFault s t long h = long
no_start row Memory s t long h = long

memory_out : (command : Command) (met : FarmFault) (before after : Moment) → IsLong met
    → IsCarriedOut command (Err met) before after → IsCarriedOut command (Err Memory) before after
memory_out Farm met before after long h =
    (programs.memory_run farm_runs met before.input after.input before.out after.out long h.0, h.1, h.2)
memory_out (Storm n) met before after long h = absurd (memory_storm n met before.out after.out long h.0)
memory_out (Auth auth) met before after long h =
    (memory_auth auth met before.random after.random before.out after.out long h.0, h.1, h.2)
memory_out Audit met before after long h =
    (memory_audit met before.input after.input before.out after.out long h.0, h.1, h.2)
memory_out (Scheduler config) met before after long h =
    absurd (no_start (scheduler_call config) met before.serve after.serve long h.0)
memory_out (Server config) met before after long h =
    absurd (no_start (server_call config) met before.serve after.serve long h.0)

memory_unparsed : (what : Invocation) (met : FarmFault) (before after : Moment) → IsLong met
    → IsUnparsed what (Err met) before after → IsUnparsed what (Err Memory) before after
memory_unparsed what (BadConfig (Key key)) before after long h = (h.0.1.0, h.1)
memory_unparsed what (BadConfig Missing) before after long h = absurd long
memory_unparsed what (BadConfig Unreadable) before after long h = absurd long
memory_unparsed what (BadConfig NotToml) before after long h = absurd long
memory_unparsed what (BadLine n) before after long h = absurd h.0
memory_unparsed what (AuditRefused n why) before after long h = absurd h.0
memory_unparsed what (OverlappingIds n) before after long h = absurd h.0
memory_unparsed what (DuplicateAddress n) before after long h = absurd h.0
memory_unparsed what (ScopedAddress n) before after long h = absurd h.0
memory_unparsed what Usage before after long h = absurd long
memory_unparsed what ReadFault before after long h = absurd long
memory_unparsed what WriteFault before after long h = absurd long
memory_unparsed what ServeFault before after long h = absurd long
memory_unparsed what Memory before after long h = absurd long

usage_is_short : (met : FarmFault) → (met ≡ Usage) ⊎ (met ≡ Memory) → IsLong met → ⊥
usage_is_short met (inl e) long = subst (λ (f : FarmFault). IsLong f) e long
usage_is_short met (inr e) long = subst (λ (f : FarmFault). IsLong f) e long

memory_done : (what : Option Invocation) (met : FarmFault) (before after : Moment) → IsLong met
    → IsDoneBy what (Err met) before after → IsDoneBy what (Err Memory) before after
memory_done None met before after long h = absurd (usage_is_short met h.0 long)
memory_done (Some what) met before after long (inl h) = inl (memory_unparsed what met before after long h)
memory_done (Some what) met before after long (inr h) =
    inr (record {
      command = h.command;
      parsed = h.parsed;
      carried_out = memory_out h.command met before after long h.carried_out;
    })

told_done : (met told : FarmFault) (c : Called) → StandsFor met told → IsDone (Err met) c
    → IsDone (Err told) c
told_done met told c (inl same) done = subst (λ (f : FarmFault). IsDone (Err f) c) (sym same) done
told_done met told c (inr p) done = subst (λ (f : FarmFault). IsDone (Err f) c) (sym p.0)
    (memory_done (asked_by c.words) met c.before c.after p.1 done)

-- what was done, and the answer that reports it
pub answered : (r : Result ⊤ FarmFault) (answer : ℕ) (c : Called) (e x : Side) → IsDone r c
    → IsReported program_name r answer e x → IsAnswered answer c e x
answered (Ok y) answer c e x done told = record {
  done = λ zero_is. (done, told.1);
  told = λ some. absurd (omega (arith, told.0, some));
}
answered (Err met) answer c e x done told = record {
  done = λ zero_is. absurd (omega (arith, told_some told.0 answer e x told.2, zero_is));
  told = λ some. (told.0, told_done met told.0 c told.1 done, told.2);
}

-- ---- clauses that follow of the answer

told_most : (f : FarmFault) (answer : ℕ) (e x : Side) → IsTold program_name f answer e x → answer ≤ 8
told_most f answer e x (inl p) = omega (arith, p.0, status_most f)
told_most f answer e x (inr p) = omega (arith, p.0)

pub statuses_of : (answer : ℕ) (c : Called) (e x : Side) → IsAnswered answer c e x → answer ≤ 8
statuses_of zero c e x a = omega arith
statuses_of (suc n) c e x a = let t = a.told (omega arith) in told_most t.0 (suc n) e x t.2

-- the farm command was carried out, or memory ran out before
is_farm : (command : Command) → command_in farm [] ≡ Ok command → Farm ≡ command
is_farm command e = cc

farm_worked : (r : Result ⊤ FarmFault) (before after : Moment) → IsWorked farm r before after
    → IsFarmRun r before.input after.input before.out after.out
farm_worked r before after w =
    let out : IsCarriedOut Farm r before after = subst (λ (k : Command). IsCarriedOut k r before after)
    (sym (is_farm w.command w.parsed.1)) w.carried_out in out.0

farm_unparsed : (f : FarmFault) (before after : Moment) → IsUnparsed farm (Err f) before after → f ≡ Memory
farm_unparsed Memory before after h = refl
farm_unparsed (BadConfig c) before after h = absurd h.0.0
farm_unparsed (BadLine n) before after h = absurd h.0
farm_unparsed (AuditRefused n why) before after h = absurd h.0
farm_unparsed (OverlappingIds n) before after h = absurd h.0
farm_unparsed (DuplicateAddress n) before after h = absurd h.0
farm_unparsed (ScopedAddress n) before after h = absurd h.0
farm_unparsed Usage before after h = absurd h.0
farm_unparsed ReadFault before after h = absurd h.0
farm_unparsed WriteFault before after h = absurd h.0
farm_unparsed ServeFault before after h = absurd h.0

farm_done : (what : Option Invocation) (before after : Moment) → what ≡ Some farm
    → IsDoneBy what (Ok tt) before after → IsFarmRun (Ok tt) before.input after.input before.out after.out
farm_done what before after e done =
    by_cases (subst (λ (w : Option Invocation). IsDoneBy w (Ok tt) before after) e done)
  where
    by_cases : IsDoneBy (Some farm) (Ok tt) before after
        → IsFarmRun (Ok tt) before.input after.input before.out after.out
    by_cases (inl h) = absurd h
    by_cases (inr h) = farm_worked (Ok tt) before after h

farm_fault : (what : Option Invocation) (f : FarmFault) (before after : Moment) → what ≡ Some farm
    → IsDoneBy what (Err f) before after
    → (f ≡ Memory) ⊎ IsFarmRun (Err f) before.input after.input before.out after.out
farm_fault what f before after e done =
    by_cases (subst (λ (w : Option Invocation). IsDoneBy w (Err f) before after) e done)
  where
    by_cases : IsDoneBy (Some farm) (Err f) before after → (f ≡ Memory)
        ⊎ IsFarmRun (Err f) before.input after.input before.out after.out
    by_cases (inl h) = inl (farm_unparsed f before after h)
    by_cases (inr h) = inr (farm_worked (Err f) before after h)

-- ---- the farm command

pub memory_status : (f : FarmFault) (answer : ℕ) (e x : Side) → f ≡ Memory → IsTold program_name f answer e x → (answer ≡ 3)
    ⊎ (answer ≡ 5)
memory_status f answer e x is told = by_told (subst (λ (g : FarmFault). IsTold program_name g answer e x) is told)
  where
    by_told : IsTold program_name Memory answer e x → (answer ≡ 3) ⊎ (answer ≡ 5)
    by_told (inl t) = inl t.0
    by_told (inr t) = inr t.0

pub three_of : (P Q : Type 0) (answer : ℕ) → (answer ≡ 3) ⊎ (answer ≡ 5) → P ⊎ ((answer ≡ 3) ⊎ (Q ⊎ (answer ≡ 5)))
three_of P Q answer (inl e) = inr (inl e)
three_of P Q answer (inr e) = inr (inr (inr e))

pub always : {A : Type 0} {P : A → Type 0} (o : Option A) → ((x : A) → P x) → IfSome o P
always (Some x) h = h x
always None h = tt

farm_status : (f : FarmFault) (answer : ℕ) (i j o p : Side) (e x : Side) → (f ≡ Memory)
    ⊎ IsFarmRun (Err f) i j o p → IsTold program_name f answer e x
    → (answer ≡ 1) ⊎ ((answer ≡ 3) ⊎ ((answer ≡ 4) ⊎ (answer ≡ 5)))
farm_status f answer i j o p e x (inl m) told = three_of (answer ≡ 1) (answer ≡ 4) answer
    (memory_status f answer e x m told)
farm_status f answer i j o p e x (inr h) told = programs.line_status farm_runs f answer i j o p e x h told

pub faulty_of : (answer : ℕ) (c : Called) (e x : Side) → IsAnswered answer c e x
    → asked_by c.words ≡ Some farm
    → IfSome c.before.input.content (λ bytes. (f : FarmFault) → IsFirstFaulty bytes f → (answer ≡ 1)
    ⊎ ((answer ≡ 3) ⊎ ((answer ≡ 4) ⊎ (answer ≡ 5))))
faulty_of zero c e x a named =
    let run = farm_done (asked_by c.words) c.before c.after named (a.done refl).0 in
    IfSome_then c.before.input.content run.1.1 (λ bytes t f first. absurd (t.0 f first))
faulty_of (suc k) c e x a named =
    let t = a.told (omega arith) in
    let why = farm_fault (asked_by c.words) t.0 c.before c.after named t.1 in
    always c.before.input.content
    (λ bytes f first. farm_status t.0 (suc k) c.before.input c.after.input c.before.out c.after.out e x
    why t.2)

fine_farm : (f : FarmFault) (answer : ℕ) (i j o p : Side) (e x : Side) → (f ≡ Memory)
    ⊎ IsFarmRun (Err f) i j o p → IsTold program_name f answer e x
    → IfSome i.content (λ bytes. IsFaultless bytes → (answer ≡ 0)
    ⊎ ((answer ≡ 3) ⊎ ((answer ≡ 4) ⊎ (answer ≡ 5))))
fine_farm f answer i j o p e x (inl m) told =
    always i.content (λ bytes fine. three_of (answer ≡ 0) (answer ≡ 4) answer
    (memory_status f answer e x m told))
fine_farm f answer i j o p e x (inr h) told = programs.fine_status farm_runs f answer i j o p e x h told

pub faultless_of : (answer : ℕ) (c : Called) (e x : Side) → IsAnswered answer c e x
    → asked_by c.words ≡ Some farm
    → IfSome c.before.input.content (λ bytes. IsFaultless bytes → (answer ≡ 0)
    ⊎ ((answer ≡ 3) ⊎ ((answer ≡ 4) ⊎ (answer ≡ 5))))
faultless_of zero c e x a named = always c.before.input.content (λ bytes fine. inl refl)
faultless_of (suc k) c e x a named =
    let t = a.told (omega arith) in
    let why = farm_fault (asked_by c.words) t.0 c.before c.after named t.1 in
    fine_farm t.0 (suc k) c.before.input c.after.input c.before.out c.after.out e x why t.2

-- what input has left
left_run : (f : FarmFault) (answer : ℕ) (i j o p : Side) → IsFarmRun (Err f) i j o p → answer ≡ fault_status f
    → answer ≤ 1 → j.content ≡ left_behind 67108865 i.content
left_run (BadLine n) answer i j o p h is few = h.0.0
left_run (DuplicateAddress n) answer i j o p h is few = h.0.0
left_run (ScopedAddress n) answer i j o p h is few = h.0.0
left_run Memory answer i j o p h is few = absurd (omega (arith, is, few))
left_run ReadFault answer i j o p h is few = absurd (omega (arith, is, few))
left_run WriteFault answer i j o p h is few = absurd (omega (arith, is, few))
left_run (BadConfig c) answer i j o p h is few = h.0.0
left_run (AuditRefused n why) answer i j o p h is few = h.0.0
left_run (OverlappingIds n) answer i j o p h is few = h.0.0
left_run ServeFault answer i j o p h is few = h.0.0
left_run Usage answer i j o p h is few = h.0.0

left_farm : (f : FarmFault) (answer : ℕ) (i j o p : Side) → (f ≡ Memory) ⊎ IsFarmRun (Err f) i j o p
    → answer ≡ fault_status f → answer ≤ 1
    → j.content ≡ left_behind 67108865 i.content
left_farm f answer i j o p (inl m) is few =
    absurd (let three : fault_status f ≡ 3 = ap fault_status m in omega (arith, is, few, three))
left_farm f answer i j o p (inr h) is few = left_run f answer i j o p h is few

few_is : (answer : ℕ) → answer ≤ 1 → answer ≢ 5
few_is answer few is = omega (arith, few, is)

pub left_of : (answer : ℕ) (c : Called) (e x : Side) → IsAnswered answer c e x → asked_by c.words ≡ Some farm
    → answer ≤ 1
    → c.after.input.content ≡ left_behind 67108865 c.before.input.content
left_of zero c e x a named few = (farm_done (asked_by c.words) c.before c.after named (a.done refl).0).0.0
left_of (suc k) c e x a named few =
    let t = a.told (omega arith) in
    left_farm t.0 (suc k) c.before.input c.after.input c.before.out c.after.out
    (farm_fault (asked_by c.words) t.0 c.before c.after named t.1)
    (own t.0 (suc k) e x t.2 (few_is (suc k) few)).0 few

-- ---- counts

input_run : (f : FarmFault) (answer : ℕ) (i j o p : Side) → IsFarmRun (Err f) i j o p
    → answer ≡ fault_status f → answer ≢ 4 → answer ≢ 5 → j.faults ≡ i.faults
input_run f answer i j o p h is four five = (programs.run_counts farm_runs f i j o p h
    (λ e. four (is ∙ ap fault_status e)) (λ e. five (is ∙ ap fault_status e))).0

input_out : (command : Command) (f : FarmFault) (answer : ℕ) (before after : Moment)
    → IsCarriedOut command (Err f) before after → answer ≡ fault_status f
    → answer ≢ 4 → answer ≢ 5 → after.input.faults ≡ before.input.faults
input_out Farm f answer before after h is four five =
    input_run f answer before.input after.input before.out after.out h.0 is four five
input_out Audit f answer before after h is four five =
    input_audit f answer before.input after.input before.out after.out h.0 is four five
input_out (Storm n) f answer before after h is four five = ap (λ (s : Side). s.faults) h.1
input_out (Auth auth) f answer before after h is four five = ap (λ (s : Side). s.faults) h.1
input_out (Scheduler config) f answer before after h is four five = ap (λ (s : Side). s.faults) h.1
input_out (Server config) f answer before after h is four five = ap (λ (s : Side). s.faults) h.1

input_fault : (what : Option Invocation) (f : FarmFault) (answer : ℕ) (before after : Moment)
    → IsDoneBy what (Err f) before after → answer ≡ fault_status f
    → answer ≢ 4 → answer ≢ 5 → after.input.faults ≡ before.input.faults
input_fault None f answer before after h is four five = ap (λ (s : Side). s.faults) h.1.input
input_fault (Some what) f answer before after (inl h) is four five = ap (λ (s : Side). s.faults) h.1.input
input_fault (Some what) f answer before after (inr h) is four five =
    input_out h.command f answer before after h.carried_out is four five

input_done : (what : Option Invocation) (before after : Moment) → IsDoneBy what (Ok tt) before after
    → after.input.faults ≡ before.input.faults
input_done None before after h = absurd h.0
input_done (Some what) before after (inl h) = absurd h
input_done (Some what) before after (inr h) = by_command h.command h.carried_out
  where
    by_command : (command : Command) → IsCarriedOut command (Ok tt) before after
        → after.input.faults ≡ before.input.faults
    by_command Farm out = out.0.0.1
    by_command Audit out = out.0.0.1
    by_command (Storm n) out = ap (λ (s : Side). s.faults) out.1
    by_command (Auth auth) out = ap (λ (s : Side). s.faults) out.1
    by_command (Scheduler config) out = ap (λ (s : Side). s.faults) out.1
    by_command (Server config) out = ap (λ (s : Side). s.faults) out.1

pub order_of : (answer : ℕ) (c : Called) (e x : Side) → IsAnswered answer c e x → answer ≢ 4 → answer ≢ 5
    → c.after.input.faults ≡ c.before.input.faults
order_of zero c e x a four five = input_done (asked_by c.words) c.before c.after (a.done refl).0
order_of (suc k) c e x a four five =
    let t = a.told (omega arith) in
    input_fault (asked_by c.words) t.0 (suc k) c.before c.after t.1 (own t.0 (suc k) e x t.2 five).0 four five

out_run : (f : FarmFault) (answer : ℕ) (i j o p : Side) → IsFarmRun (Err f) i j o p → answer ≡ fault_status f
    → answer ≢ 5 → p.faults ≡ o.faults
out_run f answer i j o p h is five =
    programs.out_steady farm_runs f i j o p h (λ e. five (is ∙ ap fault_status e))

out_storm : (n : ℕ) (f : FarmFault) (answer : ℕ) (o p : Side) → IsStormRun n (Err f) o p
    → answer ≡ fault_status f → answer ≢ 5 → p.faults ≡ o.faults
out_storm n Memory answer o p h is five = ap (λ (s : Side). s.faults) h
out_storm n WriteFault answer o p h is five = absurd (five is)
out_storm n (BadLine k) answer o p h is five = absurd h
out_storm n (DuplicateAddress k) answer o p h is five = absurd h
out_storm n (ScopedAddress k) answer o p h is five = absurd h
out_storm n ReadFault answer o p h is five = absurd h
out_storm n (BadConfig c) answer o p h is five = absurd h
out_storm n (AuditRefused k why) answer o p h is five = absurd h
out_storm n (OverlappingIds k) answer o p h is five = absurd h
out_storm n ServeFault answer o p h is five = absurd h
out_storm n Usage answer o p h is five = absurd h

out_auth : (auth : AuthSubcommand) (f : FarmFault) (answer : ℕ) (s t : Stream) (o p : Side)
    → IsAuthRun auth (Err f) s t o p → answer ≡ fault_status f
    → answer ≢ 5 → p.faults ≡ o.faults
out_auth auth (BadConfig (Key key)) answer s t o p h is five = ap (λ (s : Side). s.faults) h.3
out_auth auth (BadConfig Missing) answer s t o p h is five = absurd h
out_auth auth (BadConfig Unreadable) answer s t o p h is five = absurd h
out_auth auth (BadConfig NotToml) answer s t o p h is five = absurd h
out_auth auth Memory answer s t o p h is five = ap (λ (s : Side). s.faults) h.0
out_auth auth WriteFault answer s t o p h is five = absurd (five is)
out_auth auth (BadLine n) answer s t o p h is five = absurd h
out_auth auth (AuditRefused n why) answer s t o p h is five = absurd h
out_auth auth (OverlappingIds n) answer s t o p h is five = absurd h
out_auth auth (DuplicateAddress n) answer s t o p h is five = absurd h
out_auth auth (ScopedAddress n) answer s t o p h is five = absurd h
out_auth auth ReadFault answer s t o p h is five = absurd h
out_auth auth ServeFault answer s t o p h is five = absurd h
out_auth auth Usage answer s t o p h is five = absurd h

out_out : (command : Command) (f : FarmFault) (answer : ℕ) (before after : Moment)
    → IsCarriedOut command (Err f) before after → answer ≡ fault_status f
    → answer ≢ 5 → after.out.faults ≡ before.out.faults
out_out Farm f answer before after h is five = out_run f answer before.input after.input before.out after.out
    h.0 is five
out_out Audit f answer before after h is five =
    out_audit f answer before.input after.input before.out after.out h.0 is five
out_out (Storm n) f answer before after h is five = out_storm n f answer before.out after.out h.0 is five
out_out (Auth auth) f answer before after h is five =
    out_auth auth f answer before.random after.random before.out after.out h.0 is five
out_out (Scheduler config) f answer before after h is five = ap (λ (s : Side). s.faults) h.2
out_out (Server config) f answer before after h is five = ap (λ (s : Side). s.faults) h.2

out_fault : (what : Option Invocation) (f : FarmFault) (answer : ℕ) (before after : Moment)
    → IsDoneBy what (Err f) before after → answer ≡ fault_status f
    → answer ≢ 5 → after.out.faults ≡ before.out.faults
out_fault None f answer before after h is five = ap (λ (s : Side). s.faults) h.1.out
out_fault (Some what) f answer before after (inl h) is five = ap (λ (s : Side). s.faults) h.1.out
out_fault (Some what) f answer before after (inr h) is five =
    out_out h.command f answer before after h.carried_out is five

out_done : (what : Option Invocation) (before after : Moment) → IsDoneBy what (Ok tt) before after
    → after.out.faults ≡ before.out.faults
out_done None before after h = absurd h.0
out_done (Some what) before after (inl h) = absurd h
out_done (Some what) before after (inr h) = by_command h.command h.carried_out
  where
    by_command : (command : Command) → IsCarriedOut command (Ok tt) before after
        → after.out.faults ≡ before.out.faults
    by_command Farm out = out.0.1.0
    by_command Audit out = out.0.1
    by_command (Storm n) out = out.0.3
    by_command (Auth auth) out = out.0.4
    by_command (Scheduler config) out = ap (λ (s : Side). s.faults) out.2
    by_command (Server config) out = ap (λ (s : Side). s.faults) out.2

pub counts_of : (answer : ℕ) (c : Called) (e x : Side) → IsAnswered answer c e x → answer ≢ 5
    → (c.after.out.faults ≡ c.before.out.faults) × (x.faults ≡ e.faults)
counts_of zero c e x a five = let d = a.done refl in (
  out_done (asked_by c.words) c.before c.after d.0,
  ap (λ (s : Side). s.faults) d.1,
)
counts_of (suc k) c e x a five =
    let t = a.told (omega arith) in
    let o = own t.0 (suc k) e x t.2 five in
    (out_fault (asked_by c.words) t.0 (suc k) c.before c.after t.1 o.0 five, o.1)

serve_started : (row : Result (Unit {0}) Failed → ServeCall) (f : FarmFault) (answer : ℕ) (s t : Serving)
    → IsStarted row (Err f) s t → answer ≡ fault_status f
    → answer ≢ 7 → t.faults ≡ s.faults
serve_started row ServeFault answer s t h is seven = absurd (seven is)
serve_started row Memory answer s t h is seven = absurd h
serve_started row WriteFault answer s t h is seven = absurd h
serve_started row ReadFault answer s t h is seven = absurd h
serve_started row (BadConfig c) answer s t h is seven = absurd h
serve_started row (AuditRefused n why) answer s t h is seven = absurd h
serve_started row (OverlappingIds n) answer s t h is seven = absurd h
serve_started row (BadLine n) answer s t h is seven = absurd h
serve_started row (DuplicateAddress n) answer s t h is seven = absurd h
serve_started row (ScopedAddress n) answer s t h is seven = absurd h
serve_started row Usage answer s t h is seven = absurd h

serve_out : (command : Command) (f : FarmFault) (answer : ℕ) (before after : Moment)
    → IsCarriedOut command (Err f) before after → answer ≡ fault_status f
    → answer ≢ 7 → after.serve.faults ≡ before.serve.faults
serve_out Farm f answer before after h is seven = ap (λ (s : Serving). s.faults) h.2
serve_out Audit f answer before after h is seven = ap (λ (s : Serving). s.faults) h.2
serve_out (Storm n) f answer before after h is seven = ap (λ (s : Serving). s.faults) h.3
serve_out (Auth auth) f answer before after h is seven = ap (λ (s : Serving). s.faults) h.2
serve_out (Scheduler config) f answer before after h is seven =
    serve_started (scheduler_call config) f answer before.serve after.serve h.0 is seven
serve_out (Server config) f answer before after h is seven =
    serve_started (server_call config) f answer before.serve after.serve h.0 is seven

serve_fault : (what : Option Invocation) (f : FarmFault) (answer : ℕ) (before after : Moment)
    → IsDoneBy what (Err f) before after → answer ≡ fault_status f
    → answer ≢ 7 → after.serve.faults ≡ before.serve.faults
serve_fault None f answer before after h is seven = ap (λ (s : Serving). s.faults) h.1.serve
serve_fault (Some what) f answer before after (inl h) is seven = ap (λ (s : Serving). s.faults) h.1.serve
serve_fault (Some what) f answer before after (inr h) is seven =
    serve_out h.command f answer before after h.carried_out is seven

serve_done : (what : Option Invocation) (before after : Moment) → IsDoneBy what (Ok tt) before after
    → after.serve.faults ≡ before.serve.faults
serve_done None before after h = absurd h.0
serve_done (Some what) before after (inl h) = absurd h
serve_done (Some what) before after (inr h) = by_command h.command h.carried_out
  where
    by_command : (command : Command) → IsCarriedOut command (Ok tt) before after
        → after.serve.faults ≡ before.serve.faults
    by_command Farm out = ap (λ (s : Serving). s.faults) out.2
    by_command Audit out = ap (λ (s : Serving). s.faults) out.2
    by_command (Storm n) out = ap (λ (s : Serving). s.faults) out.3
    by_command (Auth auth) out = ap (λ (s : Serving). s.faults) out.2
    by_command (Scheduler config) out = out.0.1
    by_command (Server config) out = out.0.1

pub served_of : (answer : ℕ) (c : Called) (e x : Side) → IsAnswered answer c e x → answer ≢ 7 → answer ≢ 5
    → c.after.serve.faults ≡ c.before.serve.faults
served_of zero c e x a seven five = serve_done (asked_by c.words) c.before c.after (a.done refl).0
served_of (suc k) c e x a seven five =
    let t = a.told (omega arith) in
    serve_fault (asked_by c.words) t.0 (suc k) c.before c.after t.1 (own t.0 (suc k) e x t.2 five).0 seven

-- ---- the storm

is_storm : (n : ℕ) (command : Command) → command_in (storm n) [] ≡ Ok command → Storm n ≡ command
is_storm n command e = cc

storm_status : (n : ℕ) (f : FarmFault) (answer : ℕ) (o p e x : Side) → IsStormRun n (Err f) o p
    → IsTold program_name f answer e x → (answer ≡ 0) ⊎ ((answer ≡ 3) ⊎ (answer ≡ 5))
storm_status n f answer o p e x h (inr t) = inr (inr t.0)
storm_status n Memory answer o p e x h (inl t) = inr (inl t.0)
storm_status n WriteFault answer o p e x h (inl t) = inr (inr t.0)
storm_status n (BadLine k) answer o p e x h (inl t) = absurd h
storm_status n (DuplicateAddress k) answer o p e x h (inl t) = absurd h
storm_status n (ScopedAddress k) answer o p e x h (inl t) = absurd h
storm_status n ReadFault answer o p e x h (inl t) = absurd h
storm_status n (BadConfig c) answer o p e x h (inl t) = absurd h
storm_status n (AuditRefused k why) answer o p e x h (inl t) = absurd h
storm_status n (OverlappingIds k) answer o p e x h (inl t) = absurd h
storm_status n ServeFault answer o p e x h (inl t) = absurd h
storm_status n Usage answer o p e x h (inl t) = absurd h

storm_unparsed : (n : ℕ) (f : FarmFault) (before after : Moment) → IsUnparsed (storm n) (Err f) before after
    → f ≡ Memory
storm_unparsed n Memory before after h = refl
storm_unparsed n (BadConfig c) before after h = absurd h.0.0
storm_unparsed n (BadLine k) before after h = absurd h.0
storm_unparsed n (AuditRefused k why) before after h = absurd h.0
storm_unparsed n (OverlappingIds k) before after h = absurd h.0
storm_unparsed n (DuplicateAddress k) before after h = absurd h.0
storm_unparsed n (ScopedAddress k) before after h = absurd h.0
storm_unparsed n Usage before after h = absurd h.0
storm_unparsed n ReadFault before after h = absurd h.0
storm_unparsed n WriteFault before after h = absurd h.0
storm_unparsed n ServeFault before after h = absurd h.0

storm_done : (n : ℕ) (f : FarmFault) (answer : ℕ) (before after : Moment) (e x : Side)
    → IsDoneBy (Some (storm n)) (Err f) before after → IsTold program_name f answer e x
    → (answer ≡ 0) ⊎ ((answer ≡ 3) ⊎ (answer ≡ 5))
storm_done n f answer before after e x (inl h) told =
    inr (memory_status f answer e x (storm_unparsed n f before after h) told)
storm_done n f answer before after e x (inr w) told =
    let out : IsCarriedOut (Storm n) (Err f) before after =
    subst (λ (k : Command). IsCarriedOut k (Err f) before after) (sym (is_storm n w.command w.parsed.1))
    w.carried_out in
    storm_status n f answer before.out after.out e x out.0 told

pub storm_of : (answer : ℕ) (c : Called) (e x : Side) → IsAnswered answer c e x → (n : ℕ)
    → asked_by c.words ≡ Some (storm n) → (answer ≡ 0) ⊎ ((answer ≡ 3) ⊎ (answer ≡ 5))
storm_of zero c e x a n named = inl refl
storm_of (suc k) c e x a n named =
    let t = a.told (omega arith) in
    storm_done n t.0 (suc k) c.before c.after e x
    (subst (λ (w : Option Invocation). IsDoneBy w (Err t.0) c.before c.after) named t.1) t.2

-- ---- words that name no command, and words that do

usage_status : (f : FarmFault) (answer : ℕ) (e x : Side) → (f ≡ Usage) ⊎ (f ≡ Memory) → IsTold program_name f answer e x
    → (answer ≡ 2) ⊎ ((answer ≡ 3) ⊎ (answer ≡ 5))
usage_status f answer e x (inl is) told = by_told (subst (λ (g : FarmFault). IsTold program_name g answer e x) is told)
  where
    by_told : IsTold program_name Usage answer e x → (answer ≡ 2) ⊎ ((answer ≡ 3) ⊎ (answer ≡ 5))
    by_told (inl t) = inl t.0
    by_told (inr t) = inr (inr t.0)
usage_status f answer e x (inr is) told = by_told (subst (λ (g : FarmFault). IsTold program_name g answer e x) is told)
  where
    by_told : IsTold program_name Memory answer e x → (answer ≡ 2) ⊎ ((answer ≡ 3) ⊎ (answer ≡ 5))
    by_told (inl t) = inr (inl t.0)
    by_told (inr t) = inr (inr t.0)

pub no_command_of : (answer : ℕ) (c : Called) (e x : Side) → IsAnswered answer c e x → asked_by c.words ≡ None
    → (answer ≡ 2) ⊎ ((answer ≡ 3) ⊎ (answer ≡ 5))
no_command_of zero c e x a none =
    let d : IsDoneBy None (Ok tt) c.before c.after =
    subst (λ (w : Option Invocation). IsDoneBy w (Ok tt) c.before c.after) none (a.done refl).0 in absurd d.0
no_command_of (suc k) c e x a none =
    let t = a.told (omega arith) in
    let d : IsDoneBy None (Err t.0) c.before c.after =
    subst (λ (w : Option Invocation). IsDoneBy w (Err t.0) c.before c.after) none t.1 in
    usage_status t.0 (suc k) e x d.0 t.2

two_is : (f : FarmFault) → 2 ≡ fault_status f → f ≡ Usage
two_is Usage e = refl
two_is (BadLine n) e = absurd (omega (arith, e))
two_is (DuplicateAddress n) e = absurd (omega (arith, e))
two_is (ScopedAddress n) e = absurd (omega (arith, e))
two_is ReadFault e = absurd (omega (arith, e))
two_is WriteFault e = absurd (omega (arith, e))
two_is (BadConfig c) e = absurd (omega (arith, e))
two_is (AuditRefused n why) e = absurd (omega (arith, e))
two_is (OverlappingIds n) e = absurd (omega (arith, e))
two_is ServeFault e = absurd (omega (arith, e))
two_is Memory e = absurd (omega (arith, e))

no_usage_out : (command : Command) (before after : Moment) → IsCarriedOut command (Err Usage) before after → ⊥
no_usage_out Farm before after h = h.0.1
no_usage_out Audit before after h = h.0
no_usage_out (Storm n) before after h = h.0
no_usage_out (Auth auth) before after h = h.0
no_usage_out (Scheduler config) before after h = h.0
no_usage_out (Server config) before after h = h.0

no_usage : (what : Invocation) (before after : Moment) → IsDoneBy (Some what) (Err Usage) before after → ⊥
no_usage what before after (inl h) = h.0
no_usage what before after (inr h) = no_usage_out h.command before after h.carried_out

pub command_of : (answer : ℕ) (c : Called) (e x : Side) → IsAnswered answer c e x → (what : Invocation)
    → asked_by c.words ≡ Some what → answer ≢ 2
command_of zero c e x a what named two = omega (arith, two)
command_of (suc k) c e x a what named two =
    let t = a.told (omega arith) in
    let o = own t.0 (suc k) e x t.2 (λ five. omega (arith, two, five)) in
    let d : IsDoneBy (Some what) (Err t.0) c.before c.after =
    subst (λ (w : Option Invocation). IsDoneBy w (Err t.0) c.before c.after) named t.1 in
    no_usage what c.before c.after (subst (λ (f : FarmFault). IsDoneBy (Some what) (Err f) c.before c.after)
    (two_is t.0 (sym two ∙ o.0)) d)

-- ---- configurations with a fault

clash : (what : Invocation) (told : List NamedFile) (files : Option (List NamedFile)) (command : Command)
    (cause : ConfigCause) → files ≡ Some told
    → command_in what told ≡ Err cause → OverFiles what files (λ t. command_in what t ≡ Ok command) → ⊥
clash farm told files command cause there bad good = let e = bad in absurd cc
clash (random n) told files command cause there bad good = let e = bad in absurd cc
clash (token_under address key) told files command cause there bad good = let e = bad in absurd cc
clash (token_of address path) told files command cause there bad good =
    let here : command_in (token_of address path) told ≡ Ok command =
    subst (λ (o : Option (List NamedFile)). IfSome o
    (λ t. command_in (token_of address path) t ≡ Ok command)) there good in
    let e = sym bad ∙ here in absurd cc
clash (scheduler path) told files command cause there bad good =
    let here : command_in (scheduler path) told ≡ Ok command =
    subst (λ (o : Option (List NamedFile)). IfSome o (λ t. command_in (scheduler path) t ≡ Ok command))
    there good in
    let e = sym bad ∙ here in absurd cc
clash (server path) told files command cause there bad good =
    let here : command_in (server path) told ≡ Ok command =
    subst (λ (o : Option (List NamedFile)). IfSome o (λ t. command_in (server path) t ≡ Ok command)) there
    good in
    let e = sym bad ∙ here in absurd cc
clash (storm n) told files command cause there bad good = let e = bad in absurd cc
clash audit told files command cause there bad good = let e = bad in absurd cc

bad_status : (what : Invocation) (f : FarmFault) (answer : ℕ) (before after : Moment) (e x : Side)
    → IsUnparsed what (Err f) before after → IsTold program_name f answer e x
    → (answer ≡ 6) ⊎ ((answer ≡ 3) ⊎ (answer ≡ 5))
bad_status what f answer before after e x h (inr t) = inr (inr t.0)
bad_status what (BadConfig c) answer before after e x h (inl t) = inl t.0
bad_status what Memory answer before after e x h (inl t) = inr (inl t.0)
bad_status what (BadLine n) answer before after e x h (inl t) = absurd h.0
bad_status what (AuditRefused n why) answer before after e x h (inl t) = absurd h.0
bad_status what (OverlappingIds n) answer before after e x h (inl t) = absurd h.0
bad_status what (DuplicateAddress n) answer before after e x h (inl t) = absurd h.0
bad_status what (ScopedAddress n) answer before after e x h (inl t) = absurd h.0
bad_status what Usage answer before after e x h (inl t) = absurd h.0
bad_status what ReadFault answer before after e x h (inl t) = absurd h.0
bad_status what WriteFault answer before after e x h (inl t) = absurd h.0
bad_status what ServeFault answer before after e x h (inl t) = absurd h.0

not_done : (what : Invocation) (told : List NamedFile) (cause : ConfigCause) (before after : Moment)
    → before.files ≡ Some told → command_in what told ≡ Err cause
    → IsDoneBy (Some what) (Ok tt) before after → ⊥
not_done what told cause before after there bad (inl h) = h
not_done what told cause before after there bad (inr h) =
    clash what told before.files h.command cause there bad h.parsed.1

fault_bad : (what : Invocation) (f : FarmFault) (answer : ℕ) (told : List NamedFile) (cause : ConfigCause)
    (before after : Moment) (e x : Side) → before.files ≡ Some told
    → command_in what told ≡ Err cause → IsDoneBy (Some what) (Err f) before after → IsTold program_name f answer e x
    → (answer ≡ 6) ⊎ ((answer ≡ 3) ⊎ (answer ≡ 5))
fault_bad what f answer told cause before after e x there bad (inl h) said =
    bad_status what f answer before after e x h said
fault_bad what f answer told cause before after e x there bad (inr h) said =
    absurd (clash what told before.files h.command cause there bad h.parsed.1)

configured_by : (answer : ℕ) (c : Called) (e x : Side) → IsAnswered answer c e x → (told : List NamedFile)
    → c.before.files ≡ Some told
    → (what : Invocation) (cause : ConfigCause) → asked_by c.words ≡ Some what → command_in what told
    ≡ Err cause
    → (answer ≡ 6) ⊎ ((answer ≡ 3) ⊎ (answer ≡ 5))
configured_by zero c e x a told there what cause named bad =
    absurd (not_done what told cause c.before c.after there bad
    (subst (λ (w : Option Invocation). IsDoneBy w (Ok tt) c.before c.after) named (a.done refl).0))
configured_by (suc k) c e x a told there what cause named bad =
    let t = a.told (omega arith) in
    fault_bad what t.0 (suc k) told cause c.before c.after e x there bad
    (subst (λ (w : Option Invocation). IsDoneBy w (Err t.0) c.before c.after) named t.1) t.2

pub configured_of : (answer : ℕ) (c : Called) (e x : Side) → IsAnswered answer c e x
    → IfSome c.before.files (λ told. (what : Invocation) (cause : ConfigCause)
    → asked_by c.words ≡ Some what → command_in what told ≡ Err cause → (answer ≡ 6)
    ⊎ ((answer ≡ 3) ⊎ (answer ≡ 5)))
configured_of answer c e x a = by_files c.before.files refl
  where
    by_files : (o : Option (List NamedFile)) → c.before.files ≡ o
        → IfSome o (λ told. (what : Invocation) (cause : ConfigCause)
        → asked_by c.words ≡ Some what → command_in what told ≡ Err cause → (answer ≡ 6)
        ⊎ ((answer ≡ 3) ⊎ (answer ≡ 5)))
    by_files None is = tt
    by_files (Some told) is = configured_by answer c e x a told is

-- ---- a fault that names no line and no key

-- it is told as itself
pub as_told : (program : List ℕ) (met f : FarmFault) (answer : ℕ) (e x : Side) → met ≡ f → (IsLong f → ⊥)
    → IsReported program (Err met) answer e x → IsTold program f answer e x
as_told program met f answer e x is short reported =
    by_told (subst (λ (g : FarmFault). IsReported program (Err g) answer e x) is reported)
  where
    by_told : IsReported program (Err f) answer e x → IsTold program f answer e x
    by_told (told, inl same, said) = subst (λ (g : FarmFault). IsTold program g answer e x) same said
    by_told (told, inr long, said) = absurd (short long.1)
