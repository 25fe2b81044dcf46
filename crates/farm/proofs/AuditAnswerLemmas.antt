-- The clauses of the command that speak of the audit.
use Rattle.std.proofs.Common.{◌≡◌, ◌⊎◌, ◌↔◌, inl, inr, ℕ, zero, suc, List, [], Option, Some, Result, Ok, Err, refl}
use Rattle.std.proofs.Common.{sym, ap, subst, ◌∙◌, arith}
use Rattle.std.specs.Prelude.{IfSome, ⊤}
use Rattle.std.proofs.lemmas.Option.{IfSome_then}
use Rattle.dist_types.specs.Content.{left_behind}
use Rattle.line_program.specs.declared.fault.FarmFault.{FarmFault}
use Rattle.line_program.specs.declared.fault.FarmFault.TheVariants.{Usage, BadLine, DuplicateAddress}
use Rattle.line_program.specs.declared.fault.FarmFault.TheVariants.{ScopedAddress, OverlappingIds}
use Rattle.line_program.specs.declared.fault.FarmFault.TheVariants.{ReadFault, WriteFault}
use Rattle.line_program.specs.declared.fault.FarmFault.TheVariants.{BadConfig, ServeFault, Memory, AuditRefused}
use Rattle.line_program.specs.declared.why.Why.{Why}
use Rattle.line_program.specs.declared.why.Why.TheVariants.{Text, Core, Build, Books}
use Rattle.command_line.specs.declared.command.Command.{Command}
use Rattle.command_line.specs.declared.command.Command.TheVariants.{Audit}
use Rattle.command_line.specs.Asked.{Invocation, asked_by, audit}
use Rattle.command_line.specs.Parsed.{command_in}
use Rattle.line_program.specs.Report.{fault_status, IsTold}
use Rattle.line_program.specs.Side.{Side}
use Rattle.audit.specs.declared.verdict.Verdict.{Verdict}
use Rattle.audit.specs.declared.verdict.Verdict.TheVariants.{Holds, Refused}
use Rattle.audit.specs.Reading.{Read}
use Rattle.audit.specs.FirstBad.{IsFirstBad, IsPrinted}
use Rattle.audit.specs.Held.{IsHeld, IsFault, IsWrongBook}
use Rattle.audit.specs.Verdict.{verdict}
use Rattle.farm.specs.Audited.{IsRefusedFor, IsAuditRun}
use Rattle.farm.specs.Command.{program_name, Called, Moment, IsCarriedOut, IsUnparsed, IsWorked, IsDoneBy}
use Rattle.farm.specs.Command.{IsAnswered}
use Rattle.farm.proofs.AnswerLemmas.{own, memory_status, three_of, always}

-- the laws of the audit: one verdict, which holds and refuses as its definitions say
pub record AuditLaws : Type 0 where
  pub holds : (text : List ℕ) → (verdict text ≡ Holds) ↔ IsHeld text
  pub text : (text : List ℕ) (n : ℕ) → (verdict text ≡ Refused n Text) ↔ IsFirstBad text n
  pub judged : (text : List ℕ) (n : ℕ) (w : Why) → (w ≡ Core) ⊎ (w ≡ Build)
      → (verdict text ≡ Refused n w) ↔ ((r : Read) × IsPrinted text r × IsFault r (n, w))
  pub books : (text : List ℕ) (n : ℕ) → (verdict text ≡ Refused n Books) ↔ IsWrongBook text n

refused_is : (laws : AuditLaws) (text : List ℕ) (n : ℕ) (why : Why) → IsRefusedFor text n why
    → verdict text ≡ Refused n why
refused_is laws text n Text h = (laws.text text n).1 h
refused_is laws text n Core h = (laws.judged text n Core (inl refl)).1 h
refused_is laws text n Build h = (laws.judged text n Build (inr refl)).1 h
refused_is laws text n Books h = (laws.books text n).1 h

-- no text both holds and is refused
never_both : (laws : AuditLaws) (text : List ℕ) (n : ℕ) (why : Why) → IsHeld text → IsRefusedFor text n why → ⊥
never_both laws text n why held refused =
    let clash : Holds ≡ Refused n why = sym ((laws.holds text).1 held) ∙ refused_is laws text n why refused in
    absurd cc

-- ---- the audit was carried out, or memory ran out before

is_audit : (command : Command) → command_in audit [] ≡ Ok command → Audit ≡ command
is_audit command e = cc

worked : (r : Result ⊤ FarmFault) (before after : Moment) → IsWorked audit r before after
    → IsAuditRun r before.input after.input before.out after.out
worked r before after w =
    let out : IsCarriedOut Audit r before after = subst (λ (k : Command). IsCarriedOut k r before after)
    (sym (is_audit w.command w.parsed.1)) w.carried_out in out.0

unparsed : (f : FarmFault) (before after : Moment) → IsUnparsed audit (Err f) before after → f ≡ Memory
unparsed Memory before after h = refl
unparsed (BadConfig c) before after h = absurd h.0.0
unparsed (AuditRefused n why) before after h = absurd h.0
unparsed (BadLine n) before after h = absurd h.0
unparsed (DuplicateAddress n) before after h = absurd h.0
unparsed (ScopedAddress n) before after h = absurd h.0
unparsed (OverlappingIds n) before after h = absurd h.0
unparsed Usage before after h = absurd h.0
unparsed ReadFault before after h = absurd h.0
unparsed WriteFault before after h = absurd h.0
unparsed ServeFault before after h = absurd h.0

done : (what : Option Invocation) (before after : Moment) → what ≡ Some audit
    → IsDoneBy what (Ok tt) before after → IsAuditRun (Ok tt) before.input after.input before.out after.out
done what before after e is_done =
    by_cases (subst (λ (w : Option Invocation). IsDoneBy w (Ok tt) before after) e is_done)
  where
    by_cases : IsDoneBy (Some audit) (Ok tt) before after
        → IsAuditRun (Ok tt) before.input after.input before.out after.out
    by_cases (inl h) = absurd h
    by_cases (inr h) = worked (Ok tt) before after h

fault : (what : Option Invocation) (f : FarmFault) (before after : Moment) → what ≡ Some audit
    → IsDoneBy what (Err f) before after
    → (f ≡ Memory) ⊎ IsAuditRun (Err f) before.input after.input before.out after.out
fault what f before after e is_done =
    by_cases (subst (λ (w : Option Invocation). IsDoneBy w (Err f) before after) e is_done)
  where
    by_cases : IsDoneBy (Some audit) (Err f) before after → (f ≡ Memory)
        ⊎ IsAuditRun (Err f) before.input after.input before.out after.out
    by_cases (inl h) = inl (unparsed f before after h)
    by_cases (inr h) = inr (worked (Err f) before after h)

-- ---- its statuses

-- one that is due, or 3, 4 or 5
abbrev Answers : ℕ → ℕ → Type 0
Answers due answer = (answer ≡ due) ⊎ ((answer ≡ 3) ⊎ ((answer ≡ 4) ⊎ (answer ≡ 5)))

held_run : (laws : AuditLaws) (f : FarmFault) (answer : ℕ) (i j o p e x : Side) → IsAuditRun (Err f) i j o p
    → IsTold program_name f answer e x → IfSome i.content (λ bytes. IsHeld bytes → Answers 0 answer)
held_run laws f answer i j o p e x h (inr t) = always i.content (λ bytes held. inr (inr (inr t.0)))
held_run laws (AuditRefused n why) answer i j o p e x h (inl t) = IfSome_then i.content h.2
    (λ bytes refused held. absurd (never_both laws bytes n why held refused))
held_run laws Memory answer i j o p e x h (inl t) = always i.content (λ bytes held. inr (inl t.0))
held_run laws ReadFault answer i j o p e x h (inl t) = always i.content (λ bytes held. inr (inr (inl t.0)))
held_run laws WriteFault answer i j o p e x h (inl t) = always i.content (λ bytes held. inr (inr (inr t.0)))
held_run laws (BadLine n) answer i j o p e x h (inl t) = absurd h
held_run laws (DuplicateAddress n) answer i j o p e x h (inl t) = absurd h
held_run laws (ScopedAddress n) answer i j o p e x h (inl t) = absurd h
held_run laws (OverlappingIds n) answer i j o p e x h (inl t) = absurd h
held_run laws (BadConfig c) answer i j o p e x h (inl t) = absurd h
held_run laws ServeFault answer i j o p e x h (inl t) = absurd h
held_run laws Usage answer i j o p e x h (inl t) = absurd h

refused_run : (f : FarmFault) (answer : ℕ) (i j o p e x : Side) → IsAuditRun (Err f) i j o p
    → IsTold program_name f answer e x → Answers 8 answer
refused_run f answer i j o p e x h (inr t) = inr (inr (inr t.0))
refused_run (AuditRefused n why) answer i j o p e x h (inl t) = inl t.0
refused_run Memory answer i j o p e x h (inl t) = inr (inl t.0)
refused_run ReadFault answer i j o p e x h (inl t) = inr (inr (inl t.0))
refused_run WriteFault answer i j o p e x h (inl t) = inr (inr (inr t.0))
refused_run (BadLine n) answer i j o p e x h (inl t) = absurd h
refused_run (DuplicateAddress n) answer i j o p e x h (inl t) = absurd h
refused_run (ScopedAddress n) answer i j o p e x h (inl t) = absurd h
refused_run (OverlappingIds n) answer i j o p e x h (inl t) = absurd h
refused_run (BadConfig c) answer i j o p e x h (inl t) = absurd h
refused_run ServeFault answer i j o p e x h (inl t) = absurd h
refused_run Usage answer i j o p e x h (inl t) = absurd h

told_held : (laws : AuditLaws) (f : FarmFault) (answer : ℕ) (i j o p e x : Side) → (f ≡ Memory)
    ⊎ IsAuditRun (Err f) i j o p → IsTold program_name f answer e x
    → IfSome i.content (λ bytes. IsHeld bytes → Answers 0 answer)
told_held laws f answer i j o p e x (inl m) told = always i.content (λ bytes held. three_of (answer ≡ 0)
    (answer ≡ 4) answer (memory_status f answer e x m told))
told_held laws f answer i j o p e x (inr h) told = held_run laws f answer i j o p e x h told

-- a printed run that holds
pub held_of : (laws : AuditLaws) (answer : ℕ) (c : Called) (e x : Side) → IsAnswered answer c e x
    → asked_by c.words ≡ Some audit
    → IfSome c.before.input.content (λ bytes. IsHeld bytes → Answers 0 answer)
held_of laws zero c e x a named = always c.before.input.content (λ bytes held. inl refl)
held_of laws (suc k) c e x a named =
    let t = a.told (omega arith) in
    told_held laws t.0 (suc k) c.before.input c.after.input c.before.out c.after.out e x
    (fault (asked_by c.words) t.0 c.before c.after named t.1) t.2

told_refused : (f : FarmFault) (answer : ℕ) (i j o p e x : Side) → (f ≡ Memory) ⊎ IsAuditRun (Err f) i j o p
    → IsTold program_name f answer e x → Answers 8 answer
told_refused f answer i j o p e x (inl m) told = three_of (answer ≡ 8) (answer ≡ 4) answer
    (memory_status f answer e x m told)
told_refused f answer i j o p e x (inr h) told = refused_run f answer i j o p e x h told

-- a text that is refused
pub refused_of : (laws : AuditLaws) (answer : ℕ) (c : Called) (e x : Side) → IsAnswered answer c e x
    → asked_by c.words ≡ Some audit
    → IfSome c.before.input.content (λ bytes. (n : ℕ) (why : Why) → IsRefusedFor bytes n why → Answers 8 answer)
refused_of laws zero c e x a named =
    let run = done (asked_by c.words) c.before c.after named (a.done refl).0 in
    IfSome_then c.before.input.content run.2
    (λ bytes held n why refused. absurd (never_both laws bytes n why held refused))
refused_of laws (suc k) c e x a named =
    let t = a.told (omega arith) in
    let why_not = fault (asked_by c.words) t.0 c.before c.after named t.1 in
    always c.before.input.content
    (λ bytes n why refused. told_refused t.0 (suc k) c.before.input c.after.input c.before.out c.after.out e x
    why_not t.2)

-- ---- what input has left

left_run : (f : FarmFault) (answer : ℕ) (i j o p : Side) → IsAuditRun (Err f) i j o p → answer ≡ fault_status f
    → answer ≡ 8 → j.content ≡ left_behind 268435457 i.content
left_run (AuditRefused n why) answer i j o p h is eight = h.0.0
left_run Memory answer i j o p h is eight = absurd (omega (arith, is, eight))
left_run ReadFault answer i j o p h is eight = absurd (omega (arith, is, eight))
left_run WriteFault answer i j o p h is eight = absurd (omega (arith, is, eight))
left_run (BadLine n) answer i j o p h is eight = absurd h
left_run (DuplicateAddress n) answer i j o p h is eight = absurd h
left_run (ScopedAddress n) answer i j o p h is eight = absurd h
left_run (OverlappingIds n) answer i j o p h is eight = absurd h
left_run (BadConfig c) answer i j o p h is eight = absurd h
left_run ServeFault answer i j o p h is eight = absurd h
left_run Usage answer i j o p h is eight = absurd h

left_audit : (f : FarmFault) (answer : ℕ) (i j o p : Side) → (f ≡ Memory) ⊎ IsAuditRun (Err f) i j o p
    → answer ≡ fault_status f → answer ≡ 8 → j.content ≡ left_behind 268435457 i.content
left_audit f answer i j o p (inl m) is eight =
    absurd (let three : fault_status f ≡ 3 = ap fault_status m in omega (arith, is, eight, three))
left_audit f answer i j o p (inr h) is eight = left_run f answer i j o p h is eight

eight_is : (k : ℕ) → (suc k ≡ 0) ⊎ (suc k ≡ 8) → suc k ≡ 8
eight_is k (inl e) = absurd (omega (arith, e))
eight_is k (inr e) = e

pub behind_of : (answer : ℕ) (c : Called) (e x : Side) → IsAnswered answer c e x
    → asked_by c.words ≡ Some audit → (answer ≡ 0) ⊎ (answer ≡ 8)
    → c.after.input.content ≡ left_behind 268435457 c.before.input.content
behind_of zero c e x a named is = (done (asked_by c.words) c.before c.after named (a.done refl).0).0.0
behind_of (suc k) c e x a named is =
    let t = a.told (omega arith) in
    let eight = eight_is k is in
    left_audit t.0 (suc k) c.before.input c.after.input c.before.out c.after.out
    (fault (asked_by c.words) t.0 c.before c.after named t.1)
    (own t.0 (suc k) e x t.2 (λ five. omega (arith, eight, five))).0 eight
