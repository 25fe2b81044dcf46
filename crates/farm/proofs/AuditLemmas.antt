-- The audit of what was read of input, which is that of all that input told; and its clauses by cases.
use Rattle.std.proofs.Common.{◌≡◌, ◌≢◌, ◌⊎◌, ◌↔◌, inl, inr, ℕ, zero, suc, ◌+◌, ◌<◌, ◌≤◌, min, List, [], ◌∷◌, ◌++◌}
use Rattle.std.proofs.Common.{length, take, drop, Option, Some, None, Err, refl, sym, ap, subst, ◌∙◌}
use Rattle.std.proofs.Common.{arith}
use Rattle.std.specs.Prelude.{IfSome}
use Rattle.std.proofs.lemmas.Bool.{cases_lt}
use Rattle.std.proofs.lemmas.List.{append-nil, length-take, length-drop, take-append-le, drop-append-le}
use Rattle.std.proofs.lemmas.List.{length-append}
use Rattle.dist_types.specs.Content.{Taken, IsAtEnd}
use Rattle.line_program.specs.declared.fault.FarmFault.{FarmFault}
use Rattle.line_program.specs.declared.fault.FarmFault.TheVariants.{Usage, BadLine, DuplicateAddress}
use Rattle.line_program.specs.declared.fault.FarmFault.TheVariants.{ScopedAddress, OverlappingIds}
use Rattle.line_program.specs.declared.fault.FarmFault.TheVariants.{ReadFault, WriteFault}
use Rattle.line_program.specs.declared.fault.FarmFault.TheVariants.{BadConfig, ServeFault, Memory, AuditRefused}
use Rattle.line_program.specs.declared.why.Why.{Why}
use Rattle.line_program.specs.declared.why.Why.TheVariants.{Text, Core, Build, Books}
use Rattle.line_program.specs.Input.{IsReadTo, IsReadWithin}
use Rattle.line_program.specs.Pieces.{pieces, piece_len}
use Rattle.line_program.specs.Report.{fault_status, IsLong}
use Rattle.line_program.specs.Side.{Side}
use Rattle.line_program.proofs.PieceLemmas.{pieces_first, piece_len-le, piece_len_some, piece_len-append}
use Rattle.line_program.specs.FirstFaulty.{size}
use Rattle.audit.specs.Reading.{Read, nothing_read}
use Rattle.audit.specs.declared.verdict.Verdict.TheVariants.{Refused}
use Rattle.audit.specs.FirstBad.{FirstBadFrom, IsFirstBad, IsPrinted}
use Rattle.audit.specs.Held.{IsHeld, IsFault, IsWrongBook}
use Rattle.farm.specs.Audited.{IsRefusedFor, IsAuditRun, IsNoHold}
use Rattle.line_program.proofs.ProgramLemmas.{took_limit}

-- ---- more bytes than are read

size_more : (xs : List (List ℕ)) (p : List ℕ) → size (xs ++ p ∷ []) ≡ size xs + length p
size_more [] p = omega arith
size_more (x ∷ xs) p = omega (arith, size_more xs p)

-- the first bad line of a text that is past the limit is that of any text that begins with it
bad_enough : (fuel : ℕ) (done : List (List ℕ)) (r : Read) (v rest : List ℕ) (n : ℕ) → length v ≤ fuel
    → size done ≤ 268435456 → 268435456 < size done + length v
    → FirstBadFrom done r (pieces v) n → FirstBadFrom done r (pieces (v ++ rest)) n
bad_enough zero done r v rest n le within past h = absurd (omega arith)
bad_enough (suc fuel) done r v rest n le within past h =
    let some : 0 < length v = omega arith in
    let whole : 0 < length (v ++ rest) = omega (arith, length-append v rest) in
    let k = piece_len v in
    let k2 = piece_len (v ++ rest) in
    let same : min (piece_len (v ++ rest)) (length v) ≡ piece_len v = piece_len-append v rest in
    let le_v : piece_len v ≤ length v = piece_len-le v in
    let le_w : piece_len (v ++ rest) ≤ length (v ++ rest) = piece_len-le (v ++ rest) in
    let g : FirstBadFrom done r (take k v ∷ pieces (drop k v)) n =
    subst (λ (ps : List (List ℕ)). FirstBadFrom done r ps n) (pieces_first v some) h in
    subst (λ (ps : List (List ℕ)). FirstBadFrom done r ps n) (sym (pieces_first (v ++ rest) whole))
    (elim (cases_lt 268435456 (size done + k)) [
      | inl far ↦
          let long : 268435456 < size done + length (take k2 (v ++ rest)) =
          omega (arith, length-take k2 (v ++ rest)) in
          elim g [
            | inl q ↦ inl (q.0, λ l place good. omega (arith, long, good.within))
            | inr q ↦ absurd (omega (arith, q.2.within, length-take k v))
          ]
      | inr near ↦
          let is : k ≡ k2 = omega arith in
          let front : take k v ≡ take k2 (v ++ rest) =
          sym (take-append-le k v rest le_v) ∙ ap (λ (i : ℕ). take i (v ++ rest)) is in
          let back : drop k v ++ rest ≡ drop k2 (v ++ rest) =
          sym (drop-append-le k v rest le_v) ∙ ap (λ (i : ℕ). drop i (v ++ rest)) is in
          let at : size (done ++ take k v ∷ []) ≡ size done + k =
          size_more done (take k v) ∙ ap (λ (i : ℕ). size done + i) (omega (arith, length-take k v)) in
          subst (λ (p : List ℕ). FirstBadFrom done r (p ∷ pieces (drop k2 (v ++ rest))) n) front
          (subst (λ (w : List ℕ). FirstBadFrom done r (take k v ∷ pieces w) n) back
          (elim g [
            | inl q ↦ inl q
            | inr q ↦ inr (
              q.0,
              q.1,
              q.2,
              bad_enough fuel (done ++ take k v ∷ []) _ (drop k v) rest n
                  (omega (arith, length-drop k v, piece_len_some v some)) (omega (arith, at, near))
                  (omega (arith, at, length-drop k v)) q.3,
            )
          ]))
    ])

past_limit : (v rest : List ℕ) (n : ℕ) (why : Why) → length v ≡ 268435457 → IsRefusedFor v n why
    → IsRefusedFor (v ++ rest) n why
past_limit v rest n Text long h =
    bad_enough (length v) [] nothing_read v rest n (omega arith) (omega arith) (omega (arith, long)) h
past_limit v rest n Core long h = absurd (omega (arith, long, h.1.short))
past_limit v rest n Build long h = absurd (omega (arith, long, h.1.short))
past_limit v rest n Books long h = absurd (omega (arith, long, h.printed.short))

-- what was read to its end, or to one byte past the limit, is what input told, or begins it
told_by : (P : List ℕ → Type 0) (v : List ℕ) (old new : Option (List ℕ)) → Taken v old new
    → (length v ≡ 268435457) ⊎ IsAtEnd new → P v
    → ((rest : List ℕ) → length v ≡ 268435457 → P (v ++ rest)) → IfSome old P
told_by P v old (Some rest) taken (inl long) here more =
    subst (λ (o : Option (List ℕ)). IfSome o P) (sym taken) (more rest long)
told_by P v old (Some rest) taken (inr nil) here more =
    subst (λ (o : Option (List ℕ)). IfSome o P) (sym taken)
    (subst P (sym (append-nil v) ∙ ap (λ (x : List ℕ). v ++ x) (sym nil)) here)
told_by P v old None taken whole here more = subst (λ (o : Option (List ℕ)). IfSome o P) (sym taken) tt

-- what was read holds, and so does what input told
pub told_held : (v : List ℕ) (old new : Option (List ℕ)) → Taken v old new
    → (length v ≡ 268435457) ⊎ IsAtEnd new → IsHeld v → IfSome old (λ bytes. IsHeld bytes)
told_held v old new taken whole held =
    told_by (λ bytes. IsHeld bytes) v old new taken whole held
    (λ rest long. absurd (omega (arith, long, held.printed.short)))

-- what was read is refused, and what input told is so for the same
told_refused : (v : List ℕ) (n : ℕ) (why : Why) (old new : Option (List ℕ)) → Taken v old new
    → (length v ≡ 268435457) ⊎ IsAtEnd new → IsRefusedFor v n why → IfSome old (λ bytes. IsRefusedFor bytes n why)
told_refused v n why old new taken whole refused =
    told_by (λ bytes. IsRefusedFor bytes n why) v old new taken whole refused
    (λ rest long. past_limit v rest n why long refused)

read_within : (input input_after : Side) → IsReadTo 268435457 input input_after
    → IsReadWithin 268435457 input input_after
read_within input input_after read =
    subst (λ (o : Option (List ℕ)). IsReadWithin 268435457 input (record { content = o; faults = input_after.faults }))
    (sym read.0) (took_limit 268435457 input.content)

-- why it was not said that what was read holds
pub no_hold : (f : FarmFault) (v : List ℕ) (input input_after out : Side) → IsReadTo 268435457 input input_after
    → Taken v input.content input_after.content
    → (length v ≡ 268435457) ⊎ IsAtEnd input_after.content
    → IsNoHold v f → IsAuditRun (Err f) input input_after out out
no_hold (AuditRefused n why) v input input_after out read taken whole h =
    (read, refl, told_refused v n why input.content input_after.content taken whole h)
no_hold Memory v input input_after out read taken whole h = (read.1, refl, read_within input input_after read)
no_hold Usage v input input_after out read taken whole h = absurd h
no_hold (BadLine n) v input input_after out read taken whole h = absurd h
no_hold (DuplicateAddress n) v input input_after out read taken whole h = absurd h
no_hold (ScopedAddress n) v input input_after out read taken whole h = absurd h
no_hold (OverlappingIds n) v input input_after out read taken whole h = absurd h
no_hold ReadFault v input input_after out read taken whole h = absurd h
no_hold WriteFault v input input_after out read taken whole h = absurd h
no_hold (BadConfig c) v input input_after out read taken whole h = absurd h
no_hold ServeFault v input input_after out read taken whole h = absurd h

-- ---- what the audit answers

-- a refusal has its line and cause
pub refused_by : (text : List ℕ) (n : ℕ) (why : Why)
    → ((m : ℕ) → (Refused n why ≡ Refused m Text) ↔ IsFirstBad text m)
    → ((m : ℕ) (w : Why) → (w ≡ Core) ⊎ (w ≡ Build)
    → (Refused n why ≡ Refused m w) ↔ ((run : Read) × IsPrinted text run × IsFault run (m, w)))
    → ((m : ℕ) → (Refused n why ≡ Refused m Books) ↔ IsWrongBook text m)
    → IsRefusedFor text n why
refused_by text n Text first judged books = (first n).0 refl
refused_by text n Core first judged books = (judged n Core (inl refl)).0 refl
refused_by text n Build first judged books = (judged n Build (inr refl)).0 refl
refused_by text n Books first judged books = (books n).0 refl

-- ---- its faults, by cases

-- want of memory is told in place of one whose text takes memory
pub memory_audit : (met : FarmFault) (i j o p : Side) → IsLong met → IsAuditRun (Err met) i j o p
    → IsAuditRun (Err Memory) i j o p
memory_audit (AuditRefused n why) i j o p long h = (h.0.1, h.1, read_within i j h.0)
memory_audit (BadLine n) i j o p long h = absurd h
memory_audit (DuplicateAddress n) i j o p long h = absurd h
memory_audit (ScopedAddress n) i j o p long h = absurd h
memory_audit (OverlappingIds n) i j o p long h = absurd h
memory_audit (BadConfig c) i j o p long h = absurd h
memory_audit Usage i j o p long h = absurd long
memory_audit ReadFault i j o p long h = absurd long
memory_audit WriteFault i j o p long h = absurd long
memory_audit ServeFault i j o p long h = absurd long
memory_audit Memory i j o p long h = absurd long

-- input fails in no status but 4, and 5
pub input_audit : (f : FarmFault) (answer : ℕ) (i j o p : Side) → IsAuditRun (Err f) i j o p
    → answer ≡ fault_status f → answer ≢ 4 → answer ≢ 5 → j.faults ≡ i.faults
input_audit (AuditRefused n why) answer i j o p h is four five = h.0.1
input_audit Memory answer i j o p h is four five = h.0
input_audit ReadFault answer i j o p h is four five = absurd (four is)
input_audit WriteFault answer i j o p h is four five = absurd (five is)
input_audit (BadLine n) answer i j o p h is four five = absurd h
input_audit (DuplicateAddress n) answer i j o p h is four five = absurd h
input_audit (ScopedAddress n) answer i j o p h is four five = absurd h
input_audit (OverlappingIds n) answer i j o p h is four five = absurd h
input_audit (BadConfig c) answer i j o p h is four five = absurd h
input_audit ServeFault answer i j o p h is four five = absurd h
input_audit Usage answer i j o p h is four five = absurd h

-- out fails in no status but 5
pub out_audit : (f : FarmFault) (answer : ℕ) (i j o p : Side) → IsAuditRun (Err f) i j o p
    → answer ≡ fault_status f → answer ≢ 5 → p.faults ≡ o.faults
out_audit (AuditRefused n why) answer i j o p h is five = ap (λ (s : Side). s.faults) h.1
out_audit Memory answer i j o p h is five = ap (λ (s : Side). s.faults) h.1
out_audit ReadFault answer i j o p h is five = ap (λ (s : Side). s.faults) h.1
out_audit WriteFault answer i j o p h is five = absurd (five is)
out_audit (BadLine n) answer i j o p h is five = absurd h
out_audit (DuplicateAddress n) answer i j o p h is five = absurd h
out_audit (ScopedAddress n) answer i j o p h is five = absurd h
out_audit (OverlappingIds n) answer i j o p h is five = absurd h
out_audit (BadConfig c) answer i j o p h is five = absurd h
out_audit ServeFault answer i j o p h is five = absurd h
out_audit Usage answer i j o p h is five = absurd h
