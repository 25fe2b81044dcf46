-- What a program over lines answers, from what was read, done and told.
use Rattle.std.proofs.Common.{◌≡◌, ◌≢◌, ◌⊎◌, inl, inr, ℕ, zero, suc, ◌<◌, ◌≤◌, List, [], ◌∷◌, Option, Some, None}
use Rattle.std.proofs.Common.{IfSome, Result, Ok, Err, refl, sym, ap, subst, ◌∙◌, take, length, arith}
use Rattle.std.specs.Prelude.{⊤}
use Rattle.std.proofs.lemmas.Option.{IfSome_then}
use Rattle.std.proofs.lemmas.List.{length-take, take-append-drop}
use Rattle.dist_types.specs.Cause.{Rose}
use Rattle.dist_types.specs.Content.{Added, Began, TookAtMost, left_behind}
use Rattle.line_program.specs.declared.fault.FarmFault.{FarmFault}
use Rattle.line_program.specs.declared.fault.FarmFault.TheVariants.{Usage, BadLine, ScopedAddress, ReadFault, WriteFault}
use Rattle.line_program.specs.declared.fault.FarmFault.TheVariants.{DuplicateAddress, OverlappingIds}
use Rattle.line_program.specs.declared.fault.FarmFault.TheVariants.{Memory}
use Rattle.line_program.specs.Input.{IsReadWhole, IsReadInPart}
use Rattle.line_program.specs.Report.{fault_status, NamesLine, IsTold, IsLong, StandsFor, IsReported}
use Rattle.line_program.specs.Side.{Side}
use Rattle.line_program.specs.Program.{Runs, IsFaultless, HasRun, IsRun, Called, IsDoneBy, IsDone, IsAnswered}
use Rattle.line_program.specs.Program.{IsAmong, IsOutcome}

-- ---- what was read

pub took_limit : (limit : ℕ) (old : Option (List ℕ)) → TookAtMost limit old (left_behind limit old)
took_limit limit None = ([], omega arith, refl)
took_limit limit (Some bytes) = (
  take limit bytes,
  omega (arith, length-take limit bytes),
  ap (λ (l : List ℕ). Some l) (sym (take-append-drop limit bytes)),
)

-- what is read whole is read to the limit at most
whole_in_part : (input input_after : Side) → IsReadWhole input input_after → IsReadInPart input input_after
whole_in_part input input_after read =
    subst (TookAtMost 67108865 input.content) (sym read.0) (took_limit 67108865 input.content)

-- what was read whole was run
pub whole_run : (runs : Runs) (result : Result ⊤ FarmFault) (i j o p : Side) → IsReadWhole i j
    → HasRun runs result i.content o p → IsRun runs result i j o p
whole_run runs (Ok x) i j o p read h = (read, h)
whole_run runs (Err ReadFault) i j o p read h = absurd h
whole_run runs (Err Memory) i j o p read h = (read.1, whole_in_part i j read, h)
whole_run runs (Err other) i j o p read h = (read, h)

-- an input that has a faulty line was not run
pub refused_run : (runs : Runs) (f : FarmFault) (content : Option (List ℕ)) (o : Side) → NamesLine f
    → IfSome content (λ bytes. runs.first_faulty bytes f) × ((bytes : List ℕ) × runs.first_faulty bytes f)
    → HasRun runs (Err f) content o o
refused_run runs (BadLine n) content o names first = (refl, first.0, first.1)
refused_run runs (ScopedAddress n) content o names first = (refl, first.0, first.1)
refused_run runs (DuplicateAddress n) content o names first = (refl, first.0, first.1)
refused_run runs (OverlappingIds n) content o names first = (refl, first.0, first.1)
refused_run runs other content o names first = absurd names

-- memory ran out before anything was written
pub short_run : (runs : Runs) (content : Option (List ℕ)) (o : Side) → HasRun runs (Err Memory) content o o
short_run runs content o = (refl, inl refl)

-- why an input was not run
pub no_run : (runs : Runs) (f : FarmFault) (content : Option (List ℕ)) (o : Side)
    → (f ≡ Memory) ⊎ (NamesLine f × IfSome content (λ bytes. runs.first_faulty bytes f)
    × ((bytes : List ℕ) × runs.first_faulty bytes f))
    → HasRun runs (Err f) content o o
no_run runs f content o (inl e) =
    subst (λ (g : FarmFault). HasRun runs (Err g) content o o) (sym e) (short_run runs content o)
no_run runs f content o (inr p) = refused_run runs f content o p.0 (p.1, p.2)

-- the text of the run was written
pub written : (runs : Runs) (text : List ℕ) (content : Option (List ℕ)) (o p : Side)
    → IfSome content (λ bytes. IsFaultless runs bytes × runs.whole bytes text)
    → Added text o.content p.content → p.faults ≡ o.faults → HasRun runs (Ok tt) content o p
written runs text content o p fine added steady =
    (steady, IfSome_then content fine (λ bytes h. (h.0, (text, h.1, added))))

-- a front of it was written
pub half_written : (runs : Runs) (text : List ℕ) (content : Option (List ℕ)) (o p : Side)
    → IfSome content (λ bytes. IsFaultless runs bytes × runs.begun bytes text)
    → Began text o.content p.content → Rose o.faults p.faults → HasRun runs (Err WriteFault) content o p
half_written runs text content o p fine began rose =
    (rose, IfSome_then content fine (λ bytes h. (h.0, (text, h.1, began))))

-- ---- what was told

-- a fault, as a result
abbrev fails : FarmFault → Result ⊤ FarmFault
fails f = Err f

err_is : (d f : FarmFault) → fails d ≡ fails f → d ≡ f
err_is d f e = cc

-- want of memory for the text of a faulty line is told in its place
refused_memory : (runs : Runs) (i j o p : Side) → IsReadWhole i j → p ≡ o → IsRun runs (Err Memory) i j o p
refused_memory runs i j o p read same =
    (read.1, whole_in_part i j read, (ap (λ (s : Side). s.faults) same, inl same))

pub memory_run : (runs : Runs) (met : FarmFault) (i j o p : Side) → IsLong met → IsRun runs (Err met) i j o p
    → IsRun runs (Err Memory) i j o p
memory_run runs (BadLine n) i j o p long h = refused_memory runs i j o p h.0 h.1.0
memory_run runs (ScopedAddress n) i j o p long h = refused_memory runs i j o p h.0 h.1.0
memory_run runs (DuplicateAddress n) i j o p long h = refused_memory runs i j o p h.0 h.1.0
memory_run runs (OverlappingIds n) i j o p long h = refused_memory runs i j o p h.0 h.1.0
memory_run runs ReadFault i j o p long h = absurd long
memory_run runs WriteFault i j o p long h = absurd long
memory_run runs Memory i j o p long h = absurd long
memory_run runs other i j o p long h = absurd h.1

usage_is_short : (met : FarmFault) → fails met ≡ fails Usage → IsLong met → ⊥
usage_is_short met e long = subst (λ (f : FarmFault). IsLong f) (err_is met Usage e) long

memory_done : (runs : Runs) (words : List (List ℕ)) (met : FarmFault) (c : Called) → IsLong met
    → IsDoneBy runs words (Err met) c → IsDoneBy runs words (Err Memory) c
memory_done runs [] met c long h = absurd (usage_is_short met h.0 long)
memory_done runs (name ∷ []) met c long h = memory_run runs met c.input c.input_after c.out c.out_after long h
memory_done runs (name ∷ word ∷ words) met c long h = absurd (usage_is_short met h.0 long)

told_done : (runs : Runs) (met told : FarmFault) (c : Called) → StandsFor met told → IsDone runs (Err met) c → IsDone runs (Err told) c
told_done runs met told c (inl same) done = subst (λ (f : FarmFault). IsDone runs (Err f) c) (sym same) done
told_done runs met told c (inr p) done = subst (λ (f : FarmFault). IsDone runs (Err f) c) (sym p.0)
    (memory_done runs c.words met c p.1 done)

status_some : (f : FarmFault) → 0 < fault_status f
status_some (BadLine n) = omega arith
status_some (ScopedAddress n) = omega arith
status_some (DuplicateAddress n) = omega arith
status_some (OverlappingIds n) = omega arith
status_some other = omega arith

told_some : (runs : Runs) (f : FarmFault) (answer : ℕ) (e x : Side) → IsTold runs.name f answer e x → 0 < answer
told_some runs f answer e x (inl p) = omega (arith, p.0, status_some f)
told_some runs f answer e x (inr p) = omega (arith, p.0)

-- what was done, and the answer that reports it
answered : (runs : Runs) (r : Result ⊤ FarmFault) (answer : ℕ) (c : Called) (e x : Side) → IsDone runs r c
    → IsReported runs.name r answer e x → IsAnswered runs answer c e x
answered runs (Ok y) answer c e x done told = record {
  done = λ zero_is. (done, told.1);
  told = λ some. absurd (omega (arith, told.0, some));
}
answered runs (Err met) answer c e x done told = record {
  done = λ zero_is. absurd (omega (arith, told_some runs told.0 answer e x told.2, zero_is));
  told = λ some. (told.0, told_done runs met told.0 c told.1 done, told.2);
}

-- ---- clauses that follow of the answer

run_most : (runs : Runs) (f : FarmFault) (i j o p : Side) → IsRun runs (Err f) i j o p → fault_status f ≤ 5
run_most runs (BadLine n) i j o p h = omega arith
run_most runs (ScopedAddress n) i j o p h = omega arith
run_most runs (DuplicateAddress n) i j o p h = omega arith
run_most runs (OverlappingIds n) i j o p h = omega arith
run_most runs ReadFault i j o p h = omega arith
run_most runs WriteFault i j o p h = omega arith
run_most runs Memory i j o p h = omega arith
run_most runs other i j o p h = absurd h.1

usage_most : (f : FarmFault) → fails f ≡ fails Usage → fault_status f ≤ 5
usage_most f e = omega (arith, ap fault_status (err_is f Usage e))

done_most : (runs : Runs) (words : List (List ℕ)) (f : FarmFault) (c : Called) → IsDoneBy runs words (Err f) c → fault_status f ≤ 5
done_most runs [] f c h = usage_most f h.0
done_most runs (name ∷ []) f c h = run_most runs f c.input c.input_after c.out c.out_after h
done_most runs (name ∷ word ∷ words) f c h = usage_most f h.0

told_most : (runs : Runs) (f : FarmFault) (answer : ℕ) (e x : Side) → fault_status f ≤ 5 → IsTold runs.name f answer e x
    → answer ≤ 5
told_most runs f answer e x most (inl p) = omega (arith, p.0, most)
told_most runs f answer e x most (inr p) = omega (arith, p.0)

statuses_of : (runs : Runs) (answer : ℕ) (c : Called) (e x : Side) → IsAnswered runs answer c e x → answer ≤ 5
statuses_of runs zero c e x a = omega arith
statuses_of runs (suc n) c e x a =
    let t = a.told (omega arith) in
    told_most runs t.0 (suc n) e x (done_most runs c.words t.0 c t.1) t.2

-- a status that is not 5 is the fault's own, and errs did not fail
own : (runs : Runs) (f : FarmFault) (answer : ℕ) (e x : Side) → IsTold runs.name f answer e x → answer ≢ 5
    → (answer ≡ fault_status f) × (x.faults ≡ e.faults)
own runs f answer e x (inl p) h = (p.0, p.2)
own runs f answer e x (inr p) h = absurd (h p.0)

-- input and out of a run that does not end in their faults
pub run_counts : (runs : Runs) (f : FarmFault) (i j o p : Side) → IsRun runs (Err f) i j o p → f ≢ ReadFault → f ≢ WriteFault
    → (j.faults ≡ i.faults) × (p.faults ≡ o.faults)
run_counts runs (BadLine n) i j o p h r w = (h.0.1, ap (λ (s : Side). s.faults) h.1.0)
run_counts runs (ScopedAddress n) i j o p h r w = (h.0.1, ap (λ (s : Side). s.faults) h.1.0)
run_counts runs (DuplicateAddress n) i j o p h r w = (h.0.1, ap (λ (s : Side). s.faults) h.1.0)
run_counts runs (OverlappingIds n) i j o p h r w = (h.0.1, ap (λ (s : Side). s.faults) h.1.0)
run_counts runs ReadFault i j o p h r w = absurd (r refl)
run_counts runs WriteFault i j o p h r w = absurd (w refl)
run_counts runs Memory i j o p h r w = (h.0, h.2.0)
run_counts runs other i j o p h r w = absurd h.1

done_counts : (runs : Runs) (words : List (List ℕ)) (f : FarmFault) (c : Called) → IsDoneBy runs words (Err f) c → f ≢ ReadFault
    → f ≢ WriteFault → (c.input_after.faults ≡ c.input.faults) × (c.out_after.faults ≡ c.out.faults)
done_counts runs [] f c h r w = (ap (λ (s : Side). s.faults) h.1, ap (λ (s : Side). s.faults) h.2)
done_counts runs (name ∷ []) f c h r w = run_counts runs f c.input c.input_after c.out c.out_after h r w
done_counts runs (name ∷ word ∷ words) f c h r w = (ap (λ (s : Side). s.faults) h.1, ap (λ (s : Side). s.faults) h.2)

read_out : (runs : Runs) (i j o p : Side) → IsRun runs (Err ReadFault) i j o p → p.faults ≡ o.faults
read_out runs i j o p h = ap (λ (s : Side). s.faults) h.1

done_read : (runs : Runs) (words : List (List ℕ)) (c : Called) → IsDoneBy runs words (Err ReadFault) c
    → c.out_after.faults ≡ c.out.faults
done_read runs [] c h = ap (λ (s : Side). s.faults) h.2
done_read runs (name ∷ []) c h = read_out runs c.input c.input_after c.out c.out_after h
done_read runs (name ∷ word ∷ words) c h = ap (λ (s : Side). s.faults) h.2

fine_counts : (runs : Runs) (words : List (List ℕ)) (c : Called) → IsDoneBy runs words (Ok tt) c
    → (c.input_after.faults ≡ c.input.faults) × (c.out_after.faults ≡ c.out.faults)
fine_counts runs [] c h = absurd cc
fine_counts runs (name ∷ []) c h = (h.0.1, h.1.0)
fine_counts runs (name ∷ word ∷ words) c h = absurd cc

order_of : (runs : Runs) (answer : ℕ) (c : Called) (e x : Side) → IsAnswered runs answer c e x → answer ≢ 4 → answer ≢ 5
    → c.input_after.faults ≡ c.input.faults
order_of runs zero c e x a four five = (fine_counts runs c.words c (a.done refl).0).0
order_of runs (suc n) c e x a four five =
    let t = a.told (omega arith) in
    let is = (own runs t.0 (suc n) e x t.2 five).0 in
    (done_counts runs c.words t.0 c t.1 (λ r. four (is ∙ ap fault_status r)) (λ w. five (is ∙ ap fault_status w))).0

is_read : (f : FarmFault) → (f ≡ ReadFault) ⊎ (f ≢ ReadFault)
is_read ReadFault = inl refl
is_read other = inr (λ e. let clash : fault_status other ≡ 4 = ap fault_status e in absurd cc)

out_by : (runs : Runs) (f : FarmFault) (i j o p : Side) → IsRun runs (Err f) i j o p → f ≢ WriteFault
    → (f ≡ ReadFault) ⊎ (f ≢ ReadFault) → p.faults ≡ o.faults
out_by runs f i j o p h w (inl r) =
    read_out runs i j o p (subst (λ (g : FarmFault). IsRun runs (Err g) i j o p) r h)
out_by runs f i j o p h w (inr r) = (run_counts runs f i j o p h r w).1

-- out of a run that does not end in its fault
pub out_steady : (runs : Runs) (f : FarmFault) (i j o p : Side) → IsRun runs (Err f) i j o p → f ≢ WriteFault
    → p.faults ≡ o.faults
out_steady runs f i j o p h w = out_by runs f i j o p h w (is_read f)

counts_by : (runs : Runs) (f : FarmFault) (c : Called) → IsDone runs (Err f) c → f ≢ WriteFault → (f ≡ ReadFault) ⊎ (f ≢ ReadFault)
    → c.out_after.faults ≡ c.out.faults
counts_by runs f c done w (inl r) = done_read runs c.words c (subst (λ (g : FarmFault). IsDone runs (Err g) c) r done)
counts_by runs f c done w (inr r) = (done_counts runs c.words f c done r w).1

counts_of : (runs : Runs) (answer : ℕ) (c : Called) (e x : Side) → IsAnswered runs answer c e x → answer ≢ 5
    → (c.out_after.faults ≡ c.out.faults) × (x.faults ≡ e.faults)
counts_of runs zero c e x a five =
    let d = a.done refl in ((fine_counts runs c.words c d.0).1, ap (λ (s : Side). s.faults) d.1)
counts_of runs (suc n) c e x a five =
    let t = a.told (omega arith) in
    let is = own runs t.0 (suc n) e x t.2 five in
    (counts_by runs t.0 c t.1 (λ w. five (is.0 ∙ ap fault_status w)) (is_read t.0), is.1)

-- ---- what is reported

pub as_told : (program : List ℕ) (met f : FarmFault) (answer : ℕ) (e x : Side) → met ≡ f → (IsLong f → ⊥)
    → IsReported program (Err met) answer e x → IsTold program f answer e x
as_told program met f answer e x is short reported =
    by_told (subst (λ (g : FarmFault). IsReported program (Err g) answer e x) is reported)
  where
    by_told : IsReported program (Err f) answer e x → IsTold program f answer e x
    by_told (told, inl same, said) = subst (λ (g : FarmFault). IsTold program g answer e x) same said
    by_told (told, inr long, said) = absurd (short long.1)

-- ---- the status of a script, by its lines

IfSome_all : {A : Type 0} {P : A → Type 0} (o : Option A) → ((x : A) → P x) → IfSome o P
IfSome_all None h = tt
IfSome_all (Some x) h = h x

pub line_status : (runs : Runs) (f : FarmFault) (answer : ℕ) (i j o p e x : Side) → IsRun runs (Err f) i j o p
    → IsTold runs.name f answer e x → IsAmong answer 1
line_status runs f answer i j o p e x h (inr t) = inr (inr (inr t.0))
line_status runs (BadLine n) answer i j o p e x h (inl t) = inl t.0
line_status runs (ScopedAddress n) answer i j o p e x h (inl t) = inl t.0
line_status runs (DuplicateAddress n) answer i j o p e x h (inl t) = inl t.0
line_status runs (OverlappingIds n) answer i j o p e x h (inl t) = inl t.0
line_status runs ReadFault answer i j o p e x h (inl t) = inr (inr (inl t.0))
line_status runs WriteFault answer i j o p e x h (inl t) = inr (inr (inr t.0))
line_status runs Memory answer i j o p e x h (inl t) = inr (inl t.0)
line_status runs other answer i j o p e x h (inl t) = absurd h.1

done_status : (runs : Runs) (words : List (List ℕ)) (f : FarmFault) (answer : ℕ) (c : Called) (e x : Side) → length words ≡ 1
    → IsDoneBy runs words (Err f) c → IsTold runs.name f answer e x → IsAmong answer 1
done_status runs [] f answer c e x one h t = absurd (omega (arith, one))
done_status runs (name ∷ []) f answer c e x one h t =
    line_status runs f answer c.input c.input_after c.out c.out_after e x h t
done_status runs (name ∷ word ∷ words) f answer c e x one h t = absurd (omega (arith, one))

-- a script whose lives were run has no faulty line
done_fine : (runs : Runs) (words : List (List ℕ)) (c : Called) → length words ≡ 1 → IsDoneBy runs words (Ok tt) c
    → IfSome c.input.content (λ bytes. IsFaultless runs bytes)
done_fine runs [] c one h = absurd (omega (arith, one))
done_fine runs (name ∷ []) c one h = IfSome_then c.input.content h.1.1 (λ bytes s. s.0)
done_fine runs (name ∷ word ∷ words) c one h = absurd (omega (arith, one))

faulty_of : (runs : Runs) (answer : ℕ) (c : Called) (e x : Side) → IsAnswered runs answer c e x → length c.words ≡ 1
    → IfSome c.input.content (λ bytes. (f : FarmFault) → runs.first_faulty bytes f → IsAmong answer 1)
faulty_of runs zero c e x a one =
    IfSome_then c.input.content (done_fine runs c.words c one (a.done refl).0) (λ bytes fine f first.
    absurd (fine f first))
faulty_of runs (suc n) c e x a one =
    let t = a.told (omega arith) in
    IfSome_all c.input.content (λ bytes f first. done_status runs c.words t.0 (suc n) c e x one t.1 t.2)

pub fine_status : (runs : Runs) (f : FarmFault) (answer : ℕ) (i j o p e x : Side) → IsRun runs (Err f) i j o p
    → IsTold runs.name f answer e x → IfSome i.content (λ bytes. IsFaultless runs bytes → IsAmong answer 0)
fine_status runs f answer i j o p e x h (inr t) = IfSome_all i.content (λ bytes fine. inr (inr (inr t.0)))
fine_status runs (BadLine n) answer i j o p e x h (inl t) =
    IfSome_then i.content h.1.1 (λ bytes first fine. absurd (fine (BadLine n) first))
fine_status runs (ScopedAddress n) answer i j o p e x h (inl t) =
    IfSome_then i.content h.1.1 (λ bytes first fine. absurd (fine (ScopedAddress n) first))
fine_status runs (DuplicateAddress n) answer i j o p e x h (inl t) =
    IfSome_then i.content h.1.1 (λ bytes first fine. absurd (fine (DuplicateAddress n) first))
fine_status runs (OverlappingIds n) answer i j o p e x h (inl t) =
    IfSome_then i.content h.1.1 (λ bytes first fine. absurd (fine (OverlappingIds n) first))
fine_status runs ReadFault answer i j o p e x h (inl t) = IfSome_all i.content (λ bytes fine. inr (inr (inl t.0)))
fine_status runs WriteFault answer i j o p e x h (inl t) = IfSome_all i.content (λ bytes fine. inr (inr (inr t.0)))
fine_status runs Memory answer i j o p e x h (inl t) = IfSome_all i.content (λ bytes fine. inr (inl t.0))
fine_status runs other answer i j o p e x h (inl t) = absurd h.1

done_faultless : (runs : Runs) (words : List (List ℕ)) (f : FarmFault) (answer : ℕ) (c : Called) (e x : Side)
    → length words ≡ 1 → IsDoneBy runs words (Err f) c → IsTold runs.name f answer e x
    → IfSome c.input.content (λ bytes. IsFaultless runs bytes → IsAmong answer 0)
done_faultless runs [] f answer c e x one h t = absurd (omega (arith, one))
done_faultless runs (name ∷ []) f answer c e x one h t =
    fine_status runs f answer c.input c.input_after c.out c.out_after e x h t
done_faultless runs (name ∷ word ∷ words) f answer c e x one h t = absurd (omega (arith, one))

faultless_of : (runs : Runs) (answer : ℕ) (c : Called) (e x : Side) → IsAnswered runs answer c e x → length c.words ≡ 1
    → IfSome c.input.content (λ bytes. IsFaultless runs bytes → IsAmong answer 0)
faultless_of runs zero c e x a one = IfSome_all c.input.content (λ bytes fine. inl refl)
faultless_of runs (suc n) c e x a one =
    let t = a.told (omega arith) in done_faultless runs c.words t.0 (suc n) c e x one t.1 t.2

-- ---- all that is said

pub outcome : (runs : Runs) (result : Result ⊤ FarmFault) (answer : ℕ) (c : Called) (e x : Side) → IsDone runs result c
    → IsReported runs.name result answer e x → IsOutcome runs answer c e x
outcome runs result answer c e x done told =
    let a = answered runs result answer c e x done told in
    record {
      answered = a;
      statuses = statuses_of runs answer c e x a;
      order = order_of runs answer c e x a;
      counts = counts_of runs answer c e x a;
      faulty = faulty_of runs answer c e x a;
      faultless = faultless_of runs answer c e x a;
    }
