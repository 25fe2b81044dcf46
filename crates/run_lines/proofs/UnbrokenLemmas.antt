-- The text of a line has no line end.
use Rattle.std.proofs.Common.{◌≡◌, ℕ, ◌+◌, ◌%◌, ◌≤◌, ◌==◌, Bool, true, false, cond, ◌⊎◌, inl, inr, List, []}
use Rattle.std.proofs.Common.{◌∷◌, ◌++◌, length, Option, Some, None, Result, Ok, Err, codes, refl, sym, ap, subst}
use Rattle.std.proofs.Common.{◌∙◌, arith}
use Rattle.std.specs.List.{list_all, flat_map}
use Rattle.std.specs.Char.{is_ascii_digit}
use Rattle.std.specs.Str.{all_ascii_digits}
use Rattle.std.specs.Fmt.{decimal}
use Rattle.std.proofs.lemmas.Bool.{ne_eqb}
use Rattle.std.proofs.lemmas.Bool.Decides.{nat_tests}
use Rattle.hex.specs.Hex.{◌>>=◌, decode_pairs, pair_value, digit_or_error, hex_digit_value}
use Rattle.hex.specs.declared.error.FromHexError.{FromHexError}
use Rattle.hex.specs.declared.error.FromHexError.TheVariants.{OddLength}
use Rattle.dist_types.specs.Addr.{addr_text}
use Rattle.dist_types.specs.Ids.{state_text}
use Rattle.dist_types.specs.declared.addr.Addr.{Addr}
use Rattle.dist_types.specs.declared.ids.JobId.{JobId}
use Rattle.dist_types.specs.declared.results.JobState.{JobState}
use Rattle.dist_types.specs.declared.results.JobState.TheVariants.{Pending, Ready, Started, Complete}
use Rattle.core_rules.specs.declared.entry.CoreKind.{CoreKind}
use Rattle.core_rules.specs.declared.entry.CoreKind.TheVariants as core
use Rattle.core_rules.specs.declared.entry.Reserved.{Reserved}
use Rattle.core_rules.specs.declared.entry.Reserved.TheVariants as reserve
use Rattle.core_rules.specs.declared.entry.UpdateAnswer.{UpdateAnswer}
use Rattle.core_rules.specs.declared.entry.UpdateAnswer.TheVariants.{Accepted, Unknown, Wrong, Transition}
use Rattle.farm_script.specs.Words.{is_visible}
use Rattle.farm_script.specs.Grammar.{IsHex, IsKind, IsLine}
use Rattle.farm_script.specs.declared.event.Event.{Event}
use Rattle.farm_script.specs.declared.event.EventKind.{EventKind}
use Rattle.farm_script.specs.declared.event.EventKind.TheVariants.{Request, Deliver, Fail, Return, Answer}
use Rattle.farm_script.specs.declared.event.EventKind.TheVariants.{Beat, Restart}
use Rattle.farm_script.specs.declared.lines.Scopes.TheVariants.{Refused}
use Rattle.farm_script.specs.declared.lines.Line.TheVariants as script
use Rattle.farm_script.proofs.VisibleLemmas.{both}
use Rattle.farm_script.proofs.FieldLemmas.{decimal_digits}
use Rattle.build_server.specs.declared.submit.Submitted.{Submitted}
use Rattle.build_server.specs.declared.submit.Submitted.TheVariants as submitted
use Rattle.build_server.specs.declared.run.Ran.{Ran}
use Rattle.build_server.specs.declared.run.Ran.TheVariants as ran
use Rattle.farm_entries.specs.declared.entry.HeardAs.{HeardAs}
use Rattle.farm_entries.specs.declared.entry.HeardAs.TheVariants as heard
use Rattle.farm_entries.specs.declared.entry.StepKind.{StepKind}
use Rattle.farm_entries.specs.declared.entry.StepKind.TheVariants as step
use Rattle.farm_entries.specs.declared.entry.EntryWord.{EntryWord}
use Rattle.farm_entries.specs.declared.entry.EntryWord.TheVariants as word
use Rattle.farm_entries.specs.Printed.{hex_text, numbers_text, jobs_text, number_text, age_text, kept_text}
use Rattle.farm_entries.specs.Printed.{ended_text, on_text, ready_text, reserved_text, advance_text, core_text}
use Rattle.farm_entries.specs.Printed.{heard_text, ids_text, archive_text, archives_text, submitted_text, ran_text}
use Rattle.farm_entries.specs.Printed.{step_text, stage_text, claim_text}
use Rattle.run_lines.specs.Texts.{event_text, word_text, line_text}
use Rattle.run_lines.specs.Grammar.{Each, Fits, AllFit, JobFits, JobsFit, SomeFits, HasText, IsId, AreIds}
use Rattle.run_lines.specs.Grammar.{ArchiveFits, ArchivesFit, ReservedFits, CoreFits, SubmittedFits, RanFits}
use Rattle.run_lines.specs.Grammar.{StepFits, LineFits, keeps, Unbroken}
use Rattle.run_lines.specs.declared.line.RunLine.{RunLine}
use Rattle.run_lines.specs.declared.line.RunLine.TheVariants as line
use Rattle.run_lines.proofs.FieldLemmas.{itself, addr_visible}
use Rattle.run_lines.proofs.IdLemmas.{lower_visible}

also : (a b : List ℕ) → Unbroken a → Unbroken b → Unbroken (a ++ b)
also [] b ua ub = ub
also (x ∷ xs) b ua ub =
    let p = both (keeps x) (list_all keeps xs) ua in
    rw (p.0, also xs b p.1 ub) refl

one_more : (c : ℕ) (cs : List ℕ) → (c == 10) ≡ false → Unbroken cs → Unbroken (c ∷ cs)
one_more c cs off rest = rw (off, rest) refl

visible : (t : List ℕ) → list_all is_visible t ≡ true → Unbroken t
visible [] e = refl
visible (b ∷ bs) e =
    let p = both (is_visible b) (list_all is_visible bs) e in
    let seen : is_visible b ≡ true = p.0 in
    let low : 33 ≤ b = grind (arith, nat_tests) in
    one_more b bs (ne_eqb b 10 (λ same. absurd (omega arith))) (visible bs p.1)

digits : (t : List ℕ) → all_ascii_digits t ≡ true → Unbroken t
digits [] e = refl
digits (b ∷ bs) e =
    let p = both (is_ascii_digit b) (all_ascii_digits bs) e in
    let digit : is_ascii_digit b ≡ true = p.0 in
    let low : 48 ≤ b = grind (arith, nat_tests) in
    one_more b bs (ne_eqb b 10 (λ same. absurd (omega arith))) (digits bs p.1)

number : (n : ℕ) → Fits n → Unbroken (decimal n)
number n fits = digits (decimal n) (decimal_digits n fits)

addr : (a : Addr) → HasText a → Unbroken (addr_text a)
addr a has = visible (addr_text a) (addr_visible a has)

commas : {A : Type 0} (text : A → List ℕ) (fits : A → Type 0) → ((x : A) → fits x → Unbroken (text x))
    → (xs : List A) → Each fits xs → Unbroken (flat_map (λ x. codes "," ++ text x) xs)
commas text fits one [] fit = refl
commas text fits one (x ∷ xs) fit = also (codes "," ++ text x) _ (one x fit.0) (commas text fits one xs fit.1)

numbers : (ns : List ℕ) → AllFit ns → Unbroken (numbers_text ns)
numbers [] fit = refl
numbers (n ∷ ns) fit = also (decimal n) _ (number n fit.0) (commas decimal Fits number ns fit.1)

job_text : JobId → List ℕ
job_text j = decimal j.0

job : (j : JobId) → JobFits j → Unbroken (job_text j)
unfolding job_text
job j fits = number j.0 fits

jobs : (js : List JobId) → JobsFit js → Unbroken (jobs_text js)
unfolding job_text
jobs [] fit = refl
jobs (j ∷ js) fit = also (decimal j.0) _ (number j.0 fit.0) (commas job_text JobFits job js fit.1)

maybe : (x : Option ℕ) → SomeFits x → Unbroken (number_text x)
maybe None fits = refl
maybe (Some n) fits = number n fits

state : (s : JobState) → Unbroken (state_text s)
state Pending = refl
state Ready = refl
state Started = refl
state Complete = refl

stage : (x : Option JobState) → Unbroken (stage_text x)
stage None = refl
stage (Some s) = state s

kept : (b : Bool) → Unbroken (kept_text b)
kept true = refl
kept false = refl

ended : (b : Bool) → Unbroken (ended_text b)
ended true = refl
ended false = refl

age : (b : Bool) → Unbroken (age_text b)
age true = refl
age false = refl

claim : (b : Bool) → Unbroken (claim_text b)
claim true = refl
claim false = refl

id : (t : List ℕ) → IsId t → Unbroken t
id t is = visible t (lower_visible t is.1)

ids : (is : List (List ℕ)) → AreIds is → Unbroken (ids_text is)
ids [] fit = refl
ids (i ∷ is) fit = also i _ (id i fit.0) (commas itself IsId id is fit.1)

archive : (p : List ℕ × ℕ) → ArchiveFits p → Unbroken (archive_text p)
archive (tc, size) fits = also (tc ++ codes ":") (decimal size) (also tc (codes ":") (id tc fits.0) refl)
    (number size fits.1)

archives : (ps : List (List ℕ × ℕ)) → ArchivesFit ps → Unbroken (archives_text ps)
archives [] fit = refl
archives (p ∷ ps) fit = also (archive_text p) _ (archive p fit.0) (commas archive_text ArchiveFits archive ps fit.1)

on : (b : Bool) → Unbroken (on_text b)
on true = refl
on false = refl

ready : (b : Bool) → Unbroken (ready_text b)
ready true = refl
ready false = refl

advance : (a : UpdateAnswer) → Unbroken (advance_text a)
advance Accepted = refl
advance Unknown = refl
advance Wrong = refl
advance (Transition s) = state s

reserved : (r : Reserved) → ReservedFits r → Unbroken (reserved_text r)
reserved (reserve.Job job reg forgiven) f = also (decimal job.0) _ (number job.0 f.0)
    (also (decimal reg) _ (number reg f.1) (numbers forgiven f.2))
reserved (reserve.NoRoom n) f = number n f
reserved reserve.Spent f = refl

core_kind : (k : CoreKind) → CoreFits k → Unbroken (core_text k)
core_kind (core.Reserve r) f = reserved r f
core_kind (core.Commit job st b) f = also (decimal job.0) _ (number job.0 f) (also (state_text st) _ (state st) (kept b))
core_kind (core.Undo job noted b) f = also (decimal job.0) _ (number job.0 f.0)
    (also (number_text noted) _ (maybe noted f.1) (ended b))
core_kind (core.Beat server nonce cpus key pruned reaped replaced is_new) f =
    also (addr_text server) _ (addr server f.0) (also (decimal nonce) _ (number nonce f.1)
    (also (decimal cpus) _ (number cpus f.2) (also (numbers_text pruned) _ (numbers pruned f.4)
    (also (jobs_text reaped) _ (jobs reaped f.5) (also (number_text replaced) _ (maybe replaced f.6) (age is_new))))))
core_kind (core.Update server job st answer) f = also (addr_text server) _ (addr server f.0)
    (also (decimal job.0) _ (number job.0 f.1) (also (state_text st) _ (state st) (advance answer)))
core_kind (core.Status pruned servers cpus js) f = also (numbers_text pruned) _ (numbers pruned f.0)
    (also (decimal servers) _ (number servers f.1) (also (decimal cpus) _ (number cpus f.2) (number js f.3)))
core_kind (core.Drain server nonce b reg) f = also (addr_text server) _ (addr server f.0)
    (also (decimal nonce) _ (number nonce f.1) (also (on_text b) _ (on b) (maybe reg f.2)))

heard_as : (h : HeardAs) → Unbroken (heard_text h)
heard_as heard.New = refl
heard_as heard.Old = refl
heard_as heard.Lost = refl

submission : (s : Submitted) → SubmittedFits s → Unbroken (submitted_text s)
submission submitted.None f = refl
submission submitted.Listed f = refl
submission (submitted.Stored size dropped) f = also (decimal size) _ (number size f.0) (ids dropped f.1)
submission submitted.Digest f = refl
submission submitted.Capacity f = refl
submission (submitted.Folder dropped) f = ids dropped f

went : (r : Ran) → RanFits r → Unbroken (ran_text r)
went ran.None f = refl
went (ran.Unlisted tc) f = id tc f
went (ran.Folder tc) f = id tc f
went (ran.Built tc) f = id tc f
went (ran.Refused tc) f = id tc f

step_kind : (k : StepKind) → StepFits k → Unbroken (step_text k)
step_kind (step.Heard h) f = heard_as h
step_kind (step.Assigned job tc b) f = also (decimal job.0) _ (number job.0 f.0) (also tc _ (id tc f.1) (ready b))
step_kind (step.Submitted job outcome) f = also (decimal job.0) _ (number job.0 f.0) (submission outcome f.1)
step_kind (step.Ran job how result) f = also (decimal job.0) _ (number job.0 f.0) (went how f.1)
step_kind (step.Finished job) f = number job.0 f
step_kind (step.Unreported job) f = number job.0 f
step_kind (step.Opened ps) f = archives ps f

entry_word : (w : EntryWord) → Unbroken (word_text w)
entry_word word.Void = refl
entry_word word.Down = refl
entry_word word.Waiting = refl
entry_word word.Died = refl

-- ---- events

digit_other : (c : ℕ) (n : ℕ) → hex_digit_value c ≡ Some n → (c == 10) ≡ false
digit_other c n e = ne_eqb c 10 (λ same. let none : None ≡ Some n = sym (ap hex_digit_value same)
    ∙ e in absurd cc)

digit_found : (c i n : ℕ) (o : Option ℕ) → digit_or_error c i o ≡ Ok n → o ≡ Some n
digit_found c i n (Some v) e = cc
digit_found c i n None e = absurd cc

result_bind : {A B : Type 0} (r : Result A FromHexError) (f : A → Result B FromHexError) (y : B)
    → (r >>= f) ≡ Ok y → (x : A) × (r ≡ Ok x) × (f x ≡ Ok y)
result_bind (Ok x) f y e = (x, refl, e)
result_bind (Err d) f y e = absurd cc

pairs : (i : ℕ) (t bytes : List ℕ) → decode_pairs i t ≡ Ok bytes → Unbroken t
unfolding decode_pairs
pairs i [] bytes e = refl
pairs i (d ∷ []) bytes e = absurd cc
pairs i (h ∷ l ∷ rest) bytes e =
    let a = result_bind (pair_value h l i) _ bytes e in
    let b = result_bind (decode_pairs (i + 2) rest) _ bytes a.2 in
    let x = result_bind (digit_or_error h i (hex_digit_value h)) _ a.0 a.1 in
    let y = result_bind (digit_or_error l (i + 1) (hex_digit_value l)) _ a.0 x.2 in
    one_more h (l ∷ rest) (digit_other h x.0 (digit_found h i x.0 (hex_digit_value h) x.1))
    (one_more l rest (digit_other l y.0 (digit_found l (i + 1) y.0 (hex_digit_value l) y.1))
    (pairs (i + 2) rest b.0 b.1))

decoded : (b : Bool) (e : FromHexError) (t bytes : List ℕ) → cond b (Err e) (decode_pairs 0 t) ≡ Ok bytes
    → Unbroken t
decoded true e t bytes is = absurd cc
decoded false e t bytes is = pairs 0 t bytes is

hex : (t bytes : List ℕ) → IsHex t bytes → Unbroken t
hex t bytes (inl p) = subst Unbroken (sym p.0) refl
hex t bytes (inr p) = decoded (length t % 2 == 1) OddLength t bytes p.1

kind : (t : List ℕ) (k : EventKind) → IsKind Refused t k → Unbroken t
kind t (Request target peer bytes) is = subst Unbroken (sym is.spelled)
    (also is.target _ (visible is.target is.is_target.0) (also is.peer _ (visible is.peer is.is_peer.0)
    (hex is.hex bytes is.is_hex)))
kind t (Deliver call) is = subst Unbroken (sym is.spelled) (number call is.fits)
kind t (Fail call) is = subst Unbroken (sym is.spelled) (number call is.fits)
kind t (Return delivery) is = subst Unbroken (sym is.spelled) (number delivery is.fits)
kind t (Answer call bytes) is = subst Unbroken (sym is.spelled) (also (decimal call) _ (number call is.fits)
    (hex is.hex bytes is.is_hex))
kind t (Beat server) is = subst Unbroken (sym is.spelled) (visible is.server is.is_server.0)
kind t (Restart server key nonce) is = subst Unbroken (sym is.spelled)
    (also is.server _ (visible is.server is.is_server.0) (also is.key _ (hex is.key key is.is_key.0)
    (number nonce is.fits)))

event : (t : List ℕ) (e : Event) → IsLine t (script.Event e) → Unbroken t
event t e is = subst Unbroken (sym is.spelled) (also (decimal e.at) _ (number e.at is.at) (kind is.kind e.kind is.is_kind))

-- ---- lines

version : (v : ℕ) → (v ≡ 1) ⊎ (v ≡ 2) → Unbroken (decimal v)
version v (inl one) = number v (omega (arith, one))
version v (inr two) = number v (omega (arith, two))

pub line_unbroken : (l : RunLine) → LineFits l → Unbroken (line_text l)
line_unbroken (line.Run v entries) f = also (decimal v) _ (version v f.0) (number entries f.1)
line_unbroken (line.Entry n e) f = also (decimal n) _ (number n f.0) (event (event_text e) e f.1)
line_unbroken (line.Core n k) f = also (decimal n) _ (number n f.0) (core_kind k f.1)
line_unbroken (line.Step server k) f = also (addr_text server) _ (addr server f.0) (step_kind k f.1)
line_unbroken (line.Call target bytes) f = also (addr_text target) _ (addr target f.0) (hex (hex_text bytes) bytes f.1)
line_unbroken (line.Reply to bytes) f = also (decimal to) _ (number to f.0) (hex (hex_text bytes) bytes f.1)
line_unbroken (line.Word w) f = entry_word w
line_unbroken line.Books f = refl
line_unbroken (line.Ids base count) f = also (decimal base) _ (number base f.0) (number count f.1)
line_unbroken (line.Server row) f = also (addr_text row.server) _ (addr row.server f.0)
    (also (decimal row.reg) _ (number row.reg f.1) (also (decimal row.cpus) _ (number row.cpus f.2)
    (also (decimal row.nonce) _ (number row.nonce f.3) (also (decimal row.seen) _ (number row.seen f.4)
    (also (decimal row.load) _ (number row.load f.5) (maybe row.error f.6))))))
line_unbroken (line.Job job reg st claimed) f = also (decimal job.0) _ (number job.0 f.0)
    (also (decimal reg) _ (number reg f.1) (also (stage_text st) _ (stage st) (claim claimed)))
line_unbroken (line.Held server job tc) f = also (addr_text server) _ (addr server f.0)
    (also (decimal job.0) _ (number job.0 f.1) (id tc f.2))
line_unbroken (line.Archive server tc size) f = also (addr_text server) _ (addr server f.0)
    (also tc _ (id tc f.1) (number size f.2))
line_unbroken line.End f = refl
