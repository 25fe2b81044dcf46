-- The text of a run is that of its lines.
use Rattle.std.proofs.Common.{◌≡◌, ℕ, ◌+◌, List, [], ◌∷◌, ◌++◌, length, map, Option, Some}
use Rattle.std.proofs.Common.{None, codes, refl, sym, ap, ◌∙◌, append_assoc, append-nil}
use Rattle.std.specs.List.{flat_map}
use Rattle.std.specs.Fmt.{decimal}
use Rattle.dist_types.specs.Addr.{addr_text}
use Rattle.dist_types.specs.declared.addr.Addr.{Addr}
use Rattle.dist_types.specs.declared.ids.JobId.{JobId}
use Rattle.core_rules.specs.Reservation.{Booking}
use Rattle.core_rules.specs.Job.{state_of}
use Rattle.core_rules.specs.Rows.{servers_of, unended_by_id}
use Rattle.core_rules.specs.declared.rows.ServerRow.{ServerRow}
use Rattle.core_rules.specs.declared.entry.CoreEntry.{CoreEntry}
use Rattle.core_rules.specs.declared.entry.CoreKind.{CoreKind}
use Rattle.core_rules.specs.declared.entry.CoreKind.TheVariants as core
use Rattle.farm_script.specs.declared.event.Event.{Event}
use Rattle.farm_entries.specs.declared.site.Site.{Site}
use Rattle.farm_entries.specs.declared.site.SiteServer.{SiteServer}
use Rattle.farm_entries.specs.Printed.{kind_text, core_text, step_text, stage_text, number_text}
use Rattle.farm_entries.specs.Printed.{core_line, step_line, call_line, reply_line, word_line, entry_text}
use Rattle.farm_entries.specs.Printed.{core_count, entries_text, row_text, job_text, held_text}
use Rattle.farm_entries.specs.Printed.{kept_archive_text, server_text, standing_text, ids_given, books_text}
use Rattle.farm_entries.specs.Printed.{version_of, run_text}
use Rattle.farm_entries.specs.Seen.{core_log}
use Rattle.farm_entries.specs.Servers.{ServerNow, server_of}
use Rattle.farm_entries.specs.declared.entry.Entry.{Entry}
use Rattle.farm_entries.specs.declared.entry.StepKind.{StepKind}
use Rattle.farm_entries.specs.declared.entry.StepKind.TheVariants as step
use Rattle.farm_entries.specs.declared.entry.Step.{Step}
use Rattle.farm_entries.specs.declared.entry.OutCall.{OutCall}
use Rattle.farm_entries.specs.declared.entry.Reply.{Reply}
use Rattle.farm_entries.specs.declared.entry.EntryWord.{EntryWord}
use Rattle.farm_entries.specs.declared.entry.EntryWord.TheVariants as word
use Rattle.run_lines.specs.Texts.{line_text, ended_text}
use Rattle.run_lines.specs.declared.line.RunLine.{RunLine}
use Rattle.run_lines.specs.declared.line.RunLine.TheVariants as line
use Rattle.audit.specs.Keyless.{keyless}
use Rattle.farm_audit.specs.RunLines.{shown, core_lines, step_lines, call_lines, reply_lines, word_lines}
use Rattle.farm_audit.specs.RunLines.{entry_lines, entries_lines, row_line, booking_line, held_line}
use Rattle.farm_audit.specs.RunLines.{archive_line, server_lines, standing_lines, books_lines, run_lines}

-- a part goes before what ends the others
nest : (a b c d : List ℕ) → b ++ d ≡ c → (a ++ b) ++ d ≡ a ++ c
nest a b c d e = append_assoc a b d ∙ ap (λ (x : List ℕ). a ++ x) e

-- the texts of lines
abbrev pub texts : List RunLine → List ℕ
texts ls = flat_map ended_text ls

pub texts_both : (ls ms : List RunLine) → texts (ls ++ ms) ≡ texts ls ++ texts ms
texts_both [] ms = refl
texts_both (l ∷ ls) ms = ap (λ (x : List ℕ). ended_text l ++ x) (texts_both ls ms)
    ∙ sym (append_assoc (ended_text l) (texts ls) (texts ms))

-- ---- an entry

keyless_text : (k : CoreKind) → core_text (keyless k) ≡ core_text k
keyless_text (core.Reserve reserved) = refl
keyless_text (core.Commit job state kept) = refl
keyless_text (core.Undo job noted ended) = refl
keyless_text (core.Beat server nonce cpus key pruned reaped replaced is_new) = refl
keyless_text (core.Update server job state answer) = refl
keyless_text (core.Status pruned servers cpus jobs) = refl
keyless_text (core.Drain server nonce on reg) = refl

shown_text : (k : StepKind) → step_text (shown k) ≡ step_text k
shown_text (step.Heard as_what) = refl
shown_text (step.Assigned job tc ready) = refl
shown_text (step.Submitted job outcome) = refl
shown_text (step.Ran job went result) = refl
shown_text (step.Finished job) = refl
shown_text (step.Unreported job) = refl
shown_text (step.Opened archives) = refl

core_is : (number : ℕ) (c : Option CoreEntry) → texts (core_lines number c) ≡ core_line number c
core_is number None = refl
core_is number (Some e) =
    append-nil (ended_text (line.Core number (keyless e.kind)))
    ∙ nest (codes "core ") _ _ (10 ∷ []) (nest (decimal number) _ _ (10 ∷ [])
    (ap (λ (x : List ℕ). 32 ∷ (x ++ 10 ∷ [])) (keyless_text e.kind)))

step_is : (s : Option Step) → texts (step_lines s) ≡ step_line s
step_is None = refl
step_is (Some s) =
    append-nil (ended_text (line.Step s.server (shown s.kind)))
    ∙ nest (codes "step ") _ _ (10 ∷ []) (nest (addr_text s.server) _ _ (10 ∷ [])
    (ap (λ (x : List ℕ). 32 ∷ (x ++ 10 ∷ [])) (shown_text s.kind)))

word_is : (w : Option EntryWord) → texts (word_lines w) ≡ word_line w
word_is None = refl
word_is (Some word.Void) = refl
word_is (Some word.Down) = refl
word_is (Some word.Waiting) = refl
word_is (Some word.Died) = refl

-- the line of an event before what stands behind it
head_is : (number : ℕ) (e : Event) (d : List ℕ) → line_text (line.Entry number e) ++ d ≡ codes "entry "
    ++ (decimal number ++ (codes " " ++ (decimal e.at ++ (codes " " ++ (kind_text e.kind ++ d)))))
head_is number e d =
    let k = kind_text e.kind in
    let l5 : List ℕ = codes " " ++ k in
    let r5 : List ℕ = codes " " ++ (k ++ d) in
    let l4 : List ℕ = decimal e.at ++ l5 in
    let r4 : List ℕ = decimal e.at ++ r5 in
    let l3 : List ℕ = codes " " ++ l4 in
    let r3 : List ℕ = codes " " ++ r4 in
    let l2 : List ℕ = decimal number ++ l3 in
    let r2 : List ℕ = decimal number ++ r3 in
    nest (codes "entry ") l2 r2 d (nest (decimal number) l3 r3 d (nest (codes " ") l4 r4 d
    (nest (decimal e.at) l5 r5 d (nest (codes " ") k (k ++ d) d refl))))

call_is : (c : Option OutCall) → texts (call_lines c) ≡ call_line c
call_is None = refl
call_is (Some c) =
    append-nil (ended_text (line.Call c.target c.bytes))
    ∙ nest (codes "call ") _ _ (10 ∷ []) (nest (addr_text c.target) _ _ (10 ∷ []) refl)

reply_is : (r : Option Reply) → texts (reply_lines r) ≡ reply_line r
reply_is None = refl
reply_is (Some r) =
    append-nil (ended_text (line.Reply r.to r.bytes))
    ∙ nest (codes "reply ") _ _ (10 ∷ []) (nest (decimal r.to) _ _ (10 ∷ []) refl)

parts_are : (a b c d e : List RunLine)
    → texts (a ++ b ++ c ++ d ++ e) ≡ texts a ++ (texts b ++ (texts c ++ (texts d ++ texts e)))
parts_are a b c d e =
    texts_both (a ++ b ++ c ++ d) e
    ∙ ap (λ (x : List ℕ). x ++ texts e) (texts_both (a ++ b ++ c) d)
    ∙ append_assoc (texts (a ++ b ++ c)) (texts d) (texts e)
    ∙ ap (λ (x : List ℕ). x ++ (texts d ++ texts e)) (texts_both (a ++ b) c)
    ∙ append_assoc (texts (a ++ b)) (texts c) (texts d ++ texts e)
    ∙ ap (λ (x : List ℕ). x ++ (texts c ++ (texts d ++ texts e))) (texts_both a b)
    ∙ append_assoc (texts a) (texts b) (texts c ++ (texts d ++ texts e))

parts_text : (core_number : ℕ) (e : Entry) → texts (core_lines core_number e.core ++ step_lines e.step
    ++ call_lines e.call ++ reply_lines e.reply ++ word_lines e.word)
    ≡ core_line core_number e.core ++ (step_line e.step ++ (call_line e.call ++ (reply_line e.reply
    ++ word_line e.word)))
parts_text core_number e =
    let c = core_line core_number e.core in
    let s = step_line e.step in
    let k = call_line e.call in
    let r = reply_line e.reply in
    parts_are (core_lines core_number e.core) (step_lines e.step) (call_lines e.call) (reply_lines e.reply)
    (word_lines e.word)
    ∙ ap (λ (x : List ℕ). x ++ (texts (step_lines e.step) ++ (texts (call_lines e.call)
    ++ (texts (reply_lines e.reply) ++ texts (word_lines e.word))))) (core_is core_number e.core)
    ∙ ap (λ (x : List ℕ). c ++ (x ++ (texts (call_lines e.call) ++ (texts (reply_lines e.reply)
    ++ texts (word_lines e.word))))) (step_is e.step)
    ∙ ap (λ (x : List ℕ). c ++ (s ++ (x ++ (texts (reply_lines e.reply) ++ texts (word_lines e.word)))))
    (call_is e.call)
    ∙ ap (λ (x : List ℕ). c ++ (s ++ (k ++ (x ++ texts (word_lines e.word))))) (reply_is e.reply)
    ∙ ap (λ (x : List ℕ). c ++ (s ++ (k ++ (r ++ x)))) (word_is e.word)

entry_is : (number core_number : ℕ) (e : Entry) → texts (entry_lines number core_number e)
    ≡ entry_text number core_number e
entry_is number core_number e =
    let rest : List ℕ = core_line core_number e.core ++ (step_line e.step ++ (call_line e.call
    ++ (reply_line e.reply ++ word_line e.word))) in
    ap (λ (x : List ℕ). ended_text (line.Entry number e.event) ++ x) (parts_text core_number e)
    ∙ append_assoc (line_text (line.Entry number e.event)) (10 ∷ []) rest
    ∙ head_is number e.event (10 ∷ rest)

entries_are : (number core_number : ℕ) (es : List Entry) → texts (entries_lines number core_number es)
    ≡ entries_text number core_number es
entries_are number core_number [] = refl
entries_are number core_number (e ∷ es) =
    texts_both (entry_lines number core_number e)
    (entries_lines (number + 1) (core_number + core_count e.core) es)
    ∙ ap (λ (x : List ℕ). x ++ texts (entries_lines (number + 1) (core_number + core_count e.core) es))
    (entry_is number core_number e)
    ∙ ap (λ (x : List ℕ). entry_text number core_number e ++ x)
    (entries_are (number + 1) (core_number + core_count e.core) es)

-- ---- the books

-- values with a line each, and the texts of these
mapped_are : {A : Type 0} (f : A → RunLine) (text : A → List ℕ) (xs : List A)
    → ((x : A) → ended_text (f x) ≡ text x) → texts (map f xs) ≡ flat_map text xs
mapped_are f text [] each = refl
mapped_are f text (x ∷ xs) each =
    ap (λ (t : List ℕ). ended_text (f x) ++ t) (mapped_are f text xs each)
    ∙ ap (λ (t : List ℕ). t ++ flat_map text xs) (each x)

-- words of a registration, with what ends its line
words_end : (a b c d e f g h i j k l m : List ℕ)
    → (a ++ (b ++ (c ++ (d ++ (e ++ (f ++ (g ++ (h ++ (i ++ (j ++ (k ++ l))))))))))) ++ m
    ≡ a ++ (b ++ (c ++ (d ++ (e ++ (f ++ (g ++ (h ++ (i ++ (j ++ (k ++ (l ++ m)))))))))))
words_end a b c d e f g h i j k l m =
    nest a _ _ m (nest b _ _ m (nest c _ _ m (nest d _ _ m (nest e _ _ m (nest f _ _ m (nest g _ _ m
    (nest h _ _ m (nest i _ _ m (nest j _ _ m (nest k _ _ m refl))))))))))

row_is : (row : ServerRow) → ended_text (row_line row) ≡ row_text row
row_is row =
    nest (codes "server ") _ _ (10 ∷ [])
    (nest (addr_text row.server) _ _ (10 ∷ [])
    (words_end (codes " reg ") (decimal row.reg) (codes " cpus ") (decimal row.cpus) (codes " nonce ")
    (decimal row.nonce) (codes " seen ") (decimal row.seen) (codes " load ") (decimal row.load)
    (codes " error ") (number_text row.error) (10 ∷ [])))

booking_is : (b : Booking) → ended_text (booking_line b) ≡ job_text b
booking_is b =
    nest (codes "job ") _ _ (10 ∷ []) (nest (decimal b.job.0) _ _ (10 ∷ [])
    (nest (codes " reg ") _ _ (10 ∷ []) (nest (decimal b.reg) _ _ (10 ∷ []) (nest (codes " ") _ _ (10 ∷ [])
    (nest (stage_text (state_of b.job b.later)) _ _ (10 ∷ []) (nest (codes " ") _ _ (10 ∷ []) refl))))))

held_is : (addr : Addr) (p : JobId × List ℕ) → ended_text (held_line addr p) ≡ held_text addr p
held_is addr p =
    nest (codes "held ") _ _ (10 ∷ []) (nest (addr_text addr) _ _ (10 ∷ []) (nest (codes " ") _ _ (10 ∷ [])
    (nest (decimal p.0.0) _ _ (10 ∷ []) (nest (codes " ") p.1 (p.1 ++ 10 ∷ []) (10 ∷ []) refl))))

archive_is : (addr : Addr) (p : List ℕ × ℕ) → ended_text (archive_line addr p) ≡ kept_archive_text addr p
archive_is addr p =
    nest (codes "archive ") _ _ (10 ∷ []) (nest (addr_text addr) _ _ (10 ∷ []) (nest (codes " ") _ _ (10 ∷ [])
    (nest p.0 _ _ (10 ∷ []) (nest (codes " ") (decimal p.1) (decimal p.1 ++ 10 ∷ []) (10 ∷ []) refl))))

server_is : (s : ServerNow) → texts (server_lines s) ≡ server_text s
server_is s =
    texts_both (map (held_line s.setup.addr) s.held) (map (archive_line s.setup.addr) s.archives)
    ∙ ap (λ (x : List ℕ). x ++ texts (map (archive_line s.setup.addr) s.archives))
    (mapped_are (held_line s.setup.addr) (held_text s.setup.addr) s.held (held_is s.setup.addr))
    ∙ ap (λ (x : List ℕ). flat_map (held_text s.setup.addr) s.held ++ x)
    (mapped_are (archive_line s.setup.addr) (kept_archive_text s.setup.addr) s.archives
    (archive_is s.setup.addr))

servers_are : (servers : List SiteServer) (entries : List Entry)
    → texts (flat_map (λ s. server_lines (server_of s entries)) servers)
    ≡ flat_map (λ s. server_text (server_of s entries)) servers
servers_are [] entries = refl
servers_are (s ∷ ss) entries =
    texts_both (server_lines (server_of s entries)) (flat_map (λ s. server_lines (server_of s entries)) ss)
    ∙ ap (λ (x : List ℕ). x ++ texts (flat_map (λ s. server_lines (server_of s entries)) ss))
    (server_is (server_of s entries))
    ∙ ap (λ (x : List ℕ). server_text (server_of s entries) ++ x) (servers_are ss entries)

standing_is : (setup : Site) (entries : List Entry) → texts (standing_lines setup entries)
    ≡ standing_text setup entries
standing_is setup entries =
    let rows = map row_line (servers_of (core_log entries)) in
    let jobs = map booking_line (unended_by_id (core_log entries)) in
    let kept = flat_map (λ s. server_lines (server_of s entries)) setup.servers in
    let end : List RunLine = line.End ∷ [] in
    texts_both (rows ++ jobs ++ kept) end
    ∙ ap (λ (x : List ℕ). x ++ texts end) (texts_both (rows ++ jobs) kept
    ∙ ap (λ (x : List ℕ). x ++ texts kept) (texts_both rows jobs
    ∙ ap (λ (x : List ℕ). x ++ texts jobs) (mapped_are row_line row_text (servers_of (core_log entries)) row_is)
    ∙ ap (λ (x : List ℕ). flat_map row_text (servers_of (core_log entries)) ++ x)
    (mapped_are booking_line job_text (unended_by_id (core_log entries)) booking_is))
    ∙ ap (λ (x : List ℕ). (flat_map row_text (servers_of (core_log entries))
    ++ flat_map job_text (unended_by_id (core_log entries))) ++ x) (servers_are setup.servers entries))

books_are : (setup : Site) (entries : List Entry) → texts (books_lines setup entries)
    ≡ books_text setup entries
books_are setup entries =
    ids_are (decimal setup.scheduler.base) (decimal (ids_given setup.scheduler (core_log entries)))
    (texts (standing_lines setup entries)) (standing_text setup entries) (standing_is setup entries)
  where
    ids_are : (b c s t : List ℕ) → s ≡ t
        → codes "books\n" ++ (((codes "ids base " ++ (b ++ (codes " count " ++ c))) ++ 10 ∷ []) ++ s)
        ≡ (codes "books\nids base " ++ (b ++ (codes " count " ++ (c ++ codes "\n")))) ++ t
    ids_are b c s t e =
        ap (λ (x : List ℕ). codes "books\n" ++ (((codes "ids base " ++ (b ++ (codes " count " ++ c))) ++ 10 ∷ [])
        ++ x)) e
        ∙ ap (λ (x : List ℕ). codes "books\n" ++ (x ++ t))
        (nest (codes "ids base ") _ _ (10 ∷ []) (nest b _ _ (10 ∷ [])
        (nest (codes " count ") c (c ++ codes "\n") (10 ∷ []) refl)))

-- ---- the whole run

pub run_is : (setup : Site) (entries : List Entry) → texts (run_lines setup entries) ≡ run_text setup entries
run_is setup entries =
    let v = version_of setup.rules in
    let n = length entries in
    ap (λ (x : List ℕ). ended_text (line.Run v n) ++ x)
    (texts_both (entries_lines 0 0 entries) (books_lines setup entries)
    ∙ ap (λ (x : List ℕ). x ++ texts (books_lines setup entries)) (entries_are 0 0 entries)
    ∙ ap (λ (x : List ℕ). entries_text 0 0 entries ++ x) (books_are setup entries))
    ∙ ap (λ (x : List ℕ). x ++ (entries_text 0 0 entries ++ books_text setup entries)) (first_is v n)
    ∙ sym (append_assoc (first_line v n) (entries_text 0 0 entries) (books_text setup entries))
  where
    first_line : ℕ → ℕ → List ℕ
    first_line v n = codes "run " ++ (decimal v ++ (codes " entries " ++ (decimal n ++ codes "\n")))

    first_is : (v n : ℕ) → ended_text (line.Run v n) ≡ first_line v n
    first_is v n =
        nest (codes "run ") _ _ (10 ∷ []) (nest (decimal v) _ _ (10 ∷ [])
        (nest (codes " entries ") (decimal n) (decimal n ++ codes "\n") (10 ∷ []) refl))
