-- The lines of a run stand in their order, and what is read of them.
use Rattle.std.proofs.Common.{◌≡◌, ℕ, suc, ◌+◌, ◌==◌, nat_lt, Bool, true, cond, List, [], ◌∷◌, ◌++◌, length, map}
use Rattle.std.proofs.Common.{Option, Some, None, refl, sym, ap, subst, ◌∙◌, append_assoc, append-nil, arith}
use Rattle.std.specs.List.{flat_map}
use Rattle.std.proofs.lemmas.Cmp.{nat_eq_equiv}
use Rattle.std.proofs.lemmas.Bool.{lt-ltb, ltb-true}
use Rattle.dist_types.specs.declared.addr.Addr.{Addr}
use Rattle.dist_types.specs.declared.ids.JobId.{JobId}
use Rattle.core_rules.specs.declared.rows.ServerRow.{ServerRow}
use Rattle.core_rules.specs.declared.entry.CoreEntry.{CoreEntry}
use Rattle.core_rules.specs.Reservation.{Booking}
use Rattle.core_rules.specs.Rows.{servers_of, unended_by_id}
use Rattle.farm_entries.specs.declared.site.Site.{Site}
use Rattle.farm_entries.specs.declared.site.SiteServer.{SiteServer}
use Rattle.farm_entries.specs.Printed.{core_count, ids_given, version_of}
use Rattle.farm_entries.specs.Seen.{core_log}
use Rattle.farm_entries.specs.Servers.{server_of}
use Rattle.farm_entries.specs.declared.entry.Entry.{Entry}
use Rattle.farm_entries.specs.declared.entry.StepKind.{StepKind}
use Rattle.farm_entries.specs.declared.entry.StepKind.TheVariants as step
use Rattle.farm_entries.specs.declared.entry.Step.{Step}
use Rattle.farm_entries.specs.declared.entry.OutCall.{OutCall}
use Rattle.farm_entries.specs.declared.entry.Reply.{Reply}
use Rattle.farm_entries.specs.declared.entry.EntryWord.{EntryWord}
use Rattle.run_lines.specs.declared.line.RunLine.{RunLine}
use Rattle.run_lines.specs.declared.line.RunLine.TheVariants as line
use Rattle.audit.specs.Keyless.{keyless}
use Rattle.audit.specs.declared.mark.Mark.{Mark}
use Rattle.audit.specs.declared.mark.Book.{Book}
use Rattle.audit.specs.declared.order.Place.{Place}
use Rattle.audit.specs.declared.order.Place.TheVariants.{Entries, Ids, Servers, Jobs, Stores, Over}
use Rattle.audit.specs.Order.{next, part_behind, books_behind, server_behind, job_behind, store_behind}
use Rattle.audit.specs.Order.{end_behind}
use Rattle.audit.specs.Reading.{Read, with_line, with_built, built_in, makes, nothing_read}
use Rattle.audit.specs.FirstBad.{Says}
use Rattle.audit.specs.Books.{stood, booked, due_books}
use Rattle.farm_audit.specs.RunLines.{shown, core_lines, step_lines, call_lines, reply_lines, word_lines}
use Rattle.farm_audit.specs.RunLines.{entry_lines, entries_lines, row_line, booking_line, held_line}
use Rattle.farm_audit.specs.RunLines.{archive_line, server_lines, books_lines, run_lines}
use Rattle.farm_audit.proofs.History.{built_of}
use Rattle.farm_audit.proofs.HistoryLemmas.{core_marks, build_marks, entry_size, marks_of}

-- some lines, and others behind them
says_both : (n : ℕ) (r s t : Read) (ls ms : List RunLine) → Says n r ls s → Says (n + length ls) s ms t
    → Says n r (ls ++ ms) t
says_both n r s t [] ms a b =
    let here : Says n s ms t = subst (λ (k : ℕ). Says k s ms t) zero b in
    subst (λ (x : Read). Says n x ms t) (sym a) here
  where
    zero : n + 0 ≡ n
    zero = omega arith
says_both n r s t (l ∷ ls) ms a b = (
  a.0,
  a.1,
  says_both (n + 1) (record (with_line n l r) { place = a.0 }) s t ls ms a.2
      (subst (λ (k : ℕ). Says k s ms t) one_more b),
)
  where
    one_more : n + length (l ∷ ls) ≡ n + 1 + length ls
    one_more = omega arith

-- behind lines of entries
pub record Goes (n : ℕ) (r : Read) (ls : List RunLine) (seen : ℕ) (ms : List Mark) (m : ℕ) : Type 0 where
  pub part : ℕ
  pub end : Read
  pub says : Says n r ls end
  pub place : end.place ≡ Entries part
  pub seen_is : end.seen ≡ seen
  pub version_is : end.version ≡ r.version
  pub entries_is : end.entries ≡ r.entries
  pub marks_is : end.marks ≡ r.marks ++ ms
  pub made_is : end.made ≡ r.made + m
  pub books_is : end.books ≡ r.books

zero_more : (n : ℕ) → n ≡ n + 0
zero_more n = omega arith

-- a build leaves what was counted
built_seen : (n : ℕ) (o : Option JobId) (r : Read) → (with_built n o r).seen ≡ r.seen
built_seen n None r = refl
built_seen n (Some job) r = refl

built_entries : (n : ℕ) (o : Option JobId) (r : Read) → (with_built n o r).entries ≡ r.entries
built_entries n None r = refl
built_entries n (Some job) r = refl

built_version : (n : ℕ) (o : Option JobId) (r : Read) → (with_built n o r).version ≡ r.version
built_version n None r = refl
built_version n (Some job) r = refl

built_marks : (n : ℕ) (o : Option JobId) (r : Read) → (with_built n o r).marks ≡ r.marks ++ build_marks n o
built_marks n None r = sym (append-nil r.marks)
built_marks n (Some job) r = refl

built_made : (n : ℕ) (o : Option JobId) (r : Read) → (with_built n o r).made ≡ r.made
built_made n None r = refl
built_made n (Some job) r = refl

built_at : (n : ℕ) (o : Option JobId) (r : Read) → (with_built n o r).at ≡ r.at
built_at n None r = refl
built_at n (Some job) r = refl

built_books : (n : ℕ) (o : Option JobId) (r : Read) → (with_built n o r).books ≡ r.books
built_books n None r = refl
built_books n (Some job) r = refl

-- what is shown of a step tells its build
built_shown : (k : StepKind) → built_in (shown k) ≡ built_in k
built_shown (step.Heard as_what) = refl
built_shown (step.Assigned job tc ready) = refl
built_shown (step.Submitted job outcome) = refl
built_shown (step.Ran job went result) = refl
built_shown (step.Finished job) = refl
built_shown (step.Unreported job) = refl
built_shown (step.Opened archives) = refl

-- how many reservations an entry makes
abbrev pub core_made : Option CoreEntry → ℕ
core_made None = 0
core_made (Some e) = makes (keyless e.kind)

-- behind lines of entries, and behind this part of one
pub record GoesTo (n : ℕ) (r : Read) (ls : List RunLine) (part : ℕ) (ms : List Mark) (m : ℕ) : Type 0 where
  pub end : Read
  pub says : Says n r ls end
  pub place : end.place ≡ Entries part
  pub seen_is : end.seen ≡ r.seen
  pub version_is : end.version ≡ r.version
  pub entries_is : end.entries ≡ r.entries
  pub at_is : end.at ≡ r.at
  pub marks_is : end.marks ≡ r.marks ++ ms
  pub made_is : end.made ≡ r.made + m
  pub books_is : end.books ≡ r.books

core_goes : (n : ℕ) (r : Read) (number : ℕ) (c : Option CoreEntry) → r.place ≡ Entries 0
    → (part : ℕ) × (nat_lt part 2 ≡ true)
    × GoesTo n r (core_lines number c) part (core_marks n r.at number c) (core_made c)
core_goes n r number None is = (
  0,
  refl,
  record {
    end = r;
    says = refl;
    place = is;
    seen_is = refl;
    version_is = refl;
    entries_is = refl;
    at_is = refl;
    marks_is = sym (append-nil r.marks);
    made_is = zero_more r.made;
    books_is = refl;
  },
)
core_goes n r number (Some e) is = (
  1,
  refl,
  record {
    end = record (with_line n (line.Core number (keyless e.kind)) r) { place = Entries 1 };
    says = (Entries 1, ap (λ (p : Place). part_behind p 1) is, refl);
    place = refl;
    seen_is = refl;
    version_is = refl;
    entries_is = refl;
    at_is = refl;
    marks_is = refl;
    made_is = refl;
    books_is = refl;
  },
)

step_goes : (n : ℕ) (r : Read) (s : Option Step) (last : ℕ) → nat_lt last 2 ≡ true
    → r.place ≡ Entries last → (part : ℕ) × (nat_lt part 3 ≡ true)
    × GoesTo n r (step_lines s) part (build_marks n (built_of s)) 0
step_goes n r None last low is = (
  last,
  below last low,
  record {
    end = r;
    says = refl;
    place = is;
    seen_is = refl;
    version_is = refl;
    entries_is = refl;
    at_is = refl;
    marks_is = sym (append-nil r.marks);
    made_is = zero_more r.made;
    books_is = refl;
  },
)
  where
    below : (k : ℕ) → nat_lt k 2 ≡ true → nat_lt k 3 ≡ true
    below k e = lt-ltb k 3 (omega (arith, ltb-true k 2 e))
step_goes n r (Some s) last low is =
    let o = built_in (shown s.kind) in (
      2,
      refl,
      record {
        end = record (with_line n (line.Step s.server (shown s.kind)) r) { place = Entries 2 };
        says = (
          Entries 2,
          ap (λ (p : Place). part_behind p 2) is ∙ ap (λ (b : Bool). cond b (Some (Entries 2)) None) low,
          refl,
        );
        place = refl;
        seen_is = built_seen n o r;
        version_is = built_version n o r;
        entries_is = built_entries n o r;
        at_is = built_at n o r;
        marks_is = built_marks n o r
            ∙ ap (λ (j : Option JobId). r.marks ++ build_marks n j) (built_shown s.kind);
        made_is = built_made n o r ∙ zero_more r.made;
        books_is = built_books n o r;
      },
    )

call_goes : (n : ℕ) (r : Read) (w : Option OutCall) (last : ℕ) → nat_lt last 3 ≡ true
    → r.place ≡ Entries last → (part : ℕ) × (nat_lt part 4 ≡ true) × GoesTo n r (call_lines w) part [] 0
call_goes n r None last low is = (
  last,
  below last low,
  record {
    end = r;
    says = refl;
    place = is;
    seen_is = refl;
    version_is = refl;
    entries_is = refl;
    at_is = refl;
    marks_is = sym (append-nil r.marks);
    made_is = zero_more r.made;
    books_is = refl;
  },
)
  where
    below : (k : ℕ) → nat_lt k 3 ≡ true → nat_lt k 4 ≡ true
    below k e = lt-ltb k 4 (omega (arith, ltb-true k 3 e))
call_goes n r (Some w) last low is = (
  3,
  refl,
  record {
    end = record r { place = Entries 3 };
    says = (Entries 3, ap (λ (p : Place). part_behind p 3) is ∙ ap (λ (b : Bool). cond b (Some (Entries 3)) None) low, refl);
    place = refl;
    seen_is = refl;
    version_is = refl;
    entries_is = refl;
    at_is = refl;
    marks_is = sym (append-nil r.marks);
    made_is = zero_more r.made;
    books_is = refl;
  },
)

reply_goes : (n : ℕ) (r : Read) (w : Option Reply) (last : ℕ) → nat_lt last 4 ≡ true
    → r.place ≡ Entries last → (part : ℕ) × (nat_lt part 5 ≡ true) × GoesTo n r (reply_lines w) part [] 0
reply_goes n r None last low is = (
  last,
  below last low,
  record {
    end = r;
    says = refl;
    place = is;
    seen_is = refl;
    version_is = refl;
    entries_is = refl;
    at_is = refl;
    marks_is = sym (append-nil r.marks);
    made_is = zero_more r.made;
    books_is = refl;
  },
)
  where
    below : (k : ℕ) → nat_lt k 4 ≡ true → nat_lt k 5 ≡ true
    below k e = lt-ltb k 5 (omega (arith, ltb-true k 4 e))
reply_goes n r (Some w) last low is = (
  4,
  refl,
  record {
    end = record r { place = Entries 4 };
    says = (Entries 4, ap (λ (p : Place). part_behind p 4) is ∙ ap (λ (b : Bool). cond b (Some (Entries 4)) None) low, refl);
    place = refl;
    seen_is = refl;
    version_is = refl;
    entries_is = refl;
    at_is = refl;
    marks_is = sym (append-nil r.marks);
    made_is = zero_more r.made;
    books_is = refl;
  },
)

word_goes : (n : ℕ) (r : Read) (w : Option EntryWord) (last : ℕ) → nat_lt last 5 ≡ true → r.place ≡ Entries last
    → (part : ℕ) × GoesTo n r (word_lines w) part [] 0
word_goes n r None last low is = (
  last,
  record {
    end = r;
    says = refl;
    place = is;
    seen_is = refl;
    version_is = refl;
    entries_is = refl;
    at_is = refl;
    marks_is = sym (append-nil r.marks);
    made_is = zero_more r.made;
    books_is = refl;
  },
)
word_goes n r (Some w) last low is = (
  5,
  record {
    end = record r { place = Entries 5 };
    says = (Entries 5, ap (λ (p : Place). part_behind p 5) is ∙ ap (λ (b : Bool). cond b (Some (Entries 5)) None) low, refl);
    place = refl;
    seen_is = refl;
    version_is = refl;
    entries_is = refl;
    at_is = refl;
    marks_is = sym (append-nil r.marks);
    made_is = zero_more r.made;
    books_is = refl;
  },
)

lines_count : (number : ℕ) (c : Option CoreEntry) → length (core_lines number c) ≡ core_count c
lines_count number None = refl
lines_count number (Some e) = refl

parts_go : (n : ℕ) (r : Read) (number : ℕ) (e : Entry) → r.place ≡ Entries 0
    → Goes n r (core_lines number e.core ++ step_lines e.step ++ call_lines e.call ++ reply_lines e.reply ++ word_lines e.word)
    r.seen (core_marks n r.at number e.core ++ build_marks (n + core_count e.core) (built_of e.step)) (core_made e.core)
parts_go n r number e is =
    let cores = core_lines number e.core in
    let steps = step_lines e.step in
    let calls = call_lines e.call in
    let replies = reply_lines e.reply in
    let words = word_lines e.word in
    let a = core_goes n r number e.core is in
    let n2 = n + length cores in
    let b = step_goes n2 a.2.end e.step a.0 a.1 a.2.place in
    let two = says_both n r a.2.end b.2.end cores steps a.2.says b.2.says in
    let n3 = n + length (cores ++ steps) in
    let c = call_goes n3 b.2.end e.call b.0 b.1 b.2.place in
    let three = says_both n r b.2.end c.2.end (cores ++ steps) calls two c.2.says in
    let n4 = n + length (cores ++ steps ++ calls) in
    let f = reply_goes n4 c.2.end e.reply c.0 c.1 c.2.place in
    let four = says_both n r c.2.end f.2.end (cores ++ steps ++ calls) replies three f.2.says in
    let n5 = n + length (cores ++ steps ++ calls ++ replies) in
    let d = word_goes n5 f.2.end e.word f.0 f.1 f.2.place in
    let builds : build_marks n2 (built_of e.step) ≡ build_marks (n + core_count e.core) (built_of e.step) =
    ap (λ (k : ℕ). build_marks (n + k) (built_of e.step)) (lines_count number e.core) in
    record {
      part = d.0;
      end = d.1.end;
      says = says_both n r f.2.end d.1.end (cores ++ steps ++ calls ++ replies) words four d.1.says;
      place = d.1.place;
      seen_is = d.1.seen_is ∙ f.2.seen_is ∙ c.2.seen_is ∙ b.2.seen_is ∙ a.2.seen_is;
      version_is = d.1.version_is ∙ f.2.version_is ∙ c.2.version_is ∙ b.2.version_is ∙ a.2.version_is;
      entries_is = d.1.entries_is ∙ f.2.entries_is ∙ c.2.entries_is ∙ b.2.entries_is ∙ a.2.entries_is;
      marks_is = d.1.marks_is ∙ append-nil f.2.end.marks ∙ f.2.marks_is ∙ append-nil c.2.end.marks
          ∙ c.2.marks_is ∙ append-nil b.2.end.marks ∙ b.2.marks_is
          ∙ ap (λ (xs : List Mark). xs ++ build_marks n2 (built_of e.step)) a.2.marks_is
          ∙ append_assoc r.marks (core_marks n r.at number e.core) (build_marks n2 (built_of e.step))
          ∙ ap (λ (xs : List Mark). r.marks ++ (core_marks n r.at number e.core ++ xs)) builds;
      made_is = omega (arith, d.1.made_is, f.2.made_is, c.2.made_is, b.2.made_is, a.2.made_is);
      books_is = d.1.books_is ∙ f.2.books_is ∙ c.2.books_is ∙ b.2.books_is ∙ a.2.books_is;
    }

entry_goes : (n : ℕ) (r : Read) (number core_number : ℕ) (e : Entry) (part : ℕ) → r.place ≡ Entries part
    → r.seen ≡ number → Goes n r (entry_lines number core_number e) (number + 1)
    (core_marks (n + 1) e.event.at core_number e.core ++ build_marks (n + 1 + core_count e.core) (built_of e.step))
    (core_made e.core)
entry_goes n r number core_number e part is seen =
    let on : (number == r.seen) ≡ true = ap (λ (k : ℕ). number == k) seen ∙ nat_eq_equiv.refl number in
    let first : next r.place r.seen (line.Entry number e.event) ≡ Some (Entries 0) =
    ap (λ (p : Place). next p r.seen (line.Entry number e.event)) is
    ∙ ap (λ (b : Bool). cond b (Some (Entries 0)) None) on in
    let s : Read = record (with_line n (line.Entry number e.event) r) { place = Entries 0 } in
    let rest = parts_go (n + 1) s core_number e refl in
    record {
      part = rest.part;
      end = rest.end;
      says = (Entries 0, first, rest.says);
      place = rest.place;
      seen_is = rest.seen_is ∙ ap (λ (k : ℕ). k + 1) seen;
      version_is = rest.version_is;
      entries_is = rest.entries_is;
      marks_is = rest.marks_is;
      made_is = rest.made_is;
      books_is = rest.books_is;
    }

same_size : (number core_number : ℕ) (e : Entry) → length (entry_lines number core_number e) ≡ entry_size e
same_size number core_number e = size e.core
  where
    size : (c : Option CoreEntry)
        → suc (length (core_lines core_number c ++ step_lines e.step ++ call_lines e.call ++ reply_lines e.reply ++ word_lines e.word))
        ≡ suc (length (core_lines 0 c ++ step_lines e.step ++ call_lines e.call ++ reply_lines e.reply ++ word_lines e.word))
    size None = refl
    size (Some x) = refl

-- how many reservations entries make
abbrev pub made_by : List Entry → ℕ
made_by [] = 0
made_by (e ∷ es) = core_made e.core + made_by es

entries_go : (n : ℕ) (r : Read) (number core_number : ℕ) (es : List Entry) (part : ℕ) → r.place ≡ Entries part
    → r.seen ≡ number → Goes n r (entries_lines number core_number es) (number + length es)
    (marks_of n core_number es) (made_by es)
entries_go n r number core_number [] part is seen = record {
  part = part;
  end = r;
  says = refl;
  place = is;
  seen_is = seen ∙ zero_more number;
  version_is = refl;
  entries_is = refl;
  marks_is = sym (append-nil r.marks);
  made_is = zero_more r.made;
  books_is = refl;
}
entries_go n r number core_number (e ∷ es) part is seen =
    let a = entry_goes n r number core_number e part is seen in
    let n2 = n + length (entry_lines number core_number e) in
    let b = entries_go n2 a.end (number + 1) (core_number + core_count e.core) es a.part a.place a.seen_is in
    let own = core_marks (n + 1) e.event.at core_number e.core in
    let builds = build_marks (n + 1 + core_count e.core) (built_of e.step) in
    let more = marks_of n2 (core_number + core_count e.core) es in
    let moved : more ≡ marks_of (n + entry_size e) (core_number + core_count e.core) es =
    ap (λ (k : ℕ). marks_of (n + k) (core_number + core_count e.core) es) (same_size number core_number e) in
    record {
      part = b.part;
      end = b.end;
      says = says_both n r a.end b.end (entry_lines number core_number e)
          (entries_lines (number + 1) (core_number + core_count e.core) es) a.says b.says;
      place = b.place;
      seen_is = b.seen_is ∙ one_entry;
      version_is = b.version_is ∙ a.version_is;
      entries_is = b.entries_is ∙ a.entries_is;
      marks_is = b.marks_is ∙ ap (λ (xs : List Mark). xs ++ more) a.marks_is
          ∙ append_assoc r.marks (own ++ builds) more
          ∙ ap (λ (xs : List Mark). r.marks ++ xs) (append_assoc own builds more)
          ∙ ap (λ (xs : List Mark). r.marks ++ (own ++ (builds ++ xs))) moved;
      made_is = omega (arith, b.made_is, a.made_is);
      books_is = b.books_is ∙ a.books_is;
    }
  where
    one_entry : number + 1 + length es ≡ number + length (e ∷ es)
    one_entry = omega arith

-- ---- the books

-- a place behind which jobs, what servers keep, and the last line may stand
abbrev MayEnd : Place → Type 0
MayEnd p = (job_behind p ≡ Some Jobs) × (store_behind p ≡ Some Stores) × (end_behind p ≡ Some Over)

-- one behind which what servers keep and the last line may
abbrev MayKeep : Place → Type 0
MayKeep p = (store_behind p ≡ Some Stores) × (end_behind p ≡ Some Over)

-- behind lines of the books
pub record Closes (n : ℕ) (r : Read) (ls : List RunLine) (Fine : Place → Type 0) (bs : List Book) : Type 0 where
  pub end : Read
  pub says : Says n r ls end
  pub place : Fine end.place
  pub seen_is : end.seen ≡ r.seen
  pub version_is : end.version ≡ r.version
  pub entries_is : end.entries ≡ r.entries
  pub marks_is : end.marks ≡ r.marks
  pub made_is : end.made ≡ r.made
  pub base_is : end.base ≡ r.base
  pub count_is : end.count ≡ r.count
  pub books_is : end.books ≡ r.books ++ bs

none_close : (n : ℕ) (r : Read) (Fine : Place → Type 0) → Fine r.place → Closes n r [] Fine []
none_close n r Fine is = record {
  end = r;
  says = refl;
  place = is;
  seen_is = refl;
  version_is = refl;
  entries_is = refl;
  marks_is = refl;
  made_is = refl;
  base_is = refl;
  count_is = refl;
  books_is = sym (append-nil r.books);
}

-- a line that says this of the books, and others behind it
more_close : (n : ℕ) (r : Read) (l : RunLine) (ls : List RunLine) (Fine : Place → Type 0) (place : Place)
    (own bs : List Book) → next r.place r.seen l ≡ Some place
    → with_line n l r ≡ record r { books = r.books ++ own }
    → Closes (n + 1) (record r { books = r.books ++ own; place = place }) ls Fine bs
    → Closes n r (l ∷ ls) Fine (own ++ bs)
more_close n r l ls Fine place own bs may is rest = record {
  end = rest.end;
  says = (
    place,
    may,
    subst (λ (x : Read). Says (n + 1) (record x { place = place }) ls rest.end) (sym is) rest.says,
  );
  place = rest.place;
  seen_is = rest.seen_is;
  version_is = rest.version_is;
  entries_is = rest.entries_is;
  marks_is = rest.marks_is;
  made_is = rest.made_is;
  base_is = rest.base_is;
  count_is = rest.count_is;
  books_is = rest.books_is ∙ append_assoc r.books own bs;
}

servers_close : (n : ℕ) (r : Read) (rows : List ServerRow) → r.place ≡ Servers
    → Closes n r (map row_line rows) (λ p. p ≡ Servers) (map stood rows)
servers_close n r [] is = none_close n r (λ p. p ≡ Servers) is
servers_close n r (row ∷ rows) is =
    let s : Read = record r { books = r.books ++ stood row ∷ []; place = Servers } in
    more_close n r (row_line row) (map row_line rows) (λ p. p ≡ Servers) Servers (stood row ∷ [])
    (map stood rows) (ap server_behind is) refl (servers_close (n + 1) s rows refl)

jobs_close : (n : ℕ) (r : Read) (bs : List Booking) → MayEnd r.place
    → Closes n r (map booking_line bs) MayEnd (map booked bs)
jobs_close n r [] may = none_close n r MayEnd may
jobs_close n r (b ∷ bs) may =
    let s : Read = record r { books = r.books ++ booked b ∷ []; place = Jobs } in
    more_close n r (booking_line b) (map booking_line bs) MayEnd Jobs (booked b ∷ []) (map booked bs) may.0 refl
    (jobs_close (n + 1) s bs (refl, refl, refl))

-- a line of what a server keeps
abbrev IsStore : RunLine → Type 0
IsStore (line.Held server job tc) = Unit {0}
IsStore (line.Archive server tc size) = Unit {0}
IsStore other = ⊥

abbrev AllStores : List RunLine → Type 0
AllStores [] = Unit {0}
AllStores (l ∷ ls) = IsStore l × AllStores ls

stores_both : (ls ms : List RunLine) → AllStores ls → AllStores ms → AllStores (ls ++ ms)
stores_both [] ms a b = b
stores_both (l ∷ ls) ms a b = (a.0, stores_both ls ms a.1 b)

held_are : (addr : Addr) (xs : List (JobId × List ℕ)) → AllStores (map (held_line addr) xs)
held_are addr [] = tt
held_are addr (x ∷ xs) = (tt, held_are addr xs)

archives_are : (addr : Addr) (xs : List (List ℕ × ℕ)) → AllStores (map (archive_line addr) xs)
archives_are addr [] = tt
archives_are addr (x ∷ xs) = (tt, archives_are addr xs)

kept_are : (servers : List SiteServer) (entries : List Entry)
    → AllStores (flat_map (λ s. server_lines (server_of s entries)) servers)
kept_are [] entries = tt
kept_are (s ∷ ss) entries =
    let now = server_of s entries in
    stores_both (server_lines now) (flat_map (λ t. server_lines (server_of t entries)) ss)
    (stores_both (map (held_line now.setup.addr) now.held) (map (archive_line now.setup.addr) now.archives)
    (held_are now.setup.addr now.held) (archives_are now.setup.addr now.archives)) (kept_are ss entries)

nothing_more : (r : Read) → r ≡ record r { books = r.books ++ [] }
nothing_more r = ap (λ (bs : List Book). record r { books = bs }) (sym (append-nil r.books))

stores_close : (n : ℕ) (r : Read) (ls : List RunLine) → AllStores ls → MayKeep r.place
    → Closes n r ls MayKeep []
stores_close n r [] all may = none_close n r MayKeep may
stores_close n r (line.Held server job tc ∷ ls) all may =
    let s : Read = record r { books = r.books ++ []; place = Stores } in
    more_close n r (line.Held server job tc) ls MayKeep Stores [] [] may.0 (nothing_more r)
    (stores_close (n + 1) s ls all.1 (refl, refl))
stores_close n r (line.Archive server tc size ∷ ls) all may =
    let s : Read = record r { books = r.books ++ []; place = Stores } in
    more_close n r (line.Archive server tc size) ls MayKeep Stores [] [] may.0 (nothing_more r)
    (stores_close (n + 1) s ls all.1 (refl, refl))
stores_close n r (line.Run version entries ∷ ls) all may = absurd all.0
stores_close n r (line.Entry number e ∷ ls) all may = absurd all.0
stores_close n r (line.Core number kind ∷ ls) all may = absurd all.0
stores_close n r (line.Step server kind ∷ ls) all may = absurd all.0
stores_close n r (line.Call target bytes ∷ ls) all may = absurd all.0
stores_close n r (line.Reply to bytes ∷ ls) all may = absurd all.0
stores_close n r (line.Word w ∷ ls) all may = absurd all.0
stores_close n r (line.Books ∷ ls) all may = absurd all.0
stores_close n r (line.Ids base count ∷ ls) all may = absurd all.0
stores_close n r (line.Server row ∷ ls) all may = absurd all.0
stores_close n r (line.Job job reg state claimed ∷ ls) all may = absurd all.0
stores_close n r (line.End ∷ ls) all may = absurd all.0

-- behind the whole books
pub record IsClosed (n : ℕ) (r : Read) (setup : Site) (es : List Entry) : Type 0 where
  pub end : Read
  pub says : Says n r (books_lines setup es) end
  pub over : end.place ≡ Over
  pub seen_is : end.seen ≡ r.seen
  pub version_is : end.version ≡ r.version
  pub entries_is : end.entries ≡ r.entries
  pub marks_is : end.marks ≡ r.marks
  pub made_is : end.made ≡ r.made
  pub base_is : end.base ≡ setup.scheduler.base
  pub count_is : end.count ≡ ids_given setup.scheduler (core_log es)
  pub books_is : end.books ≡ r.books ++ due_books (core_log es)

books_close : (n : ℕ) (r : Read) (setup : Site) (es : List Entry) (part : ℕ) → r.place ≡ Entries part
    → IsClosed n r setup es
books_close n r setup es part is =
    let log = core_log es in
    let ids = line.Ids setup.scheduler.base (ids_given setup.scheduler log) in
    let s : Read = record (with_line (n + 1) ids r) { place = Servers } in
    let m = n + 1 + 1 in
    let servers = map row_line (servers_of log) in
    let jobs = map booking_line (unended_by_id log) in
    let kept = flat_map (λ t. server_lines (server_of t es)) setup.servers in
    let a = servers_close m s (servers_of log) refl in
    let b = jobs_close (m + length servers) a.end (unended_by_id log)
    (ap job_behind a.place, ap store_behind a.place, ap end_behind a.place) in
    let two = says_both m s a.end b.end servers jobs a.says b.says in
    let c = stores_close (m + length (servers ++ jobs)) b.end kept (kept_are setup.servers es)
    (b.place.1, b.place.2) in
    let three = says_both m s b.end c.end (servers ++ jobs) kept two c.says in
    let t : Read = record c.end { place = Over } in
    let all = says_both m s c.end t (servers ++ jobs ++ kept) (line.End ∷ []) three (Over, c.place.1, refl) in
    record {
      end = t;
      says = (Ids, ap books_behind is, (Servers, refl, all));
      over = refl;
      seen_is = c.seen_is ∙ b.seen_is ∙ a.seen_is;
      version_is = c.version_is ∙ b.version_is ∙ a.version_is;
      entries_is = c.entries_is ∙ b.entries_is ∙ a.entries_is;
      marks_is = c.marks_is ∙ b.marks_is ∙ a.marks_is;
      made_is = c.made_is ∙ b.made_is ∙ a.made_is;
      base_is = c.base_is ∙ b.base_is ∙ a.base_is;
      count_is = c.count_is ∙ b.count_is ∙ a.count_is;
      books_is = c.books_is ∙ append-nil b.end.books ∙ b.books_is
          ∙ ap (λ (xs : List Book). xs ++ map booked (unended_by_id log)) a.books_is
          ∙ append_assoc r.books (map stood (servers_of log)) (map booked (unended_by_id log));
    }

-- The lines of a run are in their order, and as many entries stand there as the first says; and what is read.
pub record IsInOrder (setup : Site) (es : List Entry) : Type 0 where
  pub end : Read
  pub says : Says 1 nothing_read (run_lines setup es) end
  pub over : end.place ≡ Over
  pub all : end.seen ≡ end.entries
  pub version_is : end.version ≡ version_of setup.rules
  pub marks_is : end.marks ≡ marks_of 2 0 es
  pub made_is : end.made ≡ made_by es
  pub base_is : end.base ≡ setup.scheduler.base
  pub count_is : end.count ≡ ids_given setup.scheduler (core_log es)
  pub books_is : end.books ≡ due_books (core_log es)

pub run_in_order : (setup : Site) (es : List Entry) → IsInOrder setup es
run_in_order setup es =
    let r : Read = record (with_line 1 (line.Run (version_of setup.rules) (length es)) nothing_read) { place = Entries 6 } in
    let a = entries_go 2 r 0 0 es 6 refl refl in
    let b = books_close (2 + length (entries_lines 0 0 es)) a.end setup es a.part a.place in
    record {
      end = b.end;
      says = (
        Entries 6,
        refl,
        says_both 2 r a.end b.end (entries_lines 0 0 es) (books_lines setup es) a.says b.says,
      );
      over = b.over;
      all = b.seen_is ∙ a.seen_is ∙ zero ∙ sym (b.entries_is ∙ a.entries_is);
      version_is = b.version_is ∙ a.version_is;
      marks_is = b.marks_is ∙ a.marks_is;
      made_is = b.made_is ∙ a.made_is ∙ zero_made (made_by es);
      base_is = b.base_is;
      count_is = b.count_is;
      books_is = b.books_is ∙ ap (λ (xs : List Book). xs ++ due_books (core_log es)) a.books_is;
    }
  where
    zero : 0 + length es ≡ length es
    zero = omega arith

    zero_made : (n : ℕ) → 0 + n ≡ n
    zero_made n = omega arith
