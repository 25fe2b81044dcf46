-- Judging the books: each line against the one that the entries give at its place.
use Rattle.std.specs.Prelude.{ℕ, suc, ◌==◌, ◌&&◌, nat_eq, Bool, false, if◌then◌else◌, List, [], ◌∷◌, ◌++◌}
use Rattle.std.specs.Prelude.{map, Option, Some, None, ◌≤◌}
use Rattle.std.specs.Option.{option_map, option_eq}
use Rattle.dist_types.specs.Addr.{same_addr}
use Rattle.core_rules.specs.declared.entry.CoreEntry.{CoreEntry}
use Rattle.core_rules.specs.declared.rows.ServerRow.{ServerRow}
use Rattle.core_rules.specs.declared.rows.JobRow.{JobRow}
use Rattle.core_rules.specs.Log.{same_job}
use Rattle.core_rules.specs.Same.{same_truth, same_state}
use Rattle.core_rules.specs.Reservation.{Booking, is_claimed}
use Rattle.core_rules.specs.Job.{state_of}
use Rattle.core_rules.specs.Rows.{servers_of, unended_by_id}
use Rattle.audit.specs.declared.mark.Book.{Book}
use Rattle.audit.specs.declared.mark.Book.TheVariants.{Server, Job}

-- the line of an unended reservation
abbrev pub booked : Booking → Book
booked b = Job b.job b.reg (state_of b.job b.later) (is_claimed b)

-- the line of a registration; whether it drains is not shown
abbrev pub stood : ServerRow → Book
stood row = Server (record row { draining = false })

-- the lines that the entries give: the registrations that stand, then the unended reservations by rising id
abbrev pub due_books : List CoreEntry → List Book
due_books log = map stood (servers_of log) ++ map booked (unended_by_id log)

-- whether two rows are one
abbrev pub same_row : ServerRow → ServerRow → Bool
same_row a b = same_addr a.server b.server && (a.reg == b.reg) && (a.cpus == b.cpus) && (a.nonce == b.nonce)
    && (a.seen == b.seen) && (a.load == b.load) && option_eq nat_eq a.error b.error
    && same_truth a.draining b.draining

-- whether two lines are one
abbrev pub same_book : Book → Book → Bool
same_book (Server a) (Server b) = same_row a b
same_book (Job job reg state claimed) (Job j r s c) =
    same_job job j && (reg == r) && option_eq same_state state s && same_truth claimed c
same_book a b = false

-- the place of the first line that is not the one that is due there, one too many or too few included
unfoldable pub first_wrong : List Book → List Book → Option ℕ
first_wrong [] [] = None
first_wrong [] (d ∷ ds) = Some 0
first_wrong (p ∷ ps) [] = Some 0
first_wrong (p ∷ ps) (d ∷ ds) = if same_book p d then option_map suc (first_wrong ps ds) else Some 0

-- ---- the code's own

-- the line of a job's row
abbrev pub job_book : JobRow → Book
job_book row = Job row.job row.reg row.state row.claimed

-- the place, if there is one, is at most that
abbrev pub IsAtMost : Option ℕ → ℕ → Type 0
IsAtMost None n = Unit {0}
IsAtMost (Some i) n = i ≤ n
