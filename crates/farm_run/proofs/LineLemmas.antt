-- The lines of the reservations that are unended, by the rows that tell them.
use Rattle.std.proofs.Common.{◌≡◌, ℕ, List, [], ◌∷◌, ◌++◌, Option, Some, None, map, refl, ap, ◌∙◌}
use Rattle.std.specs.List.{flat_map}
use Rattle.std.specs.Option.{option_map}
use Rattle.dist_types.specs.declared.addr.Addr.{Addr}
use Rattle.core_rules.specs.declared.entry.CoreEntry.{CoreEntry}
use Rattle.core_rules.specs.declared.rows.JobRow.{JobRow}
use Rattle.core_rules.specs.Standing.{address_of}
use Rattle.core_rules.specs.Reservation.{Booking, is_claimed}
use Rattle.core_rules.specs.Job.{state_of, ready_at}
use Rattle.core_rules.specs.Rows.{job_row}
use Rattle.farm_entries.specs.Printed.{job_line, job_text}

abbrev pub row_line : JobRow → List ℕ
row_line j = job_line j.job j.reg j.state j.claimed

-- the row of a reservation has its line
one_line : (b : Booking) (j : JobRow) (at : Option Addr)
    → Some j ≡ option_map (λ server. record {
      number = b.number;
      job = b.job;
      reg = b.reg;
      server = server;
      reserved_at = b.now;
      state = state_of b.job b.later;
      ready_at = ready_at b.job b.later;
      claimed = is_claimed b;
    }) at → row_line j ≡ job_text b
one_line b j None is = absurd cc
one_line b j (Some server) is =
    let same : j ≡ record {
      number = b.number;
      job = b.job;
      reg = b.reg;
      server = server;
      reserved_at = b.now;
      state = state_of b.job b.later;
      ready_at = ready_at b.job b.later;
      claimed = is_claimed b;
    } = cc in ap row_line same

pub lines_are : (log : List CoreEntry) (rows : List JobRow) (bs : List Booking)
    → map Some rows ≡ map (job_row log) bs → flat_map row_line rows ≡ flat_map job_text bs
lines_are log [] [] same = refl
lines_are log [] (b ∷ bs) same = absurd cc
lines_are log (j ∷ js) [] same = absurd cc
lines_are log (j ∷ js) (b ∷ bs) same =
    let head : Some j ≡ job_row log b = cc in
    let rest : map Some js ≡ map (job_row log) bs = cc in
    ap (λ t. t ++ flat_map row_line js) (one_line b j (address_of log b.reg) head)
    ∙ ap (λ t. job_text b ++ t) (lines_are log js bs rest)
