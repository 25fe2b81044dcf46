-- Which registration a reservation goes to, over the rows of those that stand.
use Rattle.std.specs.Prelude.{ℕ, ◌+◌, ◌*◌, ◌/◌, List, [], ◌∷◌, map, filter, Bool, false, not, ◌&&◌, Option}
use Rattle.std.specs.Prelude.{Some, None}
use Rattle.std.specs.Prelude.{◌≤◌, nat_lt, is_none, unwrap_or}
use Rattle.std.specs.List.{best_of}
use Rattle.core_rules.specs.declared.rows.ServerRow.{ServerRow}
use Rattle.core_rules.specs.Prune.{age}

-- it has room where it is not draining and its load is below c + 1 + c/8, c being its processors
abbrev pub has_room : ServerRow → Bool
has_room row = not row.draining && nat_lt row.load (row.cpus + 1 + row.cpus / 8)

-- the rows that have room
abbrev pub roomy : List ServerRow → List ServerRow
roomy rows = filter has_room rows

-- it has no remembered error
abbrev pub is_faultless : ServerRow → Bool
is_faultless row = is_none row.error

-- whether the load is less for each processor
abbrev pub is_lighter : ServerRow → ServerRow → Bool
is_lighter a b = nat_lt (a.load * b.cpus) (b.load * a.cpus)

-- whether the remembered error is older
abbrev pub is_older : ServerRow → ServerRow → Bool
is_older a b = nat_lt (unwrap_or a.error 0) (unwrap_or b.error 0)

-- the first that no other goes before
abbrev pub first_best : (ServerRow → ServerRow → Bool) → List ServerRow → Option ServerRow
first_best goes_before [] = None
first_best goes_before (row ∷ rows) = Some (best_of goes_before row rows)

-- the first of two, or else the second
abbrev pub or_else : Option ServerRow → Option ServerRow → Option ServerRow
or_else None other = other
or_else (Some row) other = Some row

-- of those with room: the lightest without a remembered error, else the one whose error is oldest; the least
-- number decides
abbrev pub pick : List ServerRow → Option ServerRow
pick rows = or_else (first_best is_lighter (filter is_faultless (roomy rows)))
    (first_best is_older (roomy rows))

-- whether the remembered error is over 300000 milliseconds old
abbrev pub is_stale : ℕ → Option ℕ → Bool
is_stale now None = false
is_stale now (Some moment) = nat_lt 300000 (age now moment)

-- each with room whose remembered error is so old
abbrev pub forgiven : ℕ → List ServerRow → List ℕ
forgiven now rows = map (λ r. r.reg) (filter (λ r. is_stale now r.error) (roomy rows))

-- at least one processor
abbrev pub HasCpus : ServerRow → Type 0
HasCpus r = 1 ≤ r.cpus
