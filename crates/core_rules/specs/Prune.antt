-- Which registrations are pruned, over the rows of those that stand.
use Rattle.std.specs.Prelude.{ℕ, ◌-◌, List, map, filter, find, Bool, not, Option, nat_lt}
use Rattle.dist_types.specs.declared.addr.Addr.{Addr}
use Rattle.core_rules.specs.declared.rows.ServerRow.{ServerRow}
use Rattle.dist_types.specs.Addr.{same_addr}

-- how long ago a moment was, or 0 where it is later
abbrev pub age : ℕ → ℕ → ℕ
age now moment = now - moment

-- its last sign is over 90000 milliseconds old
abbrev pub is_expired : ℕ → ServerRow → Bool
is_expired now row = nat_lt 90000 (age now row.seen)

-- the numbers of those
abbrev pub prune : ℕ → List ServerRow → List ℕ
prune now rows = map (λ r. r.reg) (filter (is_expired now) rows)

-- the others, which still stand
abbrev pub left : ℕ → List ServerRow → List ServerRow
left now rows = filter (λ r. not (is_expired now r)) rows

-- the registration at an address
abbrev pub at_address : Addr → List ServerRow → Option ServerRow
at_address server rows = find (λ r. same_addr r.server server) rows
