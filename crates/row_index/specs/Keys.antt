-- The orders of the keys by which the scheduler picks.
use Rattle.std.specs.Prelude.{ℕ, ◌*◌, Bool, max, if◌then◌else◌, nat_lt, ◌==◌}
use Rattle.row_index.specs.declared.keys.LoadKey.{LoadKey}
use Rattle.row_index.specs.declared.keys.MomentKey.{MomentKey}

-- the less of two numbers goes first, and where they are equal the rest decides
abbrev pub less_or : ℕ → ℕ → Bool → Bool
less_or m n rest = if m == n then rest else nat_lt m n

-- the load for each processor, of which there is at least one, then the number
abbrev pub load_before : LoadKey → LoadKey → Bool
load_before a b = less_or (a.load * max b.cpus 1) (b.load * max a.cpus 1)
    (less_or a.number b.number (nat_lt a.cpus b.cpus))

-- the moment, then the number
abbrev pub moment_before : MomentKey → MomentKey → Bool
moment_before a b = less_or a.moment b.moment (nat_lt a.number b.number)
