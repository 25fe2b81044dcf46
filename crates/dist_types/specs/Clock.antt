-- Clocks.
use Rattle.std.specs.Prelude.{ℕ, List, [], ◌∷◌, drop}
use Rattle.dist_types.specs.declared.clock.MemClock.{MemClock}

-- the first of the moments to come, or where there is none the last one again
abbrev pub next_moment : List ℕ → ℕ → ℕ
next_moment [] last = last
next_moment (m ∷ ms) last = m

-- the moments that a clock in memory will give
abbrev pub clock_moments : MemClock → List ℕ
clock_moments c = drop c.at c.moments.items

-- the moment that it gave last, or 0
abbrev pub clock_last : MemClock → ℕ
clock_last c = c.last
