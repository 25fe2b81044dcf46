-- A link whose first bytes were read before.
use Rattle.std.specs.Prelude.{ℕ, List, ◌++◌, drop, Option}
use Rattle.std.specs.Option.{option_map}
use Rattle.http_connections.specs.declared.begun_link.BegunLink.{BegunLink}

-- what is left: the rest of the bytes that were read before, and then what the link has left, where it tells
abbrev pub left_of : {L : Type 0} → (L → Option (List ℕ)) → BegunLink L → Option (List ℕ)
left_of left l = option_map (λ rest. drop l.at l.begun.items ++ rest) (left l.link)

-- the link behind them
abbrev pub link_of : {L : Type 0} → BegunLink L → L
link_of l = l.link
