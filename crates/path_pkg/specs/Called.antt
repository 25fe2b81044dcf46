-- How often a packager was called.
use Rattle.std.specs.Prelude.{◌≡◌, ℕ, Option}
use Rattle.std.specs.Option.{option_map}
use Rattle.dist_types.specs.Cause.{counted}

-- it was called once more, where it tells how often it was called; that count stops at 2^64 - 1
abbrev pub CalledOnce : Option ℕ → Option ℕ → Type 0
CalledOnce old new = new ≡ option_map counted old
