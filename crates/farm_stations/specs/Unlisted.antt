-- Folders in memory none of whose calls is to fail.
use Rattle.std.specs.Prelude.{◌≡◌, ℕ, false, List, []}
use Rattle.folders.specs.Numbers.{fails_before, fails_after, piece_fails, piece_breaks}
use Rattle.folders.specs.declared.calls.Calls.{Calls}

-- no call is listed as one that is to fail
pub record NoneListed (calls : Calls) : Type 0 where
  pub before : calls.before.items ≡ []
  pub after : calls.after.items ≡ []
  pub middle : calls.middle.items ≡ []

-- the next call does not fail: neither before what it does, nor in the middle of any bytes, nor behind that
pub record FailsNowhere (calls : Calls) : Type 0 where
  pub before : fails_before calls ≡ false
  pub after : fails_after calls ≡ false
  pub piece : (bytes : List ℕ) → piece_fails calls bytes ≡ false
  pub breaks : piece_breaks calls ≡ false
