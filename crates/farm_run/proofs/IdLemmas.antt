-- How many ids are given.
use Rattle.std.proofs.Common.{◌+◌, ◌<◌, ◌^◌, List, length, arith}
use Rattle.std.proofs.lemmas.List.{length-map}
use Rattle.core_rules.specs.declared.start.Start.{Start}
use Rattle.core_rules.specs.declared.entry.CoreEntry.{CoreEntry}
use Rattle.core_rules.specs.Reservation.{bookings}
use Rattle.core_rules.specs.Laws.{IsLegal}
use Rattle.core_rules.proofs.SoundLemmas.{legal_ids}

-- the number of ids stays below 2 ^ 64
pub ids_fit : (start : Start) (log : List CoreEntry) → start.count < 2 ^ 64 → IsLegal start log
    → start.count + length (bookings log) < 2 ^ 64
ids_fit start log fits legal =
    let ids = (legal_ids start log fits legal).fits in
    omega (arith, ids, length-map (bookings log) (λ b. b.job))
