-- What is done in the storm, by its place. `laws::deeds_by_place` says that it is the same.
use Rattle.std.specs.Prelude.{ℕ, ◌+◌, ◌-◌, ◌*◌, ◌/◌, ◌%◌, ◌==◌, nat_lt, if◌then◌else◌}
use Rattle.farm_storm.specs.declared.deed.Deed.{Deed}
use Rattle.farm_storm.specs.declared.deed.Deed.TheVariants.{Beat, Alloc, Submit, Run, Status, Deliver, Return}

-- what is begun, and then by turns the delivery of a call and its return
abbrev pub turn : Deed → ℕ → Deed
turn deed place = if place == 0 then deed else if place % 2 == 1 then Deliver else Return

-- at a place of a round
unfoldable pub deed_in_round : ℕ → ℕ → Deed
deed_in_round round place =
    if nat_lt place 48 then turn (Alloc round) (place % 3)
    else if nat_lt place 96 then turn (Submit (16 * round + (place - 48) / 3)) (place % 3)
    else if nat_lt place 176 then turn (Run (16 * round + (place - 96) / 5)) ((place - 96) % 5)
    else if nat_lt place 200 then turn (Beat ((place - 176) / 3)) ((place - 176) % 3)
    else Status

-- at a place of the storm
unfoldable pub deed_at : ℕ → Deed
deed_at place = if nat_lt place 24 then turn (Beat (place / 3)) (place % 3)
    else deed_in_round ((place - 24) / 201) ((place - 24) % 201)
