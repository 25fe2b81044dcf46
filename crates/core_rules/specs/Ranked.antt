-- The keys by which registrations are ranked.
use Rattle.std.specs.Prelude.{ℕ, Option, Some, None, if◌then◌else◌}
use Rattle.row_index.specs.declared.keys.LoadKey.{LoadKey}
use Rattle.row_index.specs.declared.keys.MomentKey.{MomentKey}
use Rattle.core_rules.specs.declared.rows.ServerRow.{ServerRow}
use Rattle.core_rules.specs.Pick.{has_room}

-- its load, its processors and its number, where it has room
abbrev pub load_if_room : ServerRow → Option LoadKey
load_if_room r = if has_room r then Some (record { load = r.load; cpus = r.cpus; number = r.reg }) else None

-- the same, where it has no remembered error
abbrev pub load_key_by : Option ℕ → ServerRow → Option LoadKey
load_key_by None r = load_if_room r
load_key_by (Some moment) r = None

abbrev pub load_key_of : ServerRow → Option LoadKey
load_key_of r = load_key_by r.error r

-- the moment of its remembered error and its number, where it has one and room
abbrev pub error_key_by : Option ℕ → ServerRow → Option MomentKey
error_key_by None r = None
error_key_by (Some moment) r = if has_room r then Some (record { moment = moment; number = r.reg }) else None

abbrev pub error_key_of : ServerRow → Option MomentKey
error_key_of r = error_key_by r.error r

-- the moment of its last sign and its number
abbrev pub sign_key_of : ServerRow → Option MomentKey
sign_key_of r = Some (record { moment = r.seen; number = r.reg })
