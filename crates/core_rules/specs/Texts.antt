-- Why no job was allocated, in words.
use Rattle.std.specs.Prelude.{ℕ, List, ◌++◌, codes}
use Rattle.std.specs.Fmt.{decimal}
use Rattle.dist_types.specs.declared.ids.JobId.{JobId}

-- no server has room, of so many that stand
abbrev pub no_room_text : ℕ → List ℕ
no_room_text standing = codes "Insufficient capacity across " ++ decimal standing ++ codes
    " available servers"

-- the job's reservation ended before its server answered
abbrev pub dropped_text : JobId → List ℕ
dropped_text job = codes "Job " ++ decimal job.0 ++ codes
    " assignment was cleaned up before allocation completed"
