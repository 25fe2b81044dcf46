-- Each legal log is lawful.
use Rattle.std.proofs.Common.{◌<◌, ◌^◌, List}
use Rattle.core_rules.specs.declared.start.Start.{Start}
use Rattle.core_rules.specs.declared.entry.CoreEntry.{CoreEntry}
use Rattle.core_rules.specs.Laws.{IsLegal, IsLawful}
use Rattle.core_rules.proofs.SoundLemmas.{legal_distinct}
use Rattle.core_rules.proofs.OnceLemmas.{legal_all}
use Rattle.core_rules.proofs.HeldLemmas.{legal_standing, legal_once}
use Rattle.core_rules.proofs.EndLemmas.{legal_ends}
use Rattle.core_rules.proofs.AddressLemmas.{legal_apart}
use Rattle.core_rules.proofs.RoomLemmas.{legal_bounded}
use Rattle.core_rules.proofs.PickLemmas.{legal_fair}
use Rattle.core_rules.proofs.JobLemmas.{legal_jobs}

pub legal_lawful : (start : Start) (log : List CoreEntry) → start.count < 2 ^ 64 → IsLegal start log
    → IsLawful log
legal_lawful start log fits legal =
    let once = legal_all start log fits legal in
    record {
      ids = legal_distinct start log fits legal;
      spent_once = once.spent;
      ended_once = once.ended;
      at_standing = legal_standing start log fits legal;
      committed_once = once.sound.committed;
      in_order = once.order;
      open_held = legal_once start log fits legal;
      registered_once = legal_ends start log fits legal;
      one_each = legal_apart start log legal;
      bounded = legal_bounded start log fits legal;
      fair = legal_fair start log fits legal;
      job_rows = legal_jobs start log fits legal;
    }
