use Rattle.std.proofs.Common.{◌≡◌, drop}
use Rattle.audit.specs.Reading.{read_of}
use Rattle.audit.specs.Replay.{judge_all}
use Rattle.audit.specs.Kept.{IsKeptOf}
use Rattle.audit.specs.Verdict.{start_of}
use Rattle.audit.proofs.audit.by_marks.Given as goal

abbrev pub invariant-loop-mark : goal.invariant-loop-mark
invariant-loop-mark l = record {
  same : judge_all (record { core = l.replay.state; built = l.replay.kept.built.items }) (drop l.mark-index l.fn.r.marks.items)
      ≡ judge_all (start_of (read_of l.fn.r)) l.fn.r.marks.items;
  kept : IsKeptOf l.replay.kept l.replay.state;
}
