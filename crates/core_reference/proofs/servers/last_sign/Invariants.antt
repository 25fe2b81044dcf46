use Rattle.std.proofs.Common.{◌≡◌, ◌++◌, ◌∷◌, [], take, drop}
use Rattle.std.specs.List.{filter_map}
use Rattle.core_rules.specs.Standing.{ended}
use Rattle.core_reference.specs.Plain.{job_at}
use Rattle.core_reference.proofs.SignLemmas.{sign_from}
use Rattle.core_reference.proofs.servers.last_sign.Given as goal

-- the jobs and the end so far, and the last sign of what is left
abbrev pub invariant-loop-e : goal.invariant-loop-e
invariant-loop-e l = record {
  jobs : l.jobs.items ≡ filter_map (λ e. job_at e.kind l.row.reg)
      ((l.before ++ l.step ∷ []) ++ take l.e-index l.later);
  over : l.over ≡ ended (take l.e-index l.later) l.row.reg;
  left : sign_from l.row.server l.row.reg (l.before ++ l.step ∷ []) l.seen (take l.e-index l.later)
      (drop l.e-index l.later)
      ≡ sign_from l.row.server l.row.reg (l.before ++ l.step ∷ []) l.row.seen [] l.later;
}
