use Rattle.std.proofs.Common.{nat_eq, Some, length, sym, ap, subst, ◌∙◌, ℕ}
use Rattle.row_index.specs.Lookup.{Puts}
use Rattle.quota_run.specs.Hand.{found_at, AreFound}
use Rattle.quota_run.proofs.HandLemmas.{added, added_are}
use Rattle.quota_run.proofs.hand.Hand.add.Goals as goal

pub invariant_of-self : goal.invariant_of-self
invariant_of-self c =
    let s = c.self.inside in
    let new = c.put.new.self.entries in
    let puts : Puts nat_eq c.args.r.job.0 (Some (length s.held.items)) s.places.entries new =
    subst (λ j. Puts nat_eq j.0 (Some (length s.held.items)) s.places.entries new) c.job_id-job.ensures.job
    (subst (λ (n : ℕ). Puts nat_eq c.job_id-job.result.0 (Some n) s.places.entries new)
    (c.len-place.ensures ∙ s.held.ok.0) c.put.ensures.values) in
    subst (AreFound new) (sym c.push_held.ensures.held)
    (added_are s.places.entries new s.held.items c.args.r c.self.invariant puts)

pub returns : goal.returns
returns c =
    let s = c.self.inside in
    let new = c.put.new.self.entries in
    let puts : Puts nat_eq c.args.r.job.0 (Some (length s.held.items)) s.places.entries new =
    subst (λ j. Puts nat_eq j.0 (Some (length s.held.items)) s.places.entries new) c.job_id-job.ensures.job
    (subst (λ (n : ℕ). Puts nat_eq c.job_id-job.result.0 (Some n) s.places.entries new)
    (c.len-place.ensures ∙ s.held.ok.0) c.put.ensures.values) in
    record {
      added = λ job. rw (← c.self.view_is) (ap (λ h. found_at new h job) c.push_held.ensures.held
          ∙ added s.places.entries new s.held.items c.args.r job c.self.invariant puts);
    }
