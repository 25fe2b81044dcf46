-- What is done in the storm, in order.
use Rattle.std.specs.Prelude.{ℕ, ◌+◌, ◌*◌, List, [], ◌∷◌, ◌++◌, take, flat_map}
use Rattle.std.specs.List.{range_with_len}
use Rattle.farm_storm.specs.declared.deed.Deed.{Deed}
use Rattle.farm_storm.specs.declared.deed.Deed.TheVariants.{Beat, Alloc, Submit, Run, Status, Deliver, Return}

-- what makes a call: the call is delivered, and the delivery comes back
abbrev pub once : Deed → List Deed
once deed = deed ∷ Deliver ∷ Return ∷ []

-- what makes two calls, the second as the first comes back
abbrev pub twice : Deed → List Deed
twice deed = deed ∷ Deliver ∷ Return ∷ Deliver ∷ Return ∷ []

-- the heartbeats of the eight build servers
abbrev pub beats : List Deed
beats = flat_map (λ k. once (Beat k)) (range_with_len 0 8)

-- the same of each of the sixteen jobs of a round
abbrev pub of_jobs : ℕ → (ℕ → List Deed) → List Deed
of_jobs round deeds = flat_map (λ q. deeds (16 * round + q)) (range_with_len 0 16)

-- a round: sixteen jobs are asked for, the round's archive is brought under each, each is run; then the
-- heartbeats, and one status request
unfoldable pub round_deeds : ℕ → List Deed
round_deeds round = of_jobs round (λ job. once (Alloc round)) ++ of_jobs round
    (λ job. once (Submit job)) ++ of_jobs round (λ job. twice (Run job)) ++ beats ++ Status ∷ []

-- the first so many: the heartbeats, and then round after round
unfoldable pub storm_deeds : ℕ → List Deed
storm_deeds n = take n (beats ++ flat_map round_deeds (range_with_len 0 n))
