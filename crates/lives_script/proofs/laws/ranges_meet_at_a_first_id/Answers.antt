use Rattle.lives_script.proofs.IdLemmas.{meets_sound, meets_complete}
use Rattle.lives_script.proofs.laws.ranges_meet_at_a_first_id.Goals as goal

pub returns : goal.returns
returns c = λ r s p q. (meets_sound r s p q, meets_complete r s p q)
