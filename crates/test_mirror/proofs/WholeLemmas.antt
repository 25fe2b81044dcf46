-- What is replied to a request whose body was dropped.
use Rattle.std.proofs.Common.{◌≡◌, refl, subst, inl, inr}
use Rattle.std.specs.Prelude.{⊤}
use Rattle.http_connections.specs.Served.{MadeReply}
use Rattle.http_connections.proofs.ConnectionLemmas.{AsWhole}
use Rattle.mirror.specs.Caches.{Cache}
use Rattle.mirror.specs.Question.{id_asked}
use Rattle.mirror.specs.Routing.{AnswersFor}
use Rattle.test_mirror.specs.Mirrored.{IsMirrored}

-- the route asks for no body
pub mirrored_whole : (old new : Cache) (made : MadeReply) → AsWhole (λ _. ⊤) IsMirrored old new made
unfolding id_asked
mirrored_whole old new made whole taken (inl is) did =
    subst (λ r. AnswersFor (id_asked r) made old new) is did
mirrored_whole old new made whole taken (inr (settled, is)) did =
    let alone : id_asked taken ≡ id_asked whole = rw is refl in
    subst (λ id. AnswersFor id made old new) alone did
