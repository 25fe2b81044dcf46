-- A get over a far side that answers by the route follows the rule.
use Rattle.std.proofs.Common.{◌≡◌, ℕ, inl, inr, true, List, length, Option, Some, None, Result, Ok, Err, ap}
use Rattle.std.specs.List.{list_all}
use Rattle.dist_types.specs.Toolchain.{is_lower_hex}
use Rattle.dist_types.specs.declared.dialer.Asked.{Asked}
use Rattle.dist_types.specs.declared.dialer.AskFault.{AskFault}
use Rattle.folders.specs.Held.{Held}
use Rattle.http_head.specs.WrittenRequest.{request_text}
use Rattle.toolchain_cache.specs.Archives.{ArchiveStore}
use Rattle.mirror.specs.Asking.{Ask, IsAskedFor}
use Rattle.mirror.specs.Caches.{Cache, told_of}
use Rattle.mirror.specs.Far.{FarParts, far_of, AsksFarOrNot, FarAsks}
use Rattle.mirror.specs.Getting.{Answer, Parts, Gets, GetsBy, AfterNear, near_of}
use Rattle.mirror.specs.Question.{mirror_question}
use Rattle.mirror.specs.Rule.{AnswersByRoute, RulesBy, AsOneBy}
use Rattle.mirror.specs.declared.error.MirrorError.{MirrorError}
use Rattle.mirror.proofs.AsOneLemmas.{answers_as_one}
use Rattle.mirror.proofs.RoutedLemmas.{rule_followed}

-- a get stays one where what is said of its ask says more
module _ (U V : Type 0) (A B : Result (List ℕ) AskFault → Type 0) (unasked : U → V)
    (asked : (heard : Result (List ℕ) AskFault) → A heard → B heard) (id : List ℕ) where
  near_more : (near : Result (Option (List ℕ)) MirrorError) (answer : Answer) (old new : Cache)
      → AfterNear U A id near answer old new → AfterNear V B id near answer old new
  near_more (Ok (Some bytes)) answer old new h = (h.0, h.1, unasked h.2)
  near_more (Ok None) answer old new h =
      record { heard = h.heard; asks = asked h.heard h.asks; follows = h.follows }
  near_more (Err e) answer old new h = (h.0, h.1, unasked h.2)

  gets_more : (answer : Answer) (old new : Cache) → Gets U A id answer old new → Gets V B id answer old new
  gets_more answer old new g = record {
    found = g.found;
    between = g.between;
    looks = g.looks;
    follows = near_more (near_of g.found) answer g.between new g.follows;
  }

module _ {F D : Type 0} (held : F → Held) (asked : D → Option (List Asked)) (faults : D → ℕ) (asks : Ask D)
    (id : List ℕ) (long : length id ≡ 64) (lower : list_all is_lower_hex id ≡ true) (answer : Answer)
    (old new : Parts F D) (g : GetsBy held asked faults asks id answer old new) where
  pub rules_by : RulesBy held asked faults asks id answer old new
  rules_by far behind routed =
      rule_followed old.host old.port id long lower answer (told_of held old.near) (told_of held new.near) far behind
      (gets_more (new.dialer ≡ old.dialer) (behind ≡ far)
      (IsAskedFor asked faults asks old.host old.port id old.dialer new.dialer)
      (AsksFarOrNot (request_text (mirror_question old.host old.port id)) far behind) routed.unasked routed.heard
      id answer (told_of held old.near) (told_of held new.near) g.gets)

  pub as_one_by : AsOneBy held asked faults asks id answer old new
  as_one_by far behind routed =
      answers_as_one old.host old.port id answer (told_of held old.near) (told_of held new.near) far behind
      (rules_by far behind routed)

-- a dialer in memory answers by the route over its far cache
pub far_routed : {F G : Type 0} (held : G → Held) (asked : FarParts (ArchiveStore G) → Option (List Asked))
    (faults : FarParts (ArchiveStore G) → ℕ) (id : List ℕ) (old new : Parts F (FarParts (ArchiveStore G)))
    → AnswersByRoute asked faults (FarAsks held) id old new (far_of held old.dialer) (far_of held new.dialer)
far_routed held asked faults id old new = record {
  heard = λ heard a. elim a.knows [ inl x ↦ inl x | inr x ↦ inr (x.0, ap (far_of held) x.1) ];
  unasked = λ same. ap (far_of held) same;
}
