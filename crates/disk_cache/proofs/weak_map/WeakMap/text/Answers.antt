use Rattle.std.proofs.Common.{Some, ap, ◌∙◌}
use Rattle.serde_json.specs.View.{view}
use Rattle.disk_cache.proofs.JsonLemmas.{has_texts, object_depth, written_reads, empty_written}
use Rattle.disk_cache.proofs.weak_map.WeakMap.text.Goals as goal

pub returns-clause-reads : goal.returns-clause-reads
returns-clause-reads c =
    written_reads c.in_ok-text.text.items (view c.self.inside.value) _ c.in_ok-text.ensures.utf8
    (c.in_ok-text.ensures.reads_back
    (object_depth (view c.self.inside.value) _ (has_texts _ c.self.invariant)))
    (has_texts _ c.self.invariant)
    ∙ ap Some c.self.view_is

pub returns-clause-empty : goal.returns-clause-empty
returns-clause-empty c = λ none.
    empty_written (view c.self.inside.value) c.in_ok-text.text.items
    (has_texts _ c.self.invariant ∙ ap Some (c.self.view_is ∙ none)) c.in_ok-text.ensures.text
