use Rattle.std.proofs.Common.{[], ◌∷◌, ◌++◌, sym, ap, ◌∙◌, subst}
use Rattle.std.specs.Map.{lookup}
use Rattle.std.proofs.lemmas.List.{with_items_is}
use Rattle.lru_metered.specs.Index.{hash_of, bucket_in}
use Rattle.lru_metered.specs.Listing.{IsTable}
use Rattle.lru_metered.proofs.ListingLemmas.{pairs-relinked}
use Rattle.lru_metered.proofs.TableLemmas.{table-relinked, table-slots, table-pushed, pairs-pushed}
use Rattle.lru_metered.proofs.TableLemmas.{absent-keys}
use Rattle.lru_metered.proofs.table.Table.put_new.Goals as goal
use Rattle.lru_metered.proofs.table.Table.put_new.Goals.{in-Ok, in-Err}

pub invariant_of-self-2 : goal.invariant_of-self-2
invariant_of-self-2 g c =
    let t = c.self.invariant in let nodes = c.self.inside.nodes in let heads = c.self.inside.heads.items in
    let eq = g.K.PartialEq.eq in let law = g.met.K.Eq.laws in
    let hash = λ (l : g.row.K.Denot). hash_of g.S.BuildHasher g.S.Hasher.Hasher c.self.inside.hasher
    (g.K.Hash.hash_input l) in
    let mid = c.widen.new.nodes in let new = c.push.new.nodes in let slice = c.as_mut_slice.result.now in
    let wide : IsTable eq hash mid slice = subst (λ h. IsTable eq hash mid h)
    (sym c.as_mut_slice.ensures.value)
    (table-relinked eq hash nodes mid heads c.widen.new.heads.items t c.widen.ensures.relinks
    c.widen.ensures.indexed) in
    let pairs = pairs-relinked nodes mid c.widen.ensures.relinks ∙ c.self.view_is in
    let k = c.args.key in
    let bucket = c.bucket_of-bucket.ensures.place ∙ ap (λ n. bucket_in n (hash k))
    (c.len.ensures ∙ sym c.as_mut_slice.ensures.len) in
    let absent = absent-keys eq hash law mid slice wide k (ap (lookup (eq k)) pairs ∙ c.requires) in
    subst (λ h. IsTable eq hash new h)
    (sym (with_items_is c.widen.new.heads c.push.new.heads
    (c.push.ensures.len ∙ c.as_mut_slice.ensures.len)))
    (elim c.match-push.branch [
      | in-Ok w ↦ table-pushed eq hash law mid new slice c.push.new.heads c.bucket_of-bucket.result k
          c.args.value wide c.push.ensures.len bucket absent w.in-Ok.ensures.pushed
      | in-Err w ↦ subst (λ h. IsTable eq hash new h) (sym w.in-Err.ensures.err.1)
          (table-slots eq hash mid new slice wide w.in-Err.ensures.err.0)
    ])

pub returns-clause-pairs : goal.returns-clause-pairs
returns-clause-pairs g c =
    let t = c.self.invariant in let nodes = c.self.inside.nodes in let heads = c.self.inside.heads.items in
    let eq = g.K.PartialEq.eq in let law = g.met.K.Eq.laws in
    let hash = λ (l : g.row.K.Denot). hash_of g.S.BuildHasher g.S.Hasher.Hasher c.self.inside.hasher
    (g.K.Hash.hash_input l) in
    let mid = c.widen.new.nodes in let new = c.push.new.nodes in let slice = c.as_mut_slice.result.now in
    let wide : IsTable eq hash mid slice = subst (λ h. IsTable eq hash mid h)
    (sym c.as_mut_slice.ensures.value)
    (table-relinked eq hash nodes mid heads c.widen.new.heads.items t c.widen.ensures.relinks
    c.widen.ensures.indexed) in
    let pairs = pairs-relinked nodes mid c.widen.ensures.relinks ∙ c.self.view_is in
    elim c.match-push.branch [
      | in-Ok w ↦ rw w.result-is
          (pairs-pushed eq hash law mid new slice c.push.new.heads c.bucket_of-bucket.result
          (c.args.key, c.args.value) wide.full w.in-Ok.ensures.pushed
          ∙ ap (λ l. l ++ (c.args.key, c.args.value) ∷ []) pairs)
      | in-Err w ↦ rw w.result-is tt
    ]
