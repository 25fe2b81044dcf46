-- The entries below a key are in their buckets, and no other is in any.
use Rattle.std.proofs.Common.{◌≡◌, length}
use Rattle.lru_metered.specs.Index.{hash_of, bucket_in, pairs_at, nexts, homes, below, Relinks, IsBucketed}
use Rattle.lru_metered.proofs.index.rehash.Given as goal

abbrev pub invariant-loop-at : goal.invariant-loop-at
invariant-loop-at g l = record {
  relinks : Relinks l.fn.nodes l.nodes;
  len : length l.heads.items ≡ l.buckets;
  bucketed : IsBucketed (nexts l.nodes.items)
      (below l.at (homes (λ k.
      bucket_in l.buckets (hash_of g.S.BuildHasher g.S.Hasher.Hasher l.hasher (g.K.Hash.hash_input k)))
      (pairs_at l.fn.nodes.items))) l.heads.items;
}
