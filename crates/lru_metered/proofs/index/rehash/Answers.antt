use Rattle.std.proofs.Common.{◌≡◌, ◌+◌, None, length, replicate, sym, ap, ◌∙◌, subst, arith, get_or}
use Rattle.std.proofs.lemmas.List.{with_items_is, length-replicate}
use Rattle.lru_metered.specs.Index.{hash_of, bucket_in, pairs_at, nexts, homes, below, placed, IsBucketed}
use Rattle.lru_metered.proofs.TableLemmas.{relinks-none, rehash-start, rehash-step, rehash-end}
use Rattle.lru_metered.proofs.TableLemmas.{none-replicated}
use Rattle.lru_metered.proofs.ListingLemmas.{relinks-then}
use Rattle.lru_metered.proofs.index.rehash.Goals as goal

pub loop-at-init : goal.loop-at-init
loop-at-init g c =
    let hash = λ (k : g.row.K.Denot). hash_of g.S.BuildHasher g.S.Hasher.Hasher c.args.hasher.now
    (g.K.Hash.hash_input k) in
    let all : c.in_ok-heads.heads.items ≡ replicate c.args.buckets None = c.in_ok-heads.ensures.items in
    record {
      relinks = relinks-none c.args.nodes.now;
      len = ap length all ∙ length-replicate c.args.buckets None;
      bucketed = rehash-start (nexts c.args.nodes.now.items)
          (homes (λ k. bucket_in c.args.buckets (hash k)) (pairs_at c.args.nodes.now.items))
          c.in_ok-heads.heads.items (λ b. ap (λ h. get_or h b None) all ∙ none-replicated c.args.buckets b);
    }

pub loop-at-preserved : goal.loop-at-preserved
loop-at-preserved g c =
    let hash = λ (k : g.row.K.Denot). hash_of g.S.BuildHasher g.S.Hasher.Hasher c.args.hasher.now
    (g.K.Hash.hash_input k) in
    let first = c.args.nodes.now in let now = c.loop-at.nodes in let new = c.hook_at.new.nodes in let heads =
    c.loop-at.heads.items in
    let is = with_items_is c.loop-at.heads c.hook_at.new.heads
    (c.hook_at.ensures.len ∙ c.as_mut_slice.ensures.len) in
    let count : length c.as_mut_slice.result.now ≡ c.args.buckets = ap length c.as_mut_slice.ensures.value
    ∙ c.loop-at.invariant.len in
    let place = λ (k : g.row.K.Denot). bucket_in c.args.buckets (hash k) in
    record {
      relinks = relinks-then first now new c.loop-at.invariant.relinks c.hook_at.ensures.relinks;
      len = ap length is ∙ (c.hook_at.ensures.len ∙ count);
      bucketed = subst (λ h. IsBucketed (nexts new.items)
          (below (c.loop-at.at + 1) (homes place (pairs_at first.items))) h) (sym is)
          (rehash-step place first now new heads c.hook_at.new.heads c.loop-at.at c.loop-at.invariant.relinks
          c.loop-at.invariant.bucketed
          (λ home old out. subst (λ n. IsBucketed (nexts new.items)
          (placed c.loop-at.at (homes (λ k. bucket_in n (hash k)) (pairs_at now.items) c.loop-at.at) home)
          c.hook_at.new.heads) count
          (c.hook_at.ensures.bucketed home
          (subst (IsBucketed (nexts now.items) home) (sym c.as_mut_slice.ensures.value) old) out)));
    }

pub returns-clause-indexed : goal.returns-clause-indexed
returns-clause-indexed g c =
    let hash = λ (k : g.row.K.Denot). hash_of g.S.BuildHasher g.S.Hasher.Hasher c.args.hasher.now
    (g.K.Hash.hash_input k) in
    rehash-end hash c.args.nodes.now c.loop-at.nodes c.loop-at.heads.items c.args.buckets c.loop-at.at
    c.loop-at.invariant.len c.loop-at.invariant.relinks
    (λ x past. c.key_bound-at-end.ensures x (omega (arith, past))) c.loop-at.invariant.bucketed
