use Rattle.std.proofs.Common.{◌≡◌, Some, length, sym, ap, ◌∙◌, rules}
use Rattle.lru_metered.specs.Index.{hash_of, bucket_in, pairs_at, nexts, homes}
use Rattle.lru_metered.proofs.SearchLemmas.{if-none, home-of, none-home}
use Rattle.lru_metered.proofs.index.find.Goals as goal

pub returns-then-is_empty-clause-absent : goal.returns-then-is_empty-clause-absent
returns-then-is_empty-clause-absent g c = λ x m.
    let items = c.args.nodes.now.items in let heads = c.args.heads.now in let k = c.args.key.now in
    let hash = λ (l : g.row.K.Denot). hash_of g.S.BuildHasher g.S.Hasher.Hasher c.args.hasher.now
    (g.K.Hash.hash_input l) in
    let place = λ (l : g.row.K.Denot). bucket_in (length heads) (hash l) in
    let none : length heads ≡ 0 = search rules in
    none-home (nexts items) (homes place (pairs_at items)) heads c.requires none x (place k)
    (home-of g.K.PartialEq.eq place (pairs_at items) k x
    (λ l e. ap (λ w. bucket_in (length heads)
    (hash_of g.S.BuildHasher g.S.Hasher.Hasher c.args.hasher.now w)) (g.met.K.Hash.respects_eq k l e)) m)

pub search-requires-clause-lists : goal.search-requires-clause-lists
search-requires-clause-lists g c = (c.requires.lists c.bucket_of.result, c.requires.runs c.bucket_of.result)

pub returns-clause-absent : goal.returns-clause-absent
returns-clause-absent g c =
    let items = c.args.nodes.now.items in let heads = c.args.heads.now in let k = c.args.key.now in let b =
    c.bucket_of.result in
    let hash = λ (l : g.row.K.Denot). hash_of g.S.BuildHasher g.S.Hasher.Hasher c.args.hasher.now
    (g.K.Hash.hash_input l) in
    let place = λ (l : g.row.K.Denot). bucket_in (length heads) (hash l) in
    let at : place k ≡ b = sym c.bucket_of.ensures.place in
    if-none c.search.result (λ all x m. all (c.requires.lists b) x (c.requires.runs b)
    ((c.requires.members b x).1
    (home-of g.K.PartialEq.eq place (pairs_at items) k x
    (λ l e. ap (λ w. bucket_in (length heads)
    (hash_of g.S.BuildHasher g.S.Hasher.Hasher c.args.hasher.now w)) (g.met.K.Hash.respects_eq k l e)) m
    ∙ ap (λ n. Some n) at)) m)
    c.search.ensures.absent
