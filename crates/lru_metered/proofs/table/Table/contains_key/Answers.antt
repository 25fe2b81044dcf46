use Rattle.std.proofs.Common.{sym, ◌∙◌, subst}
use Rattle.lru_metered.specs.Index.{hash_of, IsIndexed}
use Rattle.lru_metered.specs.declared.index.Found.{Found}
use Rattle.lru_metered.proofs.TableLemmas.{lookup-is}
use Rattle.lru_metered.proofs.table.Table.contains_key.Goals as goal

pub find-requires : goal.find-requires
find-requires g c =
    let hash = λ (l : g.row.K.Denot). hash_of g.S.BuildHasher g.S.Hasher.Hasher c.self.inside.hasher
    (g.K.Hash.hash_input l) in
    subst (λ h. IsIndexed hash c.self.inside.nodes.items h)
    (sym c.as_slice.ensures.value) c.self.invariant.indexed

pub returns : goal.returns
returns g c =
    let t = c.self.invariant in let nodes = c.self.inside.nodes in let heads = c.self.inside.heads.items
    in let k = c.args.key.now in
    let eq = g.K.PartialEq.eq in let law = g.met.K.Eq.laws in
    let hash = λ (l : g.row.K.Denot). hash_of g.S.BuildHasher g.S.Hasher.Hasher c.self.inside.hasher
    (g.K.Hash.hash_input l) in
    rw (← c.self.view_is) (c.is_some.ensures ∙ lookup-is eq hash law nodes heads t k
    (λ (f : Found). f.at) c.find.result c.find.ensures.matches c.find.ensures.absent)
