use Rattle.std.proofs.Common.{◌≡◌, ◌+◌, ◌/◌, ◌<◌, length, length-set, set, sym, ap, ◌∙◌, subst, arith}
use Rattle.row_index.specs.Matches.{leaves_of, entered, keys_of, IsOpen}
use Rattle.row_index.proofs.OpenLemmas.{opened}
use Rattle.row_index.proofs.TreeLemmas.{keys_len, set_done, tree_short}
use Rattle.row_index.proofs.winner_tree.WinnerTree.set.Goals as goal

pub climb-requires-clause-open : goal.climb-requires-clause-open
climb-requires-clause-open g c =
    let before = g.K.Key.before in let nodes = c.self.inside.nodes in let slots = c.self.inside.slots
    in let slot = c.args.slot in
    let own : length (keys_of slots nodes) ≡ slots =
    keys_len slots nodes (tree_short before (leaves_of nodes) slots nodes c.self.invariant) in
    let within : slot < slots = subst (λ n. slot < n) (ap (λ l. length l) (sym c.self.view_is) ∙ own)
    c.requires in
    let low : slot < leaves_of nodes = omega (arith, c.self.invariant.fits) in
    let written : c.put-old.new.self ≡ set nodes slot (entered slot c.args.key) = c.put-old.ensures.nodes
    ∙ ap (λ v. set nodes slot v) c.enter-entrant.ensures in
    let leaves : leaves_of nodes ≡ leaves_of c.put-old.new.self =
    ap (λ n. (n + 1) / 2) (sym
    (ap (λ l. length l) written ∙ length-set nodes slot (entered slot c.args.key))) in
    subst (λ l. IsOpen before l slot slot c.put-old.new.self) leaves
    (subst (λ l. IsOpen before (leaves_of nodes) slot slot l) (sym written)
    (opened before (leaves_of nodes) slot nodes c.args.key c.self.invariant.board low))

pub invariant_of-self : goal.invariant_of-self
invariant_of-self g c =
    let before = g.K.Key.before in let nodes = c.self.inside.nodes in let slots = c.self.inside.slots
    in let slot = c.args.slot in
    let own : length (keys_of slots nodes) ≡ slots =
    keys_len slots nodes (tree_short before (leaves_of nodes) slots nodes c.self.invariant) in
    let within : slot < slots = subst (λ n. slot < n) (ap (λ l. length l) (sym c.self.view_is) ∙ own)
    c.requires in
    let written : c.put-old.new.self ≡ set nodes slot (entered slot c.args.key) = c.put-old.ensures.nodes
    ∙ ap (λ v. set nodes slot v) c.enter-entrant.ensures in
    (set_done before slots slot nodes c.put-old.new.self c.climb.new.nodes c.args.key c.self.invariant within
    written c.climb.ensures.len c.climb.ensures.leaves c.climb.ensures.played).0

pub returns-clause-keys : goal.returns-clause-keys
returns-clause-keys g c =
    let before = g.K.Key.before in let nodes = c.self.inside.nodes in let slots = c.self.inside.slots
    in let slot = c.args.slot in
    let own : length (keys_of slots nodes) ≡ slots =
    keys_len slots nodes (tree_short before (leaves_of nodes) slots nodes c.self.invariant) in
    let within : slot < slots = subst (λ n. slot < n) (ap (λ l. length l) (sym c.self.view_is) ∙ own)
    c.requires in
    let written : c.put-old.new.self ≡ set nodes slot (entered slot c.args.key) = c.put-old.ensures.nodes
    ∙ ap (λ v. set nodes slot v) c.enter-entrant.ensures in
    rw (← c.self.view_is) (set_done before slots slot nodes c.put-old.new.self c.climb.new.nodes c.args.key
    c.self.invariant within written c.climb.ensures.len c.climb.ensures.leaves c.climb.ensures.played).1
