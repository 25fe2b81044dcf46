use Rattle.std.proofs.Common.{◌≡◌, ℕ, ◌+◌, List, [], ◌∷◌, ◌++◌, length, take, string_bytes, refl, sym, ap, subst, ◌∙◌, arith}
use Rattle.std.proofs.lemmas.List.{take_more, length-take}
use Rattle.farm_run.specs.GoesOn.{next_site}
use Rattle.lives.specs.Lives.{base_of, given_before}
use Rattle.lives.proofs.LifeLemmas.{LivedSoFar, lived_none, lived_push, token_on, all_lived}
use Rattle.lives_script.specs.declared.script.Life.{Life}
use Rattle.lives.proofs.run.lives_of.Goals as goal
use lib.Seq.{take_all}

pub loop-number-init : goal.loop-number-init
loop-number-init c =
    lived_none c.args.script.now.setup c.in_ok-farm.farm (string_bytes c.new-out.result) c.requires.setup
    c.in_ok-farm.ensures.setup c.in_ok-farm.ensures.none c.in_ok-farm.ensures.own c.new-out.ensures.bytes

pub live-requires-clause-own : goal.live-requires-clause-own
live-requires-clause-own c = c.in_ok-next.ensures.own c.loop-number.invariant.own

pub live-requires-clause-token : goal.live-requires-clause-token
live-requires-clause-token c =
    token_on c.loop-number.farm c.in_ok-next.next _ _ c.loop-number.invariant.token
    (c.in_ok-next.ensures.setup c.loop-number.invariant.own)

pub loop-number-preserved : goal.loop-number-preserved
loop-number-preserved c =
    let n = c.loop-number.number in
    let lives = c.args.script.now.lives in
    let farm = c.loop-number.farm in
    let life = c.life-item.result in
    let items = c.get-life-items.result.now in
    let same = c.get-life-items.ensures.items in
    let less = c.loop-number-test.true in
    let more : take (n + 1) lives ≡ take n lives ++ life ∷ [] =
    subst (λ (ls : List Life). take (n + 1) ls ≡ take n ls ++ life ∷ []) same
    (take_more items n life less ∙ ap (λ (x : Life). take n items ++ x ∷ []) (sym c.life-item.is)) in
    let size : n ≡ length (take n lives) =
    subst (λ (ls : List Life). n ≡ length (take n ls)) same (omega (arith, length-take n items, less)) in
    let begins = c.in_ok-next.ensures.setup c.loop-number.invariant.own
    ∙ ap (λ (b : ℕ). next_site b c.given_before.result farm.setup farm.entries) c.base_of.ensures
    ∙ ap (λ (g : ℕ). next_site (base_of life.from life.count) g farm.setup farm.entries) c.given_before.ensures in
    subst (λ (ls : List Life). LivedSoFar c.args.script.now.setup ls c.in_ok-farm-2.farm
    (string_bytes c.live.new.out)) (sym more)
    (lived_push c.args.script.now.setup (take n lives) farm c.in_ok-next.next c.in_ok-farm-2.farm
    (string_bytes c.loop-number.out) (string_bytes c.live.new.out) life n c.loop-number.invariant size begins
    c.in_ok-farm-2.ensures.setup c.in_ok-farm-2.ensures.own c.in_ok-farm-2.ensures.lived
    c.in_ok-farm-2.ensures.text)

pub returns-clause-text : goal.returns-clause-text
returns-clause-text c =
    let n = c.loop-number.number in
    let lives = c.args.script.now.lives in
    let past = c.loop-number-test.false in
    let all : take n lives ≡ lives =
    subst (λ (ls : List Life). take n ls ≡ ls) c.get-life-items.ensures.items
    (take_all n c.get-life-items.result.now (omega (arith, past))) in
    let so : LivedSoFar c.args.script.now.setup lives c.loop-number.farm (string_bytes c.loop-number.out) =
    subst (λ (ls : List Life). LivedSoFar c.args.script.now.setup ls c.loop-number.farm
    (string_bytes c.loop-number.out)) all c.loop-number.invariant in
    let are = all_lived c.args.script.now c.loop-number.farm (string_bytes c.loop-number.out) so in
    record {
      lived = so.lived;
      are = are;
      once = c.no_id_is_built_twice.ensures c.args.script.now so.lived c.requires.apart c.requires.ranges are;
      given = c.ids_are_given_in_order.ensures c.args.script.now so.lived c.requires.ranges are;
      is = so.is;
    }
