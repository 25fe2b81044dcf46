use Rattle.std.proofs.Common.{ℕ, Option, subst}
use Rattle.std.proofs.lemmas.Result.{on_ok_weaker}
use Rattle.lives_script.specs.Used.{AreEnds}
use Rattle.lives_script.proofs.IdLemmas.{ids_from}
use Rattle.lives_script.proofs.UsedLemmas.{made_range, first_part, second_free, one_part, two_parts, keeps_more}
use Rattle.lives_script.proofs.used_ids.UsedIds.add.Goals as goal

pub add_between-requires-clause-free : goal.add_between-requires-clause-free
add_between-requires-clause-free c =
    let r = ids_from c.args.from c.args.count in
    let p = made_range c.args.from c.args.count c.ranges.from.fits c.requires.some c.ranges.count.fits in
    λ id is covered. c.requires.free id
    (first_part r c.ends_of-last.result.0 id c.ends_of-last.result.1 p c.ends_of-last.ensures.ends is) covered

pub add_between-requires-in-Some-clause-free : goal.add_between-requires-in-Some-clause-free
add_between-requires-in-Some-clause-free c =
    let r = ids_from c.args.from c.args.count in
    let p = made_range c.args.from c.args.count c.ranges.from.fits c.requires.some c.ranges.count.fits in
    let ends = subst (λ (o : Option ℕ). AreEnds r c.ends_of-last.result.0 o) c.in-Some.is
    c.ends_of-last.ensures.ends in
    second_free r c.ends_of-last.result.0 c.in-Some.end c.args.self.now.lasts c.add_between.new.self.lasts p ends
    c.in_ok-add_between.ensures.added c.requires.free

pub returns-in-Some : goal.returns-in-Some
returns-in-Some c =
    let r = ids_from c.args.from c.args.count in
    let p = made_range c.args.from c.args.count c.ranges.from.fits c.requires.some c.ranges.count.fits in
    let ends = subst (λ (o : Option ℕ). AreEnds r c.ends_of-last.result.0 o) c.in-Some.is
    c.ends_of-last.ensures.ends in
    record {
      kept = on_ok_weaker c.add_between-in-Some.result
          (λ more rs keeps. keeps_more c.args.self.now.lasts c.add_between-in-Some.new.self.lasts rs r p
          (two_parts r c.ends_of-last.result.0 c.in-Some.end c.args.self.now.lasts c.add_between.new.self.lasts
          c.add_between-in-Some.new.self.lasts p ends c.in_ok-add_between.ensures.added more) keeps)
          c.add_between-in-Some.ensures.added;
    }

pub returns-in-None : goal.returns-in-None
returns-in-None c =
    let r = ids_from c.args.from c.args.count in
    let p = made_range c.args.from c.args.count c.ranges.from.fits c.requires.some c.ranges.count.fits in
    let ends = subst (λ (o : Option ℕ). AreEnds r c.ends_of-last.result.0 o) c.in-None.is
    c.ends_of-last.ensures.ends in
    record {
      kept = λ rs keeps. keeps_more c.args.self.now.lasts c.add_between.new.self.lasts rs r p
          (one_part r c.ends_of-last.result.0 c.args.self.now.lasts c.add_between.new.self.lasts p ends
          c.in_ok-add_between.ensures.added) keeps;
    }
