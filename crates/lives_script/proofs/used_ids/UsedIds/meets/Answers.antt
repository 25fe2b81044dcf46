use Rattle.std.proofs.Common.{ℕ, Option, None, Some, false, subst}
use Rattle.lives_script.specs.Used.{AreEnds}
use Rattle.lives_script.proofs.IdLemmas.{ids_from}
use Rattle.lives_script.proofs.UsedLemmas.{made_range, first_part, kept_meets, by_parts}
use Rattle.lives_script.proofs.used_ids.UsedIds.meets.Goals as goal

pub returns-then-has_between : goal.returns-then-has_between
returns-then-has_between c =
    let r = ids_from c.args.from c.args.count in
    let p = made_range c.args.from c.args.count c.ranges.from.fits c.requires.some c.ranges.count.fits in
    let at = c.has_between.ensures.some c.if-has_between.true in
    record {
      exact = λ rs keeps. kept_meets c.args.self.now.lasts rs r at.0 keeps p
          (first_part r c.ends_of-last.result.0 at.0 c.ends_of-last.result.1 p c.ends_of-last.ensures.ends at.1)
          at.2;
    }

pub returns-in-Some : goal.returns-in-Some
returns-in-Some c =
    let r = ids_from c.args.from c.args.count in
    let p = made_range c.args.from c.args.count c.ranges.from.fits c.requires.some c.ranges.count.fits in
    let ends = subst (λ (o : Option ℕ). AreEnds r c.ends_of-last.result.0 o) c.in-Some.is
    c.ends_of-last.ensures.ends in
    record {
      exact = λ rs keeps. by_parts c.args.self.now.lasts rs r c.ends_of-last.result.0 (Some c.in-Some.end)
          c.has_between-in-Some.result keeps p ends (c.has_between.ensures.none c.if-has_between.false)
          c.has_between-in-Some.ensures.some c.has_between-in-Some.ensures.none;
    }

pub returns-in-None : goal.returns-in-None
returns-in-None c =
    let r = ids_from c.args.from c.args.count in
    let p = made_range c.args.from c.args.count c.ranges.from.fits c.requires.some c.ranges.count.fits in
    let ends = subst (λ (o : Option ℕ). AreEnds r c.ends_of-last.result.0 o) c.in-None.is
    c.ends_of-last.ensures.ends in
    record {
      exact = λ rs keeps. by_parts c.args.self.now.lasts rs r c.ends_of-last.result.0 None false keeps p ends
          (c.has_between.ensures.none c.if-has_between.false) (λ e. absurd cc) (λ e id is covered. absurd is);
    }
