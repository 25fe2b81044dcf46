use Rattle.std.proofs.Common.{◌<◌, ◌++◌, ap, sym, ◌∙◌, arith}
use Rattle.listed_files.specs.Arriving.{paths_of}
use Rattle.listed_files.specs.Disk.{dropped, without_key}
use Rattle.listed_files.specs.Entries.{total}
use Rattle.listed_files.proofs.Cuts.{none_left, distinct_rest, passed, one_less, path_too}
use Rattle.listed_files.proofs.storing.paths_to_drop.Goals as goal

pub returns-then-rest-limit : goal.returns-then-rest-limit
returns-then-rest-limit c =
    none_left c.args.root.now c.args.key.now c.args.limit c.loop-listed.paths.items _ c.loop-listed.rest
    c.loop-listed.listed-iterator c.loop-listed.invariant.0 (omega (arith, c.if-rest-limit.true))
    c.loop-listed.invariant.2

pub overflow_sub-rest : goal.overflow_sub-rest
overflow_sub-rest c =
    omega (
      arith,
      c.loop-listed.invariant.0,
      one_less c.args.key.now c.args.limit c.in-Some.listed.now c.in-Some.size.now c.loop-listed.listed-iterator
          c.next.new.self c.in-Some.ensures.steps (sym c.eq.ensures ∙ c.if-eq.false),
    )

pub loop-listed-preserved-then-eq : goal.loop-listed-preserved-then-eq
loop-listed-preserved-then-eq c =
    let same = passed c.args.key.now c.args.limit c.in-Some.listed.now c.in-Some.size.now
    c.loop-listed.listed-iterator c.next.new.self c.in-Some.ensures.steps (sym c.eq.ensures ∙ c.if-eq.true)
    c.loop-listed.invariant.1 in (
      c.loop-listed.invariant.0 ∙ ap total same,
      distinct_rest c.args.key.now c.args.limit c.in-Some.listed.now c.in-Some.size.now
          c.loop-listed.listed-iterator c.next.new.self c.in-Some.ensures.steps c.loop-listed.invariant.1,
      ap (λ l. c.loop-listed.paths.items ++ paths_of c.args.root.now (dropped c.args.limit l)) (sym same)
          ∙ c.loop-listed.invariant.2,
    )

pub loop-listed-preserved : goal.loop-listed-preserved
loop-listed-preserved c =
    let other = sym c.eq.ensures ∙ c.if-eq.false in
    let less = one_less c.args.key.now c.args.limit c.in-Some.listed.now c.in-Some.size.now
    c.loop-listed.listed-iterator c.next.new.self c.in-Some.ensures.steps other in
    let over : c.args.limit < total (without_key c.args.key.now c.loop-listed.listed-iterator) =
    omega (arith, c.loop-listed.invariant.0, c.if-rest-limit.false) in (
      omega (arith, c.loop-listed.invariant.0, less),
      distinct_rest c.args.key.now c.args.limit c.in-Some.listed.now c.in-Some.size.now
          c.loop-listed.listed-iterator c.next.new.self c.in-Some.ensures.steps c.loop-listed.invariant.1,
      path_too c.args.key.now c.args.limit c.in-Some.listed.now c.in-Some.size.now
          c.loop-listed.listed-iterator c.next.new.self c.in-Some.ensures.steps c.args.root.now
          c.in_ok-path.path c.loop-listed.paths.items c.push.new.self.items _ other over
          c.in_ok-path.ensures.path c.in-Ok.ensures.items c.loop-listed.invariant.2,
    )
