use Rattle.std.proofs.Common.{◌≡◌, ◌<◌, length, subst, arith, Result}
use Rattle.std.proofs.lemmas.Bool.Decides.{nat_tests}
use Rattle.line_program.specs.declared.fault.FarmFault.{FarmFault}
use Rattle.line_program.specs.Lines.{IsScriptFault, IsScriptAnswer}
use Rattle.line_program.proofs.FirstFaultyLemmas.{line_fault, read_all}
use Rattle.line_program.proofs.LinesLemmas.{line_step, at_end}
use Rattle.quota_script.specs.Script.{Said, said_of, read_of, judge, finished, script}
use Rattle.quota_script.specs.Place.{AreNamedOnce}
use Rattle.quota_script.specs.Spelled.{SpellsScript}
use Rattle.quota_script.proofs.SpelledLemmas.{script_says, script_names_once, told_faulty, read_faulty}
use Rattle.quota_script.proofs.script.read_script.Goals as goal

pub returns-in-Err : goal.returns-in-Err
returns-in-Err c =
    let some : 0 < length c.loop-rest.rest.now = grind (arith, nat_tests) in
    let told : IsScriptFault c.in-Err.fault (script c.args.bytes.now) =
    line_fault judge finished c.in-Err.fault c.loop-rest.number c.loop-rest.room
    (read_of c.loop-rest.reading) c.loop-rest.rest.now c.split_at.result.0.now c.split_at.result.1.now
    c.first_len.result (script c.args.bytes.now)
    some c.first_len.ensures.len c.split_at.ensures.front c.split_at.ensures.back c.in-Err.ensures.exact
    c.loop-rest.invariant.same in
    record {
      exact = told;
      says = tt;
      named_once = tt;
      faulty = told_faulty c.in-Err.fault c.args.bytes.now told;
    }

-- what was read to the end
gives : goal.returns-clause-exact
gives c =
    let none : length c.loop-rest.rest.now ≡ 0 = grind (arith, nat_tests) in
    let e = at_end judge finished c.loop-rest.number c.loop-rest.room (read_of c.loop-rest.reading) c.loop-rest.rest.now
    (script c.args.bytes.now) none c.loop-rest.invariant.same in
    subst (λ (done : Result Said FarmFault). IsScriptAnswer said_of c.finish.result done) e c.finish.ensures

pub loop-rest-preserved : goal.loop-rest-preserved
loop-rest-preserved c =
    let some : 0 < length c.loop-rest.rest.now = grind (arith, nat_tests) in
    record {
      same = line_step judge finished c.loop-rest.number c.loop-rest.room (read_of c.loop-rest.reading)
          (read_of c.in-Ok.next) c.loop-rest.rest.now c.split_at.result.0.now c.split_at.result.1.now
          c.first_len.result (script c.args.bytes.now)
          some c.first_len.ensures.len c.split_at.ensures.front c.split_at.ensures.back c.in-Ok.ensures.exact
          c.loop-rest.invariant.same;
      within = omega (arith, c.in-Ok.ensures.number);
    }

pub returns-clause-exact : goal.returns-clause-exact
returns-clause-exact c = gives c

pub returns-clause-says : goal.returns-clause-says
returns-clause-says c = read_all (SpellsScript c.args.bytes.now) said_of c.finish.result (script c.args.bytes.now)
    (script_says c.args.bytes.now) (gives c)

pub returns-clause-named_once : goal.returns-clause-named_once
returns-clause-named_once c = read_all (λ s. AreNamedOnce s.clients) said_of c.finish.result (script c.args.bytes.now)
    (script_names_once c.args.bytes.now) (gives c)

pub returns-clause-faulty : goal.returns-clause-faulty
returns-clause-faulty c = read_faulty said_of c.finish.result c.args.bytes.now (gives c)
