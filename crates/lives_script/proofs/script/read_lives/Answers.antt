use Rattle.std.proofs.Common.{◌≡◌, ◌<◌, ◌≤◌, map, length, subst, arith, Result}
use Rattle.std.proofs.lemmas.Bool.Decides.{nat_tests}
use Rattle.line_program.specs.declared.fault.FarmFault.{FarmFault}
use Rattle.line_program.specs.Lines.{IsScriptFault, IsScriptAnswer}
use Rattle.line_program.proofs.FirstFaultyLemmas.{line_fault, read_all}
use Rattle.line_program.proofs.LinesLemmas.{line_step, at_end}
use Rattle.lives_script.specs.Script.{read_of, judge, finished, script}
use Rattle.lives_script.specs.declared.script.Script.{Script}
use Rattle.std.specs.List.{AllByRecursion}
use Rattle.farm_script.specs.Setups.{IsSetup}
use Rattle.lives_script.specs.Ids.{IsRange, AreApartIds}
use Rattle.lives_script.specs.Place.{ids_of}
use Rattle.lives_script.specs.Spelled.{SpellsLives}
use Rattle.lives_script.proofs.SpelledLemmas.{script_says, script_lives, told_faulty, read_faulty}
use Rattle.lives_script.proofs.script.read_lives.Goals as goal

pub returns-in-Err : goal.returns-in-Err
returns-in-Err c =
    let some : 0 < length c.loop-rest.rest.now = grind (arith, nat_tests) in
    let told : IsScriptFault c.in-Err.fault (script c.args.bytes.now) =
    line_fault judge finished c.in-Err.fault c.loop-rest.number c.loop-rest.room
    (read_of c.loop-rest.reading) c.loop-rest.rest.now c.split_at.result.0.now c.split_at.result.1.now
    c.first_len.result (script c.args.bytes.now)
    some c.first_len.ensures.len c.split_at.ensures.front c.split_at.ensures.back c.in-Err.ensures.exact
    c.loop-rest.invariant.same in
    record {
      exact = told;
      says = tt;
      faulty = told_faulty c.in-Err.fault c.args.bytes.now told;
      setup = tt;
      fresh = tt;
      some = tt;
      apart = tt;
      counts = tt;
    }

-- what was read to the end
gives : goal.returns-clause-exact
gives c =
    let none : length c.loop-rest.rest.now ≡ 0 = grind (arith, nat_tests) in
    let e = at_end judge finished c.loop-rest.number c.loop-rest.room (read_of c.loop-rest.reading) c.loop-rest.rest.now
    (script c.args.bytes.now) none c.loop-rest.invariant.same in
    subst (λ (done : Result Script FarmFault). IsScriptAnswer (λ s. s) c.finish.result done) e c.finish.ensures

pub loop-rest-preserved : goal.loop-rest-preserved
loop-rest-preserved c =
    let some : 0 < length c.loop-rest.rest.now = grind (arith, nat_tests) in
    record {
      same = line_step judge finished c.loop-rest.number c.loop-rest.room (read_of c.loop-rest.reading)
          (read_of c.in-Ok.next) c.loop-rest.rest.now c.split_at.result.0.now c.split_at.result.1.now
          c.first_len.result (script c.args.bytes.now)
          some c.first_len.ensures.len c.split_at.ensures.front c.split_at.ensures.back c.in-Ok.ensures.exact
          c.loop-rest.invariant.same;
      kept = c.in-Ok.ensures.kept;
      within = omega (arith, c.in-Ok.ensures.number);
    }

pub returns-clause-exact : goal.returns-clause-exact
returns-clause-exact c = gives c

pub returns-clause-says : goal.returns-clause-says
returns-clause-says c = read_all (SpellsLives c.args.bytes.now) (λ s. s) c.finish.result (script c.args.bytes.now)
    (script_says c.args.bytes.now) (gives c)

pub returns-clause-faulty : goal.returns-clause-faulty
returns-clause-faulty c = read_faulty (λ s. s) c.finish.result c.args.bytes.now (gives c)

pub returns-clause-setup : goal.returns-clause-setup
returns-clause-setup c = read_all (λ s. IsSetup s.setup) (λ s. s) c.finish.result
    (script c.args.bytes.now) (λ x e. (script_lives c.args.bytes.now x e).setup) (gives c)

pub returns-clause-fresh : goal.returns-clause-fresh
returns-clause-fresh c = read_all (λ s. (s.setup.scheduler.base ≡ 0) × (s.setup.scheduler.count ≡ 0)) (λ s. s) c.finish.result
    (script c.args.bytes.now) (λ x e. (script_lives c.args.bytes.now x e).fresh) (gives c)

pub returns-clause-some : goal.returns-clause-some
returns-clause-some c = read_all (λ s. 1 ≤ length s.lives) (λ s. s) c.finish.result
    (script c.args.bytes.now) (λ x e. (script_lives c.args.bytes.now x e).some) (gives c)

pub returns-clause-apart : goal.returns-clause-apart
returns-clause-apart c = read_all (λ s. AreApartIds (map ids_of s.lives)) (λ s. s) c.finish.result
    (script c.args.bytes.now) (λ x e. (script_lives c.args.bytes.now x e).apart) (gives c)

pub returns-clause-counts : goal.returns-clause-counts
returns-clause-counts c = read_all (λ s. AllByRecursion (λ life. IsRange (ids_of life)) s.lives) (λ s. s) c.finish.result
    (script c.args.bytes.now) (λ x e. (script_lives c.args.bytes.now x e).counts) (gives c)
