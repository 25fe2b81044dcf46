use Rattle.std.proofs.Common.{sym, subst, ◌<◌, ◌^◌}
use Rattle.run_lines.specs.Grammar.{Each}
use Rattle.farm_audit.specs.Fit.{EffectFits, SiteFits}
use Rattle.farm_audit.proofs.ValueLemmas.{entries_are}
use Rattle.farm_audit.proofs.laws.printed_runs_hold.Goals as goal

pub returns-clause-script : goal.returns-clause-script
returns-clause-script c = λ bytes text run same entries short.
    c.scripts_hold.ensures bytes text run
    (subst (λ s. s.scheduler.count < 2 ^ 64) (sym same) c.number_fits.ensures)
    (subst SiteFits (sym same) c.site_fits.ensures)
    (subst (Each EffectFits) (sym entries) c.effects_fit.ensures) short

pub returns-clause-given : goal.returns-clause-given
returns-clause-given c = λ w events token each lines short.
    c.runs_hold.ensures w c.args.setup.now events c.args.entries.now c.number_fits.ensures
    (record {
      token = token;
      scheduler = c.has_addresses.ensures.scheduler;
      servers = c.has_addresses.ensures.servers;
    }) each c.site_fits.ensures (entries_are c.args.entries.now lines c.effects_fit.ensures) short
