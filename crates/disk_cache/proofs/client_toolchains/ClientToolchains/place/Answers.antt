use Rattle.std.proofs.Common.{◌∙◌, refl, ap, subst}
use Rattle.disk_cache.specs.Configs.{IsChoice, config_of}
use Rattle.disk_cache.specs.declared.config.Choice.TheVariants.{Archive}
use Rattle.disk_cache.proofs.PutLemmas.{put_starved}
use Rattle.disk_cache.proofs.client_toolchains.ClientToolchains.place.Goals as goal

pub returns-in-Err-clause-puts : goal.returns-in-Err-clause-puts
returns-in-Err-clause-puts g c =
    put_starved _ _ _ _ _ (config_of c.args.path.now c.args.self.now.configs) c.in-Err.field-0 c.args.path.now
    c.args.key.now c.args.self.now
    (subst (λ x. IsChoice (config_of c.args.path.now c.args.self.now.configs) x)
    (c.in-Archive.is ∙ ap Archive c.in-Err.is) c.choice_of.ensures) refl
