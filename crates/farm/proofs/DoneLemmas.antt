-- What was done, from what each step did.
use Rattle.std.proofs.Common.{◌≡◌, ◌⊎◌, inl, inr, Option, Some, None, Result, Ok, Err, refl}
use Rattle.std.specs.Prelude.{IfSome, ⊤}
use Rattle.line_program.specs.declared.fault.FarmFault.{FarmFault}
use Rattle.line_program.specs.declared.fault.FarmFault.TheVariants.{Usage, Memory}
use Rattle.command_line.specs.declared.command.Command.{Command}
use Rattle.command_line.specs.declared.command.Command.TheVariants.{Farm, Storm, Auth, Scheduler, Server, Audit}
use Rattle.command_line.specs.Asked.{Invocation}
use Rattle.command_line.specs.Parsed.{IsParsed}
use Rattle.farm.specs.Command.{Moment, fileless, IsCarriedOut, IsDoneBy}

-- what is carried out looks at no file
pub carried_out_at : (command : Command) (result : Result ⊤ FarmFault) (before after : Moment)
    → IsCarriedOut command result (fileless before.input before.out before.random before.serve)
    (fileless after.input after.out after.random after.serve)
    → IsCarriedOut command result before after
carried_out_at Farm result before after h = h
carried_out_at (Storm n) result before after h = h
carried_out_at Audit result before after h = h
carried_out_at (Auth auth) result before after h = h
carried_out_at (Scheduler config) result before after h = h
carried_out_at (Server config) result before after h = h

-- a command was parsed and carried out
pub done_parsed : (o : Option Invocation) (command : Command) (result : Result ⊤ FarmFault)
    (before after : Moment)
    → (o ≡ None → (◌≡◌ {A = Result Command FarmFault} (Ok command) (Err Usage))
    ⊎ (◌≡◌ {A = Result Command FarmFault} (Ok command) (Err Memory)))
    → IfSome o (λ what. IsParsed what (Ok command) before.files before.file_faults after.file_faults)
    → IsCarriedOut command result before after → IsDoneBy o result before after
done_parsed None command result before after usage parsed out = absurd (by_cases (usage refl))
  where
    by_cases : (◌≡◌ {A = Result Command FarmFault} (Ok command) (Err Usage))
        ⊎ (◌≡◌ {A = Result Command FarmFault} (Ok command) (Err Memory)) → ⊥
    by_cases (inl e) = cc e
    by_cases (inr e) = cc e
done_parsed (Some what) command result before after usage parsed out =
    inr (record { command = command; parsed = parsed; carried_out = out })
