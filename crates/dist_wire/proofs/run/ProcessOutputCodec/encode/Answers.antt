use Rattle.std.proofs.Common.{◌≡◌, ◌++◌, rules}
use Rattle.dist_wire.specs.Written.{i32_text}
use Rattle.dist_wire.proofs.Parts.{later, sooner}
use Rattle.dist_wire.proofs.run.ProcessOutputCodec.encode.Goals as goal

pub returns-in_err-encode-clause-part : goal.returns-in_err-encode-clause-part
returns-in_err-encode-clause-part c =
    let code : c.write_u32.new.out.items ≡ c.args.out.now.items ++ i32_text c.args.self.now.code = search rules in
    later _ _ _ _ _ code (sooner _ _ _ _ c.encode.ensures.part)

pub returns-clause-part : goal.returns-clause-part
returns-clause-part c =
    let code : c.write_u32.new.out.items ≡ c.args.out.now.items ++ i32_text c.args.self.now.code = search rules in
    later _ _ _ _ _ code (later _ _ _ _ _ c.in_ok-encode.ensures.written c.encode-2.ensures.part)
