use Rattle.std.proofs.Common.{rules, refl, ◌∙◌, ◌%◌}
use Rattle.cw_i86.specs.MachineRun.{Takes, Gives, Silent}
use Rattle.cw_cpu86.proofs.Steps.{in_steps, out_steps, plain_steps, begins_at}
use Rattle.cw_cpu86.proofs.cpu.Cpu.step_decoded.Goals as goal

pub returns-in-Ok-clause-answers : goal.returns-in-Ok-clause-answers
returns-in-Ok-clause-answers g c =
    let found = c.in-Some.ensures.found in
    let begins = begins_at c.args.self.now _ _ _ c.in-Some.instr (search rules) (search rules) (search rules) found.1 in (
      Takes c.in-In.port c.in-Ok.value,
      in_steps c.args.self.now c.advance.new.self c.set_byte_register.new.self c.in-Some.instr c.from.result c.in-In.port c.in-Ok.value
          c.in-In.is found.0 begins (c.from.ensures ∙ found.2) (search rules) c.advance.ensures c.set_byte_register.ensures,
      (c.in-Ok.ensures.value, c.in-Ok.ensures.device),
    )

pub returns-in-Ok-give-clause-answers : goal.returns-in-Ok-give-clause-answers
returns-in-Ok-give-clause-answers g c =
    let found = c.in-Some.ensures.found in
    let begins = begins_at c.args.self.now _ _ _ c.in-Some.instr (search rules) (search rules) (search rules) found.1 in (
      Gives c.in-Out.port (c.register.result % 256),
      out_steps c.args.self.now c.advance-in-Ok-give.new.self c.in-Some.instr c.from-in-Ok-give.result c.in-Out.port (c.register.result % 256)
          c.in-Out.is found.0 begins (c.from-in-Ok-give.ensures ∙ found.2) c.advance-in-Ok-give.ensures (search rules),
      c.in-Ok-give.ensures.device,
    )

pub returns-then-execute : goal.returns-then-execute
returns-then-execute g c =
    let found = c.in-Some.ensures.found in
    let begins = begins_at c.args.self.now _ _ _ c.in-Some.instr (search rules) (search rules) (search rules) found.1 in
    record {
      answers = (
        Silent,
        plain_steps c.args.self.now c.advance-in_default-instr.new.self c.execute.new.self c.in-Some.instr c.from-in_default-instr.result
            c.in_default-instr.not-In c.in_default-instr.not-Out c.in_default-instr.not-Hlt found.0 begins (c.from-in_default-instr.ensures ∙ found.2) c.advance-in_default-instr.ensures (search rules),
        refl,
      );
      counts = refl;
      becomes = g.met.P.Ports.stays _;
    }
