use Rattle.std.proofs.Common.{◌≡◌, ◌∙◌, inl, inr, refl, arith}
use Rattle.cw_i86.specs.MachineRun.{Undefined, Divides, Bad, Divided}
use Rattle.cw_trace.proofs.Told.{going_on, comes_to_limit, halts, stops, port_fails, say_fails}
use Rattle.cw_trace.proofs.running.run_watched.Goals as goal

pub returns-in-Err-clause-answers : goal.returns-in-Err-clause-answers
returns-in-Err-clause-answers g c = say_fails _ _ _ _ _ _ _ _ _ _ _ _ _ c.loop-steps.invariant.going c.loop-steps-test.true c.in-Err.ensures

pub returns-in-Halted-clause-answers : goal.returns-in-Halted-clause-answers
returns-in-Halted-clause-answers g c =
    let step = c.in-Halted.ensures.answers in
    halts _ _ _ _ _ _ _ _ _ _ _ _ c.loop-steps.invariant.going c.in_default.ensures.ok c.loop-steps-test.true step.0 step.1

pub returns-in-BadCode-clause-answers : goal.returns-in-BadCode-clause-answers
returns-in-BadCode-clause-answers g c =
    let step = c.in-BadCode.ensures.answers in
    stops _ _ _ _ _ _ _ _ _ _ _ _ _ Undefined (Bad _) c.loop-steps.invariant.going c.in_default.ensures.ok c.loop-steps-test.true step.0 step.1 step.2 step.3 (λ _. inr (inl (step.0, refl)))

pub returns-in-Divide-clause-answers : goal.returns-in-Divide-clause-answers
returns-in-Divide-clause-answers g c =
    let step = c.in-Divide.ensures.answers in
    stops _ _ _ _ _ _ _ _ _ _ _ _ _ Divides (Divided _) c.loop-steps.invariant.going c.in_default.ensures.ok c.loop-steps-test.true step.0 step.1 step.2 step.3 (λ _. inr (inr (step.0, refl)))

pub returns-in-PortFault-clause-answers : goal.returns-in-PortFault-clause-answers
returns-in-PortFault-clause-answers g c =
    let step = c.in-PortFault.ensures.answers in
    port_fails _ _ _ _ _ _ _ _ _ _ _ _ c.loop-steps.invariant.going c.in_default.ensures.ok c.loop-steps-test.true step.0 step.1

pub loop-steps-preserved : goal.loop-steps-preserved
loop-steps-preserved g c = record {
  going = going_on _ c.loop-steps.steps _ _ _ _ _ _ _ _ _ c.loop-steps.invariant.going c.in_default.ensures.ok c.in-Ran.ensures.answers;
  becomes = g.met.P.Ports.goes_on _ _ _ c.loop-steps.invariant.becomes c.in-Ran.ensures.becomes;
  counts = c.in-Ran.ensures.counts ∙ c.loop-steps.invariant.counts;
  says = c.in_default.ensures.ok_faults ∙ c.loop-steps.invariant.says;
}

pub returns-clause-answers : goal.returns-clause-answers
returns-clause-answers g c =
    let is : c.loop-steps.steps ≡ c.args.limit = omega arith in
    comes_to_limit _ _ _ _ _ _ _ _ _ c.loop-steps.invariant.going is
