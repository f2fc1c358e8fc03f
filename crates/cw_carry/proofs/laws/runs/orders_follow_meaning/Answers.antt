use Rattle.cw_gen_unit.specs.ReferenceUnits.{orders_program}
use Rattle.cw_unit.specs.Program.{program_at}
use Rattle.cw_carry.proofs.Runs.Programs.{orders-follow}
use Rattle.cw_carry.proofs.laws.runs.orders_follow_meaning.Goals as goal

pub returns : goal.returns
returns c us m limits room input wf built suits bytes =
    let p = program_at us m limits in
    orders-follow us m limits room suits input (λ n. c.never_stuck.ensures p input n wf) (λ n. c.coherent.ensures p input n wf) (λ n. c.words_within_need.ensures p input n wf) (λ n. c.configurations.ensures.frames p input n) (λ n. c.configurations.ensures.memory p input n) built wf bytes (c.words.ensures (orders_program us m limits room))
