use Rattle.std.proofs.Common.{rules, arith, ◌∙◌, ◌<◌}
use Rattle.cw_ports.specs.Pieces.{part}
use Rattle.cw_ports.proofs.Pieces.{takes_byte, tells_more, takes_nothing}
use Rattle.cw_ports.proofs.ports.ImagePortsPorts.take.Goals as goal

pub returns-then-self-clause-value : goal.returns-then-self-clause-value
returns-then-self-clause-value g c =
    let after = c.ask.new.self.inlet in
    let last = c.next.new.self in
    takes_byte _ (g.I.Source.left after.input.now) c.args.self.now.inlet.told_end (part after.bytes after.from after.to) (part last.bytes last.from last.to) c.args.port c.next.result
    c.in-16.is c.next.type_inv c.ask.ensures.left c.next.ensures.first (λ there. let none = after.no_more (c.ask.ensures.told ∙ there) in omega (arith, c.if-self.true, none.0))

pub returns-then-has_more-clause-value : goal.returns-then-has_more-clause-value
returns-then-has_more-clause-value g c =
    let after = c.ask-in-17.new.self.inlet in
    let is : after.from < after.to = search rules in
    tells_more _ (g.I.Source.left after.input.now) c.args.self.now.inlet.told_end (part after.bytes after.from after.to) c.args.port
    c.in-17.is c.ask-in-17.ensures.left (search rules) (λ there. let none = after.no_more (c.ask-in-17.ensures.told ∙ there) in omega (arith, is, none.0))

pub returns-in_default-clause-value : goal.returns-in_default-clause-value
returns-in_default-clause-value g c = takes_nothing _ c.args.self.now.inlet.told_end c.args.port (search rules) (search rules)
