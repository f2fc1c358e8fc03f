use Rattle.cw_compile.proofs.making.unit_of_tree.Goals as goal

pub returns-in-Ok-unit_of_named-clause-unit : goal.returns-in-Ok-unit_of_named-clause-unit
returns-in-Ok-unit_of_named-clause-unit c = λ text h. record { named = c.in-Ok.stored; has = c.in-Ok.ensures.named text h; unit_is = c.in-Ok-unit_of_named.ensures }
