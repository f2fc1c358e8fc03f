use Rattle.std.proofs.Common.{rules}
use Rattle.cw_compile.proofs.making.checked.Goals as goal

pub returns-in-Ok-check_types-clause-named : goal.returns-in-Ok-check_types-clause-named
returns-in-Ok-check_types-clause-named c = λ text h. record { names = c.in-Ok.ensures.named text h; judges = c.in-Ok-check_types.ensures }

pub returns-in-Ok : goal.returns-in-Ok
returns-in-Ok c = record {
  named = λ text h. tt;
  tree = tt;
  fault = λ text h. (c.in-Ok.stored, c.in-Ok.ensures.named text h, c.in-Err-check_types.ensures, search rules);
}
