use Rattle.cw_amount.proofs.amount.+all_octal.Given as goal

abbrev pub decreases-all_octal : goal.decreases-all_octal
decreases-all_octal l = l.digits
