use Rattle.cw_amount.proofs.amount.+octal_value.Given as goal

abbrev pub decreases-octal_value : goal.decreases-octal_value
decreases-octal_value l = l.digits
