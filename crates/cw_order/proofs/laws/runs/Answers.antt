use Rattle.cw_order.proofs.Runs.{over, stops, costs, returns, returning_costs}
use Rattle.cw_order.proofs.laws.runs.Goals as goal

pub returns-clause-over : goal.returns-clause-over
returns-clause-over c p s k h = over p s k h

pub returns-clause-stops : goal.returns-clause-stops
returns-clause-stops c = stops

pub returns-clause-costs : goal.returns-clause-costs
returns-clause-costs c = costs

pub returns-clause-returns : goal.returns-clause-returns
returns-clause-returns c = returns

pub returns-clause-returning_costs : goal.returns-clause-returning_costs
returns-clause-returning_costs c = returning_costs
