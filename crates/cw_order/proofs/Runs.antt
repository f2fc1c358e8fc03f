-- Runs of the machine of orders.
use Rattle.std.proofs.Common.{◌≡◌, ◌≢◌, ℕ, zero, suc, refl}
use Rattle.cw_track.specs.Machine.{state_after, shown_after, cost}
use Rattle.cw_unit.specs.Stop.{Running, Ended, Stopped, Stuck}
use Rattle.cw_order.specs.OrderProgram.{OrderProgram}
use Rattle.cw_order.specs.OrderState.{OrderState, at}
use Rattle.cw_order.specs.OrderMachine.{shown, order_machine}
use Rattle.cw_order.specs.Example.{overflowing, overflowing_start, overflowing_shows, calling, calling_start, calling_shows}

pub over : (p : OrderProgram) (s : OrderState) (k : ℕ) → (shown s).end ≢ Running → state_after (order_machine p) k s ≡ s
over p s zero h = refl
over p (at g place loaded acts w Running) (suc k) h = absurd (h refl)
over p (at g place loaded acts w Ended) (suc k) h = over p (at g place loaded acts w Ended) k h
over p (at g place loaded acts w (Stopped kind s l)) (suc k) h = over p (at g place loaded acts w (Stopped kind s l)) k h
over p (at g place loaded acts w Stuck) (suc k) h = over p (at g place loaded acts w Stuck) k h

pub costs : cost (order_machine overflowing) 9 overflowing_start ≡ 36
costs = refl

pub stops : shown_after (order_machine overflowing) 9 overflowing_start ≡ overflowing_shows
stops = refl

pub returns : shown_after (order_machine calling) 12 calling_start ≡ calling_shows
returns = refl

pub returning_costs : cost (order_machine calling) 12 calling_start ≡ 99
returning_costs = refl
