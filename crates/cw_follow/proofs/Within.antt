-- Orders that only an activation does.
use Rattle.std.proofs.Common.{◌≡◌, ℕ, ◌+◌, Bool, true, false, List, [], ◌∷◌, length, Some, refl, ap, ◌∙◌}
use Rattle.std.specs.Prelude.{slice_get, nat_eq, nat_le, nat_lt}
use Rattle.cw_unit.specs.Stop.{Running}
use Rattle.cw_unit.specs.Words.{Words}
use Rattle.cw_order.specs.declared.order.Order.TheVariants as order
use Rattle.cw_order.specs.OrderState.{OrderActivation, at, operand_words, argument_behind}
use Rattle.cw_order.specs.OrderMachine.{enter_with}
use Rattle.cw_follow.proofs.Watched.{Watched}
use Rattle.cw_follow.proofs.States.{Given, Sound}
use Rattle.cw_follow.proofs.Steps.{Follow, step_is, stuck_here, Alone, FollowFrom, begun_here}
use Rattle.cw_follow.proofs.Activities.{comes_back_false, comes_back_true, frames_home, binds_static, binds_in_frame, hands_special, calls_parameter}
use Rattle.cw_follow.proofs.Jumping.{goes_by_parameter}
use Rattle.cw_follow.proofs.Switching.{switches_by_parameter}

module _ (known : Given) where
  open known use {rows, p, image, all, coded, few, low}

  pub frame_home : {q : Watched} {g place : ℕ} (acts : List OrderActivation) {w : Words} (s : Sound p image g place false acts w q) (by_itself : Alone p image g place false acts w q s.orders) (n : ℕ)
      → slice_get s.orders.list place ≡ Some (order.FrameHome n) → FollowFrom known (begun_here known s) (at g place false acts w Running) q
  frame_home [] s by_itself n e = absurd (stuck_here known s (step_is known s (Some (order.FrameHome n)) e))
  frame_home (a ∷ acts) s by_itself n e = frames_home known s by_itself n e

  pub bind_static : {q : Watched} {g place : ℕ} (acts : List OrderActivation) {w : Words} (s : Sound p image g place false acts w q) (by_itself : Alone p image g place false acts w q s.orders) (k family offset : ℕ)
      → slice_get s.orders.list place ≡ Some (order.Bind k family offset) → Follow known (at g place false acts w Running) q
  bind_static [] s by_itself k family offset e = absurd (stuck_here known s (step_is known s (Some (order.Bind k family offset)) e))
  bind_static (a ∷ acts) s by_itself k family offset e = binds_static known s by_itself k family offset e

  pub bind_frame : {q : Watched} {g place : ℕ} (acts : List OrderActivation) {w : Words} (s : Sound p image g place false acts w q) (by_itself : Alone p image g place false acts w q s.orders) (k offset : ℕ)
      → slice_get s.orders.list place ≡ Some (order.BindFrame k offset) → Follow known (at g place false acts w Running) q
  bind_frame [] s by_itself k offset e = absurd (stuck_here known s (step_is known s (Some (order.BindFrame k offset)) e))
  bind_frame (a ∷ acts) s by_itself k offset e = binds_in_frame known s by_itself k offset e

  -- the accumulator has the answer, where there is one
  pub come_back : {q : Watched} {g place : ℕ} {answers : Bool} (acts : List OrderActivation) {w : Words} (s : Sound p image g place answers acts w q) (by_itself : Alone p image g place answers acts w q s.orders) (n : ℕ)
      → slice_get s.orders.list place ≡ Some (order.Return n answers) → Follow known (at g place answers acts w Running) q
  come_back {answers = false} [] s by_itself n e = absurd (stuck_here known s (step_is known s (Some (order.Return n false)) e))
  come_back {answers = true} [] s by_itself n e = absurd (stuck_here known s (step_is known s (Some (order.Return n true)) e))
  come_back {answers = false} (a ∷ acts) s by_itself n e = comes_back_false known s by_itself n e (nat_eq (operand_words a.arguments) n) refl
  come_back {answers = true} (a ∷ acts) {w} s by_itself n e = comes_back_true known w.operands w refl s by_itself n e (nat_eq (operand_words a.arguments) n) refl

  -- the activation at work has been begun
  pub enter_again : {q : Watched} {g place : ℕ} (acts : List OrderActivation) {w : Words} (s : Sound p image g place false acts w q) (size : ℕ)
      → slice_get s.orders.list place ≡ Some (order.Enter size) → Follow known (at g place false acts w Running) q
  enter_again [] s size e = absurd (stuck_here known s (step_is known s (Some (order.Enter size)) e))
  enter_again {q} {g} {place} (a ∷ acts) {w} s size e =
      absurd (stuck_here known s (step_is known s (Some (order.Enter size)) e ∙ ap (λ x. enter_with x (nat_lt (length acts) p.limits.depth) (nat_le (a.frame_base + size) p.limits.area) size a g place false acts w) s.working.0))

  pub hand_on : {q : Watched} {g place : ℕ} (acts : List OrderActivation) {w : Words} (s : Sound p image g place false acts w q) (by_itself : Alone p image g place false acts w q s.orders) (k : ℕ)
      → slice_get s.orders.list place ≡ Some (order.SpecialOut k) → FollowFrom known (begun_here known s) (at g place false acts w Running) q
  hand_on [] s by_itself k e = absurd (stuck_here known s (step_is known s (Some (order.SpecialOut k)) e))
  hand_on (a ∷ acts) s by_itself k e = hands_special known s by_itself k e (argument_behind k a.arguments) refl

  pub call_special : {q : Watched} {g place : ℕ} (acts : List OrderActivation) {w : Words} (s : Sound p image g place false acts w q) (by_itself : Alone p image g place false acts w q s.orders) (k line : ℕ)
      → slice_get s.orders.list place ≡ Some (order.CallSpecial k line) → FollowFrom known (begun_here known s) (at g place false acts w Running) q
  call_special [] s by_itself k line e = absurd (stuck_here known s (step_is known s (Some (order.CallSpecial k line)) e))
  call_special (a ∷ acts) s by_itself k line e = calls_parameter known s by_itself k line e (argument_behind k a.arguments) refl

  pub go_special : {q : Watched} {g place : ℕ} (acts : List OrderActivation) {w : Words} (s : Sound p image g place false acts w q) (by_itself : Alone p image g place false acts w q s.orders) (k : ℕ)
      → slice_get s.orders.list place ≡ Some (order.GoSpecial k) → FollowFrom known (begun_here known s) (at g place false acts w Running) q
  go_special [] s by_itself k e = absurd (stuck_here known s (step_is known s (Some (order.GoSpecial k)) e))
  go_special (a ∷ acts) s by_itself k e = goes_by_parameter known s by_itself k e (argument_behind k a.arguments) refl

  pub switch_special : {q : Watched} {g place : ℕ} (acts : List OrderActivation) {w : Words} (s : Sound p image g place true acts w q) (by_itself : Alone p image g place true acts w q s.orders) (k line : ℕ)
      → slice_get s.orders.list place ≡ Some (order.GoSwitchSpecial k line) → Follow known (at g place true acts w Running) q
  switch_special [] s by_itself k line e = absurd (stuck_here known s (step_is known s (Some (order.GoSwitchSpecial k line)) e))
  switch_special (a ∷ acts) s by_itself k line e = switches_by_parameter known s by_itself k line e (argument_behind k a.arguments) refl
