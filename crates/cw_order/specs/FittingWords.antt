-- The words of the machine of orders fit a word of the 8086.
use Rattle.std.specs.Prelude.{◌≡◌, ℕ, ◌<◌, Some}
use Rattle.std.specs.List.{All}
use Rattle.cw_word.specs.FixedPoint.{FitsWord}
use Rattle.cw_unit.specs.Words.{Operand, Word, Held, Words}
use Rattle.cw_order.specs.declared.order.Order.{Order}
use Rattle.cw_order.specs.declared.order.Order.TheVariants as order
use Rattle.cw_order.specs.OrderProgram.{OrderProgram, order_at}
use Rattle.cw_order.specs.OrderLines.{line_of}
use Rattle.cw_order.specs.OrderState.{OrderActivation, OrderState, words_of, activations_of}

abbrev pub OperandFits : Operand → Type 0
OperandFits (Word z) = FitsWord z
OperandFits (Held c) = Unit {0}

-- and the input has bytes
pub record WordsFit (w : Words) : Type 0 where
  pub operands : All OperandFits w.operands
  pub memory : All FitsWord w.memory
  pub input : All (λ b. b < 256) w.input

pub record ActivationFits (a : OrderActivation) : Type 0 where
  pub operands : All OperandFits a.operands
  pub arguments : All OperandFits a.arguments

pub record StateFits (s : OrderState) : Type 0 where
  pub words : WordsFit (words_of s)
  pub activations : All ActivationFits (activations_of s)

-- each constant is a word
abbrev pub ConstantsFit : OrderProgram → Type 0
ConstantsFit p = (g place w : ℕ) → order_at p g place ≡ Some (order.Const w) → w < 65536

-- and each line that an order names
abbrev pub LinesFit : OrderProgram → Type 0
LinesFit p = (g place : ℕ) (o : Order) → order_at p g place ≡ Some o → line_of o < 65536
