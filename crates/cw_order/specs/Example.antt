-- Orders that write a letter and then form a sum that fits no word, and orders that call a procedure and jump.
use Rattle.std.specs.Prelude.{pos, [], ◌∷◌, false, None, Some}
use Rattle.cw_unit.specs.Stop.{Overflow, Ended, Stopped}
use Rattle.cw_unit.specs.Behaviour.{Observation}
use Rattle.cw_order.specs.declared.order.Order.TheVariants as order
use Rattle.cw_order.specs.OrderProgram.{OrderProgram, Tables}
use Rattle.cw_order.specs.OrderState.{OrderState}
use Rattle.cw_order.specs.OrderMachine.{order_start}

abbrev pub no_tables : Tables
no_tables = record { label = λ l. None; procedure = λ q. None; switch = λ n. None; defined = λ d. None }

abbrev pub overflowing : OrderProgram
overflowing = record {
  units =
      record {
        list =
            order.Start 1
            ∷ order.Const 72
            ∷ order.Save
            ∷ order.WriteByte
            ∷ order.Start 2
            ∷ order.Const 32767
            ∷ order.Save
            ∷ order.Const 1
            ∷ order.Add 2
            ∷ order.Save
            ∷ order.WriteByte
            ∷ order.NextBody
            ∷ [];
        entry = 0;
        marks = [];
        labels = [];
        procedures = [];
        switches = [];
        shared = [];
      }
      ∷ [];
  tables = no_tables ∷ [];
  addresses = record { homes = [] ∷ []; end = 0 };
  limits = record { area = 1; frames = 0; depth = 1 };
  room = 8;
}

abbrev pub overflowing_start : OrderState
overflowing_start = order_start overflowing [] []

-- the letter, and the stop at the second line of the first segment
abbrev pub overflowing_shows : Observation
overflowing_shows = record { output = 72 ∷ []; end = Stopped Overflow 1 2 }

-- a procedure that writes its argument from its frame, a call of it, and a jump past another output
abbrev pub calling : OrderProgram
calling = record {
  units =
      record {
        list =
            order.Enter 1
            ∷ order.BindFrame 0 0
            ∷ order.FrameHome 0
            ∷ order.Load
            ∷ order.Save
            ∷ order.WriteByte
            ∷ order.Return 1 false
            ∷ order.Const 72
            ∷ order.Save
            ∷ order.CallProc 0 1
            ∷ order.Jump 1
            ∷ order.Const 73
            ∷ order.Save
            ∷ order.WriteByte
            ∷ order.NextBody
            ∷ [];
        entry = 7;
        marks = 0 ∷ 14 ∷ [];
        labels = [];
        procedures = 0 ∷ [];
        switches = [];
        shared = [];
      }
      ∷ [];
  tables = record no_tables { procedure = λ q. Some (record { mark = 0; arguments = 1 }) } ∷ [];
  addresses = record { homes = [] ∷ []; end = 0 };
  limits = record { area = 2; frames = 1; depth = 1 };
  room = 16;
}

abbrev pub calling_start : OrderState
calling_start = order_start calling (pos 0 ∷ pos 0 ∷ []) []

abbrev pub calling_shows : Observation
calling_shows = record { output = 72 ∷ []; end = Ended }
