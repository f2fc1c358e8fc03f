-- How a run of the source stands: it is running, it has ended, or a named stop has ended it.
use Rattle.std.specs.Prelude.{ℕ}

-- the run-time stops. Overflow: a value that is formed does not fit a word. ZeroDivisor: a quotient's divisor is 0. SwitchRange: a
-- switch index is below 1 or past the list. AddressRange: a value of an address does not fit a word, or the address is outside the
-- data area. FramesFull: a frame would end past the data area. DepthReached: more calls than are allowed would be active.
-- IndexRange: in a unit whose indexes are compared with their bounds, one is outside them
pub data StopKind : Type 0 where
  Overflow : StopKind
  ZeroDivisor : StopKind
  SwitchRange : StopKind
  AddressRange : StopKind
  FramesFull : StopKind
  DepthReached : StopKind
  IndexRange : StopKind

-- the number by which a stop is told
abbrev pub stop_number : StopKind → ℕ
stop_number Overflow = 1
stop_number ZeroDivisor = 2
stop_number SwitchRange = 3
stop_number AddressRange = 4
stop_number FramesFull = 5
stop_number DepthReached = 6
stop_number IndexRange = 7

-- a stop has the segment, counted from 1, and the line of the statement at work. Stuck is for what cannot come in the run of a checked
-- program: an operand that is missing or of the wrong sort, or a number that names nothing
pub data End : Type 0 where
  Running : End
  Ended : End
  Stopped : StopKind → (segment line : ℕ) → End
  Stuck : End
