-- What the run-time library does, as the laws of its routines say, and three pieces of the code of segments.
use Rattle.std.specs.Prelude.{◌≡◌, ◌≢◌, ◌≤◌, ◌<◌, ◌+◌, ◌%◌, ℕ, suc, ℤ, pos, negsuc, Bool, List}
use Rattle.cw_word.specs.FixedPoint.{FitsWord, scaled_product, scaled_quotient}
use Rattle.cw_unit.specs.Stop.{Overflow, ZeroDivisor, SwitchRange, AddressRange, IndexRange}
use Rattle.cw_tmpl.specs.Library.{start_place, stop_place, enter_place, read_place, set_variable_place, add_step_place, put_variable_place, exhausted_place, next_step_place, enter_stop_place, product_place, quotient_down_place, quotient_up_place}
use Rattle.cw_routines.specs.Ways.{HasAll, QuietAll, HasWord}
use Rattle.cw_routines.specs.Results.{Stands, Quiet, InLibrary, StartRoutine, StopRoutine, ToldStop, EnterRoutine, begin, Beginning, leave, Leaving, ReadRoutine, SetRoutine, StepRoutine, PutRoutine, ExhaustedRoutine, NextStepRoutine, WordRoutine, divisor_test, DivisorTest}

pub record RoutineLaws : Type 0 where
  pub start : (quiet : ℕ → Bool) (code : List ℕ) → Stands code → InLibrary quiet → StartRoutine (Quiet quiet) code start_place 10
  pub overflow : (quiet : ℕ → Bool) (code : List ℕ) → Stands code → InLibrary quiet → StopRoutine (Quiet quiet) code (stop_place Overflow) 12 Overflow
  pub zero_divisor : (quiet : ℕ → Bool) (code : List ℕ) → Stands code → InLibrary quiet → StopRoutine (Quiet quiet) code (stop_place ZeroDivisor) 12 ZeroDivisor
  pub address : (quiet : ℕ → Bool) (code : List ℕ) → Stands code → InLibrary quiet → StopRoutine (Quiet quiet) code (stop_place AddressRange) 12 AddressRange
  pub bounds : (quiet : ℕ → Bool) (code : List ℕ) → Stands code → InLibrary quiet → StopRoutine (Quiet quiet) code (stop_place IndexRange) 12 IndexRange
  pub switch : (quiet : ℕ → Bool) (code : List ℕ) → Stands code → InLibrary quiet → ToldStop (Quiet quiet) code (stop_place SwitchRange) 10 SwitchRange
  pub enter : (quiet : ℕ → Bool) (code : List ℕ) → Stands code → InLibrary quiet → EnterRoutine (Quiet quiet) code enter_place 18
  pub beginning : (quiet : ℕ → Bool) (code : List ℕ) → Stands code → InLibrary quiet → (at size place number by : ℕ) → (at + 22 + by) % 65536 ≡ enter_stop_place → HasWord code place number → QuietAll (Quiet quiet) at (begin size place by) → HasAll code at (begin size place by) → Beginning (Quiet quiet) code at size number 20
  pub leaving : (quiet : ℕ → Bool) (code : List ℕ) (at words : ℕ) → QuietAll (Quiet quiet) at (leave words) → HasAll code at (leave words) → Leaving (Quiet quiet) code at words
  pub read : (quiet : ℕ → Bool) (code : List ℕ) → Stands code → InLibrary quiet → ReadRoutine (Quiet quiet) code read_place 6
  pub product : (quiet : ℕ → Bool) (code : List ℕ) → Stands code → InLibrary quiet → (x y : ℤ) (j : ℕ) → FitsWord x → FitsWord y → j < 15 → WordRoutine (Quiet quiet) code product_place 15 (suc j) x y (scaled_product x y (negsuc j))
  pub quotient_down : (quiet : ℕ → Bool) (code : List ℕ) → Stands code → InLibrary quiet → (x y : ℤ) (j : ℕ) → FitsWord x → FitsWord y → y ≢ pos 0 → j < 15 → WordRoutine (Quiet quiet) code quotient_down_place 24 (suc j) x y (scaled_quotient x y (negsuc j))
  pub quotient_up : (quiet : ℕ → Bool) (code : List ℕ) → Stands code → InLibrary quiet → (x y : ℤ) (k : ℕ) → FitsWord x → FitsWord y → y ≢ pos 0 → k ≤ 16 → WordRoutine (Quiet quiet) code quotient_up_place 26 k x y (scaled_quotient x y (pos k))
  pub set_variable : (quiet : ℕ → Bool) (code : List ℕ) → Stands code → InLibrary quiet → SetRoutine (Quiet quiet) code set_variable_place 16
  pub add_step : (quiet : ℕ → Bool) (code : List ℕ) → Stands code → InLibrary quiet → StepRoutine (Quiet quiet) code add_step_place 19
  pub put_variable : (quiet : ℕ → Bool) (code : List ℕ) → Stands code → InLibrary quiet → PutRoutine (Quiet quiet) code put_variable_place 16
  pub exhausted : (quiet : ℕ → Bool) (code : List ℕ) → Stands code → InLibrary quiet → ExhaustedRoutine (Quiet quiet) code exhausted_place 15
  pub next_step : (quiet : ℕ → Bool) (code : List ℕ) → Stands code → InLibrary quiet → NextStepRoutine (Quiet quiet) code next_step_place 28
  pub divisor : (quiet : ℕ → Bool) (code : List ℕ) (at by : ℕ) → QuietAll (Quiet quiet) at (divisor_test by) → HasAll code at (divisor_test by) → by < 128 → DivisorTest (Quiet quiet) code at by
