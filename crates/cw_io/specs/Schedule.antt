-- Which calls of an object in memory fail: those whose numbers are listed, from 1.
use Rattle.std.specs.Prelude.{◌≡◌, ℕ, List, Contains}
use Rattle.cw_io.specs.Count.{one_more}
use Rattle.cw_io.specs.declared.schedule.Schedule.{Schedule}

-- no call was made yet
pub record IsNew (s : Schedule) (fails : List ℕ) : Type 0 where
  pub fails_are : s.fails ≡ fails
  pub calls_are : s.calls ≡ 0
  pub faults_are : s.faults ≡ 0

-- the next call is listed. After 2^64 - 1 calls their number stands.
abbrev pub FailsNext : Schedule → Type 0
FailsNext s = Contains s.fails (one_more s.calls)

-- one more call was made
pub record IsCalled (old new : Schedule) : Type 0 where
  pub fails_are : new.fails ≡ old.fails
  pub calls_are : new.calls ≡ one_more old.calls
