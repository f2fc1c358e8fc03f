-- A call that did nothing but say that memory was wanted.
use Rattle.std.specs.Prelude.{[]}
use Rattle.cw_io.specs.File.{AllStay}
use Rattle.cw_correct.specs.Calls.{Call, IsUntouched, IsUnwritten}
use Rattle.cw_correct.specs.Saying.{SaysLast}
use Rattle.cw_say.specs.declared.status.Status.{Status}
use Rattle.cw_say.specs.declared.status.Status.TheVariants.{NoMemory}

-- `say` got the line, and all else is as before.
pub record IsIdle (c : Call) : Type 0 where
  pub says : SaysLast c.before c.after c.names [] NoMemory
  pub untouched : IsUntouched c.before c.after
  pub unwritten : IsUnwritten c.before c.after
  pub stays : AllStay c.before.files c.after.files

-- the promise allows it
abbrev pub AllowsIdle : (Right : Call → Status → Type 0) → Type 0
AllowsIdle Right = (c : Call) → IsIdle c → Right c NoMemory
