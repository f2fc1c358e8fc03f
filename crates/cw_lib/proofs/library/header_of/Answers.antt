use Rattle.cw_lib.specs.LibraryFormat.{not_library, no_version, other_version}
use Rattle.cw_lib.proofs.library.header_of.Goals as goal

pub returns-in-Ok : goal.returns-in-Ok
returns-in-Ok c = other_version c.in-Ok.ensures.1 c.in-Ok.ensures.0 c.in-Ok.field-0-test.1

pub returns-in-Err-OtherMark : goal.returns-in-Err-OtherMark
returns-in-Err-OtherMark c = not_library (rw c.in-Err-OtherMark.field-0-is at c.in-Err-OtherMark.ensures)

pub returns-in-Err-Short : goal.returns-in-Err-Short
returns-in-Err-Short c = let short = rw c.in-Err-Short.field-0-is at c.in-Err-Short.ensures in no_version short.0 short.1
