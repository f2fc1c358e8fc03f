use Rattle.std.proofs.Common.{◌≡◌, ◌++◌, drop}
use Rattle.cw_fields.specs.Fields.{each}
use Rattle.cw_lib.specs.LibraryFormat.{member_bytes}
use Rattle.cw_lib.proofs.writing.put_members.Given as goal

abbrev pub invariant-loop-member : goal.invariant-loop-member
invariant-loop-member l = l.out.items ++ each member_bytes (drop l.member-index l.members) ≡ l.fn.out.items ++ each member_bytes l.members
