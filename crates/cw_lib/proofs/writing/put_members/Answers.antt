use Rattle.cw_fields.proofs.Appending.{put_each}
use Rattle.cw_lib.specs.LibraryFormat.{member_bytes}
use Rattle.cw_lib.proofs.writing.put_members.Goals as goal

pub loop-member-preserved : goal.loop-member-preserved
loop-member-preserved c =
    put_each member_bytes c.args.members.now c.loop-member.member-index c.member-item.result c.loop-member.out.items c.put_member.new.out.items _ c.loop-member-test.true c.member-item.is c.in_ok-put_member.ensures c.loop-member.invariant
