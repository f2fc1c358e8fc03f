use Rattle.std.proofs.Common.{inl, inr}
use Rattle.cw_view.specs.ObjectFormat.{not_object, no_version, IsVersion}
use Rattle.cw_view.proofs.Opening.{other_version_is}
use Rattle.cw_view.proofs.view.version_of.Goals as goal
use Rattle.cw_view.proofs.view.version_of.Goals.{else-version-ne1-via-then-version-ne1+else-version-ne2, else-version-ne1-via-else-version-ne1}

pub returns-then-version-ne2 : goal.returns-then-version-ne2
returns-then-version-ne2 c = other_version_is c.args.bytes.now c.in-Ok.version c.in-Ok.ensures.1 c.if-version-ne1.true c.if-version-ne2.true c.in-Ok.ensures.0

pub returns-else-version-ne1 : goal.returns-else-version-ne1
returns-else-version-ne1 c =
    let version : IsVersion c.in-Ok.version = elim c.else-version-ne1.branch [ else-version-ne1-via-then-version-ne1+else-version-ne2 w ↦ inr w.if-version-ne2.false | else-version-ne1-via-else-version-ne1 w ↦ inl w.if-version-ne1.false ] in
    (version, c.in-Ok.ensures.1)

pub returns-in-Err-OtherMark : goal.returns-in-Err-OtherMark
returns-in-Err-OtherMark c = not_object (rw c.in-Err-OtherMark.field-0-is at c.in-Err-OtherMark.ensures)

pub returns-in-Err-Short : goal.returns-in-Err-Short
returns-in-Err-Short c = let short = rw c.in-Err-Short.field-0-is at c.in-Err-Short.ensures in no_version short.0 short.1
