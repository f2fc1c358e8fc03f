use Rattle.std.proofs.Common.{◌≡◌, ◌∙◌, ℕ, ◌<◌, List, [], length, get_or, Some, None, sym, arith}
use Rattle.std.proofs.lemmas.Option.{slice_get-get_or, get_or_from_slice_get}
use Rattle.cw_lib.specs.Reading.{members_of}
use Rattle.cw_link_files.proofs.Lists.{one_more_member}
use Rattle.cw_link_files.proofs.reading.add_members.Goals as goal
use Rattle.cw_link_files.proofs.reading.add_members.Goals.{in-Some+in_ok-copied+in_ok-push, in_default}

some_none : (x : List ℕ) → Some x ≡ None → ⊥
some_none x e = absurd (cc)

pub loop-k-preserved : goal.loop-k-preserved
loop-k-preserved c =
    let all : List (List ℕ) = members_of c.args.lib.now in
    let within : c.loop-k.k < length all = omega (arith, c.loop-k-test.true, c.count-k-end.ensures, c.requires) in
    elim c.match-member.branch [
      | in-Some+in_ok-copied+in_ok-push w ↦
          one_more_member all c.loop-k.members c.match-member.members _ c.loop-k.k w.in-Some.member.now w.in_ok-copied.field-0 within (get_or_from_slice_get all c.loop-k.k w.in-Some.member.now [] w.in-Some.ensures) w.in_ok-copied.ensures
          (w.members-is ∙ w.in_ok-push.ensures.ok) c.loop-k.invariant
      | in_default w ↦ absurd (some_none (get_or all c.loop-k.k []) (sym (slice_get-get_or all c.loop-k.k [] within) ∙ w.in_default.ensures))
    ]
