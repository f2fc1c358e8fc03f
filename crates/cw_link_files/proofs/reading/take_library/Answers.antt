use Rattle.std.proofs.Common.{◌∙◌, ◌++◌, List, ℕ, sym, ap, append-nil}
use Rattle.cw_lib.specs.Reading.{members_of}
use Rattle.cw_link_files.specs.Parts.{Members}
use Rattle.cw_link_files.proofs.Takings.{has_library}
use Rattle.cw_link_files.proofs.reading.take_library.Goals as goal

pub returns-in-Ok-add_members-clause-took : goal.returns-in-Ok-add_members-clause-took
returns-in-Ok-add_members-clause-took c =
    let members : List (List ℕ) = members_of c.in-Ok.lib in (
      Members members,
      has_library c.args.bytes.now members c.requires c.in-Ok.ensures.library,
      record {
        objects = sym (append-nil c.args.taken.now.objects);
        members = c.in-Ok-add_members.ensures ∙ ap (λ xs. c.args.taken.now.members ++ xs) (sym (append-nil members));
      },
    )
