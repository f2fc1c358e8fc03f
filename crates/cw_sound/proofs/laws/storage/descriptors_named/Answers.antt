-- The descriptors of a unit have names of their own.
use Rattle.std.proofs.Common.{IsTrue, sym, subst}
use Rattle.cw_tree.specs.declared.segment.Raw.{Raw}
use Rattle.cw_items.specs.Things.{text_things}
use Rattle.cw_number.specs.Listed.{listed_of}
use Rattle.cw_number.specs.Numbers.{numbers_of}
use Rattle.cw_make_items.specs.Descriptors.{descs_of}
use Rattle.cw_built.specs.Listed.{are_named}
use Rattle.cw_sound.proofs.Items.Naming.{descriptors-named}
use Rattle.cw_sound.proofs.laws.storage.descriptors_named.Goals as goal

pub returns : goal.returns
returns c raw named resolves rising names =
    subst (λ (x : Raw). IsTrue (are_named (descs_of (numbers_of named) (listed_of x) (text_things named x) x.comms))) (sym resolves.1)
    (descriptors-named raw resolves.0 (numbers_of named) (listed_of raw) (text_things named raw) rising names)
