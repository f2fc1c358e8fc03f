use Rattle.std.proofs.Common.{◌≡◌, ◌<◌, List, ℕ, length, All, ap, sym, subst, ◌∙◌}
use Rattle.cw_view.specs.ObjectFormat.{IsObject}
use Rattle.cw_pick.specs.Selection.{IsSelection}
use Rattle.cw_link_files.specs.Parts.{or_first}
use Rattle.cw_link_files.proofs.Lists.{first_objects, picked_below, list_objects, list_short}
use Rattle.cw_link_files.proofs.listing.link_list.Goals as goal

-- what was picked, of the given objects and the members themselves
selected : (given given' members members' : List (List ℕ)) (picked : List ℕ) → given' ≡ given → members' ≡ members → IsSelection given' members' picked → IsSelection given members picked
selected given given' members members' picked e f is = subst (λ m. IsSelection given m picked) f (subst (λ g. IsSelection g members' picked) e is)

pub pick-requires-clause-given : goal.pick-requires-clause-given
pick-requires-clause-given c =
    let P : List (List ℕ) → Type 0 = λ xs. All IsObject xs in
    let first = c.in_ok-list.ensures ∙ ap (λ members. or_first c.args.files.objects members) c.as_slice.ensures in
    subst P (sym (c.as_slice-2.ensures ∙ first)) (first_objects c.args.files.objects c.args.files.members c.requires.objects c.requires.members)

pub pick-requires-clause-members : goal.pick-requires-clause-members
pick-requires-clause-members c =
    let P : List (List ℕ) → Type 0 = λ xs. All IsObject xs in
    subst P (sym c.as_slice-3.ensures) c.requires.members

pub add_picked-requires : goal.add_picked-requires
add_picked-requires c =
    let P : List (List ℕ) → List ℕ → Type 0 = λ members picked. All (λ k. k < length members) picked in
    let is = selected c.in_ok-list.list c.as_slice-2.result.now c.args.files.members c.as_slice-3.result.now c.in_ok-picked.picked c.as_slice-2.ensures c.as_slice-3.ensures c.in_ok-picked.ensures in
    subst (λ picked. P c.as_slice-4.result.now picked) (sym c.as_slice-5.ensures) (subst (λ members. P members c.in_ok-picked.picked) (sym c.as_slice-4.ensures) (picked_below c.in_ok-list.list c.args.files.members c.in_ok-picked.picked is))

pub returns-clause-objects : goal.returns-clause-objects
returns-clause-objects c =
    let is = selected c.in_ok-list.list c.as_slice-2.result.now c.args.files.members c.as_slice-3.result.now c.in_ok-picked.picked c.as_slice-2.ensures c.as_slice-3.ensures c.in_ok-picked.ensures in
    let first = c.in_ok-list.ensures ∙ ap (λ members. or_first c.args.files.objects members) c.as_slice.ensures in
    let joined = rw (c.as_slice-4.ensures, c.as_slice-5.ensures) at c.in_ok-add_picked.ensures in
    list_objects c.args.files c.requires c.in_ok-list.list c.add_picked.new.list c.in_ok-picked.picked first is joined

pub returns-clause-short : goal.returns-clause-short
returns-clause-short c =
    let is = selected c.in_ok-list.list c.as_slice-2.result.now c.args.files.members c.as_slice-3.result.now c.in_ok-picked.picked c.as_slice-2.ensures c.as_slice-3.ensures c.in_ok-picked.ensures in
    let first = c.in_ok-list.ensures ∙ ap (λ members. or_first c.args.files.objects members) c.as_slice.ensures in
    let joined = rw (c.as_slice-4.ensures, c.as_slice-5.ensures) at c.in_ok-add_picked.ensures in
    list_short c.args.files c.requires c.in_ok-list.list c.add_picked.new.list c.in_ok-picked.picked first is joined
