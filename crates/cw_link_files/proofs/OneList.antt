-- The list that files come to is one, and objects alone come to themselves.
use Rattle.std.proofs.Common.{◌≡◌, ℕ, List, [], ◌∷◌, ◌++◌, map, slice_get, Some, refl, ap, ◌∙◌, subst, arith, append-nil, Contains}
use Rattle.cw_pick.specs.Selection.{IsClosed, IsSelection, HasOneSelection}
use Rattle.cw_link_files.specs.Parts.{Given, given_objects, all_members, or_first, picked_of, IsListOf, HasOneLinkList, LinksObjectsAlone}

module _ (one : HasOneSelection) where
  pub one_list : HasOneLinkList
  one_list parts =
      let given = or_first (given_objects parts) (all_members parts) in
      let members = all_members parts in
      let found = one given members in (
        given ++ picked_of members found.0,
        record { picked = found.0; selection = found.1; joined = refl },
        (λ others is. is.joined ∙ ap (λ picked. given ++ picked_of members picked) (found.2 is.picked is.selection)),
      )

-- no member is needed where there is none
none_picked : (given : List (List ℕ)) (picked : List ℕ) → IsSelection given [] picked → picked ≡ []
none_picked given [] is = refl
none_picked given (k ∷ picked) is = absurd (no_number (is.least [] closed k (0, omega arith, refl)))
  where
    closed : IsClosed given [] []
    closed n needed = absurd (nothing n needed.member needed.there)
      where
        nothing : (n : ℕ) (member : List ℕ) → slice_get [] n ≡ Some member → ⊥
        nothing n member e = absurd (cc (e))

    no_number : Contains [] k → ⊥
    no_number c = absurd (omega (arith, c.1))

given_alone : (objects : List (List ℕ)) → given_objects (map Given objects) ≡ objects
given_alone [] = refl
given_alone (object ∷ objects) = ap (λ more. object ∷ more) (given_alone objects)

members_alone : (objects : List (List ℕ)) → all_members (map Given objects) ≡ []
members_alone [] = refl
members_alone (object ∷ objects) = members_alone objects

first_alone : (objects : List (List ℕ)) → or_first objects [] ≡ objects
first_alone [] = refl
first_alone (object ∷ objects) = refl

alone_of : (objects list : List (List ℕ)) → IsListOf objects [] list → list ≡ objects
alone_of objects list is =
    is.joined ∙ ap (λ picked. or_first objects [] ++ picked_of [] picked) (none_picked (or_first objects []) is.picked is.selection)
    ∙ append-nil (or_first objects []) ∙ first_alone objects

pub objects_alone : LinksObjectsAlone
objects_alone objects list is =
    alone_of objects list (subst (λ given. IsListOf given [] list) (given_alone objects) (subst (λ members. IsListOf (given_objects (map Given objects)) members list) (members_alone objects) is))
