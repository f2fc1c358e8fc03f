-- A `List` inside the type of its own items: its shape is its length, and the values in it are its items in order.
use mathlib.Core.Path.{◌≡◌, refl, sym}
use mathlib.Core.List.{List as Sequence, []}
use mathlib.Core.Former.{Former, this, list, via, children}
use base.Stored.{code_map}
use denote.RattleType.{RattleType}
use denote.HoleLaws.{Alike}
use denote.HolePlaces.{Recodes, struct_places, laid}
use denote.Hole.Carrier.{listed, list-listed}
use denote.Hole.Fix.{over}
use denote.Param.Weighed.{Weighed, w_list}
use denote.Model.Placed.{view_places}
use Rattle.std.specs.formers.vec.Vec as vec
use Rattle.std.specs.declared.alloc.Global.{Global}
use Rattle.std.specs.contracts.alloc.Global as allocator
use Rattle.std.specs.contracts.impls.GlobalAllocator.TheImpl.{ghosts}
use Rattle.cw_word.specs.declared.list.List.TheInside.{Inside}
use Rattle.cw_word.specs.declared.list.List.TheView.{view, invariant}
use Rattle.cw_word.specs.contracts.list.List as outer
use Rattle.cw_word.specs.contracts.list.List.TheInside as inner

abbrev pub the_former : Former {0} → Former {0}
the_former g = list g

abbrev pub the_weighed : {g : Former {0}} → Weighed g → Weighed (the_former g)
the_weighed w = w_list w

pub the_empty : Sequence ⊥
the_empty = []

abbrev pub the_items : (X : Type 0) → Sequence X → Sequence X
the_items X items = items

pub the_items_listed : (X : Type 0) (items : Sequence X) → listed _ (children (the_former this) X items) ≡ the_items X items
the_items_listed X items = list-listed X items

-- the field, a vector of items
abbrev field : Former {0}
field = via (vec.the_former this Global) Inside (λ X fields. fields.items) (λ X vector. record { items = vector }) (λ X fields. refl) (λ X vector. refl)

module _ (R R' : RattleType) (h : R.Denot → R'.Denot) where
  pub the_places : Alike R R' h → Alike (outer.the_row R) (outer.the_row R') ((the_former this).map R.Denot R'.Denot h)
  the_places alike = view_places field (list this) view (λ X Y k u. refl) (λ X u. refl) R.Denot R'.Denot h (outer.the_row R).coded (outer.the_row R').coded
      (invariant R.Denot) (invariant R'.Denot) (λ u p q. refl) (λ u p q. refl) (λ u e. tt) (λ u e. tt)
      (over (inner.the_row R)) (over (inner.the_row R'))
      (struct_places (inner.the_type R) (inner.the_type R') (vec.mapped h, tt) _ (λ d. refl) refl
      (laid _ _ _ (vec.the_places allocator.the_row ghosts R R' h alike), tt))

  pub the_codes_placed : Recodes R R' h → Recodes (outer.the_row R) (outer.the_row R') ((the_former this).map R.Denot R'.Denot h)
  the_codes_placed recodes items = sym (code_map R.coded.code R'.coded.code h (λ x. sym (recodes x)) items)
