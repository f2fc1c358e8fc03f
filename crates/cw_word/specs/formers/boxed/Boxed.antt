-- A `Boxed` inside the type of its own value: it is that one value.
use mathlib.Core.Path.{refl}
use mathlib.Core.Former.{Former, this, const, pair, via}
use base.Stored.{gnil}
use base.Fml.{ftrue}
use denote.RattleType.{RattleType}
use denote.Memory.{part_of}
use denote.RawPtr.{Ptr}
use denote.Sharing.{nothing}
use denote.HoleLaws.{Alike}
use denote.HolePlaces.{Recodes, struct_places, laid, one_value}
use denote.Hole.Fix.{over}
use denote.Param.Weighed.{Weighed}
use denote.Model.Placed.{view_places}
use Rattle.std.specs.declared.boxed.Box.{Box}
use Rattle.std.specs.contracts.boxed.Box as box
use Rattle.std.specs.declared.alloc.Global.{Global}
use Rattle.std.specs.contracts.alloc.Global as allocator
use Rattle.std.specs.contracts.impls.GlobalAllocator.TheImpl.{ghosts}
use Rattle.cw_word.specs.declared.boxed.Boxed.TheInside.{Inside}
use Rattle.cw_word.specs.declared.boxed.Boxed.TheView.{view, invariant}
use Rattle.cw_word.specs.contracts.boxed.Boxed as outer
use Rattle.cw_word.specs.contracts.boxed.Boxed.TheInside as inner

abbrev pub the_former : Former {0} → Former {0}
the_former g = g

abbrev pub the_weighed : {g : Former {0}} → Weighed g → Weighed (the_former g)
the_weighed w = w

-- the field, a box: its pointer and allocator, and the value
abbrev field : Former {0}
field = via (pair (const (Ptr × Global)) this) Inside (λ X fields. ((fields.inner.ptr, fields.inner.alloc), fields.inner.value))
    (λ X parts. record { inner = record { ptr = parts.0.0; alloc = parts.0.1; value = parts.1 } }) (λ X fields. refl) (λ X parts. refl)

-- the box with another value in it
abbrev refilled : {X Y : Type 0} → Box X Global → Y → Box Y Global
refilled b y = record { ptr = b.ptr; alloc = b.alloc; value = y }

abbrev box_row : RattleType → RattleType
box_row R = box.the_row R allocator.the_row ghosts

module _ (R R' : RattleType) (h : R.Denot → R'.Denot) where
  box_places : Alike R R' h → Alike (box_row R) (box_row R') (λ b. refilled b (h b.value))
  unfolding part_of
  box_places alike = record {
    mir_same = λ i. (box_row (one_value R (alike.mir_same i) (λ _. ftrue) (λ _ _. nothing) gnil)).mir;
    own_same = λ b i. (box_row (one_value R (alike.mir_same i) (alike.own_same b.value i) (alike.shr_same b.value i) gnil)).own_val (refilled b tt);
    shr_same = λ b i. (box_row (one_value R (alike.mir_same i) (alike.own_same b.value i) (alike.shr_same b.value i) gnil)).shr_at (refilled b tt);
  }

  pub the_places : Alike R R' h → Alike (outer.the_row R) (outer.the_row R') ((the_former this).map R.Denot R'.Denot h)
  the_places alike = view_places field this view (λ X Y k u. refl) (λ X u. refl) R.Denot R'.Denot h (outer.the_row R).coded (outer.the_row R').coded
      (invariant R.Denot) (invariant R'.Denot) (λ u p q. refl) (λ u p q. refl) (λ u e. tt) (λ u e. tt)
      (over (inner.the_row R)) (over (inner.the_row R'))
      (struct_places (inner.the_type R) (inner.the_type R') ((λ b. refilled b (h b.value)), tt) _ (λ d. refl) refl (laid _ _ _ (box_places alike), tt))

  pub the_codes_placed : Recodes R R' h → Recodes (outer.the_row R) (outer.the_row R') ((the_former this).map R.Denot R'.Denot h)
  the_codes_placed recodes value = recodes value
