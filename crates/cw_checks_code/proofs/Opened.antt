-- Views that were opened, one after another.
use Rattle.std.proofs.Common.{◌≡◌, zero, suc, List, [], ◌∷◌, ◌++◌, All, sym, subst, arith}
use Rattle.std.proofs.lemmas.List.Elements.{All-append}
use Rattle.cw_view.specs.declared.view.View.{View}
use Rattle.cw_link.specs.Views.{IsOpened}

one_opened : (view : View) → IsOpened view → All IsOpened (view ∷ [])
one_opened view o zero d lt = o
one_opened view o (suc k) d lt = absurd (omega (arith, lt))

pub one_more : (views new : List View) (view : View) → All IsOpened views → IsOpened view → new ≡ views ++ view ∷ [] → All IsOpened new
one_more views new view all opened same = subst (All IsOpened) (sym same) (All-append IsOpened views (view ∷ []) all (one_opened view opened))
