-- The views of objects, opened one after another.
use Rattle.std.proofs.Common.{◌≡◌, ℕ, zero, suc, ◌+◌, ◌<◌, List, [], ◌∷◌, ◌++◌, length, map, drop, get_or, All, refl, sym, ap, subst, ◌∙◌, append_assoc, add-one, drop-cons, arith}
use Rattle.std.proofs.lemmas.List.{map-append}
use Rattle.std.proofs.lemmas.List.Elements.{All-append}
use Rattle.cw_view.specs.declared.view.View.{View}
use Rattle.cw_view.specs.ObjectFormat.{IsObject}
use Rattle.cw_link.specs.Contents.{Contents, contents_of}
use Rattle.cw_link.specs.Views.{IsOpened}
use Rattle.cw_object.specs.ObjectContents.{contents_in}

pub object-at : (objects : List (List ℕ)) (i : ℕ) (x bytes : List ℕ) → All IsObject objects → i < length objects → x ≡ get_or objects i x → bytes ≡ x → IsObject bytes
object-at objects i x bytes h lt is same = subst IsObject (sym is ∙ sym same) (h i x lt)

all-one : (view : View) → IsOpened view → All IsOpened (view ∷ [])
all-one view o zero d lt = o
all-one view o (suc k) d lt = absurd (omega (arith, lt))

pub one-more : (views new : List View) (view : View) → All IsOpened views → IsOpened view → new ≡ views ++ view ∷ [] → All IsOpened new
one-more views new view h o same = subst (All IsOpened) (sym same) (All-append IsOpened views (view ∷ []) h (all-one view o))

pub told-next : (views new : List View) (view : View) (objects : List (List ℕ)) (i : ℕ) (x bytes : List ℕ) → i < length objects → x ≡ get_or objects i x → bytes ≡ x → contents_of view ≡ contents_in bytes
    → new ≡ views ++ view ∷ [] → map contents_of views ++ map contents_in (drop i objects) ≡ map contents_in objects
    → map contents_of new ++ map contents_in (drop (i + 1) objects) ≡ map contents_in objects
told-next views new view objects i x bytes lt is same tells pushed h =
    let so-far : List Contents = map contents_of views in
    let one : contents_of view ≡ contents_in (get_or objects i x) = tells ∙ ap contents_in (same ∙ is) in
    ap (λ vs. map contents_of vs ++ map contents_in (drop (i + 1) objects)) pushed ∙ ap (λ cs. cs ++ map contents_in (drop (i + 1) objects)) (map-append contents_of views (view ∷ []))
    ∙ append_assoc so-far (contents_of view ∷ []) (map contents_in (drop (i + 1) objects)) ∙ ap (λ c. so-far ++ c ∷ map contents_in (drop (i + 1) objects)) one
    ∙ ap (λ n. so-far ++ contents_in (get_or objects i x) ∷ map contents_in (drop n objects)) (add-one i) ∙ ap (λ ys. so-far ++ map contents_in ys) (sym (drop-cons objects i x lt)) ∙ h

pub opened-in : (views slice : List View) → All IsOpened views → slice ≡ views → All IsOpened slice
opened-in views slice h same = subst (All IsOpened) (sym same) h
