-- The pieces of the code of orders have numbers in range, where those of the orders fit.
use Rattle.std.proofs.Common.{◌≡◌, ℕ, suc, ◌+◌, ◌<◌, List, [], ◌∷◌, ◌++◌, length, Bool, true, false, Some, refl, arith}
use Rattle.std.specs.Prelude.{slice_get}
use Rattle.cw_unit.specs.declared.unit.Goal.{Goal}
use Rattle.cw_order.specs.declared.order.LabelMark.{LabelMark}
use Rattle.cw_order.specs.declared.order.Order.{Order}
use Rattle.cw_order.specs.declared.order.Orders.{Orders}
use Rattle.cw_order.specs.OrderProgram.{OrderProgram}
use Rattle.cw_tmpl.specs.declared.pieces.Coded.{Coded}
use Rattle.cw_tmpl.specs.declared.pieces.Coded.TheVariants as coded
use Rattle.cw_tmpl.specs.Blocks.{block_at, orders_left}
use Rattle.cw_tmpl.specs.Names.{Names, mark_place, has_landing, landing_bytes, switch_bytes}
use Rattle.cw_tmpl.specs.Named.{is_named_label, is_named_switch}
use Rattle.cw_tmpl.specs.Pieces.{Filling, IsCoded, AllCoded}
use Rattle.cw_tmpl.specs.Templates.{block_pieces, block_size, entry_pieces}
use Rattle.cw_tmpl.specs.ShortForms.{is_short}
use Rattle.cw_tmpl.specs.ReferenceCode.{templates, entry_size, landing_where, landings, switch_where, switches}
use Rattle.cw_tmpl.specs.ReferenceCode.{landings_place, switches_place, names_of, pieces_of}
use Rattle.cw_follow.specs.Placing.{Fills}
use Rattle.cw_follow.proofs.Fits.{AllFit, fits_at}
use Rattle.cw_follow.proofs.Fine.{IsFine, AllFine, all_fine-append, entry_fine, base_fine, switch_fine, block_fine}

coded_by : (value : Filling) (p : Coded) → IsFine value p → IsCoded p
coded_by value (coded.Whole i) fine = fine
coded_by value (coded.Move reg t) fine = (fine.0, omega arith)
coded_by value (coded.Sum reg t) fine = (omega arith, fine.0, omega arith)
coded_by value (coded.Fetch reg t) fine = (fine.0, omega arith)
coded_by value (coded.Operate op reg t) fine = (fine.0, fine.1, omega arith)
coded_by value (coded.Change op reg t) fine = (fine.0, fine.1, omega arith)
coded_by value (coded.Data n) fine = fine
coded_by value _ fine = tt

all_coded_by : (value : Filling) (ps : List Coded) → AllFine value ps → AllCoded ps
all_coded_by value [] fine = tt
all_coded_by value (p ∷ ps) fine = (coded_by value p fine.0, all_coded_by value ps fine.1)

-- no switch has too many labels
abbrev pub AllFew : List (List Goal) → Type 0
AllFew gss = (n : ℕ) (gs : List Goal) → slice_get gss n ≡ Some gs → length gs < 32768

module _ (p : OrderProgram) (segment next : ℕ) (value : Filling) (fills : Fills p segment next value) (near : next < 65536) where
  templates_fine : (names : Names) (place number left : ℕ) (os : List Order) → AllFit os → AllFine value (templates names place number left os)
  templates_fine names place number left [] fits = tt
  templates_fine names place number left (o ∷ os) fits =
      let b = block_at left (o ∷ os) in
      let short = is_short names.reach number b o in
      all_fine-append value (block_pieces names place number short b o) (templates names (place + block_size short b o) (suc number) (orders_left b) os)
      (block_fine p segment next value fills near names place number short b o (fits_at left (o ∷ os) 0 o refl fits))
      (templates_fine names (place + block_size short b o) (suc number) (orders_left b) os (λ k x e. fits (suc k) x e))

  landing_where_fine : (has : Bool) (names : Names) (place : ℕ) (m : LabelMark) → AllFine value (landing_where has names place m)
  landing_where_fine true names place m = base_fine p segment next value fills near place (mark_place names m.mark)
  landing_where_fine false names place m = tt

  landings_fine : (names : Names) (named : ℕ → Bool) (place l : ℕ) (ms : List LabelMark) → AllFine value (landings names named place l ms)
  landings_fine names named place l [] = tt
  landings_fine names named place l (m ∷ ms) =
      let has = has_landing named l m in
      all_fine-append value (landing_where has names place m)
      (landings names named (place + landing_bytes has) (suc l) ms) (landing_where_fine has names place m)
      (landings_fine names named (place + landing_bytes has) (suc l) ms)

  switch_where_fine : (has : Bool) (names : Names) (place : ℕ) (gs : List Goal) → length gs < 32768 → AllFine value (switch_where has names place gs)
  switch_where_fine true names place gs few = switch_fine p segment next value fills near names place gs (omega (arith, few))
  switch_where_fine false names place gs few = tt

  switches_fine : (names : Names) (named : ℕ → Bool) (place n : ℕ) (gss : List (List Goal)) → AllFew gss → AllFine value (switches names named place n gss)
  switches_fine names named place n [] few = tt
  switches_fine names named place n (gs ∷ rest) few =
      all_fine-append value (switch_where (named n) names place gs) (switches names named (place + switch_bytes (named n) gs) (suc n) rest)
      (switch_where_fine (named n) names place gs (few 0 gs refl))
      (switches_fine names named (place + switch_bytes (named n) gs) (suc n) rest (λ k x e. few (suc k) x e))

  pub segment_coded : (o : Orders) → AllFit o.list → AllFew o.switches → AllCoded (pieces_of o)
  segment_coded o fits few =
      let names = names_of o in
      let landed : List Coded = landings names (is_named_label o) (landings_place o) 0 o.labels in
      let last : List Coded = switches names (is_named_switch o) (switches_place o) 0 o.switches in
      all_coded_by value (pieces_of o)
      (all_fine-append value entry_pieces (templates names entry_size 0 0 o.list ++ (landed ++ last)) (entry_fine p segment next value fills near)
      (all_fine-append value (templates names entry_size 0 0 o.list) (landed ++ last) (templates_fine names entry_size 0 0 o.list fits)
      (all_fine-append value landed last (landings_fine names (is_named_label o) (landings_place o) 0 o.labels)
      (switches_fine names (is_named_switch o) (switches_place o) 0 o.switches few))))
