-- The landings of labels and the routines of switches: how long they are.
use Rattle.std.proofs.Common.{◌≡◌, ℕ, suc, ◌+◌, ◌*◌, ◌≤◌, List, [], ◌∷◌, ◌++◌, length, refl, ap, ◌∙◌, arith, length-append}
use Rattle.std.specs.Prelude.{Bool, true, false}
use Rattle.cw_unit.specs.declared.unit.Goal.{Goal}
use Rattle.cw_order.specs.declared.order.LabelMark.{LabelMark}
use Rattle.cw_order.specs.declared.order.Orders.{Orders}
use Rattle.cw_tmpl.specs.Pieces.{blanks}
use Rattle.cw_tmpl.specs.Named.{is_named_label, is_named_switch}
use Rattle.cw_tmpl.specs.Names.{Names, has_landing, landing_bytes, switch_size, switch_bytes}
use Rattle.cw_tmpl.specs.Templates.{entry_pieces, switch_pieces}
use Rattle.cw_tmpl.specs.Sizes.{listed_sizes}
use Rattle.cw_tmpl.specs.ReferenceCode.{templates, landing_where, landings, switch_where, switches, entry_size, landings_place, switches_place, landing_sizes, routine_sizes, switch_sizes, names_of, pieces_of}
use Rattle.cw_tmpl.proofs.Growing.{blanks-append}
use Rattle.cw_tmpl.proofs.Sizes.{size_of_goals, whole}

pub landing_long : (has : Bool) (names : Names) (place : ℕ) (m : LabelMark) → length (blanks (landing_where has names place m)) ≡ landing_bytes has
landing_long true names place m = refl
landing_long false names place m = refl

pub size_of_landings : (names : Names) (named : ℕ → Bool) (place l : ℕ) (ms : List LabelMark) → length (blanks (landings names named place l ms)) ≡ landing_sizes named l ms
size_of_landings names named place l [] = refl
size_of_landings names named place l (m ∷ ms) =
    let has = has_landing named l m in
    let rest = landings names named (place + landing_bytes has) (suc l) ms in
    let long = ap length (blanks-append (landing_where has names place m) rest) ∙ length-append (blanks (landing_where has names place m)) (blanks rest) in
    omega (arith, long, landing_long has names place m, size_of_landings names named (place + landing_bytes has) (suc l) ms)

pub size_of_switch : (names : Names) (place : ℕ) (gs : List Goal) → length (blanks (switch_pieces names place gs)) ≡ switch_size gs
size_of_switch names place gs = omega (arith, size_of_goals names gs)

pub routine_long : (has : Bool) (names : Names) (place : ℕ) (gs : List Goal) → length (blanks (switch_where has names place gs)) ≡ switch_bytes has gs
routine_long true names place gs = size_of_switch names place gs
routine_long false names place gs = refl

pub size_of_switches : (names : Names) (named : ℕ → Bool) (place n : ℕ) (list : List (List Goal)) → length (blanks (switches names named place n list)) ≡ routine_sizes named n list
size_of_switches names named place n [] = refl
size_of_switches names named place n (gs ∷ rest) =
    let others = switches names named (place + switch_bytes (named n) gs) (suc n) rest in
    let long = ap length (blanks-append (switch_where (named n) names place gs) others) ∙ length-append (blanks (switch_where (named n) names place gs)) (blanks others) in
    omega (arith, long, routine_long (named n) names place gs, size_of_switches names named (place + switch_bytes (named n) gs) (suc n) rest)

-- no more than where each label and each switch has one
landing_few : (has : Bool) → landing_bytes has ≤ 15
landing_few true = omega arith
landing_few false = omega arith

landings_few : (named : ℕ → Bool) (l : ℕ) (ms : List LabelMark) → landing_sizes named l ms ≤ 15 * length ms
landings_few named l [] = omega arith
landings_few named l (m ∷ ms) = omega (arith, landing_few (has_landing named l m), landings_few named (suc l) ms)

routine_few : (has : Bool) (gs : List Goal) → switch_bytes has gs ≤ switch_size gs
routine_few true gs = omega arith
routine_few false gs = omega arith

routines_few : (named : ℕ → Bool) (n : ℕ) (list : List (List Goal)) → routine_sizes named n list ≤ switch_sizes list
routines_few named n [] = omega arith
routines_few named n (gs ∷ rest) = omega (arith, routine_few (named n) gs, routines_few named (suc n) rest)

-- the code of a segment is that of its entry, its orders, its landings and its switches
pub parts_long : (o : Orders)
    → length (blanks (pieces_of o)) ≡ length (blanks entry_pieces) + (length (blanks (templates (names_of o) entry_size 0 0 o.list))
    + (length (blanks (landings (names_of o) (is_named_label o) (landings_place o) 0 o.labels)) + length (blanks (switches (names_of o) (is_named_switch o) (switches_place o) 0 o.switches))))
parts_long o =
    let N = names_of o in
    let T = templates N entry_size 0 0 o.list in
    let L = landings N (is_named_label o) (landings_place o) 0 o.labels in
    let S = switches N (is_named_switch o) (switches_place o) 0 o.switches in
    let first = ap length (blanks-append entry_pieces (T ++ (L ++ S))) ∙ length-append (blanks entry_pieces) (blanks (T ++ (L ++ S))) in
    let second = ap length (blanks-append T (L ++ S)) ∙ length-append (blanks T) (blanks (L ++ S)) in
    let third = ap length (blanks-append L S) ∙ length-append (blanks L) (blanks S) in
    omega (arith, first, second, third)

-- all of them
pub segment_size : (o : Orders) → length (blanks (pieces_of o)) ≤ entry_size + (listed_sizes o.list + (15 * length o.labels + switch_sizes o.switches))
segment_size o =
    let N = names_of o in
    let landed = size_of_landings N (is_named_label o) (landings_place o) 0 o.labels in
    let routed = size_of_switches N (is_named_switch o) (switches_place o) 0 o.switches in
    omega (arith, parts_long o, whole N entry_size 0 o.list, landed, landings_few (is_named_label o) 0 o.labels, routed, routines_few (is_named_switch o) 0 o.switches)
