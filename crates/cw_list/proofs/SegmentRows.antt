-- The items of a segment, and those of a program.
use Rattle.std.proofs.Common.{◌≡◌, ℕ, ◌+◌, ◌<◌, ◌≤◌, List, [], ◌∷◌, ◌++◌, length, take, Bool, true, false, cond, get_or, refl, sym, ap, ap₂, ◌∙◌, arith, append-nil, append_assoc, take_all}
use Rattle.std.proofs.lemmas.List.{take_more, length-take-le, length-map, get_or_read}
use Rattle.cw_unit.specs.declared.unit.Unit.{Unit as SourceUnit}
use Rattle.cw_unit.specs.declared.unit.Item.{Item}
use Rattle.cw_unit.specs.declared.layout.Layout.{Layout}
use Rattle.cw_unit.specs.declared.layout.Limits.{Limits}
use Rattle.cw_unit.specs.declared.layout.Map.{Map}
use Rattle.cw_unit.specs.Storage.{layout_of}
use Rattle.cw_unit.specs.Program.{Program, no_layout, layout_at, program_at}
use Rattle.cw_list.specs.declared.row.Row.{Row}
use Rattle.cw_list.specs.Rows.{row_in, segment_rows, layouts_of, rows_in, rows_from, rows_of, address_in, frame_in}

rows-end : (u : SourceUnit) (l : Layout) (a : List ℕ) (n : ℕ) (is : List Item) (i : Item) → segment_rows u l a n (is ++ i ∷ []) ≡ segment_rows u l a n is ++ row_in u l a (n + length is) i ∷ []
rows-end u l a n [] i = let e : n ≡ n + 0 = omega arith in ap (λ m. row_in u l a m i ∷ []) e
rows-end u l a n (j ∷ js) i =
    let e : n + 1 + length js ≡ n + length (j ∷ js) = omega arith in
    ap (λ rs. row_in u l a n j ∷ rs) (rows-end u l a (n + 1) js i ∙ ap (λ m. segment_rows u l a (n + 1) js ++ row_in u l a m i ∷ []) e)

pub rows_next : (u : SourceUnit) (l : Layout) (a : List ℕ) (k : ℕ) (i : Item) → k < length u.items → i ≡ get_or u.items k i → segment_rows u l a 0 (take (k + 1) u.items) ≡ segment_rows u l a 0 (take k u.items) ++ row_in u l a k i ∷ []
rows_next u l a k i b e =
    let len : length (take k u.items) ≡ k = length-take-le k u.items (omega (arith, b)) in
    let count : 0 + length (take k u.items) ≡ k = omega (arith, len) in
    ap (segment_rows u l a 0) (take_more u.items k i b ∙ ap (λ x. take k u.items ++ x ∷ []) (sym e)) ∙ rows-end u l a 0 (take k u.items) i
    ∙ ap (λ m. segment_rows u l a 0 (take k u.items) ++ row_in u l a m i ∷ []) count

-- where the first word of the frame is 0
no-base : (frame : Bool) (n : ℕ) → n ≡ cond frame 0 0 + n
no-base true n = omega arith
no-base false n = omega arith

with-address : (r : Row) (m : ℕ) → r.address ≡ m → r ≡ record r { address = m }
with-address r m e = ap (λ n. record r { address = n }) e

pub rows_are : (p : Program) (g : ℕ) (u : SourceUnit) (n : ℕ) (is : List Item) → segment_rows u (layout_at p g) (get_or p.addresses.homes g []) n is ≡ rows_in p g u n is
rows_are p g u n [] = refl
rows_are p g u n (i ∷ is) =
    let l = layout_at p g in
    let a = get_or p.addresses.homes g [] in
    ap₂ (λ r rs. r ∷ rs) (with-address (row_in u l a n i) _ (no-base (frame_in l n) (address_in l a n))) (rows_are p g u (n + 1) is)

from-end : (p : Program) (g : ℕ) (us : List SourceUnit) (u : SourceUnit) → rows_from p g (us ++ u ∷ []) ≡ rows_from p g us ++ rows_in p (g + length us) u 0 u.items
from-end p g [] u = let e : g ≡ g + 0 = omega arith in append-nil _ ∙ ap (λ m. rows_in p m u 0 u.items) e
from-end p g (v ∷ us) u =
    let e : g + 1 + length us ≡ g + length (v ∷ us) = omega arith in
    ap (λ rs. rows_in p g v 0 v.items ++ rs) (from-end p (g + 1) us u ∙ ap (λ m. rows_from p (g + 1) us ++ rows_in p m u 0 u.items) e)
    ∙ sym (append_assoc (rows_in p g v 0 v.items) (rows_from p (g + 1) us) (rows_in p (g + length (v ∷ us)) u 0 u.items))

layout-is : (us : List SourceUnit) (m : Map) (limits : Limits) (layouts : List Layout) (g : ℕ) (l : Layout) → layouts ≡ layouts_of us → g < length us → l ≡ get_or layouts g l → l ≡ layout_at (program_at us m limits) g
layout-is us m limits layouts g l are lt is =
    let len : length layouts ≡ length us = ap length are ∙ length-map us layout_of in
    get_or_read layouts g l (omega (arith, len, lt)) is no_layout ∙ ap (λ (ls : List Layout). get_or ls g no_layout) are

-- one segment more
pub next_rows : (us : List SourceUnit) (m : Map) (limits : Limits) (layouts : List Layout) (g : ℕ) (u : SourceUnit) (l : Layout) (a : List ℕ) (rows now : List Row)
    → layouts ≡ layouts_of us → g < length us → u ≡ get_or us g u → l ≡ get_or layouts g l → a ≡ get_or m.homes g []
    → rows ≡ rows_from (program_at us m limits) 0 (take g us) → now ≡ rows ++ segment_rows u l a 0 u.items → now ≡ rows_from (program_at us m limits) 0 (take (g + 1) us)
next_rows us m limits layouts g u l a rows now are lt unit laid placed h e =
    let p = program_at us m limits in
    let count : length (take g us) ≡ g = length-take-le g us (omega (arith, lt)) in
    let at : 0 + length (take g us) ≡ g = omega (arith, count) in
    let mine : segment_rows u l a 0 u.items ≡ rows_in p g u 0 u.items = ap₂ (λ x y. segment_rows u x y 0 u.items) (layout-is us m limits layouts g l are lt laid) placed ∙ rows_are p g u 0 u.items in
    e ∙ ap₂ (λ xs ys. xs ++ ys) h mine ∙ ap (λ k. rows_from p 0 (take g us) ++ rows_in p k u 0 u.items) (sym at)
    ∙ sym (from-end p 0 (take g us) u) ∙ ap (rows_from p 0) (sym (take_more us g u lt ∙ ap (λ x. take g us ++ x ∷ []) (sym unit)))

pub all_rows : (us : List SourceUnit) (m : Map) (limits : Limits) (g : ℕ) (rows : List Row) → length us ≤ g → rows ≡ rows_from (program_at us m limits) 0 (take g us) → rows ≡ rows_of (program_at us m limits)
all_rows us m limits g rows le h = h ∙ ap (rows_from (program_at us m limits) 0) (take_all g us le)
