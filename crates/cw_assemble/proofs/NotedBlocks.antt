-- What is noted of the orders from a place on.
use Rattle.std.proofs.Common.{◌≡◌, ℕ, suc, ◌+◌, ◌<◌, refl, List, [], ◌∷◌, ◌++◌, length, drop, drop-cons, get_or, sym, ap, ap₂, ◌∙◌, append_assoc, arith}
use Rattle.std.proofs.lemmas.List.{drop-drop, length-drop}
use Rattle.cw_order.specs.declared.order.Order.{Order}
use Rattle.cw_tmpl.specs.declared.blocks.Block.{Block}
use Rattle.cw_tmpl.specs.Blocks.{block_at, orders_left}
use Rattle.cw_assemble.specs.Noted.{blocks_from}
use Rattle.cw_assemble.proofs.Placing.{item_here}

-- the orders from a place on, of which one is there
opened : (list : List Order) (k : ℕ) (o : Order) → k < length list → o ≡ get_or list k o → drop k list ≡ o ∷ drop (k + 1) list
opened list k o lt is = item_here list k o lt ∙ ap (λ y. y ∷ drop (k + 1) list) (sym is)

-- the first of what is noted from a place on, and the rest
noted : (list : List Order) (left k : ℕ) (o : Order) → k < length list → o ≡ get_or list k o
    → blocks_from left (drop k list) ≡ block_at left (drop k list) ∷ blocks_from (orders_left (block_at left (drop k list))) (drop (k + 1) list)
noted list left k o lt is =
    let e = opened list k o lt is in
    ap (blocks_from left) e ∙ ap (λ os. block_at left os ∷ blocks_from (orders_left (block_at left os)) (drop (k + 1) list)) (sym e)

-- one block more
pub note_more : (blocks new : List Block) (left next : ℕ) (list : List Order) (k : ℕ) (b : Block) (o : Order) (whole : List Block) → k < length list → o ≡ get_or list k o
    → b ≡ block_at left (drop k list) → next ≡ orders_left b → new ≡ blocks ++ b ∷ [] → blocks ++ blocks_from left (drop k list) ≡ whole
    → new ++ blocks_from next (drop (k + 1) list) ≡ whole
note_more blocks new left next list k b o whole lt is is_block is_next is_new h =
    let rest = drop (k + 1) list in
    ap (λ l. l ++ blocks_from next rest) is_new ∙ append_assoc blocks (b ∷ []) (blocks_from next rest)
    ∙ ap₂ (λ x n. blocks ++ (x ∷ blocks_from n rest)) is_block (is_next ∙ ap orders_left is_block)
    ∙ ap (λ l. blocks ++ l) (sym (noted list left k o lt is)) ∙ h

-- ---- from a place on

as_many : (left : ℕ) (os : List Order) → length (blocks_from left os) ≡ length os
as_many left [] = refl
as_many left (o ∷ os) = ap suc (as_many (orders_left (block_at left (o ∷ os))) os)

first_noted : (left : ℕ) (os : List Order) (b : Block) (bs : List Block) → b ∷ bs ≡ blocks_from left os → b ≡ block_at left os
first_noted left [] b bs e = absurd cc
first_noted left (o ∷ os) b bs e = ap (λ l. get_or l 0 b) e

pub noted_within : (blocks : List Block) (list : List Order) (left k : ℕ) → k < length list → drop k blocks ≡ blocks_from left (drop k list) → k < length blocks
noted_within blocks list left k lt h = omega (arith, lt, length-drop k blocks, length-drop k list, ap length h, as_many left (drop k list))

pub noted_value : (blocks : List Block) (list : List Order) (left k : ℕ) (d : Block) → k < length list → drop k blocks ≡ blocks_from left (drop k list)
    → get_or blocks k d ≡ block_at left (drop k list)
noted_value blocks list left k d lt h =
    let e : get_or blocks k d ∷ drop (k + 1) blocks ≡ blocks_from left (drop k list) = sym (item_here blocks k d (noted_within blocks list left k lt h)) ∙ h in
    first_noted left (drop k list) _ _ e

tail : {A : Type 0} (x : A) (xs ys : List A) → ys ≡ x ∷ xs → drop 1 ys ≡ xs
tail x xs ys e = ap (drop 1) e

later : (blocks : List Block) (k : ℕ) → drop (k + 1) blocks ≡ drop 1 (drop k blocks)
later blocks k = sym (drop-drop 1 k blocks)

pub is_noted : (blocks : List Block) (list : List Order) (left k : ℕ) (o : Order) → k < length list → o ≡ get_or list k o → drop k blocks ≡ blocks_from left (drop k list)
    → drop k blocks ≡ block_at left (drop k list) ∷ blocks_from (orders_left (block_at left (drop k list))) (drop (k + 1) list)
is_noted blocks list left k o lt is h = h ∙ noted list left k o lt is

pub noted_behind : (blocks : List Block) (list : List Order) (left next k : ℕ) (b : Block) (o : Order) → k < length list → o ≡ get_or list k o → b ≡ block_at left (drop k list) → next ≡ orders_left b
    → drop k blocks ≡ blocks_from left (drop k list) → drop (k + 1) blocks ≡ blocks_from next (drop (k + 1) list)
noted_behind blocks list left next k b o lt is is_block is_next h =
    later blocks k ∙ tail _ _ _ (is_noted blocks list left k o lt is h) ∙ ap (λ n. blocks_from n (drop (k + 1) list)) (sym (is_next ∙ ap orders_left is_block))
