-- Lists of places that grow by one in each turn of a loop.
use Rattle.std.proofs.Common.{◌≡◌, ℕ, suc, ◌+◌, ◌<◌, ◌≤◌, List, [], ◌∷◌, ◌++◌, length, drop, drop-cons, get_or, Option, sym, ap, ap₂, ◌∙◌, append_assoc, subst, arith}
use Rattle.std.proofs.lemmas.List.{append-nil, drop_all}
use Rattle.std.specs.Prelude.{Bool, ◌&&◌, not}
use Rattle.cw_unit.specs.declared.unit.Goal.{Goal}
use Rattle.cw_order.specs.declared.order.LabelMark.{LabelMark}
use Rattle.cw_order.specs.declared.order.Order.{Order}
use Rattle.cw_tmpl.specs.declared.blocks.Block.{Block}
use Rattle.cw_tmpl.specs.declared.reach.Call.{Call}
use Rattle.cw_tmpl.specs.Backward.{calls_from, call_for, call_after}
use Rattle.cw_tmpl.specs.Blocks.{block_at, orders_left}
use Rattle.cw_tmpl.specs.Names.{has_landing, landing_bytes, switch_bytes, place_of_one}
use Rattle.cw_tmpl.specs.ReferenceCode.{places_from, landing_places, landing_sizes, switch_places}
use Rattle.cw_tmpl.specs.ShortForms.{Forms, check_of}
use Rattle.cw_tmpl.specs.Templates.{block_size}

-- the items from a place on
pub item_here : {A : Type 0} (xs : List A) (k : ℕ) (d : A) → k < length xs → drop k xs ≡ get_or xs k d ∷ drop (k + 1) xs
item_here xs k d lt =
    let e : suc k ≡ k + 1 = omega arith in
    drop-cons xs k d lt ∙ ap (λ n. get_or xs k d ∷ drop n xs) e

-- a place in a list that is named by another way
pub at_index : {A : Type 0} {xs ys : List A} (k : ℕ) → xs ≡ ys → k < length xs → k < length ys
at_index k same lt = subst (λ l. k < length l) same lt

-- where no item is left, all of the list is there
pub all_there : {A B : Type 0} (rest : List A → List B) (xs : List A) (k : ℕ) (list whole : List B) → length xs ≤ k → rest [] ≡ [] → list ++ rest (drop k xs) ≡ whole → list ≡ whole
all_there rest xs k list whole past none e = sym (append-nil list) ∙ ap (λ l. list ++ l) (sym (ap rest (drop_all k xs past) ∙ none)) ∙ e

-- the place of an order's code, and that behind its block
pub place_more : (forms : Forms) (places new : List ℕ) (at left behind next : ℕ) (list : List Order) (k : ℕ) (b : Block) (o : Order) (short : Bool) (whole : List ℕ) → k < length list → o ≡ get_or list k o
    → b ≡ block_at left (drop k list) → short ≡ forms k b o → next ≡ orders_left b → behind ≡ at + block_size short b o → new ≡ places ++ at ∷ []
    → places ++ places_from forms at k left (drop k list) ≡ whole → new ++ places_from forms behind (k + 1) next (drop (k + 1) list) ≡ whole
place_more forms places new at left behind next list k b o short whole lt is is_block is_form is_next is_behind is_new h =
    let rest = drop (k + 1) list in
    let here : drop k list ≡ o ∷ rest = item_here list k o lt ∙ ap (λ y. y ∷ rest) (sym is) in
    let c = block_at left (o ∷ rest) in
    let same : b ≡ c = is_block ∙ ap (block_at left) here in
    let number : k + 1 ≡ suc k = omega arith in
    ap (λ l. l ++ places_from forms behind (k + 1) next rest) is_new
    ∙ append_assoc places (at ∷ []) (places_from forms behind (k + 1) next rest)
    ∙ ap₂ (λ m n. places ++ (at ∷ places_from forms m (k + 1) n rest)) (is_behind ∙ ap (λ s. at + block_size s b o) is_form) is_next
    ∙ ap (λ x. places ++ (at ∷ places_from forms (at + block_size (forms k x o) x o) (k + 1) (orders_left x) rest)) same
    ∙ ap (λ n. places ++ (at ∷ places_from forms (at + block_size (forms k c o) c o) n (orders_left c) rest)) number
    ∙ ap (λ l. places ++ places_from forms at k left l) (sym here) ∙ h

-- the CALL for the check of a block
pub call_more : (longest calls new : List ℕ) (last after : Option Call) (left next behind call : ℕ) (list : List Order) (k : ℕ) (b : Block) (o : Order) (check : Option ℕ) (whole : List ℕ) → k < length list
    → o ≡ get_or list k o → b ≡ block_at left (drop k list) → check ≡ check_of b o → call ≡ call_for longest last k check → behind ≡ k + 1 → after ≡ call_after last behind call check
    → next ≡ orders_left b → new ≡ calls ++ call ∷ [] → calls ++ calls_from longest last k left (drop k list) ≡ whole
    → new ++ calls_from longest after (k + 1) next (drop (k + 1) list) ≡ whole
call_more longest calls new last after left next behind call list k b o check whole lt is is_block is_check is_call is_behind is_after is_next is_new h =
    let rest = drop (k + 1) list in
    let here : drop k list ≡ o ∷ rest = item_here list k o lt ∙ ap (λ y. y ∷ rest) (sym is) in
    let c = block_at left (o ∷ rest) in
    let same : b ≡ c = is_block ∙ ap (block_at left) here in
    let number : k + 1 ≡ suc k = omega arith in
    let check_is : check ≡ check_of c o = is_check ∙ ap (λ x. check_of x o) same in
    let call_is : call ≡ call_for longest last k (check_of c o) = is_call ∙ ap (call_for longest last k) check_is in
    let after_is : after ≡ call_after last (k + 1) (call_for longest last k (check_of c o)) (check_of c o) =
    is_after ∙ ap (λ n. call_after last n call check) is_behind ∙ ap₂ (λ m x. call_after last (k + 1) m x) call_is check_is in
    let next_is : next ≡ orders_left c = is_next ∙ ap orders_left same in
    ap (λ l. l ++ calls_from longest after (k + 1) next rest) is_new
    ∙ append_assoc calls (call ∷ []) (calls_from longest after (k + 1) next rest)
    ∙ ap₂ (λ a n. calls ++ (call ∷ calls_from longest a (k + 1) n rest)) after_is next_is
    ∙ ap₂ (λ m n. calls ++ (m ∷ calls_from longest (call_after last (k + 1) (call_for longest last k (check_of c o)) (check_of c o)) n (orders_left c) rest)) call_is number
    ∙ ap (λ l. calls ++ calls_from longest last k left l) (sym here) ∙ h

-- the place of a landing, and that behind it
pub landing_is : (named : ℕ → Bool) (flags : Bool) (has : Bool) (k : ℕ) (m : LabelMark) → has ≡ (flags && not m.in_procedure) → flags ≡ named k → has ≡ has_landing named k m
landing_is named flags has k m is flagged = is ∙ ap (λ f. f && not m.in_procedure) flagged

pub landing_more : (named : ℕ → Bool) (places new : List ℕ) (at behind place : ℕ) (labels : List LabelMark) (k : ℕ) (d : LabelMark) (flags has : Bool) (whole : List ℕ) → k < length labels
    → has ≡ (flags && not (get_or labels k d).in_procedure) → flags ≡ named k → place ≡ place_of_one has at → behind ≡ at + landing_bytes has → new ≡ places ++ place ∷ []
    → places ++ landing_places named at k (drop k labels) ≡ whole → new ++ landing_places named behind (k + 1) (drop (k + 1) labels) ≡ whole
landing_more named places new at behind place labels k d flags has whole lt is flagged is_place is_behind is_new h =
    let rest = drop (k + 1) labels in
    let m = get_or labels k d in
    let own = has_landing named k m in
    let here : has ≡ own = landing_is named flags has k m is flagged in
    let number : k + 1 ≡ suc k = omega arith in
    ap (λ l. l ++ landing_places named behind (k + 1) rest) is_new
    ∙ append_assoc places (place ∷ []) (landing_places named behind (k + 1) rest)
    ∙ ap₂ (λ p b. places ++ (p ∷ landing_places named b (k + 1) rest)) (is_place ∙ ap (λ x. place_of_one x at) here) (is_behind ∙ ap (λ x. at + landing_bytes x) here)
    ∙ ap (λ n. places ++ (place_of_one own at ∷ landing_places named (at + landing_bytes own) n rest)) number
    ∙ ap (λ l. places ++ landing_places named at k l) (sym (item_here labels k d lt)) ∙ h

pub landing_sum : (named : ℕ → Bool) (at behind : ℕ) (labels : List LabelMark) (k : ℕ) (d : LabelMark) (flags has : Bool) (whole : ℕ) → k < length labels
    → has ≡ (flags && not (get_or labels k d).in_procedure) → flags ≡ named k → behind ≡ at + landing_bytes has
    → at + landing_sizes named k (drop k labels) ≡ whole → behind + landing_sizes named (k + 1) (drop (k + 1) labels) ≡ whole
landing_sum named at behind labels k d flags has whole lt is flagged is_behind h =
    let rest = drop (k + 1) labels in
    let m = get_or labels k d in
    let here = ap landing_bytes (landing_is named flags has k m is flagged) in
    let number : k + 1 ≡ suc k = omega arith in
    let same = ap (λ n. landing_sizes named n rest) number in
    let all = ap (landing_sizes named k) (item_here labels k d lt) in
    omega (arith, is_behind, here, same, all, h)

-- the place of a switch's routine, and that behind it
pub switch_more : (named : ℕ → Bool) (places new : List ℕ) (at behind place : ℕ) (list : List (List Goal)) (k : ℕ) (gs : List Goal) (has : Bool) (whole : List ℕ) → k < length list → gs ≡ get_or list k gs → has ≡ named k
    → place ≡ place_of_one has at → behind ≡ at + switch_bytes has gs → new ≡ places ++ place ∷ [] → places ++ switch_places named at k (drop k list) ≡ whole
    → new ++ switch_places named behind (k + 1) (drop (k + 1) list) ≡ whole
switch_more named places new at behind place list k gs has whole lt is flagged is_place is_behind is_new h =
    let rest = drop (k + 1) list in
    let here : drop k list ≡ gs ∷ rest = item_here list k gs lt ∙ ap (λ g. g ∷ rest) (sym is) in
    let number : k + 1 ≡ suc k = omega arith in
    ap (λ l. l ++ switch_places named behind (k + 1) rest) is_new
    ∙ append_assoc places (place ∷ []) (switch_places named behind (k + 1) rest)
    ∙ ap₂ (λ p b. places ++ (p ∷ switch_places named b (k + 1) rest)) (is_place ∙ ap (λ x. place_of_one x at) flagged) (is_behind ∙ ap (λ x. at + switch_bytes x gs) flagged)
    ∙ ap (λ n. places ++ (place_of_one (named k) at ∷ switch_places named (at + switch_bytes (named k) gs) n rest)) number
    ∙ ap (λ l. places ++ switch_places named at k l) (sym here) ∙ h
