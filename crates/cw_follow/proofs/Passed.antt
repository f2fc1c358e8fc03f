-- What the observer of the processor notes where a statement begins.
use Rattle.std.proofs.Common.{◌≡◌, ℕ, suc, ◌+◌, ◌*◌, ◌%◌, ◌<◌, ◌≤◌, Bool, ℤ, List, [], ◌∷◌, length, Some, refl, sym, ap, ap₂, ◌∙◌, arith}
use Rattle.std.specs.Prelude.{map, slice_get, slice_index}
use Rattle.std.specs.List.{All}
use Rattle.std.proofs.lemmas.List.Elements.{All-head, All-tail}
use Rattle.std.proofs.lemmas.Option.{slice_get_within}
use Rattle.cw_i86.specs.State.{State, data_segment, word_at as word_in}
use Rattle.cw_i86.specs.MachineRun.{End}
use Rattle.cw_image.specs.Begun.{lines_at, data_words}
use Rattle.cw_word.specs.FixedPoint.{FitsWord}
use Rattle.cw_word.specs.Word.{signed, unsigned}
use Rattle.cw_unit.specs.Words.{Words, word_at}
use Rattle.cw_order.specs.declared.order.Order.{Order}
use Rattle.cw_order.specs.OrderState.{OrderActivation}
use Rattle.cw_order.specs.OrderProgram.{OrderProgram}
use Rattle.cw_tmpl.specs.ReferenceCode.{entry_size, order_places, reach_of}
use Rattle.cw_tmpl.proofs.Sizes.{places_are}
use Rattle.cw_follow.specs.Passing.{at_work, passes}
use Rattle.cw_follow.proofs.Standing.{order_place, Image}
use Rattle.cw_follow.proofs.WordLaws.{WordLaws}
use Rattle.cw_follow.proofs.Watched.{Watched}
use Rattle.cw_follow.proofs.Orders.{Landed}
use Rattle.cw_tmpl.specs.ShortForms.{is_short}
use Rattle.cw_order.specs.declared.order.Orders.{Orders}

-- the place of an order, as the list of places has it
pub listed_place : (base : ℕ) (o : Orders) (k : ℕ) (it : Order) → slice_get o.list k ≡ Some it → base + slice_index (order_places o) k ≡ order_place base o k
listed_place base o k it e =
    let lt = slice_get_within o.list k it e in
    ap (λ n. base + n) (places_are (is_short (reach_of o)) entry_size 0 0 o.list k (omega arith))

-- the words of the data segment, from one on
words_are : WordLaws → (s : State) (first : ℕ) (memory : List ℤ) → All FitsWord memory → ((k : ℕ) → k < length memory → word_in s.memory data_segment (2 * (first + k)) ≡ unsigned (word_at memory k)) → data_words first (length memory) s ≡ memory
words_are laws s first [] fit same = refl
words_are laws s first (z ∷ zs) fit same =
    let here : first ≡ first + 0 = omega arith in
    ap₂ (λ x xs. x ∷ xs)
    (ap (λ n. signed (word_in s.memory data_segment (2 * n))) here ∙ ap signed (same 0 (omega arith)) ∙ laws.numbers.words.back z (All-head FitsWord z zs fit))
    (words_are laws s (first + 1) zs (All-tail FitsWord z zs fit)
    (λ k lt. let next : first + 1 + k ≡ first + suc k = omega arith in ap (λ n. word_in s.memory data_segment (2 * n)) next ∙ same (suc k) (omega arith)))

-- at a place where one statement begins it is noted with the words of the data area
pub notes_one : WordLaws → (p : OrderProgram) {image : Image} {at g : ℕ} {loaded : Bool} {acts : List OrderActivation} {w : Words} {t : Watched} (segment n : ℕ) → at < 65536 → p.limits.area ≤ 32768 → t.area ≡ p.limits.area
    → lines_at t.places at ≡ (segment, n) ∷ [] → All FitsWord w.memory → Landed p image at g loaded acts w t → passes t.places t.area t.processor ≡ (segment, n, w.memory) ∷ []
notes_one laws p {at = at} {w = w} {t = t} segment n short low area one fit l =
    let sees = l.stacked.is.sees in
    let state = t.processor.state in
    let whole : at % 65536 ≡ at = omega arith in
    let long : t.area ≡ length w.memory = area ∙ sym l.kept.long in
    let words : data_words 0 t.area state ≡ w.memory =
    ap (λ n. data_words 0 n state) long
    ∙ words_are laws state 0 w.memory fit (λ k lt.
    let within : k < p.limits.area = omega arith in
    let few : k < 32768 = omega arith in
    let from : 0 + k ≡ k = omega arith in
    ap (λ n. word_in state.memory data_segment (2 * n)) from ∙ sees.words k few ∙ l.kept.words k within) in
    ap (λ (e : End). at_work e (map (λ x. (x.0, x.1, data_words 0 t.area state)) (lines_at t.places state.instruction_pointer))) sees.at_work
    ∙ ap (λ ls. map (λ x. (x.0, x.1, data_words 0 t.area state)) ls) (ap (lines_at t.places) (sees.place ∙ whole) ∙ one)
    ∙ ap (λ ws. (segment, n, ws) ∷ []) words
