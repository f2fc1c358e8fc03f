-- Where a text is cut, and the texts between its marks.
use Rattle.std.proofs.Common.{◌≡◌, ℕ, zero, suc, ◌<◌, Bool, true, false, List, [], ◌∷◌, length, take, drop, get_or, Option, None, Some, refl, sym, ap, ◌∙◌, arith}
use Rattle.std.specs.Prelude.{◌==◌, if◌then◌else◌}
use Rattle.cw_stop.specs.Stopping.{cut, with_first, with_front, between}

cut_step : (mark b : ℕ) (bs : List ℕ) → (b ≡ mark → ⊥) → cut mark (b ∷ bs) ≡ with_first b (cut mark bs)
cut_step mark b bs other = grind arith

-- it is cut at the first mark
pub cut_here : (mark : ℕ) (text : List ℕ) (k : ℕ) → k < length text → get_or text k 0 ≡ mark → ((j : ℕ) → j < k → get_or text j 0 ≡ mark → ⊥)
    → cut mark text ≡ (take k text, Some (drop (suc k) text))
cut_here mark [] k within here before = absurd (omega arith)
cut_here mark (b ∷ bs) zero within here before = grind arith
cut_here mark (b ∷ bs) (suc k) within here before =
    cut_step mark b bs (before zero (omega arith)) ∙ ap (with_first b) (cut_here mark bs k (omega arith) here (λ j less. before (suc j) (omega arith)))

pub cut_nowhere : (mark : ℕ) (text : List ℕ) → ((j : ℕ) → j < length text → get_or text j 0 ≡ mark → ⊥) → cut mark text ≡ (text, None)
cut_nowhere mark [] before = refl
cut_nowhere mark (b ∷ bs) before = cut_step mark b bs (before zero (omega arith)) ∙ ap (with_first b) (cut_nowhere mark bs (λ j less. before (suc j) (omega arith)))

-- the texts behind the first
abbrev pub more_between : (mark : ℕ) → Option (List ℕ) → List (List ℕ)
more_between mark None = []
more_between mark (Some text) = between mark text

between_step : (mark b : ℕ) (bs : List ℕ) (is : Bool) (c : List ℕ × Option (List ℕ)) → between mark bs ≡ c.0 ∷ more_between mark c.1
    → (if is then [] ∷ between mark bs else with_front b (between mark bs))
    ≡ (let d : List ℕ × Option (List ℕ) = if is then ([], Some bs) else with_first b c in d.0 ∷ more_between mark d.1)
between_step mark b bs true c is = refl
between_step mark b bs false c is = ap (with_front b) is

pub between_is : (mark : ℕ) (text : List ℕ) → between mark text ≡ (cut mark text).0 ∷ more_between mark (cut mark text).1
between_is mark [] = refl
between_is mark (b ∷ bs) = between_step mark b bs (b == mark) (cut mark bs) (between_is mark bs)

drop_one : (text : List ℕ) (k : ℕ) → drop 1 (drop k text) ≡ drop (suc k) text
drop_one [] zero = refl
drop_one [] (suc k) = refl
drop_one (b ∷ bs) zero = refl
drop_one (b ∷ bs) (suc k) = drop_one bs k

-- what stands behind the mark
pub behind_is : (mark : ℕ) (text rest behind : List ℕ) (k : ℕ) → rest ≡ drop k text → behind ≡ drop 1 rest → cut mark text ≡ (take k text, Some (drop (suc k) text))
    → Some behind ≡ (cut mark text).1
behind_is mark text rest behind k rest_is is here = ap (λ xs. Some xs) (is ∙ ap (drop 1) rest_is ∙ drop_one text k) ∙ sym (ap (λ x. x.1) here)
