-- Spellings written one after another.
use Rattle.std.proofs.Common.{◌≡◌, ℕ, ◌+◌, ◌<◌, List, ◌++◌, length, drop, get_or, sym, ap, ◌∙◌, append_assoc, add-one, drop-cons}
use Rattle.cw_fields.specs.Fields.{each}

pub put_each_at : {A : Type 0} (spell : A → List ℕ) (xs : List A) (i : ℕ) (d : A) (out next total : List ℕ) → i < length xs → next ≡ out ++ spell (get_or xs i d)
    → out ++ each spell (drop i xs) ≡ total → next ++ each spell (drop (i + 1) xs) ≡ total
put_each_at spell xs i d out next total lt put h =
    ap (λ y. y ++ each spell (drop (i + 1) xs)) put ∙ append_assoc out (spell (get_or xs i d)) (each spell (drop (i + 1) xs))
    ∙ ap (λ n. out ++ (spell (get_or xs i d) ++ each spell (drop n xs))) (add-one i)
    ∙ ap (λ ys. out ++ each spell ys) (sym (drop-cons xs i d lt)) ∙ h

pub put_each : {A : Type 0} (spell : A → List ℕ) (xs : List A) (i : ℕ) (x : A) (out next total : List ℕ) → i < length xs → x ≡ get_or xs i x → next ≡ out ++ spell x
    → out ++ each spell (drop i xs) ≡ total → next ++ each spell (drop (i + 1) xs) ≡ total
put_each spell xs i x out next total lt is put h = put_each_at spell xs i x out next total lt (put ∙ ap (λ y. out ++ spell y) is) h
