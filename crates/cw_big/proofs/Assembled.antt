-- The pieces of a text put together.
use Rattle.std.proofs.Common.{◌≡◌, ℕ, List, ◌++◌, ◌∙◌, append_assoc}

pub assembled : (x w a b c d e f g t h i j o1 o2 o3 o4 o5 o6 o7 : List ℕ) → o1 ≡ x → o2 ≡ o1 ++ w → o3 ≡ o2 ++ (a ++ (b ++ (c ++ (d ++ e)))) → o4 ≡ o3 ++ w → o5 ≡ o4 ++ (f ++ g) → o6 ≡ o5 ++ t → o7 ≡ o6 ++ (h ++ (i ++ j))
    → o7 ≡ x ++ w ++ a ++ b ++ c ++ d ++ e ++ w ++ f ++ g ++ t ++ h ++ i ++ j
assembled x w a b c d e f g t h i j o1 o2 o3 o4 o5 o6 o7 e1 e2 e3 e4 e5 e6 e7 =
    let all : o7 ≡ (((((x ++ w) ++ (a ++ (b ++ (c ++ (d ++ e))))) ++ w) ++ (f ++ g)) ++ t) ++ (h ++ (i ++ j)) = cc in
    let same : (((((x ++ w) ++ (a ++ (b ++ (c ++ (d ++ e))))) ++ w) ++ (f ++ g)) ++ t) ++ (h ++ (i ++ j)) ≡ x ++ w ++ a ++ b ++ c ++ d ++ e ++ w ++ f ++ g ++ t ++ h ++ i ++ j = simp append_assoc in
    all ∙ same
