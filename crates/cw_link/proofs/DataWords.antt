-- Words up to the last that is not 0.
use Rattle.std.proofs.Common.{◌≡◌, ◌≢◌, ℕ, zero, suc, ◌+◌, cond, List, [], ◌∷◌, ◌++◌, refl, sym, ap, ◌∙◌, arith}
use Rattle.std.proofs.lemmas.Bool.{ne_eqb}
use Rattle.cw_link.specs.Presets.{FilledWord, first_at}
use Rattle.cw_link.specs.LinkedImage.{word_or_zero, words_from, unless_last_zero, without_last_zeros}

abbrev at_address : ℕ → List FilledWord → ℕ
at_address a ps = word_or_zero (first_at a ps)

words-more : (a n : ℕ) (ps : List FilledWord) → words_from a (suc n) ps ≡ words_from a n ps ++ at_address (a + n) ps ∷ []
words-more a zero ps = let e : a ≡ a + 0 = omega arith in ap (λ b. at_address b ps ∷ []) e
words-more a (suc n) ps =
    let e : a + 1 + n ≡ a + suc n = omega arith in
    ap (λ ws. at_address a ps ∷ ws) (words-more (a + 1) n ps) ∙ ap (λ b. at_address a ps ∷ (words_from (a + 1) n ps ++ at_address b ps ∷ [])) e

words_more : (n : ℕ) (ps : List FilledWord) → words_from 0 (n + 1) ps ≡ words_from 0 n ps ++ at_address n ps ∷ []
words_more n ps =
    let e : n + 1 ≡ suc n = omega arith in
    let z : 0 + n ≡ n = omega arith in
    ap (λ m. words_from 0 m ps) e ∙ words-more 0 n ps ∙ ap (λ b. words_from 0 n ps ++ at_address b ps ∷ []) z

zero_more : (ws : List ℕ) → without_last_zeros (ws ++ 0 ∷ []) ≡ without_last_zeros ws
zero_more [] = refl
zero_more (w ∷ ws) = ap (unless_last_zero w) (zero_more ws)

unless-more : (w : ℕ) (ws : List ℕ) (v : ℕ) → unless_last_zero w (ws ++ v ∷ []) ≡ w ∷ (ws ++ v ∷ [])
unless-more w [] v = refl
unless-more w (x ∷ xs) v = refl

last_kept : (ws : List ℕ) (v : ℕ) → v ≢ 0 → without_last_zeros (ws ++ v ∷ []) ≡ ws ++ v ∷ []
last_kept [] v ne = ap (λ b. cond b [] (v ∷ [])) (ne_eqb v 0 ne)
last_kept (w ∷ ws) v ne = ap (unless_last_zero w) (last_kept ws v ne) ∙ unless-more w ws v

-- ---- one word

module _ (ps : List FilledWord) (n w : ℕ) (is : w ≡ at_address n ps) where
  pub one_word : (ws : List ℕ) → ws ≡ words_from 0 n ps → ws ++ w ∷ [] ≡ words_from 0 (n + 1) ps
  one_word ws e = ap (λ vs. vs ++ w ∷ []) e ∙ ap (λ v. words_from 0 n ps ++ v ∷ []) is ∙ sym (words_more n ps)

  same-end : (m : ℕ) → n + 1 ≡ m → words_from 0 m ps ≡ words_from 0 n ps ++ w ∷ []
  same-end m next = ap (λ i. words_from 0 i ps) (sym next) ∙ words_more n ps ∙ ap (λ v. words_from 0 n ps ++ v ∷ []) (sym is)

  pub last_word : (area m : ℕ) → n + 1 ≡ m → w ≢ 0 → without_last_zeros (words_from 0 area ps) ≡ without_last_zeros (words_from 0 m ps) → without_last_zeros (words_from 0 area ps) ≡ words_from 0 (n + 1) ps
  last_word area m next ne h = h ∙ ap without_last_zeros (same-end m next) ∙ last_kept (words_from 0 n ps) w ne ∙ sym (same-end (n + 1) refl)

  pub no_last_word : (area m : ℕ) → n + 1 ≡ m → w ≡ 0 → without_last_zeros (words_from 0 area ps) ≡ without_last_zeros (words_from 0 m ps) → without_last_zeros (words_from 0 area ps) ≡ without_last_zeros (words_from 0 n ps)
  no_last_word area m next zero_is h = h ∙ ap without_last_zeros (same-end m next ∙ ap (λ v. words_from 0 n ps ++ v ∷ []) zero_is) ∙ zero_more (words_from 0 n ps)
