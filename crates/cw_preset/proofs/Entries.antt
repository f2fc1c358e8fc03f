-- Entries of tables one after another, and words that are read out one after another.
use Rattle.std.proofs.Common.{◌≡◌, ℕ, zero, suc, ◌+◌, ◌-◌, ◌<◌, List, [], ◌∷◌, ◌++◌, length, drop, refl, sym, ap, subst, ◌∙◌, append_assoc, arith, Some}
use Rattle.std.specs.Prelude.{min, slice_get}
use Rattle.std.proofs.lemmas.List.{drop_more}
use Rattle.std.proofs.lemmas.Option.{slice_get_within, get_or_from_slice_get}
use Rattle.cw_tree.specs.declared.items.RawElem.{RawElem}
use Rattle.cw_tree.specs.declared.items.RawPlace.{RawPlace}
use Rattle.cw_preset.specs.Strings.{Words}
use Rattle.cw_preset.specs.Lists.{entry_words, entries_words}

-- ---- an entry more

begun : (n left width first first' : ℕ) (es : List RawElem) (places rest : List RawPlace) (ws ws' total : Words) → left ≡ suc n → ws' ≡ entry_words first es places ws
    → rest ≡ drop (length es) places → first' ≡ min (first + width) 65535 → entries_words left width first es places ws ≡ total → entries_words n width first' es rest ws' ≡ total
begun n left width first first' es places rest ws ws' total el ew er ef h =
    ap (λ w. entries_words n width first' es rest w) ew ∙ ap (λ r. entries_words n width first' es r (entry_words first es places ws)) er
    ∙ ap (λ f. entries_words n width f es (drop (length es) places) (entry_words first es places ws)) ef
    ∙ sym (ap (λ m. entries_words m width first es places ws) el) ∙ h

pub one_entry_more : (left width first first' : ℕ) (es : List RawElem) (places rest : List RawPlace) (ws ws' total : Words) → 0 < left → ws' ≡ entry_words first es places ws
    → rest ≡ drop (length es) places → first' ≡ min (first + width) 65535 → entries_words left width first es places ws ≡ total → entries_words (left - 1) width first' es rest ws' ≡ total
one_entry_more left width first first' es places rest ws ws' total l ew er ef h =
    begun (left - 1) left width first first' es places rest ws ws' total (omega (arith, l)) ew er ef h

-- ---- a word more

drop_read : {A : Type 0} (xs : List A) (i : ℕ) (x : A) → slice_get xs i ≡ Some x → drop i xs ≡ x ∷ drop (i + 1) xs
drop_read xs i x at = drop_more xs i x (slice_get_within xs i x at) ∙ ap (λ y. y ∷ drop (i + 1) xs) (get_or_from_slice_get xs i x x at)

pub one_word_more : {A : Type 0} (xs all all' : List A) (i : ℕ) (x : A) → slice_get xs i ≡ Some x → all' ≡ all ++ x ∷ [] → all ++ drop i xs ≡ xs → all' ++ drop (i + 1) xs ≡ xs
one_word_more xs all all' i x at more h =
    ap (λ a. a ++ drop (i + 1) xs) more ∙ append_assoc all (x ∷ []) (drop (i + 1) xs) ∙ ap (λ t. all ++ t) (sym (drop_read xs i x at)) ∙ h
