-- Where pieces are told, words of data stand at all places at which they are said to come.
use Rattle.std.proofs.Common.{◌≡◌, ℕ, ◌+◌, ◌-◌, ◌<◌, ◌≤◌, ◌==◌, nat_lt, nat_le, if◌then◌else◌, Bool, true, false, ◌||◌, List}
use Rattle.std.proofs.Common.{[], ◌∷◌, map, Option, Some, None, refl, sym, ap, ap₂, ◌∙◌, subst, arith}
use Rattle.std.proofs.Common.{length-append, true≢false, ⊎_elim, ne_eqb, eqb-true, ltb-true, ltb-false, leb-true}
use Rattle.std.proofs.lemmas.List.{map-append}
use Rattle.std.proofs.lemmas.List.Concat.{flat_map-append}
use Rattle.std.proofs.lemmas.Bool.Decides.{eqb_tells}
use Rattle.cw_unit.specs.declared.layout.Reloc.{Reloc}
use Rattle.cw_tmpl.specs.declared.pieces.Target.{Target}
use Rattle.cw_tmpl.specs.declared.pieces.Coded.{Coded}
use Rattle.cw_tmpl.specs.Pieces.{bytes_with, size_of, target_of, blanks, relocation_before, relocations}
use Rattle.cw_listing.specs.Lines.{is_among}
use Rattle.cw_listing.specs.Remarks.{words_behind_call}
use Rattle.cw_listed.specs.Behind.{is_word, places_behind, HasWord, HasWordsBehind}
use Rattle.cw_listed.proofs.Walk.{behind_target, passed, is_clear, is_due, coming_behind, is_none, are_told, Told, parts}
use Rattle.cw_listed.proofs.Places.{or_assoc, among-append, from_place, one_behind, Sized, sized, known_here, told_first, told_rest, told_due}

-- behind so many bytes in which none comes but at their beginning, the offsets count from their end
clear_of : (o n : ℕ) → (o == 0 || nat_le n o) ≡ true → o < n → o ≡ 0
clear_of o n h less = by (o == 0) (eqb-true o 0) h
  where
    by : (b : Bool) → (b ≡ true → o ≡ 0) → (b || nat_le n o) ≡ true → o ≡ 0
    by true e h = e refl
    by false e h = absurd (omega (arith, leb-true n o h))

moved_clear : (m n k q : ℕ) (os : List ℕ) → k ≡ m + n → is_clear n os ≡ true → (q ≡ m → ⊥)
    → is_among (from_place m os) q ≡ is_among (from_place k (passed n os)) q
moved_clear m n k q [] e h apart = refl
moved_clear m n k q (o ∷ os) e h apart =
    let clear = parts (o == 0 || nat_le n o) (is_clear n os) h in
    by (moved_clear m n k q os e clear.1 apart) clear.0 (nat_lt o n) (ltb-true o n) (ltb-false o n)
  where
    by : is_among (from_place m os) q ≡ is_among (from_place k (passed n os)) q → (o == 0 || nat_le n o) ≡ true
        → (b : Bool) → (b ≡ true → o < n) → (b ≡ false → n ≤ o)
        → is_among (from_place m (o ∷ os)) q ≡ is_among (from_place k (if b then passed n os else (o - n) ∷ passed n os)) q
    by rest clear true less more =
        let first : o ≡ 0 = clear_of o n clear (less refl) in
        ap (λ b. b || is_among (from_place m os) q) (ne_eqb (m + o) q (λ x. apart (omega arith))) ∙ rest
    by rest clear false less more = ap₂ (λ a b. (a == q) || b) (let same : m + o ≡ k + (o - n) = omega (arith, more refl) in same) rest

behind_piece : (s at n q : ℕ) (t : Option Target) → Sized t n
    → is_among (places_behind s (relocation_before (at + n) t)) q ≡ is_among (from_place (s + (at + n)) (behind_target t)) q
behind_piece s at n q None h = refl
behind_piece s at n q (Some t) h = one_behind s (at + n) q t (omega (arith, h))

abbrev comes : (s at : ℕ) → (coming : List ℕ) → List Coded → (q : ℕ) → Bool
comes s at coming ps q = is_among (from_place (s + at) coming) q || is_among (places_behind s (relocations at ps)) q

comes_past : (s at q : ℕ) (coming : List ℕ) (p : Coded) (ps : List Coded) → is_clear (size_of p) coming ≡ true → (q ≡ s + at → ⊥)
    → comes s at coming (p ∷ ps) q ≡ comes s (at + size_of p) (coming_behind coming p) ps q
comes_past s at q coming p ps clear apart =
    let n = size_of p in
    let m = s + (at + n) in
    let rest = is_among (places_behind s (relocations (at + n) ps)) q in
    let mine : List ℕ = behind_target (target_of p) in
    let own : List Reloc = relocation_before (at + n) (target_of p) in
    ap₂ (λ a b. a || b) (moved_clear (s + at) n m q coming (omega arith) clear apart)
    (ap (λ l. is_among l q) (flat_map-append (words_behind_call s) own (relocations (at + n) ps))
    ∙ among-append (places_behind s own) (places_behind s (relocations (at + n) ps)) q
    ∙ ap (λ a. a || rest) (behind_piece s at n q (target_of p) (sized p)))
    ∙ or_assoc (is_among (from_place m (passed n coming)) q) (is_among (from_place m mine) q) rest
    ∙ ap (λ a. a || rest) (sym (ap (λ l. is_among l q) (map-append (λ o. m + o) (passed n coming) mine)
    ∙ among-append (from_place m (passed n coming)) (from_place m mine) q))

or_more : (a b c : Bool) → (a || c) ≡ true → (a || (b || c)) ≡ true
or_more true b c h = refl
or_more false true c h = refl
or_more false false c h = h

comes_here : (s at q : ℕ) (coming : List ℕ) (p : Coded) (ps : List Coded) → is_due coming p ≡ true → q ≡ s + at → comes s at coming (p ∷ ps) q ≡ true
    → is_word p ≡ true
comes_here s at q coming p ps due e h =
    let rs : List Reloc = relocations at (p ∷ ps) in
    let A = is_among (from_place (s + at) coming) q in
    sym (known_here s at q coming p ps due e)
    ∙ ap (λ b. A || b) (among-append (map (λ r. s + r.place) rs) (places_behind s rs) q)
    ∙ or_more A (is_among (map (λ r. s + r.place) rs) q) (is_among (places_behind s rs) q) h

word_first : (s q : ℕ) (p : Coded) (ps : List Coded) → q ≡ s → is_word p ≡ true → HasWord (p ∷ ps) s q
word_first s q p ps e w = record {
  offset = 0;
  piece = p;
  place_is = omega arith;
  stands = record { before = []; behind = ps; is = refl; offset_is = refl };
  is = w;
}

word_later : (s q : ℕ) (p : Coded) (ps : List Coded) → HasWord ps (s + size_of p) q → HasWord (p ∷ ps) s q
word_later s q p ps h = record {
  offset = size_of p + h.offset;
  piece = h.piece;
  place_is = omega (arith, h.place_is);
  stands = record {
    before = p ∷ h.stands.before;
    behind = h.stands.behind;
    is = ap (λ l. p ∷ l) h.stands.is;
    offset_is = omega (arith, h.stands.offset_is, length-append (bytes_with 0 p) (blanks h.stands.before));
  };
  is = h.is;
}

nothing_comes : (s at q : ℕ) (coming : List ℕ) → is_none coming ≡ true → comes s at coming [] q ≡ true → ⊥
nothing_comes s at q [] none h = true≢false (sym h)
nothing_comes s at q (o ∷ os) none h = true≢false (sym none)

word_comes : (s at q : ℕ) (coming : List ℕ) (ps : List Coded) → are_told coming ps ≡ true → comes s at coming ps q ≡ true → HasWord ps (s + at) q
word_comes s at q coming [] h c = absurd (nothing_comes s at q coming h c)
word_comes s at q coming (p ∷ ps) h c =
    let due = told_due coming p (told_first coming p ps h) in
    let n = size_of p in
    ⊎_elim
    (λ x. word_first (s + at) q p ps x.1 (comes_here s at q coming p ps due.0 x.1 c))
    (λ x. word_later (s + at) q p ps (let same : s + (at + n) ≡ s + at + n = omega arith in
    let found : HasWord ps (s + (at + n)) q = word_comes s (at + n) q (coming_behind coming p) ps (told_rest coming p ps h)
    (sym (comes_past s at q coming p ps due.1 x.1) ∙ c) in subst (λ m. HasWord ps m q) same found))
    (eqb_tells q (s + at))

pub words_behind_stand : (ps : List Coded) → Told ps → HasWordsBehind ps
words_behind_stand ps h s q c = subst (λ m. HasWord ps m q) (let same : s + 0 ≡ s = omega arith in same) (word_comes s 0 q [] ps h c)
