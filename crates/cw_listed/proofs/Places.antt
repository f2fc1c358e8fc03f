-- Where pieces are told, a word is known exactly at the places of words.
use Rattle.std.proofs.Common.{◌≡◌, ℕ, zero, suc, ◌+◌, ◌-◌, ◌<◌, ◌≤◌, ◌==◌, nat_lt, if◌then◌else◌, Bool, true, false, not, ◌&&◌, ◌||◌}
use Rattle.std.proofs.Common.{List, [], ◌∷◌, ◌++◌, length, map, Option, Some, None, refl, sym, ap, ap₂, ◌∙◌, arith}
use Rattle.std.proofs.Common.{length-append, ⊎_elim, eq-eqb, ne_eqb, ltb-true, ltb-false}
use Rattle.std.proofs.lemmas.List.{map-append}
use Rattle.std.proofs.lemmas.List.Concat.{flat_map-append}
use Rattle.std.proofs.lemmas.List.Folds.{list_any-append}
use Rattle.cw_unit.specs.declared.layout.Reloc.{Reloc}
use Rattle.cw_tmpl.specs.declared.pieces.Target.{Target}
use Rattle.cw_tmpl.specs.declared.pieces.Target.TheVariants as target
use Rattle.cw_tmpl.specs.declared.pieces.Coded.{Coded}
use Rattle.cw_tmpl.specs.declared.pieces.Coded.TheVariants as coded
use Rattle.cw_tmpl.specs.Pieces.{bytes_with, size_of, target_of, blanks, relocation_of, relocation_before, relocations}
use Rattle.cw_listing.specs.Lines.{is_among}
use Rattle.cw_listing.specs.Remarks.{words_behind, words_behind_call}
use Rattle.cw_listed.specs.Behind.{is_word, places_behind, word_places, IsKnownData, NamesEntries}
use Rattle.cw_listed.proofs.Walk.{behind_target, passed, is_clear, is_due, is_entry, is_told, coming_behind, are_told, Told, parts}
use Rattle.cw_follow.proofs.Sized.{piece_some}

-- ---- places among others

pub or_assoc : (x y z : Bool) → (x || (y || z)) ≡ ((x || y) || z)
or_assoc true y z = refl
or_assoc false y z = refl

pub or-false : (x : Bool) → (x || false) ≡ x
or-false true = refl
or-false false = refl

or-true : (x : Bool) → (x || true) ≡ true
or-true true = refl
or-true false = refl

-- the same behind another order of the parts
pub or_crossed : (a b c d : Bool) → ((a || b) || (c || d)) ≡ ((a || c) || (b || d))
or_crossed true b c d = refl
or_crossed false true true d = refl
or_crossed false true false d = refl
or_crossed false false c d = refl

pub among-append : (xs ys : List ℕ) (q : ℕ) → is_among (xs ++ ys) q ≡ (is_among xs q || is_among ys q)
among-append xs ys q = list_any-append (λ p. p == q) xs ys

-- offsets from a place
abbrev pub from_place : (place : ℕ) → List ℕ → List ℕ
from_place m os = map (λ o. m + o) os

none_before : (m q : ℕ) (os : List ℕ) → q < m → is_among (from_place m os) q ≡ false
none_before m q [] less = refl
none_before m q (o ∷ os) less = ap (λ b. b || is_among (from_place m os) q) (ne_eqb (m + o) q (λ e. omega (arith, e))) ∙ none_before m q os less

eqb_moved : (m q o : ℕ) → q ≡ m → (m + o == q) ≡ (o == 0)
eqb_moved m q zero e = eq-eqb (m + zero) q (omega arith)
eqb_moved m q (suc o) e = ne_eqb (m + suc o) q (λ h. omega arith) ∙ sym (ne_eqb (suc o) 0 (λ h. omega arith))

at_first : (m q : ℕ) (os : List ℕ) → q ≡ m → is_among (from_place m os) q ≡ is_among os 0
at_first m q [] e = refl
at_first m q (o ∷ os) e = ap₂ (λ a b. a || b) (eqb_moved m q o e) (at_first m q os e)

-- behind so many bytes the offsets count from their end
moved_on : (m n k q : ℕ) (os : List ℕ) → k ≡ m + n → k ≤ q → is_among (from_place m os) q ≡ is_among (from_place k (passed n os)) q
moved_on m n k q [] e le = refl
moved_on m n k q (o ∷ os) e le = by (moved_on m n k q os e le) (nat_lt o n) (ltb-true o n) (ltb-false o n)
  where
    by : is_among (from_place m os) q ≡ is_among (from_place k (passed n os)) q → (b : Bool) → (b ≡ true → o < n) → (b ≡ false → n ≤ o)
        → is_among (from_place m (o ∷ os)) q ≡ is_among (from_place k (if b then passed n os else (o - n) ∷ passed n os)) q
    by rest true less more = ap (λ b. b || is_among (from_place m os) q) (ne_eqb (m + o) q (λ h. omega (arith, less refl))) ∙ rest
    by rest false less more = ap₂ (λ a b. (a == q) || b) (let same : m + o ≡ k + (o - n) = omega (arith, more refl) in same) rest

-- ---- the places that relocations tell

pub word_places-append : (s q : ℕ) (rs ts : List Reloc)
    → is_among (word_places s (rs ++ ts)) q ≡ (is_among (word_places s rs) q || is_among (word_places s ts) q)
word_places-append s q rs ts =
    let at : Reloc → ℕ = λ r. s + r.place in
    let A = is_among (map at rs) q in
    let B = is_among (map at ts) q in
    let C = is_among (places_behind s rs) q in
    let D = is_among (places_behind s ts) q in
    among-append (map at (rs ++ ts)) (places_behind s (rs ++ ts)) q
    ∙ ap₂ (λ x y. x || y)
    (ap (λ l. is_among l q) (map-append at rs ts) ∙ among-append (map at rs) (map at ts) q)
    (ap (λ l. is_among l q) (flat_map-append (words_behind_call s) rs ts) ∙ among-append (places_behind s rs) (places_behind s ts) q)
    ∙ or_crossed A B C D
    ∙ sym (ap₂ (λ x y. x || y) (among-append (map at rs) (places_behind s rs) q) (among-append (map at ts) (places_behind s ts) q))

place_is : (place : ℕ) (t : Target) → (relocation_of place t).place ≡ place
place_is place (target.Word family offset) = refl
place_is place _ = refl

-- the places behind one relocation
pub one_behind : (s end q : ℕ) (t : Target) → 2 ≤ end
    → is_among (places_behind s (relocation_of (end - 2) t ∷ [])) q ≡ is_among (from_place (s + end) (behind_target (Some t))) q
one_behind s end q (target.LibraryAhead k) le =
    let same : s + (end - 2) + 2 ≡ s + end = omega arith in
    ap (λ m. is_among (from_place m (words_behind k) ++ []) q) same
    ∙ among-append (from_place (s + end) (words_behind k)) [] q ∙ or-false (is_among (from_place (s + end) (words_behind k)) q)
one_behind s end q _ le = refl

-- one relocation: its word, and those behind the call
one_told : (s end q : ℕ) (t : Target) → 2 ≤ end
    → is_among (word_places s (relocation_of (end - 2) t ∷ [])) q ≡ ((s + (end - 2) == q) || is_among (from_place (s + end) (behind_target (Some t))) q)
one_told s end q t le = ap₂ (λ p b. (s + p == q) || b) (place_is (end - 2) t) (one_behind s end q t le)

abbrev pub Sized : Option Target → (size : ℕ) → Type 0
Sized None n = Unit {0}
Sized (Some t) n = 2 ≤ n

pub sized : (p : Coded) → Sized (target_of p) (size_of p)
sized (coded.Whole i) = tt
sized (coded.Data n) = tt
sized _ = omega arith

-- none is before the piece
before_piece : (s at n q : ℕ) (t : Option Target) → Sized t n → q < s + at → is_among (word_places s (relocation_before (at + n) t)) q ≡ false
before_piece s at n q None h less = refl
before_piece s at n q (Some t) h less =
    one_told s (at + n) q t (omega (arith, h))
    ∙ ap₂ (λ a b. a || b) (ne_eqb (s + (at + n - 2)) q (λ e. omega (arith, h))) (none_before (s + (at + n)) q (behind_target (Some t)) (omega arith))

pub before_pieces : (s at q : ℕ) (ps : List Coded) → q < s + at → is_among (word_places s (relocations at ps)) q ≡ false
before_pieces s at q [] less = refl
before_pieces s at q (p ∷ ps) less =
    word_places-append s q (relocation_before (at + size_of p) (target_of p)) (relocations (at + size_of p) ps)
    ∙ ap₂ (λ a b. a || b) (before_piece s at (size_of p) q (target_of p) (sized p) less) (before_pieces s (at + size_of p) q ps (omega arith))

-- behind the piece are those behind its call
after_piece : (s at n q : ℕ) (t : Option Target) → Sized t n → s + (at + n) ≤ q
    → is_among (word_places s (relocation_before (at + n) t)) q ≡ is_among (from_place (s + (at + n)) (behind_target t)) q
after_piece s at n q None h le = refl
after_piece s at n q (Some t) h le =
    one_told s (at + n) q t (omega (arith, h))
    ∙ ap (λ a. a || is_among (from_place (s + (at + n)) (behind_target (Some t))) q) (ne_eqb (s + (at + n - 2)) q (λ e. omega (arith, h)))

-- ---- a piece at its own place

-- it is a word that is relocated
abbrev is_relocated_word : Coded → Bool
is_relocated_word (coded.Word t) = true
is_relocated_word _ = false

-- an instruction has its word behind its first byte
inside : (s at n q : ℕ) (t : Target) → 3 ≤ n → q ≡ s + at → is_among (word_places s (relocation_before (at + n) (Some t))) q ≡ false
inside s at n q t le e =
    one_told s (at + n) q t (omega arith)
    ∙ ap₂ (λ a b. a || b) (ne_eqb (s + (at + n - 2)) q (λ h. omega arith)) (none_before (s + (at + n)) q (behind_target (Some t)) (omega arith))

at_piece : (s at q : ℕ) (p : Coded) → q ≡ s + at → is_among (word_places s (relocation_before (at + size_of p) (target_of p))) q ≡ is_relocated_word p
at_piece s at q (coded.Whole i) e = refl
at_piece s at q (coded.Move reg t) e = inside s at 3 q t (omega arith) e
at_piece s at q (coded.Sum reg t) e = inside s at 4 q t (omega arith) e
at_piece s at q (coded.Fetch reg t) e = inside s at 4 q t (omega arith) e
at_piece s at q (coded.Load t) e = inside s at 3 q t (omega arith) e
at_piece s at q (coded.Store t) e = inside s at 3 q t (omega arith) e
at_piece s at q (coded.PushCode t) e = inside s at 5 q t (omega arith) e
at_piece s at q (coded.Operate op reg t) e = inside s at 4 q t (omega arith) e
at_piece s at q (coded.Change op reg t) e = inside s at 4 q t (omega arith) e
at_piece s at q (coded.Call t) e = inside s at 3 q t (omega arith) e
at_piece s at q (coded.Jump t) e = inside s at 3 q t (omega arith) e
at_piece s at q (coded.Word t) e =
    one_told s (at + 2) q t (omega arith)
    ∙ ap (λ a. a || is_among (from_place (s + (at + 2)) (behind_target (Some t))) q) (eq-eqb (s + (at + 2 - 2)) q (omega arith))
at_piece s at q (coded.Data n) e = refl
at_piece s at q (coded.Way t) e = inside s at 5 q t (omega arith) e

none_due : (b : Bool) → not b ≡ true → (b || false) ≡ false
none_due true e = sym e
none_due false e = refl

due_word : (coming : List ℕ) (p : Coded) → is_due coming p ≡ true → (is_among coming 0 || is_relocated_word p) ≡ is_word p
due_word coming (coded.Word t) h = or-true (is_among coming 0)
due_word coming (coded.Data n) h = or-false (is_among coming 0) ∙ h
due_word coming _ h = none_due (is_among coming 0) h

-- ---- pieces one after another

abbrev pub known : (s at : ℕ) → (coming : List ℕ) → List Coded → (q : ℕ) → Bool
known s at coming ps q = is_among (from_place (s + at) coming) q || is_among (word_places s (relocations at ps)) q

-- past a piece
known_past : (s at q : ℕ) (coming : List ℕ) (p : Coded) (ps : List Coded) → s + (at + size_of p) ≤ q
    → known s at coming (p ∷ ps) q ≡ known s (at + size_of p) (coming_behind coming p) ps q
known_past s at q coming p ps le =
    let n = size_of p in
    let m = s + (at + n) in
    let rest = is_among (word_places s (relocations (at + n) ps)) q in
    let mine : List ℕ = behind_target (target_of p) in
    ap₂ (λ a b. a || b) (moved_on (s + at) n m q coming (omega arith) le)
    (word_places-append s q (relocation_before (at + n) (target_of p)) (relocations (at + n) ps)
    ∙ ap (λ a. a || rest) (after_piece s at n q (target_of p) (sized p) le))
    ∙ or_assoc (is_among (from_place m (passed n coming)) q) (is_among (from_place m mine) q) rest
    ∙ ap (λ a. a || rest) (sym (ap (λ l. is_among l q) (map-append (λ o. m + o) (passed n coming) mine)
    ∙ among-append (from_place m (passed n coming)) (from_place m mine) q))

pub known_here : (s at q : ℕ) (coming : List ℕ) (p : Coded) (ps : List Coded) → is_due coming p ≡ true → q ≡ s + at → known s at coming (p ∷ ps) q ≡ is_word p
known_here s at q coming p ps due e =
    ap₂ (λ a b. a || b) (at_first (s + at) q coming e)
    (word_places-append s q (relocation_before (at + size_of p) (target_of p)) (relocations (at + size_of p) ps)
    ∙ ap₂ (λ a b. a || b) (at_piece s at q p e) (before_pieces s (at + size_of p) q ps (omega (arith, piece_some p)))
    ∙ or-false (is_relocated_word p))
    ∙ due_word coming p due

pub told_first : (coming : List ℕ) (p : Coded) (ps : List Coded) → are_told coming (p ∷ ps) ≡ true → is_told coming p ≡ true
told_first coming p ps h = (parts (is_told coming p) (are_told (coming_behind coming p) ps) h).0

pub told_rest : (coming : List ℕ) (p : Coded) (ps : List Coded) → are_told coming (p ∷ ps) ≡ true → are_told (coming_behind coming p) ps ≡ true
told_rest coming p ps h = (parts (is_told coming p) (are_told (coming_behind coming p) ps) h).1

pub told_due : (coming : List ℕ) (p : Coded) → is_told coming p ≡ true → (is_due coming p ≡ true) × (is_clear (size_of p) coming ≡ true)
told_due coming p h =
    parts (is_due coming p) (is_clear (size_of p) coming) (parts (is_due coming p && is_clear (size_of p) coming) (is_entry (target_of p)) h).0

told_entry : (coming : List ℕ) (p : Coded) → is_told coming p ≡ true → is_entry (target_of p) ≡ true
told_entry coming p h = (parts (is_due coming p && is_clear (size_of p) coming) (is_entry (target_of p)) h).1

known_at : (s at q : ℕ) (coming : List ℕ) (before : List Coded) (p : Coded) (behind : List Coded) → are_told coming (before ++ (p ∷ behind)) ≡ true
    → q ≡ s + at + length (blanks before) → known s at coming (before ++ (p ∷ behind)) q ≡ is_word p
known_at s at q coming [] p behind h e = known_here s at q coming p behind (told_due coming p (told_first coming p behind h)).0 (omega (arith, e))
known_at s at q coming (b ∷ bs) p behind h e =
    let far : length (blanks (b ∷ bs)) ≡ size_of b + length (blanks bs) = length-append (bytes_with 0 b) (blanks bs) in
    known_past s at q coming b (bs ++ (p ∷ behind)) (omega (arith, e, far))
    ∙ known_at s (at + size_of b) q (coming_behind coming b) bs p behind (told_rest coming b (bs ++ (p ∷ behind)) h) (omega (arith, e, far))

pub known_data : (ps : List Coded) → Told ps → IsKnownData ps
known_data ps h s offset p st =
    ap (λ l. is_among (word_places s (relocations 0 l)) (s + offset)) st.is
    ∙ known_at s 0 (s + offset) [] st.before p st.behind (ap (are_told []) (sym st.is) ∙ h) (omega (arith, st.offset_is))

-- ---- entries

entry_at : (coming : List ℕ) (before : List Coded) (p : Coded) (behind : List Coded)
    → are_told coming (before ++ (p ∷ behind)) ≡ true → is_entry (target_of p) ≡ true
entry_at coming [] p behind h = told_entry coming p (told_first coming p behind h)
entry_at coming (b ∷ bs) p behind h = entry_at (coming_behind coming b) bs p behind (told_rest coming b (bs ++ (p ∷ behind)) h)

pub names_entries : (ps : List Coded) → Told ps → NamesEntries ps
names_entries ps h offset k p st e =
    let entry : is_entry (target_of p) ≡ true = entry_at [] st.before p st.behind (ap (are_told []) (sym st.is) ∙ h) in
    ⊎_elim (λ a. sym (ap is_entry a) ∙ entry) (λ a. sym (ap is_entry a) ∙ entry) e
