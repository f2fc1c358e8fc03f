-- The first line of a text, found character by character.
use Rattle.std.proofs.Common.{◌≡◌, ◌≢◌, ℕ, ◌+◌, ◌<◌, ◌≤◌, List, [], ◌∷◌, ◌++◌, Bool, true, false, eqb, eq-eqb, ◌-◌, ◌&&◌, length, get_or, take, drop, refl, sym, ap, subst, ◌∙◌, arith}
use Rattle.std.proofs.lemmas.Bool.{ne_eqb}
use Rattle.std.proofs.lemmas.List.{take_more, drop_more, drop_all, take_all, drop-drop, length-drop, take_rest}
use Rattle.cw_hex.specs.HexFormat.{lines_of, grown, begins_with_feed}

-- characters put before the first line
abbrev pub after_front : List ℕ → List (List ℕ) → List (List ℕ)
after_front [] lines = lines
after_front (c ∷ cs) lines = grown c (after_front cs lines)

pub front_more : (cs : List ℕ) (c : ℕ) (lines : List (List ℕ)) → after_front (cs ++ c ∷ []) lines ≡ after_front cs (grown c lines)
front_more [] c lines = refl
front_more (b ∷ cs) c lines = ap (grown b) (front_more cs c lines)

pub front_ended : (cs : List ℕ) (lines : List (List ℕ)) → after_front cs ([] ∷ lines) ≡ cs ∷ lines
front_ended [] lines = refl
front_ended (c ∷ cs) lines = ap (grown c) (front_ended cs lines)

pub front_alone : (c : ℕ) (cs : List ℕ) → after_front (c ∷ cs) [] ≡ (c ∷ cs) ∷ []
front_alone c [] = refl
front_alone c (d ∷ cs) = ap (grown c) (front_alone d cs)

-- the front of a text and its lines behind
abbrev pub seen : ℕ → List ℕ → List (List ℕ)
seen i text = after_front (take i text) (lines_of (drop i text))

feed_at : (c : ℕ) (cs : List ℕ) → eqb c 10 ≡ true → lines_of (c ∷ cs) ≡ [] ∷ lines_of cs
feed_at c cs h = rw h refl

return_at : (c : ℕ) (cs : List ℕ) → eqb c 10 ≡ false → (eqb c 13 && begins_with_feed cs) ≡ true → lines_of (c ∷ cs) ≡ lines_of cs
return_at c cs h k = rw (h, k) refl

other_at : (c : ℕ) (cs : List ℕ) → eqb c 10 ≡ false → (eqb c 13 && begins_with_feed cs) ≡ false → lines_of (c ∷ cs) ≡ grown c (lines_of cs)
other_at c cs h k = rw (h, k) refl

pub feed_found : (i : ℕ) (text : List ℕ) → i < length text → eqb (get_or text i 0) 10 ≡ true → seen i text ≡ lines_of text → lines_of text ≡ take i text ∷ lines_of (drop (i + 1) text)
feed_found i text h e so_far =
    let d = ap lines_of (drop_more text i 0 h) ∙ feed_at (get_or text i 0) (drop (i + 1) text) e in
    sym so_far ∙ ap (after_front (take i text)) d ∙ front_ended (take i text) (lines_of (drop (i + 1) text))

tf : true ≡ false → ⊥
tf e = cc

ft : false ≡ true → ⊥
ft e = cc

feed_first : (cs : List ℕ) → begins_with_feed cs ≡ true → lines_of cs ≡ [] ∷ lines_of (drop 1 cs)
feed_first [] h = absurd (ft h)
feed_first (c ∷ cs) h = feed_at c cs h

both : (a b : Bool) → (a && b) ≡ true → b ≡ true
both true b h = h
both false b h = absurd (ft h)

pub return_found : (i : ℕ) (text : List ℕ) → i < length text → eqb (get_or text i 0) 10 ≡ false → (eqb (get_or text i 0) 13 && begins_with_feed (drop (i + 1) text)) ≡ true → seen i text ≡ lines_of text
    → lines_of text ≡ take i text ∷ lines_of (drop (i + 2) text)
return_found i text h not_feed is_return so_far =
    let f = both (eqb (get_or text i 0) 13) (begins_with_feed (drop (i + 1) text)) is_return in
    let two : (i + 1) + 1 ≡ i + 2 = omega arith in
    let d = ap lines_of (drop_more text i 0 h) ∙ return_at (get_or text i 0) (drop (i + 1) text) not_feed is_return
    ∙ feed_first (drop (i + 1) text) f ∙ ap (λ cs. [] ∷ lines_of cs) (drop-drop 1 (i + 1) text) in
    subst (λ n. lines_of text ≡ take i text ∷ lines_of (drop n text)) two
    (sym so_far ∙ ap (after_front (take i text)) d ∙ front_ended (take i text) (lines_of (drop ((i + 1) + 1) text)))

first_of_feed : (cs : List ℕ) → begins_with_feed cs ≡ true → 0 < length cs
first_of_feed [] h = absurd (ft h)
first_of_feed (c ∷ cs) h = omega arith

pub begins_at : (i : ℕ) (text : List ℕ) → i < length text → begins_with_feed (drop i text) ≡ eqb (get_or text i 0) 10
begins_at i text h = ap begins_with_feed (drop_more text i 0 h)

pub other_found : (i : ℕ) (text : List ℕ) → i < length text → get_or text i 0 ≢ 10 → (eqb (get_or text i 0) 13 && begins_with_feed (drop (i + 1) text)) ≡ false → seen i text ≡ lines_of text
    → seen (i + 1) text ≡ lines_of text
other_found i text h differs other so_far =
    let not_feed = ne_eqb (get_or text i 0) 10 differs in
    let d = ap lines_of (drop_more text i 0 h) ∙ other_at (get_or text i 0) (drop (i + 1) text) not_feed other in
    rw (take_more text i 0 h) (front_more (take i text) (get_or text i 0) (lines_of (drop (i + 1) text)) ∙ ap (after_front (take i text)) (sym d) ∙ so_far)

some_front : (text : List ℕ) → 0 < length text → after_front text [] ≡ text ∷ []
some_front [] h = absurd (omega arith)
some_front (c ∷ cs) h = front_alone c cs

pub none_found : (i : ℕ) (text : List ℕ) → 0 < length text → length text ≤ i → seen i text ≡ lines_of text → lines_of text ≡ text ∷ []
none_found i text some h so_far =
    let t = take_all i text h in
    let d = drop_all i text h in
    sym so_far ∙ rw (t, d) (some_front text some)

-- the same, with the rest as a slice

pub found_feed : (i : ℕ) (text : List ℕ) → i < length text → get_or text i 0 ≡ 10 → seen i text ≡ lines_of text → lines_of text ≡ take i text ∷ lines_of (take (length text - (i + 1)) (drop (i + 1) text))
found_feed i text h e so_far = rw (take_rest text (i + 1)) (feed_found i text h (eq-eqb (get_or text i 0) 10 e) so_far)

pub found_return : (i : ℕ) (text : List ℕ) → i < length text → get_or text i 0 ≢ 10 → (eqb (get_or text i 0) 13 && begins_with_feed (drop (i + 1) text)) ≡ true → seen i text ≡ lines_of text
    → lines_of text ≡ take i text ∷ lines_of (take (length text - (i + 2)) (drop (i + 2) text))
found_return i text h differs is_return so_far = rw (take_rest text (i + 2)) (return_found i text h (ne_eqb (get_or text i 0) 10 differs) is_return so_far)

pub found_none : (i : ℕ) (text : List ℕ) → 0 < length text → length text ≤ i → seen i text ≡ lines_of text → lines_of text ≡ text ∷ lines_of (take (length text - length text) (drop (length text) text))
found_none i text some h so_far =
    let full : length text ≤ length text = omega arith in
    let d = drop_all (length text) text full in
    let n : length text - length text ≡ 0 = omega arith in
    rw (d, n) (none_found i text some h so_far)
