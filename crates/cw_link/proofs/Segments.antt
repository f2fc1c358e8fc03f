-- One segment more.
use Rattle.std.proofs.Common.{◌≡◌, ◌<◌, ◌≤◌, ◌+◌, ◌-◌, ◌^◌, min, option_map, Some, slice_get, refl, ℕ, List, [], ◌∷◌, ◌++◌, length, map, drop, get_or, append_assoc, sym, ap, ◌∙◌, arith}
use Rattle.std.proofs.lemmas.List.{drop_more, drop_all}
use Rattle.cw_view.specs.declared.view.View.{View}
use Rattle.cw_link.specs.Contents.{contents_of, Contents}
use Rattle.std.proofs.lemmas.Option.{slice_get-map, slice_get_read}
use Rattle.cw_unit.specs.declared.layout.Limits.{Limits}
use Rattle.cw_tmpl.specs.Pieces.{fill}
use Rattle.cw_place.specs.Placement.{told_words}
use Rattle.cw_link.specs.Relocation.{Links, linked_word}
use Rattle.cw_link.specs.Presets.{FilledWord}
use Rattle.cw_link.specs.LinkedImage.{filled_word, presets_from, code_end, links_at, filled_from}

pub rest_of : (views : List View) (g : ℕ) (view : View) → g < length views → view ≡ get_or views g view → map contents_of (drop g views) ≡ contents_of view ∷ map contents_of (drop (g + 1) views)
rest_of views g view lt is = ap (map contents_of) (drop_more views g view lt) ∙ ap (λ v. contents_of v ∷ map contents_of (drop (g + 1) views)) (sym is)

pub next_presets : (views : List View) (homes : List (List ℕ)) (g : ℕ) (view : View) (own : List ℕ) (done : List FilledWord) (all : List FilledWord) → g < length views → view ≡ get_or views g view → own ≡ get_or homes g []
    → done ++ presets_from g homes (map contents_of (drop g views)) ≡ all → (done ++ map (filled_word (g + 1) own) (contents_of view).presets) ++ presets_from (g + 1) homes (map contents_of (drop (g + 1) views)) ≡ all
next_presets views homes g view own done all lt is home h =
    let more = presets_from (g + 1) homes (map contents_of (drop (g + 1) views)) in
    append_assoc done (map (filled_word (g + 1) own) (contents_of view).presets) more
    ∙ ap (λ hs. done ++ (map (filled_word (g + 1) hs) (contents_of view).presets ++ more)) home ∙ ap (λ cs. done ++ presets_from g homes cs) (sym (rest_of views g view lt is)) ∙ h

-- ---- where code ends

end_above : (start : ℕ) (cs : List Contents) → start ≤ code_end start cs
end_above start [] = omega arith
end_above start (c ∷ cs) = let more = end_above (start + length c.code) cs in omega (arith, more)

-- the code of one segment more ends before the end of all
pub code_within : (views : List View) (g start end : ℕ) (view : View) → g < length views → view ≡ get_or views g view → code_end start (map contents_of (drop g views)) ≡ end → start + length (contents_of view).code ≤ end
code_within views g start end view lt is h =
    let e = ap (code_end start) (rest_of views g view lt is) in
    let more = end_above (start + length (contents_of view).code) (map contents_of (drop (g + 1) views)) in
    omega (arith, e, more, h)

pub code_fits : (views : List View) (g start end most : ℕ) (view : View) (code : List ℕ) → g < length views → view ≡ get_or views g view → code_end start (map contents_of (drop g views)) ≡ end
    → code ≡ (contents_of view).code → end ≤ most → start + length code ≤ most
code_fits views g start end most view code lt is h same short = omega (arith, code_within views g start end view lt is h, ap length same, short)

-- ---- how long code is

told-plus : (a n m : ℕ) → min (min a m + n) m ≡ min (a + n) m
told-plus a n m = omega arith

told_end : (a : ℕ) (cs : List Contents) → told_words (code_end (told_words a) cs) ≡ told_words (code_end a cs)
told_end a [] = let e : (x m : ℕ) → min (min x m) m ≡ min x m = λ x m. omega arith in e a (2 ^ 64 - 1)
told_end a (c ∷ cs) =
    let n = length c.code in
    sym (told_end (told_words a + n) cs) ∙ ap (λ x. told_words (code_end x cs)) (told-plus a n (2 ^ 64 - 1)) ∙ told_end (a + n) cs

pub next_size : (views : List View) (g size sum : ℕ) (view : View) (total : ℕ) → g < length views → view ≡ get_or views g view → sum ≡ told_words (size + length (contents_of view).code)
    → told_words (code_end size (map contents_of (drop g views))) ≡ total → told_words (code_end sum (map contents_of (drop (g + 1) views))) ≡ total
next_size views g size sum view total lt is e h =
    let rest = map contents_of (drop (g + 1) views) in
    ap (λ x. told_words (code_end x rest)) e ∙ told_end (size + length (contents_of view).code) rest ∙ ap (λ cs. told_words (code_end size cs)) (sym (rest_of views g view lt is)) ∙ h

-- ---- one segment's words more

pub links_are : (a b : Links) → a.homes ≡ b.homes → a.definitions ≡ b.definitions → a.start ≡ b.start → a.number ≡ b.number → a.next ≡ b.next → a ≡ b
links_are a b p q r s t = λ i. record { homes = p i; definitions = q i; start = r i; number = s i; next = t i }

pub next_code : (views : List View) (limits : Limits) (total code new : List ℕ) (g start end : ℕ) (view : View) (links : Links) → g < length views → view ≡ get_or views g view → end ≡ start + length (contents_of view).code
    → new ≡ fill (linked_word links limits) start (contents_of view).relocs code → links ≡ links_at (map contents_of views) g start (contents_of view) (map contents_of (drop (g + 1) views))
    → filled_from (map contents_of views) limits g start (map contents_of (drop g views)) code ≡ total → filled_from (map contents_of views) limits (g + 1) end (map contents_of (drop (g + 1) views)) new ≡ total
next_code views limits total code new g start end view links lt is end_is new_is links_is h =
    let all = map contents_of views in
    let rest = map contents_of (drop (g + 1) views) in
    ap (λ e. filled_from all limits (g + 1) e rest new) end_is
    ∙ ap (λ c. filled_from all limits (g + 1) (start + length (contents_of view).code) rest c) (new_is ∙ ap (λ l. fill (linked_word l limits) start (contents_of view).relocs code) links_is)
    ∙ ap (λ cs. filled_from all limits g start cs code) (sym (rest_of views g view lt is)) ∙ h

pub contents_at : (views : List View) (g : ℕ) (view : View) → g < length views → view ≡ get_or views g view → slice_get (map contents_of views) g ≡ Some (contents_of view)
contents_at views g view lt is = slice_get-map contents_of views g ∙ ap (option_map contents_of) (slice_get_read views (length views) g view refl lt is)

pub next_end : (views : List View) (g start end : ℕ) (view : View) (total : ℕ) → g < length views → view ≡ get_or views g view → end ≡ start + length (contents_of view).code
    → code_end start (map contents_of (drop g views)) ≡ total → code_end end (map contents_of (drop (g + 1) views)) ≡ total
next_end views g start end view total lt is end_is h =
    ap (λ e. code_end e (map contents_of (drop (g + 1) views))) end_is ∙ ap (code_end start) (sym (rest_of views g view lt is)) ∙ h

told-same : (a m : ℕ) → a ≤ m → a ≡ min a m
told-same a m le = omega arith

pub all_size : (views : List View) (g size total : ℕ) → length views ≤ g → size < 2 ^ 64 → told_words (code_end size (map contents_of (drop g views))) ≡ total → size ≡ total
all_size views g size total le small h =
    let fits : size ≤ 2 ^ 64 - 1 = omega (arith, small) in
    told-same size (2 ^ 64 - 1) fits ∙ ap (λ vs. told_words (code_end size (map contents_of vs))) (sym (drop_all g views le)) ∙ h
