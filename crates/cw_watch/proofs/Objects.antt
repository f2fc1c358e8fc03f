-- One object more.
use Rattle.std.proofs.Common.{◌≡◌, ℕ, ◌+◌, ◌<◌, ◌≤◌, List, [], ◌∷◌, ◌++◌, length, map, drop, get_or, flat_map, append_assoc, refl, sym, ap, ◌∙◌, arith}
use Rattle.std.specs.Prelude.{slice_index_or}
use Rattle.std.proofs.lemmas.List.{drop_more}
use Rattle.cw_view.specs.Reading.{family_in, item_in, statement_in}
use Rattle.cw_view.specs.Splitting.{payloads_in}
use Rattle.cw_view.specs.declared.view.View.{View}
use Rattle.cw_link.specs.Contents.{Contents, values_in, records_of, contents_of}
use Rattle.cw_link.specs.LinkedImage.{code_end}
use Rattle.cw_object.specs.ObjectContents.{contents_in}
use Rattle.cw_watch.specs.Watching.{segment_places, object_places, places_from, line_of, object_lines, lines_from}
use Rattle.cw_watch.specs.declared.lines.ItemLine.{ItemLine}

-- the view of an object of a list
pub record IsViewAt (objects : List (List ℕ)) (i : ℕ) (view : View) : Type 0 where
  pub within : i < length objects
  pub object : List ℕ
  pub rest : drop i objects ≡ object ∷ drop (i + 1) objects
  pub bytes : view.bytes.now ≡ object
  pub contents : contents_of view ≡ contents_in object

pub view-at : (objects : List (List ℕ)) (i : ℕ) (x bytes : List ℕ) (view : View) → i < length objects → x ≡ get_or objects i x → bytes ≡ x → view.bytes.now ≡ bytes → contents_of view ≡ contents_in bytes
    → IsViewAt objects i view
view-at objects i x bytes view within is same told tells = record {
  within = within;
  object = x;
  rest = drop_more objects i x within ∙ ap (λ o. o ∷ drop (i + 1) objects) (sym is);
  bytes = told ∙ same;
  contents = tells ∙ ap contents_in same;
}

-- ---- lines

lines_are : (homes : List ℕ) (view : View) (object : List ℕ) → view.bytes.now ≡ object → contents_of view ≡ contents_in object
    → flat_map (line_of view.name (records_of family_in 3 view) homes) (records_of item_in 4 view) ≡ object_lines homes object
lines_are homes view object bytes contents =
    ap (λ (c : Contents). flat_map (line_of c.name c.families homes) (records_of item_in 4 view)) contents
    ∙ ap (λ b. flat_map (line_of (contents_in object).name (contents_in object).families homes) (values_in item_in (payloads_in 4 (drop 6 b)))) bytes

pub next_lines : (objects : List (List ℕ)) (i : ℕ) (view : View) (homes : List (List ℕ)) (own : List ℕ) (lines new all : List ItemLine) → IsViewAt objects i view → own ≡ slice_index_or homes i []
    → new ≡ lines ++ flat_map (line_of view.name (records_of family_in 3 view) own) (records_of item_in 4 view) → lines ++ lines_from i homes (drop i objects) ≡ all
    → new ++ lines_from (i + 1) homes (drop (i + 1) objects) ≡ all
next_lines objects i view homes own lines new all at home more h =
    let rest = lines_from (i + 1) homes (drop (i + 1) objects) in
    let one : flat_map (line_of view.name (records_of family_in 3 view) own) (records_of item_in 4 view) ≡ object_lines (slice_index_or homes i []) at.object =
    lines_are own view at.object at.bytes at.contents ∙ ap (λ hs. object_lines hs at.object) home in
    ap (λ ls. ls ++ rest) (more ∙ ap (λ ls. lines ++ ls) one) ∙ append_assoc lines (object_lines (slice_index_or homes i []) at.object) rest ∙ ap (λ os. lines ++ lines_from i homes os) (sym at.rest) ∙ h

-- ---- places

places_are : (start : ℕ) (name : List ℕ) (line : ℕ) (view : View) (object : List ℕ) → view.bytes.now ≡ object → contents_of view ≡ contents_in object
    → segment_places start name line view.name (records_of statement_in 10 view) ≡ object_places start name line object
places_are start name line view object bytes contents =
    ap (λ (c : Contents). segment_places start name line c.name (records_of statement_in 10 view)) contents
    ∙ ap (λ b. segment_places start name line (contents_in object).name (values_in statement_in (payloads_in 10 (drop 6 b)))) bytes

code_is : (view : View) (object : List ℕ) → contents_of view ≡ contents_in object → length view.code.now ≡ length (contents_in object).code
code_is view object contents = ap (λ (c : Contents). length c.code) contents

pub next_places : (objects : List (List ℕ)) (i start end : ℕ) (name : List ℕ) (line : ℕ) (view : View) (code places new all : List ℕ) → IsViewAt objects i view → code ≡ view.code.now → end ≡ start + length code
    → new ≡ places ++ segment_places start name line view.name (records_of statement_in 10 view) → places ++ places_from start name line (drop i objects) ≡ all
    → new ++ places_from end name line (drop (i + 1) objects) ≡ all
next_places objects i start end name line view code places new all at is end_is more h =
    let rest = places_from (start + length (contents_in at.object).code) name line (drop (i + 1) objects) in
    let stop : end ≡ start + length (contents_in at.object).code = end_is ∙ ap (λ c. start + length c) is ∙ ap (λ n. start + n) (code_is view at.object at.contents) in
    ap (λ e. new ++ places_from e name line (drop (i + 1) objects)) stop
    ∙ ap (λ ps. ps ++ rest) (more ∙ ap (λ ps. places ++ ps) (places_are start name line view at.object at.bytes at.contents))
    ∙ append_assoc places (object_places start name line at.object) rest ∙ ap (λ os. places ++ places_from start name line os) (sym at.rest) ∙ h

-- ---- where code ends

pub end_above : (start : ℕ) (cs : List Contents) → start ≤ code_end start cs
end_above start [] = omega arith
end_above start (c ∷ cs) = let more = end_above (start + length c.code) cs in omega (arith, more)

pub next_end : (objects : List (List ℕ)) (i start end total : ℕ) (view : View) (code : List ℕ) → IsViewAt objects i view → code ≡ view.code.now → end ≡ start + length code
    → code_end start (map contents_in (drop i objects)) ≡ total → code_end end (map contents_in (drop (i + 1) objects)) ≡ total
next_end objects i start end total view code at is end_is h =
    let stop : end ≡ start + length (contents_in at.object).code = end_is ∙ ap (λ c. start + length c) is ∙ ap (λ n. start + n) (code_is view at.object at.contents) in
    ap (λ e. code_end e (map contents_in (drop (i + 1) objects))) stop ∙ ap (λ os. code_end start (map contents_in os)) (sym at.rest) ∙ h

pub code_within : (objects : List (List ℕ)) (i start total : ℕ) (view : View) (code : List ℕ) → IsViewAt objects i view → code ≡ view.code.now
    → code_end start (map contents_in (drop i objects)) ≡ total → start + length code ≤ total
code_within objects i start total view code at is h =
    let whole = next_end objects i start (start + length code) total view code at is refl h in
    let above = end_above (start + length code) (map contents_in (drop (i + 1) objects)) in
    omega (arith, whole, above)
