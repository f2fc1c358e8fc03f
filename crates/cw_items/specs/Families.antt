-- How many words there are. Something that is overlaid on another thing is in that one's family; a family reaches to the end of the thing in
-- it that ends last, so each thing adds to the words of its area what its family grows by. The areas are the frame of each RECURSIVE
-- procedure, and the rest of the segment. An area has at most 32,768 words; above that, they are not counted.
-- Official Definition of CORAL 66, "Overlay declarations"; the limit is this project's profile.
use Rattle.std.specs.Prelude.{ℕ, nat_le, nat_eq, ◌+◌, ◌-◌, max, List, [], ◌∷◌, ◌++◌, Bool, true, false, Option, Some, None, if◌then◌else◌}
use Rattle.std.specs.Map.{lookup}
use Rattle.indexmap.specs.IndexMap.{insert_entry}
use Rattle.cw_table.specs.declared.table.Row.{Row}
use Rattle.cw_table.specs.Rows.{item_at}
use Rattle.cw_data.specs.scale.declared.fault.Rule.TheVariants as rule
use Rattle.cw_data.specs.scale.Faults.{Judgement, fine, unless, both}
use Rattle.cw_items.specs.declared.thing.Owner.{Owner}
use Rattle.cw_items.specs.declared.thing.Base.{Base}
use Rattle.cw_items.specs.declared.thing.Sort.{Sort}
use Rattle.cw_items.specs.declared.thing.Thing.{Thing}
use Rattle.cw_items.specs.declared.families.Site.{Site}
use Rattle.cw_items.specs.Things.{capped, is_fixed, amount_or_none}

-- numbers of words by tokens
abbrev pub Counts : Type 0
Counts = List (ℕ × ℕ)

abbrev pub count_in : Counts → (token : ℕ) → ℕ
count_in cs token = amount_or_none (lookup (nat_eq token) cs)

abbrev pub with_count : Counts → (token n : ℕ) → Counts
with_count cs token n = insert_entry nat_eq cs token n

-- the frame in which a procedure's things stand
abbrev pub frame_of_owner : Option Owner → Option ℕ
frame_of_owner None = None
frame_of_owner (Some o) = if o.recursive then Some o.token else None

-- a string is in no frame
abbrev pub frame_of : Sort → Option Owner → Option ℕ
frame_of s o = if is_fixed s then None else frame_of_owner o

-- a thing of its own begins a family
abbrev pub own_site : Thing → Site
own_site t = record { root = t.at.token; place = 0; frame = frame_of t.sort t.owner }

abbrev pub site_on : (base : Option Site) → Base → Thing → Site
site_on None b t = own_site t
site_on (Some s) b t = record { root = s.root; place = capped (s.place + b.word); frame = s.frame }

abbrev pub site_by : List (Row Site) → Option Base → Thing → Site
site_by sites None t = own_site t
site_by sites (Some b) t = site_on (item_at sites b.token) b t

-- where a thing stands in its family, by where those before it do
abbrev pub site_of : List (Row Site) → Thing → Site
site_of sites t = site_by sites t.base t

-- of the things so far: where they stand, how far each family reaches, how many words the frames have, and how many the rest
pub record Known : Type 0 where
  pub sites : List (Row Site)
  pub extents : Counts
  pub frames : Counts
  pub rest : ℕ

abbrev pub nothing_known : Known
nothing_known = record { sites = []; extents = []; frames = []; rest = 0 }

abbrev pub end_of : Thing → Site → ℕ
end_of t s = capped (s.place + t.words)

-- the words by which a family grows
abbrev pub growth : Known → Site → (end : ℕ) → ℕ
growth k s end = end - count_in k.extents s.root

-- the words of the area of a frame, or of the rest, with so many more
abbrev pub area_with : Known → (frame : Option ℕ) → (more : ℕ) → ℕ
area_with k None n = capped (k.rest + n)
area_with k (Some f) n = capped (count_in k.frames f + n)

abbrev pub with_area : Known → List (Row Site) → Counts → (frame : Option ℕ) → (words : ℕ) → Known
with_area k sites extents None n = record { sites = sites; extents = extents; frames = k.frames; rest = n }
with_area k sites extents (Some f) n = record { sites = sites; extents = extents; frames = with_count k.frames f n; rest = k.rest }

-- the same with one more site
abbrev pub with_place : Known → (token : ℕ) → Site → Known
with_place k token s = record { sites = k.sites ++ record { token = token; item = s } ∷ []; extents = k.extents; frames = k.frames; rest = k.rest }

abbrev pub with_site : Known → Thing → Site → Known
with_site k t s =
    with_area k (k.sites ++ record { token = t.at.token; item = s } ∷ [])
    (with_count k.extents s.root (max (count_in k.extents s.root) (end_of t s)))
    s.frame (area_with k s.frame (growth k s (end_of t s)))

abbrev pub with_thing : Known → Thing → Known
with_thing k t = with_site k t (site_of k.sites t)

abbrev pub has_room : Known → Thing → Site → Bool
has_room k t s = nat_le (area_with k s.frame (growth k s (end_of t s))) 32768

-- the thing with which an area has too many words
abbrev pub thing_judged : Known → Thing → Judgement
thing_judged k t = unless (has_room k t (site_of k.sites t)) rule.TooMany t.at

abbrev pub things_judged : Known → List Thing → Judgement
things_judged k [] = fine
things_judged k (t ∷ ts) = both (thing_judged k t) (things_judged (with_thing k t) ts)

abbrev pub all_known : Known → List Thing → Known
all_known k [] = k
all_known k (t ∷ ts) = all_known (with_thing k t) ts
