-- The numbers that the things of a text have in its unit, by the tokens of their declarations; a string or a FOR has its own token. Each
-- sort counts from 0 in order of the text. Beyond the largest number of its type nothing is counted.
use Rattle.std.specs.Prelude.{ℕ, ◌+◌, min, nat_lt, List, [], ◌∷◌, ◌++◌, Option, Some, None, if◌then◌else◌}
use Rattle.cw_table.specs.declared.table.Row.{Row}
use Rattle.cw_tree.specs.declared.segment.Raw.{Raw}
use Rattle.cw_tree.specs.declared.statement.RawBlock.{out-RawBlock}
use Rattle.cw_facts.specs.declared.fact.Declaration.{Declaration}
use Rattle.cw_facts.specs.declared.fact.Kind.{Kind}
use Rattle.cw_facts.specs.declared.fact.Kind.TheVariants as kind
use Rattle.cw_scope.specs.declared.resolve.Named.{Named}
use Rattle.cw_items.specs.declared.thing.Thing.{Thing}
use Rattle.cw_items.specs.Things.{text_things}
use Rattle.cw_number.specs.declared.listed.Listing.{Listing}
use Rattle.cw_number.specs.declared.listed.Listing.TheVariants as listing
use Rattle.cw_number.specs.declared.numbered.Numbered.{Numbered}
use Rattle.cw_number.specs.declared.numbered.Numbered.TheVariants as numbered
use Rattle.cw_number.specs.declared.numbers.Counts.{Counts}
use Rattle.cw_number.specs.Listed.{listed_of}

abbrev pub next_to : (largest : ℕ) → ℕ → ℕ
next_to largest n = min (n + 1) largest

abbrev pub next_byte : ℕ → ℕ
next_byte = next_to 255

abbrev pub next_short : ℕ → ℕ
next_short = next_to 65535

abbrev pub next_long : ℕ → ℕ
next_long = next_to 4294967295

-- the items are what the text stores
abbrev pub item_rows : (number : ℕ) → List Thing → List (Row Numbered)
item_rows n [] = []
item_rows n (t ∷ ts) = record { token = t.at.token; item = numbered.Item n } ∷ item_rows (next_long n) ts

abbrev pub row_if : (token : ℕ) → Option Numbered → List (Row Numbered)
row_if token None = []
row_if token (Some n) = record { token = token; item = n } ∷ []

-- ---- what the communicators list

abbrev pub listed_number : (descriptor : ℕ) → Listing → Option Numbered
listed_number d listing.Data = None
listed_number d listing.Label = Some (numbered.CommonLabel d)
listed_number d listing.Switch = Some (numbered.CommonSwitch d)
listed_number d listing.Proc = Some (numbered.CommonProc d)

abbrev pub listed_rows : (descriptor : ℕ) → List (Row Listing) → List (Row Numbered)
listed_rows d [] = []
listed_rows d (r ∷ rs) = row_if r.token (listed_number d r.item) ++ listed_rows (next_short d) rs

abbrev pub built_in_number : Kind → Option Numbered
built_in_number kind.ReadByte = Some numbered.ReadByte
built_in_number kind.WriteByte = Some numbered.WriteByte
built_in_number _ = None

-- ---- what is declared in the segment's outermost block and inside it

abbrev pub none_counted : Counts
none_counted = record { labels = 0; switches = 0; procs = 0; controls = 0 }

abbrev pub own_number : Counts → Kind → Option Numbered
own_number c kind.Label = Some (numbered.Label c.labels)
own_number c kind.Switch = Some (numbered.Switch c.switches)
own_number c (kind.Proc answer) = Some (numbered.Proc c.procs)
own_number c kind.LabelParam = Some (numbered.Control c.controls)
own_number c kind.SwitchParam = Some (numbered.Control c.controls)
own_number c (kind.ProcParam answer) = Some (numbered.Control c.controls)
own_number c _ = None

abbrev pub with_control : Counts → Counts
with_control c = record { labels = c.labels; switches = c.switches; procs = c.procs; controls = next_byte c.controls }

-- a procedure's parameters follow it
abbrev pub counted : Counts → Kind → Counts
counted c kind.Label = record { labels = next_long c.labels; switches = c.switches; procs = c.procs; controls = c.controls }
counted c kind.Switch = record { labels = c.labels; switches = next_long c.switches; procs = c.procs; controls = c.controls }
counted c (kind.Proc answer) = record { labels = c.labels; switches = c.switches; procs = next_short c.procs; controls = 0 }
counted c kind.LabelParam = with_control c
counted c kind.SwitchParam = with_control c
counted c (kind.ProcParam answer) = with_control c
counted c _ = c

-- what stands before the outermost block is listed by a communicator
abbrev pub declared_number : (begin : ℕ) → Counts → Declaration → Option Numbered
declared_number begin c d = if nat_lt d.name.at.token begin then built_in_number d.kind else own_number c d.kind

abbrev pub counted_after : (begin : ℕ) → Counts → Declaration → Counts
counted_after begin c d = if nat_lt d.name.at.token begin then c else counted c d.kind

abbrev pub declared_rows : (begin : ℕ) → Counts → List (Row Declaration) → List (Row Numbered)
declared_rows begin c [] = []
declared_rows begin c (r ∷ rs) = row_if r.token (declared_number begin c r.item) ++ declared_rows begin (counted_after begin c r.item) rs

-- ---- the whole text

-- where the outermost block begins
abbrev pub begin_of : Raw → ℕ
begin_of raw = (out-RawBlock raw.block).at.token

abbrev pub numbers_of : Named → List (Row Numbered)
numbers_of named =
    item_rows 0 (text_things named named.raw.now)
    ++ (listed_rows 0 (listed_of named.raw.now) ++ declared_rows (begin_of named.raw.now) none_counted named.declarations)
