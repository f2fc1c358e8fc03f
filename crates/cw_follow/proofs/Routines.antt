-- The routines of the library for the processor that is watched, and what is called in all places: the stops.
use Rattle.std.proofs.Common.{◌≡◌, ◌≢◌, ℕ, suc, ◌+◌, ◌*◌, ◌%◌, ◌<◌, Bool, true, false, List, [], ◌∷◌, length, lit<, refl, sym, ap, ap₂, ◌∙◌, subst, arith}
use Rattle.std.proofs.lemmas.Bool.{false≢true}
use Rattle.cw_track.proofs.Paths.{Path, stay, next, join}
use Rattle.cw_i86.specs.declared.flags.Flags.{Flags}
use Rattle.cw_i86.specs.Encoding.{bytes_of}
use Rattle.cw_i86.specs.declared.instr.Instr.{Instr}
use Rattle.cw_i86.specs.declared.instr.Instr.TheVariants as i86
use Rattle.cw_i86.specs.MachineRun as run
use Rattle.cw_i86.specs.MachineRun.{Running, end_told}
use Rattle.cw_image.specs.Begun.{StatementPlace, lines_at}
use Rattle.cw_run86.specs.Processor.{Processor, Told, processor_step, observed}
use Rattle.cw_run86.specs.Views as ways
use Rattle.cw_run86.specs.Views.{View, Sees, put_word}
use Rattle.cw_unit.specs.Stop.{StopKind, Overflow, ZeroDivisor, AddressRange, IndexRange, stop_number, Stopped, Ended}
use Rattle.cw_unit.specs.Behaviour.{Observation}
use Rattle.cw_tmpl.specs.Library.{stop_place, library_bytes}
use Rattle.cw_routines.specs.Ways.{HasAll as WayHasAll, QuietAll, At, Way, stay as stays, go, Leads as Goes, Over as Rests, view as processor_view}
use Rattle.cw_routines.specs.Results.{Stands, Quiet, InLibrary, Tells}
use Rattle.cw_routines.proofs.Facts.{put_at, put_off}
use Rattle.cw_follow.specs.Showing.{shown_as}
use Rattle.cw_follow.proofs.Watched.{Watched, watched_step, watched_machine, step_silent, fresh}
use Rattle.cw_follow.proofs.Rows.{Rows}
use Rattle.cw_follow.proofs.Chains.{IsAt, Is, Leads, at_work, view, placed, has, to_place, call, silently, more, last}
use Rattle.cw_follow.proofs.Standing.{Has, HasWord, Image, Ignores, HasAll}

-- ---- words

-- ---- the end of a run

-- the processor rests, and shows this; nothing has been noted
pub record Over (shown : Observation) (p : Watched) : Type 0 where
  pub shows : shown_as (observed p.processor) ≡ shown
  pub still : processor_step p.processor ≡ p.processor
  pub silent : p.begun ≡ []

stop_shows : (kind : StopKind) (output : List ℕ) (segment line : ℕ) → shown_as (record { output = output; end = run.Stopped (stop_number kind) segment line }) ≡ record { output = output; end = Stopped kind segment line }
stop_shows Overflow output segment line = refl
stop_shows _ output segment line = refl

end_shows : (o output : List ℕ) (k s l : ℕ) → o ≡ output → k ≡ 0 → shown_as (record { output = o; end = end_told k s l }) ≡ record { output = output; end = Ended }
end_shows o output k s l eo ek =
    ap (λ x. shown_as (record { output = x; end = end_told k s l })) eo
    ∙ ap (λ x. shown_as (record { output = output; end = end_told x s l })) ek

-- ---- where nothing begins

abbrev pub no_lines : List (ℕ × ℕ) → Bool
no_lines [] = true
no_lines (x ∷ xs) = false

none_of : (xs : List (ℕ × ℕ)) → no_lines xs ≡ true → xs ≡ []
none_of [] e = refl
none_of (x ∷ xs) e = absurd (false≢true e)

-- the test of places at which no statement begins
abbrev pub quiet_in : List StatementPlace → ℕ → Bool
quiet_in places k = no_lines (lines_at places k)

pub quiet_at : (places : List StatementPlace) (k : ℕ) → lines_at places k ≡ [] → quiet_in places k ≡ true
quiet_at places k e = ap no_lines e

pub quiet_library : {image : Image} {places : List StatementPlace} → Ignores image places → InLibrary (quiet_in places)
quiet_library {places = places} i k lt = quiet_at places k (i.library k lt)

-- ---- ways of the processor are paths of the processor that is watched

one_step : (places : List StatementPlace) (area : ℕ) (p : Processor) → lines_at places p.state.instruction_pointer ≡ [] → watched_step (fresh places area p) ≡ fresh places area (processor_step p)
unfolding watched_step
one_step places area p none =
    ap (λ es. record { places = places; area = area; processor = processor_step p; overlooks = false; begun = es }) (step_silent (fresh places area p) none refl)

lifts : Rows → (code output : List ℕ) (places : List StatementPlace) (area n : ℕ) (p q : Processor) → Way (Quiet (quiet_in places)) code output n p q → Path (λ o. o ≡ at_work output) watched_machine n (fresh places area p) (fresh places area q)
lifts rows code output places area n p q (stays same z) = stay (ap (fresh places area) same) z
lifts rows code output places area n p q (go {m = m} v s here told more rest) =
    next
    (ap (λ o. (o, [])) (ap shown_as (rows.runs code v p s) ∙ ap (λ o. shown_as (record { output = o; end = Running })) told))
    (one_step places area p (ap (lines_at places) s.place ∙ none_of (lines_at places v.place) here))
    more
    (lifts rows code output places area m (processor_step p) q rest)

-- the flags of a processor
abbrev pub flags_of : Watched → Flags
flags_of p = p.processor.state.flags

-- the view of a routine's law
pub arrives : {image : Image} {at ax cx dx bx sp bp si di : ℕ} {overflow : Bool} {cells stack : ℕ → ℕ} {input : List ℕ} {told : Told} {p : Watched} → Is image at (view ax cx dx bx sp bp si di overflow cells stack input told) p
    → At image.bytes at (processor_view ax cx dx bx sp bp si di cells stack input told) (flags_of p) p.processor
arrives {image} {at} {ax} {cx} {dx} {bx} {sp} {bp} {si} {di} {overflow} {cells} {stack} {input} {told} {p} s =
    record { sees = subst (λ o. Sees image.bytes (placed at (view ax cx dx bx sp bp si di o cells stack input told)) p.processor) (sym s.sees.overflow) s.sees; flags = refl }

-- back from a routine, nothing noted
pub returned : {image : Image} {at ax cx dx bx sp bp si di : ℕ} {flags : Flags} {cells stack : ℕ → ℕ} {input : List ℕ} {told : Told} {q : Processor} (p : Watched) → Ignores image p.places
    → At image.bytes at (processor_view ax cx dx bx sp bp si di cells stack input told) flags q → Is image at (view ax cx dx bx sp bp si di flags.of cells stack input told) (fresh p.places p.area q)
returned p ignores s = record { sees = s.sees; ignores = ignores; overlooks = refl; silent = refl }

-- so many instructions of a routine
pub lifted : Rows → {code output : List ℕ} {n : ℕ} {p : Watched} {T : Processor → Type 0} {U : Watched → Type 0} → p.overlooks ≡ false → p.begun ≡ [] → Goes (Quiet (quiet_in p.places)) code output n p.processor T
    → ((q : Processor) → T q → U (fresh p.places p.area q)) → Leads output n p U
lifted rows {code} {output} {n} {p} sees silent l on =
    let same : fresh p.places p.area p.processor ≡ p = ap₂ (λ x b. record { places = p.places; area = p.area; processor = p.processor; overlooks = x; begun = b }) (sym sees) (sym silent) in
    record {
      reached = fresh p.places p.area l.reached;
      path = subst (λ t. Path (λ o. o ≡ at_work output) watched_machine n t (fresh p.places p.area l.reached)) same (lifts rows code output p.places p.area n p.processor l.reached l.way);
      there = on l.reached l.there;
    }

pub over : {output : List ℕ} {kind : StopKind} {segment line : ℕ} {q : Processor} (p : Watched) → Rests output kind segment line q → Over (record { output = output; end = Stopped kind segment line }) (fresh p.places p.area q)
over {output} {kind} {segment} {line} p r = record { shows = ap shown_as r.shows ∙ stop_shows kind output segment line; still = r.still; silent = refl }

-- ---- views

pub with_ax : {image : Image} {at ax x cx dx bx sp bp si di : ℕ} {overflow : Bool} {cells stack : ℕ → ℕ} {input : List ℕ} {told : Told} {p : Watched} → ax ≡ x
    → Is image at (view ax cx dx bx sp bp si di overflow cells stack input told) p → Is image at (view x cx dx bx sp bp si di overflow cells stack input told) p
with_ax {image} {at} {ax} {x} {cx} {dx} {bx} {sp} {bp} {si} {di} {overflow} {cells} {stack} {input} {told} {p} e s =
    subst (λ a. Is image at (view a cx dx bx sp bp si di overflow cells stack input told) p) e s

-- what a processor holds beside its registers, with the number of the word that SP leads to
pub record Around : Type 0 where
  pub overflow : Bool
  pub top : ℕ
  pub cells : ℕ → ℕ
  pub stack : ℕ → ℕ
  pub left : List ℕ
  pub told : Told

-- and with the registers beside AX
pub record Beside : Type 0 where
  pub cx : ℕ
  pub dx : ℕ
  pub bx : ℕ
  pub si : ℕ
  pub around : Around
  pub open around use *

-- the processor with BP at a record, SP at a word of the stack, and the words of the data area in DI
pub record StackedAt (first : Bool) (image : Image) (at top bp area : ℕ) (cells stack : ℕ → ℕ) (input : List ℕ) (told : Told) (p : Watched) : Type 0 where
  pub ax : ℕ
  pub cx : ℕ
  pub dx : ℕ
  pub bx : ℕ
  pub si : ℕ
  pub overflow : Bool
  pub is : IsAt first image at (view ax cx dx bx (2 * top) bp si area overflow cells stack input told) p

abbrev pub Stacked : (image : Image) (at top bp area : ℕ) (cells stack : ℕ → ℕ) (input : List ℕ) (told : Told) (p : Watched) → Type 0
Stacked image at top bp area cells stack input told p = StackedAt false image at top bp area cells stack input told p

pub leads_on : {output : List ℕ} {n : ℕ} {p : Watched} {T U : Watched → Type 0} → ((q : Watched) → T q → U q) → Leads output n p T → Leads output n p U
leads_on f l = record { reached = l.reached; path = l.path; there = f l.reached l.there }

-- one way behind another
pub joined : {output : List ℕ} {n m : ℕ} {p : Watched} {T U : Watched → Type 0} → (l : Leads output n p T) → Leads output m l.reached U → Leads output (n + m) p U
joined {n = n} {m = m} {p = p} l r = record { reached = r.reached; path = join _ watched_machine n m (n + m) p l.reached r.reached refl l.path r.path; there = r.there }

pub leads_then : {output : List ℕ} {n m : ℕ} {p : Watched} {T U : Watched → Type 0} → Leads output n p T → ((q : Watched) → T q → Leads output m q U) → Leads output (n + m) p U
leads_then l on = joined l (on l.reached l.there)

-- ---- stops

-- the stops with the line behind their call
abbrev pub HasLine : StopKind → Type 0
HasLine Overflow = Unit {0}
HasLine ZeroDivisor = Unit {0}
HasLine AddressRange = Unit {0}
HasLine IndexRange = Unit {0}
HasLine _ = ⊥

-- an instruction of the library
pub in_library : {image : Image} {places : List StatementPlace} → Ignores image places → (place : ℕ) (i : Instr) → place < length library_bytes → ways.Has image.bytes place i → Has image place i
in_library i place it lt h = record { there = h; free = λ e. ap (λ ps. lines_at ps place) (sym i.told) ∙ i.library place lt }

-- instructions of the code, for the laws of pieces of it
pub there_all : (image : Image) (place : ℕ) (is : List Instr) → HasAll image place is → WayHasAll image.bytes place is
there_all image place [] h = tt
there_all image place (i ∷ is) h = (h.0.there, there_all image (place + length (bytes_of i)) is h.1)

pub quiet_all : {image : Image} {places : List StatementPlace} → Ignores image places → (place : ℕ) (is : List Instr) → HasAll image place is → QuietAll (Quiet (quiet_in places)) place is
quiet_all i place [] h = tt
quiet_all {places = places} i place (it ∷ is) h = (quiet_at places place (ap (λ ps. lines_at ps place) i.told ∙ h.0.free refl), quiet_all i (place + length (bytes_of it)) is h.1)

module _ (rows : Rows) where
  -- a stop, with the place of its line on the stack
  stops_at : {image : Image} {p : Watched} (kind : StopKind) (at line n r segment ax cx dx bx bp si di : ℕ) (overflow : Bool) (cells stack : ℕ → ℕ) (input : List ℕ) (told : Told)
      → HasLine kind → Stands image.bytes → n < 32768 → stack n ≡ at → HasWord image at line → line < 65536 → Tells stack bp r segment
      → Is image (stop_place kind) (view ax cx dx bx (2 * n) bp si di overflow cells stack input told) p → Leads told.output 12 p (Over (record { output = told.output; end = Stopped kind segment line }))
  stops_at {image} {p} Overflow at line n r segment ax cx dx bx bp si di overflow cells stack input told has library low there word small tells s =
      lifted rows s.overlooks s.silent (rows.routines.overflow (quiet_in p.places) image.bytes library (quiet_library s.ignores) at line n r segment ax cx dx bx bp si di (flags_of p) cells stack input told p.processor low there word small tells (arrives s)) (λ q t. over p t)
  stops_at {image} {p} ZeroDivisor at line n r segment ax cx dx bx bp si di overflow cells stack input told has library low there word small tells s =
      lifted rows s.overlooks s.silent (rows.routines.zero_divisor (quiet_in p.places) image.bytes library (quiet_library s.ignores) at line n r segment ax cx dx bx bp si di (flags_of p) cells stack input told p.processor low there word small tells (arrives s)) (λ q t. over p t)
  stops_at {image} {p} AddressRange at line n r segment ax cx dx bx bp si di overflow cells stack input told has library low there word small tells s =
      lifted rows s.overlooks s.silent (rows.routines.address (quiet_in p.places) image.bytes library (quiet_library s.ignores) at line n r segment ax cx dx bx bp si di (flags_of p) cells stack input told p.processor low there word small tells (arrives s)) (λ q t. over p t)
  stops_at {image} {p} IndexRange at line n r segment ax cx dx bx bp si di overflow cells stack input told has library low there word small tells s =
      lifted rows s.overlooks s.silent (rows.routines.bounds (quiet_in p.places) image.bytes library (quiet_library s.ignores) at line n r segment ax cx dx bx bp si di (flags_of p) cells stack input told p.processor low there word small tells (arrives s)) (λ q t. over p t)
  stops_at _ at line n r segment ax cx dx bx bp si di overflow cells stack input told has library low there word small tells s = absurd has

  -- a call of a stop, with the line behind it
  pub stops : {image : Image} {p : Watched} (kind : StopKind) (at by line n r segment ax cx dx bx bp si di : ℕ) (overflow : Bool) (cells stack : ℕ → ℕ) (input : List ℕ) (told : Told)
      → HasLine kind → Stands image.bytes → Has image at (i86.Call by) → HasWord image (at + 3) line → line < 65536 → (at + 3 + by) % 65536 ≡ stop_place kind % 65536 → r < 32768 → n < r → (sp : ℕ) → sp ≡ 2 * suc n % 65536
      → (bp + 65534) % 65536 ≡ 2 * r → stack r ≡ segment → segment < 256
      → Is image at (view ax cx dx bx sp bp si di overflow cells stack input told) p → Leads told.output 13 p (Over (record { output = told.output; end = Stopped kind segment line }))
  stops {image} {p} kind at by line n r segment ax cx dx bx bp si di overflow cells stack input told has_line library h word small to high low sp top there number few s =
      let within = word.within in
      let fits = s.sees.fits in
      let behind : (at + 3) % 65536 ≡ at + 3 = omega arith in
      let stack1 : ℕ → ℕ = put_word stack n (at + 3) in
      let other : r ≢ n = omega arith in
      let fit : n < 32768 = omega arith in
      more rows {to = stop_place kind} {w = view ax cx dx bx (2 * n) bp si di overflow cells stack1 input told} s refl (to_place to (call rows by n (at + 3) fit top behind h s)) (λ q s.
      stops_at kind (at + 3) line n r segment ax cx dx bx bp si di overflow cells stack1 input told has_line library fit (put_at stack n (at + 3)) word small
      (record { there = there; low = high; number = put_off stack n (at + 3) r other ∙ number; few = few }) s)

  -- behind HLT
  halted : {image : Image} {at : ℕ} {v : View} {p : Watched} {shown : Observation} → Has image (at % 65536) i86.Hlt → Is image at v p
      → shown_as (record { output = v.told.output; end = end_told v.told.kind v.told.segment (v.told.line_low + 256 * v.told.line_high) }) ≡ shown → Over shown (watched_step p)
  unfolding watched_step
  halted {image} {at} {v} {p} h s e = record { shows = ap shown_as (rows.halts image.bytes (placed at v) p.processor h.there s.sees) ∙ e; still = rows.rests image.bytes (placed at v) p.processor h.there s.sees; silent = silently i86.Hlt h s }

  -- the end of the program
  pub ends : {image : Image} {p : Watched} {at : ℕ} {v : View} {output : List ℕ} → Stands image.bytes → at % 65536 ≡ 3 % 65536 → v.told.kind ≡ 0 → v.told.output ≡ output → Is image at v p → Leads output 1 p (Over (record { output = output; end = Ended }))
  ends {image} {p} {at} {v} {output} library there kind wrote s' =
      let s : Is image 3 v p = to_place there s' in
      last rows s wrote (halted (in_library s.ignores 3 i86.Hlt (lit< tt) library.0.1.0) s (end_shows v.told.output output v.told.kind v.told.segment (v.told.line_low + 256 * v.told.line_high) wrote kind))
