-- The stops.
use Rattle.std.proofs.Common.{◌≡◌, ℕ, suc, sym, subst, ◌+◌, ◌*◌, ◌/◌, ◌%◌, ◌<◌, ◌≤◌, List, [], ◌∷◌, ◌++◌, refl, ap, ◌∙◌, arith, lit<, lit≤}
use Rattle.std.proofs.lemmas.List.{append-nil}
use Rattle.cw_i86.specs.MachineRun.{end_told, Stopped, End, Observed}
use Rattle.cw_i86.specs.declared.flags.Flags.{Flags}
use Rattle.cw_i86.specs.declared.instr.Place.TheVariants as places
use Rattle.cw_i86.specs.declared.instr.Instr.TheVariants as i86
use Rattle.cw_run86.specs.Processor.{Processor, Told}
use Rattle.cw_run86.proofs.Tests.{Finds}
use Rattle.cw_run86.proofs.Jumps.{halts, rests}
use Rattle.cw_unit.specs.Stop.{StopKind, Overflow, AddressRange, stop_number}
use Rattle.cw_i86.specs.State.{sign_extended}
use Rattle.cw_tmpl.specs.Library.{stop_routine, told_stop}
use Rattle.cw_routines.specs.Ways.{At, HasAll, HasWord, view, Leads, Over}
use Rattle.cw_routines.specs.Results.{Stands, Tells}
use Rattle.cw_routines.proofs.Arrive.{here}
use Rattle.cw_routines.proofs.Sources.{Register, Slot, InCode}
use Rattle.cw_routines.proofs.Acts as acts
use Rattle.cw_routines.proofs.Chains.{LowByte, LowFromHigh, Load, Pop, more, last, straight}
use Rattle.cw_routines.proofs.Places.{to_place, line_stands, tell_stands, step_address_stands, step_sum_stands, step_line_stands}

line_parts : (line : ℕ) → line < 65536 → line % 256 + 256 * ((line / 256 * 256 + line / 256) % 256) ≡ line
line_parts line lt = omega arith

low_is : (ax k : ℕ) → k < 256 → (ax / 256 * 256 + k) % 256 ≡ k
low_is ax k lt = omega arith

byte_whole : (n : ℕ) → n < 256 → n % 256 ≡ n
byte_whole n lt = omega arith

pub few_kinds : (kind : StopKind) → stop_number kind < 256
few_kinds Overflow = lit< tt
few_kinds _ = lit< tt

kind_shows : (kind : StopKind) (segment line : ℕ) → end_told (stop_number kind) segment line ≡ Stopped (stop_number kind) segment line
kind_shows Overflow segment line = refl
kind_shows _ segment line = refl

same_shown : (kind : StopKind) (o output : List ℕ) (k s segment l line : ℕ) → o ≡ output → k ≡ stop_number kind → s ≡ segment → l ≡ line
    → (let made : List ℕ → End → Observed = λ o e. record { output = o; end = e } in made o (end_told k s l) ≡ made output (Stopped (stop_number kind) segment line))
same_shown kind o output k s segment l line eo ek es el =
    let made : List ℕ → End → Observed = λ o e. record { output = o; end = e } in
    ap (λ x. made x (end_told k s l)) eo ∙ ap (λ x. made output (end_told x s l)) ek ∙ ap (λ x. made output (end_told (stop_number kind) x l)) es
    ∙ ap (λ x. made output (end_told (stop_number kind) segment x)) el ∙ ap (made output) (kind_shows kind segment line)

module _ (finds : Finds) (Quiet : ℕ → Type 0) (code : List ℕ) (stands : Stands code) (library : (k : ℕ) → k < 438 → Quiet k) where
  -- places from one on, up to another
  pub run : {at : ℕ} (to : ℕ) → to ≤ 438 → (k : ℕ) → at ≤ k → k < to → Quiet k
  run to le k lo hi = library k (omega arith)

  -- the kind in AL is told, with the segment of the record and the line in DX
  pub tells : {ax cx line bx sp bp si di : ℕ} {cells stack : ℕ → ℕ} {input : List ℕ} {told : Told} {f : Flags} {p : Processor} (kind : StopKind) (r segment : ℕ)
      → ax % 256 ≡ stop_number kind → Tells stack bp r segment → line < 65536
      → At code 55 (view ax cx line bx sp bp si di cells stack input told) f p → Leads Quiet code told.output 8 p (Over told.output kind segment line)
  tells {ax} {cx} {line} {bx} {sp} {bp} {si} {di} {cells} {stack} {input} {told} {f} {p} kind r segment is t small s =
      let o = told.output in
      let h = tell_stands code stands in
      let o1 : o ++ [] ≡ o = append-nil o in
      let o2 : (o ++ []) ++ [] ≡ o = append-nil (o ++ []) ∙ o1 in
      let o3 : ((o ++ []) ++ []) ++ [] ≡ o = append-nil ((o ++ []) ++ []) ∙ o2 in
      let o4 : (((o ++ []) ++ []) ++ []) ++ [] ≡ o = append-nil (((o ++ []) ++ []) ++ []) ∙ o3 in
      let whole : segment % 256 ≡ segment = byte_whole segment t.few in
      more Quiet code o finds s (library 55 (lit< tt)) refl (acts.out finds s 0x13 h.0) (λ q u.
      straight Quiet code o finds (Load 0 (Slot (places.Near 6 0xFE) r segment) ∷ []) {n = 6} (run 60 (lit≤ tt)) o1 (h.1.0, tt)
      ((refl, t.low, t.there, t.number), tt) u (λ q u.
      more Quiet code o finds u (library 60 (lit< tt)) o1 (acts.out finds u 0x14 h.1.1.0) (λ q u.
      straight Quiet code o finds (Load 0 (Register 2) ∷ []) {n = 4} (run 64 (lit≤ tt)) o2 (h.1.1.1.0, tt) (tt, tt) u (λ q u.
      more Quiet code o finds u (library 64 (lit< tt)) o2 (acts.out finds u 0x15 h.1.1.1.1.0) (λ q u.
      straight Quiet code o finds (LowFromHigh ∷ []) {n = 2} (run 68 (lit≤ tt)) o3 (h.1.1.1.1.1.0, tt) (tt, tt) u (λ q u.
      more Quiet code o finds u (library 68 (lit< tt)) o3 (acts.out finds u 0x16 h.1.1.1.1.1.1.0) (λ q u.
      let i = here i86.Hlt (lit< tt) h.1.1.1.1.1.1.1.0 u in
      last Quiet code o finds u (library 70 (lit< tt)) o4 (record {
        shows = halts finds code _ q i u.sees ∙ same_shown kind _ o _ _ segment _ line o4 is whole (line_parts line small);
        still = rests finds code _ q i u.sees;
      }))))))))

  -- a stop with the line in DX
  pub told_stops : (kind : StopKind) (place by r segment : ℕ) {ax cx line bx sp bp si di : ℕ} {cells stack : ℕ → ℕ} {input : List ℕ} {told : Told} {f : Flags} {p : Processor}
      → HasAll code place (told_stop (stop_number kind) by)
      → place + 4 ≤ 438 → (place + 2 + 2 + sign_extended by) % 65536 ≡ 55 → Tells stack bp r segment → line < 65536
      → At code place (view ax cx line bx sp bp si di cells stack input told) f p → Leads Quiet code told.output 10 p (Over told.output kind segment line)
  told_stops kind place by r segment {ax} {told = told} h low there t small s =
      let e : (place + 2) % 65536 ≡ place + 2 = omega arith in
      straight Quiet code told.output finds (LowByte (stop_number kind) ∷ []) {n = 9} (run (place + 2) (omega arith)) refl (h.0, tt) (tt, tt) s (λ q u.
      more Quiet code told.output finds u (subst Quiet (sym e) (library (place + 2) (omega arith))) refl (to_place {to = 55} there (acts.short finds u by h.1.0)) (λ q u.
      tells kind r segment (low_is ax (stop_number kind) (few_kinds kind)) t small u))

  -- from the place of the line on
  lines : (kind : StopKind) (place line n r segment : ℕ) {ax cx dx bx bp si di : ℕ} {f : Flags} {cells stack : ℕ → ℕ} {input : List ℕ} {told : Told} {p : Processor}
      → ax % 256 ≡ stop_number kind
      → n < 32768 → stack n ≡ place → HasWord code place line → line < 65536 → Tells stack bp r segment
      → At code 51 (view ax cx dx bx (2 * n) bp si di cells stack input told) f p → Leads Quiet code told.output 10 p (Over told.output kind segment line)
  lines kind place line n r segment {told = told} is lt there word small t s =
      let h = line_stands code stands in
      let top : 2 * n ≡ 2 * n % 65536 = omega arith in
      straight Quiet code told.output finds (Pop 3 n place (2 * suc n % 65536) ∷ Load 2 (InCode (places.Plain 7) place line) ∷ []) {n = 8} (run 55 (lit≤ tt)) refl
      (h.0, (h.1.0, tt))
      ((lt, top, there, refl), ((refl, word), tt)) s (λ q u.
      tells kind r segment is t small u)

  -- the routine of a stop with the line behind its call
  pub line_stops : (kind : StopKind) (from ahead : ℕ) → HasAll code from (stop_routine (stop_number kind) ahead) → from + 4 ≤ 438
      → (from + 2 + 2 + sign_extended ahead) % 65536 ≡ 51
      → (place line n r segment : ℕ) {ax cx dx bx bp si di : ℕ} {f : Flags} {cells stack : ℕ → ℕ} {input : List ℕ} {told : Told} {p : Processor} → n < 32768 → stack n ≡ place
      → HasWord code place line → line < 65536
      → Tells stack bp r segment
      → At code from (view ax cx dx bx (2 * n) bp si di cells stack input told) f p → Leads Quiet code told.output 12 p (Over told.output kind segment line)
  line_stops kind from ahead h low to_line place line n r segment {ax} {told = told} lt there word small t s =
      let e : (from + 2) % 65536 ≡ from + 2 = omega arith in
      straight Quiet code told.output finds (LowByte (stop_number kind) ∷ []) {n = 11} (run (from + 2) (omega arith)) refl (h.0, tt) (tt, tt) s (λ q u.
      more Quiet code told.output finds u (subst Quiet (sym e) (library (from + 2) (omega arith))) refl (to_place {to = 51} to_line (acts.short finds u ahead h.1.0)) (λ q u.
      lines kind place line n r segment (low_is ax (stop_number kind) (few_kinds kind)) lt there word small t u))

  -- from the place of the line of a step on: the line stands 5 bytes behind the way back
  step_lines : (kind : StopKind) (back line n r segment : ℕ) {ax cx dx bx bp si di : ℕ} {f : Flags} {cells stack : ℕ → ℕ} {input : List ℕ} {told : Told} {p : Processor}
      → ax % 256 ≡ stop_number kind
      → n < 32768 → stack n ≡ back → HasWord code (back + 5) line → line < 65536 → Tells stack bp r segment
      → At code 422 (view ax cx dx bx (2 * n) bp si di cells stack input told) f p → Leads Quiet code told.output 11 p (Over told.output kind segment line)
  step_lines kind back line n r segment {told = told} is lt there word small t s =
      let h = step_line_stands code stands in
      let top : 2 * n ≡ 2 * n % 65536 = omega arith in
      let inside = word.within in
      let fits = s.sees.fits in
      let e : (back + 5) % 65536 ≡ back + 5 = omega arith in
      straight Quiet code told.output finds (Pop 3 n back (2 * suc n % 65536) ∷ Load 2 (InCode (places.Near 7 5) (back + 5) line) ∷ []) {n = 9} (run 427 (lit≤ tt)) refl
      (h.0, (h.1.0, tt))
      ((lt, top, there, refl), ((e, word), tt)) s (λ q u.
      more Quiet code told.output finds u (library 427 (lit< tt)) refl (to_place {to = 55} refl (acts.near finds u 65161 h.1.1.0)) (λ q u.
      tells kind r segment is t small u))

  -- the stops of a step, each from its place on
  abbrev StepStops : StopKind → (place steps back line n r segment : ℕ) → (ax cx dx bx bp si di : ℕ) → Flags → (cells stack : ℕ → ℕ) → List ℕ → Told → Processor → Type 0
  StepStops kind place steps back line n r segment ax cx dx bx bp si di f cells stack input told p =
      n < 32768 → stack n ≡ back → HasWord code (back + 5) line → line < 65536 → Tells stack bp r segment
      → At code place (view ax cx dx bx (2 * n) bp si di cells stack input told) f p → Leads Quiet code told.output steps p (Over told.output kind segment line)

  pub step_address_stops : (back line n r segment : ℕ) {ax cx dx bx bp si di : ℕ} {f : Flags} {cells stack : ℕ → ℕ} {input : List ℕ} {told : Told} {p : Processor}
      → StepStops AddressRange 416 13 back line n r segment ax cx dx bx bp si di f cells stack input told p
  step_address_stops back line n r segment {ax} {told = told} lt there word small t s =
      let h = step_address_stands code stands in
      straight Quiet code told.output finds (LowByte 4 ∷ []) {n = 12} (run 418 (lit≤ tt)) refl (h.0, tt) (tt, tt) s (λ q u.
      more Quiet code told.output finds u (library 418 (lit< tt)) refl (to_place {to = 422} refl (acts.short finds u 2 h.1.0)) (λ q u.
      step_lines AddressRange back line n r segment (low_is ax 4 (lit< tt)) lt there word small t u))

  pub step_sum_stops : (back line n r segment : ℕ) {ax cx dx bx bp si di : ℕ} {f : Flags} {cells stack : ℕ → ℕ} {input : List ℕ} {told : Told} {p : Processor}
      → StepStops Overflow 420 12 back line n r segment ax cx dx bx bp si di f cells stack input told p
  step_sum_stops back line n r segment {ax} {told = told} lt there word small t s =
      let h = step_sum_stands code stands in
      straight Quiet code told.output finds (LowByte 1 ∷ []) {n = 11} (run 422 (lit≤ tt)) refl (h.0, tt) (tt, tt) s (λ q u.
      step_lines Overflow back line n r segment (low_is ax 1 (lit< tt)) lt there word small t u)
