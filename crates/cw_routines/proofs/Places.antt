-- Where the routines of the library stand.
use Rattle.std.proofs.Common.{◌≡◌, ℕ, ◌+◌, ◌%◌, List, [], ◌∷◌, ◌++◌, length, subst, arith}
use Rattle.cw_i86.specs.Encoding.{bytes_of}
use Rattle.cw_i86.specs.declared.flags.Flags.{Flags}
use Rattle.cw_i86.specs.declared.instr.Instr.{Instr}
use Rattle.cw_run86.specs.Processor.{Processor}
use Rattle.cw_run86.specs.Views.{View, Sees}
use Rattle.cw_tmpl.specs.Library.{routines, joined, start_routine, stop_routine, line_taken, tell, told_stop, enter_routine, read_routine, set_variable_routine, add_step_routine, put_variable_routine, exhausted_routine, product_routine, too_large, quotient_down_routine, quotient_up_routine, quotient_end, next_step_test, stepped, left, stepped_any, turned, step_address_stop, step_sum_stop, step_line, enter_stop}
use Rattle.cw_routines.specs.Ways.{At, HasAll}
use Rattle.cw_routines.specs.Results.{Stands}

-- the number of their bytes
abbrev pub total : List Instr → ℕ
total [] = 0
total (i ∷ is) = length (bytes_of i) + total is

pub has_front : (code : List ℕ) (place : ℕ) (is js : List Instr) → HasAll code place (is ++ js) → HasAll code place is
has_front code place [] js h = tt
has_front code place (i ∷ is) js h = (h.0, has_front code (place + length (bytes_of i)) is js h.1)

pub has_back : (code : List ℕ) (place : ℕ) (is js : List Instr) → HasAll code place (is ++ js) → HasAll code (place + total is) js
has_back code place [] js h = let e : place ≡ place + 0 = omega arith in subst (λ n. HasAll code n js) e h
has_back code place (i ∷ is) js h =
    let e : place + length (bytes_of i) + total is ≡ place + (length (bytes_of i) + total is) = omega arith in
    subst (λ n. HasAll code n js) e (has_back code (place + length (bytes_of i)) is js h.1)

pub to_place : {code : List ℕ} {at to : ℕ} {v : View} {f : Flags} {p : Processor} → at % 65536 ≡ to % 65536 → At code at v f p → At code to v f p
to_place {code} {at} {to} {v} {f} {p} e s = record { sees = subst (λ n. Sees code (record v { place = n; overflow = f.of }) p) e s.sees; flags = s.flags }

-- routines one behind another, each at its place
abbrev Each : List ℕ → ℕ → List (List Instr) → Type 0
Each code place [] = Unit {0}
Each code place (is ∷ rest) = HasAll code place is × Each code (place + total is) rest

each_stands : (code : List ℕ) (place : ℕ) (rs : List (List Instr)) → HasAll code place (joined rs) → Each code place rs
each_stands code place [] h = tt
each_stands code place (is ∷ rest) h = (has_front code place is (joined rest) h, each_stands code (place + total is) rest (has_back code place is (joined rest) h))

module _ (code : List ℕ) (stands : Stands code) where
  all : Each code 5 routines
  all = each_stands code 5 routines stands.1

  pub start_stands : HasAll code 5 start_routine
  start_stands = all.0

  pub overflow_stands : HasAll code 35 (stop_routine 1 12)
  overflow_stands = all.1.0

  pub zero_stands : HasAll code 39 (stop_routine 2 8)
  zero_stands = all.1.1.0

  pub address_stands : HasAll code 43 (stop_routine 4 4)
  address_stands = all.1.1.1.0

  pub bounds_stands : HasAll code 47 (stop_routine 7 0)
  bounds_stands = all.1.1.1.1.0

  pub line_stands : HasAll code 51 line_taken
  line_stands = all.1.1.1.1.1.0

  pub tell_stands : HasAll code 55 tell
  tell_stands = all.1.1.1.1.1.1.0

  pub bad_address_stands : HasAll code 71 (told_stop 4 0xEC)
  bad_address_stands = all.1.1.1.1.1.1.1.0

  pub bad_sum_stands : HasAll code 75 (told_stop 1 0xE8)
  bad_sum_stands = all.1.1.1.1.1.1.1.1.0

  pub switch_stands : HasAll code 79 (told_stop 3 0xE4)
  switch_stands = all.1.1.1.1.1.1.1.1.1.0

  pub depth_stands : HasAll code 83 (told_stop 6 0xE0)
  depth_stands = all.1.1.1.1.1.1.1.1.1.1.0

  pub frames_stands : HasAll code 87 (told_stop 5 0xDC)
  frames_stands = all.1.1.1.1.1.1.1.1.1.1.1.0

  pub enter_stands : HasAll code 91 enter_routine
  enter_stands = all.1.1.1.1.1.1.1.1.1.1.1.1.0

  pub read_stands : HasAll code 130 read_routine
  read_stands = all.1.1.1.1.1.1.1.1.1.1.1.1.1.0

  pub set_variable_stands : HasAll code 145 set_variable_routine
  set_variable_stands = all.1.1.1.1.1.1.1.1.1.1.1.1.1.1.0

  pub add_step_stands : HasAll code 163 add_step_routine
  add_step_stands = all.1.1.1.1.1.1.1.1.1.1.1.1.1.1.1.0

  pub put_variable_stands : HasAll code 185 put_variable_routine
  put_variable_stands = all.1.1.1.1.1.1.1.1.1.1.1.1.1.1.1.1.0

  pub exhausted_stands : HasAll code 203 exhausted_routine
  exhausted_stands = all.1.1.1.1.1.1.1.1.1.1.1.1.1.1.1.1.1.0

  pub product_stands : HasAll code 236 product_routine
  product_stands = all.1.1.1.1.1.1.1.1.1.1.1.1.1.1.1.1.1.1.0

  pub too_large_stands : HasAll code 261 too_large
  too_large_stands = all.1.1.1.1.1.1.1.1.1.1.1.1.1.1.1.1.1.1.1.0

  pub quotient_down_stands : HasAll code 266 quotient_down_routine
  quotient_down_stands = all.1.1.1.1.1.1.1.1.1.1.1.1.1.1.1.1.1.1.1.1.0

  pub quotient_up_stands : HasAll code 289 quotient_up_routine
  quotient_up_stands = all.1.1.1.1.1.1.1.1.1.1.1.1.1.1.1.1.1.1.1.1.1.0

  pub quotient_stands : HasAll code 316 quotient_end
  quotient_stands = all.1.1.1.1.1.1.1.1.1.1.1.1.1.1.1.1.1.1.1.1.1.1.0

  pub next_step_stands : HasAll code 338 next_step_test
  next_step_stands = all.1.1.1.1.1.1.1.1.1.1.1.1.1.1.1.1.1.1.1.1.1.1.1.0

  pub stepped_stands : HasAll code 344 stepped
  stepped_stands = all.1.1.1.1.1.1.1.1.1.1.1.1.1.1.1.1.1.1.1.1.1.1.1.1.0

  pub left_stands : HasAll code 373 left
  left_stands = all.1.1.1.1.1.1.1.1.1.1.1.1.1.1.1.1.1.1.1.1.1.1.1.1.1.0

  pub stepped_any_stands : HasAll code 378 stepped_any
  stepped_any_stands = all.1.1.1.1.1.1.1.1.1.1.1.1.1.1.1.1.1.1.1.1.1.1.1.1.1.1.0

  pub turned_stands : HasAll code 387 turned
  turned_stands = all.1.1.1.1.1.1.1.1.1.1.1.1.1.1.1.1.1.1.1.1.1.1.1.1.1.1.1.0

  pub step_address_stands : HasAll code 416 step_address_stop
  step_address_stands = all.1.1.1.1.1.1.1.1.1.1.1.1.1.1.1.1.1.1.1.1.1.1.1.1.1.1.1.1.0

  pub step_sum_stands : HasAll code 420 step_sum_stop
  step_sum_stands = all.1.1.1.1.1.1.1.1.1.1.1.1.1.1.1.1.1.1.1.1.1.1.1.1.1.1.1.1.1.0

  pub step_line_stands : HasAll code 422 step_line
  step_line_stands = all.1.1.1.1.1.1.1.1.1.1.1.1.1.1.1.1.1.1.1.1.1.1.1.1.1.1.1.1.1.1.0

  pub enter_stop_stands : HasAll code 430 enter_stop
  enter_stop_stands = all.1.1.1.1.1.1.1.1.1.1.1.1.1.1.1.1.1.1.1.1.1.1.1.1.1.1.1.1.1.1.1.0
