-- The addresses of elements of two dimensions and of words of entries: what holds of an address and stays behind each test holds of them.
use Rattle.std.proofs.Common.{ℕ, ℤ, pos, ◌+ℤ◌, ◌-ℤ◌, ◌*ℤ◌, Bool}
use Rattle.cw_word.specs.FixedPoint.{fits_word}
use Rattle.cw_unit.specs.Words.{Words, Outcome}
use Rattle.cw_unit.specs.Operation.{fitting, address_of}

abbrev pub row_address : (area : ℕ) → (base l1 l2 : ℤ) → (width : ℕ) → (i j : ℤ) → Words → Outcome
row_address area base l1 l2 width i j v =
    fitting (fits_word (i -ℤ l1))
    (fitting (fits_word ((i -ℤ l1) *ℤ pos width))
    (fitting (fits_word (j -ℤ l2))
    (fitting (fits_word ((i -ℤ l1) *ℤ pos width +ℤ (j -ℤ l2))) (address_of area (base +ℤ ((i -ℤ l1) *ℤ pos width +ℤ (j -ℤ l2))) v))))

abbrev pub entry_address : (area : ℕ) → (base : ℤ) → (width word : ℕ) → (i : ℤ) → Words → Outcome
entry_address area base width word i v =
    fitting (fits_word (i *ℤ pos width)) (fitting (fits_word (i *ℤ pos width +ℤ pos word)) (address_of area (base +ℤ (i *ℤ pos width +ℤ pos word)) v))

module _ (K : (Words → Outcome) → Type 0) (tested : (b : Bool) (f : Words → Outcome) → K f → K (λ w. fitting b (f w))) (area : ℕ) (address : (z : ℤ) → K (address_of area z)) where
  pub of_row : (base l1 l2 : ℤ) (width : ℕ) (i j : ℤ) → K (row_address area base l1 l2 width i j)
  of_row base l1 l2 width i j =
      let row : ℤ = (i -ℤ l1) *ℤ pos width in
      let place : ℤ = row +ℤ (j -ℤ l2) in
      let last : Words → Outcome = address_of area (base +ℤ place) in
      let fourth : Words → Outcome = λ v. fitting (fits_word place) (last v) in
      let third : Words → Outcome = λ v. fitting (fits_word (j -ℤ l2)) (fourth v) in
      tested (fits_word (i -ℤ l1)) (λ v. fitting (fits_word row) (third v))
      (tested (fits_word row) third (tested (fits_word (j -ℤ l2)) fourth (tested (fits_word place) last (address (base +ℤ place)))))

  pub of_entry : (base : ℤ) (width word : ℕ) (i : ℤ) → K (entry_address area base width word i)
  of_entry base width word i =
      let place : ℤ = i *ℤ pos width +ℤ pos word in
      let last : Words → Outcome = address_of area (base +ℤ place) in
      tested (fits_word (i *ℤ pos width)) (λ v. fitting (fits_word place) (last v)) (tested (fits_word place) last (address (base +ℤ place)))
