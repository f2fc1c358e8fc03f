-- Data put byte by byte, and what a faultless line has.
use Rattle.std.proofs.Common.{◌≡◌, ℕ, ◌+◌, ◌-◌, ◌*◌, ◌%◌, ◌<◌, ◌≤◌, List, [], ◌∷◌, Bool, true, false, Option, Some, None, ◌&&◌, eqb, length, get_or, take, drop, refl, subst, sym, ap, ◌∙◌, arith}
use Rattle.std.proofs.lemmas.List.{drop_more, get_or-take, get_or-drop, length-take, length-drop, take_rest}
use Rattle.std.specs.Prelude.{slice_set, not, cond}
use Rattle.std.specs.List.{list_all}
use Rattle.std.proofs.lemmas.Bool.{eqb-true}
use Rattle.cw_hex.specs.HexFormat.{is_digit}
use Rattle.std.specs.List.{sum}
use Rattle.cw_hex.specs.declared.fault.HexFault.TheVariants.{BadLine, BadSum, BadType}
use Rattle.cw_i86.specs.State.{State}
use Rattle.cw_hex.specs.HexFormat.{put_bytes, place_of, bytes_of, data_of, length_of, type_of, fits_type, line_fault, is_record, record_fault}
use Rattle.cw_hex.proofs.Digits.{length-bytes}

pub put_more : (base a i : ℕ) (ds m : List ℕ) → i < length ds → put_bytes base (a + i) (drop i ds) m ≡ put_bytes base (a + (i + 1)) (drop (i + 1) ds) (slice_set m (place_of base (a + i)) (get_or ds i 0))
put_more base a i ds m h =
    let n : a + (i + 1) ≡ (a + i) + 1 = omega arith in
    rw (drop_more ds i 0 h, n) refl

pub put_step : (base a i : ℕ) (ds : List ℕ) (s s' t : State) (address value : ℕ) → i < length ds → address ≡ place_of base (a + i) → value ≡ get_or ds i 0
    → s' ≡ record s { memory = slice_set s.memory address value } → record s { memory = put_bytes base (a + i) (drop i ds) s.memory } ≡ t
    → record s' { memory = put_bytes base (a + (i + 1)) (drop (i + 1) ds) s'.memory } ≡ t
put_step base a i ds s s' t address value h at is after so_far =
    rw (after, at, is) (ap (λ (m : List ℕ). record s { memory = m }) (sym (put_more base a i ds s.memory h)) ∙ so_far)

-- the data of a record, by their places in its bytes
pub length-data : (digits : List ℕ) → length digits ≡ 2 * (5 + length_of (bytes_of digits)) → length (data_of (bytes_of digits)) ≡ length_of (bytes_of digits)
length-data digits h =
    let n = length-bytes digits in
    let d = length-drop 4 (bytes_of digits) in
    let t = length-take (length_of (bytes_of digits)) (drop 4 (bytes_of digits)) in
    omega (arith, h, n, d, t)

pub datum : (bytes : List ℕ) (i : ℕ) → i < length_of bytes → get_or bytes (4 + i) 0 ≡ get_or (data_of bytes) i 0
datum bytes i h = sym (get_or-take (length_of bytes) (drop 4 bytes) i 0 h ∙ get_or-drop 4 bytes i 0)

-- ---- a line without fault

abbrev some : {A : Type 0} → A → Option A
some x = Some x

abbrev none : {A : Type 0} → Option A
none = None

not_none : {A : Type 0} {x : A} → some x ≡ none → ⊥
not_none e = cc

ft : false ≡ true → ⊥
ft e = cc

passed : {A : Type 0} (test : Bool) (fault : A) (next : Option A) → cond (not test) (Some fault) next ≡ None → (test ≡ true) × (next ≡ None)
passed true fault next e = (refl, e)
passed false fault next e = absurd (not_none e)

last : (a b : Bool) → (a && b) ≡ true → b ≡ true
last true b h = h
last false b h = absurd (ft h)

pub faultless_digits : (e : Bool) (n c : ℕ) (ds : List ℕ) → line_fault e n (c ∷ ds) ≡ None
    → (length ds ≡ 2 * (5 + length_of (bytes_of ds))) × (fits_type (type_of (bytes_of ds)) (length_of (bytes_of ds)) ≡ true)
faultless_digits e n c ds h =
    let form = passed (is_record (c ∷ ds)) (BadLine n) (record_fault e n (bytes_of ds)) h in
    let summed = passed (eqb (sum (bytes_of ds) % 256) 0) (BadSum n) _ form.1 in
    let fits = passed (fits_type (type_of (bytes_of ds)) (length_of (bytes_of ds))) (BadType n) _ summed.1 in
    let size = last (eqb c 58 && list_all is_digit ds) (eqb (length ds) (2 * (5 + length_of (bytes_of ds)))) form.0 in
    (eqb-true (length ds) (2 * (5 + length_of (bytes_of ds))) size, fits.0)

abbrev pub Fine : List ℕ → Type 0
Fine ds = (length ds ≡ 2 * (5 + length_of (bytes_of ds))) × (fits_type (type_of (bytes_of ds)) (length_of (bytes_of ds)) ≡ true)

pub faultless : (e : Bool) (n : ℕ) (line : List ℕ) → 1 ≤ length line → line_fault e n line ≡ None → Fine (take (length line - 1) (drop 1 line))
faultless e n [] some h = absurd (omega arith)
faultless e n (c ∷ ds) some h = subst Fine (sym (take_rest (c ∷ ds) 1)) (faultless_digits e n c ds h)
