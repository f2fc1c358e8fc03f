-- Windows of arrays, and what is told with them.
use Rattle.std.proofs.Common.{◌≡◌, ℕ, ◌+◌, ◌-◌, ◌<◌, ◌≤◌, List, [], ◌∷◌, ◌++◌, length, take, drop, Option, None, Some, refl, ap, arith, subst, sym, ◌∙◌, length-append, true≢false}
use Rattle.std.proofs.Math.Seq.{take-add}
use Rattle.std.proofs.lemmas.List.{drop-take, take-append-drop, take-set, take_more_set}
use Rattle.std.proofs.lemmas.Bool.{ne_eqb}
use Rattle.std.proofs.lemmas.Grind.{common_steps}
use Rattle.std.specs.Prelude.{◌==◌, Bool, true, false, slice_index, slice_set}
use Rattle.std.proofs.lemmas.List.Elements.{All-nil, All-cons}
use Rattle.cw_io.specs.Bytes.{before_told, after_told, IsEnd}
use Rattle.cw_i86.specs.MachineRun.{taken}
use Rattle.cw_cpu86.specs.Ports.{AreBytes, MayBeLeft, IsTaken}
use Rattle.cw_ports.specs.Later.{IsSettled}
use Rattle.cw_ports.specs.Supplies.{is_open}
use Rattle.cw_ports.specs.declared.supply.Supply.{Supply}
use Rattle.cw_ports.specs.declared.supply.Supply.TheVariants.{Open, Faulty, TooLong}
use Rattle.cw_ports.specs.Pieces.{part, left_count}
use Rattle.cw_ports.specs.Laws.{after_nothing, after_told-append}

-- one more part of a piece
pub piece_goes_on : (told now next : Option (List ℕ)) (piece : List ℕ) (done count : ℕ) → now ≡ after_told told (take done piece)
    → next ≡ after_told now (take count (drop done piece)) → next ≡ after_told told (take (done + count) piece)
piece_goes_on told now next piece done count is more =
    more ∙ ap (λ t. after_told t (take count (drop done piece))) is ∙ after_told-append told _ _ ∙ ap (λ xs. after_told told xs) (sym (take-add done count piece))

-- ---- windows

later : (from count : ℕ) (bytes : List ℕ) → drop count (drop from bytes) ≡ drop (from + count) bytes
later from count bytes = grind (arith, common_steps)

pub part-splits : (bytes : List ℕ) (from count to : ℕ) → from + count ≤ to
    → part bytes from to ≡ take count (part bytes from to) ++ part bytes (from + count) to
part-splits bytes from count to within =
    let rest = to - (from + count) in
    let whole : to - from ≡ count + rest = omega (arith, within) in
    let inner : drop count (take (count + rest) (drop from bytes)) ≡ part bytes (from + count) to =
    drop-take count rest (drop from bytes) ∙ ap (take rest) (later from count bytes) in
    sym (take-append-drop count (part bytes from to)) ∙ ap (λ xs. take count (part bytes from to) ++ xs) (ap (λ n. drop count (take n (drop from bytes))) whole ∙ inner)

-- a part of what is gathered was written
pub told-splits : (told new : Option (List ℕ)) (bytes : List ℕ) (from count to : ℕ) → from + count ≤ to → new ≡ after_told told (take count (part bytes from to))
    → after_told new (part bytes (from + count) to) ≡ after_told told (part bytes from to)
told-splits told new bytes from count to within is =
    ap (λ t. after_told t (part bytes (from + count) to)) is ∙ after_told-append told _ _ ∙ ap (after_told told) (sym (part-splits bytes from count to within))

part-is : (bytes : List ℕ) (from to : ℕ) → from ≤ to → part bytes from to ≡ drop from (take to bytes)
part-is bytes from to order =
    let there : from + (to - from) ≡ to = omega (arith, order) in
    sym (drop-take from (to - from) bytes) ∙ ap (λ n. drop from (take n bytes)) there

part-set : (bytes : List ℕ) (from to : ℕ) (v : ℕ) → from ≤ to → part (slice_set bytes to v) from to ≡ part bytes from to
part-set bytes from to v order = part-is (slice_set bytes to v) from to order ∙ ap (drop from) (take-set bytes to v) ∙ sym (part-is bytes from to order)

all-of : (bytes : List ℕ) (to : ℕ) → part bytes 0 to ≡ take to bytes
all-of bytes to = part-is bytes 0 to (omega arith)

pub none-of : (bytes : List ℕ) (from : ℕ) → part bytes from 0 ≡ []
none-of bytes from = let none : 0 - from ≡ 0 = omega arith in ap (λ n. take n (drop from bytes)) none

-- a first part of what is gathered was written, and the rest stays
pub rest_stays : (told new : Option (List ℕ)) (bytes : List ℕ) (from count to : ℕ) → from ≡ 0 → count ≤ to → new ≡ after_told told (take count (take to bytes))
    → after_told new (part bytes count to) ≡ after_told told (part bytes from to)
rest_stays told new bytes from count to start within is =
    let there : 0 + count ≡ count = omega arith in
    ap (λ n. after_told new (part bytes n to)) (sym there) ∙ told-splits told new bytes 0 count to (omega (arith, within)) (is ∙ ap (λ xs. after_told told (take count xs)) (sym (all-of bytes to))) ∙ ap (λ n. after_told told (part bytes n to)) (sym start)

-- the piece that a byte fills was written whole
pub piece_written : (told new : Option (List ℕ)) (bytes : List ℕ) (from to count v : ℕ) → from ≡ 0 → count ≡ to + 1 → to < length bytes
    → new ≡ after_told told (take count (slice_set bytes to v)) → after_told new (part (slice_set bytes to v) from 0) ≡ after_told (after_told told (part bytes from to)) (v ∷ [])
piece_written told new bytes from to count v start whole within is =
    ap (after_told new) (none-of (slice_set bytes to v) from) ∙ after_nothing new ∙ is ∙ ap (λ n. after_told told (take n (slice_set bytes to v))) whole ∙ ap (after_told told) (take_more_set bytes to v within)
    ∙ sym (after_told-append told (take to bytes) (v ∷ [])) ∙ ap (λ xs. after_told (after_told told xs) (v ∷ [])) (sym (all-of bytes to)) ∙ ap (λ n. after_told (after_told told (part bytes n to)) (v ∷ [])) (sym start)

-- the piece was not written whole, and its last byte is not taken
pub last_refused : (told new : Option (List ℕ)) (bytes : List ℕ) (from count to v : ℕ) → from ≡ 0 → count ≤ to
    → new ≡ after_told told (take count (slice_set bytes to v)) → after_told new (part (slice_set bytes to v) count to) ≡ after_told told (part bytes from to)
last_refused told new bytes from count to v start within is =
    let cut : take count (take to (slice_set bytes to v)) ≡ take count (slice_set bytes to v) = grind (arith, common_steps) in
    rest_stays told new (slice_set bytes to v) from count to start within (is ∙ ap (after_told told) (sym cut))
    ∙ ap (λ n. after_told told (part (slice_set bytes to v) n to)) start ∙ ap (after_told told) (part-set bytes 0 to v (omega arith)) ∙ ap (λ n. after_told told (part bytes n to)) (sym start)

-- ---- the end of the input

pub end_counts : (left : Option (List ℕ)) → IsEnd left → left_count left ≡ 0
end_counts None is = refl
end_counts (Some bytes) is = ap length is

pub count_ends : (left : Option (List ℕ)) → left_count left ≡ 0 → IsEnd left
count_ends None none = tt
count_ends (Some []) none = refl
count_ends (Some (x ∷ bytes)) none = absurd (omega (arith, none))

-- ---- nothing is gathered where the source failed or gave a byte too many

pub settled_open : (supply : Supply) (gathered : ℕ) (is_broken : Bool) → is_open supply ≡ true → IsSettled supply gathered is_broken
settled_open Open gathered is_broken is = tt
settled_open Faulty gathered is_broken is = absurd (true≢false (sym is))
settled_open TooLong gathered is_broken is = absurd (true≢false (sym is))

pub settled_empty : (supply : Supply) (gathered : ℕ) (is_broken : Bool) → gathered ≡ 0 → is_broken ≡ false → IsSettled supply gathered is_broken
settled_empty Open gathered is_broken none whole = tt
settled_empty Faulty gathered is_broken none whole = (none, whole)
settled_empty TooLong gathered is_broken none whole = (none, whole)

-- ---- ports

-- what a port gives of an input
pub given_told : (told : Option (List ℕ)) (at_end : Option Bool) (port value : ℕ) → ((input : List ℕ) → told ≡ Some input → value ≡ taken port input)
    → (input : List ℕ) → AreBytes input → MayBeLeft at_end input → value ≡ taken port input → IsTaken told at_end port value
given_told None at_end port value tells input bytes may is = (input, bytes, may, is)
given_told (Some told) at_end port value tells input bytes may is = tells told refl

no_bytes : AreBytes []
no_bytes = All-nil (λ b. b < 256)

zero_byte : AreBytes (0 ∷ [])
zero_byte = All-cons (λ b. b < 256) 0 [] (omega arith) no_bytes

-- an input that may be left, of which another port than 10h and 11h gives nothing, and 10h gives 0
some_input : (at_end : Option Bool) → (input : List ℕ) × AreBytes input × MayBeLeft at_end input × (slice_index input 0 ≡ 0)
some_input None = ([], no_bytes, tt, refl)
some_input (Some true) = ([], no_bytes, refl, refl)
some_input (Some false) = let some : 0 < length {A = ℕ} (0 ∷ []) = omega arith in (0 ∷ [], zero_byte, some, refl)

told_part : (told left : Option (List ℕ)) (hand input : List ℕ) → before_told hand left ≡ told → told ≡ Some input → (rest : List ℕ) × (left ≡ Some rest) × (input ≡ hand ++ rest)
told_part told None hand input same is = absurd (cc)
told_part told (Some rest) hand input same is =
    let whole : ◌≡◌ {A = Option (List ℕ)} (Some input) (Some (hand ++ rest)) = sym is ∙ sym same in
    (rest, refl, ap bytes_of whole)
  where
    bytes_of : Option (List ℕ) → List ℕ
    bytes_of None = []
    bytes_of (Some bytes) = bytes

-- port 10h where a byte is in hand
pub takes_byte : (told left : Option (List ℕ)) (at_end : Option Bool) (hand rest : List ℕ) (port value : ℕ) → port ≡ 0x10 → value < 256 → before_told hand left ≡ told → hand ≡ value ∷ rest
    → (at_end ≡ Some true → ⊥) → IsTaken told at_end port value
takes_byte told left at_end hand rest port value is byte same first more =
    subst (λ p. IsTaken told at_end p value) (sym is)
    (given_told told at_end 0x10 value (λ input e. let t = told_part told left hand input same e in sym (ap (λ xs. slice_index xs 0) (t.2 ∙ ap (λ xs. xs ++ t.0) first)))
    (value ∷ []) (All-cons (λ b. b < 256) value [] byte no_bytes) (may at_end more) refl)
  where
    may : (at_end : Option Bool) → (at_end ≡ Some true → ⊥) → MayBeLeft at_end (value ∷ [])
    may None more = tt
    may (Some true) more = absurd (more refl)
    may (Some false) more = omega arith

gives_some : (input : List ℕ) → 0 < length input → 0 ≡ taken 0x11 input
gives_some [] some = absurd (omega (arith, some))
gives_some (x ∷ input) some =
    let more : (length (x ∷ input) == 0) ≡ false = ne_eqb _ _ (λ e. let bad : length (x ∷ input) ≡ 0 = e in omega arith) in
    rw more refl

-- port 11h where a byte is in hand
pub tells_more : (told left : Option (List ℕ)) (at_end : Option Bool) (hand : List ℕ) (port : ℕ) → port ≡ 0x11 → before_told hand left ≡ told → 0 < length hand
    → (at_end ≡ Some true → ⊥) → IsTaken told at_end port 0
tells_more told left at_end hand port is same long more =
    subst (λ p. IsTaken told at_end p 0) (sym is)
    (given_told told at_end 0x11 0 (λ input e. let t = told_part told left hand input same e in gives_some input (subst (λ xs. 0 < length xs) (sym t.2) (omega (arith, length-append hand t.0, long))))
    (0 ∷ []) zero_byte (may at_end more) (gives_some (0 ∷ []) (omega arith)))
  where
    may : (at_end : Option Bool) → (at_end ≡ Some true → ⊥) → MayBeLeft at_end (0 ∷ [])
    may None more = tt
    may (Some true) more = absurd (more refl)
    may (Some false) more = omega arith

-- another port
pub takes_nothing : (told : Option (List ℕ)) (at_end : Option Bool) (port : ℕ) → (port == 0x10) ≡ false → (port == 0x11) ≡ false → IsTaken told at_end port 0
takes_nothing told at_end port not_taken not_told =
    let k = some_input at_end in
    given_told told at_end port 0 (λ input e. gives input) k.0 k.1 k.2 (gives k.0)
  where
    gives : (input : List ℕ) → 0 ≡ taken port input
    gives input = rw (not_taken, not_told) refl

-- and none where nothing stands between them
pub part-none : (bytes : List ℕ) (from to : ℕ) → from ≡ to → part bytes from to ≡ []
part-none bytes from to same = let none : to - from ≡ 0 = omega (arith, same) in ap (λ n. take n (drop from bytes)) none

pub part-length : (bytes : List ℕ) (from to limit : ℕ) → to ≤ limit → length (part bytes from to) ≤ limit
part-length bytes from to limit room = grind (arith, common_steps)

-- nothing waits where nothing is gathered
pub none_waits : (bytes : List ℕ) (from to : ℕ) (held : Option (List ℕ)) → to ≡ 0 → after_told held (part bytes from to) ≡ held
none_waits bytes from to held none = ap (λ n. after_told held (part bytes from n)) none ∙ ap (after_told held) (none-of bytes from) ∙ after_nothing held
