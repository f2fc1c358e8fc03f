-- The payloads of a kind in any bytes that are cut into records, as far as they can be.
use Rattle.std.specs.Prelude.{ℕ, zero, suc, ◌+◌, ◌==◌, Bool, if◌then◌else◌, List, [], ◌∷◌, length, take, drop, slice_index, Option, Some, None}
use Rattle.byteorder.specs.Endian.{little_number}
use Rattle.cw_view.specs.declared.records.Records.{Records}
use Rattle.cw_view.specs.ObjectFormat.{is_complete}

abbrev pub Bytes : Type 0
Bytes = List ℕ

abbrev pub size_in : Bytes → ℕ
size_in rest = little_number 4 (drop 1 rest)

-- the kind and the payload of the first record, and what follows it
unfoldable pub first_record : Bytes → Option (ℕ × (Bytes × Bytes))
first_record rest = if is_complete rest then Some (slice_index rest 0, (take (size_in rest) (drop 5 rest), drop (5 + size_in rest) rest)) else None

abbrev pub with_payload : Bool → Bytes → List Bytes → List Bytes
with_payload wanted payload more = if wanted then payload ∷ more else more

-- of the first n records
abbrev pub payloads_within : (n kind : ℕ) → Bytes → List Bytes
payloads_within zero kind rest = []
payloads_within (suc n) kind rest = elim (first_record rest) [ None ↦ [] | Some r ↦ with_payload (r.0 == kind) r.1.0 (payloads_within n kind r.1.1) ]

abbrev pub payloads_in : (kind : ℕ) → Bytes → List Bytes
payloads_in kind rest = payloads_within (length rest) kind rest

-- what an iterator has left
abbrev pub payloads_left : Records → List Bytes
payloads_left records = payloads_in records.kind records.rest.now
