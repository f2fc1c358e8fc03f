-- What the code keeps of the records so far.
use Rattle.std.specs.Prelude.{◌≡◌, ◌≤◌, ◌<◌, ◌^◌, ℕ, ◌+◌, ◌*◌, ◌==◌, nat_lt, true, if◌then◌else◌, List}
use Rattle.std.specs.Prelude.{◌++◌, length, take, drop, Option, Some, None, Result, Ok, Err}
use Rattle.cw_unit.specs.declared.layout.Family.{Family}
use Rattle.cw_view.specs.declared.front.Front.{Front}
use Rattle.cw_fields.specs.Fields.{◌>>=◌, whole, text_in}
use Rattle.cw_fields.specs.Names.{named}
use Rattle.cw_view.specs.Reading.{family_in}
use Rattle.cw_view.specs.declared.view.View.{View}
use Rattle.cw_view.specs.declared.fault.ObjFault.{ObjFault}
use Rattle.cw_view.specs.ObjectFormat.{Record, Facts, number_of, can_follow, framed, last_kind, families_of, facts_of, header, front_bytes}
use Rattle.cw_view.specs.ObjectFormat.{IsVersion, IsFront, IsObjectOf, IsFirstObjectFault, FailsBehind, IsViewOf, payloads}
use Rattle.cw_view.specs.Splitting.{payloads_in}

abbrev pub Bytes : Type 0
Bytes = List ℕ

-- the records of families stand one after another, and each has 12 bytes
abbrev pub family_record : Bytes → (at families : ℕ) → ℕ → Option Family
family_record bytes at families k = if nat_lt k families then whole family_in (take 7 (drop (at + 12 * k + 5) bytes)) else None

abbrev pub facts_at : Bytes → Front → Facts
facts_at bytes front = record {
  kind = front.kind;
  number = front.number;
  descriptors = front.descriptors;
  family = family_record bytes front.families_at front.families;
  code = take front.code_len (drop front.code_at bytes);
}

abbrev pub no_front : Front
no_front = record { kind = 0; number = 0; descriptors = 0; families = 0; families_at = 0; code_at = 0; code_len = 0 }

abbrev pub numbered : Option Record → Option ℕ
numbered None = None
numbered (Some r) = Some (number_of r)

abbrev pub front_with : Front → (at kind size number : ℕ) → Front
front_with front at kind size number = record {
  kind = kind;
  number = number;
  descriptors = if kind == 2 then front.descriptors + 1 else front.descriptors;
  families = if kind == 3 then front.families + 1 else front.families;
  families_at = if kind == 3 then (if front.families == 0 then at else front.families_at) else front.families_at;
  code_at = if kind == 6 then at + 5 else front.code_at;
  code_len = if kind == 6 then size else front.code_len;
}

-- the name in the first record
abbrev pub first_name : Bytes → Option (List ℕ)
first_name bytes = text_in (drop 11 bytes) >>= λ text. named text.0

-- a record stands at a place of the bytes: its kind may follow, and its payload of this size is there
pub record HasRecord (version last : ℕ) (bytes : Bytes) (at kind size : ℕ) : Type 0 where
  pub in_order : can_follow version last kind ≡ true
  pub within : at + 5 + size ≤ length bytes
  pub short : size < 2 ^ 32
  pub is : drop at bytes ≡ framed kind (take size (drop (at + 5) bytes)) ++ drop (at + 5 + size) bytes

-- Up to a place the bytes are a header and records that may stand so, and these tell what is kept of them.
pub record Reaches (version : ℕ) (bytes : Bytes) (front : Front) (at : ℕ) : Type 0 where
  pub before : List Record
  pub is_front : IsFront version before
  pub spelled : bytes ≡ front_bytes version before ++ drop at bytes
  pub place : length (front_bytes version before) ≡ at
  pub within : at ≤ length bytes
  pub facts : facts_at bytes front ≡ facts_of before
  pub count : length (families_of before) ≡ front.families
  pub families_within : front.families_at + 12 * front.families ≤ at
  pub code_within : front.code_at + front.code_len ≤ at
  pub few : front.descriptors + front.families ≤ at
  pub families_next : front.kind ≡ 3 → front.families_at + 12 * front.families ≡ at
  pub families_before : 0 < front.families → 3 ≤ front.kind

-- what the reading of the records answers
abbrev pub AnswersRecords : (version : ℕ) → Bytes → Result (Front × ℕ) ObjFault → Type 0
AnswersRecords version bytes (Ok (front, at)) = Reaches version bytes front at × (front.kind ≡ 255)
AnswersRecords version bytes (Err fault) = IsFirstObjectFault bytes fault

abbrev pub AnswersVersion : Bytes → Result ℕ ObjFault → Type 0
AnswersVersion bytes (Ok version) = IsVersion version × (bytes ≡ header version ++ drop 6 bytes)
AnswersVersion bytes (Err fault) = IsFirstObjectFault bytes fault

abbrev pub AnswersRecord : (version last : ℕ) → Bytes → (at : ℕ) → Result (ℕ × ℕ) ObjFault → Type 0
AnswersRecord version last bytes at (Ok (kind, size)) = HasRecord version last bytes at kind size
AnswersRecord version last bytes at (Err fault) = (before : List Record) → last_kind before ≡ last
    → FailsBehind version before at (length bytes) (drop at bytes) fault

-- what opening answers: the view of the one object that the bytes are, or the first fault
abbrev pub AnswersOpen : Bytes → Result View ObjFault → Type 0
AnswersOpen bytes (Ok view) = (v : ℕ) × (records : List Record) × IsObjectOf bytes v records
    × IsViewOf view bytes v records × ((kind : ℕ) → payloads_in kind (drop 6 view.bytes.now) ≡ payloads kind records)
AnswersOpen bytes (Err fault) = IsFirstObjectFault bytes fault
