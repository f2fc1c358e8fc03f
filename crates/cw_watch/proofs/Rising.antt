-- The statements of an object stand one behind another in its code.
use Rattle.std.proofs.Common.{◌≡◌, ℕ, ◌+◌, ◌<◌, ◌≤◌, Bool, true, false, List, [], ◌∷◌, ◌++◌, length, map, Option, Some, None, Ok, refl, sym, ap, ap₂, subst, ◌∙◌, arith, inl, inr, append-nil}
use Rattle.std.specs.Prelude.{◌==◌, ◌&&◌, ◌||◌, nat_le, nat_lt, nat_eq, if◌then◌else◌}
use Rattle.std.specs.List.{IsDistinct, AllByRecursion}
use Rattle.std.proofs.lemmas.Bool.{cases_Bool, cases_lt, ne_eqb, ltb-true, leb-true}
use Rattle.std.proofs.lemmas.List.{map-append}
use Rattle.cw_fields.specs.Fields.{whole}
use Rattle.cw_fields.proofs.Formats.{whole_again}
use Rattle.cw_view.specs.Payloads.{statement_bytes, FitsStatement}
use Rattle.cw_view.specs.Reading.{statement_in}
use Rattle.cw_view.specs.ObjectFormat.{Record, SegmentName, Descriptor, StorageFamily, StoredItem, PresetWord, Code, Relocation, Definition, BodyFacts, Statement, End, FitsRecord, IsFront, payloads, payload_if, kind_of, last_kind, last_number, code_of, can_follow, is_allowed, facts_of}
use Rattle.cw_view.proofs.Forms.{reads_statement}
use Rattle.cw_view.specs.Fronts.{AnswersOpen}
use Rattle.cw_view.specs.declared.view.View.{View}
use Rattle.cw_unit.specs.Allocation.{is_same_name}
use Rattle.cw_link.specs.Contents.{kept, values_in, records_of}
use Rattle.cw_link.specs.Relocation.{word}
use Rattle.cw_watch.specs.Rising.{RisesFrom}
use Rattle.cw_watch.specs.Watching.{places_at, segment_places}

pub in_order : (low : ℕ) (xs : List ℕ) (high : ℕ) → RisesFrom low xs high → low ≤ high
in_order low [] high rises = rises
in_order low (x ∷ xs) high rises = let more = in_order (x + 1) xs high rises.1 in omega (arith, more, rises.0)

pub lower_start : (low first : ℕ) (xs : List ℕ) (high : ℕ) → low ≤ first → RisesFrom first xs high → RisesFrom low xs high
lower_start low first [] high less rises = omega (arith, less, rises)
lower_start low first (x ∷ xs) high less rises = (omega (arith, less, rises.0), rises.1)

pub higher_end : (low : ℕ) (xs : List ℕ) (high more : ℕ) → high ≤ more → RisesFrom low xs high → RisesFrom low xs more
higher_end low [] high more less rises = omega (arith, less, rises)
higher_end low (x ∷ xs) high more less rises = (rises.0, higher_end (x + 1) xs high more less rises.1)

pub rises-append : (low : ℕ) (xs : List ℕ) (middle : ℕ) (ys : List ℕ) (high : ℕ) → RisesFrom low xs middle → RisesFrom middle ys high → RisesFrom low (xs ++ ys) high
rises-append low [] middle ys high first second = lower_start low middle ys high first second
rises-append low (x ∷ xs) middle ys high first second = (first.0, rises-append (x + 1) xs middle ys high first.1 second)

apart : (place low : ℕ) (xs : List ℕ) (high : ℕ) → place < low → RisesFrom low xs high → AllByRecursion (λ y. nat_eq place y ≡ false) xs
apart place low [] high less rises = tt
apart place low (x ∷ xs) high less rises = (ne_eqb place x (λ e. omega (arith, e, less, rises.0)), apart place (x + 1) xs high (omega (arith, less, rises.0)) rises.1)

pub rising_once : (low : ℕ) (xs : List ℕ) (high : ℕ) → RisesFrom low xs high → IsDistinct nat_eq xs
unfolding IsDistinct
rising_once low [] high rises = tt
rising_once low (x ∷ xs) high rises = (apart x (x + 1) xs high (omega arith) rises.1, rising_once (x + 1) xs high rises.1)

-- ---- the statements of a line

abbrev pub starts_of : List (ℕ × ℕ) → List ℕ
starts_of ss = map (λ s. s.0) ss

pub places_rise : (start line low : ℕ) (ss : List (ℕ × ℕ)) (size : ℕ) → RisesFrom low (starts_of ss) size → start + size ≤ 65536 → RisesFrom (start + low) (places_at start line ss) (start + size)
places_rise start line low [] size rises room = omega (arith, rises)
places_rise start line low (s ∷ ss) size rises room =
    let rest = places_rise start line (s.0 + 1) ss size rises.1 room in
    let below = in_order (s.0 + 1) (starts_of ss) size rises.1 in
    elim (cases_Bool (s.1 == line)) [
      | inl is ↦
          let small : start + s.0 < 65536 = omega (arith, below, room) in
          let same : word (start + s.0) ≡ start + s.0 = omega (arith, small) in
          let shift : start + (s.0 + 1) ≡ word (start + s.0) + 1 = omega (arith, same) in
          let here : (start + low ≤ word (start + s.0)) × RisesFrom (word (start + s.0) + 1) (places_at start line ss) (start + size) =
          (omega (arith, same, rises.0), subst (λ n. RisesFrom n (places_at start line ss) (start + size)) shift rest) in
          subst (λ b. RisesFrom (start + low) (if b then word (start + s.0) ∷ places_at start line ss else places_at start line ss) (start + size)) (sym is) here
      | inr other ↦
          subst (λ b. RisesFrom (start + low) (if b then word (start + s.0) ∷ places_at start line ss else places_at start line ss) (start + size)) (sym other)
          (lower_start (start + low) (start + (s.0 + 1)) (places_at start line ss) (start + size) (omega (arith, rises.0)) rest)
    ]

-- ---- the records of an object

abbrev one_statement : Record → List (ℕ × ℕ)
one_statement (Statement s) = s ∷ []
one_statement r = []

abbrev statements_of : List Record → List (ℕ × ℕ)
statements_of [] = []
statements_of (r ∷ before) = statements_of before ++ one_statement r

kept-append : {A : Type 0} (o : Option A) (xs ys : List A) → kept o (xs ++ ys) ≡ kept o xs ++ ys
kept-append None xs ys = refl
kept-append (Some x) xs ys = refl

values-append : (ps qs : List (List ℕ)) → values_in statement_in (ps ++ qs) ≡ values_in statement_in ps ++ values_in statement_in qs
values-append [] qs = refl
values-append (p ∷ ps) qs = ap (kept (whole statement_in p)) (values-append ps qs) ∙ kept-append (whole statement_in p) (values_in statement_in ps) (values_in statement_in qs)

statement-read : (r : Record) → FitsRecord r → values_in statement_in (payload_if 10 r) ≡ one_statement r
statement-read (SegmentName x) f = refl
statement-read (Descriptor x) f = refl
statement-read (StorageFamily x) f = refl
statement-read (StoredItem x) f = refl
statement-read (PresetWord x) f = refl
statement-read (Code x) f = refl
statement-read (Relocation x) f = refl
statement-read (Definition x) f = refl
statement-read (BodyFacts x) f = refl
statement-read (Statement x) f = ap (λ o. kept o []) (whole_again statement_bytes FitsStatement statement_in reads_statement x f)
statement-read End f = refl

statements-are : (v : ℕ) (rs : List Record) → IsFront v rs → values_in statement_in (payloads 10 rs) ≡ statements_of rs
statements-are v [] h = refl
statements-are v (r ∷ before) h = values-append (payloads 10 before) (payload_if 10 r) ∙ ap₂ (λ (xs ys : List (ℕ × ℕ)). xs ++ ys) (statements-are v before h.0) (statement-read r h.1.fits)

-- how the statements stand among these records, the last of which comes first
record Stand (rs : List Record) : Type 0 where
  none : last_kind rs < 10 → statements_of rs ≡ []
  rise : last_kind rs ≡ 10 → RisesFrom 0 (starts_of (statements_of rs)) (last_number rs + 1)
  all : RisesFrom 0 (starts_of (statements_of rs)) (length (code_of rs))

-- of choices the last one
last_choice : (a b c d x y z w : Bool) → (if a then x else if b then y else if c then z else if d then false else w) ≡ true → a ≡ false → b ≡ false → c ≡ false → w ≡ true
last_choice true b c d x y z w e p q r = absurd (cc)
last_choice false true c d x y z w e p q r = absurd (cc)
last_choice false false true d x y z w e p q r = absurd (cc)
last_choice false false false true x y z w e p q r = absurd (cc)
last_choice false false false false x y z w e p q r = e

not_either : (a b c : Bool) → (a || (b && c)) ≡ true → a ≡ false → c ≡ false → ⊥
not_either true b c e p q = cc
not_either false true c e p q = cc
not_either false false c e p q = cc

not_below : (n m : ℕ) → m ≤ n → nat_lt n m ≡ false
not_below n m le = elim (cases_Bool (nat_lt n m)) [ inl is ↦ absurd (omega (arith, ltb-true n m is, le)) | inr other ↦ other ]

before_low : (v last kind : ℕ) → can_follow v last kind ≡ true → kind ≤ 9 → last < 9
before_low v last kind follows low = elim (cases_lt last 9) [
  | inl less ↦ less
  | inr more ↦
      let some : (last == 0) ≡ false = ne_eqb last 0 (λ e. omega (arith, e, more)) in
      let chosen = last_choice (last == 0) (nat_lt last 6) (nat_lt last 9) (last == 255) _ _ _ _ follows some (not_below last 6 (omega (arith, more))) (not_below last 9 more) in
      absurd (not_either (kind == 255) (v == 2) (kind == 10) chosen (ne_eqb kind 255 (λ e. omega (arith, e, low))) (ne_eqb kind 10 (λ e. omega (arith, e, low))))
]

low : (v : ℕ) (r : Record) (before : List Record) → kind_of r ≤ 9 → one_statement r ≡ [] → Stand before → can_follow v (last_kind before) (kind_of r) ≡ true → Stand (r ∷ before)
low v r before small no_statement stand follows =
    let earlier : last_kind before < 9 = before_low v (last_kind before) (kind_of r) follows small in
    let nothing : statements_of (r ∷ before) ≡ [] = ap₂ (λ (xs ys : List (ℕ × ℕ)). xs ++ ys) (stand.none (omega (arith, earlier))) no_statement in
    record {
      none = λ less. nothing;
      rise = λ e. absurd (omega (arith, e, small));
      all = subst (λ ss. RisesFrom 0 (starts_of ss) (length (code_of (r ∷ before)))) (sym nothing) (omega arith);
    }

-- one statement more
statement_more : (s : ℕ × ℕ) (before : List Record) (high : ℕ) → RisesFrom 0 (starts_of (statements_of before)) high → high ≤ s.0 → s.0 < length (code_of before) → Stand (Statement s ∷ before)
statement_more s before high rises above within =
    let one : RisesFrom high (s.0 ∷ []) (s.0 + 1) = (above, omega arith) in
    let whole : RisesFrom 0 (starts_of (statements_of before ++ s ∷ [])) (s.0 + 1) =
    subst (λ xs. RisesFrom 0 xs (s.0 + 1)) (sym (map-append (λ (x : ℕ × ℕ). x.0) (statements_of before) (s ∷ []))) (rises-append 0 (starts_of (statements_of before)) high (s.0 ∷ []) (s.0 + 1) rises one) in
    record {
      none = λ less. absurd (omega (arith, less));
      rise = λ e. whole;
      all = higher_end 0 (starts_of (statements_of before ++ s ∷ [])) (s.0 + 1) (length (code_of before)) (omega (arith, within)) whole;
    }

both_true : (a b : Bool) → (a && b) ≡ true → (a ≡ true) × (b ≡ true)
both_true true b e = (refl, e)
both_true false b e = absurd (cc)

after_statements : (v : ℕ) (s : ℕ × ℕ) (before : List Record) → Stand before → can_follow v (last_kind before) 10 ≡ true → is_allowed (facts_of before) (Statement s) ≡ true → Stand (Statement s ∷ before)
after_statements v s [] stand follows allowed = absurd (cc)
after_statements v s (Statement t ∷ before) stand follows allowed =
    let parts = both_true (nat_lt s.0 (length (code_of before))) (nat_le (t.0 + 1) s.0) allowed in
    statement_more s (Statement t ∷ before) (t.0 + 1) (stand.rise refl) (leb-true (t.0 + 1) s.0 parts.1) (ltb-true s.0 (length (code_of before)) parts.0)
after_statements v s (BodyFacts b ∷ before) stand follows allowed =
    let parts = both_true (nat_lt s.0 (length (code_of before))) true allowed in
    let nothing = subst (λ ss. RisesFrom 0 (starts_of ss) 0) (sym (stand.none (omega arith))) (omega arith) in
    statement_more s (BodyFacts b ∷ before) 0 nothing (omega arith) (ltb-true s.0 (length (code_of before)) parts.0)
after_statements v s (r ∷ before) stand follows allowed = absurd (cc)

stands : (v : ℕ) (rs : List Record) → IsFront v rs → Stand rs
stands v [] h = record { none = λ less. refl; rise = λ e. absurd (omega (arith, e)); all = omega arith }
stands v (Statement s ∷ before) h = after_statements v s before (stands v before h.0) h.1.in_order h.1.allowed
stands v (End ∷ before) h = record {
  none = λ less. absurd (omega (arith, less));
  rise = λ e. absurd (omega (arith, e));
  all = subst (λ ss. RisesFrom 0 (starts_of ss) (length (code_of before))) (sym (append-nil (statements_of before))) (stands v before h.0).all;
}
stands v (r ∷ before) h = low v r before (omega arith) refl (stands v before h.0) h.1.in_order

-- those that are read of an object
pub statements_rise : (v : ℕ) (rs : List Record) → IsFront v rs → RisesFrom 0 (starts_of (values_in statement_in (payloads 10 rs))) (length (code_of rs))
statements_rise v rs h = subst (λ ss. RisesFrom 0 (starts_of ss) (length (code_of rs))) (sym (statements-are v rs h)) (stands v rs h).all

pub view_rises : (bytes : List ℕ) (view : View) → AnswersOpen bytes (Ok view) → RisesFrom 0 (starts_of (records_of statement_in 10 view)) (length view.code.now)
view_rises bytes view (v, records, o, shows, same) =
    subst (λ n. RisesFrom 0 (starts_of (records_of statement_in 10 view)) n) (sym (ap length shows.code))
    (subst (λ ps. RisesFrom 0 (starts_of (values_in statement_in ps)) (length (code_of records))) (sym (same 10)) (statements_rise v records o.front))

-- one object more
pub next_rises : (places new : List ℕ) (start end : ℕ) (name : List ℕ) (line : ℕ) (view : View) (code : List ℕ) → RisesFrom 0 places start → RisesFrom 0 (starts_of (records_of statement_in 10 view)) (length view.code.now)
    → code ≡ view.code.now → end ≡ start + length code → start + length code ≤ 65536 → new ≡ places ++ segment_places start name line view.name (records_of statement_in 10 view) → RisesFrom 0 new end
next_rises places new start end name line view code before rises is end_is room more =
    let same : length code ≡ length view.code.now = ap length is in
    let size = length view.code.now in
    let here : RisesFrom (start + 0) (places_at start line (records_of statement_in 10 view)) (start + size) =
    places_rise start line 0 (records_of statement_in 10 view) size rises (omega (arith, room, same)) in
    let from : RisesFrom start (places_at start line (records_of statement_in 10 view)) (start + size) = lower_start start (start + 0) _ (start + size) (omega arith) here in
    let none : RisesFrom start [] (start + size) = omega arith in
    let stop : start + size ≡ end = omega (arith, end_is, same) in
    let next : RisesFrom start (segment_places start name line view.name (records_of statement_in 10 view)) (start + size) = elim (cases_Bool (is_same_name view.name name)) [
      | inl named ↦ subst (λ b. RisesFrom start (if b then places_at start line (records_of statement_in 10 view) else []) (start + size)) (sym named) from
      | inr other ↦ subst (λ b. RisesFrom start (if b then places_at start line (records_of statement_in 10 view) else []) (start + size)) (sym other) none
    ] in
    subst (λ ps. RisesFrom 0 ps end) (sym more)
    (subst (RisesFrom 0 (places ++ segment_places start name line view.name (records_of statement_in 10 view))) stop (rises-append 0 places start _ (start + size) before next))
