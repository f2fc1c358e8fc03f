-- The whole object.
use Rattle.std.proofs.Common.{◌≡◌, ℕ, ◌<◌, ◌≤◌, ◌≢◌, true, false, cond, eqb, List, [], ◌∷◌, ◌++◌, length, drop, Option, Some, None, refl, sym, ap, subst, ◌∙◌, append_assoc, arith}
use Rattle.std.proofs.lemmas.Bool.Decides.{nat_tests}
use Rattle.std.proofs.lemmas.Bool.{ne_eqb}
use Rattle.std.proofs.lemmas.List.{length-drop, append-nil, nil_from_length}
use Rattle.cw_word.specs.Name.{IsName}
use Rattle.cw_view.specs.declared.front.Front.{Front}
use Rattle.cw_view.specs.declared.fault.ObjFault.TheVariants.{Trailing}
use Rattle.cw_fields.specs.Fields.{◌>>=◌, text_bytes, text_in, long_bytes}
use Rattle.cw_fields.specs.Names.{named}
use Rattle.cw_view.specs.ObjectFormat
use Rattle.cw_view.specs.ObjectFormat.{Record, SegmentName, kind_of, payload_of, record_bytes, last_kind, code_of, facts_of, can_follow, IsNext, IsFront, IsVersion, IsObjectOf, IsFirstObjectFault, FailsBehind, trailing, front_bytes, header, payload_if, payloads}
use Rattle.cw_view.specs.Fronts.{Reaches, first_name, facts_at}
use Rattle.cw_fields.proofs.Formats.{reads_text}
use Rattle.cw_fields.proofs.Names.{name-Decides}
use Rattle.cw_view.proofs.Opening.{cell}
use Rattle.cw_view.proofs.Reaching.{last_is, fails_behind}

-- how records begin
pub record Begins (v : ℕ) (records : List Record) : Type 0 where
  pub name : List ℕ
  pub rest : List ℕ
  pub is_name : IsName name
  pub spelled : front_bytes v records ≡ header v ++ (record_bytes (SegmentName name) ++ rest)
  pub only : payloads 1 records ≡ text_bytes name ∷ []

ff : false ≡ true → ⊥
ff e = cc

abbrev some : {A : Type 0} → A → Option A
some x = Some x

some_kind : (r : Record) → kind_of r ≢ 0
some_kind (SegmentName x) e = absurd (omega (arith, e))
some_kind _ e = absurd (omega (arith, e))

begins_alone : (v : ℕ) (r : Record) → IsNext v [] r → Begins v (r ∷ [])
begins_alone v (SegmentName x) n = record { name = x; rest = []; is_name = n.fits; spelled = ap (λ y. header v ++ y) (sym (append-nil (record_bytes (SegmentName x)))); only = refl }
begins_alone v _ n = absurd (ff n.in_order)

no_second : (v last kind : ℕ) → can_follow v last kind ≡ true → last ≢ 0 → kind ≢ 1
no_second v last kind h some = grind (arith, nat_tests)

pub begins : (v : ℕ) (records : List Record) → IsFront v records → last_kind records ≢ 0 → Begins v records
begins v [] f some = absurd (some refl)
begins v (r ∷ []) f some = begins_alone v r f.1
begins v (r ∷ q ∷ before) f some =
    let b = begins v (q ∷ before) f.0 (some_kind q) in
    let other : eqb (kind_of r) 1 ≡ false = ne_eqb (kind_of r) 1 (no_second v (kind_of q) (kind_of r) f.1.in_order (some_kind q)) in
    let none : payload_if 1 r ≡ [] = ap (λ t. cond t (payload_of r ∷ []) []) other in
    record {
      name = b.name;
      rest = b.rest ++ record_bytes r;
      is_name = b.is_name;
      spelled = ap (λ y. y ++ record_bytes r) b.spelled ∙ append_assoc (header v) (record_bytes (SegmentName b.name) ++ b.rest) (record_bytes r) ∙ ap (λ y. header v ++ y) (append_assoc (record_bytes (SegmentName b.name)) b.rest (record_bytes r));
      only = ap (λ y. payloads 1 (q ∷ before) ++ y) none ∙ append-nil (payloads 1 (q ∷ before)) ∙ b.only;
    }

pub begins_in : (v : ℕ) (bytes : List ℕ) (front : Front) (at : ℕ) (h : Reaches v bytes front at) → front.kind ≡ 255 → Begins v h.before
begins_in v bytes front at h end = begins v h.before h.is_front (λ e. absurd (omega (arith, last_is v bytes front at h, e, end)))

abbrev head : (v : ℕ) → List ℕ → List ℕ
head v text = header v ++ (1 ∷ long_bytes (length (text_bytes text)))

text_there : (v : ℕ) (bytes : List ℕ) (front : Front) (at : ℕ) (h : Reaches v bytes front at) (b : Begins v h.before) → drop 11 bytes ≡ text_bytes b.name ++ (b.rest ++ drop at bytes)
text_there v bytes front at h b =
    ap (drop 11) (h.spelled ∙ ap (λ y. y ++ drop at bytes) b.spelled ∙ append_assoc (header v) (record_bytes (SegmentName b.name) ++ b.rest) (drop at bytes) ∙ ap (λ y. header v ++ y) (append_assoc (record_bytes (SegmentName b.name)) b.rest (drop at bytes)))

pub long_enough : (v : ℕ) (bytes : List ℕ) (front : Front) (at : ℕ) (h : Reaches v bytes front at) → front.kind ≡ 255 → 11 ≤ length bytes
long_enough v bytes front at h end =
    let b = begins_in v bytes front at h end in
    let e = ap length (text_there v bytes front at h b) in
    omega (arith, length-drop 11 bytes, e)

pub name_there : (v : ℕ) (bytes : List ℕ) (front : Front) (at : ℕ) (h : Reaches v bytes front at) (end : front.kind ≡ 255) → first_name bytes ≡ Some (begins_in v bytes front at h end).name
name_there v bytes front at h end =
    let b = begins_in v bytes front at h end in
    ap (λ y. text_in y >>= λ t. named t.0) (text_there v bytes front at h b)
    ∙ ap (λ o. o >>= λ t. named t.0) (reads_text.again b.name (b.rest ++ drop at bytes) (omega (arith, b.is_name.short)))
    ∙ ap (λ t. cond t (some b.name) None) ((name-Decides b.name).1 b.is_name)

pub whole_object : (v : ℕ) (bytes : List ℕ) (front : Front) (at : ℕ) → IsVersion v → (h : Reaches v bytes front at) → front.kind ≡ 255 → length bytes ≤ at → IsObjectOf bytes v h.before
whole_object v bytes front at version h end le =
    let none : drop at bytes ≡ [] = nil_from_length (drop at bytes) (omega (arith, length-drop at bytes)) in
    record { version = version; front = h.is_front; ended = last_is v bytes front at h ∙ end; spelled = h.spelled ∙ ap (λ y. front_bytes v h.before ++ y) none ∙ append-nil (front_bytes v h.before) }

pub fails_trailing : (v : ℕ) (bytes : List ℕ) (front : Front) (at : ℕ) → IsVersion v → (h : Reaches v bytes front at) → front.kind ≡ 255 → at < length bytes → IsFirstObjectFault bytes (Trailing at)
fails_trailing v bytes front at version h end more =
    fails_behind v bytes front at (Trailing at) version h
    (λ before is. subst (λ (rest : List ℕ). FailsBehind v before at (length bytes) rest (Trailing at)) (sym (cell bytes at more)) (trailing (is ∙ end)))

pub code_there : (v : ℕ) (bytes : List ℕ) (front : Front) (at : ℕ) (h : Reaches v bytes front at) → (facts_at bytes front).code ≡ code_of h.before
code_there v bytes front at h = ap (λ (f : ObjectFormat.Facts). f.code) h.facts
