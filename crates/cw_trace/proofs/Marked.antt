-- Tables in which places are marked.
use Rattle.std.proofs.Common.{◌≡◌, ℕ, ◌+◌, ◌<◌, List, take, length, get_or, replicate, Bool, true, false, Option, None, Some, Ok, append-nil, refl, sym, ap, ◌∙◌, arith, inl, inr, [], subst}
use Rattle.std.specs.Prelude.{◌≢◌, slice_get, ◌==◌, ◌||◌, ◌&&◌}
use Rattle.std.specs.List.{list_any}
use Rattle.std.proofs.Math.ListN.{set}
use Rattle.std.proofs.Math.Bool.{or-true, or-false}
use Rattle.std.proofs.lemmas.Bool.{cases_eq, eq-eqb, ne_eqb}
use Rattle.std.proofs.lemmas.List.{length-set, length-replicate, get_or-replicate, get_or-set_same, get_or-set_other}
use Rattle.std.proofs.lemmas.List.Folds.{list_any_more}
use Rattle.std.proofs.lemmas.Option.{slice_get-get_or, slice_get_within, get_or_from_slice_get}
use Rattle.cw_io.specs.Bytes.{after_told}
use Rattle.cw_io.specs.declared.source.Failed.{Failed}
use Rattle.cw_i86.specs.State.{State}
use Rattle.cw_write.specs.Said.{Writes}
use Rattle.cw_trace.specs.Marks.{Marks}
use Rattle.cw_trace.specs.Reports.{report_text, told_at}
use Rattle.cw_trace.specs.declared.watch.Watch.{Watch}

pub nothing_marked : (n k : ℕ) → k < n → slice_get (replicate n false) k ≡ Some false
nothing_marked n k less =
    slice_get-get_or (replicate n false) k true (omega (arith, length-replicate n false)) ∙ ap Some (get_or-replicate n k false true less)

-- one place more is marked
pub marks_more : (places : List ℕ) (table : List Bool) (i : ℕ) → i < length places → get_or places i 0 < 65536 → Marks (take i places) table
    → Marks (take (i + 1) places) (set table (get_or places i 0) true)
marks_more places table i within fits marks k less =
    let place = get_or places i 0 in
    let more : list_any (λ p. p == k) (take (i + 1) places) ≡ (list_any (λ p. p == k) (take i places) || (place == k)) = list_any_more (λ p. p == k) places i 0 within in
    let room : k < length table = slice_get_within table k _ (marks k less) in
    let room_then : k < length (set table place true) = omega (arith, room, length-set table place true) in
    slice_get-get_or (set table place true) k false room_then ∙ ap Some (elim (cases_eq place k) [
      | inl e ↦ ap (λ j. get_or (set table j true) k false) e ∙ get_or-set_same table k true false room ∙ sym (more ∙ ap (λ b. list_any (λ p. p == k) (take i places) || b) (eq-eqb place k e) ∙ or-true _)
      | inr other ↦
          let apart : k ≢ place = λ e. other (sym e) in
          get_or-set_other table place k true false apart ∙ get_or_from_slice_get table k _ false (marks k less)
          ∙ sym (more ∙ ap (λ b. list_any (λ p. p == k) (take i places) || b) (ne_eqb place k other) ∙ or-false _)
    ])

marked : (places : List ℕ) (table : List Bool) (k : ℕ) → Marks places table → k < 65536 → get_or table k false ≡ list_any (λ p. p == k) places
marked places table k marks less = get_or_from_slice_get table k _ false (marks k less)

-- ---- what is told before an instruction, by what is marked

pub tells_there : (watch : Watch) (s : State) (table : List Bool) (at segment : ℕ) → Marks watch.places table → at < 65536 → at ≡ s.instruction_pointer → segment ≡ s.code_segment
    → get_or table at false ≡ true → segment ≡ 0x1000 → report_text watch s ≡ told_at watch s
tells_there watch s table at segment marks less at_is segment_is is code =
    let place : list_any (λ p. p == s.instruction_pointer) watch.places ≡ true =
    subst (λ k. list_any (λ p. p == k) watch.places ≡ true) at_is (sym (marked watch.places table at marks less) ∙ is) in
    let there : (s.code_segment == 0x1000) ≡ true = eq-eqb _ _ (sym segment_is ∙ code) in
    rw (place, there) refl

pub tells_nothing : (watch : Watch) (s : State) (table : List Bool) (at : ℕ) → Marks watch.places table → at < 65536 → at ≡ s.instruction_pointer → get_or table at false ≡ false → [] ≡ told_at watch s
tells_nothing watch s table at marks less at_is is =
    let place : list_any (λ p. p == s.instruction_pointer) watch.places ≡ false =
    subst (λ k. list_any (λ p. p == k) watch.places ≡ false) at_is (sym (marked watch.places table at marks less) ∙ is) in
    rw place refl

pub tells_not_elsewhere : (watch : Watch) (s : State) → (s.code_segment ≡ 0x1000 → ⊥) → [] ≡ told_at watch s
tells_not_elsewhere watch s elsewhere =
    let there : (s.code_segment == 0x1000) ≡ false = ne_eqb _ _ elsewhere in
    rw (there, and_false) refl
  where
    and_false : (b : Bool) → (b && false) ≡ false
    and_false true = refl
    and_false false = refl

nothing : (told : Option (List ℕ)) → told ≡ after_told told []
nothing None = refl
nothing (Some held) = ap Some (sym (append-nil held))

-- where nothing is told, nothing need be written
pub writes_nothing : (held : Option (List ℕ)) (faults : ℕ) (text : List ℕ) → [] ≡ text → Writes {E = Failed} held held faults faults text (Ok tt)
writes_nothing held faults text is = record { later = omega arith; ok = nothing held ∙ ap (after_told held) is; ok_faults = refl; cut = tt; err = tt }
