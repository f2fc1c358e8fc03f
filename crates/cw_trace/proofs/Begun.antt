-- What is told of a run, by the statements that it begins.
use Rattle.std.proofs.Common.{◌≡◌, ℕ, zero, suc, ◌+◌, ◌*◌, ◌<◌, Bool, true, false, List, [], ◌∷◌, ◌++◌, map, get_or, All, flat_map, refl, sym, ap, ap₂, subst, ◌∙◌, inl, inr, arith, append-nil, codes, true≢false}
use Rattle.std.specs.Prelude.{ℤ, pos, ◌==◌, ◌&&◌, ◌||◌, nat_eq, if◌then◌else◌}
use Rattle.std.specs.List.{list_any, IsDistinct, AllByRecursion}
use Rattle.std.proofs.lemmas.Bool.{cases_Bool, eq-eqb, ne_eqb, eqb-true}
use Rattle.std.proofs.lemmas.Grind.{flat_map-append}
use Rattle.std.proofs.lemmas.Map.Keys.{IsDistinct-head, IsDistinct-tail}
use Rattle.std.specs.Fmt.{signed_decimal}
use Rattle.cw_word.specs.Word.{signed}
use Rattle.cw_cpu86.proofs.Ends.{has_ended}
use Rattle.cw_i86.specs.Encoding.{IsInstr, BeginsWith}
use Rattle.cw_i86.specs.declared.instr.Instr.{Instr}
use Rattle.cw_i86.specs.State.{State, word_at, data_segment}
use Rattle.cw_i86.specs.MachineRun.{Event, End, Running, Runs, FitsInput, written, IsOver, Observed, Shows}
use Rattle.cw_cpu86.proofs.Once.{runs_same}
use Rattle.cw_cpu86.proofs.Told.{FitsInput-parts}
use Rattle.cw_image.specs.Begun.{StatementPlace, lines_at, data_words, beginning}
use Rattle.cw_trace.specs.Reports.{word_of, word_text, head_text, line_text, report_text, told_at}
use Rattle.cw_trace.specs.Statements.{places_of, Watches, held_in, told_of, TellsOfBegun}
use Rattle.cw_trace.specs.declared.watch.Watch.{Watch}
use Rattle.cw_trace.specs.declared.watch.WatchedWord.{WatchedWord}
use Rattle.cw_trace.proofs.Segment.{run_stays}

-- ---- words

words_hold : (first count : ℕ) (s : State) (k : ℕ) → k < count → get_or (data_words first count s) k (pos 0) ≡ signed (word_at s.memory data_segment (2 * (first + k)))
words_hold first zero s k less = absurd (omega (arith, less))
words_hold first (suc count) s zero less = ap (λ n. signed (word_at s.memory data_segment (2 * n))) (omega arith)
words_hold first (suc count) s (suc k) less =
    let shift : first + 1 + k ≡ first + suc k = omega arith in
    words_hold (first + 1) count s k (omega (arith, less)) ∙ ap (λ n. signed (word_at s.memory data_segment (2 * n))) shift

same_word : (area : ℕ) (s : State) (address : ℕ) → address < area → held_in (data_words 0 area s) address ≡ word_of s address
same_word area s address less =
    let start : 0 + address ≡ address = omega arith in
    words_hold 0 area s address less ∙ ap (λ n. signed (word_at s.memory data_segment (2 * n))) start

same_text : (word : WatchedWord) (held held' : ℕ → ℤ) → held word.address ≡ held' word.address → word_text held word ≡ word_text held' word
unfolding word_text
same_text word held held' is = ap (λ z. codes " " ++ (word.text ++ (codes "=" ++ signed_decimal z))) is

same_words : (area : ℕ) (s : State) (words : List WatchedWord) → All (λ word. word.address < area) words
    → flat_map (word_text (held_in (data_words 0 area s))) words ≡ flat_map (word_text (word_of s)) words
same_words area s [] within = refl
same_words area s (word ∷ words) within =
    let first : word_text (held_in (data_words 0 area s)) word ≡ word_text (word_of s) word = same_text word (held_in (data_words 0 area s)) (word_of s) (same_word area s word.address (within 0 word (omega arith))) in
    ap₂ (λ x y. x ++ y) first (same_words area s words (λ k d less. within (suc k) d (omega (arith, less))))

same_line : (watch : Watch) (area : ℕ) (s : State) → All (λ word. word.address < area) watch.words → line_text watch (held_in (data_words 0 area s)) ≡ report_text watch s
unfolding line_text
same_line watch area s within = ap (λ x. head_text watch ++ (x ++ codes "\n")) (same_words area s watch.words within)

-- ---- one instruction

none_again : (place at : ℕ) (places : List ℕ) → place ≡ at → AllByRecursion (λ p. nat_eq place p ≡ false) places → list_any (λ p. p == at) places ≡ false
none_again place at [] is others = refl
none_again place at (p ∷ places) is (other, others) =
    let apart : (p == at) ≡ false = ne_eqb p at (λ e. true≢false (sym (eq-eqb place p (is ∙ sym e)) ∙ other)) in
    ap₂ (λ x y. x || y) apart (none_again place at places is others)

module _ (watch : Watch) (segment : ℕ) (words : List ℤ) where
  abbrev is_of : StatementPlace → Bool
  is_of x = x.segment == segment && x.line == watch.line

  abbrev line : List ℕ
  line = line_text watch (held_in words)

  -- what is told of the statements at a place
  abbrev told_there : List StatementPlace → ℕ → List ℕ
  told_there places at = flat_map (told_of watch segment) (map (λ x. (x.0, x.1, words)) (lines_at places at))

  abbrev line_if : Bool → List ℕ
  line_if b = if b then line else []

  abbrev place_among : ℕ → List ℕ → Bool
  place_among at places = list_any (λ p. p == at) places

  here : (x : StatementPlace) (xs : List StatementPlace) (at : ℕ) → (x.place == at) ≡ true → told_there (x ∷ xs) at ≡ told_of watch segment (x.segment, x.line, words) ++ told_there xs at
  here x xs at is = rw is refl

  elsewhere : (x : StatementPlace) (xs : List StatementPlace) (at : ℕ) → (x.place == at) ≡ false → told_there (x ∷ xs) at ≡ told_there xs at
  elsewhere x xs at is = rw is refl

  of_line : (x : StatementPlace) (xs : List StatementPlace) → is_of x ≡ true → places_of segment watch.line (x ∷ xs) ≡ x.place ∷ places_of segment watch.line xs
  of_line x xs is = rw is refl

  of_other : (x : StatementPlace) (xs : List StatementPlace) → is_of x ≡ false → places_of segment watch.line (x ∷ xs) ≡ places_of segment watch.line xs
  of_other x xs is = rw is refl

  tells_line : (x : StatementPlace) → is_of x ≡ true → told_of watch segment (x.segment, x.line, words) ≡ line
  tells_line x is = rw is refl

  tells_none : (x : StatementPlace) → is_of x ≡ false → told_of watch segment (x.segment, x.line, words) ≡ []
  tells_none x is = rw is refl

  told_once : (places : List StatementPlace) (at : ℕ) → IsDistinct nat_eq (places_of segment watch.line places)
      → told_there places at ≡ line_if (place_among at (places_of segment watch.line places))
  told_once [] at once = refl
  told_once (x ∷ xs) at once = elim (cases_Bool (is_of x)) [
    | inl is ↦
        let apart : IsDistinct nat_eq (x.place ∷ places_of segment watch.line xs) = subst (IsDistinct nat_eq) (of_line x xs is) once in
        let rest = told_once xs at (IsDistinct-tail nat_eq x.place (places_of segment watch.line xs) apart) in
        elim (cases_Bool (x.place == at)) [
          | inl there ↦
              let none = none_again x.place at (places_of segment watch.line xs) (eqb-true x.place at there) (IsDistinct-head nat_eq x.place (places_of segment watch.line xs) apart) in
              here x xs at there ∙ ap₂ (λ a b. a ++ b) (tells_line x is) (rest ∙ ap line_if none) ∙ append-nil line
              ∙ sym (ap (λ ps. line_if (place_among at ps)) (of_line x xs is) ∙ ap (λ b. line_if (b || place_among at (places_of segment watch.line xs))) there)
          | inr other ↦
              elsewhere x xs at other ∙ rest
              ∙ sym (ap (λ ps. line_if (place_among at ps)) (of_line x xs is) ∙ ap (λ b. line_if (b || place_among at (places_of segment watch.line xs))) other)
        ]
    | inr other ↦
        let rest = told_once xs at (subst (IsDistinct nat_eq) (of_other x xs other) once) in
        let same = sym (ap (λ ps. line_if (place_among at ps)) (of_other x xs other)) in
        elim (cases_Bool (x.place == at)) [
          | inl there ↦ here x xs at there ∙ ap (λ a. a ++ told_there xs at) (tells_none x other) ∙ rest ∙ same
          | inr away ↦ elsewhere x xs at away ∙ rest ∙ same
        ]
  ]

-- what is told at a state, and of the statements that begin there
told_here : (watch : Watch) (segment : ℕ) (places : List StatementPlace) (area : ℕ) (t : State) → Watches watch segment places area → t.code_segment ≡ 0x1000
    → told_at watch t ≡ flat_map (told_of watch segment) (beginning places area t)
told_here watch segment places area t watches code =
    let words = data_words 0 area t in
    let there : (t.code_segment == 0x1000) ≡ true = eq-eqb _ _ code in
    let among = list_any (λ p. p == t.instruction_pointer) watch.places in
    let here : told_at watch t ≡ (if among then report_text watch t else []) = ap (λ b. if among && b then report_text watch t else []) there ∙ ap (λ b. if b then report_text watch t else []) (and_true among) in
    here ∙ ap (λ line. if among then line else []) (sym (same_line watch area t watches.within))
    ∙ ap (λ ps. if list_any (λ p. p == t.instruction_pointer) ps then line_text watch (held_in words) else []) watches.places_are
    ∙ sym (told_once watch segment words places t.instruction_pointer (subst (IsDistinct nat_eq) watches.places_are watches.once))
  where
    and_true : (b : Bool) → (b && true) ≡ b
    and_true true = refl
    and_true false = refl

-- ---- a run

-- what is known of the runs of the machine
pub record RunLaws : Type 0 where
  pub one : (bytes : List ℕ) (i j : Instr) → IsInstr i → IsInstr j → BeginsWith bytes i → BeginsWith bytes j → i ≡ j
  pub once : (s : State) (input : List ℕ) (n : ℕ) (a b : Observed) → Shows s input n a → Shows s input n b → a ≡ b

not_both : RunLaws → (s : State) (input : List ℕ) (n : ℕ) (a b : List Event) (t : State) (end : End) → Runs n s a t → FitsInput input a → IsOver s n b end → FitsInput input b → ⊥
not_both laws s input n a b t end runs fits over also =
    let at_work : Observed = record { output = written a; end = Running } in
    let is_over : Observed = record { output = written b; end = end } in
    let same = laws.once s input n is_over at_work (record { events = b; fits = also; output = refl; end = inr over }) (record { events = a; fits = fits; output = refl; end = inl (t, runs, refl) }) in
    has_ended s n b end over (ap (λ o. o.end) same)

pub tells_of_begun : RunLaws → TellsOfBegun
tells_of_begun laws watch segment places area s input zero events text begun watches code fits none nothing = none ∙ ap (flat_map (told_of watch segment)) (sym nothing)
tells_of_begun laws watch segment places area s input (suc n) events text begun watches code fits (before, reports, inl (t, said, rest, runs, is, ends)) (earlier, steps, begins, also, inl (u, goes, begun_is)) =
    let f = told_of watch segment in
    let fits_said = (FitsInput-parts said rest input (subst (FitsInput input) is fits)).0 in
    let same : t ≡ u = (runs_same laws.one n s input said steps t u runs goes fits_said also).1 in
    let first : before ≡ flat_map f earlier = tells_of_begun laws watch segment places area s input n events before earlier watches code fits reports begins in
    let there : t.code_segment ≡ 0x1000 = run_stays n s said t runs ∙ code in
    let second : told_at watch t ≡ flat_map f (beginning places area u) = told_here watch segment places area t watches there ∙ ap (λ x. flat_map f (beginning places area x)) same in
    ends ∙ ap₂ (λ x y. x ++ y) first second ∙ sym (flat_map-append f earlier (beginning places area u)) ∙ ap (flat_map f) (sym begun_is)
tells_of_begun laws watch segment places area s input (suc n) events text begun watches code fits (before, reports, inl (t, said, rest, runs, is, ends)) (earlier, steps, begins, also, inr (end, over, begun_is)) =
    absurd (not_both laws s input n said steps t end runs (FitsInput-parts said rest input (subst (FitsInput input) is fits)).0 over also)
tells_of_begun laws watch segment places area s input (suc n) events text begun watches code fits (before, reports, inr (end, over, ends)) (earlier, steps, begins, also, inl (u, goes, begun_is)) =
    absurd (not_both laws s input n steps events u end goes also over fits)
tells_of_begun laws watch segment places area s input (suc n) events text begun watches code fits (before, reports, inr (end, over, ends)) (earlier, steps, begins, also, inr (last, ended, begun_is)) =
    ends ∙ tells_of_begun laws watch segment places area s input n events before earlier watches code fits reports begins ∙ ap (flat_map (told_of watch segment)) (sym begun_is)
