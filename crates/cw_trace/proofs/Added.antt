-- Texts that are added one after the other.
use Rattle.std.proofs.Common.{◌≡◌, ℕ, zero, suc, ◌+◌, ◌<◌, ◌≤◌, List, [], ◌∷◌, ◌++◌, length, take, drop, get_or, flat_map, Option, Result, Ok, Err, refl, ap, subst, arith, sym, ◌∙◌, append_assoc, append-nil, length-append}
use Rattle.std.proofs.lemmas.List.{take-append-le}
use Rattle.std.proofs.Math.Seq.{take-append-add}
use Rattle.cw_io.specs.Bytes.{after_told}
use Rattle.cw_io.specs.declared.source.Failed.{Failed}
use Rattle.cw_write.specs.Said.{Writes}
use Rattle.cw_write.proofs.Said.{after_told-append, writes_then}
use Rattle.cw_trace.specs.Gathering.{Gathered, gathered, KeepsRest, Adds}

-- one text and then another
pub keeps_more : (held between new : Option (List ℕ)) (w v u s t : List ℕ) → KeepsRest held w between v s → KeepsRest between v new u t → KeepsRest held w new u (s ++ t)
keeps_more held between new w v u s t (first, is, told) (second, also, more) = (
  first ++ second,
  sym (append_assoc w s t) ∙ ap (λ xs. xs ++ t) is ∙ append_assoc first v t ∙ ap (λ xs. first ++ xs) also ∙ sym (append_assoc first second u),
  more ∙ ap (λ told. after_told told second) told ∙ after_told-append held first second,
)

-- a text was added, and then another as the result says
pub adds_then : (old between new : Gathered) (s t : List ℕ) (r : Result (Unit {0}) Failed) → KeepsRest old.held old.waiting between.held between.waiting s → between.faults ≡ old.faults → Adds between new t r → Adds old new (s ++ t) r
adds_then old between new s t (Ok x) keeps same adds = record {
  later = omega (arith, adds.later, same);
  ok = keeps_more old.held between.held new.held old.waiting between.waiting new.waiting s t keeps adds.ok;
  ok_faults = adds.ok_faults ∙ same;
  cut = tt;
  err = tt;
}
adds_then old between new s t (Err e) (first, is, held) same adds =
    let count = adds.cut.0 in
    let whole : old.waiting ++ (s ++ t) ≡ first ++ (between.waiting ++ t) =
    sym (append_assoc old.waiting s t) ∙ ap (λ xs. xs ++ t) is ∙ append_assoc first between.waiting t in
    record {
      later = omega (arith, adds.later, same);
      ok = tt;
      ok_faults = tt;
      cut = (
        length first + count,
        omega (arith, adds.cut.1, ap length whole, length-append first (between.waiting ++ t)),
        adds.cut.2 ∙ ap (λ told. after_told told (take count (between.waiting ++ t))) held ∙ after_told-append old.held first _
            ∙ ap (λ xs. after_told old.held xs) (sym (take-append-add first (between.waiting ++ t) count) ∙ ap (take (length first + count)) (sym whole)),
      );
      err = rw (sym same) adds.err;
    }

-- a sink that failed in a first part failed in the whole
pub adds_cut : (old new : Gathered) (s t : List ℕ) (e : Failed) → Adds {E = Failed} old new s (Err e) → Adds {E = Failed} old new (s ++ t) (Err e)
adds_cut old new s t e adds =
    let count = adds.cut.0 in
    let whole : old.waiting ++ (s ++ t) ≡ (old.waiting ++ s) ++ t = sym (append_assoc old.waiting s t) in
    let few : count ≤ length (old.waiting ++ s) = omega (arith, adds.cut.1) in
    record {
      later = adds.later;
      ok = tt;
      ok_faults = tt;
      cut = (
        count,
        omega (arith, adds.cut.1, ap length whole, length-append (old.waiting ++ s) t),
        adds.cut.2 ∙ ap (λ xs. after_told old.held xs) (sym (take-append-le count (old.waiting ++ s) t few) ∙ ap (take count) (sym whole)),
      );
      err = adds.err;
    }

-- what was gathered was written, and then a text as the result says
pub adds_written : (old new : Gathered) (between : Option (List ℕ)) (faults : ℕ) (t : List ℕ) (r : Result (Unit {0}) Failed)
    → between ≡ after_told old.held old.waiting → faults ≡ old.faults → new.waiting ≡ [] → Writes between new.held faults new.faults t r → Adds old new t r
adds_written old new between faults t (Ok x) is same none writes =
    let w = writes_then old.held between new.held old.faults faults new.faults old.waiting t (Ok x) is same writes in
    record {
      later = w.later;
      ok = (old.waiting ++ t, sym (append-nil (old.waiting ++ t)) ∙ ap (λ xs. (old.waiting ++ t) ++ xs) (sym none), w.ok);
      ok_faults = w.ok_faults;
      cut = tt;
      err = tt;
    }
adds_written old new between faults t (Err e) is same none writes =
    let w = writes_then old.held between new.held old.faults faults new.faults old.waiting t (Err e) is same writes in
    record { later = w.later; ok = tt; ok_faults = tt; cut = w.cut; err = w.err }

-- a line was gathered where nothing was, and then written as the result says
pub writes_gathered : (held between new : Option (List ℕ)) (faults middle faults' : ℕ) (w v text : List ℕ) (r : Result (Unit {0}) Failed)
    → w ≡ [] → KeepsRest held w between v text → middle ≡ faults → Writes between new middle faults' v r → Writes held new faults faults' text r
writes_gathered held between new faults middle faults' w v text r none (first, is, told) same writes =
    let whole : first ++ v ≡ text = sym is ∙ ap (λ xs. xs ++ text) none in
    subst (λ xs. Writes held new faults faults' xs r) whole (writes_then held between new faults middle faults' first v r told same writes)

-- a line whose gathering failed was not written
pub writes_ungathered : (held : Option (List ℕ)) (w : List ℕ) (faults : ℕ) (new : Gathered) (text : List ℕ) (e : Failed)
    → w ≡ [] → Adds {E = Failed} (gathered held w faults) new text (Err e) → Writes {E = Failed} held new.held faults new.faults text (Err e)
writes_ungathered held w faults new text e none adds =
    let cut = subst (λ xs. (count : ℕ) × (count < length (xs ++ text)) × (new.held ≡ after_told held (take count (xs ++ text)))) none adds.cut in
    record { later = adds.later; ok = tt; ok_faults = tt; cut = cut; err = adds.err }

-- ---- many texts

-- what is made of a list's items, in three parts: those before an item, that one and those behind it
all_parts : {X : Type 0} (f : X → List ℕ) (xs : List X) (i : ℕ) (d : X) → i < length xs
    → flat_map f xs ≡ flat_map f (take i xs) ++ (f (get_or xs i d) ++ flat_map f (drop (suc i) xs))
all_parts f [] i d within = absurd (omega arith)
all_parts f (x ∷ xs) zero d within = refl
all_parts f (x ∷ xs) (suc i) d within = rw (all_parts f xs i d (omega arith), append_assoc) refl

first_parts : {X : Type 0} (f : X → List ℕ) (xs : List X) (i : ℕ) (d : X) → i < length xs → flat_map f (take (suc i) xs) ≡ flat_map f (take i xs) ++ f (get_or xs i d)
first_parts f [] i d within = absurd (omega arith)
first_parts f (x ∷ xs) zero d within = append-nil (f x)
first_parts f (x ∷ xs) (suc i) d within = rw (first_parts f xs i d (omega arith), append_assoc) refl

-- the texts made of the first items were added, and then that of the next one
pub item_more : {X : Type 0} (f : X → List ℕ) (xs : List X) (i : ℕ) (d x : X) (held between new : Option (List ℕ)) (w v u : List ℕ) → i < length xs → x ≡ get_or xs i d
    → KeepsRest held w between v (flat_map f (take i xs)) → KeepsRest between v new u (f x) → KeepsRest held w new u (flat_map f (take (i + 1) xs))
item_more f xs i d x held between new w v u within is keeps more =
    let next : suc i ≡ i + 1 = omega arith in
    let parts : flat_map f (take (suc i) xs) ≡ flat_map f (take i xs) ++ f x = first_parts f xs i d within ∙ ap (λ y. flat_map f (take i xs) ++ f y) (sym is) in
    subst (λ n. KeepsRest held w new u (flat_map f (take n xs))) next
    (subst (KeepsRest held w new u) (sym parts) (keeps_more held between new w v u (flat_map f (take i xs)) (f x) keeps more))

-- the next one could not be added
pub item_cut : {X : Type 0} (f : X → List ℕ) (xs : List X) (i : ℕ) (d x : X) (old between new : Gathered) (e : Failed) → i < length xs → x ≡ get_or xs i d
    → KeepsRest old.held old.waiting between.held between.waiting (flat_map f (take i xs)) → between.faults ≡ old.faults → Adds {E = Failed} between new (f x) (Err e)
    → Adds {E = Failed} old new (flat_map f xs) (Err e)
item_cut f xs i d x old between new e within is keeps same adds =
    let so_far = adds_then old between new (flat_map f (take i xs)) (f x) (Err e) keeps same adds in
    let all = adds_cut old new (flat_map f (take i xs) ++ f x) (flat_map f (drop (suc i) xs)) e so_far in
    let whole : (flat_map f (take i xs) ++ f x) ++ flat_map f (drop (suc i) xs) ≡ flat_map f xs =
    append_assoc (flat_map f (take i xs)) _ _ ∙ ap (λ y. flat_map f (take i xs) ++ (f y ++ flat_map f (drop (suc i) xs))) is ∙ sym (all_parts f xs i d within) in
    subst (λ text. Adds {E = Failed} old new text (Err e)) whole all
