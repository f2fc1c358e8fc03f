-- The item of a text is the first of the lowest address.
use Rattle.std.proofs.Common.{◌≡◌, ◌≢◌, ℕ, zero, suc, ◌<◌, ◌≤◌, false, List, [], ◌∷◌, Option, Some, None, refl, sym, ap, subst, ◌∙◌, arith, inl, inr, true≢false}
use Rattle.std.specs.Prelude.{nat_lt, if◌then◌else◌, slice_get}
use Rattle.std.specs.Str.{bytes_eq}
use Rattle.std.proofs.lemmas.Bool.{cases_Bool, ltb-true, lt-ltb, cases_lt}
use Rattle.std.proofs.lemmas.Option.{same_Some}
use Rattle.std.proofs.lemmas.Slice.Eq.{bytes_eq-Decides}
use Rattle.cw_watch.specs.declared.lines.ItemLine.{ItemLine}
use Rattle.cw_watch.specs.Watching.{lower, item_at, IsFirstItem, FirstItem}

-- what holds of the first line and of those behind it
each_line : (P : ℕ → ItemLine → Type 0) (line : ItemLine) (lines : List ItemLine) → P 0 line → ((k : ℕ) (x : ItemLine) → slice_get lines k ≡ Some x → P (suc k) x)
    → (k : ℕ) (x : ItemLine) → slice_get (line ∷ lines) k ≡ Some x → P k x
each_line P line lines front rest zero x is = subst (P 0) (same_Some line x is) front
each_line P line lines front rest (suc k) x is = rest k x is

-- a line of another text in front
skips : (text : List ℕ) (line : ItemLine) (lines : List ItemLine) (found : Option (ℕ × ℕ)) → line.text ≢ text → FirstItem text lines found → FirstItem text (line ∷ lines) found
skips text line lines None other none = each_line (λ k x. x.text ≢ text) line lines other none
skips text line lines (Some place) other found = record {
  at = suc found.at;
  line = found.line;
  stands = found.stands;
  named = found.named;
  place_is = found.place_is;
  lowest = each_line (λ k x. x.text ≡ text → found.line.address ≤ x.address) line lines (λ e. absurd (other e)) found.lowest;
  first = each_line (λ k x. x.text ≡ text → k < suc found.at → found.line.address < x.address) line lines (λ e less. absurd (other e)) (λ k x is e less. found.first k x is e (omega (arith, less)));
}

not_lower : (n m : ℕ) → nat_lt n m ≡ false → m ≤ n
not_lower n m is = elim (cases_lt n m) [ inl less ↦ absurd (true≢false (sym (lt-ltb n m less) ∙ is)) | inr more ↦ more ]

-- a line of the text in front
joins : (text : List ℕ) (line : ItemLine) (lines : List ItemLine) (found : Option (ℕ × ℕ)) → line.text ≡ text → FirstItem text lines found → FirstItem text (line ∷ lines) (lower (line.address, line.words) found)
joins text line lines None named none = record {
  at = 0;
  line = line;
  stands = refl;
  named = named;
  place_is = refl;
  lowest = each_line (λ k x. x.text ≡ text → line.address ≤ x.address) line lines (λ e. omega arith) (λ k x is e. absurd (none k x is e));
  first = λ k x is e less. absurd (omega (arith, less));
}
joins text line lines (Some place) named found =
    let address : place.0 ≡ found.line.address = ap (λ (p : ℕ × ℕ). p.0) found.place_is in
    elim (cases_Bool (nat_lt place.0 line.address)) [
      | inl is ↦
          let less = ltb-true place.0 line.address is in
          let behind : IsFirstItem text (line ∷ lines) place = record {
            at = suc found.at;
            line = found.line;
            stands = found.stands;
            named = found.named;
            place_is = found.place_is;
            lowest = each_line (λ k x. x.text ≡ text → found.line.address ≤ x.address) line lines (λ e. omega (arith, less, address)) found.lowest;
            first = each_line (λ k x. x.text ≡ text → k < suc found.at → found.line.address < x.address) line lines (λ e small. omega (arith, less, address)) (λ k x is e small. found.first k x is e (omega (arith, small)));
          } in
          subst (λ b. FirstItem text (line ∷ lines) (if b then Some place else Some (line.address, line.words))) (sym is) behind
      | inr other ↦
          let more = not_lower place.0 line.address other in
          let front : IsFirstItem text (line ∷ lines) (line.address, line.words) = record {
            at = 0;
            line = line;
            stands = refl;
            named = named;
            place_is = refl;
            lowest = each_line (λ k x. x.text ≡ text → line.address ≤ x.address) line lines (λ e. omega arith) (λ k x is e. omega (arith, found.lowest k x is e, more, address));
            first = λ k x is e less. absurd (omega (arith, less));
          } in
          subst (λ b. FirstItem text (line ∷ lines) (if b then Some place else Some (line.address, line.words))) (sym other) front
    ]

pub first_item : (text : List ℕ) (lines : List ItemLine) → FirstItem text lines (item_at text lines)
first_item text [] = λ k other is. absurd (cc)
first_item text (line ∷ lines) = elim (cases_Bool (bytes_eq line.text text)) [
  | inl is ↦
      subst (λ b. FirstItem text (line ∷ lines) (if b then lower (line.address, line.words) (item_at text lines) else item_at text lines)) (sym is)
      (joins text line lines (item_at text lines) ((bytes_eq-Decides line.text text).0 is) (first_item text lines))
  | inr other ↦
      subst (λ b. FirstItem text (line ∷ lines) (if b then lower (line.address, line.words) (item_at text lines) else item_at text lines)) (sym other)
      (skips text line lines (item_at text lines) (λ e. true≢false (sym ((bytes_eq-Decides line.text text).1 e) ∙ other)) (first_item text lines))
]
