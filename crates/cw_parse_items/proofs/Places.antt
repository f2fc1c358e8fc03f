-- The steps of the loop over preset places.
use Rattle.std.proofs.Common.{◌≡◌, ℕ, zero, suc, ◌+◌, ◌-◌, ◌*◌, ◌<◌, ◌≤◌, length, not, Bool, true, false, cond, List, [], ◌∷◌, ◌++◌, Result, Ok, Err, refl, sym, ap, ◌∙◌, arith}
use Rattle.cw_lex.specs.declared.token.TokenKind.TheVariants as kinds
use Rattle.cw_lex.specs.declared.token.Symbol.TheVariants as symbols
use Rattle.cw_tree.specs.declared.leaf.Position.{Position}
use Rattle.cw_tree.specs.declared.items.RawPlace.{RawPlace}
use Rattle.cw_tree.specs.declared.items.RawPlace.TheVariants as place_tree
use Rattle.cw_grammar.specs.Tokens.{Item, same, position}
use Rattle.cw_grammar.specs.Grammar.{a_from, a_position, a_list, a_place, again, places, starts, first}
use Rattle.cw_grammar.specs.Statements.{preset_value, place, presets}
use Rattle.cw_grammar.specs.Table.{again_rule}
use Rattle.cw_grammar.specs.declared.stop.Stop.{Stop}
use Rattle.cw_grammar.specs.Reading.{Fault, Read, Fails, ◌>>=◌, take_one, reads}
use Rattle.cw_grammar.proofs.Again.{again_step}
use Rattle.cw_grammar.proofs.Failing.{fails_where}
use Rattle.cw_grammar.proofs.Places.{ends, after_place, at_place, value_place, void_place, comma_place, last_place, open_place}
use Rattle.cw_lex.specs.declared.token.Token as token
use Rattle.cw_grammar.specs.Tokens.{behind}
use Rattle.cw_grammar.specs.Rules.{octal}
use Rattle.cw_grammar.proofs.Behind.{left_is}
use Rattle.cw_grammar.proofs.Many.{shorter}
use Rattle.cw_grammar.proofs.Took.{took, took_shorter}

-- what is still read, behind a place or where one begins
abbrev pub still : Bool → ℕ → List RawPlace → Position → List Item → Read (List RawPlace)
still b d xs before ts = cond b (after_place 0 d xs ts) (at_place 0 d xs before ts)

pub opens_place : (d e : ℕ) (xs : List RawPlace) (before : Position) (t : Item) (ts us : List Item) (total : Read (List RawPlace)) → e ≡ suc d → take_one (kinds.Symbol symbols.Open) ts ≡ Ok (t, us)
    → at_place 0 d xs before ts ≡ total → at_place 0 e xs (position t) us ≡ total
opens_place d e xs before t ts us total k h so_far =
    let p = took (kinds.Symbol symbols.Open) ts t us h in
    rw k (sym (open_place 0 d xs before t us p.1) ∙ ap (λ (z : List Item). at_place 0 d xs before z) (sym p.0) ∙ so_far)

pub comma_goes_on : (d : ℕ) (xs : List RawPlace) (t : Item) (ts us : List Item) (total : Read (List RawPlace)) → take_one (kinds.Symbol symbols.Comma) ts ≡ Ok (t, us)
    → after_place 0 d xs ts ≡ total → at_place 0 d xs (position t) us ≡ total
comma_goes_on d xs t ts us total h so_far =
    let p = took (kinds.Symbol symbols.Comma) ts t us h in
    sym (comma_place 0 d xs t us p.1) ∙ ap (λ (z : List Item). after_place 0 d xs z) (sym p.0) ∙ so_far

pub closes : (d e : ℕ) (xs : List RawPlace) (t : Item) (ts us : List Item) (total : Read (List RawPlace)) → d ≡ suc e → starts ts (kinds.Symbol symbols.Comma ∷ []) ≡ false → take_one (kinds.Symbol symbols.Close) ts ≡ Ok (t, us)
    → after_place 0 d xs ts ≡ total → after_place 0 e xs us ≡ total
closes d e xs t ts us total k c h so_far =
    let a : ends 0 d xs ts ≡ total = sym (last_place 0 d xs ts c) ∙ so_far in
    let b : ends 0 (suc e) xs ts ≡ total = rw k at a in
    rw h at b

pub closes_fails : (s : Stop) (d e : ℕ) (xs : List RawPlace) (ts : List Item) (total : Read (List RawPlace)) → d ≡ suc e → starts ts (kinds.Symbol symbols.Comma ∷ []) ≡ false → Fails s (take_one (kinds.Symbol symbols.Close) ts)
    → after_place 0 d xs ts ≡ total → Fails s total
closes_fails s d e xs ts total k c failed so_far =
    let a : ends 0 d xs ts ≡ total = sym (last_place 0 d xs ts c) ∙ so_far in
    let b : ends 0 (suc e) xs ts ≡ total = rw k at a in
    fails_where s (take_one (kinds.Symbol symbols.Close) ts) total (λ f h. sym (rw h at b)) failed

pub ends_there : (d : ℕ) (xs : List RawPlace) (ts : List Item) (total : Read (List RawPlace)) → d ≡ 0 → starts ts (kinds.Symbol symbols.Comma ∷ []) ≡ false → after_place 0 d xs ts ≡ total → total ≡ Ok (xs, ts)
ends_there d xs ts total k c so_far =
    let a : ends 0 d xs ts ≡ total = sym (last_place 0 d xs ts c) ∙ so_far in
    sym (rw k at a)

value_stops : (d : ℕ) (xs : List RawPlace) (before : Position) (ts : List Item) (f : Fault) → starts ts (kinds.Symbol symbols.Open ∷ []) ≡ false → starts ts (first preset_value) ≡ true → reads 0 preset_value ts ≡ Err f
    → at_place 0 d xs before ts ≡ Err f
unfolding again_rule presets place
value_stops d xs before ts f o v e = rw (again_step 0 (a_from a_position (a_list a_place)) places ts, o, v, e) refl

pub value_fails : (s : Stop) (d : ℕ) (xs : List RawPlace) (before : Position) (ts : List Item) (total : Read (List RawPlace)) → starts ts (kinds.Symbol symbols.Open ∷ []) ≡ false → starts ts (first preset_value) ≡ true → Fails s (reads 0 preset_value ts)
    → at_place 0 d xs before ts ≡ total → Fails s total
value_fails s d xs before ts total o v failed so_far = fails_where s (reads 0 preset_value ts) total (λ f is. sym so_far ∙ value_stops d xs before ts f o v is) failed

-- ---- the steps, with the bound of the depth

-- Fewer tokens are left at a later place.
later : (ts : List token.Token) (a b : ℕ) → length (behind ts b) < length (behind ts a) → a < b
later ts a b h = omega (arith, h, left_is ts a, left_is ts b)

value_shorter : (ts us : List Item) (v : RawPlace) → reads 0 preset_value ts ≡ Ok (v, us) → length us < length ts
unfolding preset_value octal
value_shorter ts us v h = shorter 0 a_place preset_value refl ts (v, us) h

abbrev pub Inv : Bool → ℕ → List RawPlace → Position → List token.Token → ℕ → Read (List RawPlace) → Type 0
Inv b d xs before ts next total = (still b d xs before (behind ts next) ≡ total) × (d ≤ next)

pub open_step : (b : Bool) (d : ℕ) (xs : List RawPlace) (before : Position) (t : Item) (ts : List token.Token) (next after : ℕ) (total : Read (List RawPlace)) → b ≡ false → take_one (kinds.Symbol symbols.Open) (behind ts next) ≡ Ok (t, behind ts after)
    → Inv b d xs before ts next total → Inv b (d + 1) xs (position t) ts after total
open_step true d xs before t ts next after total n h inv = absurd cc
open_step false d xs before t ts next after total n h inv =
    (opens_place d (d + 1) xs before t (behind ts next) (behind ts after) total (omega arith) h inv.0, omega (arith, inv.1, later ts next after (omega (arith, took_shorter (kinds.Symbol symbols.Open) (behind ts next) t (behind ts after) h))))

pub value_step : (b : Bool) (d : ℕ) (xs : List RawPlace) (before : Position) (v : RawPlace) (ts : List token.Token) (next after : ℕ) (total : Read (List RawPlace)) → b ≡ false → starts (behind ts next) (kinds.Symbol symbols.Open ∷ []) ≡ false → starts (behind ts next) (first preset_value) ≡ true
    → reads 0 preset_value (behind ts next) ≡ Ok (v, behind ts after) → Inv b d xs before ts next total → Inv true d (xs ++ v ∷ []) before ts after total
value_step true d xs before v ts next after total n o k h inv = absurd cc
value_step false d xs before v ts next after total n o k h inv =
    (sym (value_place 0 d xs before v (behind ts next) (behind ts after) o k h) ∙ inv.0, omega (arith, inv.1, later ts next after (value_shorter (behind ts next) (behind ts after) v h)))

pub void_step : (b : Bool) (d : ℕ) (xs : List RawPlace) (before : Position) (ts : List token.Token) (next : ℕ) (total : Read (List RawPlace)) → b ≡ false → starts (behind ts next) (kinds.Symbol symbols.Open ∷ []) ≡ false → starts (behind ts next) (first preset_value) ≡ false
    → Inv b d xs before ts next total → Inv true d (xs ++ place_tree.Void before ∷ []) before ts next total
void_step true d xs before ts next total n o k inv = absurd cc
void_step false d xs before ts next total n o k inv = (sym (void_place 0 d xs before (behind ts next) o k) ∙ inv.0, inv.1)

pub comma_step : (b : Bool) (d : ℕ) (xs : List RawPlace) (before : Position) (t : Item) (ts : List token.Token) (next after : ℕ) (total : Read (List RawPlace)) → b ≡ true → take_one (kinds.Symbol symbols.Comma) (behind ts next) ≡ Ok (t, behind ts after)
    → Inv b d xs before ts next total → Inv false d xs (position t) ts after total
comma_step false d xs before t ts next after total n h inv = absurd cc
comma_step true d xs before t ts next after total n h inv =
    (comma_goes_on d xs t (behind ts next) (behind ts after) total h inv.0, omega (arith, inv.1, later ts next after (omega (arith, took_shorter (kinds.Symbol symbols.Comma) (behind ts next) t (behind ts after) h))))

pub close_step : (b : Bool) (d : ℕ) (xs : List RawPlace) (before : Position) (t : Item) (ts : List token.Token) (next after : ℕ) (total : Read (List RawPlace)) → b ≡ true → (d ≡ 0 → ⊥) → starts (behind ts next) (kinds.Symbol symbols.Comma ∷ []) ≡ false
    → take_one (kinds.Symbol symbols.Close) (behind ts next) ≡ Ok (t, behind ts after) → Inv b d xs before ts next total → Inv b (d - 1) xs before ts after total
close_step false d xs before t ts next after total n z c h inv = absurd cc
close_step true zero xs before t ts next after total n z c h inv = absurd (z refl)
close_step true (suc d) xs before t ts next after total n z c h inv =
    (closes (suc d) (suc d - 1) xs t (behind ts next) (behind ts after) total (omega arith) c h inv.0, omega (arith, inv.1, later ts next after (omega (arith, took_shorter (kinds.Symbol symbols.Close) (behind ts next) t (behind ts after) h))))

pub last_step : (b : Bool) (d : ℕ) (xs : List RawPlace) (before : Position) (ts : List token.Token) (next : ℕ) (total : Read (List RawPlace)) → b ≡ true → d ≡ 0 → starts (behind ts next) (kinds.Symbol symbols.Comma ∷ []) ≡ false
    → Inv b d xs before ts next total → total ≡ Ok (xs, behind ts next)
last_step false d xs before ts next total n z c inv = absurd cc
last_step true d xs before ts next total n z c inv = ends_there d xs (behind ts next) total z c inv.0

pub value_step_fails : (s : Stop) (b : Bool) (d : ℕ) (xs : List RawPlace) (before : Position) (ts : List token.Token) (next : ℕ) (total : Read (List RawPlace)) → b ≡ false → starts (behind ts next) (kinds.Symbol symbols.Open ∷ []) ≡ false → starts (behind ts next) (first preset_value) ≡ true
    → Fails s (reads 0 preset_value (behind ts next)) → Inv b d xs before ts next total → Fails s total
value_step_fails s true d xs before ts next total n o k h inv = absurd cc
value_step_fails s false d xs before ts next total n o k h inv = value_fails s d xs before (behind ts next) total o k h inv.0

pub close_step_fails : (s : Stop) (b : Bool) (d : ℕ) (xs : List RawPlace) (before : Position) (ts : List token.Token) (next : ℕ) (total : Read (List RawPlace)) → b ≡ true → (d ≡ 0 → ⊥) → starts (behind ts next) (kinds.Symbol symbols.Comma ∷ []) ≡ false
    → Fails s (take_one (kinds.Symbol symbols.Close) (behind ts next)) → Inv b d xs before ts next total → Fails s total
close_step_fails s false d xs before ts next total n z c h inv = absurd cc
close_step_fails s true zero xs before ts next total n z c h inv = absurd (z refl)
close_step_fails s true (suc d) xs before ts next total n z c h inv = closes_fails s (suc d) d xs (behind ts next) total refl c h inv.0

pub deeper_fits : (ts : List token.Token) (d next after : ℕ) (t : Item) (total : Read (List RawPlace)) → take_one (kinds.Symbol symbols.Open) (behind ts next) ≡ Ok (t, behind ts after) → d ≤ next → d + 1 ≤ after
deeper_fits ts d next after t total h le = omega (arith, le, later ts next after (omega (arith, took_shorter (kinds.Symbol symbols.Open) (behind ts next) t (behind ts after) h)))

pub value_smaller : (b : Bool) (ts us : List Item) (v : RawPlace) → reads 0 preset_value ts ≡ Ok (v, us) → 2 * length us + 0 < 2 * length ts + cond b 0 1
value_smaller b ts us v h = omega (arith, value_shorter ts us v h)
