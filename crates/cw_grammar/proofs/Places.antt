-- Preset places, read without recursion: a counter of open brackets stands for what is still read behind them.
use Rattle.std.proofs.Common.{◌≡◌, ℕ, zero, suc, Bool, true, false, cond, List, [], ◌∷◌, ◌++◌, Ok, Err, refl, sym, ap, ◌∙◌, append_assoc}
use Rattle.std.proofs.lemmas.List.{append-nil}
use Rattle.cw_lex.specs.declared.token.TokenKind.TheVariants as kinds
use Rattle.cw_lex.specs.declared.token.Symbol.TheVariants as symbols
use Rattle.cw_tree.specs.declared.leaf.Position.{Position}
use Rattle.cw_tree.specs.declared.items.RawPlace.{RawPlace}
use Rattle.cw_tree.specs.declared.items.RawPlace.TheVariants as place_tree
use Rattle.cw_grammar.specs.Tokens.{Item, same, position}
use Rattle.cw_grammar.specs.Grammar.{a_from, a_position, a_list, a_place, again, places, starts, first}
use Rattle.cw_grammar.specs.Statements.{preset_value, place, further_places, presets}
use Rattle.cw_grammar.specs.Table.{again_rule}
use Rattle.cw_grammar.specs.Reading.{Read, ◌>>=◌, take_one, reads}
use Rattle.cw_grammar.proofs.Again.{again_step}

-- what is read behind places with d brackets open: for each bracket ")" and further places
abbrev pub ends : (n d : ℕ) → List RawPlace → List Item → Read (List RawPlace)
ends n zero xs ts = Ok (xs, ts)
ends n (suc d) xs ts = take_one (kinds.Symbol symbols.Close) ts >>= λ z. reads n further_places z.1 >>= λ y. ends n d (xs ++ y.0) y.1

-- the same behind a place
abbrev pub after_place : (n d : ℕ) → List RawPlace → List Item → Read (List RawPlace)
after_place n d xs ts = reads n further_places ts >>= λ y. ends n d (xs ++ y.0) y.1

-- and where a place begins
abbrev pub at_place : (n d : ℕ) → List RawPlace → Position → List Item → Read (List RawPlace)
at_place n d xs before ts = reads n (again places) ts >>= λ y. ends n d (xs ++ y.0 before) y.1

opened_rule : (n : ℕ) (ts : List Item) → reads n (again places) ts ≡ reads n presets ts
unfolding again_rule
opened_rule n ts = again_step n (a_from a_position (a_list a_place)) places ts

-- A value is a place.
pub value_place : (n d : ℕ) (xs : List RawPlace) (before : Position) (v : RawPlace) (ts us : List Item) → starts ts (kinds.Symbol symbols.Open ∷ []) ≡ false → starts ts (first preset_value) ≡ true → reads n preset_value ts ≡ Ok (v, us)
    → at_place n d xs before ts ≡ after_place n d (xs ++ v ∷ []) us
unfolding presets place
value_place n d xs before v ts us e f g = go (reads n further_places us) refl
  where
    go : (o : Read (List RawPlace)) → reads n further_places us ≡ o → at_place n d xs before ts ≡ after_place n d (xs ++ v ∷ []) us
    go (Ok y) h = rw (opened_rule n ts, e, f, g, h, append_assoc xs (v ∷ []) y.0) refl
    go (Err k) h = rw (opened_rule n ts, e, f, g, h) refl

-- Where neither a bracket nor a value begins, the place is void.
pub void_place : (n d : ℕ) (xs : List RawPlace) (before : Position) (ts : List Item) → starts ts (kinds.Symbol symbols.Open ∷ []) ≡ false → starts ts (first preset_value) ≡ false
    → at_place n d xs before ts ≡ after_place n d (xs ++ place_tree.Void before ∷ []) ts
unfolding presets place
void_place n d xs before ts e f = go (reads n further_places ts) refl
  where
    go : (o : Read (List RawPlace)) → reads n further_places ts ≡ o → at_place n d xs before ts ≡ after_place n d (xs ++ place_tree.Void before ∷ []) ts
    go (Ok y) h = rw (opened_rule n ts, e, f, h, append_assoc xs (place_tree.Void before ∷ []) y.0) refl
    go (Err k) h = rw (opened_rule n ts, e, f, h) refl

-- A comma goes on to the next place.
pub comma_place : (n d : ℕ) (xs : List RawPlace) (c : Item) (us : List Item) → same c.kind (kinds.Symbol symbols.Comma) ≡ true → after_place n d xs (c ∷ us) ≡ at_place n d xs (position c) us
unfolding further_places
comma_place n d xs c us e = go (reads n (again places) us) refl
  where
    go : (o : Read (Position → List RawPlace)) → reads n (again places) us ≡ o → after_place n d xs (c ∷ us) ≡ at_place n d xs (position c) us
    go (Ok y) h = rw (e, h) refl
    go (Err k) h = rw (e, h) refl

-- Without a comma the list of places ends there.
pub last_place : (n d : ℕ) (xs : List RawPlace) (ts : List Item) → starts ts (kinds.Symbol symbols.Comma ∷ []) ≡ false → after_place n d xs ts ≡ ends n d xs ts
unfolding further_places
last_place n d xs ts e = rw (e, append-nil xs) refl

-- A bracket opens a list of places, and what is read behind it is behind one bracket more.
pub open_place : (n d : ℕ) (xs : List RawPlace) (before : Position) (t : Item) (us : List Item) → same t.kind (kinds.Symbol symbols.Open) ≡ true → at_place n d xs before (t ∷ us) ≡ at_place n (suc d) xs (position t) us
unfolding presets place
open_place n d xs before t us e = inner (reads n (again places) us) refl
  where
    Goal : Type 0
    Goal = at_place n d xs before (t ∷ us) ≡ at_place n (suc d) xs (position t) us

    further : (y : (Position → List RawPlace) × List Item) (z : Item × List Item) → reads n (again places) us ≡ Ok y → take_one (kinds.Symbol symbols.Close) y.1 ≡ Ok z → (o : Read (List RawPlace)) → reads n further_places z.1 ≡ o → Goal
    further y z h k (Ok w) l = rw (opened_rule n (t ∷ us), e, h, k, l, append_assoc xs (y.0 (position t)) w.0) refl
    further y z h k (Err m) l = rw (opened_rule n (t ∷ us), e, h, k, l) refl

    closed : (y : (Position → List RawPlace) × List Item) → reads n (again places) us ≡ Ok y → (o : Read Item) → take_one (kinds.Symbol symbols.Close) y.1 ≡ o → Goal
    closed y h (Ok z) k = further y z h k (reads n further_places z.1) refl
    closed y h (Err m) k = rw (opened_rule n (t ∷ us), e, h, k) refl

    inner : (o : Read (Position → List RawPlace)) → reads n (again places) us ≡ o → Goal
    inner (Ok y) h = closed y h (take_one (kinds.Symbol symbols.Close) y.1) refl
    inner (Err m) h = rw (opened_rule n (t ∷ us), e, h) refl
