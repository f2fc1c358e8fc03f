-- Places behind a token, whose position they know.
use Rattle.std.proofs.Common.{◌≡◌, ◌∙◌, List, Ok, Err, refl, sym, ap, subst}
use Rattle.std.proofs.lemmas.Result.{err_from_is_err_and}
use Rattle.cw_tree.specs.declared.leaf.Position.{Position}
use Rattle.cw_tree.specs.declared.items.RawPlace.{RawPlace}
use Rattle.cw_tree.specs.declared.items.RawPresets.{RawPresets}
use Rattle.cw_grammar.specs.declared.stop.Stop.{Stop}
use Rattle.cw_grammar.specs.Tokens.{Item, behind, seen, position}
use Rattle.cw_grammar.specs.Grammar.{a_from, a_position, a_list, a_place, again, places}
use Rattle.cw_grammar.specs.Statements.{presets_behind}
use Rattle.cw_grammar.specs.Reading.{Read, Fails, applied, read, ◌>>=◌}
use Rattle.cw_series.specs.Series.{made}
use Rattle.cw_series.proofs.Steps.{made_fails}
use Rattle.cw_parse_items.proofs.data.read_presets.Goals as goal

abbrev presets_of : Position → List RawPlace → RawPresets
presets_of p ps = record { at = p; places = ps }

abbrev all_read : Item → Read (Position → List RawPlace) → Read RawPresets
all_read t o = made {A = Item × (Position → List RawPlace)} (λ z. presets_behind z.0 z.1) (o >>= λ y. Ok ((t, y.0), y.1))

told : (t : Item) (o : Read (Position → List RawPlace)) → all_read t o ≡ made (presets_of (position t)) (applied (position t) o)
told t (Ok y) = refl
told t (Err f) = refl

places_read : (t : Item) (before : Position) (o : Read (Position → List RawPlace)) (ps : List RawPlace) (rest : List Item) → before ≡ position t → applied before o ≡ Ok (ps, rest)
    → all_read t o ≡ Ok (presets_of before ps, rest)
places_read t before o ps rest b e = rw b (told t o ∙ ap (λ (q : Read (List RawPlace)). made (presets_of (position t)) q) (rw b at e))

places_fail : (s : Stop) (t : Item) (before : Position) (o : Read (Position → List RawPlace)) → before ≡ position t → Fails s (applied before o) → Fails s (all_read t o)
places_fail s t before o b h = subst (λ (q : Read RawPresets). Fails s q) (sym (told t o)) (made_fails s (presets_of (position t)) (applied (position t) o) (rw b at h))

pub returns : goal.returns
returns c =
    rw c.in_ok-item.ensures
    (places_read (seen c.in_ok-item.item) c.position-before.result (read 0 (a_from a_position (a_list a_place)) (again places) (behind c.args.tokens.now c.in_ok-item.at)) c.in_ok-places.places (behind c.args.tokens.now c.in_ok-places.at) c.position-before.ensures c.in_ok-places.ensures)

pub returns-in_err-places : goal.returns-in_err-places
returns-in_err-places c =
    let q = err_from_is_err_and c.from_residual-in_err-places.result c.from_residual-in_err-places.ensures.1 in
    rw (q.1, q.2, c.in_ok-item.ensures)
    (places_fail c.in_err-places.field-0.0 (seen c.in_ok-item.item) c.position-before.result (read 0 (a_from a_position (a_list a_place)) (again places) (behind c.args.tokens.now c.in_ok-item.at)) c.position-before.ensures c.in_err-places.ensures)
