-- The first node of a level that a node leads to, chains of such nodes, and the report.
use Rattle.std.proofs.Common.{◌≡◌, ℕ, suc, ◌<◌, ◌≤◌, ◌+◌, List, [], ◌∷◌, ◌++◌, length, slice_index, Bool, Option, Some, None, inl, inr, refl, ap, arith, sym, ◌∙◌, subst, length-append, append_assoc, add-one, unwrap_or}
use Rattle.std.proofs.lemmas.Bool.{cases_eq, cases_lt}
use Rattle.std.proofs.lemmas.Option.{same_Some}
use Rattle.std.proofs.Math.ListN.{get_or-append}
use Rattle.std.proofs.Math.Seq.{get_or-append_seam}
use Rattle.cw_graph.specs.declared.graph.Graph.{Graph}
use Rattle.cw_graph.specs.Chains.{HasHeight, HasNoHeight, IsReached, body, lead}
use Rattle.cw_graph.specs.Reports.{IsFirstChain, IsBound, IsUnbounded}
use Rattle.cw_graph.specs.Rows.{StandsIn, row_of, IsWhole, LeadsTo, at_once, by_group, IsBodyOf, IsProcedureOf, Below}
use Rattle.cw_graph.specs.Levels.{level_of, AreLevels}
use Rattle.cw_graph.specs.Reaching.{AreReached}
use Rattle.cw_graph.specs.Choosing.{level_or_zero, IsHighest, NoneOpen, IsFirstOpen, IsLeast, StandsFor, StandFor, IsNext}
use Rattle.cw_graph.proofs.Heights.{row_level, lead_low, lead_open, level_positive, level_height, height_level, open_height, reached_flag, flag_reached, own_of_node}

-- what holds of each place of a list and of its number there, where it holds of one more
pub each_placed : (P : ℕ → ℕ → Type 0) (xs : List ℕ) (y : ℕ) → ((k : ℕ) → k < length xs → P k (slice_index xs k)) → P (length xs) y → (k : ℕ) → k < length (xs ++ y ∷ []) → P k (slice_index (xs ++ y ∷ []) k)
each_placed P xs y each last k low =
    let low' : k < length xs + 1 = rw length-append at low in
    elim (cases_eq k (length xs)) [
      | inl e ↦ subst (λ (i : ℕ). P i (slice_index (xs ++ y ∷ []) i)) (sym e) (subst (λ (n : ℕ). P (length xs) n) (sym (get_or-append_seam xs y [] 0)) last)
      | inr ne ↦ let in_xs : k < length xs = omega arith in subst (λ (n : ℕ). P k n) (sym (get_or-append xs (y ∷ []) 0 k in_xs)) (each k in_xs)
    ]

pub stand_more : (g : Graph) (levels : List (Option ℕ)) (firsts firsts' : List ℕ) (a first : ℕ) → a ≡ length firsts → firsts' ≡ firsts ++ first ∷ [] → StandFor g levels firsts → StandsFor g levels a first → StandFor g levels firsts'
stand_more g levels firsts firsts' a first at' e stand one =
    rw e (each_placed (StandsFor g levels) firsts first stand (subst (λ (x : ℕ). StandsFor g levels x first) at' one))

module _ (g : Graph) (levels : List (Option ℕ)) (whole : IsWhole g) (right : AreLevels g levels) where
  no_less : (firsts : List ℕ) (a level b h : ℕ) → length firsts ≡ length g.rows → StandFor g levels firsts → a < g.nodes → level_of levels a ≡ Some (level + 1) → level ≡ h + 1 → IsLeast levels firsts (row_of g.rows a) (length (row_of g.rows a)) level b → (x : ℕ) → LeadsTo g a x → level_of levels x ≡ Some level → x < b → ⊥
  no_less firsts a level b h size stand low is e least x (at_once l node (k, (inside, at'))) has before =
      let nodes : g.nodes ≤ length g.rows = whole.nodes in
      let le : b ≤ slice_index firsts (slice_index (row_of g.rows a) k) = least.none_less k inside (ap (level_of levels) at' ∙ has) in
      let self : slice_index firsts x ≡ x = (stand x (omega arith)).node node in
      let self' : slice_index firsts (slice_index (row_of g.rows a) k) ≡ x = ap (slice_index firsts) at' ∙ self in
      omega arith
  no_less firsts a level b h size stand low is e least x (by_group c l group (k, (inside, at')) stands) has before =
      let own = own_of_node g.nodes a low in
      let c_low : slice_index (row_of g.rows a) k < length g.rows = whole.high a k inside in
      let c_low' : c < length g.rows = omega (arith, at') in
      let (m, (of_c, le)) = row_level g levels whole right a c (level + 1) is (k, (inside, at')) in
      let (m', (of_x, le')) = row_level g levels whole right c x m of_c stands in
      let same : m' ≡ level = same_Some m' level (sym of_x ∙ has) in
      let both : m ≡ level = omega arith in
      let of_c' : level_of levels c ≡ Some level = of_c ∙ ap (λ n. Some n) both in
      let le'' : b ≤ slice_index firsts (slice_index (row_of g.rows a) k) = least.none_less k inside (ap (level_of levels) at' ∙ of_c') in
      let one = (stand c (omega arith)).group level group (omega arith) of_c' in
      let least' : slice_index firsts c ≤ x = one.none_less x stands has in
      let there : slice_index firsts (slice_index (row_of g.rows a) k) ≡ slice_index firsts c = ap (slice_index firsts) at' in
      omega arith

  -- the first of a level below that of a node
  pub next_is : (firsts : List ℕ) (a level b h : ℕ) → length firsts ≡ length g.rows → StandFor g levels firsts → a < g.nodes → level_of levels a ≡ Some (level + 1) → level ≡ h + 1 → IsLeast levels firsts (row_of g.rows a) (length (row_of g.rows a)) level b → IsNext g a h b
  next_is firsts a level b h size stand low is e least =
      let own = own_of_node g.nodes a low in
      let e' : level ≡ suc h = omega arith in
      let (k, (inside, (has, at'))) = least.found in
      let c = slice_index (row_of g.rows a) k in
      let c_low : c < length g.rows = whole.high a k inside in
      let stands : StandsIn (row_of g.rows a) c = (k, (inside, refl)) in
      record {
        holds = elim (cases_lt c g.nodes) [
          | inl node ↦
              let same : b ≡ c = sym at' ∙ (stand c (omega arith)).node node in
              subst (λ (x : ℕ). LeadsTo g a x × HasHeight (LeadsTo g) x h) (sym same) (at_once low node stands, level_height g levels whole right c h node (has ∙ ap (λ n. Some n) e'))
          | inr group ↦
              let one = (stand c (omega arith)).group level group (omega arith) has in
              let leads : LeadsTo g a (slice_index firsts c) = by_group c low group stands one.stands in
              subst (λ (x : ℕ). LeadsTo g a x × HasHeight (LeadsTo g) x h) at' (leads, level_height g levels whole right (slice_index firsts c) h (lead_low g levels whole right a (slice_index firsts c) leads) (one.level_is ∙ ap (λ n. Some n) e'))
        ];
        none_before = λ x holds before. no_less firsts a level b h size stand low is e least x holds.0 (height_level g levels whole right x h (lead_low g levels whole right a x holds.0) holds.1 ∙ ap (λ n. Some n) (sym e')) before;
      }

  -- a chain that goes on by the first node of the next height
  pub chain_next : (start at' height left b : ℕ) (chain : List ℕ) → left ≡ height + 1 → IsNext g at' height b → ((rest : List ℕ) → length rest ≡ left → IsFirstChain (LeadsTo g) Below at' rest → IsFirstChain (LeadsTo g) Below start (chain ++ rest)) → (rest : List ℕ) → length rest ≡ height → IsFirstChain (LeadsTo g) Below b rest → IsFirstChain (LeadsTo g) Below start ((chain ++ b ∷ []) ++ rest)
  chain_next start at' height left b chain e next before rest size follows =
      rw append_assoc (before (b ∷ rest) (omega arith) (subst (λ (n : ℕ). IsNext g at' n b) (sym size) next, follows))

  pub next_low : (a h b : ℕ) → IsNext g a h b → b < g.nodes
  next_low a h b next = lead_low g levels whole right a b next.holds.0

  pub next_level : (a h left b : ℕ) → left ≡ h + 1 → IsNext g a h b → level_of levels b ≡ Some left
  next_level a h left b e next = height_level g levels whole right b h (next_low a h b next) next.holds.1 ∙ ap (λ n. Some n) (omega arith)

  -- ---- the report

  reached_low : (a : ℕ) → IsReached (LeadsTo g) (IsBodyOf g) a → a < g.nodes
  reached_low _ (body a is) = let le : g.bodies ≤ g.nodes = whole.bodies in omega arith
  reached_low _ (lead a b is leads) = lead_low g levels whole right a b leads

  lead_high : (a b : ℕ) → LeadsTo g a b → g.bodies ≤ b
  lead_high a b (at_once l h (k, (inside, e))) = let le : g.bodies ≤ slice_index (row_of g.rows a) k = whole.low a k inside in omega (arith, e)
  lead_high a b (by_group c l h stands (k, (inside, e))) = let le : g.bodies ≤ slice_index (row_of g.rows c) k = whole.low c k inside in omega (arith, e)

  -- all that is reached has a height, where nothing is open
  height_at : (flags : List Bool) → AreReached g flags → NoneOpen levels flags g.bodies g.nodes → (a : ℕ) → IsReached (LeadsTo g) (IsBodyOf g) a → (o : Option ℕ) → level_of levels a ≡ o → (h : ℕ) × HasHeight (LeadsTo g) a h
  height_at flags reached none a is (Some m) e =
      let low = reached_low a is in
      let (h, e') = level_positive g levels whole right a m low e in
      (h, level_height g levels whole right a h low (e ∙ ap (λ n. Some n) e'))
  height_at flags reached none a is None e =
      let low = reached_low a is in
      elim (cases_lt a g.bodies) [
        | inl body' ↦
            let (b, (leads, open')) = lead_open g levels whole right a low e in
            absurd (none b (lead_high a b leads) (lead_low g levels whole right a b leads) (reached_flag g flags whole reached b (lead a b is leads), open'))
        | inr procedure ↦ absurd (none a procedure low (reached_flag g flags whole reached a is, e))
      ]

  pub all_heights : (flags : List Bool) → AreReached g flags → NoneOpen levels flags g.bodies g.nodes → (a : ℕ) → IsReached (LeadsTo g) (IsBodyOf g) a → (h : ℕ) × HasHeight (LeadsTo g) a h
  all_heights flags reached none a is = height_at flags reached none a is (level_of levels a) refl

  or_zero : (a m : ℕ) → level_of levels a ≡ Some m → level_or_zero levels a ≡ m
  or_zero a m is = ap (λ (o : Option ℕ). unwrap_or o 0) is

  pub bound_is : ((a : ℕ) → IsReached (LeadsTo g) (IsBodyOf g) a → (h : ℕ) × HasHeight (LeadsTo g) a h) → (start : ℕ) (chain : List ℕ) → IsHighest levels g.bodies start → level_of levels start ≡ Some (length chain + 1) → IsFirstChain (LeadsTo g) Below start chain → IsBound (LeadsTo g) Below (IsBodyOf g) chain
  bound_is heights start chain highest is follows =
      let bodies : g.bodies ≤ g.nodes = whole.bodies in
      let inside : start < g.bodies = highest.inside in
      let most : level_or_zero levels start ≡ length chain + 1 = or_zero start (length chain + 1) is in
      record {
        heights = heights;
        greatest = λ a h low height.
            let has : level_or_zero levels a ≡ suc h = or_zero a (suc h) (height_level g levels whole right a h (omega arith) height) in
            let le : level_or_zero levels a ≤ level_or_zero levels start = highest.all a low in
            omega arith;
        start = start;
        first = record {
          holds = (inside, level_height g levels whole right start (length chain) (omega arith) (is ∙ ap (λ n. Some n) (add-one (length chain))));
          none_before = λ b holds before.
              let low : b < g.bodies = holds.0 in
              let has : level_or_zero levels b ≡ suc (length chain) = or_zero b (suc (length chain)) (height_level g levels whole right b (length chain) (omega arith) holds.1) in
              let lt : level_or_zero levels b < level_or_zero levels start = highest.first b before in
              omega arith;
        };
        follows = follows;
      }

  pub start_level : ((a : ℕ) → IsReached (LeadsTo g) (IsBodyOf g) a → (h : ℕ) × HasHeight (LeadsTo g) a h) → (start height : ℕ) → start < g.bodies → ((h : ℕ) → level_of levels start ≡ Some (h + 1) → height ≡ h) → level_of levels start ≡ Some (height + 1)
  start_level heights start height inside tells =
      let bodies : g.bodies ≤ g.nodes = whole.bodies in
      let (h, is) = heights start (body start inside) in
      let has = height_level g levels whole right start h (omega arith) is in
      let same = tells h (has ∙ ap (λ n. Some n) (sym (add-one h))) in
      has ∙ ap (λ n. Some n) (omega arith)

  some_height : (a : ℕ) → a < g.nodes → HasNoHeight (LeadsTo g) a → (o : Option ℕ) → level_of levels a ≡ o → level_of levels a ≡ None
  some_height a low never None e = e
  some_height a low never (Some m) e =
      let (h, e') = level_positive g levels whole right a m low e in
      absurd (never h (level_height g levels whole right a h low (e ∙ ap (λ n. Some n) e')))

  pub unbounded_is : (flags : List Bool) (a : ℕ) → AreReached g flags → IsFirstOpen levels flags g.bodies g.nodes a → IsUnbounded (LeadsTo g) Below (IsBodyOf g) (IsProcedureOf g) a
  unbounded_is flags a reached open' = record {
    holds = ((open'.low, open'.high), (flag_reached g flags whole reached a open'.high open'.is_open.0, open_height g levels whole right a open'.high open'.is_open.1));
    none_before = λ b holds before.
        open'.first b holds.0.0 before (reached_flag g flags whole reached b holds.1.0, some_height b holds.0.1 holds.1.1 (level_of levels b) refl);
  }
