-- The levels of nodes tell their heights, and flags what is reached.
use Rattle.std.proofs.Common.{◌≡◌, ℕ, zero, suc, ◌<◌, ◌≤◌, ◌+◌, List, length, slice_index, Bool, true, Option, Some, None, inl, inr, refl, ap, arith, sym, ◌∙◌}
use Rattle.std.proofs.lemmas.Bool.{cases_lt}
use Rattle.std.proofs.lemmas.Grind.{common_steps}
use Rattle.cw_graph.specs.declared.graph.Graph.{Graph}
use Rattle.cw_graph.specs.Chains.{IsChain, HasHeight, HasNoHeight, IsReached, body, lead}
use Rattle.cw_graph.specs.Rows.{StandsIn, row_of, IsWhole, LeadsTo, at_once, by_group, IsBodyOf}
use Rattle.cw_graph.specs.Levels.{level_of, own_level, AreLevels}
use Rattle.cw_graph.specs.Reaching.{flag_of, IsListed, AreReached}

pub own_of_node : (nodes a : ℕ) → a < nodes → own_level nodes a ≡ 1
own_of_node nodes a low = grind (arith, common_steps)

own_of_group : (nodes a : ℕ) → nodes ≤ a → own_level nodes a ≡ 0
own_of_group nodes a high = grind (arith, common_steps)

module _ (g : Graph) (levels : List (Option ℕ)) (whole : IsWhole g) (right : AreLevels g levels) where
  -- the level of what a number lists
  pub row_level : (a b m : ℕ) → level_of levels a ≡ Some m → StandsIn (row_of g.rows a) b → (l : ℕ) × ((level_of levels b ≡ Some l) × (own_level g.nodes a + l ≤ m))
  row_level a b m is (k, (low, at')) =
      let (top, (tops, e)) = right.right a m is in
      let (l, (has, le)) = tops.all k low in
      (l, (ap (level_of levels) (sym at') ∙ has, omega arith))

  -- a number lists one of a level that adds up to its own
  row_top : (a m : ℕ) → level_of levels a ≡ Some (own_level g.nodes a + suc m) → (b : ℕ) × (StandsIn (row_of g.rows a) b × (level_of levels b ≡ Some (suc m)))
  row_top a m is =
      let (top, (tops, e)) = right.right a (own_level g.nodes a + suc m) is in
      let same : top ≡ suc m = omega arith in
      elim tops.some [
        | inl z ↦ absurd (omega arith)
        | inr s ↦ (slice_index (row_of g.rows a) s.0, ((s.0, (s.1.0, refl)), s.1.1 ∙ ap (λ n. Some n) same))
      ]

  -- a number without a level lists another
  row_open : (a : ℕ) → a < length g.rows → level_of levels a ≡ None → (b : ℕ) × (StandsIn (row_of g.rows a) b × (level_of levels b ≡ None))
  row_open a low none =
      let (k, (inside, open')) = right.lacking a low none in
      (slice_index (row_of g.rows a) k, ((k, (inside, refl)), open'))

  member_low : (c b : ℕ) → g.nodes ≤ c → StandsIn (row_of g.rows c) b → b < g.nodes
  member_low c b high (k, (low, is)) = let lt : slice_index (row_of g.rows c) k < g.nodes = whole.groups c k high low in omega (arith, is)

  pub listed_low : (a b : ℕ) → StandsIn (row_of g.rows a) b → b < length g.rows
  listed_low a b (k, (low, is)) = let lt : slice_index (row_of g.rows a) k < length g.rows = whole.high a k low in omega (arith, is)

  pub lead_low : (a b : ℕ) → LeadsTo g a b → b < g.nodes
  lead_low a b (at_once low low' stands) = low'
  lead_low a b (by_group c low high stands stands') = member_low c b high stands'

  pub level_positive : (a m : ℕ) → a < g.nodes → level_of levels a ≡ Some m → (h : ℕ) × (m ≡ suc h)
  level_positive a m low is =
      let (top, (tops, e)) = right.right a m is in
      let own = own_of_node g.nodes a low in
      (top, omega arith)

  pub lead_level : (a b m : ℕ) → LeadsTo g a b → level_of levels a ≡ Some m → (l : ℕ) × ((level_of levels b ≡ Some l) × (l < m))
  lead_level a b m (at_once low low' stands) is =
      let (l, (has, le)) = row_level a b m is stands in
      let own = own_of_node g.nodes a low in
      (l, (has, omega arith))
  lead_level a b m (by_group c low high stands stands') is =
      let (l, (has, le)) = row_level a c m is stands in
      let (l', (has', le')) = row_level c b l has stands' in
      let own = own_of_node g.nodes a low in
      (l', (has', omega arith))

  pub lead_top : (a h : ℕ) → a < g.nodes → level_of levels a ≡ Some (suc (suc h)) → (b : ℕ) × (LeadsTo g a b × (level_of levels b ≡ Some (suc h)))
  lead_top a h low is =
      let own = own_of_node g.nodes a low in
      let sum : suc (suc h) ≡ own_level g.nodes a + suc h = omega arith in
      let (c, (stands, has)) = row_top a h (is ∙ ap (λ n. Some n) sum) in
      elim (cases_lt c g.nodes) [
        | inl node ↦ (c, (at_once low node stands, has))
        | inr group ↦
            let none = own_of_group g.nodes c group in
            let sum' : suc h ≡ own_level g.nodes c + suc h = omega arith in
            let (b, (stands', has')) = row_top c h (has ∙ ap (λ n. Some n) sum') in
            (b, (by_group c low group stands stands', has'))
      ]

  pub lead_open : (a : ℕ) → a < g.nodes → level_of levels a ≡ None → (b : ℕ) × (LeadsTo g a b × (level_of levels b ≡ None))
  lead_open a low none =
      let nodes : g.nodes ≤ length g.rows = whole.nodes in
      let (c, (stands, open')) = row_open a (omega arith) none in
      elim (cases_lt c g.nodes) [
        | inl node ↦ (c, (at_once low node stands, open'))
        | inr group ↦
            let (b, (stands', open'')) = row_open c (listed_low a c stands) open' in
            (b, (by_group c low group stands stands', open''))
      ]

  -- ---- heights

  level_chain : (h a : ℕ) → a < g.nodes → level_of levels a ≡ Some (suc h) → IsChain (LeadsTo g) h a
  level_chain zero a low is = tt
  level_chain (suc h) a low is =
      let (b, (leads, has)) = lead_top a h low is in
      (b, (leads, level_chain h b (lead_low a b leads) has))

  level_longest : (n a m : ℕ) → a < g.nodes → level_of levels a ≡ Some m → IsChain (LeadsTo g) n a → n < m
  level_longest zero a m low is chain = let (h, e) = level_positive a m low is in omega arith
  level_longest (suc n) a m low is (b, (leads, chain)) =
      let (l, (has, lt)) = lead_level a b m leads is in
      let le : n < l = level_longest n b l (lead_low a b leads) has chain in
      omega arith

  pub level_height : (a h : ℕ) → a < g.nodes → level_of levels a ≡ Some (suc h) → HasHeight (LeadsTo g) a h
  level_height a h low is = record {
    chain = level_chain h a low is;
    longest = λ n chain. let lt : n < suc h = level_longest n a (suc h) low is chain in omega arith;
  }

  open_chain : (n a : ℕ) → a < g.nodes → level_of levels a ≡ None → IsChain (LeadsTo g) n a
  open_chain zero a low none = tt
  open_chain (suc n) a low none =
      let (b, (leads, open')) = lead_open a low none in
      (b, (leads, open_chain n b (lead_low a b leads) open'))

  pub open_height : (a : ℕ) → a < g.nodes → level_of levels a ≡ None → HasNoHeight (LeadsTo g) a
  open_height a low none h is = let le : suc h ≤ h = is.longest (suc h) (open_chain (suc h) a low none) in omega arith

  height_level_at : (a h : ℕ) → a < g.nodes → HasHeight (LeadsTo g) a h → (o : Option ℕ) → level_of levels a ≡ o → level_of levels a ≡ Some (suc h)
  height_level_at a h low is None e = absurd (open_height a low e h is)
  height_level_at a h low is (Some m) e =
      let (h', e') = level_positive a m low e in
      let has = e ∙ ap (λ n. Some n) e' in
      let other = level_height a h' low has in
      let le : h' ≤ h = is.longest h' other.chain in
      let ge : h ≤ h' = other.longest h is.chain in
      has ∙ ap (λ n. Some (suc n)) (omega arith)

  pub height_level : (a h : ℕ) → a < g.nodes → HasHeight (LeadsTo g) a h → level_of levels a ≡ Some (suc h)
  height_level a h low is = height_level_at a h low is (level_of levels a) refl

-- ---- what is reached

module _ (g : Graph) (flags : List Bool) (whole : IsWhole g) (reached : AreReached g flags) where
  pub reached_flag : (a : ℕ) → IsReached (LeadsTo g) (IsBodyOf g) a → flag_of flags a ≡ true
  reached_flag _ (body a is) = reached.bodies a is
  reached_flag _ (lead a b is (at_once low low' stands)) = reached.rows a b (reached_flag a is) stands
  reached_flag _ (lead a b is (by_group c low high stands stands')) = reached.rows c b (reached.rows a c (reached_flag a is) stands) stands'

  -- a node is reached, and a group is listed by a node that is
  IsMet : ℕ → Type 0
  IsMet a = (a < g.nodes → IsReached (LeadsTo g) (IsBodyOf g) a) × (g.nodes ≤ a → (c : ℕ) × ((c < g.nodes) × (IsReached (LeadsTo g) (IsBodyOf g) c × StandsIn (row_of g.rows c) a)))

  listed_met : (a : ℕ) → IsListed g a → IsMet a
  unfolding IsMet
  listed_met _ (body a is) = (λ low. body a is, λ high. absurd (let le : g.bodies ≤ g.nodes = whole.bodies in omega arith))
  listed_met _ (lead a b is stands) =
      let met = listed_met a is in
      elim (cases_lt a g.nodes) [
        | inl node ↦ (λ low. lead a b (met.0 node) (at_once node low stands), λ high. (a, (node, (met.0 node, stands))))
        | inr group ↦
            let (c, (low', (is', stands'))) = met.1 group in
            (λ low. lead c b is' (by_group a low' group stands' stands), λ high. absurd (let (k, (inside, e)) = stands in let lt : slice_index (row_of g.rows a) k < g.nodes = whole.groups a k group inside in omega (arith, e)))
      ]

  pub flag_reached : (a : ℕ) → a < g.nodes → flag_of flags a ≡ true → IsReached (LeadsTo g) (IsBodyOf g) a
  unfolding IsMet
  flag_reached a low is = (listed_met a (reached.right a is)).0 low
