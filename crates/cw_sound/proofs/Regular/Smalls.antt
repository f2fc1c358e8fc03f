-- Statements of 65,535 tokens at most, which are regular, and so are the bodies of the procedures in them: each by its first layer.
use Rattle.std.proofs.Common.{◌≡◌, ℕ, ◌≤◌, Bool, IsTrue, sym, subst}
use Rattle.cw_tree.specs.declared.statement.RawStmt.{RawStmt, out-RawStmt}
use Rattle.cw_tree.specs.declared.statement.RawDecl.TheViews.{roll-out-RawStmt}
use Rattle.cw_tokens.specs.TreeTokens as tokens
use Rattle.cw_sound.specs.Statements.Bodies.{Body, Bodies}
use Rattle.cw_sound.specs.Statements.Bodies as bodies
use Rattle.cw_sound.specs.Statements.Levels.{statement_levels}
use Rattle.cw_sound.specs.Statements.Regular as regular
use Rattle.cw_macro.specs.Premises.{Each}
use Rattle.cw_sound.proofs.Statements.Layers.{Known}
use Rattle.cw_sound.proofs.Statements.Folds.{regular_pass, tokens_pass}
use Rattle.cw_sound.proofs.Statements.Passes.{whole, layered, rolls, walked, walked_layer, walk_rolls, LayersKnown, Rolled, related, related_layers, related_rolls, bodies_walk}

-- within n levels
pub record BodyFits (n : ℕ) (b : Body) : Type 0 where
  pub right : IsTrue (regular.is_regular_statement b.statement)
  pub few : statement_levels b.statement ≤ n

pub record Sound (n : ℕ) (is : Bool) (bs : Bodies) : Type 0 where
  pub right : IsTrue is
  pub inner : Each (BodyFits n) bs

-- where the tokens are so few
abbrev pub Small : ℕ → Bool → ℕ → Bodies → Type 0
Small n is k bs = k ≤ 65535 → Sound n is bs

-- the same of equal trees
pub carried : {X : Type 0} (n : ℕ) (f : X → Bool) (g : X → ℕ) (b : X → Bodies) {x y : X} → x ≡ y → Small n (f x) (g x) (b x) → Small n (f y) (g y) (b y)
carried {X = X} n f g b e h = subst (λ (z : X). Small n (f z) (g z) (b z)) e h

same : {n : ℕ} {is js : Bool} {k l : ℕ} {bs cs : Bodies} → is ≡ js → k ≡ l → bs ≡ cs → Small n is k bs → Small n js l cs
same {n = n} {is = is} {js = js} {k = k} {bs = bs} e f g h few =
    let s = h (subst (λ (z : ℕ). z ≤ 65535) (sym f) few) in
    record { right = subst IsTrue e s.right; inner = subst (λ (z : Bodies). Each (BodyFits n) z) g s.inner }

module _ (n : ℕ) where
  abbrev pub small : Known
  small = related (Small n) (Small n) (whole regular_pass) (whole tokens_pass) (walked bodies_walk)

  abbrev pub small_layers : LayersKnown
  small_layers = related_layers (Small n) (Small n) (layered regular_pass) (layered tokens_pass) (walked_layer bodies_walk)

  pub rolled : Rolled small small_layers
  rolled = related_rolls (Small n) (Small n) (rolls regular_pass) (rolls tokens_pass) (walk_rolls bodies_walk)

  pub stmt_opened : (x : RawStmt) → small.Stmt x → small_layers.Stmt (out-RawStmt x)
  stmt_opened x h =
      same ((rolls regular_pass).stmt (out-RawStmt x)) ((rolls tokens_pass).stmt (out-RawStmt x)) ((walk_rolls bodies_walk).stmt (out-RawStmt x))
      (carried n regular.is_regular_statement tokens.stmt_tokens bodies.statement_bodies (sym (roll-out-RawStmt x)) h)
