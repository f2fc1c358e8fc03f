-- Statements that have lines, with the bodies of the procedures in them: each by its first layer.
use Rattle.std.proofs.Common.{◌≡◌, Bool, IsTrue, sym, subst}
use Rattle.cw_tree.specs.declared.statement.RawStmt.{RawStmt, out-RawStmt}
use Rattle.cw_tree.specs.declared.statement.RawDecl.TheViews.{roll-out-RawStmt}
use Rattle.cw_sound.specs.Statements.Bodies.{Body, Bodies}
use Rattle.cw_sound.specs.Statements.Bodies as bodies
use Rattle.cw_macro.specs.Premises.{Each}
use Rattle.cw_sound.proofs.Statements.Layers.{Known}
use Rattle.cw_sound.proofs.Statements.Folds.{lined_pass}
use Rattle.cw_sound.proofs.Statements.Passes.{whole, layered, rolls, walked, walked_layer, walk_rolls, LayersKnown, Rolled, related, related_layers, related_rolls, bodies_walk}
use Rattle.cw_sound.specs.Ready.Lined as lined

abbrev pub BodyLined : Body → Type 0
BodyLined b = IsTrue (lined.is_lined_statement b.statement)

pub record HasLines (is : Bool) (bs : Bodies) : Type 0 where
  pub right : IsTrue is
  pub inner : Each BodyLined bs

same : {is js : Bool} {bs cs : Bodies} → is ≡ js → bs ≡ cs → HasLines is bs → HasLines js cs
same e g h = record { right = subst IsTrue e h.right; inner = subst (λ (z : Bodies). Each BodyLined z) g h.inner }

abbrev Lined : Bool → Bodies → Bool → Type 0
Lined is bs again = HasLines is bs

abbrev pub has_lines : Known
has_lines = related Lined Lined (whole lined_pass) (walked bodies_walk) (whole lined_pass)

abbrev pub layers_have_lines : LayersKnown
layers_have_lines = related_layers Lined Lined (layered lined_pass) (walked_layer bodies_walk) (layered lined_pass)

pub rolled : Rolled has_lines layers_have_lines
rolled = related_rolls Lined Lined (rolls lined_pass) (walk_rolls bodies_walk) (rolls lined_pass)

pub statement_opened : (x : RawStmt) → has_lines.Stmt x → layers_have_lines.Stmt (out-RawStmt x)
statement_opened x h = same ((rolls lined_pass).stmt (out-RawStmt x)) ((walk_rolls bodies_walk).stmt (out-RawStmt x)) (subst has_lines.Stmt (sym (roll-out-RawStmt x)) h)
