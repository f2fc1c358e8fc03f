-- What is made of each tree of a statement, what is declared in it, and what the tree counts, by its first layer.
use Rattle.std.proofs.Common.{◌≡◌, ℕ, ◌+◌, ◌*◌, ◌∷◌, length, map, Some, sym, ap, subst, arith}
use Rattle.cw_tree.specs.declared.statement.RawDecl.{roll-RawDecl}
use Rattle.cw_tree.specs.declared.statement.RawForm.{roll-RawForm}
use Rattle.cw_tree.specs.declared.statement.RawSimple.{roll-RawSimple}
use Rattle.cw_tree.specs.declared.statement.RawBlock.{roll-RawBlock}
use Rattle.cw_tree.specs.declared.statement.RawProc.{roll-RawProc}
use Rattle.cw_tree.specs.declared.statement.RawStmt.{roll-RawStmt}
use Rattle.cw_tree.specs.declared.statement.RawDecl.TheViews.{out-roll-RawProc}
use Rattle.cw_scope.specs.declared.resolve.Named.{Named}
use Rattle.cw_make_expr.specs.Parts.{Numbers}
use Rattle.cw_make_items.specs.Lookup.{proc_here}
use Rattle.cw_make_stmt.specs.Made as made
use Rattle.cw_make.specs.Procedures as procs
use Rattle.cw_make.specs.Procedures.{params_of}
use Rattle.cw_make.specs.Switches as switches
use Rattle.cw_make.specs.Switches.{Switches}
use Rattle.cw_unit.specs.declared.unit.Stmt.{Stmt}
use Rattle.cw_tokens.specs.LeastTokens.{statement_tokens, procedure_tokens, procedures_tokens, switches_tokens}
use Rattle.cw_tokens.specs.TreeTokens as tree
use Rattle.cw_tokens.specs.TreeTokens.{total, param_tokens}
use Rattle.cw_sound.proofs.Tokens.StatementNodes.{SizedStatement, SizedBody, SizedDeclaration, parameters_counted}
use Rattle.cw_sound.proofs.Statements.Layers.{DeclLayer, FormLayer, SimpleLayer, BlockLayer, ProcLayer, StmtLayer}
use Rattle.cw_sound.proofs.Statements.Folds.{made_pass, switches_pass, tokens_pass}
use Rattle.cw_sound.proofs.Statements.Passes.{layered, rolls}
use Rattle.cw_sound.proofs.Statements.Procedures.{layer_procedures, procedures_roll}

pub three_ways : {A B C : Type 0} (P : A → B → C → Type 0) {a d : A} {b e : B} {c f : C} → a ≡ d → b ≡ e → c ≡ f → P d e f → P a b c
three_ways P {a = a} {b = b} {e = e} {f = f} i j k h = subst (λ x. P a b x) (sym k) (subst (λ x. P a x f) (sym j) (subst (λ x. P x e f) (sym i) h))

four_ways : {A B C D : Type 0} (P : A → B → C → D → Type 0) {a e : A} {b f : B} {c g : C} {d h : D} → a ≡ e → b ≡ f → c ≡ g → d ≡ h → P e f g h → P a b c d
four_ways P {a = a} {f = f} {g = g} {h = h} i j k l m = three_ways (P a) j k l (subst (λ x. P x f g h) (sym i) m)

module _ (named : Named) (numbers : Numbers) where
  pub declaration_rolls : (x : DeclLayer) → SizedDeclaration ((layer_procedures named numbers).decl x) ((layered (switches_pass named numbers)).decl x) ((layered tokens_pass).decl x)
      → SizedDeclaration (procs.declaration_procs named numbers (roll-RawDecl x)) (switches.declaration_switches named numbers (roll-RawDecl x)) (tree.decl_tokens (roll-RawDecl x))
  declaration_rolls x h = three_ways SizedDeclaration ((procedures_roll named numbers).decl x) ((rolls (switches_pass named numbers)).decl x) ((rolls tokens_pass).decl x) h

  pub form_rolls : (x : FormLayer) → SizedStatement ((layered (made_pass named numbers)).form x) ((layer_procedures named numbers).form x) ((layered (switches_pass named numbers)).form x) ((layered tokens_pass).form x)
      → SizedStatement (made.form_of named numbers (roll-RawForm x)) (procs.form_procs named numbers (roll-RawForm x)) (switches.form_switches named numbers (roll-RawForm x)) (tree.form_tokens (roll-RawForm x))
  form_rolls x h = four_ways SizedStatement ((rolls (made_pass named numbers)).form x) ((procedures_roll named numbers).form x) ((rolls (switches_pass named numbers)).form x) ((rolls tokens_pass).form x) h

  pub simple_rolls : (x : SimpleLayer) → SizedStatement ((layered (made_pass named numbers)).simple x) ((layer_procedures named numbers).simple x) ((layered (switches_pass named numbers)).simple x) ((layered tokens_pass).simple x)
      → SizedStatement (made.simple_of named numbers (roll-RawSimple x)) (procs.simple_procs named numbers (roll-RawSimple x)) (switches.simple_switches named numbers (roll-RawSimple x)) (tree.simple_tokens (roll-RawSimple x))
  simple_rolls x h = four_ways SizedStatement ((rolls (made_pass named numbers)).simple x) ((procedures_roll named numbers).simple x) ((rolls (switches_pass named numbers)).simple x) ((rolls tokens_pass).simple x) h

  pub block_rolls : (x : BlockLayer) → SizedBody ((layered (made_pass named numbers)).block x) ((layer_procedures named numbers).block x) ((layered (switches_pass named numbers)).block x) ((layered tokens_pass).block x)
      → SizedBody (made.block_of named numbers (roll-RawBlock x)) (procs.block_procs named numbers (roll-RawBlock x)) (switches.block_switches named numbers (roll-RawBlock x)) (tree.block_tokens (roll-RawBlock x))
  block_rolls x h = four_ways SizedBody ((rolls (made_pass named numbers)).block x) ((procedures_roll named numbers).block x) ((rolls (switches_pass named numbers)).block x) ((rolls tokens_pass).block x) h

  -- a procedure's declaration, by its body
  pub procedure_rolls : (x : ProcLayer) → SizedStatement (made.statement_of named numbers x.body) (procs.statement_procs named numbers x.body) (switches.statement_switches named numbers x.body) (tree.stmt_tokens x.body)
      → SizedDeclaration (procs.proc_of named numbers (roll-RawProc x) ∷ procs.procedure_procs named numbers (roll-RawProc x)) (switches.procedure_switches named numbers (roll-RawProc x)) (tree.proc_tokens (roll-RawProc x))
  procedure_rolls x h = record {
    fits = λ q.
        let own : procedure_tokens (procs.proc_of named numbers (roll-RawProc x)) ≡ 4 + (2 * length (params_of numbers x.params) + statement_tokens (made.statement_of named numbers x.body)) =
        ap (λ (z : ProcLayer). 4 + (2 * length (params_of numbers z.params) + statement_tokens (made.statement_of named numbers z.body))) (out-roll-RawProc x) in
        let inner : procedures_tokens (procs.procedure_procs named numbers (roll-RawProc x)) ≡ procedures_tokens (procs.statement_procs named numbers x.body) = ap procedures_tokens ((procedures_roll named numbers).proc x) in
        let listed : switches_tokens (switches.procedure_switches named numbers (roll-RawProc x) q) ≡ switches_tokens (switches.statement_switches named numbers x.body (Some (proc_here numbers x.name.at.token))) =
        ap (λ (z : Switches). switches_tokens (z q)) ((rolls (switches_pass named numbers)).proc x) in
        let whole : tree.proc_tokens (roll-RawProc x) ≡ 4 + (total (map param_tokens x.params) + tree.stmt_tokens x.body) = ((rolls tokens_pass).proc x) in
        let params = parameters_counted numbers x.params in
        let body = h.fits (Some (proc_here numbers x.name.at.token)) in
        omega (arith, own, inner, listed, whole, params, body);
  }

  pub statement_rolls : (x : StmtLayer) → SizedStatement ((layered (made_pass named numbers)).stmt x) ((layer_procedures named numbers).stmt x) ((layered (switches_pass named numbers)).stmt x) ((layered tokens_pass).stmt x)
      → SizedStatement (made.statement_of named numbers (roll-RawStmt x)) (procs.statement_procs named numbers (roll-RawStmt x)) (switches.statement_switches named numbers (roll-RawStmt x)) (tree.stmt_tokens (roll-RawStmt x))
  statement_rolls x h = four_ways SizedStatement ((rolls (made_pass named numbers)).stmt x) ((procedures_roll named numbers).stmt x) ((rolls (switches_pass named numbers)).stmt x) ((rolls tokens_pass).stmt x) h
