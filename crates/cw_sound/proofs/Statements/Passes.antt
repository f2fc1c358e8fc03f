-- A pass over declarations and statements that makes a value of each: what it makes of a first layer.
use Rattle.std.proofs.Common.{◌≡◌}
use Rattle.cw_tree.specs.declared.statement.RawDecl.{RawDecl, RawDecl-F, roll-RawDecl, map-RawDecl, fold-roll-RawDecl}
use Rattle.cw_tree.specs.declared.statement.RawForm.{RawForm, roll-RawForm, map-RawForm, fold-roll-RawForm}
use Rattle.cw_tree.specs.declared.statement.RawSimple.{RawSimple, roll-RawSimple, map-RawSimple, fold-roll-RawSimple}
use Rattle.cw_tree.specs.declared.statement.RawBlock.{RawBlock, roll-RawBlock, map-RawBlock, fold-roll-RawBlock}
use Rattle.cw_tree.specs.declared.statement.RawProc.{RawProc, roll-RawProc, map-RawProc, fold-roll-RawProc}
use Rattle.cw_tree.specs.declared.statement.RawStmt.{RawStmt, roll-RawStmt, map-RawStmt, fold-roll-RawStmt}
use Rattle.cw_tree.specs.declared.statement.RawDecl.TheOpen.{RawForm-F, RawSimple-F, RawBlock-F, RawProc-F, RawStmt-F}
use Rattle.cw_tree.specs.declared.statement.RawDecl.TheFolds.{para-RawDecl, para-RawForm, para-RawSimple, para-RawBlock, para-RawProc, para-RawStmt, para-roll-RawDecl, para-roll-RawForm, para-roll-RawSimple, para-roll-RawBlock, para-roll-RawProc, para-roll-RawStmt}
use Rattle.cw_tree.proofs.Statements.{StatementSteps, of_declaration, of_form, of_simple, of_block, of_procedure, of_statement}
use Rattle.cw_sound.specs.Statements.Bodies.{Bodies}
use Rattle.cw_sound.specs.Statements.Bodies as bodies
use Rattle.cw_sound.proofs.Items.Lists.{moved_three}
use Rattle.cw_sound.proofs.Statements.Layers.{Known, DeclLayer, FormLayer, SimpleLayer, BlockLayer, ProcLayer, StmtLayer, DeclParts, FormParts, SimpleParts, BlockParts, ProcParts, StmtParts, decl_layer, form_layer, simple_layer, block_layer, proc_layer, stmt_layer, Rules}

-- a value of each tree, a block's of a sort of its own
pub record Whole (A B : Type 0) : Type 0 where
  pub decl : RawDecl → A
  pub form : RawForm → A
  pub simple : RawSimple → A
  pub block : RawBlock → B
  pub proc : RawProc → A
  pub stmt : RawStmt → A

-- a value of each layer
pub record Layered (A B : Type 0) : Type 0 where
  pub decl : DeclLayer → A
  pub form : FormLayer → A
  pub simple : SimpleLayer → A
  pub block : BlockLayer → B
  pub proc : ProcLayer → A
  pub stmt : StmtLayer → A

-- the value of a tree is that of its layer
pub record Rolls {A B : Type 0} (whole : Whole A B) (layered : Layered A B) : Type 0 where
  pub decl : (y : DeclLayer) → whole.decl (roll-RawDecl y) ≡ layered.decl y
  pub form : (y : FormLayer) → whole.form (roll-RawForm y) ≡ layered.form y
  pub simple : (y : SimpleLayer) → whole.simple (roll-RawSimple y) ≡ layered.simple y
  pub block : (y : BlockLayer) → whole.block (roll-RawBlock y) ≡ layered.block y
  pub proc : (y : ProcLayer) → whole.proc (roll-RawProc y) ≡ layered.proc y
  pub stmt : (y : StmtLayer) → whole.stmt (roll-RawStmt y) ≡ layered.stmt y

-- ---- passes that see values alone

abbrev pub Pass : Type 0 → Type 0 → Type 0
Pass A B = StatementSteps A A A B A A

module _ {A B : Type 0} (pass : Pass A B) where
  abbrev pub whole : Whole A B
  whole = record { decl = of_declaration pass; form = of_form pass; simple = of_simple pass; block = of_block pass; proc = of_procedure pass; stmt = of_statement pass }

  abbrev pub layered : Layered A B
  layered = record {
    decl = λ y. pass.declaration (map-RawDecl RawDecl RawForm RawSimple RawBlock RawProc RawStmt A A A B A A whole.decl whole.form whole.simple whole.block whole.proc whole.stmt y);
    form = λ y. pass.form (map-RawForm RawDecl RawForm RawSimple RawBlock RawProc RawStmt A A A B A A whole.decl whole.form whole.simple whole.block whole.proc whole.stmt y);
    simple = λ y. pass.simple (map-RawSimple RawDecl RawForm RawSimple RawBlock RawProc RawStmt A A A B A A whole.decl whole.form whole.simple whole.block whole.proc whole.stmt y);
    block = λ y. pass.block (map-RawBlock RawDecl RawForm RawSimple RawBlock RawProc RawStmt A A A B A A whole.decl whole.form whole.simple whole.block whole.proc whole.stmt y);
    proc = λ y. pass.procedure (map-RawProc RawDecl RawForm RawSimple RawBlock RawProc RawStmt A A A B A A whole.decl whole.form whole.simple whole.block whole.proc whole.stmt y);
    stmt = λ y. pass.statement (map-RawStmt RawDecl RawForm RawSimple RawBlock RawProc RawStmt A A A B A A whole.decl whole.form whole.simple whole.block whole.proc whole.stmt y);
  }

  pub rolls : Rolls whole layered
  rolls = record {
    decl = fold-roll-RawDecl A A A B A A pass.declaration pass.form pass.simple pass.block pass.procedure pass.statement;
    form = fold-roll-RawForm A A A B A A pass.declaration pass.form pass.simple pass.block pass.procedure pass.statement;
    simple = fold-roll-RawSimple A A A B A A pass.declaration pass.form pass.simple pass.block pass.procedure pass.statement;
    block = fold-roll-RawBlock A A A B A A pass.declaration pass.form pass.simple pass.block pass.procedure pass.statement;
    proc = fold-roll-RawProc A A A B A A pass.declaration pass.form pass.simple pass.block pass.procedure pass.statement;
    stmt = fold-roll-RawStmt A A A B A A pass.declaration pass.form pass.simple pass.block pass.procedure pass.statement;
  }

-- ---- passes that see the trees too

pub record Walk (A : Type 0) : Type 0 where
  pub decl : RawDecl-F (RawDecl × A) (RawForm × A) (RawSimple × A) (RawBlock × A) (RawProc × A) (RawStmt × A) → A
  pub form : RawForm-F (RawDecl × A) (RawForm × A) (RawSimple × A) (RawBlock × A) (RawProc × A) (RawStmt × A) → A
  pub simple : RawSimple-F (RawDecl × A) (RawForm × A) (RawSimple × A) (RawBlock × A) (RawProc × A) (RawStmt × A) → A
  pub block : RawBlock-F (RawDecl × A) (RawForm × A) (RawSimple × A) (RawBlock × A) (RawProc × A) (RawStmt × A) → A
  pub proc : RawProc-F (RawDecl × A) (RawForm × A) (RawSimple × A) (RawBlock × A) (RawProc × A) (RawStmt × A) → A
  pub stmt : RawStmt-F (RawDecl × A) (RawForm × A) (RawSimple × A) (RawBlock × A) (RawProc × A) (RawStmt × A) → A

module _ {A : Type 0} (pass : Walk A) where
  abbrev pub walked : Whole A A
  walked = record {
    decl = para-RawDecl A A A A A A pass.decl pass.form pass.simple pass.block pass.proc pass.stmt;
    form = para-RawForm A A A A A A pass.decl pass.form pass.simple pass.block pass.proc pass.stmt;
    simple = para-RawSimple A A A A A A pass.decl pass.form pass.simple pass.block pass.proc pass.stmt;
    block = para-RawBlock A A A A A A pass.decl pass.form pass.simple pass.block pass.proc pass.stmt;
    proc = para-RawProc A A A A A A pass.decl pass.form pass.simple pass.block pass.proc pass.stmt;
    stmt = para-RawStmt A A A A A A pass.decl pass.form pass.simple pass.block pass.proc pass.stmt;
  }

  abbrev pub walked_layer : Layered A A
  walked_layer = record {
    decl = λ y. pass.decl (map-RawDecl RawDecl RawForm RawSimple RawBlock RawProc RawStmt (RawDecl × A) (RawForm × A) (RawSimple × A) (RawBlock × A) (RawProc × A) (RawStmt × A) (λ z. (z, walked.decl z)) (λ z. (z, walked.form z)) (λ z. (z, walked.simple z)) (λ z. (z, walked.block z)) (λ z. (z, walked.proc z)) (λ z. (z, walked.stmt z)) y);
    form = λ y. pass.form (map-RawForm RawDecl RawForm RawSimple RawBlock RawProc RawStmt (RawDecl × A) (RawForm × A) (RawSimple × A) (RawBlock × A) (RawProc × A) (RawStmt × A) (λ z. (z, walked.decl z)) (λ z. (z, walked.form z)) (λ z. (z, walked.simple z)) (λ z. (z, walked.block z)) (λ z. (z, walked.proc z)) (λ z. (z, walked.stmt z)) y);
    simple = λ y. pass.simple (map-RawSimple RawDecl RawForm RawSimple RawBlock RawProc RawStmt (RawDecl × A) (RawForm × A) (RawSimple × A) (RawBlock × A) (RawProc × A) (RawStmt × A) (λ z. (z, walked.decl z)) (λ z. (z, walked.form z)) (λ z. (z, walked.simple z)) (λ z. (z, walked.block z)) (λ z. (z, walked.proc z)) (λ z. (z, walked.stmt z)) y);
    block = λ y. pass.block (map-RawBlock RawDecl RawForm RawSimple RawBlock RawProc RawStmt (RawDecl × A) (RawForm × A) (RawSimple × A) (RawBlock × A) (RawProc × A) (RawStmt × A) (λ z. (z, walked.decl z)) (λ z. (z, walked.form z)) (λ z. (z, walked.simple z)) (λ z. (z, walked.block z)) (λ z. (z, walked.proc z)) (λ z. (z, walked.stmt z)) y);
    proc = λ y. pass.proc (map-RawProc RawDecl RawForm RawSimple RawBlock RawProc RawStmt (RawDecl × A) (RawForm × A) (RawSimple × A) (RawBlock × A) (RawProc × A) (RawStmt × A) (λ z. (z, walked.decl z)) (λ z. (z, walked.form z)) (λ z. (z, walked.simple z)) (λ z. (z, walked.block z)) (λ z. (z, walked.proc z)) (λ z. (z, walked.stmt z)) y);
    stmt = λ y. pass.stmt (map-RawStmt RawDecl RawForm RawSimple RawBlock RawProc RawStmt (RawDecl × A) (RawForm × A) (RawSimple × A) (RawBlock × A) (RawProc × A) (RawStmt × A) (λ z. (z, walked.decl z)) (λ z. (z, walked.form z)) (λ z. (z, walked.simple z)) (λ z. (z, walked.block z)) (λ z. (z, walked.proc z)) (λ z. (z, walked.stmt z)) y);
  }

  pub walk_rolls : Rolls walked walked_layer
  walk_rolls = record {
    decl = para-roll-RawDecl A A A A A A pass.decl pass.form pass.simple pass.block pass.proc pass.stmt;
    form = para-roll-RawForm A A A A A A pass.decl pass.form pass.simple pass.block pass.proc pass.stmt;
    simple = para-roll-RawSimple A A A A A A pass.decl pass.form pass.simple pass.block pass.proc pass.stmt;
    block = para-roll-RawBlock A A A A A A pass.decl pass.form pass.simple pass.block pass.proc pass.stmt;
    proc = para-roll-RawProc A A A A A A pass.decl pass.form pass.simple pass.block pass.proc pass.stmt;
    stmt = para-roll-RawStmt A A A A A A pass.decl pass.form pass.simple pass.block pass.proc pass.stmt;
  }

-- ---- what is known of trees by their layers

-- what is known of each layer
pub record LayersKnown : Type 1 where
  pub Decl : DeclLayer → Type 0
  pub Form : FormLayer → Type 0
  pub Simple : SimpleLayer → Type 0
  pub Block : BlockLayer → Type 0
  pub Proc : ProcLayer → Type 0
  pub Stmt : StmtLayer → Type 0

pub record Rolled (known : Known) (layers : LayersKnown) : Type 0 where
  pub decl : (y : DeclLayer) → layers.Decl y → known.Decl (roll-RawDecl y)
  pub form : (y : FormLayer) → layers.Form y → known.Form (roll-RawForm y)
  pub simple : (y : SimpleLayer) → layers.Simple y → known.Simple (roll-RawSimple y)
  pub block : (y : BlockLayer) → layers.Block y → known.Block (roll-RawBlock y)
  pub proc : (y : ProcLayer) → layers.Proc y → known.Proc (roll-RawProc y)
  pub stmt : (y : StmtLayer) → layers.Stmt y → known.Stmt (roll-RawStmt y)

-- of a layer whose trees are known
pub record LayerRules (known : Known) (layers : LayersKnown) : Type 0 where
  pub decl : (y : DeclParts known) → layers.Decl (decl_layer known y)
  pub form : (y : FormParts known) → layers.Form (form_layer known y)
  pub simple : (y : SimpleParts known) → layers.Simple (simple_layer known y)
  pub block : (y : BlockParts known) → layers.Block (block_layer known y)
  pub proc : (y : ProcParts known) → layers.Proc (proc_layer known y)
  pub stmt : (y : StmtParts known) → layers.Stmt (stmt_layer known y)

pub rules_of : {known : Known} {layers : LayersKnown} → Rolled known layers → LayerRules known layers → Rules known
rules_of {known} rolled rules = record {
  decl = λ y. rolled.decl (decl_layer known y) (rules.decl y);
  form = λ y. rolled.form (form_layer known y) (rules.form y);
  simple = λ y. rolled.simple (simple_layer known y) (rules.simple y);
  block = λ y. rolled.block (block_layer known y) (rules.block y);
  proc = λ y. rolled.proc (proc_layer known y) (rules.proc y);
  stmt = λ y. rolled.stmt (stmt_layer known y) (rules.stmt y);
}

-- ---- that what three passes make of a tree is so related

module _ {A B C D E F : Type 0} (R : A → C → E → Type 0) (K : B → D → F → Type 0) where
  abbrev pub related : Whole A B → Whole C D → Whole E F → Known
  related v w x = record {
    Decl = λ y. R (v.decl y) (w.decl y) (x.decl y);
    Form = λ y. R (v.form y) (w.form y) (x.form y);
    Simple = λ y. R (v.simple y) (w.simple y) (x.simple y);
    Block = λ y. K (v.block y) (w.block y) (x.block y);
    Proc = λ y. R (v.proc y) (w.proc y) (x.proc y);
    Stmt = λ y. R (v.stmt y) (w.stmt y) (x.stmt y);
  }

  abbrev pub related_layers : Layered A B → Layered C D → Layered E F → LayersKnown
  related_layers v w x = record {
    Decl = λ y. R (v.decl y) (w.decl y) (x.decl y);
    Form = λ y. R (v.form y) (w.form y) (x.form y);
    Simple = λ y. R (v.simple y) (w.simple y) (x.simple y);
    Block = λ y. K (v.block y) (w.block y) (x.block y);
    Proc = λ y. R (v.proc y) (w.proc y) (x.proc y);
    Stmt = λ y. R (v.stmt y) (w.stmt y) (x.stmt y);
  }

  pub related_rolls : {v : Whole A B} {w : Whole C D} {x : Whole E F} {l : Layered A B} {m : Layered C D} {n : Layered E F} → Rolls v l → Rolls w m → Rolls x n → Rolled (related v w x) (related_layers l m n)
  related_rolls p q r = record {
    decl = λ y. moved_three R (p.decl y) (q.decl y) (r.decl y);
    form = λ y. moved_three R (p.form y) (q.form y) (r.form y);
    simple = λ y. moved_three R (p.simple y) (q.simple y) (r.simple y);
    block = λ y. moved_three K (p.block y) (q.block y) (r.block y);
    proc = λ y. moved_three R (p.proc y) (q.proc y) (r.proc y);
    stmt = λ y. moved_three R (p.stmt y) (q.stmt y) (r.stmt y);
  }

-- ---- the bodies of procedures

abbrev pub bodies_walk : Walk Bodies
bodies_walk = record { decl = bodies.declaration_step; form = bodies.form_step; simple = bodies.simple_step; block = bodies.block_step; proc = bodies.procedure_step; stmt = bodies.statement_step }
