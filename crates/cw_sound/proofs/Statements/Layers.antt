-- Induction over declarations and statements, by their first layers.
use Rattle.std.proofs.Common.{◌≡◌, subst}
use Rattle.cw_tree.specs.declared.statement.RawDecl.{RawDecl, RawDecl-F, roll-RawDecl, map-RawDecl}
use Rattle.cw_tree.specs.declared.statement.RawForm.{RawForm, roll-RawForm, map-RawForm}
use Rattle.cw_tree.specs.declared.statement.RawSimple.{RawSimple, roll-RawSimple, map-RawSimple}
use Rattle.cw_tree.specs.declared.statement.RawBlock.{RawBlock, roll-RawBlock, map-RawBlock}
use Rattle.cw_tree.specs.declared.statement.RawProc.{RawProc, roll-RawProc, map-RawProc}
use Rattle.cw_tree.specs.declared.statement.RawStmt.{RawStmt, roll-RawStmt, map-RawStmt}
use Rattle.cw_tree.specs.declared.statement.RawDecl.TheOpen.{RawForm-F, RawSimple-F, RawBlock-F, RawProc-F, RawStmt-F}
use Rattle.cw_tree.specs.declared.statement.RawDecl.TheFolds.{ind-RawDecl, ind-RawSimple, ind-RawBlock, ind-RawStmt}

-- a layer of trees

abbrev pub DeclLayer : Type 0
DeclLayer = RawDecl-F RawDecl RawForm RawSimple RawBlock RawProc RawStmt

abbrev pub FormLayer : Type 0
FormLayer = RawForm-F RawDecl RawForm RawSimple RawBlock RawProc RawStmt

abbrev pub SimpleLayer : Type 0
SimpleLayer = RawSimple-F RawDecl RawForm RawSimple RawBlock RawProc RawStmt

abbrev pub BlockLayer : Type 0
BlockLayer = RawBlock-F RawDecl RawForm RawSimple RawBlock RawProc RawStmt

abbrev pub ProcLayer : Type 0
ProcLayer = RawProc-F RawDecl RawForm RawSimple RawBlock RawProc RawStmt

abbrev pub StmtLayer : Type 0
StmtLayer = RawStmt-F RawDecl RawForm RawSimple RawBlock RawProc RawStmt

-- what is known of each tree
pub record Known : Type 1 where
  pub Decl : RawDecl → Type 0
  pub Form : RawForm → Type 0
  pub Simple : RawSimple → Type 0
  pub Block : RawBlock → Type 0
  pub Proc : RawProc → Type 0
  pub Stmt : RawStmt → Type 0

module _ (known : Known) where
  abbrev pub WithDecl : Type 0
  WithDecl = (x : RawDecl) × known.Decl x

  abbrev pub WithForm : Type 0
  WithForm = (x : RawForm) × known.Form x

  abbrev pub WithSimple : Type 0
  WithSimple = (x : RawSimple) × known.Simple x

  abbrev pub WithBlock : Type 0
  WithBlock = (x : RawBlock) × known.Block x

  abbrev pub WithProc : Type 0
  WithProc = (x : RawProc) × known.Proc x

  abbrev pub WithStmt : Type 0
  WithStmt = (x : RawStmt) × known.Stmt x

  -- a layer of trees, with what is known of them

  abbrev pub DeclParts : Type 0
  DeclParts = RawDecl-F WithDecl WithForm WithSimple WithBlock WithProc WithStmt

  abbrev pub FormParts : Type 0
  FormParts = RawForm-F WithDecl WithForm WithSimple WithBlock WithProc WithStmt

  abbrev pub SimpleParts : Type 0
  SimpleParts = RawSimple-F WithDecl WithForm WithSimple WithBlock WithProc WithStmt

  abbrev pub BlockParts : Type 0
  BlockParts = RawBlock-F WithDecl WithForm WithSimple WithBlock WithProc WithStmt

  abbrev pub ProcParts : Type 0
  ProcParts = RawProc-F WithDecl WithForm WithSimple WithBlock WithProc WithStmt

  abbrev pub StmtParts : Type 0
  StmtParts = RawStmt-F WithDecl WithForm WithSimple WithBlock WithProc WithStmt

  -- the layer without it

  abbrev pub decl_layer : DeclParts → DeclLayer
  decl_layer = map-RawDecl WithDecl WithForm WithSimple WithBlock WithProc WithStmt RawDecl RawForm RawSimple RawBlock RawProc RawStmt (λ e. e.0) (λ e. e.0) (λ e. e.0) (λ e. e.0) (λ e. e.0) (λ e. e.0)

  abbrev pub form_layer : FormParts → FormLayer
  form_layer = map-RawForm WithDecl WithForm WithSimple WithBlock WithProc WithStmt RawDecl RawForm RawSimple RawBlock RawProc RawStmt (λ e. e.0) (λ e. e.0) (λ e. e.0) (λ e. e.0) (λ e. e.0) (λ e. e.0)

  abbrev pub simple_layer : SimpleParts → SimpleLayer
  simple_layer = map-RawSimple WithDecl WithForm WithSimple WithBlock WithProc WithStmt RawDecl RawForm RawSimple RawBlock RawProc RawStmt (λ e. e.0) (λ e. e.0) (λ e. e.0) (λ e. e.0) (λ e. e.0) (λ e. e.0)

  abbrev pub block_layer : BlockParts → BlockLayer
  block_layer = map-RawBlock WithDecl WithForm WithSimple WithBlock WithProc WithStmt RawDecl RawForm RawSimple RawBlock RawProc RawStmt (λ e. e.0) (λ e. e.0) (λ e. e.0) (λ e. e.0) (λ e. e.0) (λ e. e.0)

  abbrev pub proc_layer : ProcParts → ProcLayer
  proc_layer = map-RawProc WithDecl WithForm WithSimple WithBlock WithProc WithStmt RawDecl RawForm RawSimple RawBlock RawProc RawStmt (λ e. e.0) (λ e. e.0) (λ e. e.0) (λ e. e.0) (λ e. e.0) (λ e. e.0)

  abbrev pub stmt_layer : StmtParts → StmtLayer
  stmt_layer = map-RawStmt WithDecl WithForm WithSimple WithBlock WithProc WithStmt RawDecl RawForm RawSimple RawBlock RawProc RawStmt (λ e. e.0) (λ e. e.0) (λ e. e.0) (λ e. e.0) (λ e. e.0) (λ e. e.0)

  -- a layer whose trees are known is known
  pub record Rules : Type 0 where
    pub decl : (y : DeclParts) → known.Decl (roll-RawDecl (decl_layer y))
    pub form : (y : FormParts) → known.Form (roll-RawForm (form_layer y))
    pub simple : (y : SimpleParts) → known.Simple (roll-RawSimple (simple_layer y))
    pub block : (y : BlockParts) → known.Block (roll-RawBlock (block_layer y))
    pub proc : (y : ProcParts) → known.Proc (roll-RawProc (proc_layer y))
    pub stmt : (y : StmtParts) → known.Stmt (roll-RawStmt (stmt_layer y))

  module _ (rules : Rules) where
    decl_up : (x : DeclLayer) (y : DeclParts) → decl_layer y ≡ x → known.Decl (roll-RawDecl x)
    decl_up x y is = subst (λ z. known.Decl (roll-RawDecl z)) is (rules.decl y)

    form_up : (x : FormLayer) (y : FormParts) → form_layer y ≡ x → known.Form (roll-RawForm x)
    form_up x y is = subst (λ z. known.Form (roll-RawForm z)) is (rules.form y)

    simple_up : (x : SimpleLayer) (y : SimpleParts) → simple_layer y ≡ x → known.Simple (roll-RawSimple x)
    simple_up x y is = subst (λ z. known.Simple (roll-RawSimple z)) is (rules.simple y)

    block_up : (x : BlockLayer) (y : BlockParts) → block_layer y ≡ x → known.Block (roll-RawBlock x)
    block_up x y is = subst (λ z. known.Block (roll-RawBlock z)) is (rules.block y)

    proc_up : (x : ProcLayer) (y : ProcParts) → proc_layer y ≡ x → known.Proc (roll-RawProc x)
    proc_up x y is = subst (λ z. known.Proc (roll-RawProc z)) is (rules.proc y)

    stmt_up : (x : StmtLayer) (y : StmtParts) → stmt_layer y ≡ x → known.Stmt (roll-RawStmt x)
    stmt_up x y is = subst (λ z. known.Stmt (roll-RawStmt z)) is (rules.stmt y)

    pub each_decl : (x : RawDecl) → known.Decl x
    each_decl = ind-RawDecl known.Decl known.Form known.Simple known.Block known.Proc known.Stmt decl_up form_up simple_up block_up proc_up stmt_up

    pub each_simple : (x : RawSimple) → known.Simple x
    each_simple = ind-RawSimple known.Decl known.Form known.Simple known.Block known.Proc known.Stmt decl_up form_up simple_up block_up proc_up stmt_up

    pub each_block : (x : RawBlock) → known.Block x
    each_block = ind-RawBlock known.Decl known.Form known.Simple known.Block known.Proc known.Stmt decl_up form_up simple_up block_up proc_up stmt_up

    pub each_stmt : (x : RawStmt) → known.Stmt x
    each_stmt = ind-RawStmt known.Decl known.Form known.Simple known.Block known.Proc known.Stmt decl_up form_up simple_up block_up proc_up stmt_up
