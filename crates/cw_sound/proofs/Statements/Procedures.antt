-- The procedures of declarations and statements, by a first layer.
use Rattle.cw_tree.specs.declared.statement.RawDecl.{RawDecl, map-RawDecl}
use Rattle.cw_tree.specs.declared.statement.RawForm.{RawForm, map-RawForm}
use Rattle.cw_tree.specs.declared.statement.RawSimple.{RawSimple, map-RawSimple}
use Rattle.cw_tree.specs.declared.statement.RawBlock.{RawBlock, map-RawBlock}
use Rattle.cw_tree.specs.declared.statement.RawProc.{RawProc, map-RawProc}
use Rattle.cw_tree.specs.declared.statement.RawStmt.{RawStmt, map-RawStmt}
use Rattle.cw_tree.specs.declared.statement.RawDecl.TheFolds.{para-roll-RawDecl, para-roll-RawForm, para-roll-RawSimple, para-roll-RawBlock, para-roll-RawProc, para-roll-RawStmt}
use Rattle.cw_scope.specs.declared.resolve.Named.{Named}
use Rattle.cw_make_expr.specs.Parts.{Numbers}
use Rattle.cw_make.specs.Procedures.{Procs}
use Rattle.cw_make.specs.Procedures as procs
use Rattle.cw_sound.proofs.Statements.Passes.{Whole, Layered, Rolls}

module _ (named : Named) (numbers : Numbers) where
  abbrev pub procedures : Whole Procs Procs
  procedures = record { decl = procs.declaration_procs named numbers; form = procs.form_procs named numbers; simple = procs.simple_procs named numbers; block = procs.block_procs named numbers; proc = procs.procedure_procs named numbers; stmt = procs.statement_procs named numbers }

  abbrev pub layer_procedures : Layered Procs Procs
  layer_procedures = record {
    decl = λ y. procs.declaration_step named numbers (map-RawDecl RawDecl RawForm RawSimple RawBlock RawProc RawStmt (RawDecl × Procs) (RawForm × Procs) (RawSimple × Procs) (RawBlock × Procs) (RawProc × Procs) (RawStmt × Procs) (λ z. (z, procs.declaration_procs named numbers z)) (λ z. (z, procs.form_procs named numbers z)) (λ z. (z, procs.simple_procs named numbers z)) (λ z. (z, procs.block_procs named numbers z)) (λ z. (z, procs.procedure_procs named numbers z)) (λ z. (z, procs.statement_procs named numbers z)) y);
    form = λ y. procs.form_step named numbers (map-RawForm RawDecl RawForm RawSimple RawBlock RawProc RawStmt (RawDecl × Procs) (RawForm × Procs) (RawSimple × Procs) (RawBlock × Procs) (RawProc × Procs) (RawStmt × Procs) (λ z. (z, procs.declaration_procs named numbers z)) (λ z. (z, procs.form_procs named numbers z)) (λ z. (z, procs.simple_procs named numbers z)) (λ z. (z, procs.block_procs named numbers z)) (λ z. (z, procs.procedure_procs named numbers z)) (λ z. (z, procs.statement_procs named numbers z)) y);
    simple = λ y. procs.simple_step named numbers (map-RawSimple RawDecl RawForm RawSimple RawBlock RawProc RawStmt (RawDecl × Procs) (RawForm × Procs) (RawSimple × Procs) (RawBlock × Procs) (RawProc × Procs) (RawStmt × Procs) (λ z. (z, procs.declaration_procs named numbers z)) (λ z. (z, procs.form_procs named numbers z)) (λ z. (z, procs.simple_procs named numbers z)) (λ z. (z, procs.block_procs named numbers z)) (λ z. (z, procs.procedure_procs named numbers z)) (λ z. (z, procs.statement_procs named numbers z)) y);
    block = λ y. procs.block_step named numbers (map-RawBlock RawDecl RawForm RawSimple RawBlock RawProc RawStmt (RawDecl × Procs) (RawForm × Procs) (RawSimple × Procs) (RawBlock × Procs) (RawProc × Procs) (RawStmt × Procs) (λ z. (z, procs.declaration_procs named numbers z)) (λ z. (z, procs.form_procs named numbers z)) (λ z. (z, procs.simple_procs named numbers z)) (λ z. (z, procs.block_procs named numbers z)) (λ z. (z, procs.procedure_procs named numbers z)) (λ z. (z, procs.statement_procs named numbers z)) y);
    proc = λ y. procs.procedure_step named numbers (map-RawProc RawDecl RawForm RawSimple RawBlock RawProc RawStmt (RawDecl × Procs) (RawForm × Procs) (RawSimple × Procs) (RawBlock × Procs) (RawProc × Procs) (RawStmt × Procs) (λ z. (z, procs.declaration_procs named numbers z)) (λ z. (z, procs.form_procs named numbers z)) (λ z. (z, procs.simple_procs named numbers z)) (λ z. (z, procs.block_procs named numbers z)) (λ z. (z, procs.procedure_procs named numbers z)) (λ z. (z, procs.statement_procs named numbers z)) y);
    stmt = λ y. procs.statement_step named numbers (map-RawStmt RawDecl RawForm RawSimple RawBlock RawProc RawStmt (RawDecl × Procs) (RawForm × Procs) (RawSimple × Procs) (RawBlock × Procs) (RawProc × Procs) (RawStmt × Procs) (λ z. (z, procs.declaration_procs named numbers z)) (λ z. (z, procs.form_procs named numbers z)) (λ z. (z, procs.simple_procs named numbers z)) (λ z. (z, procs.block_procs named numbers z)) (λ z. (z, procs.procedure_procs named numbers z)) (λ z. (z, procs.statement_procs named numbers z)) y);
  }

  pub procedures_roll : Rolls procedures layer_procedures
  unfolding Rattle.cw_make.specs.Procedures.declaration_procs Rattle.cw_make.specs.Procedures.form_procs Rattle.cw_make.specs.Procedures.simple_procs Rattle.cw_make.specs.Procedures.block_procs Rattle.cw_make.specs.Procedures.procedure_procs Rattle.cw_make.specs.Procedures.statement_procs
  procedures_roll = record {
    decl = para-roll-RawDecl Procs Procs Procs Procs Procs Procs (procs.declaration_step named numbers) (procs.form_step named numbers) (procs.simple_step named numbers) (procs.block_step named numbers) (procs.procedure_step named numbers) (procs.statement_step named numbers);
    form = para-roll-RawForm Procs Procs Procs Procs Procs Procs (procs.declaration_step named numbers) (procs.form_step named numbers) (procs.simple_step named numbers) (procs.block_step named numbers) (procs.procedure_step named numbers) (procs.statement_step named numbers);
    simple = para-roll-RawSimple Procs Procs Procs Procs Procs Procs (procs.declaration_step named numbers) (procs.form_step named numbers) (procs.simple_step named numbers) (procs.block_step named numbers) (procs.procedure_step named numbers) (procs.statement_step named numbers);
    block = para-roll-RawBlock Procs Procs Procs Procs Procs Procs (procs.declaration_step named numbers) (procs.form_step named numbers) (procs.simple_step named numbers) (procs.block_step named numbers) (procs.procedure_step named numbers) (procs.statement_step named numbers);
    proc = para-roll-RawProc Procs Procs Procs Procs Procs Procs (procs.declaration_step named numbers) (procs.form_step named numbers) (procs.simple_step named numbers) (procs.block_step named numbers) (procs.procedure_step named numbers) (procs.statement_step named numbers);
    stmt = para-roll-RawStmt Procs Procs Procs Procs Procs Procs (procs.declaration_step named numbers) (procs.form_step named numbers) (procs.simple_step named numbers) (procs.block_step named numbers) (procs.procedure_step named numbers) (procs.statement_step named numbers);
  }
