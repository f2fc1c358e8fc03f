-- Whether a statement is built, by its first layer.
use Rattle.std.proofs.Common.{◌≡◌, ℕ, Bool, Option}
use Rattle.cw_unit.specs.declared.unit.Unit.{Unit as SourceUnit}
use Rattle.cw_unit.specs.declared.unit.Stmt.{Stmt, Stmt-F, out-Stmt, map-Stmt, fold_out-Stmt}
use Rattle.cw_gen_unit.specs.BuiltStatements as built

abbrev pub built_layer : SourceUnit → ((item words : ℕ) → Bool) → Option ℕ → ℕ → Stmt-F Stmt → ℕ → Bool
built_layer u h who f x = built.statement_step u h who f (map-Stmt Stmt (ℕ → Bool) (built.is_statement u h who f) x)

pub statement-built : (u : SourceUnit) (h : (item words : ℕ) → Bool) (who : Option ℕ) (f : ℕ) (x : Stmt) → built.is_statement u h who f x ≡ built_layer u h who f (out-Stmt x)
statement-built u h who f = fold_out-Stmt (ℕ → Bool) (built.statement_step u h who f)
