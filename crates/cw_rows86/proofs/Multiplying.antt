-- Products and quotients.
use Rattle.std.proofs.Common.{◌≡◌, ℕ, ◌+◌, ◌*◌, true, List, refl, ap, ap₂, ◌∙◌}
use Rattle.std.specs.Prelude.{slice_index, slice_set, Some}
use Rattle.std.specs.Int.{w16, w32}
use Rattle.cw_i86.specs.Products.{product_flags, quotient_of, signed_quotient_of}
use Rattle.cw_i86.specs.State.{State}
use Rattle.cw_i86.specs.Effect.{unary, signed_multiplied, divided, signed_divided, with_quotient, word_extended}
use Rattle.cw_i86.specs.declared.instr.Instr.{Instr}
use Rattle.cw_i86.specs.declared.instr.Instr.TheVariants as i86
use Rattle.cw_i86.specs.declared.instr.Rm.{Rm}
use Rattle.cw_run86.specs.Views.{View, Has, register, on, with_register, with_pair, with_overflow, product_low, product_high, product_overflows, sign_of}
use Rattle.cw_run86.proofs.Tests.{Finds}
use Rattle.cw_rows86.specs.Locations.{Location, InRegister, contents, Denotes, GoesWith, same_flags}
use Rattle.cw_rows86.proofs.Fitting.{FitsView, Writes, reads}
use Rattle.cw_rows86.proofs.Stepping.{as_written, by_row, written, quietly}
use Rattle.cw_rows86.proofs.Moving.{set_register}

module _ (finds : Finds) (code : List ℕ) (v : View) where
  pub multiply : (rm : Rm) (o : Location) → Has code v.place (i86.Unary 5 true rm) → Denotes code v.registers rm o
      → GoesWith code (product_flags (product_overflows (register v 0) (contents code v o))) v
      (with_overflow (product_overflows (register v 0) (contents code v o)) (with_pair (product_low (register v 0) (contents code v o)) (product_high (register v 0) (contents code v o)) (on (i86.Unary 5 true rm) v)))
  unfolding unary signed_multiplied
  multiply rm o has d =
      by_row finds code v _ (i86.Unary 5 true rm) _ has (λ p. refl)
      (λ s b. let read = reads code v s rm o d b.fits in
      let flags = ap₂ (λ rs n. product_flags (product_overflows (slice_index rs 0) n) s.flags) b.fits.same_registers read in
      record {
        state = _;
        is = refl;
        fits = record {
          memory = b.fits.memory;
          same_registers = ap₂ (λ rs n. slice_set (slice_set rs 0 (product_low (slice_index rs 0) n)) 2 (product_high (slice_index rs 0) n)) b.fits.same_registers read;
          segment = b.fits.segment;
        };
        place = b.place;
        same_flags = flags;
        overflow = ap (λ f. f.of) flags;
        input = refl;
        told = refl;
      })

  pair_set : (s : State) (q r : ℕ) → FitsView code v s → Writes code (with_pair q r v) s (record s { registers = slice_set (slice_set s.registers 0 q) 2 r })
  pair_set s q r f = record { fits = record { memory = f.memory; same_registers = ap (λ rs. slice_set (slice_set rs 0 q) 2 r) f.same_registers; segment = f.segment }; place = refl; flags = refl }

  in_view : (i : Instr) (s t : State) (q r : ℕ) → Writes code (with_pair q r v) s t → Writes code (with_pair q r (on i v)) s t
  in_view i s t q r w = record { fits = record { memory = w.fits.memory; same_registers = w.fits.same_registers; segment = w.fits.segment }; place = w.place; flags = w.flags }

  pub divide : (rm : Rm) (o : Location) (q r : ℕ) → Has code v.place (i86.Unary 6 true rm) → Denotes code v.registers rm o → quotient_of 32768 (65536 * register v 2 + register v 0) (contents code v o) ≡ Some (q, r)
      → GoesWith code same_flags v (with_pair q r (on (i86.Unary 6 true rm) v))
  unfolding unary divided
  divide rm o q r has d is =
      let i = i86.Unary 6 true rm in
      by_row finds code v _ i same_flags has (λ p. refl)
      (λ s b. let found = ap₂ (λ rs n. quotient_of 32768 (65536 * slice_index rs 2 + slice_index rs 0) n) b.fits.same_registers (reads code v s rm o d b.fits) ∙ is in
      let w = quietly code v (with_pair q r (on i v)) i s _ b (in_view i s _ q r (pair_set s q r b.fits)) refl refl refl refl in
      as_written code v _ _ _ _ (ap (with_quotient s true) found) w)

  pub signed_divide : (rm : Rm) (o : Location) (q r : ℕ) → Has code v.place (i86.Unary 7 true rm) → Denotes code v.registers rm o → signed_quotient_of w32 w16 32768 (65536 * register v 2 + register v 0) (contents code v o) ≡ Some (q, r)
      → GoesWith code same_flags v (with_pair q r (on (i86.Unary 7 true rm) v))
  unfolding unary signed_divided
  signed_divide rm o q r has d is =
      let i = i86.Unary 7 true rm in
      by_row finds code v _ i same_flags has (λ p. refl)
      (λ s b. let found = ap₂ (λ rs n. signed_quotient_of w32 w16 32768 (65536 * slice_index rs 2 + slice_index rs 0) n) b.fits.same_registers (reads code v s rm o d b.fits) ∙ is in
      let w = quietly code v (with_pair q r (on i v)) i s _ b (in_view i s _ q r (pair_set s q r b.fits)) refl refl refl refl in
      as_written code v _ _ _ _ (ap (with_quotient s true) found) w)

  pub extend : Has code v.place i86.Cwd → GoesWith code same_flags v (with_register 2 (sign_of (register v 0)) (on i86.Cwd v))
  unfolding word_extended
  extend has =
      by_row finds code v _ i86.Cwd same_flags has (λ p. refl)
      (λ s b. written code v i86.Cwd (InRegister 2) (sign_of (register v 0)) s _ b (set_register code (on i86.Cwd v) s 2 _ _ b.fits (ap (λ rs. sign_of (slice_index rs 0)) b.fits.same_registers)))
