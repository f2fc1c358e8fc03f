-- What outcomes and actions keep of the words.
use Rattle.std.proofs.Common.{ℕ, ℤ, pos, negsuc, Bool, true, false}
use Rattle.cw_unit.specs.Words.{Words, Outcome, Changed, Refused, Impossible, through}
use Rattle.cw_unit.specs.Operation.{fitting, perform}
use Rattle.cw_order.specs.OrderChanges.{Way, if_inside}
use Rattle.cw_order.specs.OrderActions.{Action, Perform, Access, Alter, AlterWithin, Branch}
use Rattle.cw_order.specs.OrderMachine.{unrefused}

abbrev pub OutcomeIs : (Words → Type 0) → Outcome → Type 0
OutcomeIs P (Changed w) = P w
OutcomeIs P (Refused kind) = Unit {0}
OutcomeIs P Impossible = Unit {0}

abbrev pub KeepsIt : (Words → Type 0) → (Words → Outcome) → Type 0
KeepsIt P f = (w : Words) → P w → OutcomeIs P (f w)

module _ (P : Words → Type 0) where
  pub through-kept : (b : Bool) (f : ℕ → Words → Outcome) → ((i : ℕ) → KeepsIt P (f i)) → (a : ℤ) → KeepsIt P (through b f a)
  through-kept true f h (pos n) w p = h n w p
  through-kept true f h (negsuc n) w p = h 0 w p
  through-kept false f h a w p = tt

  pub fitting-kept : (b : Bool) (f : Words → Outcome) → KeepsIt P f → KeepsIt P (λ w. fitting b (f w))
  fitting-kept true f h w p = h w p
  fitting-kept false f h w p = tt

  pub if_inside-kept : (b : Bool) (f : Words → Outcome) → KeepsIt P f → KeepsIt P (λ w. if_inside b (f w))
  if_inside-kept true f h w p = h w p
  if_inside-kept false f h w p = tt

  pub unrefused-kept : (o : Outcome) → OutcomeIs P o → OutcomeIs P (unrefused o)
  unrefused-kept (Changed v) h = h
  unrefused-kept (Refused kind) h = tt
  unrefused-kept Impossible h = tt

-- an action whose changes keep them, and whose way leads on with them
abbrev pub ActionIs : (Keeps : (Words → Outcome) → Type 0) → (Leads : (Words → Way) → Type 0) → (area : ℕ) → Action → Type 0
ActionIs Keeps Leads area (Perform line op) = Keeps (perform area op)
ActionIs Keeps Leads area (Access op) = Keeps (perform area op)
ActionIs Keeps Leads area (Alter line f) = Keeps f
ActionIs Keeps Leads area (AlterWithin f) = Keeps f
ActionIs Keeps Leads area (Branch line f) = Leads f
ActionIs Keeps Leads area _ = Unit {0}
