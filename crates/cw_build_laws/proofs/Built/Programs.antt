-- The program of the orders of units is one that code can carry out.
use Rattle.std.proofs.Common.{◌≡◌, ◌⊎◌, inl, inr, ℕ, ◌<◌, ◌≤◌, List, All, IsTrue, Some}
use Rattle.cw_unit.specs.declared.unit.Unit.{Unit as SourceUnit}
use Rattle.cw_unit.specs.declared.layout.Limits.{Limits}
use Rattle.cw_unit.specs.declared.layout.Map.{Map}
use Rattle.cw_order.specs.declared.order.Order.{Order}
use Rattle.cw_order.specs.declared.order.Order.TheVariants as order
use Rattle.cw_order.specs.FittingWords.{ConstantsFit}
use Rattle.cw_order.specs.OrderProgram.{order_at}
use Rattle.cw_order.specs.Spans.{SpansInside}
use Rattle.cw_order.specs.BeginsStatement.{BeginsStatement, StatementsBegin}
use Rattle.cw_gen_unit.specs.ReferenceUnits.{unit_orders, orders_program}
use Rattle.cw_follow.specs.Placing.{StandsBehind, Codable}
use Rattle.cw_safety.proofs.Truth.{no}
use Rattle.cw_built.specs.Built.{is_built}
use Rattle.cw_built.specs.Coded.{is_landing, have_code}
use Rattle.cw_built.proofs.Sharing.{definitions-shared}
use Rattle.cw_built.proofs.Programs.{codes, lines, tables, paired, switches, entries, marks, callable}

landing-alone : (o : Order) → IsTrue (is_landing o) → (StandsBehind o → ⊥) × (BeginsStatement o → ⊥)
landing-alone order.Mark h = (λ t. t, λ t. t)
landing-alone (order.Enter size) h = (λ t. t, λ t. t)
landing-alone _ h = no h

module _ (us : List SourceUnit) (m : Map) (limits : Limits) (room : ℕ) (h : All (λ u. IsTrue (have_code (unit_orders u))) us) where
  marked : (g mark place : ℕ) → (place ≡ 0) ⊎ ((o : Order) × (order_at (orders_program us m limits room) g place ≡ Some o) × IsTrue (is_landing o))
      → (place ≡ 0) ⊎ ((o : Order) × (order_at (orders_program us m limits room) g place ≡ Some o) × (StandsBehind o → ⊥) × (BeginsStatement o → ⊥))
  marked g mark place (inl e) = inl e
  marked g mark place (inr b) = let alone = landing-alone b.0 b.2 in inr (b.0, b.1, alone.0, alone.1)

  pub codable : All (λ u. IsTrue (is_built u)) us → ConstantsFit (orders_program us m limits room) → SpansInside (orders_program us m limits room) → StatementsBegin (orders_program us m limits room) → limits.frames ≤ limits.area → limits.depth < 65536 → room ≤ 32000 → Codable (orders_program us m limits room)
  codable passed constants spans begin frames depth few = record {
    codes = codes us m limits room h;
    constants = constants;
    spans = spans;
    lines = lines us m limits room h;
    tables = tables us m limits room;
    paired = paired us m limits room;
    switches = switches us m limits room h;
    callable = callable us m limits room h passed frames;
    shared = definitions-shared us m limits room;
    entries = entries us m limits room;
    marks = λ g mark place e. marked g mark place (marks us m limits room h g mark place e);
    begins = begin;
    frames = frames;
    depth = depth;
    room = few;
  }
