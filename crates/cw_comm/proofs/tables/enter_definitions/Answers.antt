use Rattle.std.proofs.Common.{◌≡◌, ◌-◌, length, None, get_or, drop, sym, ap, refl, ◌∙◌, arith}
use Rattle.std.proofs.lemmas.List.{length-set}
use Rattle.std.proofs.lemmas.Option.{slice_get_within, get_or_from_slice_get}
use Rattle.cw_unit.specs.Allocation.{name_at}
use Rattle.cw_comm.specs.Agreement.{defines}
use Rattle.cw_comm.specs.Tables.{defined_in}
use Rattle.cw_comm.proofs.Entries.{read_row, read_defined, read_definition, number_within, next_definition, skip_definition, no_definition}
use Rattle.cw_comm.proofs.tables.enter_definitions.Goals as goal

pub overflow_cast-segment : goal.overflow_cast-segment
overflow_cast-segment c = omega (arith, c.requires.segment, c.requires.listed.few)

pub loop-n-init : goal.loop-n-init
loop-n-init c = record {
  count = refl;
  told = λ k f lk is.
      let a = c.args.listed.now in
      let ds = c.as_slice-defined.result.now in
      let len = ap length (read_defined a.segments.now c.args.segment ds c.index-segments-segment.result c.as_slice-defined.ensures f is) in
      no_definition a.segments.now a.names.now a.numbers.now c.requires.listed.numbered c.args.segment (length ds) f k _ (omega (arith, len));
}

pub index_mut-requires : goal.index_mut-requires
index_mut-requires c =
    let a = c.args.listed.now in
    let ns = c.row-numbers.result.now in
    let read = read_row a.segments.now a.names.now a.numbers.now c.requires.listed.numbered c.args.segment ns c.requires.segment c.row-numbers.ensures in
    let at = sym c.in-Some.ensures in
    let within = number_within a.segments.now a.names.now a.numbers.now c.requires.listed.numbered c.args.segment _ ns c.requires.segment read (slice_get_within ns _ c.in-Some.number at) in
    let is = get_or_from_slice_get ns _ c.in-Some.number 0 at in
    omega (arith, within, is, c.loop-n.invariant.count, c.requires.count)

pub loop-n-preserved-in-Some : goal.loop-n-preserved-in-Some
loop-n-preserved-in-Some c =
    let a = c.args.listed.now in
    let ns = c.row-numbers.result.now in
    let ds = c.as_slice-defined.result.now in
    let n = c.loop-n.n - 1 in
    record {
      count = length-set c.loop-n.table.items c.in-Some.number _ ∙ c.loop-n.invariant.count;
      told = λ k f lk is.
          let at = read_definition a.segments.now c.args.segment ds c.index-segments-segment.result c.as_slice-defined.ensures f is n (omega (arith, c.loop-n-test.true, c.loop-n.auto.n)) in
          next_definition a.segments.now a.names.now a.numbers.now c.requires.listed.numbered c.args.segment n (get_or ds n 0) f ns c.in-Some.number k c.loop-n.n c.loop-n.table.items _ is
          (read_row a.segments.now a.names.now a.numbers.now c.requires.listed.numbered c.args.segment ns c.requires.segment c.row-numbers.ensures) (sym c.in-Some.ensures) at.0 (omega (arith, c.loop-n-test.true)) at.1 lk
          (c.loop-n.invariant.count ∙ c.requires.count) (c.loop-n.invariant.told k f lk is);
    }

pub loop-n-preserved : goal.loop-n-preserved
loop-n-preserved c =
    let a = c.args.listed.now in
    let ds = c.as_slice-defined.result.now in
    let n = c.loop-n.n - 1 in
    record {
      count = c.loop-n.invariant.count;
      told = λ k f lk is.
          let at = read_definition a.segments.now c.args.segment ds c.index-segments-segment.result c.as_slice-defined.ensures f is n (omega (arith, c.loop-n-test.true, c.loop-n.auto.n)) in
          skip_definition a.segments.now a.names.now a.numbers.now c.requires.listed.numbered c.args.segment n (get_or ds n 0) f c.row-numbers.result.now k c.loop-n.n c.loop-n.table.items _ is
          (read_row a.segments.now a.names.now a.numbers.now c.requires.listed.numbered c.args.segment _ c.requires.segment c.row-numbers.ensures) (sym c.in_default.ensures) at.0 (omega (arith, c.loop-n-test.true)) at.1
          (c.loop-n.invariant.told k f lk is);
    }

pub returns-clause-told : goal.returns-clause-told
returns-clause-told c = λ k f lk is.
    let none : c.loop-n.n ≡ 0 = omega (arith, c.loop-n-test.false) in
    c.loop-n.invariant.told k f lk is ∙ ap (λ i. defined_in c.args.segment (defines (name_at c.args.listed.now.names.now k) f.descs (drop i f.defined)) (get_or c.args.table.now.items k None)) none
