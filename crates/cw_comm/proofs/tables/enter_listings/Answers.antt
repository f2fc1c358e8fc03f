use Rattle.std.proofs.Common.{◌≡◌, ◌+◌, ◌-◌, ◌<◌, length, get_or, refl, ◌∙◌, arith}
use Rattle.std.proofs.lemmas.List.{length-set}
use Rattle.cw_comm.proofs.Entries.{read_row, number_within, count_is, next_listing, no_listing}
use Rattle.cw_comm.proofs.tables.enter_listings.Goals as goal

pub overflow_cast-segment : goal.overflow_cast-segment
overflow_cast-segment c = omega (arith, c.requires.segment, c.requires.listed.few)

pub loop-d-init : goal.loop-d-init
loop-d-init c =
    let a = c.args.listed.now in
    let ns = c.row-numbers.result.now in
    let read = read_row a.segments.now a.names.now a.numbers.now c.requires.listed.numbered c.args.segment ns c.requires.segment c.row-numbers.ensures in
    record {
      count = refl;
      told = λ k f lk is. no_listing a.segments.now a.names.now a.numbers.now c.requires.listed.numbered c.args.segment (length ns) f k _ (let same = count_is a.segments.now a.names.now a.numbers.now c.requires.listed.numbered c.args.segment f ns is read in omega (arith, same));
    }

pub index_mut-requires : goal.index_mut-requires
index_mut-requires c =
    let a = c.args.listed.now in
    let ns = c.row-numbers.result.now in
    let read = read_row a.segments.now a.names.now a.numbers.now c.requires.listed.numbered c.args.segment ns c.requires.segment c.row-numbers.ensures in
    let below = number_within a.segments.now a.names.now a.numbers.now c.requires.listed.numbered c.args.segment (c.loop-d.d - 1) ns c.requires.segment read (omega (arith, c.loop-d-test.true, c.loop-d.auto.d)) in
    omega (arith, below, c.loop-d.invariant.count, c.requires.count)

pub loop-d-preserved : goal.loop-d-preserved
loop-d-preserved c =
    let a = c.args.listed.now in
    let ns = c.row-numbers.result.now in
    let read = read_row a.segments.now a.names.now a.numbers.now c.requires.listed.numbered c.args.segment ns c.requires.segment c.row-numbers.ensures in
    let n = c.loop-d.d - 1 in
    let lt : n < length ns = omega (arith, c.loop-d-test.true, c.loop-d.auto.d) in
    let next : n + 1 ≡ c.loop-d.d = omega (arith, c.loop-d-test.true) in
    record {
      count = length-set c.loop-d.table.items (get_or ns n 0) _ ∙ c.loop-d.invariant.count;
      told = λ k f lk is. next_listing a.segments.now a.names.now a.numbers.now c.requires.listed.numbered c.args.segment n f ns k c.loop-d.d c.loop-d.table.items _ is read lt next lk (c.loop-d.invariant.count ∙ c.requires.count) (c.loop-d.invariant.told k f lk is);
    }
