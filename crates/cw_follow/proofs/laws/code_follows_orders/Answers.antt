use Rattle.cw_follow.proofs.WordLaws.{WordLaws}
use Rattle.cw_follow.proofs.RoutineLaws.{RoutineLaws}
use Rattle.cw_follow.proofs.Rows.{Rows}
use Rattle.cw_follow.proofs.Placement.{all_stand}
use Rattle.cw_follow.proofs.Following.{following}
use Rattle.cw_follow.proofs.laws.code_follows_orders.Goals as goal

pub returns : goal.returns
returns c =
    let words : WordLaws = record {
      numbers = c.word_laws.ensures;
      signed_fits = c.readings.ensures.signed_fits;
      difference = c.sums.ensures.difference;
      negative = c.sums.ensures.negative;
      taken = c.masks.ensures.taken;
      stored = c.masks.ensures.stored;
      field_fits = c.fields.ensures.fits;
      signed_shifted = c.masks.ensures.signed_shifted;
      scaled_up = c.scaling.ensures.up;
      down = c.many_places.ensures.down;
      upper = c.many_places.ensures.upper;
      again = c.many_places.ensures.again;
      keeps = c.words.ensures;
      stands_keep = c.activations.ensures;
    } in
    let routines : RoutineLaws = record {
      start = c.bodies.ensures.start;
      overflow = c.bodies.ensures.overflow;
      zero_divisor = c.bodies.ensures.zero_divisor;
      address = c.bodies.ensures.address;
      bounds = c.bodies.ensures.bounds;
      switch = c.bodies.ensures.switch;
      enter = c.calls.ensures.enter;
      beginning = c.calls.ensures.beginning;
      leaving = c.calls.ensures.leaving;
      read = c.calls.ensures.read;
      product = c.numbers-2.ensures.product;
      quotient_down = c.numbers-2.ensures.quotient_down;
      quotient_up = c.numbers-2.ensures.quotient_up;
      set_variable = c.loops.ensures.set_variable;
      add_step = c.loops.ensures.add_step;
      put_variable = c.loops.ensures.put_variable;
      exhausted = c.loops.ensures.exhausted;
      next_step = c.loops.ensures.next_step;
      divisor = c.pieces.ensures.divisor;
    } in
    let rows : Rows = record {
      words = words;
      routines = routines;
      starts = c.starting.ensures;
      number = c.moves.ensures.number;
      exchange = c.pieces.ensures.exchange;
      extend = c.multiplying.ensures.extend;
      quotient = c.pieces.ensures.quotient;
      quotient_fits = c.pieces.ensures.quotient_fits;
      move = c.moves.ensures.register;
      push = c.stacking.ensures.push;
      pop = c.stacking.ensures.pop;
      load = c.memory.ensures.load;
      store = c.memory.ensures.store;
      load_slot = c.memory.ensures.load_slot;
      store_slot = c.fields-2.ensures.store_slot;
      add = c.arithmetic.ensures.add;
      subtract = c.arithmetic.ensures.subtract;
      negate = c.arithmetic.ensures.negate;
      double = c.arithmetic.ensures.double;
      both = c.logic.ensures.both;
      either = c.logic.ensures.either;
      one = c.logic.ensures.one;
      shift_down_signed = c.shifting.ensures.down_signed;
      multiply = c.multiplying.ensures.multiply;
      jumps_below = c.comparing_below.ensures.jumps;
      passes_above = c.comparing_below.ensures.passes;
      near = c.jumps.ensures.near;
      short = c.jumps.ensures.short;
      jump_to = c.jumps.ensures.register;
      no_overflow = c.jumps.ensures.no_overflow;
      passes = c.jumps.ensures.passes;
      call = c.jumps.ensures.call;
      through_table = c.tables.ensures;
      load_at = c.offsets.ensures.load;
      store_at = c.offsets.ensures.store;
      add_at = c.offsets.ensures.add;
      add_number = c.numbers.ensures.add;
      subtract_number = c.numbers.ensures.subtract;
      compare = c.comparing.ensures.registers;
      compare_number = c.comparing.ensures.number;
      compared_jumps = c.comparing.ensures.jumps;
      compared_passes = c.comparing.ensures.passes;
      as_compared = c.conditions.ensures.as_compared;
      counted_zero = c.conditions.ensures.counted_zero;
      jumps_if = c.jumping.ensures.jumps;
      passes_if = c.jumping.ensures.passes;
      acts = c.acting.ensures.one;
      out = c.ports.ensures.out;
      halts = c.ports.ensures.halts;
      rests = c.ports.ensures.rests;
      runs = c.ports.ensures.runs;
    } in
    λ p image words memory input s places is stand codable begins never start bytes. following rows p image words memory input s places (all_stand c.standing.ensures.library p image is codable) is stand codable begins never start bytes
