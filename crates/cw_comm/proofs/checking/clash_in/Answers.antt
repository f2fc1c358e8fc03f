use Rattle.std.proofs.Common.{length, ap, ◌∙◌, arith}
use Rattle.std.proofs.lemmas.Option.{get_or_from_slice_get}
use Rattle.cw_comm.specs.declared.face.Face.{Face}
use Rattle.cw_comm.specs.Searching.{kind_of}
use Rattle.cw_comm.proofs.Firsts.{segment_told, segment_past}
use Rattle.cw_comm.proofs.Searching.{kind_names}
use Rattle.cw_comm.proofs.checking.clash_in.Goals as goal

pub clash_at-requires-clause-descriptor : goal.clash_at-requires-clause-descriptor
clash_at-requires-clause-descriptor c = record {
  at = c.requires.at;
  inside = λ f is.
      let read = ap (λ (x : Face). x.descs) (get_or_from_slice_get c.args.at.now.listed.now.segments.now c.args.at.now.segment f c.index-segments-segment.result is) in
      omega (arith, c.loop-d-test.true, ap length (c.as_slice-descriptors.ensures ∙ read));
}

pub loop-d-preserved : goal.loop-d-preserved
loop-d-preserved c = λ none. c.in-None.ensures (c.loop-d.invariant none)

pub returns-in-Some : goal.returns-in-Some
returns-in-Some c = λ none. segment_told c.index-segments-segment.result c.as_slice-descriptors.result.now c.index-descriptors-d.result c.as_slice-descriptors.ensures (c.in-Some.ensures (c.loop-d.invariant none))

pub returns : goal.returns
returns c = λ none.
    let faces = c.args.at.now.listed.now.segments.now in
    segment_past faces (kind_of faces c.args.sought) (kind_names faces c.args.sought) c.args.at.now.segment c.loop-d.d c.index-segments-segment.result c.as_slice-descriptors.result.now c.requires.at.within c.as_slice-descriptors.ensures (omega (arith, c.loop-d-test.false, c.loop-d.auto.d-end)) (c.loop-d.invariant none)
