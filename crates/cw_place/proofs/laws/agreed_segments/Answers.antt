use Rattle.std.proofs.Common.{◌≡◌, ℕ, ◌<◌, ◌≤◌, List, [], length, Some, None, false, slice_get, get_or, All, sym, ap, subst, ◌∙◌, arith, inl, inr}
use Rattle.std.proofs.lemmas.Bool.{cases_lt}
use Rattle.std.proofs.lemmas.List.{get_or_default, get_or_past}
use Rattle.std.proofs.lemmas.Option.{slice_get-get_or, slice_get_within}
use Rattle.cw_unit.specs.declared.descriptor.Desc.{Desc}
use Rattle.cw_unit.specs.declared.descriptor.DescBody.TheVariants as bodies
use Rattle.cw_unit.specs.declared.layout.Family.{Family}
use Rattle.cw_comm.specs.declared.face.Face.{Face}
use Rattle.cw_comm.specs.Clashes.{agreed_of}
use Rattle.cw_place.specs.Segments.{numbers_of, IsOfDescriptor}
use Rattle.cw_place.proofs.laws.agreed_segments.Goals as goal

abbrev no_face : Face
no_face = record { name = []; descs = []; defined = [] }

abbrev no_desc : Desc
no_desc = record { name = []; library = false; over = None; body = bodies.Label }

pub returns-clause-names : goal.returns-clause-names
returns-clause-names c = c.names.ensures.told

pub returns-clause-of : goal.returns-clause-of
returns-clause-of c = λ faces spaces same own_.
    let agreed = agreed_of faces in
    record {
      once = c.names.ensures.once faces;
      segments = c.names.ensures.segments faces ∙ same;
      numbers = λ g k d lt.
          elim (cases_lt g (length faces)) [
            | inl there ↦
                (let f : Face = get_or faces g no_face in
                let is : slice_get faces g ≡ Some f = slice_get-get_or faces g no_face there in
                let count = c.names.ensures.descriptors faces g f is in
                let x : Desc = get_or f.descs k no_desc in
                let at : slice_get f.descs k ≡ Some x = slice_get-get_or f.descs k no_desc (omega (arith, count, lt)) in
                subst (λ n. n < length agreed.names) (get_or_default (numbers_of agreed g) k 0 d lt) (c.names.ensures.numbers faces g k f x is at).within)
            | inr past ↦ (let none = ap length (get_or_past agreed.of g [] (omega (arith, past, c.names.ensures.segments faces))) in absurd (omega (arith, none, lt)))
          ];
      own = λ g s at.
          let there : g < length faces = omega (arith, same, slice_get_within spaces g s at) in
          let f : Face = get_or faces g no_face in
          let is : slice_get faces g ≡ Some f = slice_get-get_or faces g no_face there in
          subst (λ n. All (λ (x : Family). IsOfDescriptor n x.sort) s.families) (sym (c.names.ensures.descriptors faces g f is)) (own_ g f s is at);
    }
