use Rattle.std.proofs.Common.{◌≡◌, ℕ, List, length, map, sym, ap, subst, ◌∙◌}
use Rattle.cw_comm.specs.declared.face.Agreed.{Agreed}
use Rattle.cw_comm.specs.Agreement.{listed_names, all_places}
use Rattle.cw_comm.specs.Numbered.{AreNumbered}
use Rattle.cw_tmpl.specs.Library.{library_bytes}
use Rattle.cw_link.specs.Contents.{contents_of}
use Rattle.cw_link.specs.LinkedImage.{faces_of}
use Rattle.cw_link.specs.Definitions.{TellsAddresses, TellsDefinitions, definitions_by}
use Rattle.cw_link.proofs.Numbered.{tells_addresses, tells_definitions}
use Rattle.cw_link.proofs.linking.code_by.Goals as goal

pub linked_code-requires-clause-definitions : goal.linked_code-requires-clause-definitions
linked_code-requires-clause-definitions c =
    let cs = map contents_of c.args.views.now in
    let names = c.as_slice-names.result.now in
    let numbers = c.as_slice-numbers.result.now in
    let table = c.in_ok-table.table.items in
    let names_are : names ≡ listed_names (faces_of cs) = c.as_slice-names.ensures ∙ ap (λ (a : Agreed). a.names) c.requires.agreed in
    let numbers_are : numbers ≡ all_places names (faces_of cs) = c.as_slice-numbers.ensures ∙ ap (λ (a : Agreed). a.of) c.requires.agreed ∙ ap (λ (ns : List (List ℕ)). all_places ns (faces_of cs)) (sym names_are) in
    let num : AreNumbered (faces_of cs) names numbers = record { names_are = names_are; numbers_are = numbers_are } in
    let told : TellsAddresses names (length library_bytes) cs table = subst (λ bytes. TellsAddresses names (length bytes) cs table) c.base_code.ensures (tells_addresses cs names numbers num (length c.base_code.result.now) table c.in_ok-table.ensures.count c.in_ok-table.ensures.told) in
    let is = c.as_slice-2.ensures ∙ c.in_ok-definitions.ensures ∙ ap (λ t. map (definitions_by t) numbers) c.as_slice.ensures.value in
    subst (TellsDefinitions cs) (sym is) (tells_definitions cs names numbers num table told)
