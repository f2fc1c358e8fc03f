use Rattle.cw_build_laws.proofs.Images.Given.{Given}
use Rattle.cw_build_laws.proofs.Images.Loaded.{loaded, valid_storage}
use Rattle.cw_build_laws.proofs.laws.images.loaded.Goals as goal

pub returns : goal.returns
returns c =
    let given : Given = record {
      well_formed = c.built_units.ensures.well_formed;
      built = c.built_units.ensures.built;
      layout = c.built_units.ensures.layout;
      defined = c.built_units.ensures.defined;
      codable = c.codable.ensures;
      writable = c.writable.ensures;
      valid = c.valid_maps.ensures;
      names = c.agreed_segments.ensures.names;
      gives = c.filling.ensures.gives;
      long = c.filling.ensures.long;
      size = c.linked_units.ensures.code;
      map_is = c.linked_units.ensures.map;
    } in
    record {
      valid_storage = valid_storage given;
      started = λ us limits input s some most compiled in_limits links bytes start. loaded given us limits input some most compiled in_limits links s bytes start;
    }
