-- A processor that is started with the image of units that can be compiled and link.
use Rattle.std.proofs.Common.{◌≡◌, ◌≢◌, ℕ, zero, suc, ◌+◌, ◌<◌, ◌≤◌, List, [], ◌∷◌, length, map, slice_get, refl, sym, ap, ◌∙◌, subst, arith}
use Rattle.std.specs.Prelude.{All, IsTrue}
use Rattle.std.proofs.lemmas.List.{length-map}
use Rattle.std.proofs.lemmas.List.Elements.{All-weaker, All-from_recursion}
use Rattle.std.specs.List.{AllByRecursion}
use Rattle.cw_word.specs.Name.{IsName, StartsWithLetter}
use Rattle.cw_i86.specs.State.{State}
use Rattle.cw_i86.specs.MachineRun.{IsStart}
use Rattle.cw_unit.specs.declared.unit.Unit.{Unit as SourceUnit}
use Rattle.cw_unit.specs.declared.descriptor.Desc.{Desc}
use Rattle.cw_unit.specs.declared.layout.Limits.{Limits}
use Rattle.cw_unit.specs.declared.layout.Map.{Map}
use Rattle.cw_unit.specs.declared.layout.Family.{Family}
use Rattle.cw_unit.specs.declared.layout.Preset.{Preset}
use Rattle.cw_unit.specs.Storage.{layout_of}
use Rattle.cw_unit.specs.StackBound.{unit_need}
use Rattle.cw_unit.specs.Allocation.{storage_map}
use Rattle.cw_unit.specs.InitialMemory.{filled_words, initial_memory}
use Rattle.cw_unit.specs.ValidStorage.{ValidStorageMap}
use Rattle.cw_order.specs.OrderProgram.{OrderProgram}
use Rattle.cw_gen_unit.specs.BuiltUnits.{Suits}
use Rattle.cw_gen_unit.specs.ReferenceUnits.{unit_orders, orders_program}
use Rattle.cw_tmpl.specs.Library.{library_bytes}
use Rattle.cw_follow.specs.Placing.{IsImage, BeginsWith}
use Rattle.cw_comm.specs.Clashes.{Agree}
use Rattle.cw_place.specs.Placement.{IsLimits}
use Rattle.cw_link.specs.LinkedImage.{linked_code, linked_size, linked_image, presets_from}
use Rattle.cw_obj.specs.Writable.{AllFrom, by_one, the_same, IsListed, IsSet, IsWritable}
use Rattle.cw_built.specs.Built.{is_built}
use Rattle.cw_built.specs.Coded.{have_code}
use Rattle.cw_built.specs.Shared.{faces_of}
use Rattle.cw_sim.specs.Preservation.{IsLoaded}
use Rattle.cw_build.specs.Compiled.{IsCompilable, code_of, contents_of_units}
use Rattle.cw_build.specs.Linking.{Links, image_of}
use Rattle.cw_build_laws.proofs.Images.Given.{Given}
use Rattle.cw_build_laws.proofs.Images.Faces.{faces-same}
use Rattle.cw_build_laws.proofs.Images.Storage.{valid, room-by, calls-by}
use Rattle.cw_build_laws.proofs.Images.Words.{HasPresets, memory-long, words, few, are-words, same}
use Rattle.cw_build_laws.proofs.Images.Definitions.{HasNames, IsTold}
use Rattle.cw_build_laws.proofs.Images.Filling.{IsCodes, all-filled}
use Rattle.cw_build_laws.proofs.Images.Codes.{all-fill}

-- ---- a unit that can be compiled

presets-words : (families : List Family) (n : ℕ) (ps : List Preset) → AllFrom (λ k. IsSet families) the_same n ps → AllByRecursion (λ (p : Preset). p.word < 65536) ps
presets-words families n [] h = tt
presets-words families n (p ∷ ps) h = (h.0.fits.word, presets-words families n ps h.1)

a-letter : (name : List ℕ) → StartsWithLetter name → 0 < length name
a-letter [] h = absurd h
a-letter (c ∷ cs) h = omega arith

names-there : (n : ℕ) (ds : List Desc) → AllFrom IsListed by_one n ds → AllByRecursion (λ (d : Desc). 0 < length d.name) ds
names-there n [] h = tt
names-there n (d ∷ ds) h = (a-letter d.name h.0.fits.name.letter_first, names-there (n + 1) ds h.1)

module _ (given : Given) where
  written : (u : SourceUnit) → IsCompilable u → IsWritable u (layout_of u) (code_of u) (unit_need u) (code_of u).statements
  written u e = given.writable u (layout_of u) (code_of u) (unit_need u) e.writable

  has-presets : (u : SourceUnit) → IsCompilable u → HasPresets u
  has-presets u e = All-from_recursion (λ (p : Preset). p.word < 65536) (layout_of u).words (presets-words (layout_of u).families 0 (layout_of u).words (written u e).presets)

  is-told : (u : SourceUnit) → IsCompilable u → IsTold u
  is-told u e = record {
    names = All-from_recursion (λ (d : Desc). 0 < length d.name) u.descs (names-there 0 u.descs (written u e).descriptors);
    defined = λ k d x is. given.defined u k d x e.built is;
  }

-- ---- units that link

all-built : (us : List SourceUnit) → All IsCompilable us → All (λ u. IsTrue (is_built u)) us
all-built us compiled = All-weaker IsCompilable (λ u. IsTrue (is_built u)) (λ u e. e.built) us compiled

-- their storage map is valid
pub valid_storage : Given → (us : List SourceUnit) (limits : Limits) → All IsCompilable us → Links us limits → ValidStorageMap us limits (storage_map us)
valid_storage given us limits compiled links = valid given us limits (all-built us compiled) links.words.place

module _ (given : Given) (us : List SourceUnit) (limits : Limits) (input : List ℕ) (some : us ≢ []) (most : length us ≤ 200) (compiled : All IsCompilable us) (in_limits : IsLimits limits) (links : Links us limits) where
  abbrev m : Map
  m = storage_map us

  abbrev orders : OrderProgram
  orders = orders_program us m limits 32000

  built : All (λ u. IsTrue (is_built u)) us
  built = all-built us compiled

  coded : All (λ u. IsTrue (have_code (unit_orders u))) us
  coded = All-weaker IsCompilable (λ u. IsTrue (have_code (unit_orders u))) (λ u e. e.coded) us compiled

  told : All IsTold us
  told = All-weaker IsCompilable IsTold (is-told given) us compiled

  agree : Agree (faces_of us)
  agree = subst Agree (faces-same us) links.words.agree

  suits : Suits us m limits 32000
  suits = record {
    valid = valid_storage given us limits compiled links;
    area = in_limits.1;
    has_room = room-by us limits links.words.place.2;
  }

  -- ---- code

  has-codes : IsCodes orders 0 (length library_bytes) library_bytes us (linked_code (contents_of_units us) limits)
  has-codes = all-filled given orders (contents_of_units us) limits 0 (length library_bytes) library_bytes us refl (all-fill given us limits told links.code)

  short : length (image_of us limits).code ≤ 65536
  short = subst (λ n. n ≤ 65536) (sym (given.size us limits)) links.code

  code-is : (image_of us limits).code ≡ linked_code (contents_of_units us) limits
  unfolding image_of
  code-is = refl

  is_image : IsImage orders (image_of us limits).code
  is_image = record {
    codes = has-codes.codes;
    is = code-is ∙ has-codes.is;
    coded = has-codes.coded;
    fits = short;
    few = (let n = length-map us unit_orders in omega (arith, n, most));
  }

  -- ---- words

  words-are : (image_of us limits).words ≡ words us m limits.area
  unfolding image_of
  words-are = ap (λ (x : Map). words us x limits.area) (given.map_is us)

  begins-with : (ws : List ℕ) → ws ≡ words us m limits.area → BeginsWith orders (initial_memory us m limits.area) ws
  begins-with ws is = subst (BeginsWith orders (initial_memory us m limits.area)) (sym is) (record {
    area = in_limits.1;
    long = memory-long (filled_words us m) 0 limits.area;
    few = few us m limits.area;
    are_words = are-words us m limits.area (All-weaker IsCompilable HasPresets (has-presets given) us compiled);
    same = same us m limits.area;
  })

  begins : BeginsWith orders (initial_memory us m limits.area) (image_of us limits).words
  begins = begins-with (image_of us limits).words words-are

  -- ---- the whole

  pub loaded : (s : State) → All (λ b. b < 256) input → IsStart (image_of us limits).code (image_of us limits).words s → IsLoaded us m limits input s
  loaded s bytes start = record {
    room = 32000;
    well_formed = given.well_formed us m limits some built agree;
    built = given.built us built;
    suits = suits;
    codable = given.codable us m limits 32000 built coded agree suits in_limits.0 (calls-by us limits some suits.has_room) (let l : 32000 ≤ 32000 = omega arith in l);
    image = (image_of us limits).code;
    words = (image_of us limits).words;
    is_image = is_image;
    begins = begins;
    starts = start;
    bytes = bytes;
  }
