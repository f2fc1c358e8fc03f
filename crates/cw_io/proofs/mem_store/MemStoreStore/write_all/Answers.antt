use Rattle.std.proofs.Common.{◌≡◌, ◌<◌, ◌++◌, length, ap, rules, arith, Some}
use Rattle.cw_io.specs.Written.{given_file}
use Rattle.cw_io.specs.StoreInMemory.{slots_of}
use Rattle.cw_io.proofs.Written.{same_file, other_file, stand}
use Rattle.cw_io.proofs.mem_store.MemStoreStore.write_all.Goals as goal

pub invariant_of-self-2-clause-places_within : goal.invariant_of-self-2-clause-places_within
invariant_of-self-2-clause-places_within c =
    let slot : 0 < slots_of c.args.self.now = search rules in
    omega (arith, slot)

pub invariant_of-self-2-clause-stand : goal.invariant_of-self-2-clause-stand
invariant_of-self-2-clause-stand c =
    let s = c.args.self.now in
    let at : c.len-name_at.result ≡ length s.text.items = search rules in
    let grown : c.append.new.text.items ≡ (s.text.items ++ c.args.name.now) ++ c.args.bytes.now = rw c.as_bytes.ensures.value at c.append.ensures.text in
    stand s.places.items _ s.text.items _ c.args.name.now c.args.bytes.now _ at c.add_place.ensures.places grown s.stand

pub returns-clause-whole : goal.returns-clause-whole
returns-clause-whole c =
    let s = c.args.self.now in
    let at : c.len-name_at.result ≡ length s.text.items = search rules in
    let grown : c.append.new.text.items ≡ (s.text.items ++ c.args.name.now) ++ c.args.bytes.now = rw c.as_bytes.ensures.value at c.append.ensures.text in
    same_file s.places.items _ s.text.items _ c.args.name.now c.args.bytes.now _ at c.add_place.ensures.places grown (given_file s.files c.args.name.now)

pub returns-clause-stay : goal.returns-clause-stay
returns-clause-stay c = λ other ne.
    let s = c.args.self.now in
    let at : c.len-name_at.result ≡ length s.text.items = search rules in
    let grown : c.append.new.text.items ≡ (s.text.items ++ c.args.name.now) ++ c.args.bytes.now = rw c.as_bytes.ensures.value at c.append.ensures.text in
    ap (λ f. Some f) (other_file s.places.items _ s.text.items _ c.args.name.now c.args.bytes.now _ at c.add_place.ensures.places grown (given_file s.files other) other ne s.stand)
