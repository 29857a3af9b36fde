use Rattle.std.proofs.Common.{rules, sym, ◌∙◌}
use Rattle.std.proofs.lemmas.List.{length-map}
use Rattle.rmp_encode.specs.Ser.{settings_of}
use Rattle.rmp_encode.proofs.Packing.{slice_mode, slice_empty, slice_plain_by, slice_packed, some_mapped}
use Rattle.rmp_encode.proofs.serializer.Serializer.packs_slice.Goals as goal

pub returns-then-not-forces_slices-clause-listed : goal.returns-then-not-forces_slices-clause-listed
returns-then-not-forces_slices-clause-listed g c = λ _. slice_mode (settings_of c.args.self.now) _ (sym c.forces_slices.ensures ∙ search rules)

pub returns-then-is_empty-clause-listed : goal.returns-then-is_empty-clause-listed
returns-then-is_empty-clause-listed g c = λ _. slice_empty (settings_of c.args.self.now) _ (length-map _ _ ∙ search rules)

pub returns-clause-packed : goal.returns-clause-packed
returns-clause-packed g c = λ e. slice_packed (settings_of c.args.self.now) _ (rw c.is_human_readable.ensures at (c.are_bytes.ensures.bytes e))
    (sym c.forces_slices.ensures ∙ search rules) (some_mapped _ c.args.values.now (search rules))

pub returns-clause-listed : goal.returns-clause-listed
returns-clause-listed g c = λ e.
    let o = rw c.is_human_readable.ensures at (c.are_bytes.ensures.none e) in
    slice_plain_by (settings_of c.args.self.now) _ o.front o.d o.rest o.split o.isnt
