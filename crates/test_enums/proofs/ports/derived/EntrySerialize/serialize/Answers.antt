use Rattle.test_enums.proofs.ports.derived.EntrySerialize.serialize.Goals as goal

pub returns-in-Harbour-clause-value : goal.returns-in-Harbour-clause-value
returns-in-Harbour-clause-value g c = rw c.in-Harbour.is c.serialize_struct_variant_of.ensures.value

pub returns-in-Harbour-clause-error : goal.returns-in-Harbour-clause-error
returns-in-Harbour-clause-error g c = rw c.in-Harbour.is c.serialize_struct_variant_of.ensures.error

pub returns-in-Queue-clause-value : goal.returns-in-Queue-clause-value
returns-in-Queue-clause-value g c = rw c.in-Queue.is c.serialize_tuple_variant_of.ensures.value

pub returns-in-Queue-clause-error : goal.returns-in-Queue-clause-error
returns-in-Queue-clause-error g c = rw c.in-Queue.is c.serialize_tuple_variant_of.ensures.error

pub returns-in-Convoy-clause-value : goal.returns-in-Convoy-clause-value
returns-in-Convoy-clause-value g c = rw c.in-Convoy.is c.serialize_struct_variant_of-in-Convoy.ensures.value

pub returns-in-Convoy-clause-error : goal.returns-in-Convoy-clause-error
returns-in-Convoy-clause-error g c = rw c.in-Convoy.is c.serialize_struct_variant_of-in-Convoy.ensures.error

pub returns-in-Tally-clause-value : goal.returns-in-Tally-clause-value
returns-in-Tally-clause-value g c = rw c.in-Tally.is c.serialize_tuple_variant_of-in-Tally.ensures.value

pub returns-in-Tally-clause-error : goal.returns-in-Tally-clause-error
returns-in-Tally-clause-error g c = rw c.in-Tally.is c.serialize_tuple_variant_of-in-Tally.ensures.error

pub returns-in-Shift-clause-value : goal.returns-in-Shift-clause-value
returns-in-Shift-clause-value g c = rw c.in-Shift.is c.serialize_tuple_variant_of-in-Shift.ensures.value

pub returns-in-Shift-clause-error : goal.returns-in-Shift-clause-error
returns-in-Shift-clause-error g c = rw c.in-Shift.is c.serialize_tuple_variant_of-in-Shift.ensures.error
