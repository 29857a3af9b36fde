use Rattle.rmp_serde.specs.Keys.{key_text}
use Rattle.rmp_serde.specs.Parts.{tree}
use Rattle.rmp_serde.proofs.Lookup.{is_this_key, is_no_key}
use Rattle.rmp_serde.proofs.value.reference.ValueRef.is_key.Goals as goal

pub returns-in-Some : goal.returns-in-Some
returns-in-Some c =
    let text = c.in-Some.ensures.text in
    record { same = is_this_key (tree c.args.self) c.in-Some.name.now (key_text c.args.key) c.is.result text c.is.ensures.same }

pub returns-in-None : goal.returns-in-None
returns-in-None c = record { same = is_no_key (tree c.args.self) (key_text c.args.key) c.in-None.ensures.text }
