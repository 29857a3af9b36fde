-- The text that a key is.
use Rattle.std.specs.Prelude.{ℕ, List}
use Rattle.rmp_serde.specs.Found.{unescaped}
use Rattle.rmp_serde.specs.declared.value.reference.key.Key.{Key}
use Rattle.rmp_serde.specs.declared.value.reference.key.Key.TheVariants as keys

abbrev pub key_text : Key → List ℕ
key_text (keys.Text s) = s.now
key_text (keys.Token t) = unescaped t.now
