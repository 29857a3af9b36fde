-- What a cache returns.
use Rattle.std.specs.Prelude.{Option}
use Rattle.std.specs.BTreeMap.{get_by}
use Rattle.std.specs.Cmp.Lexicographic.{slice_cmp}
use Rattle.std.specs.Ordering.{nat_cmp}
use Rattle.rmp_wire.specs.Msg.{Msg}
use Rattle.rmp_wire.specs.Spelling.{canon}
use Rattle.rmp_encode.specs.Calls.{default_settings}
use Rattle.rmp_encode.specs.Data.{Data}
use Rattle.rmp_encode.specs.Trees.{tree_of}
use Rattle.example_cache.specs.declared.cache.Cache.{Cache}

-- the message of a question, from what its type says that it is
abbrev pub question_of : Option Data → Option Msg
question_of d = tree_of default_settings d

-- what is stored under the canonical spelling of a message
abbrev pub answer_to : {A : Type 0} → Cache A → Msg → Option A
answer_to c m = get_by (λ key. slice_cmp nat_cmp (canon m) key.items) c.answers
