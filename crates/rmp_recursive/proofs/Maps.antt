-- What the readings of recursive types share that hold themselves in maps: a key and a value, by functions, and the map.
use Rattle.std.proofs.Common.{◌≡◌, ap, arith, ◌<◌, ◌≤◌, max, true, Option, None, Some, Result, Ok, Err, MatchResult, MutBor}
use Rattle.std.specs.Fn.{FnOnceReturnsAtMut}
use Rattle.rmp_wire.specs.declared.source.Source.{Ghosts}
use Rattle.rmp_wire.specs.Msg.{Msg, Msgs}
use Rattle.rmp_decode.specs.Law.{Lawful}
use Rattle.rmp_decode.specs.Maps.{OpensMap, TakesKey, TakesValue, map_inner, to_come}
use Rattle.rmp_decode.specs.Parts.{FailsPart}
use Rattle.rmp_decode.specs.With.{Reading, part_reader, KeyRead, ValueRead}
use Rattle.rmp_decode.specs.declared.deserializer.Deserializer.{Deserializer}
use Rattle.rmp_decode.specs.declared.access.map.MapAccess.{MapAccess}
use Rattle.rmp_decode.specs.declared.error.Error.{Error}
use Rattle.rmp_decode.proofs.Maps.{MapRun}
use Rattle.rmp_decode.proofs.MapWiths.{key_taken, key_fails, value_taken, value_fails}
use Rattle.rmp_recursive.proofs.Parts.{lent_law}

no_part : {X : Type 0} (given : Result X Error) → MatchResult given (λ x. ◌≡◌ {A = Result (Option X) Error} (Ok None) (Ok (Some x)))
    (λ e. ◌≡◌ {A = Result (Option X) Error} (Ok None) (Err e)) → ⊥
no_part (Ok x) m = cc
no_part (Err e) m = cc

-- a key, or a value, that a function read
module _ {F R C X : Type 0} (g : Ghosts R) (reads : Msg → X → Type 0) {once : Reading F R C X} {f : F} (old new : MapAccess R C)
    (law : (p q : MutBor (Deserializer R C)) (r : Result X Error) → once.post f (p, tt) (r, (q, tt)) → Lawful g reads p.now q.now r) where
  pub no_key : KeyRead once f old new (Ok None) → ⊥
  no_key k = no_part k.given k.answers

  given : (rest : Deserializer R C) (gave : Result X Error) → FnOnceReturnsAtMut once f (part_reader old.de.now old.inner) gave rest
      → Lawful g reads (part_reader old.de.now old.inner) rest gave
  given rest gave c = lent_law g once f reads law (part_reader old.de.now old.inner) rest gave c

  pub key_got : (k : X) → KeyRead once f old new (Ok (Some k)) → new.sound ≡ true → TakesKey g reads old new k
  key_got k r s = key_taken g once f reads old new given k r s

  pub key_refused : (e : Error) → KeyRead once f old new (Err e) → FailsPart g reads (map_inner old) old.de.now new.de.now e
  key_refused e r = key_fails g once f reads old new given e r

  pub value_got : (v : X) → ValueRead once f old new (Ok v) → new.sound ≡ true → TakesValue g reads old new v
  value_got v r s = value_taken g once f reads old new given v r s

  pub value_refused : (e : Error) → ValueRead once f old new (Err e) → FailsPart g reads (map_inner old) old.de.now new.de.now e
  value_refused e r = value_fails g once f reads old new given e r

pub owing : {R C : Type 0} (a : MapAccess R C) → a.owes ≡ true → 0 < to_come a
owing a e = rw e (omega arith)

pub to_come_some : {R C : Type 0} (a : MapAccess R C) → 0 < a.left → 0 < to_come a
to_come_some a l = omega (arith, l)

-- a value nests below its map
pub value_room : {R C : Type 0} (g : Ghosts R) (old : Deserializer R C) (start mid : MapAccess R C) (ms : Msgs) → OpensMap g old start
    → MapRun g start mid ms → max 1 mid.inner ≤ max 1 old.room
value_room g old start mid ms o r = omega (arith, o.room, ap (max 1) r.inner)
