-- The bytes that are held of a source.
use Rattle.std.specs.Prelude.{◌≡◌, ◌<◌, ℕ, List, [], ◌++◌, length, Option, None, Some, IfSome}
use Rattle.std.specs.Io.KnownBytes.{Consumes}
use Rattle.rmp_wire.specs.declared.source.Source.{Ghosts}
use Rattle.rmp_scan.specs.Scans.{MessageEnds, NoMessage}
use Rattle.canon_lines.specs.declared.show.held.Front.{Front}
use Rattle.canon_lines.specs.declared.show.held.Front.TheVariants.{Message, Nothing, Rest, End}

-- bytes were consumed, and are held after those that were
pub record Pulls {S : Type 0} (g : Ghosts S) (held held' : List ℕ) (old new : S) : Type 0 where
  pub piece : List ℕ
  pub appended : held' ≡ held ++ piece
  pub taken : Consumes (g.ahead old) (g.ahead new) piece
  pub sound : g.faults new ≡ g.faults old

-- where the bytes are told that remained in the source, all of them are held after those that were
abbrev pub HoldsAll : Option (List ℕ) → List ℕ → List ℕ → Type 0
HoldsAll ahead held held' = IfSome ahead (λ rest. held' ≡ held ++ rest)

-- what is at the front of the bytes that are held now
abbrev pub IsFront : Option (List ℕ) → List ℕ → List ℕ → Front → Type 0
IsFront ahead held held' (Message n) = MessageEnds held' n
IsFront ahead held held' Nothing = NoMessage held'
IsFront ahead held held' Rest = HoldsAll ahead held held' × (0 < length held')
IsFront ahead held held' End = HoldsAll ahead held held' × (held' ≡ [])

-- how many of the bytes that are held are looked at, if there are any
abbrev pub front_len : Front → List ℕ → Option ℕ
front_len (Message n) held = Some n
front_len Nothing held = Some (length held)
front_len Rest held = Some (length held)
front_len End held = None
