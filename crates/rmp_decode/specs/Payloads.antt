-- Messages with a payload: all that a read of one promises, and all that a read of the payload alone does.
use Rattle.std.specs.Prelude.{◌≡◌, ◌≢◌, ℕ, Bool, true, false, List, ◌++◌, length, Option, IfSome, Result, Ok, IfOk, IfErr, OnOk, Vec, String}
use Rattle.std.specs.Borrow.{Bor}
use Rattle.std.specs.Io.KnownBytes.{Consumes}
use Rattle.std.specs.String.{string_bytes}
use Rattle.std.specs.declared.alloc.Global.{Global}
use Rattle.rmp_wire.specs.declared.head.Head.{Head}
use Rattle.rmp_wire.specs.declared.head.Head.TheVariants as head
use Rattle.rmp_wire.specs.declared.marker.Marker.{Marker}
use Rattle.rmp_wire.specs.declared.source.Source.{Ghosts}
use Rattle.rmp_wire.specs.declared.types.Ext.{Ext}
use Rattle.rmp_wire.specs.Msg.{Msg, nil, text, bin, extension}
use Rattle.rmp_wire.specs.Spelling.{IsBytes}
use Rattle.rmp_decode.specs.Consumed.{PieceLeaves, RefusalLeaves}
use Rattle.rmp_decode.specs.Content.{RefusesLeaf, IsRawHead, IsTextHead, IsExtHead, not_raw, not_ext, never_refused, not_char, not_string, not_bytes, not_str}
use Rattle.rmp_decode.specs.Exact.{TellsFault}
use Rattle.rmp_decode.specs.Kinds.{content_len, raw_msg}
use Rattle.rmp_decode.specs.Law.{Explains, Lawful, Readable, ReadsHead}
use Rattle.rmp_decode.specs.Names.{IsName, IsNameHead}
use Rattle.rmp_decode.specs.Pieces.{RefusesPiece}
use Rattle.rmp_decode.specs.Read.{IsChar, IsExt, IsRaw, IsString}
use Rattle.rmp_decode.specs.declared.deserializer.Deserializer.{Deserializer}
use Rattle.rmp_decode.specs.declared.error.Error.{Error}
use Rattle.rmp_decode.specs.declared.error.Error.TheVariants.{OutOfMemory}

-- A kind of message: what is read of one, which heads are wanted, of which of them a payload is consumed, how another head is refused, how a whole
-- payload is, and whether memory can't run out.
pub record Kind (V : Type 0) : Type 1 where
  pub reads : Msg → V → Type 0
  pub wanted : Head → Type 0
  pub payload : Head → Type 0
  pub other : Marker → Head → Error
  pub refused : Head → List ℕ → Error → Type 0
  pub lends : Bool

-- All that a read of a message promises: its value or a refusal, which error comes, what is left after one, and that memory can't run out.
pub record ReadsMessage {R C V : Type 0} (g : Ghosts R) (k : Kind V) (old new : Deserializer R C) (result : Result V Error) : Type 0 where
  pub law : Lawful g k.reads old new result
  pub exact : RefusesLeaf g k.wanted k.other k.refused old new result
  pub taken : RefusalLeaves g k.payload old new result
  pub memory : k.lends ≡ true → IfErr result (λ e. e ≢ OutOfMemory)

-- the same of the rest of a read, whose beginning took this head
abbrev pub ReadsRest : {R C V : Type 0} → Ghosts R → Kind V → Head → Deserializer R C → Deserializer R C → Result V Error → Type 0
ReadsRest {R} {C} g k h mid new result = (old : Deserializer R C) (m : Marker) → ReadsHead g old mid (Ok (m, h)) → ReadsMessage g k old new result

-- ---- the payload alone

-- a payload follows the head
abbrev pub HasPayload : Head → Type 0
HasPayload (head.Text n) = Unit {0}
HasPayload (head.Bin n) = Unit {0}
HasPayload (head.Ext n tag) = Unit {0}
HasPayload h = ⊥

-- the message that a head and its payload are
abbrev pub message : Head → List ℕ → Msg
message (head.Text n) s = text s
message (head.Bin n) s = bin s
message (head.Ext n tag) s = extension tag s
message h s = nil

-- the whole payload was consumed, and the message is read as v
pub record ReadsPayload {V : Type 0} (reads : Msg → V → Type 0) (h : Head) (old new : Option (List ℕ)) (v : V) : Type 0 where
  pub bytes : List ℕ
  pub long : length bytes ≡ content_len h
  pub small : IsBytes bytes
  pub taken : Consumes old new bytes
  pub value : reads (message h bytes) v

-- no payload is there whose message is read
abbrev pub NoPayload : {V : Type 0} → (Msg → V → Type 0) → Head → List ℕ → Type 0
NoPayload reads h ys = (s r : List ℕ) → ys ≡ s ++ r → length s ≡ content_len h → Readable reads (message h s) → ⊥

-- All that a read of the payload after a head does.
pub record TakesPayload {R V : Type 0} (g : Ghosts R) (k : Kind V) (h : Head) (old new : R) (result : Result V Error) : Type 0 where
  pub ok : IfOk result (ReadsPayload k.reads h (g.ahead old) (g.ahead new))
  pub sound : OnOk result (g.faults new ≡ g.faults old)
  pub err : IfErr result (λ e. Explains e (g.faults old) (g.faults new) (IfSome (g.ahead old) (NoPayload k.reads h)))
  pub exact : IfErr result (λ e. Explains e (g.faults old) (g.faults new) (RefusesPiece (content_len h) (k.refused h) (g.ahead old) e))
  pub taken : IfErr result (PieceLeaves (content_len h) (g.ahead old) (g.ahead new) (g.faults old) (g.faults new))
  pub fault : IfErr result (TellsFault (g.faults old) (g.faults new))
  pub memory : k.lends ≡ true → IfErr result (λ e. e ≢ OutOfMemory)
  pub place : g.place new ≡ g.place old

-- ---- the kinds

-- a text or bytes, whatever they are, by whether they are a text
abbrev pub a_raw : Kind (Bool × Vec ℕ Global)
a_raw = record {
  reads = λ m p. m ≡ raw_msg p.0 p.1.items;
  wanted = IsRawHead;
  payload = IsRawHead;
  other = not_raw;
  refused = never_refused;
  lends = false;
}

-- a text or bytes that the source lends
abbrev pub some_bytes : Bool → Kind (Bor (List ℕ))
some_bytes lends = record {
  reads = λ m s. (lends ≡ true) × IsRaw m s.now;
  wanted = IsRawHead;
  payload = IsRawHead;
  other = not_raw;
  refused = not_bytes lends;
  lends = lends;
}

-- the same of UTF-8
abbrev pub a_str : Bool → Kind (Bor (List ℕ))
a_str lends = record {
  reads = λ m s. (lends ≡ true) × IsString m s.now;
  wanted = IsRawHead;
  payload = IsRawHead;
  other = not_raw;
  refused = not_str lends;
  lends = lends;
}

-- a text or bytes of UTF-8, copied
abbrev pub a_string : Kind (String Global)
a_string = record {
  reads = λ m s. IsRaw m (string_bytes s);
  wanted = IsRawHead;
  payload = IsRawHead;
  other = not_raw;
  refused = not_string;
  lends = false;
}

-- a text of one character
abbrev pub a_char : Bool → Kind ℕ
a_char lends = record { reads = IsChar; wanted = IsTextHead; payload = IsTextHead; other = not_raw; refused = not_char; lends = lends }

-- an extension
abbrev pub an_ext : Kind Ext
an_ext = record { reads = IsExt; wanted = IsExtHead; payload = IsExtHead; other = not_ext; refused = never_refused; lends = false }

-- the name of a field, or its place
abbrev pub a_name : List (List ℕ) → Bool → Kind (Option ℕ)
a_name names lends = record {
  reads = IsName names;
  wanted = IsNameHead;
  payload = IsRawHead;
  other = not_raw;
  refused = never_refused;
  lends = lends;
}
