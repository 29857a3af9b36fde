-- A double that is read: a head alone.
use Rattle.std.proofs.Common.{◌≡◌, ◌∙◌, sym, ap, refl, subst, ℕ, List, Ok, Err, false}
use Rattle.std.specs.Prelude.{◌≢◌}
use Rattle.rmp_wire.specs.Canonical.{heads_of, SpellsAs}
use Rattle.rmp_wire.specs.Msg.{Msg, nil, truth, whole, float32, float64, text, bin, list, map, extension}
use Rattle.rmp_wire.specs.Spelling.{head_of}
use Rattle.rmp_wire.specs.declared.head.Head.{Head}
use Rattle.rmp_wire.specs.declared.head.Head.TheVariants.{Nil, Truth, Whole, F32Bits, F64Bits, Text, Bin, Array, Map, Ext}
use Rattle.rmp_wire.specs.declared.marker.Marker.{Marker}
use Rattle.rmp_wire.specs.declared.source.Source.{Ghosts}
use Rattle.rmp_decode.specs.BufferedHeads.{ConsumesHead}
use Rattle.rmp_decode.specs.Exact.{RefusesExactly}
use Rattle.rmp_decode.specs.Law.{Lawful, Readable, ReadsHead}
use Rattle.rmp_decode.specs.State.{left, failed_of, faults_of}
use Rattle.rmp_decode.specs.declared.deserializer.Deserializer.{Deserializer}
use Rattle.rmp_decode.specs.declared.error.Error.{Error}
use Rattle.rmp_decode.specs.declared.error.Error.TheVariants.{OutOfMemory, Syntax}
use Rattle.rmp_decode.specs.declared.text.Text.{Text as Why}
use Rattle.rmp_decode.proofs.Exactness.{exact_head, exact_none}
use Rattle.rmp_decode.proofs.Laws.{answered_leaf, refused_head, refused_none}
use Rattle.rmp_types.specs.FloatHeads.{IsFloatHead, NoFloatHead}
use Rattle.rmp_types.specs.Floats.{IsFloat, not_float}
use Rattle.rmp_types.specs.declared.float.Float64.{Float64}

-- what is read as a double
abbrev pub reads_float : Msg → Float64 → Type 0
reads_float m v = IsFloat m v.bits

-- a head that isn't one's is no message's that is read as one
no_float : (h : Head) (e : Error) → NoFloatHead h e → (m : Msg) → Readable reads_float m → head_of m ≡ h → ⊥
no_float h e n nil r q = r.1
no_float h e n (truth t) r q = r.1
no_float h e n (whole z) r q = (subst (λ y. NoFloatHead y e) (sym q) n).0 r.0.bits r.1
no_float h e n (float32 k) r q = subst (λ y. NoFloatHead y e) (sym q) n
no_float h e n (float64 k) r q = subst (λ y. NoFloatHead y e) (sym q) n
no_float h e n (text s) r q = r.1
no_float h e n (bin s) r q = r.1
no_float h e n (list ms) r q = r.1
no_float h e n (map ps) r q = r.1
no_float h e n (extension tag s) r q = r.1

-- its error
float_error : (m : Marker) (h : Head) (e : Error) → NoFloatHead h e → e ≡ not_float m h
float_error m Nil e n = n
float_error m (Truth t) e n = n
float_error m (Whole z) e n = n.1
float_error m (F32Bits k) e n = absurd n
float_error m (F64Bits k) e n = absurd n
float_error m (Text k) e n = n
float_error m (Bin k) e n = n
float_error m (Array k) e n = n
float_error m (Map k) e n = n
float_error m (Ext k tag) e n = n

syntax_no_memory : (t : Why) (e : Error) → e ≡ Syntax t → e ≢ OutOfMemory
syntax_no_memory t e i o = let u : ◌≡◌ {A = Error} (Syntax t) OutOfMemory = sym i ∙ o in absurd (cc)

pub float_memory : (h : Head) (e : Error) → NoFloatHead h e → e ≢ OutOfMemory
float_memory Nil e n = syntax_no_memory _ e n
float_memory (Truth t) e n = syntax_no_memory _ e n
float_memory (Whole z) e n = syntax_no_memory _ e n.1
float_memory (F32Bits k) e n = absurd n
float_memory (F64Bits k) e n = absurd n
float_memory (Text k) e n = syntax_no_memory _ e n
float_memory (Bin k) e n = syntax_no_memory _ e n
float_memory (Array k) e n = syntax_no_memory _ e n
float_memory (Map k) e n = syntax_no_memory _ e n
float_memory (Ext k tag) e n = syntax_no_memory _ e n

module _ {R C : Type 0} (g : Ghosts R) (old at : Deserializer R C) where
  pub unread : (e : Error) → ReadsHead g old at (Err e) → Lawful g reads_float old at (Err e)
  unread e h = refused_none g reads_float old at e h

  pub unread_refuses : (e : Error) → old.failed ≡ false → ReadsHead g old at (Err e)
      → RefusesExactly old.strict not_float (faults_of g old) (faults_of g at) (left g old) e
  unread_refuses e o h = exact_none old.strict not_float (faults_of g old) (faults_of g at) (left g old) e (h.ends o)

  -- the reader after the head, which is ready
  ready_is : at.failed ≡ false → at ≡ record (failed_of at) { failed = false }
  ready_is f = ap (λ y. record at { failed = y }) f

  module _ (h : Head) (c : ConsumesHead g h old (failed_of at)) where
    pub float_refused : (new : Deserializer R C) (e : Error) → NoFloatHead h e → new ≡ failed_of at → Lawful g reads_float old new (Err e)
    float_refused new e n q = rw q (refused_head g reads_float old (failed_of at) (c.marker, h) e c.begun (no_float h e n))

    pub float_refuses : (new : Deserializer R C) (e : Error) → NoFloatHead h e → new ≡ failed_of at
        → RefusesExactly old.strict not_float (faults_of g old) (faults_of g new) (left g old) e
    float_refuses new e n q = rw q (exact_head old.strict not_float (faults_of g old) (faults_of g (failed_of at)) (left g old) c.marker h e c.begun.sound
        c.begun.marked (float_error c.marker h e n))

  pub float_read : (h : Head) (v : Float64) → ConsumesHead g h old (failed_of at) → at.failed ≡ false → IsFloatHead h v.bits
      → Lawful g reads_float old at (Ok v)
  float_read (Whole z) v c f i = answered_leaf g reads_float old (failed_of at) at (c.marker, Whole z) (whole z) v c.begun (ready_is f) (λ b j. j) refl i
  float_read (F32Bits n) v c f i = answered_leaf g reads_float old (failed_of at) at (c.marker, F32Bits n) (float32 n) v c.begun (ready_is f) (λ b j. j) refl i
  float_read (F64Bits n) v c f i = answered_leaf g reads_float old (failed_of at) at (c.marker, F64Bits n) (float64 n) v c.begun (ready_is f) (λ b j. j) refl i
  float_read Nil v c f i = absurd i
  float_read (Truth t) v c f i = absurd i
  float_read (Text n) v c f i = absurd i
  float_read (Bin n) v c f i = absurd i
  float_read (Array n) v c f i = absurd i
  float_read (Map n) v c f i = absurd i
  float_read (Ext n tag) v c f i = absurd i
