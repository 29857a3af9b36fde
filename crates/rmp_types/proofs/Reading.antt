-- A point in time that is read: its head, and its payload.
use Rattle.std.proofs.Common.{◌≡◌, ◌∙◌, sym, ap, refl, subst, inl, inr, arith, ℕ, ℤ, zero, List, [], ◌++◌, length, Ok, Err, false}
use Rattle.std.specs.Prelude.{negsuc}
use Rattle.rmp_wire.specs.Msg.{Msg, nil, truth, whole, float32, float64, text, bin, list, map, extension}
use Rattle.rmp_wire.specs.Spelling.{head_of}
use Rattle.rmp_wire.specs.declared.head.Head.{Head}
use Rattle.rmp_wire.specs.declared.head.Head.TheVariants.{Ext}
use Rattle.rmp_wire.specs.declared.marker.Marker.{Marker}
use Rattle.rmp_wire.specs.declared.source.Source.{Ghosts}
use Rattle.rmp_decode.specs.Anys.{TakesContent, FailsContent}
use Rattle.rmp_decode.specs.BufferedHeads.{ConsumesHead}
use Rattle.rmp_decode.specs.Content.{RefusesContent}
use Rattle.rmp_decode.specs.Law.{Lawful, Readable, ReadsHead}
use Rattle.rmp_decode.specs.State.{left, failed_of, faults_of, Stays}
use Rattle.rmp_decode.specs.declared.deserializer.Deserializer.{Deserializer}
use Rattle.rmp_decode.specs.declared.error.Error.{Error}
use Rattle.rmp_decode.proofs.ContentErrors.{content_error, content_none, content_other, piece_ended, piece_whole}
use Rattle.rmp_decode.proofs.Contents.{content_read, content_short, ext_content}
use Rattle.rmp_decode.proofs.Exactness.{none_told}
use Rattle.rmp_decode.proofs.Laws.{lawful_refuse, refused_head, refused_none}
use Rattle.rmp_types.specs.Payloads.{IsTimeLen, Says}
use Rattle.rmp_types.specs.Timestamps.{IsTime, IsTimeHead, IsTimestamp, SaysTooMany, not_time, time_tag, too_many}
use Rattle.rmp_types.specs.declared.timestamp.Timestamp.{Timestamp}
use Rattle.rmp_types.specs.Says.{says_once}

-- what is read as a point in time
abbrev pub reads_time : Msg → Timestamp → Type 0
reads_time m t = IsTimestamp m t.seconds t.nanoseconds

payload_is : (p q : List ℕ) → extension time_tag p ≡ extension time_tag q → p ≡ q
payload_is p q e = cc

-- a payload that says something has one of the lengths
len_of : (p : List ℕ) (z : ℤ) (k : ℕ) → Says p z k → IsTimeLen (length p)
len_of p z k (inl a) = inl a.long
len_of p z k (inr (inl a)) = inr (inl a.long)
len_of p z k (inr (inr a)) = inr (inr a.long)

head_of_time : (m : Msg) (t : Timestamp) → reads_time m t → IsTimeHead (head_of m)
head_of_time m t r = subst (λ y. IsTimeHead (head_of y)) (sym r.is) (refl, len_of r.payload t.seconds t.nanoseconds r.time.0)

-- a message of another head is none
no_time_head : (h : Head) → (IsTimeHead h → ⊥) → (m : Msg) → Readable reads_time m → head_of m ≡ h → ⊥
no_time_head h f m r q = f (subst IsTimeHead q (head_of_time m r.0 r.1))

-- one of too many nanoseconds is none
no_time : (p : List ℕ) → SaysTooMany p → (m : Msg) → m ≡ extension time_tag p → Readable reads_time m → ⊥
no_time p s m e t =
    let same : p ≡ t.1.payload = payload_is p t.1.payload (sym e ∙ t.1.is) in
    let says : Says p t.0.seconds t.0.nanoseconds = subst (λ q. Says q t.0.seconds t.0.nanoseconds) (sym same) t.1.time.0 in
    let once = says_once p s.seconds t.0.seconds s.nanoseconds t.0.nanoseconds s.says says in
    omega (arith, s.above, t.1.time.1, once.1)

abbrev payload_read : Msg → List ℕ → Type 0
payload_read m p = m ≡ extension time_tag p

module _ {R C : Type 0} (g : Ghosts R) (old at : Deserializer R C) where
  abbrev begun : Deserializer R C
  begun = failed_of at

  -- ---- no head, or another one

  pub unread : (e : Error) → ReadsHead g old at (Err e) → Lawful g reads_time old at (Err e)
  unread e h = refused_none g reads_time old at e h

  pub unread_refuses : (e : Error) → old.failed ≡ false → ReadsHead g old at (Err e)
      → RefusesContent old.strict IsTimeHead not_time too_many (faults_of g old) (faults_of g at) (left g old) e
  unread_refuses e o h = content_none old.strict IsTimeHead not_time too_many (faults_of g old) (faults_of g at) (left g old) e (h.ends o)

  module _ (h : Head) (c : ConsumesHead g h old begun) where
    pub other_head : (new : Deserializer R C) (e : Error) → (IsTimeHead h → ⊥) → new ≡ begun → Lawful g reads_time old new (Err e)
    other_head new e f q = rw q (refused_head g reads_time old begun (c.marker, h) e c.begun (no_time_head h f))

    pub other_refuses : (new : Deserializer R C) (e : Error) → (IsTimeHead h → ⊥) → ((m : Marker) → e ≡ not_time m h) → new ≡ begun
        → RefusesContent old.strict IsTimeHead not_time too_many (faults_of g old) (faults_of g new) (left g old) e
    other_refuses new e f is q = rw q (content_other old.strict IsTimeHead not_time too_many (faults_of g old) (faults_of g begun) (left g old) c.marker h e
        c.begun.sound c.begun.marked f (is c.marker))

  pub wanted : (h : Head) (len : ℕ) → h ≡ Ext len time_tag → ConsumesHead g h old begun → ConsumesHead g (Ext len time_tag) old begun
  wanted h len q c = subst (λ y. ConsumesHead g y old begun) q c

  -- ---- its payload

  module _ (len : ℕ) (w : IsTimeLen len) (c : ConsumesHead g (Ext len time_tag) old begun) (new : Deserializer R C) where
    again : Stays g at new → Stays g begun new
    again s = record { config = s.config; room = s.room; limit = s.limit; strict = s.strict; place = s.place }

    taken : {V : Type 0} (reads : Msg → V → Type 0) (s : List ℕ) (v : V) → TakesContent g len at new s → reads (extension time_tag s) v
        → Lawful g reads old new (Ok v)
    taken reads s v t r = content_read (ext_content time_tag) g reads old begun new (c.marker, Ext len time_tag) c.begun s len v refl t.long t.are_bytes t.taken
        t.kept t.ready t.sound (again t.stays) r

    pub time_read : (s : List ℕ) (t : Timestamp) → TakesContent g len at new s → IsTime s t.seconds t.nanoseconds → Lawful g reads_time old new (Ok t)
    time_read s t k i = taken reads_time s t k (record { payload = s; is = refl; time = i })

    pub too_many_read : (s : List ℕ) (last : Deserializer R C) (e : Error) → TakesContent g len at new s → SaysTooMany s → last ≡ failed_of new
        → Lawful g reads_time old last (Err e)
    too_many_read s last e k i q = lawful_refuse g payload_read reads_time old new last s e (λ m r. no_time s i m r) q (taken payload_read s s k refl)

    pub too_many_refuses : (s : List ℕ) (last : Deserializer R C) (e : Error) → TakesContent g len at new s → too_many (Ext len time_tag) s e
        → last ≡ failed_of new
        → RefusesContent old.strict IsTimeHead not_time too_many (faults_of g old) (faults_of g last) (left g old) e
    too_many_refuses s last e k f q = rw q (content_error g IsTimeHead not_time too_many old begun (faults_of g (failed_of new)) (c.marker, Ext len time_tag)
        (Ext len time_tag) len e c.begun refl refl (refl, w)
        (λ _ _. piece_whole len (too_many (Ext len time_tag)) (g.ahead at.reader) (g.ahead new.reader) s e k.taken k.long f)
        (none_told (faults_of g at) (faults_of g new) e k.sound))

    pub short_read : (e : Error) → FailsContent g len begun new e → Lawful g reads_time old new (Err e)
    short_read e f = content_short (ext_content time_tag) g reads_time old begun new (c.marker, Ext len time_tag) c.begun len e refl f.err f.failed f.stays

    pub short_refuses : (e : Error) → FailsContent g len begun new e
        → RefusesContent old.strict IsTimeHead not_time too_many (faults_of g old) (faults_of g new) (left g old) e
    short_refuses e f = content_error g IsTimeHead not_time too_many old begun (faults_of g new) (c.marker, Ext len time_tag) (Ext len time_tag) len e c.begun refl
        refl (refl, w) (piece_ended len (too_many (Ext len time_tag)) (faults_of g at) (faults_of g new) (g.ahead at.reader) e f.err f.exact) f.fault
