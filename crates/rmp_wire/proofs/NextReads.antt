-- What `next_head` leaves: a marker, and then the rest of its head.
use Rattle.std.proofs.Common.{◌≡◌, ◌∙◌, sym, ap, subst, ℕ, List, [], ◌∷◌, ◌++◌, Option, None, Some, Result, Ok, Err, refl, inl}
use Rattle.std.specs.Io.KnownBytes.{Consumes, IsAtEnd}
use Rattle.std.proofs.KnownBytes.{Consumes-trans, Consumes-kept}
use Rattle.rmp_wire.specs.declared.source.Source.{Ghosts}
use Rattle.rmp_wire.specs.declared.error.MarkerReadError.{MarkerReadError}
use Rattle.rmp_wire.specs.declared.error.ValueReadError.{ValueReadError}
use Rattle.rmp_wire.specs.declared.error.ValueReadError.TheVariants.{InvalidMarkerRead, InvalidDataRead, TypeMismatch}
use Rattle.rmp_wire.specs.declared.head.Head.{Head}
use Rattle.rmp_wire.specs.declared.marker.Marker.{Marker}
use Rattle.rmp_wire.specs.declared.marker.Marker.TheVariants.{Reserved}
use Rattle.rmp_wire.specs.Heads.{IsHead}
use Rattle.rmp_wire.specs.Reading.{TakesMarker, TakesHead, IsCut, FailsHead, TakesNext, NoHead, FailsNext, ReadsMarker, ReadsHead, ReadsNext}
use Rattle.rmp_wire.specs.Sources.{AtMostOne}
use Rattle.rmp_wire.specs.Taking.{marker_of, byte_of, take_head}
use Rattle.rmp_wire.proofs.Heads.{take_head_takes}
use Rattle.rmp_wire.proofs.Markers.{byte_of-marker_of}
use Rattle.rmp_wire.specs.Spelling.{IsBytes}
use Rattle.rmp_wire.proofs.Reading.{reserved_opens_none}
use Rattle.rmp_wire.proofs.Taken.{TookHead, take_head_took}

-- a head has a first byte
head_not_empty : (h : Head) → IsHead h [] → ⊥
unfolding take_head
head_not_empty h p = let e : ◌≡◌ {A = Option (Head × List ℕ)} None (Some (h, [])) = take_head_takes h [] [] p in absurd (cc)

none_at_end : (xs : List ℕ) → xs ≡ [] → (h : Head) (x rest : List ℕ) → xs ≡ x ++ rest → IsHead h x → ⊥
none_at_end xs e h [] rest s p = head_not_empty h p
none_at_end xs e h (b ∷ x) rest s p = let u : ◌≡◌ {A = List ℕ} [] (b ∷ (x ++ rest)) = sym e ∙ s in absurd (cc)

-- nothing begins with a head
pub no_head_at_end : (ahead : Option (List ℕ)) → IsAtEnd ahead → NoHead ahead
no_head_at_end None e = tt
no_head_at_end (Some xs) e = none_at_end xs e

none_after : (m : Marker) (xs ys : List ℕ) → xs ≡ byte_of m ∷ ys → IsCut m (Some ys) → (h : Head) (x rest : List ℕ) → xs ≡ x ++ rest → IsHead h x → ⊥
none_after m xs ys c q h [] rest s p = head_not_empty h p
none_after m xs ys c q h (b ∷ x) rest s p =
    let u : byte_of m ∷ ys ≡ b ∷ (x ++ rest) = sym c ∙ s in
    let first : b ≡ byte_of m = cc in
    let following : ys ≡ x ++ rest = cc in
    q h x rest following (subst (λ t. IsHead h (t ∷ x)) first p)

-- the marker's byte remained, and then bytes that complete no head of it
no_head_cut : (m : Marker) (old mid : Option (List ℕ)) → Consumes old mid (byte_of m ∷ []) → IsCut m mid → NoHead old
no_head_cut m None mid c q = tt
no_head_cut m (Some xs) None c q = absurd c
no_head_cut m (Some xs) (Some ys) c q = none_after m xs ys c q

reserved_cut : (ahead : Option (List ℕ)) → IsCut Reserved ahead
reserved_cut None = tt
reserved_cut (Some ys) = λ h x rest s p. reserved_opens_none h x p

-- ---- a marker, and then its head

marker_byte : (m : Marker) (old mid : Option (List ℕ)) (t : TakesMarker m old mid) → byte_of m ≡ t.byte
marker_byte m old mid t = ap byte_of t.is_marker ∙ byte_of-marker_of t.byte t.is_byte

byte_taken : (m : Marker) (old mid : Option (List ℕ)) → TakesMarker m old mid → Consumes old mid (byte_of m ∷ [])
byte_taken m old mid t = subst (λ k. Consumes old mid (k ∷ [])) (sym (marker_byte m old mid t)) t.taken

-- Reading a marker and then its head takes exactly one head.
pub takes_next : (m : Marker) (h : Head) (old mid new : Option (List ℕ)) → TakesMarker m old mid → TakesHead m h mid new → TakesNext m h old new
takes_next m h old mid new t u = record {
  rest = u.rest;
  is_head = u.is_head;
  is_marker = ap marker_of (marker_byte m old mid t) ∙ sym t.is_marker;
  taken = Consumes-trans old mid new (byte_of m ∷ []) u.rest (byte_taken m old mid t) u.taken;
}

pub fails_after : (m : Marker) (old mid new : Option (List ℕ)) (before between after : ℕ) (e : ValueReadError) → Consumes old mid (byte_of m ∷ [])
    → between ≡ before
    → (m ≡ Reserved → ◌≡◌ {A = Result Head ValueReadError} (Err e) (Err (TypeMismatch Reserved))) → FailsHead m mid new between after e
    → FailsNext old new before after e
fails_after m old mid new before between after (InvalidMarkerRead f) c same only t = absurd t
fails_after m old mid new before between after (InvalidDataRead f) c same only t = record {
  counts = subst (λ z. AtMostOne z after) same t.counts;
  none = λ q. no_head_cut m old mid c (t.cut (q ∙ sym same));
  leaves = (
    record {
      marker = m;
      opens = λ is. let wrong = only is
          in absurd (cc);
      part = t.part.part;
      short = t.part.short;
      taken = Consumes-trans old mid new (byte_of m ∷ []) t.part.part c t.part.taken;
    },
    λ q. t.end
        (q ∙ sym same),
  );
}
fails_after m old mid new before between after (TypeMismatch k) c same only t = record {
  counts = inl (t.3 ∙ same);
  none = λ q. no_head_cut m old mid c (subst (λ n. IsCut n mid) (sym t.0) (reserved_cut mid));
  leaves = (t.1, subst (λ n. Consumes old new (byte_of n ∷ [])) t.0 (Consumes-kept old mid new (byte_of m ∷ []) c t.2), t.3 ∙ same);
}

module _ {S : Type 0} (g : Ghosts S) where
  pub reads_next : (m : Marker) (h : Head) (old mid new : S) → ReadsMarker g old mid (Ok m) → ReadsHead g m mid new (Ok h) → ReadsNext g old new (Ok (m, h))
  reads_next m h old mid new t u = record {
    ok = takes_next m h (g.ahead old) (g.ahead mid) (g.ahead new) t.ok u.ok;
    sound = u.sound
        ∙ t.sound;
    err = tt;
    place = u.place ∙ t.place;
  }

  pub fails_at_marker : (e : MarkerReadError) (r : Result (Marker × Head) ValueReadError) (old new : S) → r ≡ Err (InvalidMarkerRead e.0)
      → ReadsMarker g old new (Err e) → ReadsNext g old new r
  fails_at_marker e r old new was t =
      subst (ReadsNext g old new) (sym was) (record {
        ok = tt;
        sound = tt;
        err = record { counts = t.err.counts; none = λ q. no_head_at_end (g.ahead old) (t.err.none_ahead q); leaves = t.err };
        place = t.place;
      })

  pub fails_at_head : (m : Marker) (e : ValueReadError) (r : Result (Marker × Head) ValueReadError) (old mid new : S) → r ≡ Err e
      → ReadsMarker g old mid (Ok m) → ReadsHead g m mid new (Err e) → ReadsNext g old new r
  fails_at_head m e r old mid new was t u =
      subst (ReadsNext g old new) (sym was)
      (record {
        ok = tt;
        sound = tt;
        err = fails_after m _ (g.ahead mid) _ _ (g.faults mid) _ e (byte_taken m (g.ahead old) (g.ahead mid) t.ok) t.sound
            u.reserved u.err;
        place = u.place ∙ t.place;
      })

-- ---- the same by the functions that take a head

none_taken : (xs : List ℕ) (r : Option (Head × List ℕ)) → take_head xs ≡ r → IsBytes xs → NoHead (Some xs) → r ≡ None
none_taken xs None e bs q = refl
none_taken xs (Some p) e bs q = let t : TookHead p.0 xs p.1 = take_head_took xs p.0 p.1 bs e in absurd (q p.0 t.head p.1 t.split t.is_head)
