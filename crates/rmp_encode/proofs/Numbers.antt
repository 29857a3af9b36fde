-- Numbers written one after the other.
use Rattle.std.proofs.Common.{◌≡◌, ℕ, ◌+◌, ◌<◌, ◌≤◌, List, [], ◌∷◌, ◌++◌, length, map, take, drop, get_or, refl, sym, ◌∙◌, ap, subst, append_assoc}
use Rattle.std.specs.Prelude.{Result, Ok, Err}
use Rattle.std.specs.List.{flat_map}
use Rattle.std.proofs.lemmas.List.{flat_map_more, map-append, take_all, take_more, drop_more, take-append-drop}
use Rattle.std.proofs.lemmas.Grind.{flat_map-append}
use Rattle.rmp_wire.specs.declared.sink.Sink.{Ghosts}
use Rattle.rmp_wire.specs.declared.error.ValueWriteError.TheVariants as wire
use Rattle.rmp_encode.specs.declared.error.Error.{Error}
use Rattle.rmp_encode.specs.declared.error.Error.TheVariants as errors
use Rattle.std.proofs.KnownBytes.{Appends-nil}
use Rattle.rmp_encode.specs.declared.serializer.Serializer.{Serializer}
use Rattle.rmp_encode.specs.Going.{done}
use Rattle.rmp_encode.specs.Promises.{WritesHead, WritesItems}
use Rattle.rmp_encode.specs.Ser.{sink_of}
use Rattle.rmp_encode.specs.Writes.{FirstAtMarker, NoneAtMarker}
use Rattle.rmp_encode.proofs.Markers.{nothing_written}
use Rattle.rmp_encode.proofs.Parts.{part_done}
use Rattle.rmp_encode.proofs.Promises.{items_stop, items_then, one_item}

-- all of them, around one
around : (f : ℕ → List ℕ) (bs : List ℕ) (i d : ℕ) → i < length bs
    → (flat_map f (take i bs) ++ f (get_or bs i d)) ++ flat_map f (drop (i + 1) bs) ≡ flat_map f bs
around f bs i d lt =
    append_assoc (flat_map f (take i bs)) (f (get_or bs i d)) (flat_map f (drop (i + 1) bs))
    ∙ sym (flat_map-append f (take i bs) (get_or bs i d ∷ drop (i + 1) bs))
    ∙ ap (λ l. flat_map f (take i bs ++ l)) (sym (drop_more bs i d lt))
    ∙ ap (flat_map f) (take-append-drop i bs)

-- the items around the one that failed
items_around : (f : ℕ → List ℕ) (bs : List ℕ) (i d : ℕ) → i < length bs
    → map f bs ≡ map f (take i bs) ++ f (get_or bs i d) ∷ map f (drop (i + 1) bs)
items_around f bs i d lt = sym (sym (map-append f (take i bs) (get_or bs i d ∷ drop (i + 1) bs))
    ∙ ap (λ l. map f (take i bs ++ l)) (sym (drop_more bs i d lt)) ∙ ap (map f) (take-append-drop i bs))

module _ {W : Type 0} (g : Ghosts W) where
  -- the first item failed
  pub marker_first : (item : List ℕ) (items : List (List ℕ)) (old new : W) (r : Result (Unit {0}) Error) → NoneAtMarker g old new r
      → FirstAtMarker g (item ∷ items) old new r
  marker_first item items old new (Ok u) none = tt
  marker_first item items old new (Err (errors.InvalidValueWrite (wire.InvalidMarkerWrite fault))) none =
      record { front = []; next = item; rest = items; split = refl; appended = none }
  marker_first item items old new (Err (errors.InvalidValueWrite (wire.InvalidDataWrite fault))) none = tt
  marker_first item items old new (Err (errors.InvalidValueWrite wire.OutOfMemory)) none = tt
  marker_first item items old new (Err errors.UnknownLength) none = tt
  marker_first item items old new (Err (errors.InvalidDataModel t)) none = tt
  marker_first item items old new (Err errors.DepthLimitExceeded) none = tt
  marker_first item items old new (Err (errors.Syntax t)) none = tt
  marker_first item items old new (Err errors.OutOfMemory) none = tt

module _ {W C : Type 0} (g : Ghosts W) (f : ℕ → List ℕ) where
  -- nothing was written yet
  pub numbers_none : (old : Serializer W C) → WritesItems g [] [] old old done
  numbers_none old = record {
    writes = part_done g g.takes_memory (Unit {0}) [] (sink_of old) (sink_of old) tt tt (Appends-nil (g.told (sink_of old))) refl;
    order = nothing_written g (sink_of old) tt;
    error = tt;
    keeps = record { settings = refl; place = refl };
  }

  -- one more was written
  pub numbers_more : (bs : List ℕ) (i d : ℕ) {old mid new : Serializer W C} {u v : Unit {0}} → i < length bs
      → WritesItems g (map f (take i bs)) (flat_map f (take i bs)) old mid (Ok u) → WritesHead g (f (get_or bs i d)) mid new (Ok v)
      → WritesItems g (map f (take (i + 1) bs)) (flat_map f (take (i + 1) bs)) old new (Ok v)
  numbers_more bs i d {old} {mid} {new} {u} {v} lt p h =
      subst (λ l. WritesItems g (map f l) (flat_map f l) old new (Ok v)) (sym (take_more bs i d lt))
      (subst (λ l. WritesItems g l (flat_map f (take i bs ++ get_or bs i d ∷ [])) old new (Ok v)) (sym (map-append f (take i bs) (get_or bs i d ∷ [])))
      (subst (λ l. WritesItems g (map f (take i bs) ++ f (get_or bs i d) ∷ []) l old new (Ok v)) (flat_map_more f [] (take i bs) (get_or bs i d))
      (items_then g (Ok v) p (one_item g (Ok v) h))))

  -- one failed
  pub numbers_stop : (bs : List ℕ) (i d : ℕ) {old mid new : Serializer W C} {u : Unit {0}} {e : Error} → i < length bs
      → WritesItems g (map f (take i bs)) (flat_map f (take i bs)) old mid (Ok u) → WritesHead g (f (get_or bs i d)) mid new (Err e)
      → WritesItems g (map f bs) (flat_map f bs) old new (Err e)
  numbers_stop bs i d {old} {mid} {new} {u} {e} lt p h =
      let rest = drop (i + 1) bs in
      subst (λ l. WritesItems g l (flat_map f bs) old new (Err e))
      (append_assoc (map f (take i bs)) (f (get_or bs i d) ∷ []) (map f rest) ∙ sym (items_around f bs i d lt))
      (subst (λ l. WritesItems g ((map f (take i bs) ++ f (get_or bs i d) ∷ []) ++ map f rest) l old new (Err e)) (around f bs i d lt)
      (items_stop g (map f rest) (flat_map f rest) (items_then g (Err e) p (one_item g (Err e) h))))

  -- all were written
  pub numbers_all : (bs : List ℕ) (i : ℕ) {old new : Serializer W C} {r : Result (Unit {0}) Error} → length bs ≤ i
      → WritesItems g (map f (take i bs)) (flat_map f (take i bs)) old new r → WritesItems g (map f bs) (flat_map f bs) old new r
  numbers_all bs i {old} {new} {r} le h = subst (λ l. WritesItems g (map f l) (flat_map f l) old new r) (take_all i bs le) h
