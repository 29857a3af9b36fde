-- What a refused read of a leaf leaves.
use Rattle.std.proofs.Common.{◌≡◌, ◌∙◌, sym, ap, subst, refl, ℕ, arith, Bool, List, [], ◌∷◌, ◌++◌, length, Option, None, Some, Ok}
use Rattle.std.proofs.lemmas.List.{length-append}
use Rattle.std.specs.Io.KnownBytes.{Consumes}
use Rattle.std.specs.Prelude.{IfSome}
use Rattle.rmp_wire.specs.declared.head.Head.{Head}
use Rattle.rmp_wire.specs.declared.marker.Marker.{Marker}
use Rattle.rmp_wire.specs.declared.source.Source.{Ghosts}
use Rattle.rmp_wire.specs.Canonical.{heads_of}
use Rattle.rmp_wire.specs.Sources.{IsShort}
use Rattle.rmp_wire.specs.Taking.{marker_of}
use Rattle.rmp_wire.proofs.Strict.{heads_differ_as}
use Rattle.rmp_decode.specs.Consumed.{LeavesRest, LeavesAfter, LeavesPiece, PieceLeaves}
use Rattle.rmp_decode.specs.Exact.{BeginsWithNone, EndsExactly}
use Rattle.rmp_decode.specs.Kinds.{content_len}
use Rattle.rmp_decode.specs.Law.{Explains, LeavesNone, ReadsHead}
use Rattle.rmp_decode.specs.State.{left, faults_of}
use Rattle.rmp_decode.specs.declared.deserializer.Deserializer.{Deserializer}
use Rattle.rmp_decode.specs.declared.error.Error.{Error}
use Rattle.rmp_decode.specs.declared.error.Error.TheVariants.{OutOfMemory}
use Rattle.rmp_decode.proofs.Contents.{bare}
use Rattle.rmp_decode.proofs.FirstFault.{Front, front_of, starts}

-- ---- a piece

same_rest : (s t x y : List ℕ) → length s ≡ length t → s ++ x ≡ t ++ y → x ≡ y
same_rest [] [] x y l e = e
same_rest [] (b ∷ t) x y l e = absurd (omega arith)
same_rest (a ∷ s) [] x y l e = absurd (omega arith)
same_rest (a ∷ s) (b ∷ t) x y l e =
    let i : length s ≡ length t = omega arith in
    let rest : s ++ x ≡ t ++ y = cc in
    same_rest s t x y i rest

piece_of : (n : ℕ) (known new : Option (List ℕ)) (bytes : List ℕ) → Consumes known new bytes → length bytes ≡ n → IfSome known (LeavesPiece n new)
piece_of n None new bytes c l = tt
piece_of n (Some xs) None bytes c l = absurd c
piece_of n (Some xs) (Some ys) bytes c l = λ s r q m. ap (λ z. Some z) (same_rest bytes s ys r (l ∙ sym m) (sym c ∙ q))

-- it was consumed whole
pub piece_taken : (n : ℕ) (known new : Option (List ℕ)) (bytes : List ℕ) (before after : ℕ) (e : Error) → Consumes known new bytes → length bytes ≡ n
    → PieceLeaves n known new before after e
unfolding PieceLeaves
piece_taken n known new bytes before after e c l = λ _ _. piece_of n known new bytes c l

never_whole : (n : ℕ) (known new : Option (List ℕ)) → IsShort n known → IfSome known (LeavesPiece n new)
never_whole n None new h = tt
never_whole n (Some xs) new h = λ s r q m. absurd (let long = ap length q ∙ length-append s r in omega (arith, long, m, h))

-- it was never there whole
pub piece_short : (n : ℕ) (known new : Option (List ℕ)) (before after : ℕ) (e : Error) → Explains e before after (IsShort n known)
    → PieceLeaves n known new before after e
unfolding PieceLeaves
piece_short n known new before after e h = λ o k. never_whole n known new (h o k)

-- memory was short
pub piece_unsaid : (n : ℕ) (known new : Option (List ℕ)) (before after : ℕ) → PieceLeaves n known new before after OutOfMemory
unfolding PieceLeaves
piece_unsaid n known new before after = λ o _. absurd (o refl)

-- ---- heads

module _ (strict : Bool) (wanted : Head → Type 0) where
  -- the bytes begin with no head
  pub leaves_none : (known new : Option (List ℕ)) (before after : ℕ) (e : Error) → EndsExactly strict before after known e
      → (after ≡ before → IfSome known (LeavesNone new)) → LeavesAfter strict wanted known new before after e
  unfolding LeavesAfter EndsExactly
  leaves_none None new before after e x r = λ _ _. tt
  leaves_none (Some xs) new before after e x r = λ _ k. record {
    unwanted = λ m h s _. absurd ((x.0 k).0 m h s);
    whole = λ h s _ w. absurd ((x.0 k).0 w.marker h w.starts);
    none = λ _. r k;
  }

  -- they do
  head_there : (xs ys b : List ℕ) (h : Head) → xs ≡ b ++ ys → heads_of strict h b → BeginsWithNone strict xs → ⊥
  head_there xs ys b h c i none = let f : Front strict h xs ys = front_of strict h b xs ys c i in none (marker_of f.byte) h (starts f)

  head_rest : (known new : Option (List ℕ)) (b : List ℕ) (h : Head) → Consumes known new b → heads_of strict h b → (wanted h → ⊥)
      → IfSome known (LeavesRest strict wanted new)
  head_rest None new b h c i f = tt
  head_rest (Some xs) None b h c i f = absurd c
  head_rest (Some xs) (Some ys) b h c i f = record {
    unwanted = λ m k s _.
        let u = heads_differ_as strict k h (s.byte ∷ s.following) b s.rest ys s.is_head i (sym s.front ∙ c) in
        ap (λ z. Some z) (sym u.2);
    whole = λ k s w t.
        let t0 = t.starts in
        let u = heads_differ_as strict k h (t0.byte ∷ t0.following) b t0.rest ys t0.is_head i (sym t0.front ∙ c) in
        absurd (f (subst wanted u.0 w));
    none = λ n. absurd (head_there xs ys b h c i n);
  }

  piece_rest : (known k new : Option (List ℕ)) (b : List ℕ) (h : Head) → Consumes known k b → heads_of strict h b → wanted h
      → IfSome k (LeavesPiece (content_len h) new) → IfSome known (LeavesRest strict wanted new)
  piece_rest None k new b h c i w r = tt
  piece_rest (Some xs) None new b h c i w r = absurd c
  piece_rest (Some xs) (Some ys) new b h c i w r = record {
    unwanted = λ m j s f.
        let u = heads_differ_as strict j h (s.byte ∷ s.following) b s.rest ys s.is_head i (sym s.front ∙ c) in
        absurd (f (subst wanted (sym u.0) w));
    whole = λ j s _ t.
        let t0 = t.starts in
        let u = heads_differ_as strict j h (t0.byte ∷ t0.following) b t0.rest ys t0.is_head i (sym t0.front ∙ c) in
        r s t.following (sym u.2 ∙ t.content) (t.long ∙ ap content_len u.0);
    none = λ n. absurd (head_there xs ys b h c i n);
  }

module _ {R C : Type 0} (g : Ghosts R) (wanted : Head → Type 0) (old mid : Deserializer R C) where
  -- a head was consumed that isn't wanted
  pub leaves_head : (p : Marker × Head) (e : Error) → ReadsHead g old mid (Ok p) → (wanted p.1 → ⊥)
      → LeavesAfter old.strict wanted (left g old) (left g mid) (faults_of g old) (faults_of g mid) e
  unfolding LeavesAfter
  leaves_head p e r f = λ _ _. head_rest old.strict wanted (left g old) (left g mid) r.ok.bytes p.1 r.ok.takes r.ok.is_head f

  -- a wanted head was consumed, and then its payload, or it is cut
  pub leaves_payload : (last : R) (p : Marker × Head) (h : Head) (n : ℕ) (e : Error) → ReadsHead g old mid (Ok p) → p.1 ≡ h → content_len h ≡ n → wanted h
      → PieceLeaves n (g.ahead mid.reader) (g.ahead last) (g.faults mid.reader) (g.faults last) e
      → LeavesAfter old.strict wanted (left g old) (left g (record mid { reader = last })) (faults_of g old) (g.faults last) e
  unfolding LeavesAfter PieceLeaves
  leaves_payload last p h n e r i l w x = λ o k.
      let first : Consumes (left g old) (g.ahead mid.reader) r.ok.bytes = rw (← (bare g mid r.clean)) r.ok.takes in
      let rest : IfSome (g.ahead mid.reader) (LeavesPiece (content_len h) (g.ahead last)) =
      subst (λ z. IfSome (g.ahead mid.reader) (LeavesPiece z (g.ahead last))) (sym l) (x o (k ∙ sym r.sound)) in
      subst (λ z. IfSome (left g old) (LeavesRest old.strict wanted z)) (sym (bare g (record mid { reader = last }) r.clean))
      (piece_rest old.strict wanted (left g old) (g.ahead mid.reader) (g.ahead last) r.ok.bytes h first
      (subst (λ z. heads_of old.strict z r.ok.bytes) i r.ok.is_head) w rest)
