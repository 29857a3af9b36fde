-- Fields that are met in a map, pair by pair.
use Rattle.std.proofs.Common.{◌≡◌, ◌∙◌, sym, ap, subst, refl, arith, ℕ, zero, suc, List, [], ◌∷◌, length, Option, None, Some, MatchOption}
use Rattle.std.specs.Option.{option_and_then}
use Rattle.rmp_wire.specs.Msg.{Msg, Msgs, no_items, item, Pairs, no_pairs, pair}
use Rattle.rmp_decode.specs.Fields.{blank, put, put_named, met, at, AreBlank}
use Rattle.rmp_decode.specs.Names.{name_of}
use Rattle.rmp_decode.proofs.Maps.{flat, push_pair}
use Rattle.rmp_decode.proofs.Rows.{push, append}

pub blank_blank : (names : List (List ℕ)) (n : ℕ) → length names ≡ n → AreBlank n (blank names)
blank_blank [] zero e = tt
blank_blank [] (suc n) e = absurd (cc)
blank_blank (s ∷ names) zero e = absurd (cc)
blank_blank (s ∷ names) (suc n) e = (refl, blank_blank names n (omega (arith, e)))

append_push : (ms : Msgs) (k : Msg) (ks : Msgs) → append (push ms k) ks ≡ append ms (item k ks)
append_push no_items k ks = refl
append_push (item m ms) k ks = ap (item m) (append_push ms k ks)

and_then_some : {A : Type 0} (x : Option A) → option_and_then (λ z. Some z) x ≡ x
and_then_some None = refl
and_then_some (Some a) = refl

-- an answer that is used is there
pub holds_some : {A : Type 0} (Q : A → Type 0) (x : Option A) → MatchOption x ⊥ Q → (a : A) × (x ≡ Some a) × Q a
holds_some Q None h = absurd h
holds_some Q (Some a) h = (a, refl, h)

-- ---- one field more

put_keeps : (i n : ℕ) (v m : Msg) (fs gs : List (Option Msg)) → put i v fs ≡ Some gs → at n fs ≡ Some m → at n gs ≡ Some m
put_keeps i n v m [] gs e h = absurd (cc)
put_keeps zero zero v m (None ∷ fs) gs e h = absurd (cc)
put_keeps zero (suc n) v m (None ∷ fs) gs e h = let q : Some v ∷ fs ≡ gs = cc in subst (λ z. at (suc n) z ≡ Some m) q h
put_keeps zero n v m (Some k ∷ fs) gs e h = absurd (cc)
put_keeps (suc i) n v m (f ∷ fs) gs e h = go (λ n r p h. put_keeps i n v m fs r p h) (put i v fs) refl e
  where
    following : ((n : ℕ) (r : List (Option Msg)) → put i v fs ≡ Some r → at n fs ≡ Some m → at n r ≡ Some m) → (n : ℕ) (r : List (Option Msg))
        → put i v fs ≡ Some r → at n (f ∷ fs) ≡ Some m → at n (f ∷ r) ≡ Some m
    following ih zero r p h = h
    following ih (suc n) r p h = ih n r p h

    go : ((n : ℕ) (r : List (Option Msg)) → put i v fs ≡ Some r → at n fs ≡ Some m → at n r ≡ Some m) → (x : Option (List (Option Msg))) → put i v fs ≡ x
        → option_and_then (λ r. Some (f ∷ r)) x ≡ Some gs → at n gs ≡ Some m
    go ih None p q = absurd (cc)
    go ih (Some r) p q = let s : f ∷ r ≡ gs = cc in subst (λ z. at n z ≡ Some m) s (following ih n r p h)

pub put_at : (n : ℕ) (m : Msg) (fs gs : List (Option Msg)) → put n m fs ≡ Some gs → at n gs ≡ Some m
put_at n m [] gs e = absurd (cc)
put_at zero m (None ∷ fs) gs e = let q : Some m ∷ fs ≡ gs = cc in subst (λ z. at 0 z ≡ Some m) q refl
put_at zero m (Some k ∷ fs) gs e = absurd (cc)
put_at (suc n) m (f ∷ fs) gs e = go (λ r p. put_at n m fs r p) (put n m fs) refl e
  where
    go : ((r : List (Option Msg)) → put n m fs ≡ Some r → at n r ≡ Some m) → (x : Option (List (Option Msg))) → put n m fs ≡ x
        → option_and_then (λ r. Some (f ∷ r)) x ≡ Some gs → at (suc n) gs ≡ Some m
    go ih None p q = absurd (cc)
    go ih (Some r) p q = let s : f ∷ r ≡ gs = cc in subst (λ z. at (suc n) z ≡ Some m) s (ih r p)

module _ (names : List (List ℕ)) where
  -- what a pair does to the fields that were met
  abbrev pub meet : Msg → Msg → List (Option Msg) → Option (List (Option Msg))
  meet k v fs = option_and_then (λ o. put_named o v fs) (name_of names k)

  meet_keeps : (n : ℕ) (m k v : Msg) (fs gs : List (Option Msg)) → meet k v fs ≡ Some gs → at n fs ≡ Some m → at n gs ≡ Some m
  meet_keeps n m k v fs gs e h = go (name_of names k) e
    where
      go : (x : Option (Option ℕ)) → option_and_then (λ o. put_named o v fs) x ≡ Some gs → at n gs ≡ Some m
      go None q = absurd (cc)
      go (Some None) q = let s : fs ≡ gs = cc in subst (λ z. at n z ≡ Some m) s h
      go (Some (Some i)) q = put_keeps i n v m fs gs q h

  met_keeps : (n : ℕ) (m : Msg) (ps : Pairs) (fs gs : List (Option Msg)) → met names fs ps ≡ Some gs → at n fs ≡ Some m → at n gs ≡ Some m
  met_keeps n m no_pairs fs gs e h = let s : fs ≡ gs = cc in subst (λ z. at n z ≡ Some m) s h
  met_keeps n m (pair k v ps) fs gs e h = go (λ hs. met_keeps n m ps hs gs) (meet k v fs) refl e
    where
      go : ((hs : List (Option Msg)) → met names hs ps ≡ Some gs → at n hs ≡ Some m → at n gs ≡ Some m) → (x : Option (List (Option Msg))) → meet k v fs ≡ x
          → option_and_then (λ hs. met names hs ps) x ≡ Some gs → at n gs ≡ Some m
      go ih None p q = absurd (cc)
      go ih (Some hs) p q = ih hs q (meet_keeps n m k v fs hs p h)

  -- one pair more
  pub met_push : (ps : Pairs) (k v : Msg) (fs gs : List (Option Msg)) → met names fs ps ≡ Some gs → met names fs (push_pair ps k v) ≡ meet k v gs
  met_push no_pairs k v fs gs e = let s : fs ≡ gs = cc in and_then_some (meet k v fs) ∙ ap (meet k v) s
  met_push (pair a b ps) k v fs gs e = go (λ hs. met_push ps k v hs gs) (meet a b fs) e
    where
      go : ((hs : List (Option Msg)) → met names hs ps ≡ Some gs → met names hs (push_pair ps k v) ≡ meet k v gs) → (x : Option (List (Option Msg)))
          → option_and_then (λ hs. met names hs ps) x ≡ Some gs → option_and_then (λ hs. met names hs (push_pair ps k v)) x ≡ meet k v gs
      go ih None q = absurd (cc)
      go ih (Some hs) q = ih hs q

  -- what is met after pairs that were met
  pub rest_met : (ps qs : Pairs) (ks : Msgs) (fs gs : List (Option Msg)) → flat qs ≡ append (flat ps) ks → met names fs ps ≡ Some gs
      → (rs : Pairs) × (flat rs ≡ ks) × (met names fs qs ≡ met names gs rs)
  rest_met no_pairs qs ks fs gs e h = let s : fs ≡ gs = cc in (qs, e, ap (λ z. met names z qs) s)
  rest_met (pair a b ps) no_pairs ks fs gs e h = absurd (cc)
  rest_met (pair a b ps) (pair c d qs) ks fs gs e h =
      let ac : a ≡ c = cc in
      let bd : b ≡ d = cc in
      let rest : flat qs ≡ append (flat ps) ks = cc in
      let x = go (λ hs. rest_met ps qs ks hs gs rest) (meet a b fs) h in (
        x.0,
        x.1,
        ap (λ z. option_and_then (λ hs. met names hs qs) (meet z d fs)) (sym ac)
            ∙ ap (λ z. option_and_then (λ hs. met names hs qs) (meet a z fs)) (sym bd) ∙ x.2,
      )
    where
      go : ((hs : List (Option Msg)) → met names hs ps ≡ Some gs → (rs : Pairs) × (flat rs ≡ ks) × (met names hs qs ≡ met names gs rs))
          → (x : Option (List (Option Msg))) → option_and_then (λ hs. met names hs ps) x ≡ Some gs
          → (rs : Pairs) × (flat rs ≡ ks) × (option_and_then (λ hs. met names hs qs) x ≡ met names gs rs)
      go ih None q = absurd (cc)
      go ih (Some hs) q = ih hs q

  module _ (Q : List (Option Msg) → Type 0) (fs gs : List (Option Msg)) (ps : Pairs) (h : met names fs ps ≡ Some gs) (qs : Pairs)
      (ok : MatchOption (met names fs qs) ⊥ Q) where
    -- no pair is left
    pub none_met : flat qs ≡ append (flat ps) no_items → Q gs
    none_met e = let x = rest_met ps qs no_items fs gs e h in go x.0 x.1 x.2
      where
        go : (rs : Pairs) → flat rs ≡ no_items → met names fs qs ≡ met names gs rs → Q gs
        go no_pairs p q = subst (λ z. MatchOption z ⊥ Q) q ok
        go (pair a b rs) p q = absurd (cc)

    -- the next key says something
    pub key_named : (k : Msg) (ks : Msgs) → flat qs ≡ append (flat ps) (item k ks) → (o : Option ℕ) × (name_of names k ≡ Some o)
    key_named k ks e = let x = rest_met ps qs (item k ks) fs gs e h in go x.0 x.1 x.2
      where
        named : (rs : Pairs) (b : Msg) (x : Option (Option ℕ))
            → MatchOption (option_and_then (λ hs. met names hs rs) (option_and_then (λ o. put_named o b gs) x)) ⊥ Q → (o : Option ℕ) × (x ≡ Some o)
        named rs b None h = absurd h
        named rs b (Some o) h = (o, refl)

        go : (rs : Pairs) → flat rs ≡ item k ks → met names fs qs ≡ met names gs rs → (o : Option ℕ) × (name_of names k ≡ Some o)
        go no_pairs p q = absurd (cc)
        go (pair a b rs) p q =
            let same : a ≡ k = cc in
            let x = named rs b (name_of names a) (subst (λ z. MatchOption z ⊥ Q) q ok) in
            (x.0, ap (name_of names) (sym same) ∙ x.1)

    module _ (k : Msg) (n : ℕ) (is : name_of names k ≡ Some (Some n)) where
      -- the value of a name has a place, and is there at last
      pub value_put : (m : Msg) (ks : Msgs) → flat qs ≡ append (push (flat ps) k) (item m ks)
          → (hs out : List (Option Msg)) × (put n m gs ≡ Some hs) × (at n out ≡ Some m) × Q out
      value_put m ks e = let x = rest_met ps qs (item k (item m ks)) fs gs (e ∙ append_push (flat ps) k (item m ks)) h in go x.0 x.1 x.2
        where
          after : (rs : Pairs) (x : Option (List (Option Msg))) → put n m gs ≡ x → MatchOption (option_and_then (λ hs. met names hs rs) x) ⊥ Q
              → (hs out : List (Option Msg)) × (put n m gs ≡ Some hs) × (at n out ≡ Some m) × Q out
          after rs None p h = absurd h
          after rs (Some hs) p h = let y = holds_some Q (met names hs rs) h in (hs, y.0, p, met_keeps n m rs hs y.0 y.1 (put_at n m gs hs p), y.2)

          go : (rs : Pairs) → flat rs ≡ item k (item m ks) → met names fs qs ≡ met names gs rs
              → (hs out : List (Option Msg)) × (put n m gs ≡ Some hs) × (at n out ≡ Some m) × Q out
          go no_pairs p q = absurd (cc)
          go (pair a b rs) p q =
              let ka : a ≡ k = cc in
              let mb : b ≡ m = cc in
              let h0 = subst (λ z. MatchOption z ⊥ Q) q ok in
              let h1 = subst (λ z. MatchOption (option_and_then (λ hs. met names hs rs) (option_and_then (λ o. put_named o b gs) z)) ⊥ Q)
              (ap (name_of names) ka ∙ is) h0 in
              let h2 = subst (λ z. MatchOption (option_and_then (λ hs. met names hs rs) (put n z gs)) ⊥ Q) mb h1 in
              after rs (put n m gs) refl h2
