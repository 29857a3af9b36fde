-- What a head at the front of the bytes comes to, and what a check answers by it.
use Rattle.std.proofs.Common.{
  ◌≡◌,
  ◌≢◌,
  ◌∙◌,
  sym,
  ap,
  subst,
  refl,
  ℕ,
  zero,
  suc,
  ◌+◌,
  ◌-◌,
  ◌^◌,
  ◌<◌,
  ◌≤◌,
  ◌⊎◌,
  inl,
  inr,
  min,
  arith,
  List,
  [],
  ◌∷◌,
  ◌++◌,
  length,
  take,
  drop,
  get_or,
  append_assoc,
  Some,
  Bool,
  true,
  false,
  Result,
  Ok,
  Err,
}
use Rattle.std.proofs.lemmas.List.{length-append, length-drop, take_all}
use Rattle.std.specs.Prelude.{◌↔◌, IfErr}
use Rattle.rmp_wire.specs.declared.error.ValueReadError.{ValueReadError}
use Rattle.rmp_wire.specs.declared.error.ValueReadError.TheVariants as wire
use Rattle.rmp_wire.specs.declared.head.Head.{Head}
use Rattle.rmp_wire.specs.declared.marker.Marker.{Marker}
use Rattle.rmp_wire.specs.declared.marker.Marker.TheVariants as marker
use Rattle.rmp_wire.specs.Canonical.{IsCanonicalHead, Opens}
use Rattle.rmp_wire.specs.Heads.{IsHead, canon_head, fits_head}
use Rattle.rmp_wire.specs.Msg.{Msg}
use Rattle.rmp_wire.specs.Reading.{FailsNext}
use Rattle.rmp_wire.specs.Sources.{Skips}
use Rattle.rmp_wire.specs.Spelling.{IsBytes, Fits, head_of}
use Rattle.rmp_wire.specs.Taking.{marker_of, byte_of}
use Rattle.rmp_wire.proofs.Canon.{canon_is_head, head_fits}
use Rattle.rmp_wire.proofs.Canonical.{canonical_head_is}
use Rattle.rmp_wire.proofs.Heads.{heads_differ}
use Rattle.rmp_wire.proofs.Reading.{reserved_opens_none}
use Rattle.rmp_wire.proofs.Strict.{test_passed, test_failed}
use Rattle.rmp_wire.proofs.Taken.{bytes_from, bytes_parts}
use Rattle.rmp_decode.specs.Exact.{BeginsWith}
use Rattle.rmp_decode.specs.Kinds.{content_len}
use Rattle.rmp_decode.specs.ReadErrors.{error_of}
use Rattle.rmp_decode.specs.Refuse.{ContentIsCut}
use Rattle.rmp_decode.specs.declared.error.Error.{Error}
use Rattle.rmp_decode.specs.declared.error.Error.TheVariants as errors
use Rattle.rmp_decode.proofs.ContentErrors.{head_byte}
use Rattle.rmp_serde.specs.Places.{IsWhole, IsFault, OpensOther, StopsFor, Stops, TakesNode, TakesNodes, parts_after}
use Rattle.rmp_serde.specs.declared.check.Canon.{Canon}
use Rattle.rmp_serde.specs.declared.check.Canon.TheVariants.{Whole, Fault}
use Rattle.rmp_serde.proofs.Nodes.{content, own, fits_own, content_long}
use Rattle.rmp_serde.proofs.Wanted.{
  NoNode,
  other_none,
  Follows,
  follows_all,
  follows_head,
  done_whole,
  done_only,
  done_fault,
  none_whole,
  none_fault,
  here_fault,
  here_only,
  here_stops,
}

-- ---- one head

opens_other : (m : Marker) → m ≢ marker.Reserved → byte_of m ≢ 0xc1
opens_other m n e = n (Rattle.rmp_decode.proofs.Exactness.reserved_byte m e)

reserved_first : (xs ys : List ℕ) → xs ≡ (byte_of marker.Reserved ∷ []) ++ ys → xs ≡ 0xc1 ∷ ys
unfolding byte_of
reserved_first xs ys e = e

-- why none was taken
pub next_stops : (xs ys : List ℕ) (e : ValueReadError) → FailsNext (Some xs) (Some ys) 0 0 e → StopsFor (error_of e) xs
next_stops xs ys (wire.InvalidMarkerRead fault) f = (f.leaves.end refl, f.leaves.none_ahead refl)
next_stops xs ys (wire.InvalidDataRead fault) f =
    let t = f.leaves.0 in (
      f.leaves.1 refl,
      inl (record {
        byte = byte_of t.marker;
        following = t.part ++ ys;
        front = t.taken;
        opens = opens_other t.marker t.opens;
        none = λ m h s. f.none refl h (s.byte ∷ s.following) s.rest s.front s.is_head;
      }),
    )
next_stops xs ys (wire.TypeMismatch k) f = (f.leaves.0, record { following = ys; front = reserved_first xs ys f.leaves.1 })

module _ (xs ys rest : List ℕ) (m : Marker) (h : Head) (i : IsHead h (byte_of m ∷ rest)) (t : xs ≡ (byte_of m ∷ rest) ++ ys) (test : Bool)
    (says : fits_head h → (test ≡ true) ↔ Opens (byte_of m) (canon_head h)) where
  is_test : (test ≡ true) ↔ Opens (byte_of m) (canon_head h)
  is_test = says (head_fits h (byte_of m ∷ rest) i)

  -- it isn't canonical
  pub next_other : test ≡ false → OpensOther xs
  next_other f = record {
    head = h;
    bytes = byte_of m ∷ rest;
    rest = ys;
    front = t;
    is_head = i;
    other = λ c. let yes : test ≡ true = is_test.1 (test_failed h (byte_of m) rest c) in absurd (cc);
  }

  is_canon : test ≡ true → fits_head h × (byte_of m ∷ rest ≡ canon_head h)
  is_canon e = canonical_head_is h (byte_of m ∷ rest) (test_passed h (byte_of m) rest i (is_test.0 e))

  -- its content is cut
  pub next_cut : test ≡ true → marker_of (byte_of m) ≡ m → length ys < content_len h → ContentIsCut true xs
  next_cut e r l = (
    h,
    record {
      marker = m;
      starts = record { byte = byte_of m; following = rest; rest = ys; front = t; is_marker = sym r; is_head = test_passed h (byte_of m) rest i (is_test.0 e) };
      short = l;
    },
  )

  -- it was taken with its content
  pub next_taken : test ≡ true → (zs : List ℕ) (k n : ℕ) → k ≡ content_len h → Skips k (Some ys) (Some zs) → n ≡ parts_after h → TakesNode xs zs n
  next_taken e zs k n l s many =
      let c = is_canon e in
      record {
        head = h;
        content = s.bytes;
        fits = c.0;
        long = s.long ∙ l;
        front = t ∙ ap (λ z. z ++ ys) c.1 ∙ ap (λ z. canon_head h ++ z) s.taken ∙ sym (append_assoc (canon_head h) s.bytes zs);
        many = many;
      }

-- ---- where there is none, no message begins

own_first : (m : Msg) (z : List ℕ) → Fits m → own m ++ z ≡ [] → ⊥
own_first m z f e =
    let b = head_byte false (head_of m) (canon_head (head_of m)) (canon_is_head (head_of m) (fits_own m f)) in
    let l = ap length b.2 in
    absurd (omega (arith, l, ap length e, length-append (own m) z, length-append (canon_head (head_of m)) (content m)))

-- a canonical head at the front of bytes that begin with a head of any width
own_front : (m : Msg) (z xs : List ℕ) → xs ≡ own m ++ z → xs ≡ canon_head (head_of m) ++ (content m ++ z)
own_front m z xs e = e ∙ append_assoc (canon_head (head_of m)) (content m) z

own_starts : (m : Msg) (z xs : List ℕ) → Fits m → xs ≡ own m ++ z → (k : Marker) × BeginsWith false k (head_of m) xs
own_starts m z xs f e =
    let c = canon_head (head_of m) in
    let i = canon_is_head (head_of m) (fits_own m f) in
    let b = head_byte false (head_of m) c i in (
      marker_of b.0,
      record {
        byte = b.0;
        following = b.1;
        rest = content m ++ z;
        front = own_front m z xs e
            ∙ ap (λ t. t ++ (content m ++ z)) b.2;
        is_marker = refl;
        is_head = subst (IsHead (head_of m)) b.2 i;
      },
    )

reserved_none : (h : Head) (x : List ℕ) → IsHead h (0xc1 ∷ x) → ⊥
unfolding byte_of
reserved_none h x i = reserved_opens_none h x i

pub stops_none : (e : Error) (xs : List ℕ) → StopsFor e xs → NoNode xs × (OpensOther xs → ⊥)
stops_none (errors.InvalidMarkerRead x) xs s = (
  λ m z f e. own_first m z f (sym e ∙ s.1),
  λ o.
      let b = head_byte false o.head o.bytes o.is_head in
      let l = ap length b.2 in
      let n = ap length (sym o.front ∙ s.1) in
      absurd (omega (arith, l, n, length-append o.bytes o.rest)),
)
stops_none (errors.InvalidDataRead x) xs s = elim s.1 [
  | inl c ↦ (
    λ m z f e. let k = own_starts m z xs f e in c.none k.0 (head_of m) k.1,
    λ o.
        let b = head_byte false o.head o.bytes o.is_head in
        c.none (marker_of b.0) o.head (record {
          byte = b.0;
          following = b.1;
          rest = o.rest;
          front = o.front
              ∙ ap (λ t. t ++ o.rest) b.2;
          is_marker = refl;
          is_head = subst (IsHead o.head) b.2 o.is_head;
        }),
  )
  | inr c ↦
      let w = c.1.starts in (
        λ m z f e.
            let u = heads_differ (head_of m) c.0 (canon_head (head_of m)) (w.byte ∷ w.following) (content m ++ z) w.rest
            (canon_is_head (head_of m) (fits_own m f)) w.is_head.is_head (sym (own_front m z xs e) ∙ w.front) in
            let short = c.1.short in
            absurd (omega (arith, short, ap length u.2, length-append (content m) z, content_long m ∙ ap content_len u.0)),
        λ o.
            let u = heads_differ o.head c.0 o.bytes (w.byte ∷ w.following) o.rest w.rest o.is_head w.is_head.is_head (sym o.front ∙ w.front) in
            o.other (subst (λ t. IsCanonicalHead t o.bytes) (sym u.0) (subst (IsCanonicalHead c.0) (sym u.1) w.is_head)),
      )
]
stops_none (errors.TypeMismatch k) xs s = (
  λ m z f e.
      let w = own_starts m z xs f e in
      let t = w.1 in
      let first : t.byte ≡ 0xc1 = (let j : t.byte ∷ (t.following ++ t.rest) ≡ 0xc1 ∷ s.1.following = sym t.front ∙ s.1.front in cc) in
      reserved_none (head_of m) t.following (subst (λ b. IsHead (head_of m) (b ∷ t.following)) first t.is_head),
  λ o.
      let b = head_byte false o.head o.bytes o.is_head in
      let j : b.0 ∷ (b.1 ++ o.rest) ≡ 0xc1 ∷ s.1.following = sym (ap (λ t. t ++ o.rest) b.2) ∙ sym o.front ∙ s.1.front in
      let first : b.0 ≡ 0xc1 = cc in
      reserved_none o.head b.1 (subst (λ t. IsHead o.head (t ∷ b.1)) first (subst (IsHead o.head) b.2 o.is_head)),
)
stops_none errors.OutOfRange xs s = absurd s
stops_none (errors.LengthMismatch n) xs s = absurd s
stops_none (errors.Uncategorized n) xs s = absurd s
stops_none (errors.Syntax n) xs s = absurd s
stops_none (errors.Utf8Error n) xs s = absurd s
stops_none errors.DepthLimitExceeded xs s = absurd s
stops_none errors.OutOfMemory xs s = absurd s
stops_none errors.NotCanonical xs s = absurd s

pub stops_memory : (e : Error) (xs : List ℕ) → StopsFor e xs → e ≢ errors.OutOfMemory
stops_memory (errors.InvalidMarkerRead x) xs s q = absurd (cc)
stops_memory (errors.InvalidDataRead x) xs s q = absurd (cc)
stops_memory (errors.TypeMismatch m) xs s q = absurd (cc)
stops_memory errors.OutOfRange xs s q = absurd (cc)
stops_memory (errors.LengthMismatch n) xs s q = absurd (cc)
stops_memory (errors.Uncategorized n) xs s q = absurd (cc)
stops_memory (errors.Syntax n) xs s q = absurd (cc)
stops_memory (errors.Utf8Error n) xs s q = absurd (cc)
stops_memory errors.DepthLimitExceeded xs s q = absurd (cc)
stops_memory errors.OutOfMemory xs s q = absurd s
stops_memory errors.NotCanonical xs s q = absurd (cc)

-- ---- the loop

-- what is left of a slice
pub rest_is : (n : ℕ) (xs : List ℕ) → drop n xs ≡ take (length xs - n) (drop n xs)
rest_is n xs = sym (take_all (length xs - n) (drop n xs) (omega (arith, length-drop n xs)))

-- This many messages remain, or more than there are bytes: then the count says only that.
pub record Wants (input : List ℕ) (wanted : ℕ) (left : List ℕ) : Type 0 where
  pub all : ℕ
  pub at : ℕ
  pub follows : Follows input all left at
  pub are_bytes : IsBytes left
  pub counts : (wanted ≡ all) ⊎ ((length left < wanted) × (length left < all))

pub wants_all : (input : List ℕ) → ((k : ℕ) → get_or input k 0 < 256) → Wants input 1 input
wants_all input b = record { all = 1; at = 0; follows = follows_all input; are_bytes = bytes_from input b; counts = inl refl }

nodes_long : (n parts : ℕ) (xs zs : List ℕ) → TakesNodes n parts xs zs → length zs + n ≤ length xs
nodes_long zero parts xs zs t = omega (arith, ap length t.1)
nodes_long (suc n) parts xs zs t =
    let i = nodes_long n t.1 xs t.0 t.3 in
    let k = t.4 in
    let head = head_byte false k.head (canon_head k.head) (canon_is_head k.head k.fits) in
    let l = ap length head.2 in
    let q = ap length k.front in
    omega (arith, i, l, q, length-append (canon_head k.head ++ k.content) zs, length-append (canon_head k.head) k.content)

-- this many canonical heads and their contents were consumed
record Passed (input : List ℕ) (all : ℕ) (left : List ℕ) (n : ℕ) (zs : List ℕ) : Type 0 where
  pub at : ℕ
  pub follows : Follows input all zs at
  pub are_bytes : IsBytes zs
  pub shorter : length zs + n ≤ length left

pass_node : (input ys zs : List ℕ) (all at k : ℕ) → IsBytes ys → Follows input (suc all) ys at → TakesNode ys zs k → Passed input (k + all) ys 1 zs
pass_node input ys zs all at k b f t =
    let moved = subst (λ z. Follows input (suc all) z at) t.front f in
    let parted = bytes_parts (canon_head t.head ++ t.content) zs (subst IsBytes t.front b) in
    let own_bytes = bytes_parts (canon_head t.head) t.content parted.0 in
    let head = head_byte false t.head (canon_head t.head) (canon_is_head t.head t.fits) in
    let l = ap length head.2 in
    let q = ap length t.front in
    record {
      at = at + length (canon_head t.head ++ t.content);
      follows = subst (λ z. Follows input (z + all) zs (at + length (canon_head t.head ++ t.content))) (sym t.many)
          (follows_head input all at t.head t.content zs t.fits t.long own_bytes.1 moved);
      are_bytes = parted.1;
      shorter = omega (arith, l, q, length-append (canon_head t.head ++ t.content) zs, length-append (canon_head t.head) t.content);
    }

pass_nodes : (input left zs : List ℕ) (all at n parts : ℕ) → IsBytes left → Follows input all left at → TakesNodes n parts left zs → n ≤ all
    → Passed input (all - n + parts) left n zs
pass_nodes input left zs all at zero parts b f t l =
    let e : all ≡ all - 0 + parts = (let p = t.0 in omega (arith, p)) in
    record {
      at = at;
      follows = subst (λ z. Follows input z zs at) e (subst (λ z. Follows input all z at) t.1 f);
      are_bytes = subst IsBytes t.1 b;
      shorter = omega (arith, ap length t.1);
    }
pass_nodes input left zs all at (suc n) parts b f t l =
    let before = pass_nodes input left t.0 all at n t.1 b f t.3 (omega (arith, l)) in
    let some : all - n + t.1 ≡ suc (all - suc n + t.1) = omega (arith, l) in
    let here = pass_node input t.0 zs (all - suc n + t.1) before.at t.2 before.are_bytes (subst (λ z. Follows input z t.0 before.at) some before.follows) t.4 in
    let e : t.2 + (all - suc n + t.1) ≡ all - suc n + parts = (let p = t.5 in omega (arith, p)) in
    let s1 = before.shorter in
    let s2 = here.shorter in
    record { at = here.at; follows = subst (λ z. Follows input z zs here.at) e here.follows; are_bytes = here.are_bytes; shorter = omega (arith, s1, s2) }

-- what is answered at the place that was reached
pub record Answers (input : List ℕ) (r : Result Canon Error) : Type 0 where
  pub whole : (n : ℕ) → (r ≡ Ok (Whole n)) ↔ IsWhole input n
  pub fault : (p : ℕ) → (r ≡ Ok (Fault p)) ↔ IsFault input p
  pub stops : IfErr r (Stops input)
  pub memory : IfErr r (λ e. e ≢ errors.OutOfMemory)

is_whole : (m n : ℕ) → ◌≡◌ {A = Result Canon Error} (Ok (Whole m)) (Ok (Whole n)) → m ≡ n
is_whole m n e = cc

is_fault : (m n : ℕ) → ◌≡◌ {A = Result Canon Error} (Ok (Fault m)) (Ok (Fault n)) → m ≡ n
is_fault m n e = cc

module _ (input left : List ℕ) (wanted : ℕ) (w : Wants input wanted left) where
  place_is : (p : ℕ) → p ≡ length input - length left → p ≡ w.at
  place_is p e = let f = w.follows.place in omega (arith, e, f)

  none_left : wanted ≡ 0 → w.all ≡ 0
  none_left z = elim w.counts [ inl e ↦ sym e ∙ z | inr l ↦ absurd (omega (arith, l.0, z)) ]

  some_left : 0 < wanted → w.all ≡ suc (w.all - 1)
  some_left l = elim w.counts [ inl e ↦ omega (arith, e, l) | inr k ↦ let j = k.1 in omega (arith, j) ]

  pub answers_whole : (n : ℕ) (r : Result Canon Error) → r ≡ Ok (Whole n) → wanted ≡ 0 → n ≡ length input - length left → Answers input r
  answers_whole n r q z e =
      let f = subst (λ k. Follows input k left w.at) (none_left z) w.follows in
      let p = place_is n e in
      subst (Answers input) (sym q) (record {
        whole = λ m. (
          λ i. subst (IsWhole input) (sym p ∙ is_whole n m i) (done_whole input left w.at f),
          λ i. ap (λ t. Ok (Whole t))
              (p ∙ sym (done_only input left w.at f m i)),
        );
        fault = λ m. (λ i. absurd (cc), λ i. absurd (done_fault input left w.at f m i));
        stops = tt;
        memory = tt;
      })

  module _ (some : 0 < wanted) where
    follows_some : Follows input (suc (w.all - 1)) left w.at
    follows_some = subst (λ k. Follows input k left w.at) (some_left some) w.follows

    pub answers_fault : (n : ℕ) (r : Result Canon Error) → r ≡ Ok (Fault n) → OpensOther left → n ≡ length input - length left → Answers input r
    answers_fault n r q o e =
        let f = follows_some in
        let p = place_is n e in
        subst (Answers input) (sym q) (record {
          whole = λ m. (λ i. absurd (cc), λ i. absurd (none_whole input left w.at (w.all - 1) f (other_none left o) m i));
          fault = λ m. (
            λ i. subst (IsFault input) (sym p ∙ is_fault n m i) (here_fault input left w.at (w.all - 1) f o),
            λ i. ap (λ t. Ok (Fault t))
                (p ∙ sym (here_only input left w.at (w.all - 1) f o m i)),
          );
          stops = tt;
          memory = tt;
        })

    pub answers_error : (x : Error) (r : Result Canon Error) → r ≡ Err x → StopsFor x left → Answers input r
    answers_error x r q s =
        let f = follows_some in
        let n = stops_none x left s in
        subst (Answers input) (sym q) (record {
          whole = λ m. (λ i. absurd (cc), λ i. absurd (none_whole input left w.at (w.all - 1) f n.0 m i));
          fault = λ m. (λ i. absurd (cc), λ i. absurd (none_fault input left w.at (w.all - 1) f n.0 n.1 m i));
          stops = (w.at, here_stops input left w.at (w.all - 1) f x s);
          memory = stops_memory x left s;
        })

    -- some heads and their contents were taken
    module _ (zs : List ℕ) (n parts : ℕ) (t : TakesNodes n parts left zs) (least : n ≤ wanted) where
      enough : n ≤ w.all
      enough = elim w.counts [ inl e ↦ omega (arith, e, least) | inr k ↦ (let a = k.1 in omega (arith, a, nodes_long n parts left zs t)) ]

      passed : Passed input (w.all - n + parts) left n zs
      passed = pass_nodes input left zs w.all w.at n parts w.are_bytes w.follows t enough

      pub nodes_some : 0 < n → length zs < length left
      nodes_some l = let s = passed.shorter in omega (arith, s, l)

      pub wants_nodes : (wanted' : ℕ) → 0 < n → length input < 2 ^ 64 → wanted' ≡ min (wanted - n + parts) (2 ^ 64 - 1) → Wants input wanted' zs
      wants_nodes wanted' l fit e =
          let short = passed.shorter in
          let place = w.follows.place in
          let many = enough in
          record {
            all = w.all - n + parts;
            at = passed.at;
            follows = passed.follows;
            are_bytes = passed.are_bytes;
            counts = elim w.counts [
              | inl q ↦ elim (Rattle.std.proofs.lemmas.Bool.cases_lt (wanted - n + parts) (2 ^ 64)) [
                | inl k ↦ inl (omega (arith, e, k, q))
                | inr k ↦ inr (omega (arith, e, k, short, place, fit, l), omega (arith, e, k, q, short, place, fit, l))
              ]
              | inr k ↦ let a = k.0 in let b = k.1 in inr (omega (arith, e, a, short, place, fit, l, least), omega (arith, b, short, many))
            ];
          }

    pub node_some : (zs : List ℕ) (n : ℕ) → TakesNode left zs n → length zs < length left
    node_some zs n t =
        let b = head_byte false t.head (canon_head t.head) (canon_is_head t.head t.fits) in
        let l = ap length b.2 in
        let f = t.front in
        omega (arith, l, ap length f, length-append (canon_head t.head ++ t.content) zs, length-append (canon_head t.head) t.content)

    -- a head and its content were taken
    pub wants_node : (zs : List ℕ) (n wanted' : ℕ) → TakesNode left zs n → length input < 2 ^ 64 → wanted' ≡ min (wanted - 1 + n) (2 ^ 64 - 1)
        → Wants input wanted' zs
    wants_node zs n wanted' t fit e =
        let f = follows_some in
        let moved = subst (λ z. Follows input (suc (w.all - 1)) z w.at) t.front f in
        let parted = bytes_parts (canon_head t.head ++ t.content) zs (subst IsBytes t.front w.are_bytes) in
        let own_bytes = bytes_parts (canon_head t.head) t.content parted.0 in
        let next = follows_head input (w.all - 1) w.at t.head t.content zs t.fits t.long own_bytes.1 moved in
        let short = node_some zs n t in
        let many = t.many in
        let place = w.follows.place in
        record {
          all = parts_after t.head + (w.all - 1);
          at = w.at + length (canon_head t.head ++ t.content);
          follows = next;
          are_bytes = parted.1;
          counts = elim w.counts [
            | inl q ↦ elim (Rattle.std.proofs.lemmas.Bool.cases_lt (wanted - 1 + n) (2 ^ 64)) [
              | inl l ↦ inl (omega (arith, e, l, q, many, some))
              | inr l ↦ inr (omega (arith, e, l, short, place, fit), omega (arith, e, l, q, many, short, place, fit, some))
            ]
            | inr k ↦ let a = k.0 in let b = k.1 in inr (omega (arith, e, a, short, place, fit), omega (arith, b, short))
          ];
        }
