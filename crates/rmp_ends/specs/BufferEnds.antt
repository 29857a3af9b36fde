-- A read of bytes, also from a list of numbers, meets an end only inside of a message.
use Rattle.std.proofs.Common.{◌≡◌, ◌∙◌, sym, ap, subst, refl, ℕ, ◌+◌, ◌-◌, ◌⊎◌, inl, inr, arith, List, [], ◌∷◌}
use Rattle.std.specs.Prelude.{◌≢◌, Bool, true, false}
use Rattle.std.proofs.lemmas.Bool.{cases_eq, cases_lt}
use Rattle.rmp_wire.specs.Canonical.{heads_of}
use Rattle.rmp_wire.specs.Heads.{IsHead, canon_head}
use Rattle.rmp_wire.specs.Msg.{count}
use Rattle.rmp_wire.specs.Spelling.{IsBytes}
use Rattle.rmp_wire.specs.declared.head.Head.{Head}
use Rattle.rmp_wire.specs.declared.head.Head.TheVariants.{Nil, Truth, Whole, F32Bits, F64Bits, Text, Bin, Array, Map, Ext}
use Rattle.rmp_wire.specs.declared.marker.Marker.{Marker}
use Rattle.rmp_wire.proofs.Canon.{head_fits}
use Rattle.rmp_wire.proofs.Canonical.{canonical_head_made, canonical_head_is}
use Rattle.rmp_wire.proofs.Taken.{bytes_parts}
use Rattle.rmp_decode.specs.Buffers.{RefusesItem, RefusesListOf, RefusesListIn}
use Rattle.rmp_decode.specs.Content.{ExactOfContent, RefusesContent, IsBufferHead, not_raw, not_buffer}
use Rattle.rmp_decode.specs.Exact.{BeginsWith, IsEnd}
use Rattle.rmp_decode.specs.Kinds.{other_number}
use Rattle.rmp_decode.proofs.Exactness.{wide_starts_none}
use Rattle.rmp_decode.specs.declared.error.Error.{Error}
use Rattle.rmp_scan.specs.Scans.{IsBeginning}
use Rattle.rmp_ends.specs.EndsInside.{AlwaysInside, IsNoEnd}
use Rattle.rmp_ends.specs.LeafEnds.{head_inside, head_there, first_head, FirstHead, long_start, whole_payload, any_start, no_head, neither, not_this}
use Rattle.rmp_ends.specs.LeafEnds.{number_none, depth_no_end, memory_no_end}
use Rattle.rmp_ends.specs.Unfinished.{UnfinishedIn, unfinished_first, unfinished_list, row_after}

-- ---- whether a head of some width is one that a read accepts

same_or_other : (a b : List ℕ) → (a ≡ b) ⊎ (a ≢ b)
same_or_other [] [] = inl refl
same_or_other [] (y ∷ b) = inr (λ e. absurd (cc))
same_or_other (x ∷ a) [] = inr (λ e. absurd (cc))
same_or_other (x ∷ a) (y ∷ b) = elim (cases_eq x y) [
  | inr other ↦ inr (λ e. let head : x ≡ y = cc in other head)
  | inl same ↦ elim (same_or_other a b) [
    | inl rest ↦ inl (ap (λ z. z ∷ a) same ∙ ap (λ z. y ∷ z) rest)
    | inr other ↦ inr (λ e. let tail : a ≡ b = cc in other tail)
  ]
]

accepted : (strict : Bool) (h : Head) (a : List ℕ) → IsHead h a → heads_of strict h a ⊎ (heads_of strict h a → ⊥)
accepted false h a is = inl is
accepted true h a is = elim (same_or_other a (canon_head h)) [
  | inl same ↦ inl (subst (heads_of true h) (sym same) (canonical_head_made h (head_fits h a is)))
  | inr other ↦ inr (λ c. other (canonical_head_is h a c).1)
]

-- ---- a list of numbers

is_array : (h : Head) → ((n : ℕ) × (h ≡ Array n)) ⊎ ((n : ℕ) → h ≡ Array n → ⊥)
is_array (Array n) = inl (n, refl)
is_array Nil = inr (λ n e. absurd (cc))
is_array (Truth t) = inr (λ n e. absurd (cc))
is_array (Whole z) = inr (λ n e. absurd (cc))
is_array (F32Bits k) = inr (λ n e. absurd (cc))
is_array (F64Bits k) = inr (λ n e. absurd (cc))
is_array (Text k) = inr (λ n e. absurd (cc))
is_array (Bin k) = inr (λ n e. absurd (cc))
is_array (Map k) = inr (λ n e. absurd (cc))
is_array (Ext k tag) = inr (λ n e. absurd (cc))

other_none : (h : Head) (s : List ℕ) (e : Error) → ((n : ℕ) → h ≡ Array n → ⊥) → not_buffer h s e → IsNoEnd e
other_none (Array n) s e other r = absurd (other n refl)
other_none h s e other r = absurd r

item_inside : (strict : Bool) (n : ℕ) (e : Error) (xs : List ℕ) → IsBytes xs → RefusesItem strict n e xs → IsEnd e → UnfinishedIn false n xs
item_inside strict n e xs own r end =
    let b = r.before in
    let own_rest = (bytes_parts b.bytes b.rest (subst IsBytes b.front own)).1 in
    elim r.refused [
      | inl next ↦
          let i = head_inside strict (λ m h e. e ≡ other_number m h) (λ m h e is. not_this e (other_number m h) (number_none m h) is) b.rest e own_rest next.2 end in
          let few = next.0 in
          let left : ℕ = n - r.many in
          let all : count b.trees + left ≡ n = (let m = b.many in omega (arith, few, m)) in
          subst (λ z. UnfinishedIn false z xs) all (subst (UnfinishedIn false (count b.trees + left)) (sym b.front)
          (row_after strict false left b.trees b.bytes b.rest b.spelled (unfinished_first left b.rest (omega (arith, few)) i)))
      | inr none ↦ absurd (memory_no_end e none.2 end)
    ]

list_inside : (strict : Bool) (room n : ℕ) (m : Marker) (e : Error) (xs : List ℕ) → IsBytes xs → (s : BeginsWith strict m (Array n) xs)
    → RefusesListOf strict room n e s.rest → IsEnd e → IsBeginning xs
list_inside strict room n m e xs own s r end =
    let after = (bytes_parts (s.byte ∷ s.following) s.rest (subst IsBytes s.front own)).1 in
    elim (cases_lt 1 room) [
      | inl deep ↦ subst IsBeginning (sym s.front)
          (unfinished_list strict false n (s.byte ∷ s.following) s.rest s.is_head after (item_inside strict n e s.rest after (r.item deep) end))
      | inr flat ↦ absurd (depth_no_end e (r.deep flat) end)
    ]

-- ---- and bytes

module _ (strict : Bool) (room : ℕ) (xs : List ℕ) (e : Error) (own : IsBytes xs) (r : ExactOfContent strict IsBufferHead not_raw not_buffer xs e)
    (lists : (m : Marker) (n : ℕ) → (s : BeginsWith strict m (Array n) xs) → RefusesListOf strict room n e s.rest) (end : IsEnd e) where
  start_inside : (m : Marker) (h : Head) → FirstHead xs → BeginsWith strict m h xs → IsBeginning xs
  start_inside m h f s = elim (is_array h) [
    | inl a ↦ let t = subst (λ z. BeginsWith strict m z xs) a.1 s in list_inside strict room a.0 m e xs own t (lists m a.0 t) end
    | inr other ↦ absurd (whole_payload strict IsBufferHead not_raw not_buffer m h xs e neither (λ p w q. other_none h p e other q) s
        (long_start strict m h xs f s) r end)
  ]

  bytes_inside : IsBeginning xs
  bytes_inside = elim (first_head xs own) [
    | inl i ↦ i
    | inr (inl starts_none) ↦ no_head xs e own (r.ends (λ m h s. starts_none m h (any_start strict m h xs s))) end
    | inr (inr f) ↦ let t = f.starts in elim (accepted strict f.head (t.byte ∷ t.following) t.is_head) [
      | inl is ↦ start_inside f.marker f.head f
          (record { byte = t.byte; following = t.following; rest = t.rest; front = t.front; is_marker = t.is_marker; is_head = is })
      | inr wide ↦ absurd (head_there f.marker f.head xs e t (r.ends (wide_starts_none strict f.head t.byte t.following xs t.rest t.front t.is_head wide)) end)
    ]
  ]

pub buffer_inside : AlwaysInside (λ s before after known e. RefusesContent s.strict IsBufferHead not_raw not_buffer before after known e
    × RefusesListIn s.strict s.room before after known e)
unfolding RefusesContent RefusesListIn
buffer_inside s n xs e own r end = bytes_inside s.strict s.room xs e own (r.0.0 refl) (r.1 refl) end
