-- Frames are distinct: two that begin the same bytes have the same content.
use Rattle.std.specs.Prelude.{[], ◌++◌, ◌<◌, ◌^◌, length, take, drop, IsSomeAnd}
use Rattle.rmp_decode.specs.Refusing.{Refusals, Setting}
use Rattle.rmp_decode.specs.State.{limit_at}
use Rattle.std.proofs.Common.{◌≡◌, ◌≢◌, ◌∙◌, ◌-◌, max, ℕ, List, Option, Some, refl, sym, ap, subst, arith, append_assoc}
use Rattle.rmp_encode.specs.Calls.{IsSpelled, ToVecFails}
use Rattle.rmp_encode.specs.Trees.{HasTree}
use Rattle.rmp_encode.specs.declared.error.Error as encode
use Rattle.rmp_encode.specs.declared.error.Error.TheVariants as encode_errors
use Rattle.rmp_serde.proofs.CanonicalReads.{fails_without}
use Rattle.rmp_serde.specs.Read.{AllTextsUtf8}
use Rattle.std.proofs.lemmas.List.{append-nil, take_at, drop_at}
use Rattle.std.proofs.lemmas.Nat.{from_be_bytes-to_be_bytes_4}
use Rattle.std.specs.Int.{w32, to_be_bytes, from_be_bytes}
use Rattle.rmp_wire.specs.Msg.{Msg, depth}
use Rattle.rmp_wire.specs.Spelling.{canon, Fits}
use Rattle.rmp_wire.proofs.Spellings.{canon_spells}
use Rattle.rmp_wire.proofs.Unique.{spelled_once}
use Rattle.rmp_decode.specs.Law.{Readable}
use Rattle.rmp_decode.specs.declared.error.Error.TheVariants.{OutOfMemory}
use Rattle.example_frames.specs.declared.frames.Refusal.{Refusal}
use Rattle.example_frames.specs.declared.frames.Refusal.TheVariants.{Cut, TooLong, NotRequest, Longer}
use Rattle.example_frames.specs.declared.request.Request.{Request}
use Rattle.example_frames.specs.Frames.{SaysLength, message_of, IsFrame, Asks, WrongFor}

-- bytes say one length
pub one_length : (n k : ℕ) (x y bytes : List ℕ) → SaysLength n x bytes → SaysLength k y bytes → (n ≡ k) × (x ≡ y)
one_length n k x y bytes p q =
    let e : to_be_bytes w32 n ++ x ≡ to_be_bytes w32 k ++ y = sym p.1 ∙ q.1 in
    let front : to_be_bytes w32 n ≡ to_be_bytes w32 k =
    sym (take_at (to_be_bytes w32 n) x 4 refl) ∙ ap (take 4) e ∙ take_at (to_be_bytes w32 k) y 4 refl in (
      sym (from_be_bytes-to_be_bytes_4 n p.0) ∙ ap (from_be_bytes w32) front ∙ from_be_bytes-to_be_bytes_4 k q.0,
      sym (drop_at (to_be_bytes w32 n) x 4 refl) ∙ ap (drop 4) e ∙ drop_at (to_be_bytes w32 k) y 4 refl,
    )

-- what the first bytes say of a frame that a peer wrote
written : (r : Request) (frame rest bytes : List ℕ) → IsFrame r frame → bytes ≡ frame ++ rest
    → SaysLength (length (canon (message_of r))) (canon (message_of r) ++ rest) bytes
written r frame rest bytes f e =
    (f.is.0, e ∙ ap (λ t. t ++ rest) f.is.1 ∙ append_assoc (to_be_bytes w32 (length (canon (message_of r)))) (canon (message_of r)) rest)

-- the frame that is taken is the one that was written
pub same_frame : (r : Request) (frame rest bytes body left : List ℕ) → IsFrame r frame → bytes ≡ frame ++ rest → SaysLength (length body) (body ++ left) bytes
    → (body ≡ canon (message_of r)) × (left ≡ rest)
same_frame r frame rest bytes body left f e s =
    let one = one_length _ _ _ _ bytes s (written r frame rest bytes f e) in (
      sym (take_at body left (length (canon (message_of r))) one.0) ∙ ap (take (length (canon (message_of r)))) one.1
          ∙ take_at (canon (message_of r)) rest _ refl,
      sym (drop_at body left (length (canon (message_of r))) one.0) ∙ ap (drop (length (canon (message_of r)))) one.1
          ∙ drop_at (canon (message_of r)) rest _ refl,
    )

-- what is in it spells the request's message, and nothing more
pub asks_that : (r : Request) (P : Msg → Type 0) (more body : List ℕ) → Fits (message_of r) → body ≡ canon (message_of r) → Asks P more body
    → P (message_of r) × (more ≡ [])
asks_that r P more body fits e a =
    let p = spelled_once a.tree (message_of r) a.bytes (canon (message_of r)) more [] a.spelled (canon_spells (message_of r) fits)
    (sym a.is ∙ e ∙ sym (append-nil (canon (message_of r)))) in
    (subst P p.1 a.holds, p.2)

-- what is in a frame that was written isn't wrong
pub never_wrong : (reads : Msg → Request → Type 0) (refuses : Setting → Refusals) (r : Request) (body : List ℕ) (e : Refusal) → Fits (message_of r)
    → body ≡ canon (message_of r) → depth (message_of r) < 16 → reads (message_of r) r → e ≢ NotRequest OutOfMemory → WrongFor reads refuses body e → ⊥
never_wrong reads refuses r body Cut fits b deep it ne w = w
never_wrong reads refuses r body (TooLong n) fits b deep it ne w = w
never_wrong reads refuses r body (NotRequest e) fits b deep it ne w =
    w.none (λ is. ne (ap NotRequest is)) (record {
      bytes = canon (message_of r);
      rest = [];
      tree = message_of r;
      front = b ∙ sym (append-nil (canon (message_of r)));
      spelled = canon_spells (message_of r) fits;
      fits = deep;
      holds = (r, it);
    })
never_wrong reads refuses r body Longer fits b deep it ne (more, some, asks) = some (asks_that r (Readable reads) more body fits b asks).1

-- how deep a new reader reads whose limit was set
pub deep_enough : (room limit : ℕ) → max 1 room ≡ 1024 → limit ≡ 1024 → max 1 (limit_at 16 - (limit - room)) ≡ 16
deep_enough room limit r l = omega (arith, r, l)

some_same : (m n : Msg) → Some m ≡ Some n → m ≡ n
some_same m n e = cc

-- a request whose lengths fit is refused only where memory runs out
pub only_memory : (r : Request) (t : Option Msg) (e : encode.Error) → t ≡ Some (message_of r) → ToVecFails t e → e ≢ encode_errors.OutOfMemory
    → Fits (message_of r) → ⊥
unfolding HasTree
only_memory r t e is f n fits = fails_without t e f n (subst (λ u. IsSomeAnd u Fits) (sym is) fits)

-- the frame that was written
pub is_written : (r : Request) (t : Option Msg) (body frame : List ℕ) → t ≡ Some (message_of r) → IsSpelled t body → AllTextsUtf8 (message_of r)
    → length body < 2 ^ 32 → frame ≡ to_be_bytes w32 (length body) ++ body → IsFrame r frame
is_written r t body frame e s texts short is =
    let m : s.tree ≡ message_of r = some_same _ _ (sym s.is ∙ e) in
    let b : body ≡ canon (message_of r) = s.canonical ∙ ap canon m in
    record {
      fits = subst Fits m s.fits;
      texts = texts;
      is = subst (λ z. SaysLength (length z) z frame) b (short, is);
    }
