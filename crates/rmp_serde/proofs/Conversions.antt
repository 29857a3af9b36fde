-- What is written of a value is read as its tree, and the other way round.
use Rattle.std.proofs.Common.{◌≡◌, ◌∙◌, sym, ap, subst, ℕ, ◌<◌, ◌≤◌, List, [], drop, false, inl, Option, Some, Result, Ok, Err}
use Rattle.std.specs.Prelude.{IfOk, IsSomeAnd, OnOk}
use Rattle.std.specs.Io.Cursor.{cursor_inner, cursor_position}
use Rattle.std.specs.declared.alloc.Global.{Global}
use Rattle.std.specs.declared.io.impls.Cursor.{Cursor}
use Rattle.std.specs.declared.str.Utf8Error.{Utf8Error}
use Rattle.std.specs.declared.vec.Vec.{Vec}
use Rattle.std.proofs.lemmas.List.{append-nil}
use Rattle.rmp_decode.specs.Law.{Begins, Readable}
use Rattle.rmp_decode.specs.Refuse.{Refusal}
use Rattle.rmp_decode.specs.declared.error.Error.{Error}
use Rattle.rmp_decode.specs.declared.error.Error.TheVariants as errors
use Rattle.rmp_encode.specs.Calls.{IsSpelled, ToVecFails}
use Rattle.rmp_encode.specs.declared.error.Error as encode
use Rattle.rmp_encode.specs.declared.error.Error.TheVariants as written
use Rattle.rmp_encode.specs.Trees.{tree_of}
use Rattle.rmp_encode.specs.declared.settings.Settings.{Settings}
use Rattle.rmp_wire.specs.Cursors.{vec_ahead}
use Rattle.rmp_wire.specs.Msg.{Msg, depth}
use Rattle.rmp_wire.specs.Spelling.{Spells}
use Rattle.rmp_round_trip.proofs.RoundLaws.{some_is, written_once}
use Rattle.rmp_serde.specs.Making.{ToValueFails}
use Rattle.rmp_serde.specs.Read.{AllTextsUtf8, ItemsUtf8, reads_value}
use Rattle.rmp_serde.specs.Refuse.{UnreadFor}
use Rattle.rmp_serde.specs.ValueData.{value_data}
use Rattle.rmp_serde.specs.ValueLowers.{value_tree}
use Rattle.rmp_serde.proofs.TreeRefusals.{Blames, blames}

-- what begins what was written is its tree
begun_is : (P : Msg → Type 0) (t : Option Msg) (b : List ℕ) → IsSpelled t b → (r : Begins Spells P 1024 b) → t ≡ Some r.tree
begun_is P t b i r = (written_once t b [] r.bytes r.rest r.tree i r.spelled (append-nil b ∙ r.front)).0

pub tree_read : (t : Option Msg) (b : List ℕ) (v : Msg) → IsSpelled t b → Begins Spells (λ m. reads_value m v) 1024 b → t ≡ Some v
tree_read t b v i r = begun_is (λ m. reads_value m v) t b i r ∙ ap Some (sym r.holds.0)

module _ (t : Option Msg) (b : List ℕ) (i : IsSpelled t b) where
  -- what a refusal says of the tree that was written
  blamed : (e : Error) → Refusal false (UnreadFor false) ItemsUtf8 1024 e b → Blames 1024 e i.tree
  blamed e w = blames 1024 e i.tree b [] b i.spells (sym (append-nil b)) w

  pub too_deep : (e : Error) → e ≡ errors.DepthLimitExceeded → Refusal false (UnreadFor false) ItemsUtf8 1024 e b → IsSomeAnd t (λ m. 1024 ≤ depth m)
  too_deep e is w = subst (λ z. IsSomeAnd z (λ m. 1024 ≤ depth m)) (sym i.is) (subst (λ z. Blames 1024 z i.tree) is (blamed e w))

  pub not_utf8 : (e : Error) (why : Utf8Error) → e ≡ errors.Utf8Error why → Refusal false (UnreadFor false) ItemsUtf8 1024 e b
      → IsSomeAnd t (λ m. AllTextsUtf8 m → ⊥)
  not_utf8 e why is w = subst (λ z. IsSomeAnd z (λ m. AllTextsUtf8 m → ⊥)) (sym i.is) (subst (λ z. Blames 1024 z i.tree) is (blamed e w))

module _ {V : Type 0} (reads : Msg → V → Type 0) (s : Settings) (m : Msg) (b : List ℕ) (i : IsSpelled (tree_of s (Some (value_data m))) b) where
  -- what is read of a value's bytes is read of its tree
  pub value_read : (v : V) → Begins Spells (λ k. reads k v) 1024 b → reads m v × (depth m < 1024)
  value_read v r =
      let same : r.tree ≡ m = some_is (sym (begun_is (λ k. reads k v) _ b i r) ∙ value_tree s m) in
      (subst (λ k. reads k v) same r.holds, subst (λ k. depth k < 1024) same r.fits)

  pub value_unread : (Begins Spells (Readable reads) 1024 b → ⊥) → depth m < 1024 → Readable reads m → ⊥
  value_unread n d h = n (record {
    bytes = b;
    rest = [];
    tree = m;
    front = sym (append-nil b);
    spelled = subst (Spells b) (some_is (sym i.is ∙ value_tree s m)) i.spells;
    fits = d;
    holds = h;
  })

-- all bytes of a new cursor are ahead
pub ahead_is : (cursor : Cursor (Vec ℕ Global)) (bytes : Vec ℕ Global) → cursor_inner cursor ≡ bytes → cursor_position cursor ≡ 0 → vec_ahead cursor ≡ bytes.items
ahead_is cursor bytes e p = λ i. drop (p i) (e i).items

pub on_ok : {V E : Type 0} (r : Result V E) (P : V → Type 0) (Q : Type 0) → ((v : V) → P v → Q) → IfOk r P → OnOk r Q
on_ok (Ok v) P Q f h = f v h
on_ok (Err e) P Q f h = h

-- what isn't written has no such tree
pub fails_so : (t : Option Msg) (e : encode.Error) → ToVecFails t e → ToValueFails t e
fails_so t (written.InvalidValueWrite w) h = h
fails_so t written.UnknownLength h = h
fails_so t (written.InvalidDataModel d) h = h
fails_so t written.DepthLimitExceeded h = h
fails_so t (written.Syntax d) h = inl h
fails_so t written.OutOfMemory h = h
