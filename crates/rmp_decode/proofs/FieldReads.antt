-- What happened at a read of fields, each once: all that the read promises follows from it.
use Rattle.std.proofs.Common.{◌≡◌, ◌≢◌, ◌∙◌, sym, ap, subst, refl, inl, inr, ◌⊎◌, ℕ, ◌-◌, ◌<◌, ◌≤◌, arith, List, [], ◌∷◌, length, Bool, true, false}
use Rattle.std.proofs.Common.{Option, None, Some, Result, Ok, Err}
use Rattle.std.proofs.Math.ListN.{get_or}
use Rattle.std.specs.Borrow.{Bor}
use Rattle.std.specs.Prelude.{IfErr}
use Rattle.rmp_wire.specs.declared.head.Head.TheVariants.{Array}
use Rattle.rmp_wire.specs.declared.source.Source.{Ghosts}
use Rattle.rmp_wire.specs.Canonical.{SpellsAs}
use Rattle.rmp_wire.specs.Msg.{Msg, Msgs, no_items, item, Pairs}
use Rattle.rmp_decode.specs.BufferedHeads.{ConsumesHead}
use Rattle.rmp_decode.specs.FieldReads.{ReadsFields, ReadsAhead, ReadsNamePart}
use Rattle.rmp_decode.specs.FieldRefusing.{PartsHold, FieldRefused, IsMet, FillRefused, PairFails, Lacks, RefusesFields, missing_place}
use Rattle.rmp_decode.specs.Fields.{OfFields, AreBlank, blank, given_all, Fills, IsFull, FailsToOpenFields, name_refusal, pass_refusal}
use Rattle.rmp_decode.specs.Law.{Lawful, Readable, TakesHead}
use Rattle.rmp_decode.specs.MapRefusing.{OpenedMap, AfterPairs, EntryRefused}
use Rattle.rmp_decode.specs.Maps.{map_inner, OpensMap, TakesKey, TakesValue}
use Rattle.rmp_decode.specs.Names.{IsName, bytes_of}
use Rattle.rmp_decode.specs.NamesAhead.{IsBelow}
use Rattle.rmp_decode.specs.Parts.{FailsPart}
use Rattle.rmp_decode.specs.Refusing.{Setting, Part, Refusals, ReadsAs, setting_of, inside, Opened, AfterMessage, RefusesParts, RefusesTuple}
use Rattle.rmp_decode.specs.Refusing.{PartsRefused, Excess}
use Rattle.rmp_decode.specs.Seq.{OfRow, SpellsRow, seq_head, inner_of, Opens, FailsToOpen, TakesParts, FailsParts}
use Rattle.rmp_decode.specs.State.{left, faults_of}
use Rattle.rmp_decode.specs.Words.{field_of, fitting}
use Rattle.rmp_decode.specs.declared.access.fields.Fields.{Ghosts as Fields}
use Rattle.rmp_decode.specs.declared.access.map.MapAccess.{MapAccess}
use Rattle.rmp_decode.specs.declared.access.seq.SeqAccess.{SeqAccess}
use Rattle.rmp_decode.specs.declared.deserializer.Deserializer.{Deserializer}
use Rattle.rmp_decode.specs.declared.error.Error.{Error}
use Rattle.rmp_decode.specs.declared.error.Error.TheVariants.{LengthMismatch, OutOfMemory, Syntax}
use Rattle.rmp_decode.specs.declared.text.Text.TheVariants.{DuplicateField}
use Rattle.rmp_decode.proofs.Laws.{lawful_ok}
use Rattle.rmp_decode.proofs.ListRefusals.{Held, parts_wrong, parts_excess}
use Rattle.rmp_decode.proofs.Maps.{flat, in_pairs, count-flat, depth-flat, settled}
use Rattle.rmp_decode.proofs.Meeting.{blank_blank}
use Rattle.rmp_decode.proofs.Missing.{missing_named, tells_name}
use Rattle.rmp_decode.proofs.Names.{length_bytes}
use Rattle.rmp_decode.proofs.NamesAhead.{below_named, below_unnamed, key_named_by}
use Rattle.rmp_decode.proofs.Seqs.{seq_unopened, seq_parts, seq_done, seq_over}
use Rattle.rmp_decode.proofs.Settings.{setting_same}
use Rattle.rmp_decode.proofs.Structs.{FieldsRun, Gives, of_row, is_of_row, gives_counted, lawful_slow, fields_unopened, fields_start, fields_step}
use Rattle.rmp_decode.proofs.Structs.{fields_pass}
use Rattle.rmp_decode.proofs.Structs.{fields_done, fields_key, fields_missing, fields_value, fields_passed}

-- ---- as the elements of a list, whether they are those of a struct or of a tuple

-- trees that are all there, as items
given_held : (s : Setting) (ps : List Part) (ms : Msgs) → PartsHold s ps (given_all ms) → Held s ps ms
given_held s [] no_items h = tt
given_held s [] (item m ms) h = h
given_held s (p ∷ ps) no_items h = h
given_held s (p ∷ ps) (item m ms) h = (h.0, given_held s ps ms h.1)

-- what the read promises after the head
pub record ListRead {R C V S : Type 0} (g : Ghosts R) (human lends : Bool) (F : Fields V R S) (old last : Deserializer R C) (result : Result V Error) : Type
    0 where
  pub law : Lawful g (λ m v. OfRow (Gives (F.reads human lends) v) m) old last result
  pub refused : IfErr result (Opened (setting_of human lends old)
      (λ b i. RefusesParts b i (faults_of g old) (faults_of g last) F.parts (Excess (length F.parts))) (left g old))
  pub memory : F.takes_memory lends ≡ false → IfErr result (λ e. e ≢ OutOfMemory)

module _ {R C V S : Type 0} {g : Ghosts R} {human lends : Bool} {F : Fields V R S} {old : Deserializer R C} {start now : SeqAccess R C}
    {last : Deserializer R C}
    (o : Opens g old start) where
  -- one of them was refused
  pub list_refused : {e : Error} → FailsParts g (Gives (F.reads human lends)) start now e → PartsRefused g human lends F.parts start now e
      → (F.takes_memory lends ≡ false → e ≢ OutOfMemory) → last ≡ now.de.now → ListRead g human lends F old last (Err e)
  list_refused {e} f w m q = record {
    law = seq_parts g (Gives (F.reads human lends)) old start now o last e f q;
    refused = parts_wrong g human lends old start o (faults_of g last) e F.parts now (ap (faults_of g) q) w;
    memory = m;
  }

  module _ {v : V} (t : TakesParts g (Gives (F.reads human lends)) start now v) where
    -- they are all
    pub list_done : now.left ≡ 0 → last ≡ record now.de.now { failed = false } → ListRead g human lends F old last (Ok v)
    list_done z q =
        record { law = seq_done g (Gives (F.reads human lends)) old start now t.trees o t.run last v t.value z q; refused = tt; memory = λ _. tt }

    -- there are more
    pub list_over : {e : Error} → 0 < now.left → e ≡ LengthMismatch (now.count - now.left) → last ≡ now.de.now → ListRead g human lends F old last (Err e)
    list_over {e} l w q =
        let i = inside (setting_of human lends old) (inner_of start) in
        let counts = gives_counted (F.reads human lends) F.count (F.counted human lends) in
        record {
          law = seq_over g (Gives (F.reads human lends)) old start now t.trees o t.run last e l q F.count counts v t.value;
          refused = parts_excess g human lends old start o (faults_of g last) e F.parts now t.trees t.run
              (given_held i F.parts t.trees (F.given i (given_all t.trees) v t.value)) (counts v t.trees t.value ∙ sym F.many) l w;
          memory = λ _ m. absurd (cc);
        }

-- ---- of a list whose head was taken

-- a reader after the head, seen as the access to the elements
abbrev in_list : {R C : Type 0} → Deserializer R C → ℕ → ℕ → ℕ → SeqAccess R C
in_list d inner n all = record {
  de = record { ref_ptr = (0, 0); ghost_name = 0; now = d };
  left = n;
  count = all;
  inner = inner;
  bytes = false;
  sound = true;
}

row_opened : {R C : Type 0} {g : Ghosts R} {old mid : Deserializer R C} {n k : ℕ} → n ≡ k → 1 < old.room → ConsumesHead g (Array n) old mid
    → Opens g old (in_list mid (mid.room - 1) k k)
row_opened {g} {old} {mid} many deep front =
    let room = front.begun.stays.room in
    record {
      fresh = front.begun.fresh;
      head = subst (λ z. TakesHead g (Array z) old mid) many front.begun.ok;
      count = refl;
      room = omega (arith, deep, room);
      stays = front.begun.stays;
      faults_same = front.begun.sound;
      opened = record { sound = refl; marked = front.begun.failed; clean = front.begun.clean };
    }

row_list : {R C V S : Type 0} {g : Ghosts R} {human lends : Bool} {F : Fields V R S} {old mid new : Deserializer R C} {n : ℕ} → n ≡ F.count → 1 < old.room
    → ConsumesHead g (Array n) old mid → (r : Result V Error) → ReadsAhead g human lends F mid new r → ListRead g human lends F old new r
row_list {F} {mid} many deep front (Ok v) h =
    let r = h.ok in
    list_done {now = in_list (record r.last { failed = true; room = mid.room }) (mid.room - 1) 0 F.count} (row_opened many deep front)
    (record {
      trees = r.row.trees;
      run = record {
        bytes = r.row.bytes;
        takes = r.row.takes;
        spelled = r.row.spelled;
        fits = r.row.fits;
        many = omega (arith, r.row.many);
        same_reference = refl;
        count_same = refl;
        inner = refl;
        bytes_same = refl;
        stays = record { config = r.row.stays.config; room = refl; limit = r.row.stays.limit; strict = r.row.stays.strict; place = r.row.stays.place };
        faults_same = r.row.faults_same;
        still = record { sound = refl; marked = refl; clean = r.row.clean };
      };
      value = r.row.holds;
    }) refl (r.is ∙ ap (λ f. record r.last { failed = f; room = mid.room }) r.row.ready)
row_list {g} {human} {lends} {F} {mid} many deep front (Err e) h =
    let r = h.err in
    list_refused {now = in_list (record r.last { room = mid.room }) (mid.room - 1) 0 F.count} (row_opened many deep front)
    (record {
      stays = record { config = r.row.stays.config; room = refl; limit = r.row.stays.limit; strict = r.row.stays.strict; place = r.row.stays.place };
      failed = r.row.failed;
      err = r.row.err;
    }) (subst (λ z. PartsRefused g human lends F.parts (in_list mid (mid.room - 1) F.count F.count) (in_list z (mid.room - 1) 0 F.count) e) r.is r.refused)
    r.memory r.is

-- ---- of a tuple

-- it can't be opened
pub tuple_unopened : {R C V S : Type 0} {g : Ghosts R} {human lends : Bool} {old last : Deserializer R C} {e : Error} (F : Fields V R S)
    → FailsToOpen g old last e
    → ReadsAs g human lends (F.takes_memory lends) (λ m v. OfRow (Gives (F.reads human lends) v) m) (RefusesTuple F.parts) old last (Err e)
tuple_unopened {g} {human} {lends} {old} {last} {e} F f =
    record { law = seq_unopened g (Gives (F.reads human lends)) old last e f; refused = λ o. inl (f.exact o); memory = λ _. f.memory }

pub tuple_read : {R C V S : Type 0} {g : Ghosts R} {human lends : Bool} {F : Fields V R S} {old last : Deserializer R C} (r : Result V Error)
    → ListRead g human lends F old last r
    → ReadsAs g human lends (F.takes_memory lends) (λ m v. OfRow (Gives (F.reads human lends) v) m) (RefusesTuple F.parts) old last r
tuple_read (Ok v) h = record { law = h.law; refused = λ _. tt; memory = h.memory }
tuple_read (Err e) h = record { law = h.law; refused = λ _. inr h.refused; memory = h.memory }

pub row_tuple : {R C V S : Type 0} {g : Ghosts R} {human lends : Bool} {F : Fields V R S} {old mid new : Deserializer R C} {n : ℕ} {r : Result V Error}
    → n ≡ F.count → 1 < old.room → ConsumesHead g (Array n) old mid → ReadsAhead g human lends F mid new r
    → ReadsAs g human lends (F.takes_memory lends) (λ m v. OfRow (Gives (F.reads human lends) v) m) (RefusesTuple F.parts) old new r
row_tuple {r} many deep front h = tuple_read r (row_list many deep front r h)

-- ---- of a struct

-- a key whose name is at that place
pub named : {R C : Type 0} {g : Ghosts R} {mid key : MapAccess R C} {place : ℕ} (names : List (Bor (List ℕ))) → place < length names
    → TakesKey g (IsBelow (bytes_of names)) mid key place → TakesKey g (IsName (bytes_of names)) mid key (Some place)
named {g} {mid} {key} {place} names l = key_named_by g names mid key place (Some place) (below_named (length names) place l)

-- a key of no name
pub unnamed : {R C : Type 0} {g : Ghosts R} {mid key : MapAccess R C} {place : ℕ} (names : List (Bor (List ℕ))) → length names ≤ place
    → TakesKey g (IsBelow (bytes_of names)) mid key place → TakesKey g (IsName (bytes_of names)) mid key None
unnamed {g} {mid} {key} {place} names l = key_named_by g names mid key place None (below_unnamed (length names) place l)

module _ {R C V S : Type 0} {g : Ghosts R} (F : Fields V R S) (human lends : Bool) {old : Deserializer R C} (names : List (Bor (List ℕ)))
    (many : length names ≡ F.count) where
  -- it can't be opened
  pub struct_unopened : {last : Deserializer R C} {e : Error} → FailsToOpenFields g old last e
      → ReadsFields g human lends F (bytes_of names) old last (Err e)
  unfolding RefusesFields
  struct_unopened {last} {e} f = record {
    law = fields_unopened g (bytes_of names) (F.reads human lends) old last e f;
    refused = λ u. inl (f.exact u);
    memory = λ _ _ m. absurd (f.memory m);
  }

  -- it is a list
  pub struct_list : {start : SeqAccess R C} {last : Deserializer R C} → Opens g old start → (r : Result V Error) → ListRead g human lends F old last r
      → ReadsFields g human lends F (bytes_of names) old last r
  unfolding RefusesFields
  struct_list {last} o (Ok v) h = record {
    law = lawful_ok g (λ m v. OfRow (Gives (F.reads human lends) v) m) (λ m v. OfFields (bytes_of names) (λ fs. F.reads human lends fs v) m) old last v v
        (of_row (bytes_of names) (F.reads human lends) F.count (F.counted human lends) (length_bytes names ∙ many) v) h.law;
    refused = λ _. tt;
    memory = λ _ _. tt;
  }
  struct_list {start} {last} o (Err e) h = record {
    law = lawful_slow g (λ m v. OfRow (Gives (F.reads human lends) v) m) (λ m v. OfFields (bytes_of names) (λ fs. F.reads human lends fs v) m) old
        start.de.now
        last e (seq_head start.bytes start.left) o.head (is_of_row (bytes_of names) (F.reads human lends) start.bytes start.left) h.law;
    refused = λ _. inr (inl h.refused);
    memory = λ _ t m. absurd (h.memory t m);
  }

  pub row_struct : {mid new : Deserializer R C} {r : Result V Error} → 1 < old.room → ConsumesHead g (Array (length names)) old mid
      → ReadsAhead g human lends F mid new r → ReadsFields g human lends F (bytes_of names) old new r
  row_struct {r} deep front h = struct_list (row_opened many deep front) r (row_list many deep front r h)

  -- ---- it is a map, of whose pairs some were read

  pub struct_start : {a : MapAccess R C} {s : S} → OpensMap g old a
      → ((human lends : Bool) (fs : List (Option Msg)) → AreBlank F.count fs → F.holds human lends fs s)
      → FieldsRun g (bytes_of names) (F.holds human lends) a a s
  struct_start {a} {s} o h = fields_start g (bytes_of names) (F.holds human lends) a s o.at_key o.opened
      (h human lends (blank (bytes_of names)) (blank_blank (bytes_of names) F.count (length_bytes names ∙ many)))

  module _ {start mid : MapAccess R C} {slots : S} (o : OpensMap g old start) (r : FieldsRun g (bytes_of names) (F.holds human lends) start mid slots) where
    abbrev Inner : Setting
    Inner = inside (setting_of human lends old) (map_inner start)

    -- after the head of the map
    map_after : (P : Setting → ℕ → Option (List ℕ) → Error → Type 0) (e : Error) → P Inner start.left (left g start.de.now) e
        → OpenedMap (setting_of human lends old) P (left g old) e
    map_after P e w = record {
      inner = map_inner start;
      many = start.left;
      bytes = o.head.bytes;
      rest = left g start.de.now;
      takes = o.head.takes;
      is_head = o.head.is_head;
      room_of = o.room;
      refused = w;
    }

    -- after the pairs so far
    pairs_after : (Q : Pairs → Type 0) (P : ℕ → Option (List ℕ) → Error → Type 0) (e : Error) → Q r.trees → P mid.left (left g mid.de.now) e
        → AfterPairs Inner Q start.left P (left g start.de.now) e
    pairs_after Q P e h w = record {
      bytes = r.run.bytes;
      rest = left g mid.de.now;
      trees = r.trees;
      still = mid.left;
      takes = r.run.takes;
      spelled = in_pairs old.strict r.trees r.run.bytes (subst (λ z. SpellsRow (SpellsAs z) r.run.bytes (flat r.trees)) o.stays.strict r.run.spelled);
      many = omega (arith, r.run.many, count-flat r.trees, settled mid r.at_key, settled start o.at_key);
      fits = omega (arith, r.run.fits, depth-flat r.trees);
      holds = h;
      refused = w;
    }

    after_met : (after : ℕ) (e : Error) → PairFails (bytes_of names) F.parts r.met_trees Inner (faults_of g old) after mid.left (left g mid.de.now) e
        ⊎ Lacks (bytes_of names) F.needed r.met_trees mid.left e
        → RefusesFields (bytes_of names) F.needed F.parts (setting_of human lends old) (faults_of g old) after (left g old) e
    unfolding RefusesFields
    after_met after e w = inr (inr (map_after _ e (r.met_trees, pairs_after _ _ e (r.is_met, F.held Inner r.met_trees slots r.held) w)))

    mid_room : map_inner mid ≡ map_inner start
    mid_room = let q = r.run.inner in omega arith

    -- all are there
    pub struct_done : {last : Deserializer R C} {v : V} → F.reads human lends r.met_trees v → mid.left ≡ 0 → last ≡ record mid.de.now { failed = false }
        → ReadsFields g human lends F (bytes_of names) old last (Ok v)
    struct_done {last} {v} h z e = record {
      law = fields_done g (bytes_of names) (F.holds human lends) (F.reads human lends) old start mid o slots r last v h z e;
      refused = λ _. tt;
      memory = λ _ _. tt;
    }

    -- a field is missing
    pub struct_missing : {last : Deserializer R C} {e : Error} (n : ℕ) (d : Bor (List ℕ)) → mid.left ≡ 0 → ((v : V) → F.reads human lends r.met_trees v → ⊥)
        → missing_place F.needed r.met_trees ≡ Some n → n < F.count → field_of e ≡ Some (fitting (get_or names n d).now) → last ≡ mid.de.now
        → ReadsFields g human lends F (bytes_of names) old last (Err e)
    struct_missing {last} {e} n d z f p l s q = record {
      law = fields_missing g (bytes_of names) (F.holds human lends) (F.reads human lends) old start mid o slots r last e z q f;
      refused = λ _. after_met (faults_of g last) e
          (inr (z, tells_name _ _ e (missing_named names F.needed r.met_trees n d p (omega (arith, l, many))) s));
      memory = λ _ _ m. let t = subst (λ x. field_of x ≡ Some (fitting (get_or names n d).now)) m s in absurd (cc);
    }

    -- the next key was refused
    pub struct_key : {last : Deserializer R C} {e : Error} (now : MapAccess R C) → 0 < mid.left
        → ReadsNamePart g human lends (bytes_of names) (map_inner mid) mid.de.now now.de.now (Err e) → last ≡ now.de.now
        → ReadsFields g human lends F (bytes_of names) old last (Err e)
    struct_key {last} {e} now l h q =
        let s = setting_same human lends mid.de.now old (map_inner mid) (map_inner start) (r.run.stays.strict ∙ o.stays.strict) mid_room in
        let w1 = subst (λ z. name_refusal z (faults_of g mid.de.now) (faults_of g now.de.now) (left g mid.de.now) e) s h.refused in
        let w2 = subst (λ z. name_refusal Inner z (faults_of g now.de.now) (left g mid.de.now) e) (r.run.faults_same ∙ o.faults_same) w1 in
        let w3 = subst (λ z. name_refusal Inner (faults_of g old) z (left g mid.de.now) e) (sym (ap (faults_of g) q)) w2 in
        record {
          law = fields_key g (bytes_of names) (F.holds human lends) (F.reads human lends) old start mid o slots r last now e l h.err q;
          refused = λ _. after_met (faults_of g last) e (inl (l, inl w3));
          memory = λ y _ m. absurd (h.memory y m);
        }

    module _ {key : MapAccess R C} {k : Option ℕ} (t : TakesKey g (IsName (bytes_of names)) mid key k) where
      -- how the value of the key that was read last is
      at_value : (P : Setting → Refusals) (now : MapAccess R C) (e : Error) → EntryRefused g human lends P key now e
          → P Inner (faults_of g old) (faults_of g now.de.now) (left g key.de.now) e
      at_value P now e h =
          let room : map_inner key ≡ map_inner start = let a = t.inner in let b = r.run.inner in omega arith in
          let s = setting_same human lends key.de.now old (map_inner key) (map_inner start) (t.part.stays.strict ∙ r.run.stays.strict ∙ o.stays.strict) room
          in
          let w1 = subst (λ z. P z (faults_of g key.de.now) (faults_of g now.de.now) (left g key.de.now) e) s h in
          subst (λ z. P Inner z (faults_of g now.de.now) (left g key.de.now) e) (t.part.faults_same ∙ r.run.faults_same ∙ o.faults_same) w1

      -- after the key
      key_after : (Q : Msg → Type 0) (P : Option (List ℕ) → Error → Type 0) (e : Error) → Q t.part.tree → P (left g key.de.now) e
          → AfterMessage Inner Q P (left g mid.de.now) e
      key_after Q P e h w = record {
        bytes = t.part.bytes;
        rest = left g key.de.now;
        tree = t.part.tree;
        takes = t.part.takes;
        spelled = subst (λ z. SpellsAs z t.part.bytes t.part.tree) (r.run.stays.strict ∙ o.stays.strict) t.part.spelled;
        fits = omega (arith, t.part.fits, mid_room);
        holds = h;
        refused = w;
      }

    -- a key names a field
    module _ {key : MapAccess R C} {place : ℕ} (t : TakesKey g (IsName (bytes_of names)) mid key (Some place))
        (m : key.de.ghost_name ≡ mid.de.ghost_name) where
      -- which was read
      pub struct_step : {now : MapAccess R C} {next : S} → Fills g (F.holds human lends) place key now slots next → now.de.ghost_name ≡ key.de.ghost_name
          → FieldsRun g (bytes_of names) (F.holds human lends) start now next
      struct_step {now} {next} f n = fields_step g (bytes_of names) (F.holds human lends) start mid key now slots r place next t m f n

      -- which was refused, or read before
      pub struct_value : {last : Deserializer R C} {e : Error} (now : MapAccess R C)
          → FailsPart g (λ m (u : Unit {0}). F.takes human lends place m) (map_inner key) key.de.now now.de.now e
          ⊎ IsFull (F.holds human lends) place key now slots
          → FillRefused g human lends (F.holds human lends) F.parts place key now slots e → (F.takes_memory lends ≡ false → e ≢ OutOfMemory)
          → last ≡ now.de.now → ReadsFields g human lends F (bytes_of names) old last (Err e)
      struct_value {last} {e} now h w y q = record {
        law = fields_value g (bytes_of names) (F.holds human lends) (F.reads human lends) old start mid o slots r last key m place t now e
            (F.takes human lends) (F.taken human lends) h q;
        refused = λ _. after_met (faults_of g last) e (inl (
          omega (arith, t.fewer),
          inr (inr (
            place,
            key_after t _ _ e t.part.value (subst (λ z. ((e ≡ Syntax DuplicateField) × IsMet place r.met_trees)
                ⊎ FieldRefused F.parts place Inner (faults_of g old) z (left g key.de.now) e) (sym (ap (faults_of g) q))
                (elim w [ inl f ↦ inl (f.0, f.1.full r.met_trees r.held) | inr f ↦ inr (at_value t (FieldRefused F.parts place) now e f) ])),
          )),
        ));
        memory = λ _ n k. absurd (y n k);
      }

    -- a key names none
    module _ {key : MapAccess R C} (t : TakesKey g (IsName (bytes_of names)) mid key None) (m : key.de.ghost_name ≡ mid.de.ghost_name) where
      -- and its value was passed over
      pub struct_pass : {now : MapAccess R C} {W : Type 0} {reads : Msg → W → Type 0} {v : W} → TakesValue g reads key now v
          → now.de.ghost_name ≡ key.de.ghost_name → FieldsRun g (bytes_of names) (F.holds human lends) start now slots
      struct_pass {now} {reads} {v} f n = fields_pass g (bytes_of names) (F.holds human lends) start mid key now slots r reads v t m f n

      -- or couldn't be
      pub struct_passed : {last : Deserializer R C} {e : Error} {W : Type 0} {reads : Msg → W → Type 0} (now : MapAccess R C)
          → ((m : Msg) → Readable reads m)
          → FailsPart g reads (map_inner key) key.de.now now.de.now e → EntryRefused g human lends pass_refusal key now e → last ≡ now.de.now
          → ReadsFields g human lends F (bytes_of names) old last (Err e)
      struct_passed {last} {e} {W} {reads} now any f w q =
          let p = subst (λ z. pass_refusal Inner (faults_of g old) z (left g key.de.now) e) (sym (ap (faults_of g) q)) (at_value t pass_refusal now e w) in
          record {
            law = fields_passed g (bytes_of names) (F.holds human lends) (F.reads human lends) old start mid o slots r last key m reads any t now e f q;
            refused = λ _. after_met (faults_of g last) e (inl (omega (arith, t.fewer), inr (inl (key_after t _ _ e t.part.value p))));
            memory = λ y _ k. map_after _ e (pairs_after _ _ e tt (key_after t _ _ e t.part.value (p.1 y k)));
          }
