-- What a read of a source's beginning says of the source itself.
use Rattle.std.proofs.Common.{◌≡◌, ◌∙◌, ap, subst, false, ℕ, List, Option, None, Some, Result, Ok, Err, IfOk, IfErr}
use Rattle.std.specs.Prelude.{IfSome}
use Rattle.std.specs.Io.KnownBytes.{Consumes, prepend_known}
use Rattle.rmp_wire.specs.declared.slice.read_reader.ReadReader.{ReadReader}
use Rattle.rmp_wire.specs.declared.source.Source.{Ghosts}
use Rattle.rmp_wire.specs.Canonical.{SpellsAs}
use Rattle.rmp_wire.specs.Copying.{copied_from}
use Rattle.rmp_wire.specs.Msg.{Msg}
use Rattle.rmp_wire.specs.Spelling.{Spells}
use Rattle.rmp_decode.specs.Law.{Begins, Explains, Lawful, Readable, Refuses}
use Rattle.rmp_decode.specs.Readers.{source_of, source_setting, ReadFrom, RefusedBy}
use Rattle.rmp_decode.specs.Refusing.{Setting, Refusals, RefusesAs, setting_of}
use Rattle.rmp_decode.specs.State.{kept_bytes, left, room_of}
use Rattle.rmp_decode.specs.declared.deserializer.Deserializer.{Deserializer}
use Rattle.rmp_decode.specs.declared.deserializer.Kept.{Kept}
use Rattle.rmp_decode.specs.declared.deserializer.Kept.TheVariants.{Nothing}
use Rattle.rmp_decode.specs.declared.error.Error.{Error}

-- with nothing kept back, what is left is what the source has ahead
nothing_kept : (k : Kept) (known : Option (List ℕ)) → k ≡ Nothing → prepend_known (kept_bytes k) known ≡ known
nothing_kept k None e = ap (λ z. prepend_known (kept_bytes z) None) e
nothing_kept k (Some xs) e = ap (λ z. prepend_known (kept_bytes z) (Some xs)) e

-- the source of a reader that copies is the source under it
abbrev pub under : {R : Type 0} → Ghosts R → Ghosts (ReadReader R)
under g = record { ahead = λ r. g.ahead (copied_from r); faults = λ r. g.faults (copied_from r); place = λ r. g.place (copied_from r) }

-- where the bytes are told, a beginning of them spells the tree that was read
pub told_begins : {R V : Type 0} (g : Ghosts R) (reads : Msg → V → Type 0) (old new : R) (v : V) → ReadFrom g reads old new v
    → IfSome (g.ahead old) (Begins Spells (λ m. reads m v) 1024)
told_begins g reads old new v t = begun (g.ahead old) (g.ahead new) t.takes
  where
    begun : (known after : Option (List ℕ)) → Consumes known after t.bytes → IfSome known (Begins Spells (λ m. reads m v) 1024)
    begun None after c = tt
    begun (Some xs) None c = absurd c
    begun (Some xs) (Some ys) c = record { bytes = t.bytes; rest = ys; tree = t.tree; front = c; spelled = t.spelled; fits = t.fits; holds = t.value }

module _ {R C V : Type 0} (g : Ghosts R) (reads : Msg → V
    → Type 0) (old new : Deserializer (ReadReader R) C) (source : R) (kept : old.kept ≡ Nothing) (same : source_of old ≡ source)
    (room : room_of old ≡ 1024) (lenient : old.strict ≡ false) where
  was_ahead : left (under g) old ≡ g.ahead source
  was_ahead = nothing_kept old.kept (g.ahead (source_of old)) kept ∙ ap g.ahead same

  pub read_from : (r : Result V Error) → Lawful (under g) reads old new r → IfOk r (ReadFrom g reads source (source_of new))
  read_from (Ok v) l = record {
    bytes = l.ok.bytes;
    tree = l.ok.tree;
    takes = subst (λ z. Consumes z (g.ahead (source_of new)) l.ok.bytes) was_ahead
        (subst (λ z. Consumes (left (under g) old) z l.ok.bytes) (nothing_kept new.kept (g.ahead (source_of new)) l.clean) l.ok.takes);
    sound = l.sound ∙ ap g.faults same;
    spelled = subst (λ z. SpellsAs z l.ok.bytes l.ok.tree) lenient l.ok.spelled;
    fits = rw room at l.ok.fits;
    value = l.ok.value;
  }
  read_from (Err e) l = tt

  pub refused_by : (refuses : Setting → Refusals) (r : Result V Error) → old.failed ≡ false → Lawful (under g) reads old new r
      → RefusesAs (under g) false false refuses old new r → IfErr r (RefusedBy g reads (refuses source_setting) source (source_of new))
  refused_by refuses (Ok v) ready l p = tt
  refused_by refuses (Err e) ready l p =
      let after = g.faults (source_of new) in
      let e1 = subst (λ z. Explains e (g.faults z) after (Refuses (SpellsAs old.strict) (Readable reads) (room_of old) (left (under g) old))) same
      (l.err ready) in
      let e2 = subst (λ z. Explains e (g.faults source) after (Refuses (SpellsAs old.strict) (Readable reads) (room_of old) z)) was_ahead e1 in
      let e3 = subst (λ z. Explains e (g.faults source) after (Refuses (SpellsAs old.strict) (Readable reads) z (g.ahead source))) room e2 in
      let p1 = subst (λ z. refuses (setting_of false false old) (g.faults z) after (left (under g) old) e) same (p ready) in
      let p2 = subst (λ z. refuses (setting_of false false old) (g.faults source) after z e) was_ahead p1 in
      let p3 = subst (λ z. refuses (record { human = false; lends = false; strict = old.strict; room = z }) (g.faults source) after (g.ahead source) e) room
      p2 in
      record {
        explains = subst (λ z. Explains e (g.faults source) after (Refuses (SpellsAs z) (Readable reads) 1024 (g.ahead source))) lenient e3;
        refused = subst (λ z. refuses (record { human = false; lends = false; strict = z; room = 1024 }) (g.faults source) after (g.ahead source) e) lenient p3;
      }
