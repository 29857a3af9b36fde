use Rattle.std.proofs.Common.{◌∙◌, sym, refl, inl, inr, Some}
use Rattle.rmp_decode.specs.Names.{bytes_of}
use Rattle.rmp_decode.proofs.ContentErrors.{no_raw_head}
use Rattle.rmp_decode.proofs.Names.{is_key_of, below_length}
use Rattle.rmp_decode.proofs.VariantNames.{place_read, place_refused, place_number, place_other, number_named}
use Rattle.rmp_decode.proofs.deserializer.Deserializer.rest_of_name.Goals as goal

pub returns-in-Ok : goal.returns-in-Ok
returns-in-Ok g c = λ old m h.
    let k = c.in-Some in
    let o = c.in-Ok.ensures in
    place_read g.R.Source _ _ old _ (m, c.args.head) h k.is_text k.len k.ensures _ o.place _ o.ok o.sound

pub returns-in-Err : goal.returns-in-Err
returns-in-Err g c = λ old m h.
    let k = c.in-Some in
    let e = c.in-Err.ensures in
    place_refused g.R.Source _ _ old _ (m, c.args.head) h k.is_text k.len k.ensures _ e.place _ e.err e.exact e.fault e.memory

pub returns-in-Ok-place_in : goal.returns-in-Ok-place_in
returns-in-Ok-place_in g c = λ old m h.
    let o = c.in-Ok-place_in.ensures.ok in
    place_number g.R.Source _ _ old _ (m, c.args.head) h o.0 _ o.1 (below_length c.args.names.now o.0 _ (sym o.2))

pub returns-in-Err-place_in : goal.returns-in-Err-place_in
returns-in-Err-place_in g c = λ old m h.
    let no = no_raw_head c.args.head c.in-None.ensures in
    let e = c.in-Err-place_in.ensures in
    place_other g.R.Source _ _ old _ (m, c.args.head) h _ no (λ t r i. elim (is_key_of (bytes_of c.args.names.now) t (Some r.0) r.1) [
      | inl a ↦ e.err a.0 r.0 (sym i ∙ a.1) (sym (below_length c.args.names.now a.0 _ refl) ∙ number_named c.args.names.now t r.0 a.0 r.1 a.1)
      | inr a ↦ c.in-None.ensures a.0 (sym i ∙ a.1)
    ]) (e.exact no m) e.memory
