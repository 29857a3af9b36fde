use Rattle.std.proofs.Common.{rules, arith, refl, sym, ◌∙◌, ap, drop, drop_of_length-le, ◌+◌, ◌∷◌, map}
use Rattle.std.specs.Prelude.{Err, Ok}
use Rattle.std.proofs.lemmas.List.{drop_more, length-map}
use Rattle.std.proofs.lemmas.Result.{err_from_is_err_and}
use Rattle.rmp_encode.specs.Ser.{settings_of}
use Rattle.rmp_encode.proofs.Listing.{listing_begun, listing_done, listing_more, listing_none, listing_stop}
use Rattle.rmp_encode.proofs.Lists.{made_list}
use Rattle.rmp_encode.proofs.Promises.{value_taken}
use Rattle.rmp_encode.proofs.serializer.Serializer.put_list.Goals as goal

pub returns-in_err-put_len : goal.returns-in_err-put_len
returns-in_err-put_len g c =
    let p = err_from_is_err_and c.from_residual.result c.from_residual.ensures.1 in
    rw (p.1, p.2) (listing_none g.W.Sink (map (λ x. g.T.Serialize.data_of x (settings_of c.args.self.now).human)) g.T.Serialize.is_value g.T.Serialize.refuses
    (g.T.Serialize.takes_memory (settings_of c.args.self.now)) _ c.args.values.now (search rules) (made_list _ _ _ (length-map _ _ ∙ search rules)) c.in_err-put_len.ensures)

pub loop-value-init : goal.loop-value-init
loop-value-init g c = record {
  within = omega arith;
  listing = listing_begun g.W.Sink (map (λ x. g.T.Serialize.data_of x (settings_of c.args.self.now).human)) g.T.Serialize.is_value g.T.Serialize.refuses refl
      (made_list _ _ _ (length-map _ _ ∙ search rules)) c.in_ok-put_len.ensures;
}

pub loop-value-preserved : goal.loop-value-preserved
loop-value-preserved g c =
    let x = c.value-item.result in
    let xs = c.args.values.now in
    let i = c.loop-value.value-index in
    let w = c.in_ok-serialize.ensures in
    let one = value_taken g.W.Sink g.T.Serialize.takes_memory (λ s. g.T.Serialize.data_of x s.human) (g.T.Serialize.refuses x)
    (g.T.Serialize.is_value x) c.loop-value.self c.serialize.new.se (Ok _) w.writes c.serialize.ensures.keeps tt w.value in
    record {
      within = omega arith;
      listing = listing_more g.W.Sink (map (λ y. g.T.Serialize.data_of y (settings_of c.args.self.now).human)) g.T.Serialize.is_value g.T.Serialize.refuses x
          (drop_more xs i x c.loop-value-test.true ∙ ap (λ y. y ∷ drop (i + 1) xs) (sym c.value-item.is)) refl (λ v. v) one
          c.loop-value.invariant.listing;
    }

pub returns-in_err-serialize : goal.returns-in_err-serialize
returns-in_err-serialize g c =
    let p = err_from_is_err_and c.from_residual-in_err-serialize.result c.from_residual-in_err-serialize.ensures.1 in
    let x = c.value-item.result in
    let xs = c.args.values.now in
    let i = c.loop-value.value-index in
    let w = c.in_err-serialize.ensures in
    let one = value_taken g.W.Sink g.T.Serialize.takes_memory (λ s. g.T.Serialize.data_of x s.human) (g.T.Serialize.refuses x)
    (g.T.Serialize.is_value x) c.loop-value.self c.serialize.new.se (Err _) w.writes c.serialize.ensures.keeps w.error tt in
    rw (p.1, p.2) (listing_stop g.W.Sink (map (λ y. g.T.Serialize.data_of y (settings_of c.args.self.now).human)) g.T.Serialize.is_value
    g.T.Serialize.refuses _ x (drop_more xs i x c.loop-value-test.true ∙ ap (λ y. y ∷ drop (i + 1) xs) (sym c.value-item.is))
    (omega (arith, c.in_ok-put_len.ensures.fits)) refl (λ e. e) one c.loop-value.invariant.listing)

pub returns : goal.returns
returns g c = listing_done g.W.Sink (map (λ x. g.T.Serialize.data_of x (settings_of c.args.self.now).human)) g.T.Serialize.is_value g.T.Serialize.refuses _
    (drop_of_length-le c.args.values.now c.loop-value-test.false) (omega (arith, c.in_ok-put_len.ensures.fits)) refl c.loop-value.invariant.listing
