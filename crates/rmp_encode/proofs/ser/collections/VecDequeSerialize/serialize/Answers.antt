use Rattle.std.proofs.Common.{rules, refl, sym, ◌∙◌, map, ◌≡◌, length, [], arith}
use Rattle.std.specs.Prelude.{◌||◌, Err, Ok}
use Rattle.std.specs.VecDeque.Iter.{deque_iter_rest}
use Rattle.std.proofs.lemmas.Grind.{common_steps}
use Rattle.std.proofs.lemmas.List.{length-map}
use Rattle.std.proofs.lemmas.Result.{err_from_is_err_and}
use Rattle.rmp_encode.specs.Ser.{settings_of}
use Rattle.rmp_encode.proofs.Listing.{listing_begun, listing_done, listing_more, listing_none, listing_stop}
use Rattle.rmp_encode.proofs.Lists.{made_list}
use Rattle.rmp_encode.proofs.Promises.{value_taken}
use Rattle.rmp_encode.proofs.ser.collections.VecDequeSerialize.serialize.Goals as goal

pub returns-in_err-put_len : goal.returns-in_err-put_len
returns-in_err-put_len g c =
    let p = err_from_is_err_and c.from_residual.result c.from_residual.ensures.1 in
    let same : c.len.result ≡ length c.args.self.now.items = search rules in
    let w = listing_none g.W.Sink (map (λ x. g.T.Serialize.data_of x (settings_of c.args.se.now).human)) g.T.Serialize.is_value g.T.Serialize.refuses
    (g.T.Serialize.takes_memory (settings_of c.args.se.now)) (Unit {0})
    c.args.self.now.items same (made_list _ _ _ (length-map _ _ ∙ sym same)) c.in_err-put_len.ensures in
    rw (p.1, p.2) (record { writes = w.writes; keeps = w.keeps; long = w.long; error = w.error; value = tt })

pub loop-item-init : goal.loop-item-init
loop-item-init g c = record {
  listing = listing_begun g.W.Sink (map (λ x. g.T.Serialize.data_of x (settings_of c.args.se.now).human)) g.T.Serialize.is_value g.T.Serialize.refuses
      (sym c.into_iter-item-iterator.ensures.into_iter_gives.0) (made_list _ _ _ (length-map _ _ ∙ search rules)) c.in_ok-put_len.ensures;
}

pub loop-item-preserved : goal.loop-item-preserved
loop-item-preserved g c =
    let x = c.in-Some.item.now in
    let e = c.in_ok-serialize.ensures in
    let one = value_taken g.W.Sink g.T.Serialize.takes_memory (λ s. g.T.Serialize.data_of x s.human) (g.T.Serialize.refuses x)
    (g.T.Serialize.is_value x) c.loop-item.se c.serialize.new.se (Ok _) e.writes c.serialize.ensures.keeps tt e.value in
    record {
      listing = listing_more g.W.Sink (map (λ x. g.T.Serialize.data_of x (settings_of c.args.se.now).human)) g.T.Serialize.is_value g.T.Serialize.refuses x
          c.in-Some.ensures.steps refl (λ v. v) one c.loop-item.invariant.listing;
    }

pub returns-in_err-serialize : goal.returns-in_err-serialize
returns-in_err-serialize g c =
    let same : c.len.result ≡ length c.args.self.now.items = search rules in
    let p = err_from_is_err_and c.from_residual-in_err-serialize.result c.from_residual-in_err-serialize.ensures.1 in
    let x = c.in-Some.item.now in
    let e = c.in_err-serialize.ensures in
    let one = value_taken g.W.Sink g.T.Serialize.takes_memory (λ s. g.T.Serialize.data_of x s.human) (g.T.Serialize.refuses x)
    (g.T.Serialize.is_value x) c.loop-item.se c.serialize.new.se (Err _) e.writes c.serialize.ensures.keeps e.error tt in
    let w = listing_stop g.W.Sink (map (λ x. g.T.Serialize.data_of x (settings_of c.args.se.now).human)) g.T.Serialize.is_value g.T.Serialize.refuses (Unit {0}) x c.in-Some.ensures.steps
    (omega (arith, same, c.in_ok-put_len.ensures.fits)) refl (λ h. h) one c.loop-item.invariant.listing in
    rw (p.1, p.2) (record { writes = w.writes; keeps = w.keeps; long = w.long; error = w.error; value = tt })

pub returns : goal.returns
returns g c =
    let same : c.len.result ≡ length c.args.self.now.items = search rules in
    let none : deque_iter_rest c.loop-item.item-iterator ≡ [] = grind (arith, common_steps, c.in-None.ensures.steps.0) in
    let w = listing_done g.W.Sink (map (λ x. g.T.Serialize.data_of x (settings_of c.args.se.now).human)) g.T.Serialize.is_value g.T.Serialize.refuses {m = g.T.Serialize.takes_memory (settings_of c.args.se.now) || g.W.Sink.takes_memory} tt none (omega (arith, same, c.in_ok-put_len.ensures.fits)) refl c.loop-item.invariant.listing in
    record { writes = w.writes; keeps = w.keeps; long = w.long; error = w.error; value = w.value }
