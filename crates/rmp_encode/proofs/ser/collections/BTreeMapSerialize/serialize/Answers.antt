use Rattle.std.proofs.Common.{rules, refl, sym, ◌≡◌, length, arith}
use Rattle.std.specs.Prelude.{◌||◌, ◌⊎◌, Err, Ok}
use Rattle.std.proofs.lemmas.Result.{err_from_is_err_and}
use Rattle.rmp_encode.specs.Ser.{settings_of}
use Rattle.rmp_encode.specs.Trees.{in_turn}
use Rattle.rmp_encode.proofs.Listing.{listing_begun, listing_done, listing_more, listing_none, listing_stop}
use Rattle.rmp_encode.proofs.Lists.{length-in_turn, made_map}
use Rattle.rmp_encode.proofs.Promises.{entry_refused, entry_stop, entry_then, value_taken}
use Rattle.rmp_encode.proofs.ser.collections.BTreeMapSerialize.serialize.Goals as goal

pub returns-in_err-put_len : goal.returns-in_err-put_len
returns-in_err-put_len g c =
    let p = err_from_is_err_and c.from_residual.result c.from_residual.ensures.1 in
    let same : c.len.result ≡ length c.args.self.now.entries = search rules in
    let w = listing_none g.W.Sink
    (in_turn (λ k. g.K.Serialize.data_of k (settings_of c.args.se.now).human) (λ x. g.V.Serialize.data_of x (settings_of c.args.se.now).human))
    (λ e. g.K.Serialize.is_value e.0 × g.V.Serialize.is_value e.1) (λ entry e. g.K.Serialize.refuses entry.0 e ⊎ g.V.Serialize.refuses entry.1 e)
    (g.K.Serialize.takes_memory (settings_of c.args.se.now) || g.V.Serialize.takes_memory (settings_of c.args.se.now)) (Unit {0}) c.args.self.now.entries same (made_map _ _ _ (length-in_turn (λ k. g.K.Serialize.data_of k (settings_of c.args.se.now).human)
    (λ x. g.V.Serialize.data_of x (settings_of c.args.se.now).human) c.args.self.now.entries _ (sym same))) c.in_err-put_len.ensures in
    rw (p.1, p.2) (record { writes = w.writes; keeps = w.keeps; long = w.long; error = w.error; value = tt })

pub loop-key-init : goal.loop-key-init
loop-key-init g c =
    let same : c.len.result ≡ length c.args.self.now.entries = search rules in
    record {
      listing = listing_begun g.W.Sink (in_turn (λ k. g.K.Serialize.data_of k (settings_of c.args.se.now).human) (λ x. g.V.Serialize.data_of x (settings_of c.args.se.now).human))
          (λ e. g.K.Serialize.is_value e.0 × g.V.Serialize.is_value e.1) (λ entry e. g.K.Serialize.refuses entry.0 e ⊎ g.V.Serialize.refuses entry.1 e)
          (sym c.into_iter-key-iterator.ensures.into_iter_gives.0) (made_map _ _ _ (length-in_turn (λ k. g.K.Serialize.data_of k (settings_of c.args.se.now).human)
          (λ x. g.V.Serialize.data_of x (settings_of c.args.se.now).human) c.args.self.now.entries _ (sym same))) c.in_ok-put_len.ensures;
    }

pub returns-in_err-serialize : goal.returns-in_err-serialize
returns-in_err-serialize g c =
    let same : c.len.result ≡ length c.args.self.now.entries = search rules in
    let p = err_from_is_err_and c.from_residual-in_err-serialize.result c.from_residual-in_err-serialize.ensures.1 in
    let key = value_taken g.W.Sink g.K.Serialize.takes_memory (λ s. g.K.Serialize.data_of c.in-Some.key.now s.human) (g.K.Serialize.refuses c.in-Some.key.now)
    (g.K.Serialize.is_value c.in-Some.key.now) c.loop-key.se c.serialize.new.se (Err _) c.in_err-serialize.ensures.writes c.serialize.ensures.keeps c.in_err-serialize.ensures.error tt in
    let w = listing_stop g.W.Sink
    (in_turn (λ k. g.K.Serialize.data_of k (settings_of c.args.se.now).human) (λ x. g.V.Serialize.data_of x (settings_of c.args.se.now).human))
    (λ e. g.K.Serialize.is_value e.0 × g.V.Serialize.is_value e.1) (λ entry e. g.K.Serialize.refuses entry.0 e ⊎ g.V.Serialize.refuses entry.1 e)
    (Unit {0}) (c.in-Some.key.now, c.in-Some.value.now) c.in-Some.ensures.steps (omega (arith, same, c.in_ok-put_len.ensures.fits)) refl (entry_refused (g.K.Serialize.refuses c.in-Some.key.now) (g.V.Serialize.refuses c.in-Some.value.now) _)
    (entry_stop g.W.Sink g.K.Serialize.takes_memory g.V.Serialize.takes_memory (λ s. g.K.Serialize.data_of c.in-Some.key.now s.human)
    (λ s. g.V.Serialize.data_of c.in-Some.value.now s.human)
    (g.V.Serialize.refuses c.in-Some.value.now) (g.V.Serialize.is_value c.in-Some.value.now) key) c.loop-key.invariant.listing in
    rw (p.1, p.2) (record { writes = w.writes; keeps = w.keeps; long = w.long; error = w.error; value = tt })

pub returns-in_err-serialize-2 : goal.returns-in_err-serialize-2
returns-in_err-serialize-2 g c =
    let same : c.len.result ≡ length c.args.self.now.entries = search rules in
    let p = err_from_is_err_and c.from_residual-in_err-serialize-2.result c.from_residual-in_err-serialize-2.ensures.1 in
    let key = value_taken g.W.Sink g.K.Serialize.takes_memory (λ s. g.K.Serialize.data_of c.in-Some.key.now s.human) (g.K.Serialize.refuses c.in-Some.key.now)
    (g.K.Serialize.is_value c.in-Some.key.now) c.loop-key.se c.serialize.new.se (Ok _) c.in_ok-serialize.ensures.writes c.serialize.ensures.keeps tt c.in_ok-serialize.ensures.value in
    let value = value_taken g.W.Sink g.V.Serialize.takes_memory (λ s. g.V.Serialize.data_of c.in-Some.value.now s.human) (g.V.Serialize.refuses c.in-Some.value.now)
    (g.V.Serialize.is_value c.in-Some.value.now) c.serialize.new.se c.serialize-in-loop-key.new.se (Err _) c.in_err-serialize-2.ensures.writes c.serialize-in-loop-key.ensures.keeps c.in_err-serialize-2.ensures.error tt in
    let w = listing_stop g.W.Sink
    (in_turn (λ k. g.K.Serialize.data_of k (settings_of c.args.se.now).human) (λ x. g.V.Serialize.data_of x (settings_of c.args.se.now).human))
    (λ e. g.K.Serialize.is_value e.0 × g.V.Serialize.is_value e.1) (λ entry e. g.K.Serialize.refuses entry.0 e ⊎ g.V.Serialize.refuses entry.1 e)
    (Unit {0}) (c.in-Some.key.now, c.in-Some.value.now) c.in-Some.ensures.steps (omega (arith, same, c.in_ok-put_len.ensures.fits)) refl (entry_refused (g.K.Serialize.refuses c.in-Some.key.now) (g.V.Serialize.refuses c.in-Some.value.now) _)
    (entry_then g.W.Sink g.K.Serialize.takes_memory g.V.Serialize.takes_memory (λ s. g.K.Serialize.data_of c.in-Some.key.now s.human)
    (λ s. g.V.Serialize.data_of c.in-Some.value.now s.human) (Err _) key value) c.loop-key.invariant.listing in
    rw (p.1, p.2) (record { writes = w.writes; keeps = w.keeps; long = w.long; error = w.error; value = tt })

pub loop-key-preserved : goal.loop-key-preserved
loop-key-preserved g c =
    let key = value_taken g.W.Sink g.K.Serialize.takes_memory (λ s. g.K.Serialize.data_of c.in-Some.key.now s.human) (g.K.Serialize.refuses c.in-Some.key.now)
    (g.K.Serialize.is_value c.in-Some.key.now) c.loop-key.se c.serialize.new.se (Ok _) c.in_ok-serialize.ensures.writes c.serialize.ensures.keeps tt c.in_ok-serialize.ensures.value in
    let value = value_taken g.W.Sink g.V.Serialize.takes_memory (λ s. g.V.Serialize.data_of c.in-Some.value.now s.human) (g.V.Serialize.refuses c.in-Some.value.now)
    (g.V.Serialize.is_value c.in-Some.value.now) c.serialize.new.se c.serialize-in-loop-key.new.se (Ok _) c.in_ok-serialize-2.ensures.writes c.serialize-in-loop-key.ensures.keeps tt c.in_ok-serialize-2.ensures.value in
    record {
      listing = listing_more g.W.Sink (in_turn (λ k. g.K.Serialize.data_of k (settings_of c.args.se.now).human) (λ x. g.V.Serialize.data_of x (settings_of c.args.se.now).human))
          (λ e. g.K.Serialize.is_value e.0 × g.V.Serialize.is_value e.1) (λ entry e. g.K.Serialize.refuses entry.0 e ⊎ g.V.Serialize.refuses entry.1 e)
          (c.in-Some.key.now, c.in-Some.value.now) c.in-Some.ensures.steps refl (λ v. v) (entry_then g.W.Sink g.K.Serialize.takes_memory g.V.Serialize.takes_memory (λ s. g.K.Serialize.data_of c.in-Some.key.now s.human)
          (λ s. g.V.Serialize.data_of c.in-Some.value.now s.human) (Ok _) key value)
          c.loop-key.invariant.listing;
    }

pub returns : goal.returns
returns g c =
    let same : c.len.result ≡ length c.args.self.now.entries = search rules in
    let w = listing_done g.W.Sink (in_turn (λ k. g.K.Serialize.data_of k (settings_of c.args.se.now).human) (λ x. g.V.Serialize.data_of x (settings_of c.args.se.now).human))
    (λ e. g.K.Serialize.is_value e.0 × g.V.Serialize.is_value e.1) (λ entry e. g.K.Serialize.refuses entry.0 e ⊎ g.V.Serialize.refuses entry.1 e) {m = (g.K.Serialize.takes_memory (settings_of c.args.se.now) || g.V.Serialize.takes_memory (settings_of c.args.se.now)) || g.W.Sink.takes_memory} tt c.in-None.ensures.steps.0 (omega (arith, same, c.in_ok-put_len.ensures.fits)) refl c.loop-key.invariant.listing in
    record { writes = w.writes; keeps = w.keeps; long = w.long; error = w.error; value = (w.value, c.len.ensures.ordered) }
