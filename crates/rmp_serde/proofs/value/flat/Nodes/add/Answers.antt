use Rattle.std.proofs.Common.{arith, ◌≡◌, ◌∙◌, sym, ap, [], ◌∷◌, ◌++◌, length}
use Rattle.std.proofs.lemmas.Result.{on_ok_weaker}
use Rattle.rmp_decode.specs.Kinds.{content_len}
use Rattle.rmp_serde.specs.Flat.{heads_of}
use Rattle.rmp_serde.proofs.Making.{content_long}
use Rattle.rmp_serde.proofs.ReadLoop.{leaf_told}
use Rattle.rmp_serde.proofs.value.flat.Nodes.add.Goals as goal

pub returns-clause-ok : goal.returns-clause-ok
returns-clause-ok c =
    let made = c.args.self.now in
    let b = c.args.from.now.bytes.items in
    let s = c.content.result.now in
    let long : length s ≡ content_len c.head.result = ap length c.content.ensures.content ∙ content_long b c.args.node c.requires.content
    ∙ sym (ap content_len c.head.ensures.head) in
    on_ok_weaker c.push.result
    (λ ok. ok
    ∙ leaf_told made.nodes.items made.bytes.items s c.extend_from_slice.new.self.items c.head.result c.len-at.result c.requires.within
    c.in_ok-extend_from_slice.ensures.items (omega (arith, c.len-at.ensures, made.bytes.ok.0)) long
    ∙ (λ i. heads_of made ++ (c.head.ensures.head i, c.content.ensures.content i) ∷ []))
    c.push.ensures.ok
