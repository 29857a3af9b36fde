use Rattle.std.proofs.Common.{◌∙◌, sym, ap, subst, arith, suc, Some}
use Rattle.std.proofs.lemmas.Result.{err_from_is_err_and}
use Rattle.rmp_wire.specs.Msg.{count_pairs}
use Rattle.rmp_encode.specs.declared.error.Error.TheVariants.{OutOfMemory}
use Rattle.rmp_serde.specs.Pushing.{pushed_pair, PushPairFails}
use Rattle.rmp_serde.proofs.Making.{copy_flat, too_long}
use Rattle.rmp_serde.proofs.Pushing.{map_flat, map_pushed, open_map}
use Rattle.rmp_serde.proofs.value.Value.push_pair.Goals as goal

pub returns-in_err-len-in-Map-clause-err : goal.returns-in_err-len-in-Map-clause-err
returns-in_err-len-in-Map-clause-err c =
    let o = open_map c.self.inside.root c.in-Map.len _ c.self.inside.parts c.args.self.now c.in-Map.is c.self.invariant c.self.view_is in
    let e = c.in_err-len-in-Map in
    let p = err_from_is_err_and c.from_residual.result c.from_residual.ensures.1 in
    rw (p.1, p.2) (subst (λ z. PushPairFails z e.field-0.0) (sym o.is)
    (too_long (suc (count_pairs o.entries)) e.field-0.0 e.ensures.refused (omega (arith, o.many, e.ensures.long))))

pub invariant_of-self : goal.invariant_of-self
invariant_of-self c =
    let same = c.in_err-append_pair-in-Map.ensures.kept in
    copy_flat c.self.inside.root c.self.inside.parts c.append_pair.new.self same.nodes same.bytes c.self.invariant

pub returns-in_err-append_pair-in-Map-clause-err : goal.returns-in_err-append_pair-in-Map-clause-err
returns-in_err-append_pair-in-Map-clause-err c =
    let o = open_map c.self.inside.root c.in-Map.len _ c.self.inside.parts c.args.self.now c.in-Map.is c.self.invariant c.self.view_is in
    let len = c.in_ok-len-in-Map in
    let p = err_from_is_err_and c.from_residual-in_err-append_pair-in-Map.result c.from_residual-in_err-append_pair-in-Map.ensures.1 in
    rw (p.1, p.2) (subst (λ z. PushPairFails z OutOfMemory) (sym o.is) (omega (arith, o.many, len.ensures.same, len.ensures.fits)))

pub invariant_of-self-in-Map : goal.invariant_of-self-in-Map
invariant_of-self-in-Map c =
    let o = open_map c.self.inside.root c.in-Map.len _ c.self.inside.parts c.args.self.now c.in-Map.is c.self.invariant c.self.view_is in
    let len = c.in_ok-len-in-Map in
    map_flat len.len c.in-Map.len c.append_pair.new.self o.entries c.args.key.now c.args.value.now (c.in_ok-append_pair-in-Map.ensures.ok _ o.made) o.many len.ensures.same
    (omega (arith, len.ensures.same, len.ensures.fits))

pub returns-in_ok-append_pair-in-Map-clause-ok : goal.returns-in_ok-append_pair-in-Map-clause-ok
returns-in_ok-append_pair-in-Map-clause-ok c =
    let o = open_map c.self.inside.root c.in-Map.len _ c.self.inside.parts c.args.self.now c.in-Map.is c.self.invariant c.self.view_is in
    let len = c.in_ok-len-in-Map in
    ap (λ z. pushed_pair z c.args.key.now c.args.value.now) o.is
    ∙ ap Some (sym (map_pushed len.len c.in-Map.len c.append_pair.new.self o.entries c.args.key.now c.args.value.now (c.in_ok-append_pair-in-Map.ensures.ok _ o.made) o.many len.ensures.same))
