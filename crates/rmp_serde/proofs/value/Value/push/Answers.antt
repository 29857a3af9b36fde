use Rattle.std.proofs.Common.{◌∙◌, sym, ap, subst, arith, suc, Some}
use Rattle.std.proofs.lemmas.Result.{err_from_is_err_and}
use Rattle.rmp_wire.specs.Msg.{count}
use Rattle.rmp_encode.specs.declared.error.Error.TheVariants.{OutOfMemory}
use Rattle.rmp_serde.specs.Pushing.{pushed, PushFails}
use Rattle.rmp_serde.proofs.Making.{copy_flat, too_long}
use Rattle.rmp_serde.proofs.Pushing.{list_flat, list_pushed, open_list}
use Rattle.rmp_serde.proofs.value.Value.push.Goals as goal

pub returns-in_err-len-in-List-clause-err : goal.returns-in_err-len-in-List-clause-err
returns-in_err-len-in-List-clause-err c =
    let o = open_list c.self.inside.root c.in-List.len _ c.self.inside.parts c.args.self.now c.in-List.is c.self.invariant c.self.view_is in
    let e = c.in_err-len-in-List in
    let p = err_from_is_err_and c.from_residual.result c.from_residual.ensures.1 in
    rw (p.1, p.2) (subst (λ z. PushFails z e.field-0.0) (sym o.is)
    (too_long (suc (count o.items)) e.field-0.0 e.ensures.refused (omega (arith, o.many, e.ensures.long))))

pub invariant_of-self : goal.invariant_of-self
invariant_of-self c =
    let same = c.in_err-append-in-List.ensures.kept in
    copy_flat c.self.inside.root c.self.inside.parts c.append.new.self same.nodes same.bytes c.self.invariant

pub returns-in_err-append-in-List-clause-err : goal.returns-in_err-append-in-List-clause-err
returns-in_err-append-in-List-clause-err c =
    let o = open_list c.self.inside.root c.in-List.len _ c.self.inside.parts c.args.self.now c.in-List.is c.self.invariant c.self.view_is in
    let len = c.in_ok-len-in-List in
    let p = err_from_is_err_and c.from_residual-in_err-append-in-List.result c.from_residual-in_err-append-in-List.ensures.1 in
    rw (p.1, p.2) (subst (λ z. PushFails z OutOfMemory) (sym o.is) (omega (arith, o.many, len.ensures.same, len.ensures.fits)))

pub invariant_of-self-in-List : goal.invariant_of-self-in-List
invariant_of-self-in-List c =
    let o = open_list c.self.inside.root c.in-List.len _ c.self.inside.parts c.args.self.now c.in-List.is c.self.invariant c.self.view_is in
    let len = c.in_ok-len-in-List in
    list_flat len.len c.in-List.len c.append.new.self o.items c.args.item.now (c.in_ok-append-in-List.ensures.ok _ o.made) o.many len.ensures.same
    (omega (arith, len.ensures.same, len.ensures.fits))

pub returns-in_ok-append-in-List-clause-ok : goal.returns-in_ok-append-in-List-clause-ok
returns-in_ok-append-in-List-clause-ok c =
    let o = open_list c.self.inside.root c.in-List.len _ c.self.inside.parts c.args.self.now c.in-List.is c.self.invariant c.self.view_is in
    let len = c.in_ok-len-in-List in
    ap (λ z. pushed z c.args.item.now) o.is
    ∙ ap Some (sym (list_pushed len.len c.in-List.len c.append.new.self o.items c.args.item.now (c.in_ok-append-in-List.ensures.ok _ o.made) o.many len.ensures.same))
