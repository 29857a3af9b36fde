use Rattle.std.proofs.Common.{rules, ◌≡◌, ap, ◌++◌, take, drop, to_z, of_z}
use Rattle.std.specs.Int.{w8}
use Rattle.rmp_wire.specs.Heads.{canon_head}
use Rattle.rmp_wire.specs.declared.head.Head.TheVariants.{Ext}
use Rattle.std.proofs.lemmas.Result.{err_from_is_err_and}
use Rattle.rmp_wire.proofs.Writing.{puts_as, puts_stop, head_some}
use Rattle.rmp_serde.proofs.value.write.write_node.Goals as goal

pub returns-in_err-write_str_len-in-Text-clause-writes : goal.returns-in_err-write_str_len-in-Text-clause-writes
returns-in_err-write_str_len-in-Text-clause-writes g c =
    let p = err_from_is_err_and c.from_residual.result c.from_residual.ensures.1 in
    rw (p.1, p.2, c.in-Text.is) (puts_stop _ c.in_err-write_str_len-in-Text.ensures.writes)

pub returns-in_ok-write_str_len-in-Text-clause-writes : goal.returns-in_ok-write_str_len-in-Text-clause-writes
returns-in_ok-write_str_len-in-Text-clause-writes g c = rw c.in-Text.is ((rw c.content.ensures.content at c.write_content.ensures.writes) _ _
    (head_some _) c.in_ok-write_str_len-in-Text.ensures.writes)

pub returns-in_err-write_bin_len-in-Bytes-clause-writes : goal.returns-in_err-write_bin_len-in-Bytes-clause-writes
returns-in_err-write_bin_len-in-Bytes-clause-writes g c =
    let p = err_from_is_err_and c.from_residual-in_err-write_bin_len-in-Bytes.result c.from_residual-in_err-write_bin_len-in-Bytes.ensures.1 in
    rw (p.1, p.2, c.in-Bytes.is) (puts_stop _ c.in_err-write_bin_len-in-Bytes.ensures.writes)

pub returns-in_ok-write_bin_len-in-Bytes-clause-writes : goal.returns-in_ok-write_bin_len-in-Bytes-clause-writes
returns-in_ok-write_bin_len-in-Bytes-clause-writes g c = rw c.in-Bytes.is
    ((rw c.content-in-Bytes.ensures.content at c.write_content-in-Bytes.ensures.writes) _ _ (head_some _) c.in_ok-write_bin_len-in-Bytes.ensures.writes)

pub returns-in_err-write_ext_meta-in-Ext-clause-writes : goal.returns-in_err-write_ext_meta-in-Ext-clause-writes
returns-in_err-write_ext_meta-in-Ext-clause-writes g c =
    let p = err_from_is_err_and c.from_residual-in_err-write_ext_meta-in-Ext.result c.from_residual-in_err-write_ext_meta-in-Ext.ensures.1 in
    let same : to_z w8 (of_z w8 c.in-Ext.tag) ≡ c.in-Ext.tag = search rules in
    rw (p.1, p.2, c.in-Ext.is) (puts_as (ap (λ z. canon_head (Ext c.in-Ext.len z) ++ take c.in-Ext.len
    (drop c.in-Ext.field-2 c.args.parts.now.bytes.items)) same) (puts_stop _ c.in_err-write_ext_meta-in-Ext.ensures.writes))

pub returns-in_ok-write_ext_meta-in-Ext-clause-writes : goal.returns-in_ok-write_ext_meta-in-Ext-clause-writes
returns-in_ok-write_ext_meta-in-Ext-clause-writes g c =
    let same : to_z w8 (of_z w8 c.in-Ext.tag) ≡ c.in-Ext.tag = search rules in
    rw c.in-Ext.is (puts_as (ap (λ z. canon_head (Ext c.in-Ext.len z) ++ take c.in-Ext.len (drop c.in-Ext.field-2 c.args.parts.now.bytes.items)) same)
    ((rw c.content-in-Ext.ensures.content at c.write_content-in-Ext.ensures.writes) _ _ (head_some _) c.in_ok-write_ext_meta-in-Ext.ensures.writes))

pub returns-in-Nil-clause-writes : goal.returns-in-Nil-clause-writes
returns-in-Nil-clause-writes g c = rw c.in-Nil.is c.write_nil.ensures.writes

pub returns-in-Truth-clause-writes : goal.returns-in-Truth-clause-writes
returns-in-Truth-clause-writes g c = rw c.in-Truth.is c.write_bool.ensures.writes

pub returns-in-Unsigned-clause-writes : goal.returns-in-Unsigned-clause-writes
returns-in-Unsigned-clause-writes g c = rw c.in-Unsigned.is c.write_uint.ensures.writes

pub returns-in-F32-clause-writes : goal.returns-in-F32-clause-writes
returns-in-F32-clause-writes g c = rw c.in-F32.is c.write_f32_bits.ensures.writes

pub returns-in-F64-clause-writes : goal.returns-in-F64-clause-writes
returns-in-F64-clause-writes g c = rw c.in-F64.is c.write_f64_bits.ensures.writes

pub returns-in-List-clause-writes : goal.returns-in-List-clause-writes
returns-in-List-clause-writes g c = rw c.in-List.is c.write_array_len.ensures.writes

pub returns-in-Map-clause-writes : goal.returns-in-Map-clause-writes
returns-in-Map-clause-writes g c = rw c.in-Map.is c.write_map_len.ensures.writes
