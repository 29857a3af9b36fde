-- Each piece is the canonical head of that length.
use Rattle.std.proofs.Common.{◌≡◌, ◌∙◌, ap, sym, refl, ℕ, ◌<◌, ◌≤◌, ◌^◌, [], ◌∷◌, ◌++◌, ℤ, arith}
use Rattle.std.specs.Int.{w8, w16, w32, to_be_bytes, cast_unsigned}
use Rattle.std.proofs.lemmas.Int.{to_z-of_z}
use Rattle.rmp_wire.specs.Heads.{canon_head, tag_byte}
use Rattle.rmp_wire.specs.Taking.{byte_of}
use Rattle.rmp_wire.proofs.Heads.{unsigned_below}
use native.Mathlib.Nat.{mod-eq_of_lt}
use Rattle.rmp_wire.specs.declared.head.Head.TheVariants.{Ext}
use Rattle.std.proofs.lemmas.Bool.Decides.{nat_tests}
use Rattle.rmp_wire.proofs.Writing.{puts_as}
use Rattle.rmp_wire.proofs.write.write_ext_meta.Goals as goal

canon_ext_16 : (n : ℕ) (tag : ℤ) → 2 ^ 8 ≤ n → n < 2 ^ 16 → canon_head (Ext n tag) ≡ 0xc8 ∷ (to_be_bytes w16 n ++ tag_byte tag ∷ [])
unfolding canon_head
canon_ext_16 n tag a b = grind (arith, nat_tests)

canon_ext_32 : (n : ℕ) (tag : ℤ) → 2 ^ 16 ≤ n → canon_head (Ext n tag) ≡ 0xc9 ∷ (to_be_bytes w32 n ++ tag_byte tag ∷ [])
unfolding canon_head
canon_ext_32 n tag a = grind (arith, nat_tests)

pub returns-in-1-clause-writes : goal.returns-in-1-clause-writes
unfolding canon_head byte_of
returns-in-1-clause-writes g c =
    let e = c.cast_unsigned-tag.ensures ∙ ap (cast_unsigned w8) (to_z-of_z w8 c.args.tag c.ranges.tag) in
    let byte = mod-eq_of_lt (unsigned_below w8 c.args.tag c.ranges.tag) in
    puts_as (rw (e, byte, c.in-1.is) refl) c.put_8.ensures.writes

pub returns-in-2-clause-writes : goal.returns-in-2-clause-writes
unfolding canon_head byte_of
returns-in-2-clause-writes g c =
    let e = c.cast_unsigned-tag.ensures ∙ ap (cast_unsigned w8) (to_z-of_z w8 c.args.tag c.ranges.tag) in
    let byte = mod-eq_of_lt (unsigned_below w8 c.args.tag c.ranges.tag) in
    puts_as (rw (e, byte, c.in-2.is) refl) c.put_8-in-2.ensures.writes

pub returns-in-8-clause-writes : goal.returns-in-8-clause-writes
unfolding canon_head byte_of
returns-in-8-clause-writes g c =
    let e = c.cast_unsigned-tag.ensures ∙ ap (cast_unsigned w8) (to_z-of_z w8 c.args.tag c.ranges.tag) in
    let byte = mod-eq_of_lt (unsigned_below w8 c.args.tag c.ranges.tag) in
    puts_as (rw (e, byte, c.in-8.is) refl) c.put_8-in-8.ensures.writes

pub returns-in-16-clause-writes : goal.returns-in-16-clause-writes
unfolding canon_head byte_of
returns-in-16-clause-writes g c =
    let e = c.cast_unsigned-tag.ensures ∙ ap (cast_unsigned w8) (to_z-of_z w8 c.args.tag c.ranges.tag) in
    let byte = mod-eq_of_lt (unsigned_below w8 c.args.tag c.ranges.tag) in
    puts_as (rw (e, byte, c.in-16.is) refl) c.put_8-in-16.ensures.writes

pub returns-in-256-to-65535-clause-writes : goal.returns-in-256-to-65535-clause-writes
returns-in-256-to-65535-clause-writes g c =
    let e = c.cast_unsigned-tag.ensures ∙ ap (cast_unsigned w8) (to_z-of_z w8 c.args.tag c.ranges.tag) in
    puts_as (rw e (sym (canon_ext_16 c.args.len c.args.tag (omega arith) (omega arith)))) c.put_ext_16.ensures.writes

pub returns-in_default-clause-writes : goal.returns-in_default-clause-writes
returns-in_default-clause-writes g c =
    let e = c.cast_unsigned-tag.ensures ∙ ap (cast_unsigned w8) (to_z-of_z w8 c.args.tag c.ranges.tag) in
    puts_as (rw e (sym (canon_ext_32 c.args.len c.args.tag (omega arith)))) c.put_ext_32.ensures.writes

pub overflow_cast-len : goal.overflow_cast-len
overflow_cast-len g c = record { fits = omega arith }

pub overflow_cast-len-in-0-to-255 : goal.overflow_cast-len-in-0-to-255
overflow_cast-len-in-0-to-255 g c = record { fits = grind arith }
