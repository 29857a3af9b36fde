use Rattle.std.proofs.Common.{◌<◌, refl, sym, ap, subst, arith, rules, true, false}
use Rattle.std.proofs.lemmas.Int.{to_z-of_z}
use Rattle.std.specs.Int.{w8, w128}
use Rattle.rmp_wire.specs.Msg.{whole}
use Rattle.rmp_decode.specs.Law.{TakesHead}
use Rattle.rmp_decode.proofs.Anything.{any_fails}
use Rattle.rmp_decode.proofs.Leaves.{nil_leaf, truth_leaf, whole_leaf, float32_leaf, float64_leaf, leaf_read}
use Rattle.rmp_decode.proofs.deserializer.Deserializer.deserialize_any.Goals as goal

pub returns-in-Array : goal.returns-in-Array
returns-in-Array g c =
    let h = c.in-Ok.ensures.begun in
    let deep : 1 < c.args.self.now.room = c.in-Ok.ensures.deep ((false, c.in-Array.left), c.in-Array.is) in
    let r = c.inner_room-inner.ensures.list refl in (
      (refl, λ w. refl, tt),
      record {
        refused = tt;
        same_reference = refl;
        opened = (
          record {
            fresh = h.fresh;
            head = subst (λ z. TakesHead g.R.Source z c.args.self.now c.opening.new.self) c.in-Array.is h.ok;
            count = refl;
            room = omega (arith, deep, r);
            stays = h.stays;
            faults_same = h.sound;
            opened = record { sound = refl; marked = h.failed; clean = h.clean };
          },
          refl,
        );
      },
    )

pub returns-in-Map : goal.returns-in-Map
returns-in-Map g c =
    let h = c.in-Ok.ensures.begun in
    let deep : 1 < c.args.self.now.room = c.in-Ok.ensures.deep ((true, c.in-Map.left), c.in-Map.is) in
    let r = c.inner_room-inner.ensures.list refl in (
      (refl, λ w. refl, tt),
      record {
        refused = tt;
        same_reference = refl;
        opened = record {
          fresh = h.fresh;
          head = subst (λ z. TakesHead g.R.Source z c.args.self.now c.opening.new.self) c.in-Map.is h.ok;
          count = refl;
          at_key = refl;
          room = omega (arith, deep, r);
          stays = h.stays;
          faults_same = h.sound;
          opened = record { sound = refl; marked = h.failed; clean = h.clean };
        };
      },
    )

pub returns-in-Nil : goal.returns-in-Nil
returns-in-Nil g c = (
  (refl, λ w. refl, tt),
  record {
    refused = tt;
    same_reference = refl;
    opened = leaf_read nil_leaf g.R.Source _ _ _ (_, _) c.in-Ok.ensures.begun _ tt _ c.in-Nil.is refl refl;
  },
)

pub returns-in-Truth : goal.returns-in-Truth
returns-in-Truth g c = (
  (refl, λ w. refl, tt),
  record {
    refused = tt;
    same_reference = refl;
    opened = leaf_read truth_leaf g.R.Source _ _ _ (_, _) c.in-Ok.ensures.begun _ c.in-Truth.value _ c.in-Truth.is refl refl;
  },
)

pub returns-in-Whole : goal.returns-in-Whole
returns-in-Whole g c = (
  (refl, λ w. refl, tt),
  record {
    refused = tt;
    same_reference = refl;
    opened = leaf_read whole_leaf g.R.Source _ _ _ (_, _) c.in-Ok.ensures.begun _ c.in-Whole.value _ c.in-Whole.is refl
        (ap whole (sym (to_z-of_z w128 c.in-Whole.value (search rules))));
  },
)

pub returns-in-F32Bits : goal.returns-in-F32Bits
returns-in-F32Bits g c = (
  (refl, λ w. refl, tt),
  record {
    refused = tt;
    same_reference = refl;
    opened = leaf_read float32_leaf g.R.Source _ _ _ (_, _) c.in-Ok.ensures.begun _ c.in-F32Bits.value _ c.in-F32Bits.is refl refl;
  },
)

pub returns-in-F64Bits : goal.returns-in-F64Bits
returns-in-F64Bits g c = (
  (refl, λ w. refl, tt),
  record {
    refused = tt;
    same_reference = refl;
    opened = leaf_read float64_leaf g.R.Source _ _ _ (_, _) c.in-Ok.ensures.begun _ c.in-F64Bits.value _ c.in-F64Bits.is refl refl;
  },
)

pub returns-in-Text : goal.returns-in-Text
returns-in-Text g c = (
  (refl, λ w. refl, tt),
  record { refused = tt; same_reference = refl; opened = record { marker = c.in-Ok.field-0-0; begun = rw c.in-Text.is at c.in-Ok.ensures.begun } },
)

pub returns-in-Bin : goal.returns-in-Bin
returns-in-Bin g c = (
  (refl, λ w. refl, tt),
  record { refused = tt; same_reference = refl; opened = record { marker = c.in-Ok.field-0-0; begun = rw c.in-Bin.is at c.in-Ok.ensures.begun } },
)

pub returns-in-Ext : goal.returns-in-Ext
returns-in-Ext g c = (
  (refl, λ w. refl, tt),
  record {
    refused = tt;
    same_reference = refl;
    opened = record { marker = c.in-Ok.field-0-0; begun = rw (to_z-of_z w8 c.in-Ext.tag (search rules)) (rw c.in-Ext.is at c.in-Ok.ensures.begun) };
  },
)

pub returns-in-Err : goal.returns-in-Err
returns-in-Err g c =
    ((refl, λ _. tt, any_fails g.R.Source _ _ _ c.in-Err.ensures.err), record { refused = tt; same_reference = tt; opened = tt })
