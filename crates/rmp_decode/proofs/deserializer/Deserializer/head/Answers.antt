use Rattle.std.proofs.Common.{◌≡◌, refl, rules, pos}
use Rattle.std.specs.Int.{w128}
use Rattle.std.proofs.lemmas.Int.{to_z-of_z}
use Rattle.rmp_wire.proofs.HeadReads.{fits_unsigned}
use Rattle.rmp_decode.proofs.HeadTaken.{head_next, next_refused, head_after, rest_refused, head_number}
use Rattle.rmp_decode.proofs.deserializer.Deserializer.head.Goals as goal

pub returns-in-Ok : goal.returns-in-Ok
returns-in-Ok g c = head_next g.R.Source _ _ c.if-self.false refl c.in-Nothing.is refl refl refl refl _ c.in-Nothing.is c.in-Ok.ensures.taken.read
    (c.in-Ok.ensures.taken.allowed _ c.in-Ok.ensures.taken.read.ok.is_head)

pub returns-in-Err : goal.returns-in-Err
returns-in-Err g c = next_refused g.R.Source _ _ c.if-self.false refl c.in-Nothing.is refl refl refl refl _ _ c.from.ensures c.in-Nothing.is
    c.in-Err.ensures.refused

pub returns-in-Ok-rest_of_head : goal.returns-in-Ok-rest_of_head
returns-in-Ok-rest_of_head g c = head_after g.R.Source _ _ c.if-self.false refl refl refl refl refl refl c.in-First.byte _ _ c.from_u8-marker.ensures.marker
    c.from_u8-marker.ensures.round c.in-First.is c.in-Ok-rest_of_head.ensures.taken.read
    (c.in-Ok-rest_of_head.ensures.taken.allowed _ c.in-Ok-rest_of_head.ensures.taken.read.ok.is_head)

pub returns-in-Err-rest_of_head : goal.returns-in-Err-rest_of_head
returns-in-Err-rest_of_head g c = rest_refused g.R.Source _ _ c.if-self.false refl refl refl refl refl refl c.in-First.byte _ _ _ c.from_u8-marker.ensures.round
    c.from-in-Err-rest_of_head.ensures c.in-First.is c.in-Err-rest_of_head.ensures.refused

pub returns-in-Number : goal.returns-in-Number
returns-in-Number g c =
    let e : c.from-in-Number.result ≡ pos c.in-Number.n = search rules in
    head_number g.R.Source _ _ c.if-self.false refl refl refl refl refl refl _ _ c.in-Number.n
    (rw e (to_z-of_z w128 (pos c.in-Number.n) (fits_unsigned c.in-Number.n (search rules)))) (search rules) c.number_marker.ensures.small
    c.number_marker.ensures.wide c.in-Number.is refl
