-- By where the piece leads.
use Rattle.std.proofs.Common.{refl, ap, Ok, Err}
use Rattle.rmp_decode.specs.declared.error.Error.TheVariants as errors
use Rattle.rmp_decode.specs.declared.text.Text.TheVariants.{InvalidLength}
use Rattle.rmp_wire.specs.declared.marker.Marker.TheVariants as marker
use Rattle.rmp_scan.specs.declared.scanner.Scan.TheVariants.{Whole, More}
use Rattle.rmp_scan.proofs.Scanning.{whole_answer, more_answer, reserved_answer, long_answer, whole_if, if_whole, if_more}
use Rattle.rmp_scan.proofs.scanner.Scanner.scan.Goals as goal

pub returns-in-Whole-clause-law : goal.returns-in-Whole-clause-law
returns-in-Whole-clause-law c = λ before a.
    let old = c.args.self.now in
    whole_answer before c.args.piece.now old a old.limit c.saturating_sub-room.result c.saturating_sub-room.ensures c.in-Whole.used _ old.unfinished
    c.in-Whole.ensures a.ready refl (ap (λ z. z.next) c.new-self.ensures, ap (λ z. z.messages) c.new-self.ensures)

pub returns-in-Whole-clause-after : goal.returns-in-Whole-clause-after
returns-in-Whole-clause-after c = λ before a. (returns-in-Whole-clause-law c before a).new_again

pub returns-in-Whole-clause-whole : goal.returns-in-Whole-clause-whole
returns-in-Whole-clause-whole c = λ before a used.
    let s = returns-in-Whole-clause-law c before a in (
      whole_if before c.args.piece.now c.args.self.now.limit _ (Ok (Whole c.in-Whole.used)) s used,
      if_whole before c.args.piece.now c.args.self.now.limit _ (Ok (Whole c.in-Whole.used)) s used,
    )

pub returns-in-Whole-clause-more : goal.returns-in-Whole-clause-more
returns-in-Whole-clause-more c = λ before a.
    if_more before c.args.piece.now c.args.self.now.limit _ (Ok (Whole c.in-Whole.used)) (returns-in-Whole-clause-law c before a)

pub returns-in-More-clause-law : goal.returns-in-More-clause-law
returns-in-More-clause-law c = λ before a.
    let old = c.args.self.now in
    more_answer before c.args.piece.now old a old.limit c.saturating_sub-room.result c.saturating_sub-room.ensures c.in-More.want _ c.in-More.ensures refl a.ready refl

pub returns-in-More-clause-after : goal.returns-in-More-clause-after
returns-in-More-clause-after c = λ before a.
    let s = returns-in-More-clause-law c before a in
    (s.after, s.begins)

pub returns-in-More-clause-whole : goal.returns-in-More-clause-whole
returns-in-More-clause-whole c = λ before a used.
    let s = returns-in-More-clause-law c before a in
    (whole_if before c.args.piece.now c.args.self.now.limit _ (Ok More) s used, if_whole before c.args.piece.now c.args.self.now.limit _ (Ok More) s used)

pub returns-in-Reserved-clause-law : goal.returns-in-Reserved-clause-law
returns-in-Reserved-clause-law c = λ before a.
    let old = c.args.self.now in (
      refl,
      reserved_answer before c.args.piece.now old a old.limit c.saturating_sub-room.result c.saturating_sub-room.ensures c.in-Reserved.at _ c.in-Reserved.ensures refl
          refl,
    )

pub returns-in-Reserved-clause-whole : goal.returns-in-Reserved-clause-whole
returns-in-Reserved-clause-whole c = λ before a used.
    let s = returns-in-Reserved-clause-law c before a in (
      whole_if before c.args.piece.now c.args.self.now.limit _ (Err (errors.TypeMismatch marker.Reserved)) s used,
      if_whole before c.args.piece.now c.args.self.now.limit _ (Err (errors.TypeMismatch marker.Reserved)) s used,
    )

pub returns-in-Reserved-clause-more : goal.returns-in-Reserved-clause-more
returns-in-Reserved-clause-more c = λ before a.
    if_more before c.args.piece.now c.args.self.now.limit _ (Err (errors.TypeMismatch marker.Reserved)) (returns-in-Reserved-clause-law c before a)

pub returns-in-TooLong-clause-law : goal.returns-in-TooLong-clause-law
returns-in-TooLong-clause-law c = λ before a.
    let old = c.args.self.now in
    (refl, long_answer before c.args.piece.now old a old.limit c.saturating_sub-room.result c.saturating_sub-room.ensures _ c.in-TooLong.ensures refl)

pub returns-in-TooLong-clause-whole : goal.returns-in-TooLong-clause-whole
returns-in-TooLong-clause-whole c = λ before a used.
    let s = returns-in-TooLong-clause-law c before a in (
      whole_if before c.args.piece.now c.args.self.now.limit _ (Err (errors.Syntax InvalidLength)) s used,
      if_whole before c.args.piece.now c.args.self.now.limit _ (Err (errors.Syntax InvalidLength)) s used,
    )
