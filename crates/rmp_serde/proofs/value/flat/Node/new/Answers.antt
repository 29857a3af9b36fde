use Rattle.std.proofs.Common.{◌+◌, ◌≤◌, refl, subst}
use Rattle.rmp_decode.specs.Kinds.{content_len}
use Rattle.rmp_serde.proofs.value.flat.Node.new.Goals as goal

pub returns-in-Text-clause-content : goal.returns-in-Text-clause-content
returns-in-Text-clause-content c = λ buffer. rw c.in-Text.is refl

pub returns-in-Text-clause-within : goal.returns-in-Text-clause-within
returns-in-Text-clause-within c = λ end within. subst (λ h. c.args.at + content_len h ≤ end) c.in-Text.is within

pub returns-in-Bin-clause-content : goal.returns-in-Bin-clause-content
returns-in-Bin-clause-content c = λ buffer. rw c.in-Bin.is refl

pub returns-in-Bin-clause-within : goal.returns-in-Bin-clause-within
returns-in-Bin-clause-within c = λ end within. subst (λ h. c.args.at + content_len h ≤ end) c.in-Bin.is within

pub returns-in-Ext-clause-content : goal.returns-in-Ext-clause-content
returns-in-Ext-clause-content c = λ buffer. rw c.in-Ext.is refl

pub returns-in-Ext-clause-within : goal.returns-in-Ext-clause-within
returns-in-Ext-clause-within c = λ end within. subst (λ h. c.args.at + content_len h ≤ end) c.in-Ext.is within
