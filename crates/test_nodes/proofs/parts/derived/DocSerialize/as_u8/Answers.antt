use Rattle.std.proofs.Common.{sym}
use Rattle.test_nodes.proofs.DocLevels.{doc_no_byte}
use Rattle.test_nodes.proofs.parts.derived.DocSerialize.as_u8.Goals as goal

pub returns-in-Wide-clause-byte : goal.returns-in-Wide-clause-byte
returns-in-Wide-clause-byte c = sym (doc_no_byte _ c.args.self.now)

pub returns-in-Framed-clause-byte : goal.returns-in-Framed-clause-byte
returns-in-Framed-clause-byte c = sym (doc_no_byte _ c.args.self.now)

pub returns-in-Array-clause-byte : goal.returns-in-Array-clause-byte
returns-in-Array-clause-byte c = sym (doc_no_byte _ c.args.self.now)

pub returns-in-Object-clause-byte : goal.returns-in-Object-clause-byte
returns-in-Object-clause-byte c = sym (doc_no_byte _ c.args.self.now)
