use Rattle.std.proofs.Common.{sym, arith}
use Rattle.vc_audit.proofs.PiecesOfReports.{first_taken, first_whole}
use Rattle.vc_audit.proofs.pieces.first_line.Goals as goal

pub returns-in-Some-clause-first : goal.returns-in-Some-clause-first
returns-in-Some-clause-first c =
    first_taken c.args.report.now c.in-Some.at c.in-Some.ensures.0.high (λ k l. c.in-Some.ensures.0.before k (omega arith) l) c.in-Some.ensures.1

pub returns-in-None-clause-first : goal.returns-in-None-clause-first
returns-in-None-clause-first c = sym (first_whole c.args.report.now (λ k l. c.in-None.ensures k (omega arith) l))
