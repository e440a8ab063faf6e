use Rattle.report.proofs.Reprints.{accepted, refused}
use Rattle.report.proofs.reprint.ReprintTeller.tell.Goals as goal

pub returns-in-Ok : goal.returns-in-Ok
returns-in-Ok c =
    accepted c.args.self.now c.read_statement.new.scope c.read_statement.new.arena c.args.number c.args.st.now c.in_ok-number.ensures
    c.accept.result _ c.in-Ok.sentence _ _ c.as_slice.ensures.value c.in-Ok.ensures.read c.accept.ensures

pub returns-in_ok-answer-in-Err : goal.returns-in_ok-answer-in-Err
returns-in_ok-answer-in-Err c =
    refused c.args.self.now c.read_statement.new.scope c.read_statement.new.arena c.args.number c.args.st.now c.in_ok-number.ensures
    c.text.result _ c.in-Err.fault c.from.result _ _ c.as_slice.ensures.value c.in-Err.ensures.read c.from.ensures c.in_ok-answer-in-Err.ensures c.text.ensures
