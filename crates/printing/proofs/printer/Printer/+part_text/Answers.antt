use Rattle.std.proofs.Common.{refl}
use Rattle.printing.specs.declared.forms.Arm.TheVariants as arm
use Rattle.printing.specs.Layout.{two_closes, piece_of, second_piece, arm_piece}
use Rattle.printing.proofs.Texts.{spelt, then, cut}
use Rattle.printing.proofs.Trees.{sort_is, local_is, entry_is, one_is, two_is, match_is}
use Rattle.printing.proofs.printer.Printer.+part_text.Goals as goal

pub text-returns-in-Sort : goal.text-returns-in-Sort
text-returns-in-Sort g t c = spelt g.met.S.Sink.joins (sort_is _ _ c.in-Sort.ensures) c.sort.ensures

pub text-returns-in-Local : goal.text-returns-in-Local
text-returns-in-Local g t c =
    spelt g.met.S.Sink.joins (local_is _ _ c.in-Local.ensures c.outside.result c.outside.ensures) c.binder.ensures

pub text-returns-in-Entry : goal.text-returns-in-Entry
text-returns-in-Entry g t c =
    spelt g.met.S.Sink.joins (entry_is _ _ c.in-Entry.ensures c.name.result.now c.name.ensures) c.put.ensures

pub text-returns-in_err-part-in-One : goal.text-returns-in_err-part-in-One
text-returns-in_err-part-in-One g t c =
    let j = g.met.S.Sink.joins in
    spelt j (one_is _ _ c.in-One.ensures (piece_of c.one_lead.result) c.one_lead.ensures)
    (cut j _ c.in_err-part-in-One.ensures c.from_residual.ensures.0)

pub text-returns-in_ok-part-in-One : goal.text-returns-in_ok-part-in-One
text-returns-in_ok-part-in-One g t c =
    let j = g.met.S.Sink.joins in
    spelt j (one_is _ _ c.in-One.ensures (piece_of c.one_lead.result) c.one_lead.ensures)
    (then j c.in_ok-part-in-One.ensures c.put-in-One.ensures)

pub text-returns-in_err-part-in-Two : goal.text-returns-in_err-part-in-Two
text-returns-in_err-part-in-Two g t c =
    let j = g.met.S.Sink.joins in
    spelt j (two_is _ _ c.in-Two.ensures (piece_of c.first_lead.result) (second_piece c.in-Two.form) (two_closes c.in-Two.form) c.first_lead.ensures refl refl)
    (cut j _ c.in_err-part-in-Two.ensures c.from_residual-in_err-part-in-Two.ensures.0)

pub text-returns-in_err-part-in-Two-2 : goal.text-returns-in_err-part-in-Two-2
text-returns-in_err-part-in-Two-2 g t c =
    let j = g.met.S.Sink.joins in
    spelt j (two_is _ _ c.in-Two.ensures (piece_of c.first_lead.result) (piece_of c.second_lead.result) (two_closes c.in-Two.form) c.first_lead.ensures c.second_lead.ensures refl)
    (then j c.in_ok-part-in-Two.ensures (cut j _ c.in_err-part-in-Two-2.ensures c.from_residual-in_err-part-in-Two-2.ensures.0))

pub text-returns-in_ok-part-in-Two-2 : goal.text-returns-in_ok-part-in-Two-2
text-returns-in_ok-part-in-Two-2 g t c =
    let j = g.met.S.Sink.joins in
    spelt j (two_is _ _ c.in-Two.ensures (piece_of c.first_lead.result) (piece_of c.second_lead.result) c.two_closes.result.now c.first_lead.ensures c.second_lead.ensures c.two_closes.ensures)
    (then j c.in_ok-part-in-Two.ensures (then j c.in_ok-part-in-Two-2.ensures c.put-in-Two.ensures))

pub text-returns-in_err-part-in-Match : goal.text-returns-in_err-part-in-Match
text-returns-in_err-part-in-Match g t c =
    let j = g.met.S.Sink.joins in
    spelt j (match_is _ _ c.in-Match.ensures (piece_of c.match_lead.result) (arm_piece arm.Inl) (arm_piece arm.Inr) c.match_lead.ensures refl refl)
    (cut j _ c.in_err-part-in-Match.ensures c.from_residual-in_err-part-in-Match.ensures.0)

pub text-returns-in_err-put-in-Match : goal.text-returns-in_err-put-in-Match
text-returns-in_err-put-in-Match g t c =
    let j = g.met.S.Sink.joins in
    spelt j (match_is _ _ c.in-Match.ensures (piece_of c.match_lead.result) (arm_piece arm.Inl) (arm_piece arm.Inr) c.match_lead.ensures refl refl)
    (then j c.in_ok-part-in-Match.ensures (cut j _ c.in_err-put-in-Match.ensures c.from_residual-in_err-put-in-Match.ensures.0))

pub text-returns-in_err-part-in-Match-2 : goal.text-returns-in_err-part-in-Match-2
text-returns-in_err-part-in-Match-2 g t c =
    let j = g.met.S.Sink.joins in
    spelt j (match_is _ _ c.in-Match.ensures (piece_of c.match_lead.result) (piece_of c.arm_lead.result) (arm_piece arm.Inr) c.match_lead.ensures c.arm_lead.ensures refl)
    (then j c.in_ok-part-in-Match.ensures
    (then j c.in_ok-put-in-Match.ensures (cut j _ c.in_err-part-in-Match-2.ensures c.from_residual-in_err-part-in-Match-2.ensures.0)))

pub text-returns-in_err-part-in-Match-3 : goal.text-returns-in_err-part-in-Match-3
text-returns-in_err-part-in-Match-3 g t c =
    let j = g.met.S.Sink.joins in
    spelt j (match_is _ _ c.in-Match.ensures (piece_of c.match_lead.result) (piece_of c.arm_lead.result) (piece_of c.arm_lead-in-Match.result) c.match_lead.ensures c.arm_lead.ensures c.arm_lead-in-Match.ensures)
    (then j c.in_ok-part-in-Match.ensures
    (then j c.in_ok-put-in-Match.ensures
    (then j c.in_ok-part-in-Match-2.ensures (cut j _ c.in_err-part-in-Match-3.ensures c.from_residual-in_err-part-in-Match-3.ensures.0))))

pub text-returns-in_ok-part-in-Match-3 : goal.text-returns-in_ok-part-in-Match-3
text-returns-in_ok-part-in-Match-3 g t c =
    let j = g.met.S.Sink.joins in
    spelt j (match_is _ _ c.in-Match.ensures (piece_of c.match_lead.result) (piece_of c.arm_lead.result) (piece_of c.arm_lead-in-Match.result) c.match_lead.ensures c.arm_lead.ensures c.arm_lead-in-Match.ensures)
    (then j c.in_ok-part-in-Match.ensures
    (then j c.in_ok-put-in-Match.ensures
    (then j c.in_ok-part-in-Match-2.ensures (then j c.in_ok-part-in-Match-3.ensures c.put-in-Match-2.ensures))))
