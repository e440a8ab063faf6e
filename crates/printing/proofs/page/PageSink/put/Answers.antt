use Rattle.std.proofs.Common.{◌+◌, ◌-◌, length, refl, ap, ◌∙◌, arith}
use Rattle.printing.proofs.Texts.{put_is, length_written}
use Rattle.printing.proofs.page.PageSink.put.Goals as goal

pub returns : goal.returns
returns c =
    let was = c.args.self.now.out.now in
    let at = c.args.self.now.at in
    let text = c.args.text.now in
    let put = put_is was at (at + length text - at) _ text c.copy_from_slice.ensures.after (omega arith) in
    record {
      same = refl;
      long = ap length put ∙ length_written was at text (omega arith);
      made = (refl, put);
    }
