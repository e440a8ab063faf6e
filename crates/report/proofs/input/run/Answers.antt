use Rattle.std.proofs.Common.{Ok, vec_items}
use Rattle.std.specs.Fn.{FnOnceReturnsAt}
use Rattle.std.specs.Io.KnownBytes.{Appends}
use Rattle.report.proofs.Texts.{ran}
use Rattle.report.proofs.input.run.Goals as goal

pub returns : goal.returns
returns g c =
    ran c.write_all.result (g.R.Read.remaining c.args.input) 1000001 c.in_ok-script.script.items c.in_ok-text.text
    (λ s text. FnOnceReturnsAt g.F.FnOnce c.args.tell s (Ok text))
    (λ text. Appends (g.W.Write.contents c.args.output.now) (g.W.Write.contents c.write_all.new.self) (vec_items text))
    c.in_ok-script.ensures (c.as_slice.result, c.in_ok-text.ensures, c.as_slice.ensures.value) (rw c.as_slice-2.ensures.value at c.write_all.ensures.bytes)
