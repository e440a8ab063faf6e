use Rattle.std.proofs.Common.{inl, inr, rules, arith, subst, sym}
use Rattle.std.specs.Io.KnownBytes.{Consumes}
use Rattle.std.proofs.KnownBytes.{Consumes-nil}
use Rattle.report.proofs.Texts.{read_on, at_end, cut_at}
use Rattle.report.proofs.input.read_script.Goals as goal
use Rattle.report.proofs.input.read_script.Goals.{else-loop-test, then-loop-test+in_ok-n+then-n-eq0, then-n-eq0-via-then-n-eq0, then-n-eq0-via-else-n-eq0+then-len-gt-MOST_BYTES}

pub loop-init : goal.loop-init
loop-init g c = (omega arith, subst (Consumes _ _) (sym c.new-script.ensures.items) (Consumes-nil (g.R.Read.remaining c.args.input)))

pub loop-preserved : goal.loop-preserved
loop-preserved g c =
    read_on _ _ _ _ c.in_ok-n.n _ c.read.new.buf _ c.in_ok-n.ensures.bound.0 (omega arith) c.in_ok-extend_from_slice.ensures.items c.loop.invariant c.in_ok-n.ensures.bytes.0

pub returns : goal.returns
returns g c =
    cut_at (g.R.Read.remaining c.args.input) (g.R.Read.remaining c.loop.input) 1000001 c.loop.script.items _ c.loop.invariant.1
    (
    elim c.loop-test.branch [
      | else-loop-test w ↦ inl (omega (arith, c.loop.invariant.0))
      | then-loop-test+in_ok-n+then-n-eq0 w ↦
          elim w.then-n-eq0.branch [
            | then-n-eq0-via-then-n-eq0 v ↦
                let bytes = w.in_ok-n.ensures.bytes in
                inr (at_end _ _ w.in_ok-n.n _ v.if-n-eq0.true bytes.0 (bytes.1 v.if-n-eq0.true (search rules)))
            | then-n-eq0-via-else-n-eq0+then-len-gt-MOST_BYTES v ↦ inl (omega arith)
          ]
    ]
    )
    (cc)
