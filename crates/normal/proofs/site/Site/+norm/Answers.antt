use Rattle.std.proofs.Common.{[], ◌∷◌, sym, refl, ap, ◌∙◌, ap₂, arith}
use Rattle.term.specs.declared.node.Binary.TheVariants.{Unpack}
use Rattle.term.specs.Term.{Term, unary}
use Rattle.term.specs.State.{term}
use Rattle.term.proofs.States.{still, on_to}
use Rattle.term.proofs.Trees.{cells_pos}
use Rattle.rules.specs.Rules.{gives_local, gives_entry, gives_use, gives_open, gives_pick, gives_filled, gives_rule}
use Rattle.normal.proofs.Views.{within_kept}
use Rattle.normal.proofs.Logic.{filled_later, again, inner, inner2, later, test, then, halt, last, pays, lacks, enters, barred, stored, stored_two, stored_three, concluded, stuck, so, otherwise, some, none, ruled, broke, at_side, side_there}
use Rattle.normal.proofs.site.Site.+norm.Goals as goal

pub norm-returns-in_err-spend : goal.norm-returns-in_err-spend
norm-returns-in_err-spend t c = broke c.from_residual.ensures.1 c.in_err-spend.ensures

pub norm-returns-in-Local : goal.norm-returns-in-Local
norm-returns-in-Local t c = ruled c.args.id c.in_ok-spend.ensures c.requires.here c.requires.id (ap (gives_rule _ _ _) c.in-Local.ensures.is ∙ ap (gives_local _ c.in-Local.k) (sym c.in-Local.ensures.is)) c.local.ensures

pub norm-returns-in-Entry : goal.norm-returns-in-Entry
norm-returns-in-Entry t c = ruled c.args.id c.in_ok-spend.ensures c.requires.here c.requires.id (ap (gives_rule _ _ _) c.in-Entry.ensures.is ∙ ap (gives_entry _ c.in-Entry.j) (sym c.in-Entry.ensures.is)) c.shared.ensures

pub norm-returns-in-One : goal.norm-returns-in-One
norm-returns-in-One t c = ruled c.args.id c.in_ok-spend.ensures c.requires.here c.requires.id (ap (gives_rule _ _ _) c.in-One.ensures.is) c.one.ensures

pub norm-returns-in-Two : goal.norm-returns-in-Two
norm-returns-in-Two t c = ruled c.args.id c.in_ok-spend.ensures c.requires.here c.requires.id (ap (gives_rule _ _ _) c.in-Two.ensures.is) c.two.ensures

pub norm-returns-in-Match : goal.norm-returns-in-Match
norm-returns-in-Match t c = ruled c.args.id c.in_ok-spend.ensures c.requires.here c.requires.id (ap (gives_rule _ _ _) c.in-Match.ensures.is) c.choose.ensures

pub norm-returns-in-Sort : goal.norm-returns-in-Sort
norm-returns-in-Sort t c = ruled c.args.id c.in_ok-spend.ensures c.requires.here c.requires.id (ap (gives_rule _ _ _) c.in-Sort.ensures.is) (concluded (sym c.in-Sort.ensures.is) (omega (arith, c.in_ok-spend.ensures.len, c.requires.id)))

pub two-returns-in-Ascribe : goal.two-returns-in-Ascribe
two-returns-in-Ascribe t c = rw c.in-Ascribe.is (last c.norm.ensures)

pub fun-returns-in_err-inner : goal.fun-returns-in_err-inner
fun-returns-in_err-inner t c = barred c.from_residual.ensures.1 c.in_err-inner.ensures

pub fun-returns-in_err-body : goal.fun-returns-in_err-body
fun-returns-in_err-body t c = enters c.in_ok-inner.ensures (halt c.from_residual-in_err-body.ensures.1 (inner c.args.a (still _) c.requires.here c.requires.a c.in_ok-inner.ensures c.in_err-body.ensures))

pub fun-returns : goal.fun-returns
fun-returns t c = enters c.in_ok-inner.ensures (then (inner c.args.a (still _) c.requires.here c.requires.a c.in_ok-inner.ensures c.in_ok-body.ensures) (stored refl c.add.ensures))

pub under-returns-in_err-domain : goal.under-returns-in_err-domain
under-returns-in_err-domain t c = halt c.from_residual.ensures.1 c.in_err-domain.ensures

pub under-returns-in_err-inner : goal.under-returns-in_err-inner
under-returns-in_err-inner t c = then c.in_ok-domain.ensures (barred c.from_residual-in_err-inner.ensures.1 c.in_err-inner.ensures)

pub under-returns-in_err-body : goal.under-returns-in_err-body
under-returns-in_err-body t c = then c.in_ok-domain.ensures (enters c.in_ok-inner.ensures (halt c.from_residual-in_err-body.ensures.1 (inner c.args.b c.in_ok-domain.ensures.kept c.requires.here c.requires.b c.in_ok-inner.ensures c.in_err-body.ensures)))

pub under-returns : goal.under-returns
under-returns t c =
    let i = c.in_ok-inner.ensures in
    let w = c.in_ok-body.ensures in
    then c.in_ok-domain.ensures (enters i (then (inner c.args.b c.in_ok-domain.ensures.kept c.requires.here c.requires.b i w) (stored_two c.args.form c.in_ok-domain.domain c.in_ok-body.body (on_to i.kept w.kept) c.in_ok-domain.ensures.within c.add.ensures)))

pub beside-returns-in_err-first : goal.beside-returns-in_err-first
beside-returns-in_err-first t c = halt c.from_residual.ensures.1 c.in_err-first.ensures

pub beside-returns-in_err-second : goal.beside-returns-in_err-second
beside-returns-in_err-second t c = then c.in_ok-first.ensures (halt c.from_residual-in_err-second.ensures.1 (again c.args.b c.in_ok-first.ensures.kept c.requires.here c.requires.b c.in_err-second.ensures))

pub beside-returns : goal.beside-returns
beside-returns t c =
    let v = c.in_ok-first.ensures in
    let w = c.in_ok-second.ensures in
    then v (then (again c.args.b v.kept c.requires.here c.requires.b w) (stored_two c.args.form c.in_ok-first.first c.in_ok-second.second w.kept v.within c.add.ensures))

pub wrap-returns-in_err-inner : goal.wrap-returns-in_err-inner
wrap-returns-in_err-inner t c = halt c.from_residual.ensures.1 c.in_err-inner.ensures

pub wrap-returns : goal.wrap-returns
wrap-returns t c = then c.in_ok-inner.ensures (stored refl c.add.ensures)

pub app-returns-in_err-head : goal.app-returns-in_err-head
app-returns-in_err-head t c = halt c.from_residual.ensures.1 c.in_err-head.ensures

pub app-returns-in_err-argument : goal.app-returns-in_err-argument
app-returns-in_err-argument t c = then c.in_ok-head.ensures (halt c.from_residual-in_err-argument.ensures.1 (again c.args.b c.in_ok-head.ensures.kept c.requires.here c.requires.b c.in_err-argument.ensures))

pub app-returns : goal.app-returns
app-returns t c =
    let f = c.in_ok-head.ensures in
    let v = c.in_ok-argument.ensures in
    then f (then (again c.args.b f.kept c.requires.here c.requires.b v) (later (λ es p Δ E. gives_use es p Δ E (term c.norm-2.new.arena c.in_ok-argument.argument)) (on_to f.kept v.kept) c.requires.here (v.kept.trees c.in_ok-head.head f.within) c.apply.ensures))

pub apply-returns-in_err-keep-in-None : goal.apply-returns-in_err-keep-in-None
apply-returns-in_err-keep-in-None t c =
    let k = c.in_err-keep-in-None.ensures in
    none _ c.in-None.ensures.is (otherwise _ k.1 (stuck c.from_residual.ensures.1 k.0))

pub apply-returns-in_ok-keep-in-None : goal.apply-returns-in_ok-keep-in-None
apply-returns-in_ok-keep-in-None t c = none _ c.in-None.ensures.is (so _ c.in_ok-keep-in-None.ensures (stored refl c.add.ensures))

pub fill-returns-in_err-filled : goal.fill-returns-in_err-filled
fill-returns-in_err-filled t c = lacks c.from_residual.ensures.1 c.in_err-filled.ensures

pub fill-norm-requires : goal.fill-norm-requires
fill-norm-requires t c =
    let q = c.in_ok-filled.ensures in
    (omega (arith, cells_pos, q.made.2), (within_kept q.kept c.requires.here, q.made.0))

pub fill-returns : goal.fill-returns
fill-returns t c = let q = c.in_ok-filled.ensures in pays q (last (filled_later c.in_ok-filled.filled q.kept c.requires.here q.made.1 c.norm.ensures))

pub bind-returns-in_err-value : goal.bind-returns-in_err-value
bind-returns-in_err-value t c = halt c.from_residual.ensures.1 c.in_err-value.ensures

pub bind-returns : goal.bind-returns
bind-returns t c =
    let v = c.in_ok-value.ensures in
    then v (later (λ es p Δ E. gives_filled p Δ (term c.norm.new.arena c.in_ok-value.value ∷ []) E) v.kept c.requires.here (v.kept.trees c.args.b c.requires.b) c.fill.ensures)

pub projection-returns-in_err-whole : goal.projection-returns-in_err-whole
projection-returns-in_err-whole t c = at_side c.args.side (halt c.from_residual.ensures.1 c.in_err-whole.ensures)

pub projection-returns-in-Some : goal.projection-returns-in-Some
projection-returns-in-Some t c =
    let v = c.in_ok-whole.ensures in
    let x = c.in-Some.ensures in
    at_side c.args.side (then v (some _ _ x.is (rw c.of.ensures (side_there c.args.side c.in-Some.pair (omega (arith, x.low, v.within))))))

pub projection-returns-in_err-keep-in-None : goal.projection-returns-in_err-keep-in-None
projection-returns-in_err-keep-in-None t c =
    let v = c.in_ok-whole.ensures in
    let k = c.in_err-keep-in-None.ensures in
    at_side c.args.side (then v (none _ c.in-None.ensures.is (otherwise _ (test _ v.kept c.requires.here k.1) (stuck c.from_residual-in_err-keep-in-None.ensures.1 k.0))))

pub projection-returns-in_ok-keep-in-None : goal.projection-returns-in_ok-keep-in-None
projection-returns-in_ok-keep-in-None t c =
    let v = c.in_ok-whole.ensures in
    at_side c.args.side (then v (none _ c.in-None.ensures.is (so _ (test _ v.kept c.requires.here c.in_ok-keep-in-None.ensures) (stored (ap (λ u. unary c.args.self.now.place u (term c.norm.new.arena c.in_ok-whole.whole)) c.projection.ensures) c.add.ensures))))

pub unpack-returns-in_err-whole : goal.unpack-returns-in_err-whole
unpack-returns-in_err-whole t c = halt c.from_residual.ensures.1 c.in_err-whole.ensures

pub unpack-returns : goal.unpack-returns
unpack-returns t c =
    let v = c.in_ok-whole.ensures in
    then v (later (λ es p Δ E. gives_open es p Δ (term c.norm.new.arena c.in_ok-whole.whole) E) v.kept c.requires.here (v.kept.trees c.args.b c.requires.b) c.open.ensures)

pub open-returns-in_err-keep-in-None : goal.open-returns-in_err-keep-in-None
open-returns-in_err-keep-in-None t c =
    let k = c.in_err-keep-in-None.ensures in
    none _ c.in-None.ensures.is (otherwise _ k.1 (stuck c.from_residual.ensures.1 k.0))

pub deep-returns-in_err-outer : goal.deep-returns-in_err-outer
deep-returns-in_err-outer t c = barred c.from_residual.ensures.1 c.in_err-outer.ensures

pub deep-returns-in_err-inner : goal.deep-returns-in_err-inner
deep-returns-in_err-inner t c = enters c.in_ok-outer.ensures (barred c.from_residual-in_err-inner.ensures.1 c.in_err-inner.ensures)

pub deep-returns-in_err-body : goal.deep-returns-in_err-body
deep-returns-in_err-body t c = enters c.in_ok-outer.ensures (enters c.in_ok-inner.ensures (halt c.from_residual-in_err-body.ensures.1 (inner2 c.args.b c.requires.here c.requires.b c.in_ok-outer.ensures c.in_ok-inner.ensures c.in_err-body.ensures)))

pub deep-returns : goal.deep-returns
deep-returns t c =
    let i = c.in_ok-outer.ensures in
    let j = c.in_ok-inner.ensures in
    let w = c.in_ok-body.ensures in
    enters i (enters j (then (inner2 c.args.b c.requires.here c.requires.b i j w) (stored_two Unpack c.args.v c.in_ok-body.body (on_to i.kept (on_to j.kept w.kept)) c.requires.v c.add.ensures)))

pub choose-returns-in_err-whole : goal.choose-returns-in_err-whole
choose-returns-in_err-whole t c = halt c.from_residual.ensures.1 c.in_err-whole.ensures

pub choose-returns : goal.choose-returns
choose-returns t c =
    let v = c.in_ok-whole.ensures in
    then v (later {A = Term × Term} (λ es p Δ E. gives_pick es p Δ (term c.norm.new.arena c.in_ok-whole.whole) E.0 E.1) v.kept c.requires.here (ap₂ (λ E F. (E, F)) (v.kept.trees c.args.f c.requires.f) (v.kept.trees c.args.g c.requires.g)) c.pick.ensures)

pub pick-returns-in_err-keep-in-None-None : goal.pick-returns-in_err-keep-in-None-None
pick-returns-in_err-keep-in-None-None t c =
    let k = c.in_err-keep-in-None-None.ensures in
    none _ c.in-None-None.ensures.is (none _ c.in-None-None.ensures'.is (otherwise _ k.1 (stuck c.from_residual.ensures.1 k.0)))

pub arms-returns-in_err-left_site : goal.arms-returns-in_err-left_site
arms-returns-in_err-left_site t c = barred c.from_residual.ensures.1 c.in_err-left_site.ensures

pub arms-returns-in_err-left : goal.arms-returns-in_err-left
arms-returns-in_err-left t c = enters c.in_ok-left_site.ensures (halt c.from_residual-in_err-left.ensures.1 (inner c.args.f (still _) c.requires.here c.requires.f c.in_ok-left_site.ensures c.in_err-left.ensures))

pub arms-returns-in_err-right_site : goal.arms-returns-in_err-right_site
arms-returns-in_err-right_site t c = enters c.in_ok-left_site.ensures (then (inner c.args.f (still _) c.requires.here c.requires.f c.in_ok-left_site.ensures c.in_ok-left.ensures) (barred c.from_residual-in_err-right_site.ensures.1 c.in_err-right_site.ensures))

pub arms-returns-in_err-right : goal.arms-returns-in_err-right
arms-returns-in_err-right t c =
    let i = c.in_ok-left_site.ensures in
    let x = c.in_ok-left.ensures in
    enters i (then (inner c.args.f (still _) c.requires.here c.requires.f i x) (enters c.in_ok-right_site.ensures (halt c.from_residual-in_err-right.ensures.1 (inner c.args.g (on_to i.kept x.kept) c.requires.here c.requires.g c.in_ok-right_site.ensures c.in_err-right.ensures))))

pub arms-returns : goal.arms-returns
arms-returns t c =
    let i = c.in_ok-left_site.ensures in
    let x = c.in_ok-left.ensures in
    let j = c.in_ok-right_site.ensures in
    let y = c.in_ok-right.ensures in
    let m = on_to i.kept x.kept in
    let n = on_to j.kept y.kept in
    enters i (then (inner c.args.f (still _) c.requires.here c.requires.f i x) (enters j (then (inner c.args.g m c.requires.here c.requires.g j y) (stored_three c.args.v c.in_ok-left.left c.in_ok-right.right (on_to m n) c.requires.v n x.within c.add.ensures))))
