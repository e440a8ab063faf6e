-- What indices stand for stays as it was while cells are added.
use Rattle.std.specs.List.{HoldsAt}
use Rattle.std.specs.Option.{option_copied}
use Rattle.std.proofs.Common.{◌≡◌, ℕ, zero, suc, ◌<◌, ◌≤◌, List, [], ◌∷◌, length, get_or, IfSome, MatchOption, Some, None, Bor, Option, refl, ap, ap₂, arith}
use Rattle.term.specs.declared.arena.Arena.{Arena}
use Rattle.term.specs.declared.node.Stored.{Stored}
use Rattle.term.specs.Term.{Term}
use Rattle.term.specs.Cells.{bindings, over}
use Rattle.term.specs.State.{cells_in, Kept}
use Rattle.term.proofs.States.{bound_kept}
use Rattle.rules.specs.Rules.{Entry}
use Rattle.normal.specs.declared.site.Site.{Site}
use Rattle.normal.specs.Views.{rows, top, Listed, binding, Within}

as_row : {t u : Term} {v w : Option Term} → t ≡ u → v ≡ w → ◌≡◌ {A = Entry} (record { type = t; value = v }) (record { type = u; value = w })
as_row p q = cc

pub rows_kept : {a b : Arena} (es : List Stored) → Kept a b → top es ≤ cells_in a → rows b es ≡ rows a es
unfolding top
rows_kept [] k h = refl
rows_kept (e ∷ es) k h = ap₂ (λ x xs. x ∷ xs) (as_row (k.trees e.kind (omega arith)) (bound_kept e.value k (omega arith))) (rows_kept es k (omega arith))

pub binding_kept : {a b : Arena} (o : Option ℕ) → Kept a b → over o ≤ cells_in a → binding b o ≡ binding a o
binding_kept o k h = ap bindings (k.chains o h)

pub listed_at : (es : List Stored) (j : ℕ) (d : Stored) → j < length es → Listed es j (Some (get_or es j d))
unfolding top
listed_at [] j d h = absurd (omega arith)
listed_at (e ∷ es) zero d h = record { is = λ a. refl; low = omega arith }
listed_at (e ∷ es) (suc j) d h = let n = listed_at es j d (omega arith) in record { is = n.is; low = omega (arith, n.low) }

pub unlisted : (es : List Stored) (j : ℕ) → length es ≤ j → Listed es j None
unlisted [] j h = record { is = λ a. refl; low = omega arith }
unlisted (e ∷ es) zero h = absurd (omega arith)
unlisted (e ∷ es) (suc j) h = let n = unlisted es j (omega arith) in record { is = n.is; low = omega arith }

-- the entry j, as `get` finds it
pub listed : (es : List Stored) (j : ℕ) (r : Option (Bor Stored)) → IfSome r (λ x. x.now ≡ get_or es j x.now) → MatchOption r (length es ≤ j) (λ x. (j < length es) × HoldsAt (λ y. x.now ≡ y) es j) → Listed es j (option_copied r)
listed es j None p q = unlisted es j q
listed es j (Some x) p q = rw p (listed_at es j x.now q.0)

-- a site stands in the arena as cells are added
pub within_kept : {s : Site} {a b : Arena} → Kept a b → Within s a → Within s b
within_kept k h = record { rows = omega (arith, k.long, h.rows); ctx = omega (arith, k.long, h.ctx) }
