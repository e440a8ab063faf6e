-- Terms and contexts whose locals all have their binders.
use Rattle.std.specs.Prelude.{◌≡◌, ℕ, Bool, true, List, [], ◌∷◌, length, Some, None, Option}
use Rattle.term.specs.Term.{Term, closed}
use Rattle.term.specs.Cells.{Bound}
use Rattle.rules.specs.Rules.{Entry, Judgement, has, meets, gives}

abbrev pub closed_value : ℕ → Option Term → Bool
closed_value d None = true
closed_value d (Some v) = closed d v

-- entries stand outside of all binders
abbrev pub Sealed : List Entry → Type 0
Sealed [] = Unit {0}
Sealed (e ∷ es) = (closed 0 e.type ≡ true) × (closed_value 0 e.value ≡ true) × Sealed es

-- each binder of a context stands inside of those that follow it
abbrev pub Bounded : List Bound → Type 0
Bounded [] = Unit {0}
Bounded (b ∷ Γ) = (closed (length Γ) b.type ≡ true) × (closed_value (length Γ) b.value ≡ true) × Bounded Γ

abbrev pub Fixed : List (Option Term) → Type 0
Fixed [] = Unit {0}
Fixed (v ∷ Δ) = (closed_value (length Δ) v ≡ true) × Fixed Δ

abbrev pub Scoped : Judgement → Type 0
Scoped (has Γ E) = Bounded Γ × (closed (length Γ) E ≡ true)
Scoped (meets Γ E P) = Bounded Γ × (closed (length Γ) E ≡ true) × (closed (length Γ) P ≡ true)
Scoped (gives p Δ E) = Fixed Δ × (closed (length Δ) E ≡ true)

-- how many binders stand over a judgement
abbrev pub depth : Judgement → ℕ
depth (has Γ E) = length Γ
depth (meets Γ E P) = length Γ
depth (gives p Δ E) = length Δ
