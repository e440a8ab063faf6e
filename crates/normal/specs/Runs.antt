-- What a call of the code has shown of a judgement, or of premises.
use Rattle.std.specs.Prelude.{◌≡◌, ℕ, ◌+◌, ◌<◌, ◌≤◌, List, IfOk, None, Ok, Err, Option, Result, MatchResult, true, false}
use Rattle.term.specs.declared.arena.Arena.{Arena}
use Rattle.term.specs.Term.{Term}
use Rattle.term.specs.State.{cells_in, term, Kept}
use Rattle.rules.specs.declared.refusal.Reason.TheVariants.{OtherForm}
use Rattle.rules.specs.declared.refusal.Layer.TheVariants.{Normalising}
use Rattle.rules.specs.declared.refusal.Refusal.{Refusal}
use Rattle.rules.specs.Rules.{Judgement, gives, Entry, Premises, neutral}
use Rattle.rules.specs.Derivation.{System, Spot, refusal, Derives, Chain, Refuses, Halts, Exceeds, Passes}
use Rattle.normal.specs.declared.halt.Halt.{Halt}
use Rattle.normal.specs.declared.halt.Halt.TheVariants.{Spent, Stuck}
use Rattle.normal.specs.declared.site.Site.{Site}
use Rattle.normal.specs.Views.{entries_at, bindings_at}

-- a result and perhaps a value, as premises conclude, or why there is none
pub data Outcome : Type 0 where
  done : Term → Option Term → Outcome
  refused : Refusal → Outcome
  spent : Outcome

module _ (S : System) (es : List Entry) where
  -- what has come of a judgement, from one budget to what is left of it
  pub data Ends : Judgement → Outcome → ℕ → ℕ → Type 0 where
    derived : {j : Judgement} {t : Term} {v : Option Term} {b e : ℕ} (cost : ℕ) → b ≡ cost + e → Derives S es j t cost → Ends j (done t v) b e
    denied : {j : Judgement} {f : Refusal} {b e : ℕ} (cost : ℕ) → b ≡ cost + e → Refuses S es j f cost → Ends j (refused f) b e
    overran : {j : Judgement} {b e : ℕ} → Exceeds S es j b → Ends j spent b e

  -- and of premises
  pub data Goes (w : Spot) : Premises → Outcome → ℕ → ℕ → Type 0 where
    derived : {c : Premises} {t : Term} {v : Option Term} {b e : ℕ} (cost : ℕ) → b ≡ cost + e → Chain S es c t v cost → Goes w c (done t v) b e
    denied : {c : Premises} {f : Refusal} {b e : ℕ} (cost : ℕ) → b ≡ cost + e → Halts S es w c f cost → Goes w c (refused f) b e
    overran : {c : Premises} {b e : ℕ} → Passes S es c b → Goes w c spent b e

-- a term at p is normalised
abbrev pub at : ℕ → Spot
at p = record { place = p; layer = Normalising }

abbrev pub halted : Halt → Outcome
halted Spent = spent
halted (Stuck p) = refused (refusal OtherForm (at p))

abbrev pub outcome : Arena → Result ℕ Halt → Outcome
outcome b (Ok i) = done (term b i) None
outcome b (Err e) = halted e

-- a normal form of E was looked for, for the term at p, whatever the system
pub record Judges (es : List Entry) (p : ℕ) (Δ : List (Option Term)) (E : Term) (a b : Arena) (r : Result ℕ Halt) : Type 0 where
  pub kept : Kept a b
  pub fair : cells_in b + b.left ≤ cells_in a + a.left
  pub falls : b.left ≤ a.left
  pub within : IfOk r (λ i. i < cells_in b)
  pub went : (S : System) → Ends S es (gives p Δ E) (outcome b r) a.left b.left

-- premises were gone through, with one cell paid for before
pub record Ran (es : List Entry) (p : ℕ) (c : Premises) (a b : Arena) (r : Result ℕ Halt) : Type 0 where
  pub kept : Kept a b
  pub fair : cells_in b + b.left ≤ cells_in a + a.left + 1
  pub falls : b.left ≤ a.left
  pub within : IfOk r (λ i. i < cells_in b)
  pub went : (S : System) → Goes S es (at p) c (outcome b r) a.left b.left

-- a normal form of E was looked for, and the premises of a rule were gone through, at a site
abbrev pub Normalises : Site → Term → Arena → Arena → Result ℕ Halt → Type 0
Normalises s E a b r = Judges (entries_at s a) s.place (bindings_at s a) E a b r

abbrev pub Applies : Site → (List Entry → ℕ → List (Option Term) → Premises) → Arena → Arena → Result ℕ Halt → Type 0
Applies s c a b r = Ran (entries_at s a) s.place (c (entries_at s a) s.place (bindings_at s a)) a b r

-- whether E is neutral there; if not, no rule fits
abbrev pub Keeps : Site → Arena → Term → Result (Unit {0}) Halt → Type 0
Keeps s a E r =
    MatchResult r (λ _. neutral (entries_at s a) (bindings_at s a) E ≡ true)
    (λ e. (e ≡ Stuck s.place) × (neutral (entries_at s a) (bindings_at s a) E ≡ false))
