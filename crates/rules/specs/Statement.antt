-- What a statement of each kind needs, and what it costs in the end.
use Rattle.std.specs.Prelude.{ℕ, ◌+◌, List, [], Some, None, Option}
use Rattle.term.specs.Term.{Term, place, cells}
use Rattle.term.specs.Layout.{cells_of}
use Rattle.rules.specs.declared.refusal.Layer.TheVariants.{Typing}
use Rattle.rules.specs.declared.refusal.Refusal.{Refusal}
use Rattle.script.specs.declared.statement.StatementKind.{StatementKind}
use Rattle.script.specs.declared.statement.StatementKind.TheVariants.{Def, Axiom, Check, Eval}
use Rattle.rules.specs.Rules.{Entry, Premises, has, gives, premise, pay, conclude, has_a_sort}
use Rattle.rules.specs.Derivation.{System, Spot, Chain, Halts, Passes}

-- 1 and the cells of what is stored
abbrev pub settles : Term → Option Term → Premises
settles P v = pay (1 + (cells P + cells_of v)) (conclude P v)

-- E has a type and gives a form; E has a type; E has a sort and gives a form
abbrev pub valued : Term → Premises
valued E = premise (has [] E) (λ P. premise (gives (place E) [] E) (λ v. settles P (Some v)))

abbrev pub typed : Term → Premises
typed E = premise (has [] E) (λ P. settles P None)

abbrev pub formed : Term → Premises
formed E = has_a_sort [] E (λ s. premise (gives (place E) [] E) (λ P. settles P None))

abbrev pub judged : StatementKind → Term → Premises
judged Def E = valued E
judged Axiom E = formed E
judged Check E = typed E
judged Eval E = valued E

-- a refusal of the statement's own lies at its term
abbrev pub spot_of : Term → Spot
spot_of E = record { place = place E; layer = Typing }

-- from the entries es the statement of kind k about E has a derivation of a type and perhaps a value
-- at a cost; it is refused at a cost; its count passes a budget
abbrev pub Derivation : System → List Entry → StatementKind → Term → Term → Option Term → ℕ → Type 0
Derivation S es k E P v n = Chain S es (judged k E) P v n

abbrev pub Refusing : System → List Entry → StatementKind → Term → Refusal → ℕ → Type 0
Refusing S es k E r n = Halts S es (spot_of E) (judged k E) r n

abbrev pub Overrun : System → List Entry → StatementKind → Term → ℕ → Type 0
Overrun S es k E b = Passes S es (judged k E) b
