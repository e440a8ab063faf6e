-- The grammar as a function: what a reader whose calls nest at most n deep finds.
use Rattle.std.specs.Prelude.{◌≡◌, ℕ, zero, suc, Bool, true, false, List, [], ◌∷◌, Some, None, Option}
use Rattle.term.specs.Term.{Term}
use Rattle.grammar.specs.Words.{Word}
use Rattle.grammar.specs.Grammar.{Name, Sign, Steps, give, refuse, misfit, ending, next, a_name, a_number, part, is, next_name, next_number, past, here, production, Reading, tree, refusal, Reads}

abbrev pub by_test : Bool → (Unit {0} → Option Reading) → (Unit {0} → Option Reading) → Option Reading
by_test true f g = f tt
by_test false f g = g tt

abbrev pub by_found : {A : Type 0} → Option A → (A → Option Reading) → (Unit {0} → Option Reading) → Option Reading
by_found None f g = g tt
by_found (Some x) f g = f x

abbrev pub on_from : Option Reading → (Term → List Word → Option Reading) → Option Reading
on_from None f = None
on_from (Some (tree t ws)) f = f t ws
on_from (Some (refusal n p)) f = Some (refusal n p)

module _ (entries : List Name) (end : ℕ) where
  abbrev pub follow : (Sign → List Name → List Word → Option Reading) → Steps → List Word → Option Reading
  follow ask (give t) ws = Some (tree t ws)
  follow ask (refuse n p) ws = Some (refusal n p)
  follow ask misfit ws = Some (refusal 3 (here end ws))
  follow ask (ending s) [] = follow ask s []
  follow ask (ending s) (w ∷ ws) = Some (refusal 3 w.at)
  follow ask (next m s z) ws = by_test (is m ws) (λ u. follow ask s (past ws)) (λ u. follow ask z ws)
  follow ask (a_name f z) ws = by_found (next_name ws) (λ x. follow ask (f x) (past ws)) (λ u. follow ask z ws)
  follow ask (a_number f) ws = by_found (next_number ws) (λ n. follow ask (f n) (past ws)) (λ u. Some (refusal 3 (here end ws)))
  follow ask (part g sc f) ws = on_from (ask g sc ws) (λ t us. follow ask (f t) us)

  abbrev pub reading : ℕ → Sign → List Name → List Word → Option Reading
  reading zero g sc ws = None
  reading (suc n) g sc ws = follow (reading n) (production entries end g sc ws) ws

-- every list of words has one reading
abbrev pub OneReading : Type 0
OneReading =
    (entries : List Name) (end : ℕ) (g : Sign) (sc : List Name) (ws : List Word)
    → (r : Reading) × Reads entries end g sc ws r × ((q : Reading) → Reads entries end g sc ws q → q ≡ r)
