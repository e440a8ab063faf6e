-- What printing does with the caller's bytes.
use Rattle.std.specs.Prelude.{◌≡◌, ℕ, ◌+◌, ◌<◌, true, List, ◌++◌, length, take, drop, Result, MatchResult}
use Rattle.script.specs.Parts.{lexemes_from}
use Rattle.term.specs.Term.{Term}
use Rattle.grammar.specs.Words.{words}
use Rattle.grammar.specs.Grammar.{Name}
use Rattle.grammar.specs.Text.{text, quiet, GoodNames, Printable}
use Rattle.grammar.specs.RoundTrip.{ReadsAs}
use Rattle.printing.specs.declared.fault.PrintFault.{PrintFault}
use Rattle.printing.specs.declared.fault.PrintFault.TheVariants.{OutputShort}

abbrev pub print_number : PrintFault → ℕ
print_number OutputShort = 26

-- the text of a closed tree was put in front, with its length as the answer; or it does not fit, and nothing is changed
abbrev pub Printed : List Name → Term → List ℕ → List ℕ → Result ℕ PrintFault → Type 0
Printed entries t was is r =
    MatchResult r (λ n. (n ≡ length (text entries 0 t)) × (is ≡ text entries 0 t ++ drop n was))
    (λ e. (print_number e ≡ 26) × (length was < length (text entries 0 t)) × (is ≡ was))

-- where what was printed stands in a script, before bytes that do not go on with a word, a term like
-- t but for its places is read, up to the end of the text
abbrev pub ReadsBack : List Name → Term → List ℕ → Result ℕ PrintFault → Type 0
ReadsBack entries t is r =
    MatchResult r
    (λ n. (s : List ℕ) (at end : ℕ) (rest : List ℕ)
    → drop at s ≡ take n is ++ rest → GoodNames entries → Printable (length entries) 0 t → quiet rest ≡ true
    → ReadsAs entries end 0 (words s (lexemes_from s at)) (words s (lexemes_from s (at + n))) t)
    (λ _. Unit {0})
