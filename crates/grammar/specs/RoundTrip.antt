-- Printed terms read back as themselves.
use Rattle.std.specs.Prelude.{◌≡◌, ℕ, ◌+◌, true, false, List, ◌++◌, length, drop}
use Rattle.script.specs.Parts.{lexemes_from}
use Rattle.term.specs.Term.{Term, bare}
use Rattle.grammar.specs.Words.{Word, words}
use Rattle.grammar.specs.Grammar.{Name, expr, atom, goes_on, tree, Reads}
use Rattle.grammar.specs.Text.{binder_names, text, quiet, GoodNames, Printable}

-- from the words ws a term like t but for its places is read, and the words us are left
pub record ReadsAs (entries : List Name) (end d : ℕ) (ws us : List Word) (t : Term) : Type 0 where
  pub term : Term
  pub same : bare term ≡ bare t
  pub as_atom : Reads entries end atom (binder_names d) ws (tree term us)
  pub as_expr : goes_on us ≡ false → Reads entries end expr (binder_names d) ws (tree term us)

-- where the text of a term stands in a script, before bytes that do not go on with a word
abbrev pub RoundTrip : Type 0
RoundTrip =
    (s : List ℕ) (at : ℕ) (entries : List Name) (end d : ℕ) (t : Term) (rest : List ℕ)
    → drop at s ≡ text entries d t ++ rest
    → GoodNames entries → Printable (length entries) d t → quiet rest ≡ true
    → ReadsAs entries end d (words s (lexemes_from s at)) (words s (lexemes_from s (at + length (text entries d t)))) t
