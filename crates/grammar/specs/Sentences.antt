-- The grammar of statements, as a relation with a constructor for each form.
use Rattle.std.specs.Prelude.{◌≡◌, ℕ, true, List, [], Some, None, slice_index}
use Rattle.std.specs.Char.{is_ascii_alphabetic}
use Rattle.script.specs.declared.token.Mark.TheVariants.{Colon, Becomes}
use Rattle.script.specs.declared.statement.StatementKind.{StatementKind}
use Rattle.script.specs.declared.statement.StatementKind.TheVariants.{Def, Axiom, Check, Eval}
use Rattle.term.specs.declared.node.Binary.TheVariants.{Ascribe}
use Rattle.term.specs.Term.{Term, binary, place}
use Rattle.grammar.specs.Words.{Word}
use Rattle.grammar.specs.Grammar.{Name, expr, find_entry, past, tree}
use Rattle.grammar.specs.Statements.{kind_of, States}
use Rattle.grammar.specs.Phrases.{Takes, Calls, Phrase}

-- the words a begin with a name that may be entered, and b are left
pub record Enters (entries : List Name) (a b : List Word) : Type 0 where
  pub word : Name
  pub calls : Calls word a b
  pub letter : is_ascii_alphabetic (slice_index word 0) ≡ true
  pub new : find_entry word entries ≡ None

module _ (entries : List Name) (end : ℕ) where
  -- the words after the first of a statement of this kind, and the term that it is about
  pub data Sentence : StatementKind → List Word → Term → Type 0 where
    a_def : {a b c : List Word} {E : Term}
        → Enters entries a b → Takes Becomes b c → Phrase entries end expr [] c [] E → Sentence Def a E
    a_typed_def : {a b c d e : List Word} {T E : Term}
        → Enters entries a b → Takes Colon b c → Phrase entries end expr [] c d T → Takes Becomes d e
        → Phrase entries end expr [] e [] E → Sentence Def a (binary (place T) Ascribe E T)
    an_axiom : {a b c : List Word} {T : Term}
        → Enters entries a b → Takes Colon b c → Phrase entries end expr [] c [] T → Sentence Axiom a T
    a_check : {a : List Word} {E : Term} → Phrase entries end expr [] a [] E → Sentence Check a E
    an_eval : {a : List Word} {E : Term} → Phrase entries end expr [] a [] E → Sentence Eval a E

  pub record Spoken (ws us : List Word) (t : Term) : Type 0 where
    pub kind : StatementKind
    pub begins : kind_of ws ≡ Some kind
    pub sentence : Sentence kind (past ws) t
    pub whole : us ≡ []

-- what is read is a sentence, to its last word
abbrev pub ReadSentences : Type 0
ReadSentences =
    (entries : List Name) (end : ℕ) (ws us : List Word) (t : Term)
    → States entries end ws (tree t us) → Spoken entries end ws us t

-- and a sentence is read
abbrev pub SentencesRead : Type 0
SentencesRead =
    (entries : List Name) (end : ℕ) (ws : List Word) (k : StatementKind) (t : Term)
    → kind_of ws ≡ Some k → Sentence entries end k (past ws) t → States entries end ws (tree t [])
