-- A statement's words, from its lexemes.
use Rattle.std.proofs.Common.{◌≡◌, ℕ, suc, ◌+◌, ◌*◌, ◌≤◌, List, [], ◌∷◌, length, Some, None, Ok, Result, vec_items, sym, refl, ap, ◌∙◌, subst, arith}
use Rattle.std.proofs.lemmas.List.{length-map}
use Rattle.script.specs.declared.statement.Statement.{Statement}
use Rattle.script.specs.declared.statement.StatementKind.{StatementKind}
use Rattle.script.specs.declared.token.Kind.{Kind}
use Rattle.script.specs.declared.token.Kind.TheVariants.{Name, Number, Fixed, First, NoToken}
use Rattle.script.specs.Lexemes.{Lexeme}
use Rattle.script.specs.Faults.{token_check}
use Rattle.script.specs.Parts.{lexemes_from}
use Rattle.script.specs.Statements.{statement_kind, runs, summary, summaries, start_of, head, statements_from}
use Rattle.script.specs.Walk.{until, from_next}
use Rattle.script.specs.View.{LexemeTaken}
use Rattle.script.proofs.Runs.{runs_first}
use Rattle.term.specs.declared.arena.Arena.{Arena}
use Rattle.term.specs.State.{term, cells_in, Kept}
use Rattle.grammar.specs.Words.{Word, as_token, word, words}
use Rattle.grammar.specs.Grammar.{here, tree, refusal, Reading, Follows}
use Rattle.grammar.specs.Statements.{kind_in, statement, States, of_kind, of_none}
use Rattle.syntax.specs.declared.ahead.Ahead.{Ahead}
use Rattle.script.specs.declared.statement.Span.{Span}
use Rattle.syntax.specs.declared.scope.Scope.{Scope}
use Rattle.syntax.specs.declared.fault.SyntaxFault.{SyntaxFault}
use Rattle.syntax.specs.declared.read.Sentence.{Sentence}
use Rattle.syntax.specs.Faults.{fault_number, fault_place}
use Rattle.syntax.specs.Look.{text, left}
use Rattle.syntax.specs.Scopes.{entry_names}
use Rattle.syntax.specs.Parses.{at, entries, Gave, Stopped}
use Rattle.syntax.specs.Rooms.{Room}
use Rattle.syntax.specs.Reads.{statement_words, own, Next, ReadWell, TokensRead}

kind_is : (k : Kind) (x : List ℕ) → kind_in (as_token k x) ≡ statement_kind k
kind_is Name x = refl
kind_is (Number n) x = refl
kind_is (Fixed m) x = refl
kind_is (First w) x = refl
kind_is NoToken x = refl

-- what the statement layer says of the statement that begins with l
pub summary_of : (s : List ℕ) (from : ℕ) (l : Lexeme) (ls : List Lexeme) (st : Statement) → lexemes_from s from ≡ l ∷ ls → Next s from st → (st.tokens ≡ suc (length (until ls))) × (st.kind ≡ statement_kind l.kind)
unfolding statements_from
summary_of s from l ls st e n =
    let is : Some (summary s (record { first = l; rest = until ls }) (start_of s (runs (from_next ls)))) ≡ Some st =
    sym (ap (λ ms. head (summaries s (runs ms))) e ∙ ap (λ rs. head (summaries s rs)) (runs_first l ls)) ∙ n in
    let same : summary s (record { first = l; rest = until ls }) (start_of s (runs (from_next ls))) ≡ st = cc in
    (sym (ap (λ (x : Statement). x.tokens) same), sym (ap (λ (x : Statement). x.kind) same))

pub no_lexeme : (s : List ℕ) (from : ℕ) → lexemes_from s from ≡ [] → statements_from s from ≡ []
unfolding statements_from
no_lexeme s from e = ap (λ ls. summaries s (runs ls)) e

module _ (s : List ℕ) (from : ℕ) (l : Lexeme) (ls : List Lexeme) (e : lexemes_from s from ≡ l ∷ ls) where
  words_are : statement_words s from ≡ word s l ∷ words s (until ls)
  words_are = ap (λ ms. words s (own ms)) e

  -- it begins with one of the seven words
  pub states : (es : List (List ℕ)) (end : ℕ) (k : StatementKind) (r : Reading) → Some k ≡ statement_kind l.kind → Follows es end (statement k es (here end (words s (until ls)))) (words s (until ls)) r → States es end (statement_words s from) r
  states es end k r h f = subst (λ ws. States es end ws r) (sym words_are) (of_kind (kind_is l.kind _ ∙ sym h) f)

  -- or with none
  pub states_none : (es : List (List ℕ)) (end : ℕ) → None ≡ statement_kind l.kind → States es end (statement_words s from) (refusal 3 l.at)
  states_none es end h = subst (λ ws. States es end ws (refusal 3 l.at)) (sym words_are) (of_none (kind_is l.kind _ ∙ sym h))

pub states_empty : (s : List ℕ) (from : ℕ) (es : List (List ℕ)) (end : ℕ) → lexemes_from s from ≡ [] → States es end (statement_words s from) (refusal 3 end)
states_empty s from es end e = subst (λ ws. States es end ws (refusal 3 end)) (sym (ap (λ ms. words s (own ms)) e)) (of_none refl)

-- what a reader that was opened at a place has passed
pub past_first : (s s' : List ℕ) (from at to : ℕ) (l : Lexeme) → s' ≡ s → at ≡ from → LexemeTaken s' at to (Some l) → lexemes_from s from ≡ l ∷ lexemes_from s to
past_first s s' from at to l e g h = subst (λ x. lexemes_from x from ≡ l ∷ lexemes_from x to) e (subst (λ n. lexemes_from s' n ≡ l ∷ lexemes_from s' to) g h.0)

pub past_none : (s s' : List ℕ) (from at to : ℕ) → s' ≡ s → at ≡ from → LexemeTaken s' at to None → lexemes_from s from ≡ []
past_none s s' from at to e g h = subst (λ x. lexemes_from x from ≡ []) e (subst (λ n. lexemes_from s' n ≡ []) g h.0)

pub left_is : (s s' : List ℕ) (at : ℕ) (ws : List Word) → s' ≡ s → ws ≡ words s' (until (lexemes_from s' at)) → ws ≡ words s (until (lexemes_from s at))
left_is s s' at ws e h = h ∙ ap (λ x. words x (until (lexemes_from x at))) e

-- from a reader past the first word to the state where the rest is read
module _ (s : List ℕ) (from : ℕ) (l : Lexeme) (ls : List Lexeme) (e : lexemes_from s from ≡ l ∷ ls) (st : Statement) (n : Next s from st) (vs vs' : List Span) (r r' : Ahead) (sc sc' : Scope) (a b : Arena) (t : text r ≡ s) (w : left r ≡ words s (until ls)) where
  pub room : cells_in a + a.left + 2 * st.tokens ≤ a.limit → st.tokens ≤ 4000 → vec_items sc.names ≡ [] → Room r sc a
  room h f o =
      let long = ap length w ∙ length-map (until ls) (word s) in
      let some = (summary_of s from l ls st e n).0 in
      record { cells = omega (arith, long, some, h); names = omega (arith, long, some, f, sc.names.ok.0, ap length o) }

  read_by : (kind : StatementKind) (z : Reading) → Some kind ≡ statement_kind l.kind → r.end ≡ st.end → Follows (entries (at r vs sc a)) r.end (statement kind (entries (at r vs sc a)) (here r.end (left r))) (left r) z → States (entry_names s vs) st.end (statement_words s from) z
  read_by kind z h g f =
      states s from l ls e (entry_names s vs) st.end kind z h
      (subst (λ ws. Follows (entry_names s vs) st.end (statement kind (entry_names s vs) (here st.end ws)) ws z) w
      (subst (λ end. Follows (entry_names s vs) end (statement kind (entry_names s vs) (here end (left r))) (left r) z) g
      (subst (λ es. Follows es r.end (statement kind es (here r.end (left r))) (left r) z) (ap (λ x. entry_names x vs) t) f)))

  pub read_well : token_check st ≡ Ok tt → cells_in a + a.left + 2 * st.tokens ≤ a.limit → (kind : StatementKind) (i : ℕ) → Some kind ≡ statement_kind l.kind → r.end ≡ st.end → Gave 0 (at r vs sc a) (at r' vs' sc' b) (statement kind (entries (at r vs sc a)) (here r.end (left r))) i → left r' ≡ [] → ReadWell s from (entry_names s vs) a b (record { statement = st; kind = kind; term = i })
  read_well q m kind i h g f o =
      record {
        next = n;
        tokens = q;
        room = m;
        kind = (summary_of s from l ls st e n).1 ∙ sym h;
        reads = read_by kind (tree (term b i) []) h g (subst (λ ws. Follows (entries (at r vs sc a)) r.end (statement kind (entries (at r vs sc a)) (here r.end (left r))) (left r) (tree (term b i) ws)) o f.follows);
        within = f.within;
        kept = f.moves.kept;
        budget = f.moves.budget;
        cells = omega (arith, f.moves.cells, ap length w ∙ length-map (until ls) (word s), (summary_of s from l ls st e n).0);
      }

  pub read_ill : (kind : StatementKind) (d : SyntaxFault) → Some kind ≡ statement_kind l.kind → r.end ≡ st.end → Stopped (at r vs sc a) (at r' vs' sc' b) (statement kind (entries (at r vs sc a)) (here r.end (left r))) d → States (entry_names s vs) st.end (statement_words s from) (refusal (fault_number d) (fault_place d)) × Kept a b × (b.left ≡ a.left)
  read_ill kind d h g f = (read_by kind _ h g f.follows, f.moves.kept, f.moves.budget)

-- the cells that a parser held are the ones that were lent to it
pub read_still : (s : List ℕ) (from : ℕ) (es : List (List ℕ)) (a : Arena) {b b' : Arena} (st : Statement) (t : Result Sentence SyntaxFault) → TokensRead s from es a b st t → b' ≡ b → TokensRead s from es a b' st t
read_still s from es a st t h e = subst (λ b. TokensRead s from es a b st t) (sym e) h
