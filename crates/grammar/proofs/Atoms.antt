-- What begins an atom begins no longer form, and arguments go on while atoms begin.
use Rattle.std.proofs.Common.{◌≡◌, ℕ, true, false, cond, leb, List, sym, subst, arith}
use Rattle.script.specs.declared.token.Mark.{Mark}
use Rattle.script.specs.Marks.{code}
use Rattle.term.specs.declared.node.Binary.TheVariants.{App}
use Rattle.term.specs.Term.{Term, binary, place}
use Rattle.grammar.specs.Words.{Word}
use Rattle.grammar.specs.Grammar.{Name, atom, arguments, give, part, is, begins, Reading, tree, refusal, Follows, Reads}
use Rattle.grammar.specs.Grammar.Follows.{given, parted, broken}

pub plain : (ws : List Word) → begins ws ≡ true → (m : Mark) → leb 7 (code m) ≡ true → is m ws ≡ false
plain ws e m h = grind arith

module _ (entries : List Name) (end : ℕ) (sc : List Name) where
  pub no_arguments : {us : List Word} {t : Term} → begins us ≡ false → Reads entries end (arguments t) sc us (tree t us)
  no_arguments {us} {t} e = subst (λ b. Follows entries end (cond b (part atom sc (λ F. part (arguments (binary (place t) App t F)) sc give)) (give t)) us (tree t us)) (sym e) given

  pub argument : (t : Term) {ws us vs : List Word} {F u : Term} → begins ws ≡ true → Reads entries end atom sc ws (tree F us) → Reads entries end (arguments (binary (place t) App t F)) sc us (tree u vs) → Reads entries end (arguments t) sc ws (tree u vs)
  argument t {ws} {vs = vs} {u = u} e r q = subst (λ b. Follows entries end (cond b (part atom sc (λ F. part (arguments (binary (place t) App t F)) sc give)) (give t)) ws (tree u vs)) (sym e) (parted r (parted q given))

  -- the same for any reading of what comes after the argument, and for an argument that is refused
  pub argument_then : (t : Term) (ws : List Word) {us : List Word} {F : Term} (r : Reading) → begins ws ≡ true → Reads entries end atom sc ws (tree F us) → Reads entries end (arguments (binary (place t) App t F)) sc us r → Reads entries end (arguments t) sc ws r
  argument_then t ws (tree u vs) e a q = argument t e a q
  argument_then t ws (refusal n p) e a q =
      subst (λ b. Follows entries end (cond b (part atom sc (λ F. part (arguments (binary (place t) App t F)) sc give)) (give t)) ws (refusal n p)) (sym e) (parted a (broken q))

  pub argument_refused : (t : Term) (ws : List Word) {n p : ℕ} → begins ws ≡ true → Reads entries end atom sc ws (refusal n p) → Reads entries end (arguments t) sc ws (refusal n p)
  argument_refused t ws {n} {p} e a =
      subst (λ b. Follows entries end (cond b (part atom sc (λ F. part (arguments (binary (place t) App t F)) sc give)) (give t)) ws (refusal n p)) (sym e) (broken a)
