-- The grammar of terms as a table of productions, and what reading the words to come by it finds.
use Rattle.std.specs.Prelude.{◌≡◌, ℕ, suc, Bool, true, false, cond, ◌||◌, List, [], ◌∷◌, Some, None, Option, ◌==◌, nat_lt}
use Rattle.std.specs.Str.{bytes_eq}
use Rattle.script.specs.declared.token.Mark.{Mark}
use Rattle.script.specs.declared.token.Mark.TheVariants.{TypeWord, PropWord, KindWord, SortWord, Opens, OpensBrace, MatchWord, FstWord, SndWord, InlWord, InrWord, FunWord, PiWord, ForallWord, SigmaWord, ExistsWord, LetWord, Arrow, Plus, Times, Closes, ClosesBrace, Comma, Colon, Becomes, Maps, Bar, InWord, WithWord, EndWord}
use Rattle.script.specs.Marks.{code}
use Rattle.script.specs.Names.{nearest}
use Rattle.term.specs.declared.node.Unary.TheVariants.{Fun, Fst, Snd, Inl, Inr}
use Rattle.term.specs.declared.node.Binary.{Binary}
use Rattle.term.specs.declared.node.Binary.TheVariants.{Pi, Sigma, Exists, Typed, App, Pair, Pack, Unpack, Sum, Ascribe, Let}
use Rattle.term.specs.Term.{Term, sort, local, entry, unary, binary, choice, place}
use Rattle.grammar.specs.Words.{Token, name, number, mark, first, no_token, Word}

abbrev pub Name : Type 0
Name = List ℕ

abbrev pub is_token : Mark → Token → Bool
is_token m (name x) = false
is_token m (number n) = false
is_token m (mark k) = code k == code m
is_token m (first w) = false
is_token m no_token = false

-- the next word is this mark
abbrev pub is : Mark → List Word → Bool
is m [] = false
is m (w ∷ ws) = is_token m w.token

abbrev pub name_in : Token → Option Name
name_in (name x) = Some x
name_in (number n) = None
name_in (mark m) = None
name_in (first w) = None
name_in no_token = None

abbrev pub number_in : Token → Option ℕ
number_in (name x) = None
number_in (number n) = Some n
number_in (mark m) = None
number_in (first w) = None
number_in no_token = None

abbrev pub next_name : List Word → Option Name
next_name [] = None
next_name (w ∷ ws) = name_in w.token

abbrev pub next_number : List Word → Option ℕ
next_number [] = None
next_number (w ∷ ws) = number_in w.token

abbrev pub past : List Word → List Word
past [] = []
past (w ∷ ws) = ws

-- the place of the next word, or the statement's end
abbrev pub here : ℕ → List Word → ℕ
here end [] = end
here end (w ∷ ws) = w.at

abbrev pub begins_token : Token → Bool
begins_token (name x) = true
begins_token (number n) = false
begins_token (mark m) = nat_lt (code m) 7
begins_token (first w) = false
begins_token no_token = false

-- the next word begins an atom
abbrev pub begins : List Word → Bool
begins [] = false
begins (w ∷ ws) = begins_token w.token

-- the next word goes on with an expression
abbrev pub goes_on : List Word → Bool
goes_on ws = begins ws || (is Times ws || (is Plus ws || is Arrow ws))

abbrev pub later : Option ℕ → Option ℕ
later None = None
later (Some k) = Some (suc k)

-- how many binders stand between here and the nearest of this name, of binders the nearest first
abbrev pub find : Name → List Name → Option ℕ
find x [] = None
find x (y ∷ ys) = cond (bytes_eq y x) (Some 0) (later (find x ys))

-- the last entry of this name, of entries in the order in which they were entered
abbrev pub find_entry : Name → List Name → Option ℕ
find_entry x es = nearest (λ y. bytes_eq y x) es

-- the grammar's signs; after E, the arguments of E
pub data Sign : Type 0 where
  expr sums products application atom : Sign
  arguments : Term → Sign

-- what a production asks of the words to come
pub data Steps : Type 0 where
  give : Term → Steps
  refuse : ℕ → ℕ → Steps
  misfit : Steps
  ending : Steps → Steps
  next : Mark → Steps → Steps → Steps
  a_name : (Name → Steps) → Steps → Steps
  a_number : (ℕ → Steps) → Steps
  part : Sign → List Name → (Term → Steps) → Steps

abbrev pub eat : Mark → Steps → Steps
eat m s = next m s misfit

abbrev pub binder : (Name → Steps) → Steps
binder f = a_name f misfit

-- "(" x ":" E ")"
abbrev pub typed : List Name → (Name → Term → Steps) → Steps
typed sc f = eat Opens (binder (λ x. eat Colon (part expr sc (λ A. eat Closes (f x A)))))

abbrev pub quantified : Binary → List Name → ℕ → Steps
quantified q sc p = typed sc (λ x A. eat Comma (part expr (x ∷ sc) (λ B. give (binary p q A B))))

-- "fun" x "=>" E | "fun" "(" x ":" E ")" "=>" E
abbrev pub functions : List Name → ℕ → Steps
functions sc p =
    a_name (λ x. eat Maps (part expr (x ∷ sc) (λ b. give (unary p Fun b))))
    (typed sc (λ x T. eat Maps (part expr (x ∷ sc) (λ b. give (binary p Typed T b)))))

-- "let" "{" x "," y "}" ":=" E "in" E | "let" x [":" E] ":=" E "in" E
abbrev pub lets : List Name → ℕ → Steps
lets sc p =
    next OpensBrace
    (binder (λ x. eat Comma (binder (λ y. eat ClosesBrace (eat Becomes (part expr sc (λ E. eat InWord (part expr (y ∷ x ∷ sc) (λ b. give (binary p Unpack E b))))))))))
    (binder (λ x. next Colon
    (part expr sc (λ T. eat Becomes (part expr sc (λ E. eat InWord (part expr (x ∷ sc) (λ b. give (binary p Let (binary (place T) Ascribe E T) b)))))))
    (eat Becomes (part expr sc (λ E. eat InWord (part expr (x ∷ sc) (λ b. give (binary p Let E b))))))))

-- x "=>" E
abbrev pub arm : List Name → (Term → Steps) → Steps
arm sc f = binder (λ x. eat Maps (part expr (x ∷ sc) f))

-- "match" E "with" arm arm "end", one of each
abbrev pub matches : List Name → ℕ → Steps
matches sc p =
    part expr sc (λ E. eat WithWord (eat Bar (next InlWord
    (arm sc (λ F. eat Bar (eat InrWord (arm sc (λ G. eat EndWord (give (choice p E F G)))))))
    (eat InrWord (arm sc (λ G. eat Bar (eat InlWord (arm sc (λ F. eat EndWord (give (choice p E F G)))))))))))

-- "(" E [(":"|",") E] ")"
abbrev pub bracketed : List Name → ℕ → Steps
bracketed sc p =
    part expr sc (λ E. next Colon (part expr sc (λ T. eat Closes (give (binary p Ascribe E T))))
    (next Comma (part expr sc (λ F. eat Closes (give (binary p Pair E F)))) (eat Closes (give E))))

-- the nearest binder, else the entry
abbrev pub entry_at : Option ℕ → ℕ → Steps
entry_at None p = refuse 4 p
entry_at (Some j) p = give (entry p j)

abbrev pub meant : Option ℕ → Option ℕ → ℕ → Steps
meant None e p = entry_at e p
meant (Some k) e p = give (local p k)

-- a head's atom, then its arguments
abbrev pub headed : List Name → (Term → Term) → Steps
headed sc f = part atom sc (λ E. part (arguments (f E)) sc give)

module _ (entries : List Name) (end : ℕ) where
  -- what a sign asks, under binders of these names, the nearest first; an unused binder's name is empty
  abbrev pub production : Sign → List Name → List Word → Steps
  production expr sc ws =
      next FunWord (functions sc (here end ws))
      (next PiWord (quantified Pi sc (here end ws)) (next ForallWord (quantified Pi sc (here end ws))
      (next SigmaWord (quantified Sigma sc (here end ws)) (next ExistsWord (quantified Exists sc (here end ws))
      (next LetWord (lets sc (here end ws))
      (part sums sc (λ A. next Arrow (part expr ([] ∷ sc) (λ B. give (binary (place A) Pi A B))) (give A))))))))
  production sums sc ws =
      part products sc (λ A. next Plus (part sums sc (λ B. give (binary (place A) Sum A B))) (give A))
  production products sc ws =
      part application sc (λ A. next Times (part products ([] ∷ sc) (λ B. give (binary (place A) Sigma A B))) (give A))
  production application sc ws =
      next FstWord (headed sc (unary (here end ws) Fst)) (next SndWord (headed sc (unary (here end ws) Snd))
      (next InlWord (headed sc (unary (here end ws) Inl)) (next InrWord (headed sc (unary (here end ws) Inr))
      (headed sc (λ E. E)))))
  production (arguments E) sc ws =
      cond (begins ws) (part atom sc (λ F. part (arguments (binary (place E) App E F)) sc give)) (give E)
  production atom sc ws =
      a_name (λ x. meant (find x sc) (find_entry x entries) (here end ws))
      (next TypeWord (give (sort (here end ws) 0)) (next PropWord (give (sort (here end ws) 0))
      (next KindWord (give (sort (here end ws) 1)) (next SortWord (a_number (λ n. give (sort (here end ws) n)))
      (next Opens (bracketed sc (here end ws))
      (next OpensBrace (part expr sc (λ E. eat Comma (part expr sc (λ F. eat ClosesBrace (give (binary (here end ws) Pack E F))))))
      (next MatchWord (matches sc (here end ws)) misfit)))))))

-- a tree with the words left, or a refusal's number and place
pub data Reading : Type 0 where
  tree : Term → List Word → Reading
  refusal : ℕ → ℕ → Reading

module _ (entries : List Name) (end : ℕ) where
  -- the steps lead from these words to this reading
  pub data Follows : Steps → List Word → Reading → Type 0 where
    given : {t : Term} {ws : List Word} → Follows (give t) ws (tree t ws)
    refused : {n p : ℕ} {ws : List Word} → Follows (refuse n p) ws (refusal n p)
    unfit : {ws : List Word} → Follows misfit ws (refusal 3 (here end ws))
    ended : {s : Steps} {r : Reading} → Follows s [] r → Follows (ending s) [] r
    overrun : {s : Steps} {w : Word} {ws : List Word} → Follows (ending s) (w ∷ ws) (refusal 3 w.at)
    passed : {m : Mark} {s z : Steps} {ws : List Word} {r : Reading}
        → is m ws ≡ true → Follows s (past ws) r → Follows (next m s z) ws r
    turned : {m : Mark} {s z : Steps} {ws : List Word} {r : Reading}
        → is m ws ≡ false → Follows z ws r → Follows (next m s z) ws r
    named : {f : Name → Steps} {z : Steps} {ws : List Word} {r : Reading} {x : Name}
        → next_name ws ≡ Some x → Follows (f x) (past ws) r → Follows (a_name f z) ws r
    nameless : {f : Name → Steps} {z : Steps} {ws : List Word} {r : Reading}
        → next_name ws ≡ None → Follows z ws r → Follows (a_name f z) ws r
    numbered : {f : ℕ → Steps} {ws : List Word} {r : Reading} {n : ℕ}
        → next_number ws ≡ Some n → Follows (f n) (past ws) r → Follows (a_number f) ws r
    numberless : {f : ℕ → Steps} {ws : List Word} → next_number ws ≡ None
        → Follows (a_number f) ws (refusal 3 (here end ws))
    parted : {g : Sign} {sc : List Name} {f : Term → Steps} {ws : List Word} {t : Term} {us : List Word} {r : Reading}
        → Follows (production entries end g sc ws) ws (tree t us) → Follows (f t) us r → Follows (part g sc f) ws r
    broken : {g : Sign} {sc : List Name} {f : Term → Steps} {ws : List Word} {n p : ℕ}
        → Follows (production entries end g sc ws) ws (refusal n p) → Follows (part g sc f) ws (refusal n p)

  abbrev pub Reads : Sign → List Name → List Word → Reading → Type 0
  Reads g sc ws r = Follows (production entries end g sc ws) ws r
