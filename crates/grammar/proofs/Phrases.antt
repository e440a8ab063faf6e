-- What is read is a phrase of the grammar.
use Rattle.std.proofs.Common.{◌≡◌, ℕ, Bool, true, false, cond, List, [], ◌∷◌, Some, None, Option, refl}
use Rattle.script.specs.declared.token.Mark.{Mark}
use Rattle.script.specs.declared.token.Mark.TheVariants.{Opens, Closes, Colon, Maps}
use Rattle.term.specs.declared.node.Binary.TheVariants.{App}
use Rattle.term.specs.Term.{Term, binary, place}
use Rattle.grammar.specs.Words.{Word}
use Rattle.grammar.specs.Grammar.{Name, Sign, expr, sums, products, application, atom, arguments, Steps, give, misfit, ending, next, a_name, a_number, part, typed, arm, meant, find, find_entry, here, is, begins, next_name, next_number, past, production, tree, Follows}
use Rattle.grammar.specs.Grammar.Follows.{given, ended, passed, turned, named, nameless, numbered, parted}
use Rattle.grammar.specs.Phrases.{Takes, took, Calls, called, counted, Phrase, ReadPhrases}
use Rattle.grammar.specs.Phrases.Phrase.{a_function, a_typed_function, a_pi, a_forall, a_sigma, an_exists, a_let, a_typed_let, an_unpack, no_arrow, an_arrow, no_plus, a_sum, no_times, a_product}
use Rattle.grammar.specs.Phrases.Phrase.{by_atom, by_fst, by_snd, by_inl, by_inr, no_more, one_more, a_local, an_entry, a_type, a_prop, a_kind, a_sort, a_group, an_ascription, a_pair, a_pack, a_match, a_turned_match}

module _ (entries : List Name) (end : ℕ) where
  -- the steps lead from a to z by phrases
  pub data Leads : Steps → List Word → List Word → Term → Type 0 where
    gave : {a : List Word} {t : Term} → Leads (give t) a a t
    at_the_end : {s : Steps} {z : List Word} {t : Term} → Leads s [] z t → Leads (ending s) [] z t
    took_it : {m : Mark} {s q : Steps} {a z : List Word} {t : Term} → is m a ≡ true → Leads s (past a) z t → Leads (next m s q) a z t
    left_it : {m : Mark} {s q : Steps} {a z : List Word} {t : Term} → Leads q a z t → Leads (next m s q) a z t
    by_name : {f : Name → Steps} {q : Steps} {a z : List Word} {t : Term} {x : Name} → next_name a ≡ Some x → Leads (f x) (past a) z t → Leads (a_name f q) a z t
    no_name : {f : Name → Steps} {q : Steps} {a z : List Word} {t : Term} → Leads q a z t → Leads (a_name f q) a z t
    by_number : {f : ℕ → Steps} {a z : List Word} {t : Term} {n : ℕ} → next_number a ≡ Some n → Leads (f n) (past a) z t → Leads (a_number f) a z t
    by_phrase : {g : Sign} {sc : List Name} {f : Term → Steps} {a b z : List Word} {u t : Term} → Phrase entries end g sc a b u → Leads (f u) b z t → Leads (part g sc f) a z t

  -- the steps taken apart
  pub ate : {P : Type 0} {m : Mark} {s : Steps} {a z : List Word} {t : Term} → Leads (next m s misfit) a z t → (Takes m a (past a) → Leads s (past a) z t → P) → P
  ate (took_it e l) k = k (took e) l
  ate (left_it l) k = elim l [ ]

  pub fork : {P : Type 0} {m : Mark} {s q : Steps} {a z : List Word} {t : Term} → Leads (next m s q) a z t → (Takes m a (past a) → Leads s (past a) z t → P) → (Leads q a z t → P) → P
  fork (took_it e l) k h = k (took e) l
  fork (left_it l) k h = h l

  pub bound : {P : Type 0} {f : Name → Steps} {a z : List Word} {t : Term} → Leads (a_name f misfit) a z t → ((x : Name) → Calls x a (past a) → Leads (f x) (past a) z t → P) → P
  bound (by_name e l) k = k _ (called e) l
  bound (no_name l) k = elim l [ ]

  pub parts : {P : Type 0} {g : Sign} {sc : List Name} {f : Term → Steps} {a z : List Word} {t : Term} → Leads (part g sc f) a z t → ((b : List Word) (u : Term) → Phrase entries end g sc a b u → Leads (f u) b z t → P) → P
  parts (by_phrase p l) k = k _ _ p l

  ends : {g : Sign} {sc : List Name} {a b z : List Word} {u t : Term} → Leads (give u) b z t → Phrase entries end g sc a b u → Phrase entries end g sc a z t
  ends gave p = p

  by_type : {P : Type 0} {sc : List Name} {f : Name → Term → Steps} {a z : List Word} {t : Term} → Leads (typed sc f) a z t
      → ((x : Name) (e : List Word) (A : Term) → Takes Opens a (past a) → Calls x (past a) (past (past a)) → Takes Colon (past (past a)) (past (past (past a))) → Phrase entries end expr sc (past (past (past a))) e A → Takes Closes e (past e) → Leads (f x A) (past e) z t → P) → P
  by_type l k = ate l (λ i l. bound l (λ x j l. ate l (λ m l. parts l (λ e A p l. ate l (λ n l. k x e A i j m p n l)))))

  by_arm : {P : Type 0} {sc : List Name} {f : Term → Steps} {a z : List Word} {t : Term} → Leads (arm sc f) a z t
      → ((x : Name) (e : List Word) (F : Term) → Calls x a (past a) → Takes Maps (past a) (past (past a)) → Phrase entries end expr (x ∷ sc) (past (past a)) e F → Leads (f F) e z t → P) → P
  by_arm l k = bound l (λ x i l. ate l (λ j l. parts l (λ e F p l. k x e F i j p l)))

  an_expr : (sc : List Name) (a : List Word) {z : List Word} {t : Term} → Leads (production entries end expr sc a) a z t → Phrase entries end expr sc a z t
  an_expr sc a (took_it e (by_name f l)) = ate l (λ i l. parts l (λ b u p l. ends l (a_function (took e) (called f) i p)))
  an_expr sc a (took_it e (no_name l)) = by_type l (λ x b A i j m p n l. ate l (λ o l. parts l (λ c u q l. ends l (a_typed_function (took e) i j m p n o q))))
  an_expr sc a (left_it (took_it e l)) = by_type l (λ x b A i j m p n l. ate l (λ o l. parts l (λ c u q l. ends l (a_pi (took e) i j m p n o q))))
  an_expr sc a (left_it (left_it (took_it e l))) = by_type l (λ x b A i j m p n l. ate l (λ o l. parts l (λ c u q l. ends l (a_forall (took e) i j m p n o q))))
  an_expr sc a (left_it (left_it (left_it (took_it e l)))) = by_type l (λ x b A i j m p n l. ate l (λ o l. parts l (λ c u q l. ends l (a_sigma (took e) i j m p n o q))))
  an_expr sc a (left_it (left_it (left_it (left_it (took_it e l))))) = by_type l (λ x b A i j m p n l. ate l (λ o l. parts l (λ c u q l. ends l (an_exists (took e) i j m p n o q))))
  an_expr sc a (left_it (left_it (left_it (left_it (left_it (took_it e (took_it f l))))))) =
      bound l (λ x i l. ate l (λ j l. bound l (λ y m l. ate l (λ n l. ate l (λ o l. parts l (λ b u p l. ate l (λ r l. parts l (λ c v q l. ends l (an_unpack (took e) (took f) i j m n o p r q)))))))))
  an_expr sc a (left_it (left_it (left_it (left_it (left_it (took_it e (left_it (by_name f (took_it g l))))))))) =
      parts l (λ b T p l. ate l (λ i l. parts l (λ c E q l. ate l (λ j l. parts l (λ d F r l. ends l (a_typed_let (took e) (called f) (took g) p i q j r))))))
  an_expr sc a (left_it (left_it (left_it (left_it (left_it (took_it e (left_it (by_name f (left_it l))))))))) =
      ate l (λ i l. parts l (λ c E q l. ate l (λ j l. parts l (λ d F r l. ends l (a_let (took e) (called f) i q j r)))))
  an_expr sc a (left_it (left_it (left_it (left_it (left_it (took_it e (left_it (no_name l)))))))) = elim l [ ]
  an_expr sc a (left_it (left_it (left_it (left_it (left_it (left_it (by_phrase p (took_it e l)))))))) = parts l (λ b u q l. ends l (an_arrow p (took e) q))
  an_expr sc a (left_it (left_it (left_it (left_it (left_it (left_it (by_phrase p (left_it gave)))))))) = no_arrow p

  a_sums : (sc : List Name) (a : List Word) {z : List Word} {t : Term} → Leads (production entries end sums sc a) a z t → Phrase entries end sums sc a z t
  a_sums sc a (by_phrase p (took_it e l)) = parts l (λ b u q l. ends l (a_sum p (took e) q))
  a_sums sc a (by_phrase p (left_it gave)) = no_plus p

  a_products : (sc : List Name) (a : List Word) {z : List Word} {t : Term} → Leads (production entries end products sc a) a z t → Phrase entries end products sc a z t
  a_products sc a (by_phrase p (took_it e l)) = parts l (λ b u q l. ends l (a_product p (took e) q))
  a_products sc a (by_phrase p (left_it gave)) = no_times p

  an_application : (sc : List Name) (a : List Word) {z : List Word} {t : Term} → Leads (production entries end application sc a) a z t → Phrase entries end application sc a z t
  an_application sc a (took_it e (by_phrase p (by_phrase q gave))) = by_fst (took e) p q
  an_application sc a (left_it (took_it e (by_phrase p (by_phrase q gave)))) = by_snd (took e) p q
  an_application sc a (left_it (left_it (took_it e (by_phrase p (by_phrase q gave))))) = by_inl (took e) p q
  an_application sc a (left_it (left_it (left_it (took_it e (by_phrase p (by_phrase q gave)))))) = by_inr (took e) p q
  an_application sc a (left_it (left_it (left_it (left_it (by_phrase p (by_phrase q gave)))))) = by_atom p q

  the_arguments : (b : Bool) (E : Term) (sc : List Name) (a : List Word) {z : List Word} {t : Term} → Leads (cond b (part atom sc (λ F. part (arguments (binary (place E) App E F)) sc give)) (give E)) a z t → Phrase entries end (arguments E) sc a z t
  the_arguments true E sc a (by_phrase p (by_phrase q gave)) = one_more p q
  the_arguments false E sc a gave = no_more

  a_name_is : (sc : List Name) (a : List Word) (x : Name) (k j : Option ℕ) {z : List Word} {t : Term} → Calls x a (past a) → find x sc ≡ k → find_entry x entries ≡ j → Leads (meant k j (here end a)) (past a) z t → Phrase entries end atom sc a z t
  a_name_is sc a x None None c e f l = elim l [ ]
  a_name_is sc a x None (Some j) c e f gave = an_entry c e f
  a_name_is sc a x (Some k) j c e f gave = a_local c e

  an_atom : (sc : List Name) (a : List Word) {z : List Word} {t : Term} → Leads (production entries end atom sc a) a z t → Phrase entries end atom sc a z t
  an_atom sc a (by_name {x = x} e l) = a_name_is sc a x (find x sc) (find_entry x entries) (called e) refl refl l
  an_atom sc a (no_name (took_it e gave)) = a_type (took e)
  an_atom sc a (no_name (left_it (took_it e gave))) = a_prop (took e)
  an_atom sc a (no_name (left_it (left_it (took_it e gave)))) = a_kind (took e)
  an_atom sc a (no_name (left_it (left_it (left_it (took_it e (by_number f gave)))))) = a_sort (took e) (counted f)
  an_atom sc a (no_name (left_it (left_it (left_it (left_it (took_it e (by_phrase p (took_it f l)))))))) = parts l (λ b T q l. ate l (λ i l. ends l (an_ascription (took e) p (took f) q i)))
  an_atom sc a (no_name (left_it (left_it (left_it (left_it (took_it e (by_phrase p (left_it (took_it f l))))))))) = parts l (λ b T q l. ate l (λ i l. ends l (a_pair (took e) p (took f) q i)))
  an_atom sc a (no_name (left_it (left_it (left_it (left_it (took_it e (by_phrase p (left_it (left_it l))))))))) = ate l (λ i l. ends l (a_group (took e) p i))
  an_atom sc a (no_name (left_it (left_it (left_it (left_it (left_it (took_it e l))))))) = parts l (λ b E p l. ate l (λ i l. parts l (λ c F q l. ate l (λ j l. ends l (a_pack (took e) p i q j)))))
  an_atom sc a (no_name (left_it (left_it (left_it (left_it (left_it (left_it (took_it e l)))))))) = parts l (λ b E p l. ate l (λ i l. ate l (λ j l. fork l
      (λ m l. by_arm l (λ x c F n o q l. ate l (λ n2 l. ate l (λ n3 l. by_arm l (λ y d G n4 n5 r l. ate l (λ n6 l. ends l (a_match (took e) p i j m n o q n2 n3 n4 n5 r n6)))))))
      (λ l. ate l (λ m l. by_arm l (λ y c G n o q l. ate l (λ n2 l. ate l (λ n3 l. by_arm l (λ x d F n4 n5 r l. ate l (λ n6 l. ends l (a_turned_match (took e) p i j m n o q n2 n3 n4 n5 r n6)))))))))))
  an_atom sc a (no_name (left_it (left_it (left_it (left_it (left_it (left_it (left_it l)))))))) = elim l [ ]

  a_phrase : (g : Sign) (sc : List Name) (a : List Word) {z : List Word} {t : Term} → Leads (production entries end g sc a) a z t → Phrase entries end g sc a z t
  a_phrase expr sc a l = an_expr sc a l
  a_phrase sums sc a l = a_sums sc a l
  a_phrase products sc a l = a_products sc a l
  a_phrase application sc a l = an_application sc a l
  a_phrase atom sc a l = an_atom sc a l
  a_phrase (arguments E) sc a l = the_arguments (begins a) E sc a l

  pub leads : {s : Steps} {a z : List Word} {t : Term} → Follows entries end s a (tree t z) → Leads s a z t
  leads given = gave
  leads (ended d) = at_the_end (leads d)
  leads (passed e d) = took_it e (leads d)
  leads (turned e d) = left_it (leads d)
  leads (named e d) = by_name e (leads d)
  leads (nameless e d) = no_name (leads d)
  leads (numbered e d) = by_number e (leads d)
  leads {a = a} (parted {g = g} {sc = sc} d k) = by_phrase (a_phrase g sc a (leads d)) (leads k)

pub read_phrases : ReadPhrases
read_phrases entries end g sc a z t d = a_phrase entries end g sc a (leads entries end d)
