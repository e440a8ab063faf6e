-- The tree of a cell depends on the cells below it alone.
use Rattle.std.proofs.Common.{◌≡◌, ℕ, zero, suc, ◌<◌, ◌≤◌, List, [], ◌∷◌, ◌++◌, length, get_or, take, Some, None, Option, sym, refl, ap, ◌∙◌, arith, length-append, length-take, below_more}
use Rattle.std.proofs.lemmas.List.{get_or_append_left, get_or_at, get_or-take}
use Rattle.term.specs.declared.node.Node.{Node}
use Rattle.term.specs.declared.node.Node.TheVariants.{Sort, Local, Entry, One, Two, Match}
use Rattle.term.specs.declared.node.Cell.{Cell}
use Rattle.term.specs.declared.node.Cell.TheVariants.{Part, Under}
use Rattle.term.specs.Term.{Term, sort, local, entry, unary, binary, choice, cells}
use Rattle.term.specs.Cells.{Bound, form, root, over, typed, bound, links, reach, span, blank, tree_to, tree, chain_to, chain, MayStandAt, Sound}

pub form_cong : (c : Node) (n : ℕ) (f g : ℕ → Term) → reach c ≤ n → ((j : ℕ) → j < n → f j ≡ g j) → form c f ≡ form c g
form_cong (Sort p s) n f g h e = refl
form_cong (Local p k) n f g h e = refl
form_cong (Entry p j) n f g h e = refl
form_cong (One p op a) n f g h e = cc (e a (omega arith))
form_cong (Two p op a b) n f g h e = cc (e a (omega arith), e b (omega arith))
form_cong (Match p x l r) n f g h e = cc (e x (omega arith), e l (omega arith), e r (omega arith))

root_cong : (c : Cell) (n : ℕ) (f g : ℕ → Term) → span c ≤ n → ((j : ℕ) → j < n → f j ≡ g j) → root c f ≡ root c g
root_cong (Part c) n f g h e = form_cong c n f g h e
root_cong (Under b) n f g h e = refl

typed_cong : (o : Option ℕ) (n : ℕ) (f g : ℕ → Term) → over o ≤ n → ((j : ℕ) → j < n → f j ≡ g j) → typed o f ≡ typed o g
typed_cong None n f g h e = refl
typed_cong (Some i) n f g h e = e i (omega arith)

bound_cong : (o : Option ℕ) (n : ℕ) (f g : ℕ → Term) → over o ≤ n → ((j : ℕ) → j < n → f j ≡ g j) → bound o f ≡ bound o g
bound_cong None n f g h e = refl
bound_cong (Some i) n f g h e = ap Some (e i (omega arith))

links_cong : (c : Cell) (n : ℕ) (f g : ℕ → Term) (x y : Option ℕ → List Bound) → span c ≤ n → ((j : ℕ) → j < n → f j ≡ g j) → ((o : Option ℕ) → over o ≤ n → x o ≡ y o) → links c f x ≡ links c g y
links_cong (Part c) n f g x y h e d = refl
links_cong (Under b) n f g x y h e d =
    cc (typed_cong b.kind n f g (omega arith) e, bound_cong b.value n f g (omega arith) e, d b.outer (omega arith))

-- at any two depths that suffice, in two lists that agree below k
pub same : (n m : ℕ) (xs ys : List Cell) (k i : ℕ) → Sound xs → k ≤ length xs → ((j : ℕ) → j < k → get_or xs j blank ≡ get_or ys j blank) → i < k → i < n → i < m → tree_to n xs i ≡ tree_to m ys i
unfolding tree_to
same zero m xs ys k i s l e h a b = absurd (omega arith)
same (suc n) zero xs ys k i s l e h a b = absurd (omega arith)
same (suc n) (suc m) xs ys k i s l e h a b =
    let low = (s i (omega arith)).0 in
    root_cong (get_or xs i blank) i (tree_to n xs) (tree_to m ys) low (λ j q. same n m xs ys k j s l e (omega arith) (omega arith) (omega arith))
    ∙ ap (λ c. root c (tree_to m ys)) (e i h)

-- the tree of a cell is the cell over its children's trees
pub tree_at : (xs : List Cell) (i : ℕ) → Sound xs → i < length xs → tree xs i ≡ root (get_or xs i blank) (tree xs)
unfolding tree tree_to
tree_at xs i s h = root_cong (get_or xs i blank) i (tree_to i xs) (tree xs) (s i h).0 (λ j q. same i (suc j) xs xs (length xs) j s (omega arith) (λ _ _. refl) (omega arith) q (omega arith))

-- one cell more
sound_push : (xs : List Cell) (c : Cell) → Sound xs → MayStandAt (length xs) c → Sound (xs ++ c ∷ [])
sound_push xs c s fits i h =
    below_more (λ i. MayStandAt i (get_or (xs ++ c ∷ []) i blank)) (length xs)
    (λ k q. rw (get_or_append_left xs (c ∷ []) blank k q) (s k q))
    (rw (get_or_at xs c [] blank (length xs) refl) fits)
    i (omega (arith, length-append xs (c ∷ [])))

kept_push : (xs : List Cell) (c : Cell) → Sound xs → ((k : ℕ) → k < length xs → tree (xs ++ c ∷ []) k ≡ tree xs k)
unfolding tree
kept_push xs c s k h = sym (same (suc k) (suc k) xs (xs ++ c ∷ []) (length xs) k s (omega arith) (λ j q. sym (get_or_append_left xs (c ∷ []) blank j q)) h (omega arith) (omega arith))

tree_push : (xs : List Cell) (c : Cell) → Sound xs → Sound (xs ++ c ∷ []) → span c ≤ length xs → tree (xs ++ c ∷ []) (length xs) ≡ root c (tree xs)
tree_push xs c s t low =
    tree_at (xs ++ c ∷ []) (length xs) t (rw length-append (omega arith))
    ∙ (rw (get_or_at xs c [] blank (length xs) refl) (root_cong c (length xs) (tree (xs ++ c ∷ [])) (tree xs) low (kept_push xs c s)))

-- contexts, in two lists that agree below k with trees that do
pub same_chain : (n m : ℕ) (xs ys : List Cell) (k : ℕ) (o : Option ℕ) → Sound xs → k ≤ length xs → ((j : ℕ) → j < k → get_or xs j blank ≡ get_or ys j blank) → ((j : ℕ) → j < k → tree xs j ≡ tree ys j) → over o ≤ k → over o ≤ n → over o ≤ m → chain_to n xs o ≡ chain_to m ys o
unfolding chain_to
same_chain zero zero xs ys k o s l e t h a b = refl
same_chain zero (suc m) xs ys k None s l e t h a b = refl
same_chain zero (suc m) xs ys k (Some i) s l e t h a b = absurd (omega arith)
same_chain (suc n) zero xs ys k None s l e t h a b = refl
same_chain (suc n) zero xs ys k (Some i) s l e t h a b = absurd (omega arith)
same_chain (suc n) (suc m) xs ys k None s l e t h a b = refl
same_chain (suc n) (suc m) xs ys k (Some i) s l e t h a b =
    links_cong (get_or xs i blank) i (tree xs) (tree ys) (chain_to n xs) (chain_to m ys) (s i (omega arith)).0 (λ j q. t j (omega arith)) (λ o q. same_chain n m xs ys k o s l e t (omega arith) (omega arith) (omega arith))
    ∙ ap (λ c. links c (tree ys) (chain_to m ys)) (e i (omega arith))

pub chain_at : (xs : List Cell) (i : ℕ) → Sound xs → i < length xs → chain xs (Some i) ≡ links (get_or xs i blank) (tree xs) (chain xs)
unfolding chain chain_to
chain_at xs i s h = links_cong (get_or xs i blank) i (tree xs) (tree xs) (chain_to i xs) (chain xs) (s i h).0 (λ _ _. refl) (λ o q. same_chain i (over o) xs xs (length xs) o s (omega arith) (λ _ _. refl) (λ _ _. refl) (omega arith) q (omega arith))

chains_push : (xs : List Cell) (c : Cell) → Sound xs → ((o : Option ℕ) → over o ≤ length xs → chain (xs ++ c ∷ []) o ≡ chain xs o)
unfolding chain
chains_push xs c s o h = sym (same_chain (over o) (over o) xs (xs ++ c ∷ []) (length xs) o s (omega arith) (λ j q. sym (get_or_append_left xs (c ∷ []) blank j q)) (λ j q. sym (kept_push xs c s j q)) h (omega arith) (omega arith))

chain_push : (xs : List Cell) (c : Cell) → Sound xs → Sound (xs ++ c ∷ []) → span c ≤ length xs → chain (xs ++ c ∷ []) (Some (length xs)) ≡ links c (tree xs) (chain xs)
chain_push xs c s t low =
    chain_at (xs ++ c ∷ []) (length xs) t (rw length-append (omega arith))
    ∙ (rw (get_or_at xs c [] blank (length xs) refl) (links_cong c (length xs) (tree (xs ++ c ∷ [])) (tree xs) (chain (xs ++ c ∷ [])) (chain xs) low (kept_push xs c s) (chains_push xs c s)))

pub record Pushed (xs ys : List Cell) (c : Cell) (n : ℕ) : Type 0 where
  pub sound : Sound ys
  pub kept : (k : ℕ) → k < n → tree ys k ≡ tree xs k
  pub chains : (o : Option ℕ) → over o ≤ n → chain ys o ≡ chain xs o
  pub made : tree ys n ≡ root c (tree xs)
  pub linked : chain ys (Some n) ≡ links c (tree xs) (chain xs)

pub pushed : {xs ys : List Cell} {c : Cell} {n : ℕ} → ys ≡ xs ++ c ∷ [] → n ≡ length xs → Sound xs → MayStandAt n c → Pushed xs ys c n
pushed {xs} {ys} {c} {n} e l s fits =
    rw (e, l)
    (let t = sound_push xs c s (rw l at fits) in
    record { sound = t; kept = kept_push xs c s; chains = chains_push xs c s; made = tree_push xs c s t (rw l at fits.0); linked = chain_push xs c s t (rw l at fits.0) })

pub cells_pos : (t : Term) → 0 < cells t
cells_pos (sort p s) = omega arith
cells_pos (local p k) = omega arith
cells_pos (entry p j) = omega arith
cells_pos (unary p op a) = omega arith
cells_pos (binary p op a b) = omega arith
cells_pos (choice p e l r) = omega arith

pub chain_none : (xs : List Cell) → chain xs None ≡ []
unfolding chain chain_to
chain_none xs = refl

-- fewer cells
sound_take : (xs : List Cell) (m : ℕ) → Sound xs → Sound (take m xs)
sound_take xs m s i h =
    let l = length-take m xs in
    let q : i < m = omega arith in
    rw (get_or-take m xs i blank q) (s i (omega arith))

module _ (xs : List Cell) (m : ℕ) (s : Sound xs) where
  alike : (j : ℕ) → j < length (take m xs) → get_or xs j blank ≡ get_or (take m xs) j blank
  alike j h = let l = length-take m xs in sym (get_or-take m xs j blank (omega arith))

  tree_take : (k : ℕ) → k < length (take m xs) → tree xs k ≡ tree (take m xs) k
  unfolding tree
  tree_take k h = same (suc k) (suc k) xs (take m xs) (length (take m xs)) k s (let l = length-take m xs in omega arith) alike h (omega arith) (omega arith)

  chain_take : (o : Option ℕ) → over o ≤ length (take m xs) → chain xs o ≡ chain (take m xs) o
  unfolding chain
  chain_take o h = same_chain (over o) (over o) xs (take m xs) (length (take m xs)) o s (let l = length-take m xs in omega arith) alike tree_take h (omega arith) (omega arith)

pub record Taken (xs ys : List Cell) : Type 0 where
  pub sound : Sound ys
  pub kept : (k : ℕ) → k < length ys → tree xs k ≡ tree ys k
  pub chains : (o : Option ℕ) → over o ≤ length ys → chain xs o ≡ chain ys o

pub taken : {xs ys : List Cell} (m : ℕ) → ys ≡ take m xs → Sound xs → Taken xs ys
taken {xs} {ys} m e s =
    rw e (record { sound = sound_take xs m s; kept = tree_take xs m s; chains = chain_take xs m s })
