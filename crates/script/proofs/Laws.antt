-- The laws of every script.
use Rattle.std.proofs.Common.{◌≡◌, ℕ, zero, suc, pred, ◌+◌, ◌-◌, ◌≤◌, Bool, true, false, eqb, List, [], ◌∷◌, ◌++◌, length, take, drop, sym, refl, ap, ◌∙◌, subst, ap₂, arith, rules}
use Rattle.std.specs.List.{flat_map, AllByRecursion}
use Rattle.std.proofs.lemmas.List.{places, same_lists, take_all}
use Rattle.std.proofs.lemmas.Bool.{cond_both}
use Rattle.script.specs.Lexemes.{Part, Lexeme}
use Rattle.script.specs.Tokens.{piece}
use Rattle.script.specs.Parts.{parts, line_start, parts_from}
use Rattle.script.specs.Statements.{Run, all_of, first_word, ends_here, onto, runs}
use Rattle.script.specs.Walk.{until, from_next}
use Rattle.script.specs.Laws.{Consecutive, text, Rejoins, tail, Cuts}
use Rattle.script.proofs.Steps.{piece_fits}
use Rattle.script.proofs.Runs.{runs_first}

moved : {from from' to to' : ℕ} (ps : List Part) → from ≡ from' → to ≡ to' → Consecutive from ps to → Consecutive from' ps to'
moved {from} {from'} {to} {to'} ps e f h = subst (λ n. Consecutive n ps to') e (subst (λ n. Consecutive from ps n) f h)

in_order : (k : ℕ) (f : Bool) (bs : List ℕ) (at : ℕ) → k ≤ length bs → Consecutive (at + k) (parts k f bs at) (at + length bs)
in_order zero f [] at h = refl
in_order (suc k) f [] at h = absurd (omega arith)
in_order zero f (b ∷ bs) at h =
    let fits = piece_fits f b bs in (
      omega arith,
      fits.0,
      moved (parts (pred (piece f b bs).len) (eqb b 10) bs (suc at)) (omega (arith, fits.0)) (omega arith)
          (in_order (pred (piece f b bs).len) (eqb b 10) bs (suc at) (omega (arith, fits.0, fits.1))),
    )
in_order (suc k) f (b ∷ bs) at h = moved (parts k (eqb b 10) bs (suc at)) (omega arith) (omega arith) (in_order k (eqb b 10) bs (suc at) (omega arith))

forward : (from : ℕ) (ps : List Part) (to : ℕ) → Consecutive from ps to → from ≤ to
forward from [] to h = omega arith
forward from (p ∷ ps) to h = omega (arith, h.1, forward (from + p.len) ps to h.2)

two_parts : (s : List ℕ) (from n to : ℕ) → from + n ≤ to → to ≤ length s → take n (drop from s) ++ take (to - (from + n)) (drop (from + n) s) ≡ take (to - from) (drop from s)
two_parts s from n to h k = same_lists _ _ (search (rules, places)) (λ i d l. grind (arith, places))

together : (s : List ℕ) (from : ℕ) (ps : List Part) (to : ℕ) → Consecutive from ps to → to ≤ length s → flat_map (text s) ps ≡ take (to - from) (drop from s)
together s from [] to h k = let e : 0 ≡ to - from = omega arith in ap (λ n. take n (drop from s)) e
together s from (p ∷ ps) to h k =
    ap₂ (λ at rest. take p.len (drop at s) ++ rest) h.0 (together s (from + p.len) ps to h.2 k)
    ∙ two_parts s from p.len to (forward (from + p.len) ps to h.2) k

pub rejoins : (s : List ℕ) → Rejoins s
unfolding parts_from
rejoins s =
    let order : Consecutive 0 (parts_from s 0) (length s) = moved (parts_from s 0) (omega arith) (omega arith) (in_order 0 (line_start s 0) s 0 (omega arith)) in
    record { order = order; whole = together s 0 (parts_from s 0) (length s) order (omega arith) ∙ take_all (length s - 0) s (omega arith) }

onto_whole : (l : Lexeme) (t : Bool) (rs : List Run) → flat_map all_of (onto l t rs) ≡ l ∷ flat_map all_of rs
onto_whole l true rs = refl
onto_whole l false [] = refl
onto_whole l false (r ∷ rs) = refl

whole : (ls : List Lexeme) → flat_map all_of (runs ls) ≡ ls
whole [] = refl
whole (l ∷ ls) = onto_whole l (ends_here ls) (runs ls) ∙ ap (λ ms. l ∷ ms) (whole ls)

abbrev First : Run → Type 0
First r = first_word r.first ≡ true

abbrev Inside : Run → Type 0
Inside r = AllByRecursion (λ l. first_word l ≡ false) r.rest

until_quiet : (ls : List Lexeme) → AllByRecursion (λ l. first_word l ≡ false) (until ls)
unfolding until
until_quiet [] = tt
until_quiet (l ∷ ls) = cond_both (first_word l) [] (l ∷ until ls) (AllByRecursion (λ m. first_word m ≡ false)) (λ e. tt) (λ e. (e, until_quiet ls))

next_first : (ls : List Lexeme) → AllByRecursion First (runs (from_next ls))
unfolding from_next
next_first [] = tt
next_first (l ∷ ls) =
    cond_both (first_word l) (l ∷ ls) (from_next ls) (λ ms. AllByRecursion First (runs ms)) (λ e. subst (AllByRecursion First) (sym (runs_first l ls)) (e, next_first ls)) (λ e. next_first ls)

next_inside : (ls : List Lexeme) → AllByRecursion Inside (runs (from_next ls))
unfolding from_next
next_inside [] = tt
next_inside (l ∷ ls) =
    cond_both (first_word l) (l ∷ ls) (from_next ls) (λ ms. AllByRecursion Inside (runs ms)) (λ e. subst (AllByRecursion Inside) (sym (runs_first l ls)) (until_quiet ls, next_inside ls)) (λ e. next_inside ls)

tail_first : (ls : List Lexeme) → AllByRecursion First (tail (runs ls))
tail_first [] = tt
tail_first (l ∷ ls) = subst (λ rs. AllByRecursion First (tail rs)) (sym (runs_first l ls)) (next_first ls)

all_inside : (ls : List Lexeme) → AllByRecursion Inside (runs ls)
all_inside [] = tt
all_inside (l ∷ ls) = subst (AllByRecursion Inside) (sym (runs_first l ls)) (until_quiet ls, next_inside ls)

pub cuts : (ls : List Lexeme) → Cuts ls
cuts ls = record { whole = whole ls; first = tail_first ls; inside = all_inside ls }
