-- A script has no more statements than bytes.
use Rattle.std.proofs.Common.{◌≡◌, ℕ, zero, suc, pred, ◌≤◌, Bool, true, false, eqb, List, [], ◌∷◌, length, drop, Some, None, Option, refl, ap, arith, length-drop}
use Rattle.script.specs.declared.token.Kind.{Kind}
use Rattle.script.specs.Lexemes.{Part, Lexeme}
use Rattle.script.specs.Tokens.{piece}
use Rattle.script.specs.Parts.{parts, line_start, parts_from, lexemes, with_lexeme, lexemes_from}
use Rattle.script.specs.Statements.{Run, ends_here, onto, runs, summaries, statements_from}

few_parts : (k : ℕ) (f : Bool) (bs : List ℕ) (at : ℕ) → length (parts k f bs at) ≤ length bs
few_parts k f [] at = omega arith
few_parts zero f (b ∷ bs) at = omega (arith, few_parts (pred (piece f b bs).len) (eqb b 10) bs (suc at))
few_parts (suc k) f (b ∷ bs) at = omega (arith, few_parts k (eqb b 10) bs (suc at))

few_with : (o : Option Kind) (at n : ℕ) (ls : List Lexeme) → length (with_lexeme o at n ls) ≤ suc (length ls)
few_with None at n ls = omega arith
few_with (Some k) at n ls = omega arith

few_lexemes : (ps : List Part) → length (lexemes ps) ≤ length ps
few_lexemes [] = omega arith
few_lexemes (p ∷ ps) = omega (arith, few_with p.kind p.at p.len (lexemes ps), few_lexemes ps)

few_onto : (l : Lexeme) (t : Bool) (rs : List Run) → length (onto l t rs) ≤ suc (length rs)
few_onto l true rs = omega arith
few_onto l false [] = omega arith
few_onto l false (r ∷ rs) = omega arith

few_runs : (ls : List Lexeme) → length (runs ls) ≤ length ls
few_runs [] = omega arith
few_runs (l ∷ ls) = omega (arith, few_onto l (ends_here ls) (runs ls), few_runs ls)

length-summaries : (s : List ℕ) (rs : List Run) → length (summaries s rs) ≡ length rs
length-summaries s [] = refl
length-summaries s (r ∷ rs) = ap suc (length-summaries s rs)

pub few_statements : (s : List ℕ) (at : ℕ) → length (statements_from s at) ≤ length s
unfolding statements_from lexemes_from parts_from
few_statements s at =
    omega (
      arith,
      length-summaries s (runs (lexemes (parts 0 (line_start s at) (drop at s) at))),
      few_runs (lexemes (parts 0 (line_start s at) (drop at s) at)),
      few_lexemes (parts 0 (line_start s at) (drop at s) at),
      few_parts 0 (line_start s at) (drop at s) at,
      length-drop at s,
    )
