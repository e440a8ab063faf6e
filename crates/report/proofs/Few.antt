-- There are no more statements than bytes.
use Rattle.std.proofs.Common.{◌≡◌, ℕ, zero, suc, pred, ◌+◌, ◌^◌, ◌<◌, ◌≤◌, Bool, true, false, ◌==◌, List, [], ◌∷◌, length, drop, Some, None, Option, ap, arith, length-drop}
use Rattle.script.specs.declared.token.Kind.{Kind}
use Rattle.script.specs.declared.statement.Statement.{Statement}
use Rattle.script.specs.Lexemes.{Part, Lexeme}
use Rattle.script.specs.Tokens.{piece}
use Rattle.script.specs.Parts.{parts, line_start, parts_from, with_lexeme, lexemes, lexemes_from}
use Rattle.script.specs.Statements.{Run, ends_here, onto, runs, summaries, statements_from}

parts_few : (k : ℕ) (fresh : Bool) (bs : List ℕ) (at : ℕ) → length (parts k fresh bs at) ≤ length bs
parts_few k fresh [] at = omega arith
parts_few zero fresh (b ∷ bs) at = let h = parts_few (pred (piece fresh b bs).len) (b == 10) bs (suc at) in omega arith
parts_few (suc k) fresh (b ∷ bs) at = let h = parts_few k (b == 10) bs (suc at) in omega arith

with_few : (k : Option Kind) (at n : ℕ) (ls : List Lexeme) → length (with_lexeme k at n ls) ≤ length ls + 1
with_few None at n ls = omega arith
with_few (Some k) at n ls = omega arith

lexemes_few : (ps : List Part) → length (lexemes ps) ≤ length ps
lexemes_few [] = omega arith
lexemes_few (p ∷ ps) = let h = lexemes_few ps in let k = with_few p.kind p.at p.len (lexemes ps) in omega arith

onto_few : (l : Lexeme) (t : Bool) (rs : List Run) → length (onto l t rs) ≤ length rs + 1
onto_few l true rs = omega arith
onto_few l false [] = omega arith
onto_few l false (r ∷ rs) = omega arith

runs_few : (ls : List Lexeme) → length (runs ls) ≤ length ls
runs_few [] = omega arith
runs_few (l ∷ ls) = let h = runs_few ls in let k = onto_few l (ends_here ls) (runs ls) in omega arith

summaries_few : (s : List ℕ) (rs : List Run) → length (summaries s rs) ≤ length rs
summaries_few s [] = omega arith
summaries_few s (r ∷ rs) = let h = summaries_few s rs in omega arith

statements_few : (s : List ℕ) → length (statements_from s 0) ≤ length s
unfolding statements_from lexemes_from parts_from
statements_few s =
    let a = summaries_few s (runs (lexemes_from s 0)) in
    let b = runs_few (lexemes_from s 0) in
    let c = lexemes_few (parts_from s 0) in
    let d = parts_few 0 (line_start s 0) (drop 0 s) 0 in
    let e = length-drop 0 s in
    omega arith

pub counts_fit : (s : List ℕ) (sts : List Statement) (count : ℕ) → count ≡ 0 → sts ≡ statements_from s 0 → length s ≤ 1000000 → count + length sts < 2 ^ 64
counts_fit s sts count z e h = let few = statements_few s in let n = ap length e in omega arith
