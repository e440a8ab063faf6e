-- Steps of the reader.
use Rattle.std.proofs.Common.{◌≡◌, ℕ, ◌+◌, ◌≤◌, Bool, List, length, drop, Some, None, Option, sym, refl, ap, ◌∙◌, subst, ap₂, arith, length-drop}
use Rattle.script.specs.declared.token.Kind.{Kind}
use Rattle.script.specs.declared.token.Piece.{Piece}
use Rattle.script.specs.declared.reader.Reader.{Reader}
use Rattle.script.specs.Lexemes.{Part, Lexeme}
use Rattle.script.specs.Tokens.{next_piece}
use Rattle.script.specs.Parts.{placed, line_start, parts_from, lexemes_from, lexemes, with_lexeme}
use Rattle.script.specs.View.{script, Moves, PartAhead, LexemeAhead, Sought}
use Rattle.script.proofs.Steps.{step_from, end_from}

pub peeked : (s : List ℕ) (at : ℕ) (f : Bool) (bs : List ℕ) (p : Piece) → f ≡ line_start s at → bs ≡ drop at s → Some p ≡ next_piece f bs → at ≤ length s → PartAhead s at (Some (placed at p))
peeked s at f bs p fe be e h =
    let t = step_from s at p (sym (e ∙ ap₂ next_piece fe be)) in
    (t.0, refl, t.1, omega (arith, t.2, length-drop at s))

pub peeked_end : (s : List ℕ) (at : ℕ) (f : Bool) (bs : List ℕ) → f ≡ line_start s at → bs ≡ drop at s → None ≡ next_piece f bs → at ≤ length s → PartAhead s at None
peeked_end s at f bs fe be e h = end_from s at (sym (e ∙ ap₂ next_piece fe be)) h

-- a blank or a comment leaves the lexemes
pub gap_passed : (s : List ℕ) (at : ℕ) (p : Part) → PartAhead s at (Some p) → p.kind ≡ None → lexemes_from s at ≡ lexemes_from s (at + p.len)
unfolding lexemes_from
gap_passed s at p h e = ap lexemes h.0 ∙ ap (λ k. with_lexeme k p.at p.len (lexemes (parts_from s (at + p.len)))) e

pub lexeme_ahead : (s : List ℕ) (at : ℕ) (p : Part) (k : Kind) → PartAhead s at (Some p) → p.kind ≡ Some k → LexemeAhead s at (Some (record { kind = k; at = p.at; len = p.len }))
unfolding lexemes_from
lexeme_ahead s at p k h e =
    (ap lexemes h.0 ∙ ap (λ o. with_lexeme o p.at p.len (lexemes (parts_from s (at + p.len)))) e, h.1, h.2, h.3)

pub end_ahead : (s : List ℕ) (at : ℕ) → PartAhead s at None → LexemeAhead s at None
unfolding lexemes_from
end_ahead s at h = (ap lexemes h.0, h.1)

-- how far a reader has come that passes blanks and comments
pub record Seeking (old new : Reader) : Type 0 where
  pub same : lexemes_from (script old) old.at ≡ lexemes_from (script new) new.at
  pub forward : old.at ≤ new.at
  pub script : script new ≡ script old

pub found_at : {old new : Reader} {r : Option Lexeme} → Seeking old new → LexemeAhead (script new) new.at r → Moves Sought old new r
found_at {old} {new} {r} h a =
    record {
      taken =
          record {
            same = h.same ∙ ap (λ s. lexemes_from s new.at) h.script;
            forward = h.forward;
            ahead = subst (λ s. LexemeAhead s new.at r) h.script a;
          };
      script = h.script;
    }
