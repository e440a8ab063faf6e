-- How deep a printable term may stand.
use Rattle.std.proofs.Common.{◌≡◌, ℕ, suc, ◌+◌, ◌*◌, ◌^◌, ◌<◌, ◌≤◌, true, arith}
use Rattle.term.specs.Forms.{binds, binds_last}
use Rattle.term.specs.Term.{Term, sort, local, entry, unary, binary, choice, cells, closed}
use Rattle.grammar.specs.Text.{Printable}

pub under_none : (m d : ℕ) (t : Term) → Printable m (0 + d) t → Printable m d t
under_none m d t h = grind arith

pub under : (m d : ℕ) (t : Term) → Printable m (1 + d) t → Printable m (suc d) t
under m d t h = grind arith

pub under_two : (m d : ℕ) (t : Term) → Printable m (2 + d) t → Printable m (suc (suc d)) t
under_two m d t h = grind arith

pub shallow : (m d : ℕ) (t : Term) → Printable m d t → d < 2 ^ 64
shallow m d (sort p s) h = h.0
shallow m d (local p k) h = h.0
shallow m d (entry p j) h = h.0
shallow m d (unary p u E) h = omega (arith, shallow m (binds u + d) E h)
shallow m d (binary p b E F) h = shallow m d E h.0
shallow m d (choice p E F G) h = shallow m d E h.0

-- sorts are numbered to 65,535 and entries are among the first m
abbrev pub Bounded : ℕ → Term → Type 0
Bounded m (sort p s) = s ≤ 65535
Bounded m (local p k) = Unit {0}
Bounded m (entry p j) = j < m
Bounded m (unary p u E) = Bounded m E
Bounded m (binary p b E F) = Bounded m E × Bounded m F
Bounded m (choice p E F G) = Bounded m E × Bounded m F × Bounded m G

-- a closed term of few cells is printable
pub printable : (m d : ℕ) (t : Term) → d + 2 * cells t < 2 ^ 64 → closed d t ≡ true → Bounded m t → Printable m d t
printable m d (sort p s) l c b = (omega arith, b)
printable m d (local p k) l c b = grind arith
printable m d (entry p j) l c b = (omega arith, b)
printable m d (unary p u E) l c b = printable m (binds u + d) E (grind arith) c b
printable m d (binary p f E F) l c b = (printable m d E (omega arith) (grind arith) b.0, printable m (binds_last f + d) F (grind arith) (grind arith) b.1)
printable m d (choice p E F G) l c b =
    (printable m d E (omega arith) (grind arith) b.0, printable m (1 + d) F (omega arith) (grind arith) b.1, printable m (1 + d) G (omega arith) (grind arith) b.2)
