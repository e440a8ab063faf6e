use Rattle.std.proofs.Common.{◌+◌, ◌*◌, length}
use Rattle.syntax.specs.Look.{left}
use Rattle.syntax.proofs.parser.Parser.+parse.Given as goal

abbrev pub decreases-app : goal.decreases-app
decreases-app l = 12 * length (left l.self.now.words) + 4

abbrev pub decreases-apply : goal.decreases-apply
decreases-apply l = 12 * length (left l.self.now.words) + 3

abbrev pub decreases-arm : goal.decreases-arm
decreases-arm l = 12 * length (left l.self.now.words) + 0

abbrev pub decreases-arrow : goal.decreases-arrow
decreases-arrow l = 12 * length (left l.self.now.words) + 7

abbrev pub decreases-atom : goal.decreases-atom
decreases-atom l = 12 * length (left l.self.now.words) + 2

abbrev pub decreases-bound : goal.decreases-bound
decreases-bound l = 12 * length (left l.self.now.words) + 1

abbrev pub decreases-bracket : goal.decreases-bracket
decreases-bracket l = 12 * length (left l.self.now.words) + 1

abbrev pub decreases-cases : goal.decreases-cases
decreases-cases l = 12 * length (left l.self.now.words) + 9

abbrev pub decreases-closing : goal.decreases-closing
decreases-closing l = 12 * length (left l.self.now.words) + 9

abbrev pub decreases-expr : goal.decreases-expr
decreases-expr l = 12 * length (left l.self.now.words) + 8

abbrev pub decreases-func : goal.decreases-func
decreases-func l = 12 * length (left l.self.now.words) + 2

abbrev pub decreases-group : goal.decreases-group
decreases-group l = 12 * length (left l.self.now.words) + 9

abbrev pub decreases-headed : goal.decreases-headed
decreases-headed l = 12 * length (left l.self.now.words) + 3

abbrev pub decreases-lets : goal.decreases-lets
decreases-lets l = 12 * length (left l.self.now.words) + 1

abbrev pub decreases-pack : goal.decreases-pack
decreases-pack l = 12 * length (left l.self.now.words) + 9

abbrev pub decreases-prods : goal.decreases-prods
decreases-prods l = 12 * length (left l.self.now.words) + 5

abbrev pub decreases-sums : goal.decreases-sums
decreases-sums l = 12 * length (left l.self.now.words) + 6

abbrev pub decreases-two_arms : goal.decreases-two_arms
decreases-two_arms l = 12 * length (left l.self.now.words) + 1

abbrev pub decreases-typed : goal.decreases-typed
decreases-typed l = 12 * length (left l.self.now.words) + 0

abbrev pub decreases-under : goal.decreases-under
decreases-under l = 12 * length (left l.self.now.words) + 9

abbrev pub decreases-under_two : goal.decreases-under_two
decreases-under_two l = 12 * length (left l.self.now.words) + 10

abbrev pub decreases-unpack : goal.decreases-unpack
decreases-unpack l = 12 * length (left l.self.now.words) + 0

abbrev pub decreases-valued : goal.decreases-valued
decreases-valued l = 12 * length (left l.self.now.words) + 0

abbrev pub decreases-prods_under : goal.decreases-prods_under
decreases-prods_under l = 12 * length (left l.self.now.words) + 6
