use Rattle.std.proofs.Common.{◌+◌, ◌*◌}
use Rattle.kernel.proofs.typing.Typing.+typing.Given as goal

abbrev pub decreases-app : goal.decreases-app
decreases-app g l = 8 * l.arena.now.left + 2

abbrev pub decreases-arm : goal.decreases-arm
decreases-arm g l = 8 * l.arena.now.left + 1

abbrev pub decreases-ascribe : goal.decreases-ascribe
decreases-ascribe g l = 8 * l.arena.now.left + 3

abbrev pub decreases-ascribed : goal.decreases-ascribed
decreases-ascribed g l = 8 * l.arena.now.left + 2

abbrev pub decreases-bind : goal.decreases-bind
decreases-bind g l = 8 * l.arena.now.left + 2

abbrev pub decreases-check : goal.decreases-check
decreases-check g l = 8 * l.arena.now.left

abbrev pub decreases-choose : goal.decreases-choose
decreases-choose g l = 8 * l.arena.now.left + 2

abbrev pub decreases-equal : goal.decreases-equal
decreases-equal g l = 8 * l.arena.now.left + 2

abbrev pub decreases-first : goal.decreases-first
decreases-first g l = 8 * l.arena.now.left + 2

abbrev pub decreases-former : goal.decreases-former
decreases-former g l = 8 * l.arena.now.left + 2

abbrev pub decreases-fun : goal.decreases-fun
decreases-fun g l = 8 * l.arena.now.left + 2

abbrev pub decreases-infer : goal.decreases-infer
decreases-infer g l = 8 * l.arena.now.left

abbrev pub decreases-lambda : goal.decreases-lambda
decreases-lambda g l = 8 * l.arena.now.left + 2

abbrev pub decreases-meet_one : goal.decreases-meet_one
decreases-meet_one g l = 8 * l.arena.now.left + 5

abbrev pub decreases-meet_two : goal.decreases-meet_two
decreases-meet_two g l = 8 * l.arena.now.left + 5

abbrev pub decreases-one : goal.decreases-one
decreases-one g l = 8 * l.arena.now.left + 5

abbrev pub decreases-open : goal.decreases-open
decreases-open g l = 8 * l.arena.now.left + 2

abbrev pub decreases-pair : goal.decreases-pair
decreases-pair g l = 8 * l.arena.now.left + 2

abbrev pub decreases-injection : goal.decreases-injection
decreases-injection g l = 8 * l.arena.now.left + 2

abbrev pub decreases-second : goal.decreases-second
decreases-second g l = 8 * l.arena.now.left + 2

abbrev pub decreases-sort : goal.decreases-sort
decreases-sort g l = 8 * l.arena.now.left + 1

abbrev pub decreases-split : goal.decreases-split
decreases-split g l = 8 * l.arena.now.left + 1

abbrev pub decreases-sum : goal.decreases-sum
decreases-sum g l = 8 * l.arena.now.left + 2

abbrev pub decreases-two : goal.decreases-two
decreases-two g l = 8 * l.arena.now.left + 5
