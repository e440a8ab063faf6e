use Rattle.std.proofs.Common.{◌+◌, ◌*◌}
use Rattle.normal.proofs.site.Site.+norm.Given as goal

abbrev pub decreases-app : goal.decreases-app
decreases-app l = 4 * l.arena.now.left + 2

abbrev pub decreases-apply : goal.decreases-apply
decreases-apply l = 4 * l.arena.now.left + 1

abbrev pub decreases-beside : goal.decreases-beside
decreases-beside l = 4 * l.arena.now.left + 2

abbrev pub decreases-fill : goal.decreases-fill
decreases-fill l = 4 * l.arena.now.left

abbrev pub decreases-bind : goal.decreases-bind
decreases-bind l = 4 * l.arena.now.left + 2

abbrev pub decreases-fun : goal.decreases-fun
decreases-fun l = 4 * l.arena.now.left + 2

abbrev pub decreases-norm : goal.decreases-norm
decreases-norm l = 4 * l.arena.now.left

abbrev pub decreases-one : goal.decreases-one
decreases-one l = 4 * l.arena.now.left + 3

abbrev pub decreases-projection : goal.decreases-projection
decreases-projection l = 4 * l.arena.now.left + 2

abbrev pub decreases-two : goal.decreases-two
decreases-two l = 4 * l.arena.now.left + 3

abbrev pub decreases-under : goal.decreases-under
decreases-under l = 4 * l.arena.now.left + 2

abbrev pub decreases-wrap : goal.decreases-wrap
decreases-wrap l = 4 * l.arena.now.left + 2

abbrev pub decreases-unpack : goal.decreases-unpack
decreases-unpack l = 4 * l.arena.now.left + 2

abbrev pub decreases-open : goal.decreases-open
decreases-open l = 4 * l.arena.now.left + 1

abbrev pub decreases-deep : goal.decreases-deep
decreases-deep l = 4 * l.arena.now.left

abbrev pub decreases-choose : goal.decreases-choose
decreases-choose l = 4 * l.arena.now.left + 2

abbrev pub decreases-pick : goal.decreases-pick
decreases-pick l = 4 * l.arena.now.left + 1

abbrev pub decreases-arms : goal.decreases-arms
decreases-arms l = 4 * l.arena.now.left
