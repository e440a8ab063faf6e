use Rattle.std.proofs.Common.{◌+◌, ◌*◌}
use Rattle.printing.proofs.printer.Printer.+part_text.Given as goal

abbrev pub decreases-part : goal.decreases-part
decreases-part g l = 2 * l.id + 1

abbrev pub decreases-text : goal.decreases-text
decreases-text g l = 2 * l.id
