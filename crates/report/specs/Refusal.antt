-- Refusals as they are told.
use Rattle.std.specs.Prelude.{Some}
use Rattle.script.specs.declared.statement.ScriptFault.{ScriptFault}
use Rattle.script.specs.Faults as script
use Rattle.syntax.specs.declared.read.ReadFault.{ReadFault}
use Rattle.syntax.specs.Reads as reads
use Rattle.report.specs.declared.refusal.Refusal.{Refusal}

abbrev pub of_tokens : ScriptFault → Refusal
of_tokens f = record { number = script.fault_number f; place = Some (script.fault_place f) }

abbrev pub of_reading : ReadFault → Refusal
of_reading f = record { number = reads.fault_number f; place = reads.fault_at f }
