use Rattle.grammar.proofs.Misfit.{misfits}
use Rattle.grammar.proofs.Phrases.{read_phrases}
use Rattle.grammar.proofs.Reader.{one_reading, one_statement}
use Rattle.grammar.proofs.RoundTrip.{round_trip}
use Rattle.grammar.proofs.Sentences.{read_sentences, sentences_read}
use Rattle.grammar.proofs.Whole.{phrases_read}
use Rattle.grammar.proofs.reading_laws.Goals as goal

pub returns : goal.returns
returns c = record { reading = one_reading; statement = one_statement; read = read_phrases; phrases = phrases_read; said = read_sentences; sentences = sentences_read; misfit = misfits; trip = round_trip }
