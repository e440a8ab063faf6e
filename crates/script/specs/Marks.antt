-- The marks by number. In this order: what begins an atom (to 6), a head (to 10), a longer form (to
-- 16); what joins (to 19); what closes or parts.
use Rattle.std.specs.Prelude.{ℕ}
use Rattle.script.specs.declared.token.Mark.{Mark}
use Rattle.script.specs.declared.token.Mark.TheVariants.{TypeWord, PropWord, KindWord, SortWord, Opens, OpensBrace, MatchWord, FstWord, SndWord, InlWord, InrWord, FunWord, PiWord, ForallWord, SigmaWord, ExistsWord, LetWord, Arrow, Plus, Times, Closes, ClosesBrace, Comma, Colon, Becomes, Maps, Bar, InWord, WithWord, EndWord}

abbrev pub code : Mark → ℕ
code TypeWord = 0
code PropWord = 1
code KindWord = 2
code SortWord = 3
code Opens = 4
code OpensBrace = 5
code MatchWord = 6
code FstWord = 7
code SndWord = 8
code InlWord = 9
code InrWord = 10
code FunWord = 11
code PiWord = 12
code ForallWord = 13
code SigmaWord = 14
code ExistsWord = 15
code LetWord = 16
code Arrow = 17
code Plus = 18
code Times = 19
code Closes = 20
code ClosesBrace = 21
code Comma = 22
code Colon = 23
code Becomes = 24
code Maps = 25
code Bar = 26
code InWord = 27
code WithWord = 28
code EndWord = 29
