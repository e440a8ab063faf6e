-- What a program writes.
use Rattle.std.specs.Prelude.{ℕ, List, Vec, Option, vec_items}
use Rattle.std.specs.Global.{Global}
use Rattle.std.specs.Io.KnownBytes.{Appends}

-- a text that is told was put after the bytes that a writer holds, where those are known
abbrev pub PutsTold : (Vec ℕ Global → Type 0) → Option (List ℕ) → Option (List ℕ) → Type 0
PutsTold Told was is = (text : Vec ℕ Global) × Told text × Appends was is (vec_items text)
