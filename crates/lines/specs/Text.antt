-- The octets of a line.
use Rattle.std.specs.Prelude.{ℕ, List, [], ◌∷◌, ◌++◌, Result, Ok, Err, codes, decimal}
use Rattle.lines.specs.declared.line.Line.{Line}
use Rattle.lines.specs.declared.line.Line.TheVariants.{Set, Mode, Open, Close, Bad, Short}

-- the number of an answer that says no more: 0 for success
abbrev pub answer_number : Result Unit ℕ → ℕ
answer_number (Ok x) = 0
answer_number (Err k) = k

-- what a line says: a word, then its numbers in decimal, each after one space, and - for a number that is lacking
abbrev pub text : Line → List ℕ
text (Set sequence answer) = codes "set " ++ (decimal sequence ++ (codes " " ++ decimal (answer_number answer)))
text (Mode (Ok a)) = codes "mode 0 " ++ (decimal a.place ++ (codes " " ++ decimal a.descriptor))
text (Mode (Err k)) = codes "mode " ++ (decimal k ++ codes " - -")
text (Open channel (Ok descriptor)) = codes "open " ++ (decimal channel ++ (codes " 0 " ++ decimal descriptor))
text (Open channel (Err k)) = codes "open " ++ (decimal channel ++ (codes " " ++ (decimal k ++ codes " -")))
text (Close channel answer) = codes "close " ++ (decimal channel ++ (codes " " ++ decimal (answer_number answer)))
text (Bad tag) = codes "bad " ++ decimal tag
text Short = codes "short"

-- a line with the line feed that ends it
abbrev pub ended : Line → List ℕ
ended l = text l ++ (10 ∷ [])
