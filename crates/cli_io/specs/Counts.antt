-- Lines of counts.
use Rattle.std.specs.Prelude.{ℕ, ◌+◌, ◌==◌, if◌then◌else◌, List, [], ◌∷◌, ◌++◌, codes, decimal}

-- a name and its count
abbrev pub count_text : List ℕ → ℕ → List ℕ
count_text name n = name ++ (codes " " ++ (decimal n ++ codes "\n"))

abbrev pub drop_line : ℕ → ℕ → List ℕ
drop_line cause n = if n == 0 then [] else codes "dropped " ++ (decimal cause ++ (codes " " ++ (decimal n ++ codes "\n")))

-- a line for each cause that something was dropped for; the first count is that of the cause with the given number
abbrev pub drops_text : ℕ → List ℕ → List ℕ
drops_text cause [] = []
drops_text cause (n ∷ ns) = drop_line cause n ++ drops_text (cause + 1) ns
