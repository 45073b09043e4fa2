-- How a trial came out, as the lineman is told.
use Rattle.passage.specs.declared.totals.Totals.{Totals}
use Rattle.std.specs.Prelude.{ℕ, Bool, true, false, List, ◌++◌, codes, decimal}

abbrev pub verdict : Bool → List ℕ
verdict true = codes "each came as it was written"
verdict false = codes "not each came as it was written"

-- how many slips were put, how many lines refused, how many slips taken, and the verdict
abbrev pub totals_words : Totals → List ℕ
totals_words t =
    decimal t.put ++ (codes " put, " ++ (decimal t.refused ++ (codes " refused, " ++ (decimal t.taken ++ (codes " taken: " ++ verdict t.faithful)))))
