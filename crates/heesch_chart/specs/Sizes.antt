-- How many values come with an answer.
use Rattle.std.specs.Prelude.{◌≡◌, ℕ, ⊤, List, Bool, Option, None, Some, length}
use Rattle.heesch_chart.specs.declared.search.Advice.{Advice}
use Rattle.heesch_chart.specs.declared.search.Advice.TheVariants.{Coronas, Refuted, Spent, GaveUp}
use Rattle.heesch_chart.specs.declared.search.Ending.{Ending}
use Rattle.heesch_chart.specs.declared.search.Ending.TheVariants.{Model as ModelFound, Refuted as RefutedHere, Spent as SpentHere, GaveUp as GaveUpHere}

-- where there are values, there are so many
abbrev pub HasValues : ℕ → Option (List Bool) → Type 0
HasValues count None = ⊤
HasValues count (Some values) = length values ≡ count

-- the values of a model, and those of one with a hole, are so many
abbrev pub AdvisesOn : ℕ → Advice → Type 0
AdvisesOn count (Coronas values) = length values ≡ count
AdvisesOn count (Refuted proof holed) = HasValues count holed
AdvisesOn count (Spent proof) = ⊤
AdvisesOn count GaveUp = ⊤

-- the values of a model are so many
abbrev pub EndsWith : ℕ → Ending → Type 0
EndsWith count (ModelFound values) = length values ≡ count
EndsWith count RefutedHere = ⊤
EndsWith count SpentHere = ⊤
EndsWith count GaveUpHere = ⊤
