-- The outer entries of a list of shapes.
use Rattle.std.proofs.Common.{List, [], ◌∷◌}
use Rattle.std.specs.Prelude.{All}
use Rattle.std.specs.List.{AllZip}
use Rattle.std.proofs.lemmas.List.Elements.{All-cons, All-nil}
use Rattle.heesch_grid.specs.declared.Cell.{Cell}
use Rattle.heesch_grid.specs.Geometry.{Geometry}
use Rattle.heesch_grid.specs.Polyform.{IsCanonicalListOf}
use Rattle.heesch_cert.specs.declared.limits.Limits.{Limits}
use Rattle.heesch_catalogue.specs.Entries.{IsEntryOf}
use Rattle.heesch_catalogue.proofs.EntryLists.{entries_of_shapes}
use Rattle.heesch_outer.specs.declared.answers.OuterEntry.{OuterEntry}
use Rattle.heesch_outer.specs.Answers.{IsOuterEntryOf}
use Rattle.heesch_outer.specs.Outers.{AreOuterEntries, HasOuterAnswer, entries_in}

-- one outer entry of each of these shapes, which are canonical
pub outers_of_shapes : (g : Geometry) (limits : Limits) (shapes : List (List Cell)) (es : List OuterEntry) → AllZip (IsOuterEntryOf g limits) shapes es
    → All (λ s. IsCanonicalListOf g s s) shapes → AreOuterEntries g limits shapes es
outers_of_shapes g limits shapes es zip canonical = record {
  entries = entries_of_shapes g limits shapes (entries_in es) (entries shapes es zip) canonical;
  answers = answers shapes es zip;
}
  where
    entries : (ss : List (List Cell)) (es : List OuterEntry) → AllZip (IsOuterEntryOf g limits) ss es → AllZip (IsEntryOf g limits) ss (entries_in es)
    entries [] [] zip = tt
    entries [] (e ∷ es) zip = absurd zip
    entries (s ∷ ss) [] zip = absurd zip
    entries (s ∷ ss) (e ∷ es) (is, zip) = (is.is_entry, entries ss es zip)

    answers : (ss : List (List Cell)) (es : List OuterEntry) → AllZip (IsOuterEntryOf g limits) ss es → All (HasOuterAnswer g limits) es
    answers [] [] zip = All-nil (HasOuterAnswer g limits)
    answers [] (e ∷ es) zip = absurd zip
    answers (s ∷ ss) [] zip = absurd zip
    answers (s ∷ ss) (e ∷ es) (is, zip) = All-cons (HasOuterAnswer g limits) e es is.has_answer (answers ss es zip)
