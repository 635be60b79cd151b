-- Tallies of entries.
use Rattle.std.proofs.Common.{◌≡◌, ℕ, ◌<◌, ◌≤◌, ◌-◌, Bool, List, [], ◌∷◌, ◌++◌, length, map, take, drop, get_or, sym, ap, ◌∙◌, subst, refl, arith}
use Rattle.std.specs.List.{AllZip}
use Rattle.std.specs.Prelude.{All}
use Rattle.std.proofs.lemmas.List.{get_or-map, length-drop, length-take}
use Rattle.std.proofs.lemmas.List.Elements.{All-drop, All-take}
use Rattle.heesch_grid.specs.declared.Cell.{Cell}
use Rattle.heesch_grid.specs.Geometry.{Geometry}
use Rattle.heesch_grid.specs.Polyform.{IsCanonicalListOf}
use Rattle.heesch_cert.specs.declared.entry.Entry.{Entry}
use Rattle.heesch_cert.specs.declared.limits.Limits.{Limits}
use Rattle.heesch_cert.specs.declared.verdict.Verdict.{Verdict}
use Rattle.heesch_table.specs.Counts.{Counts, counts_of}
use Rattle.heesch_table.specs.Holed.{IsHoled}
use Rattle.heesch_table.specs.Texts.{counts_text}
use Rattle.heesch_catalogue.specs.Catalogues.{AreEntries}
use Rattle.heesch_catalogue.specs.Entries.{IsEntryOf}
use Rattle.heesch_catalogue.proofs.CatalogueTexts.{as_many}
use Rattle.heesch_catalogue.proofs.EntryLists.{entries_of_shapes, no_entries}
use Rattle.heesch_catalogue.proofs.RoundTexts.{rounds_meet}
use Rattle.heesch_sample.specs.Samples.{AreCountsOf, HaveCounts, IsFound, IsTallyOf}

-- what is found of one more entry
found_more : (g : Geometry) (entries : List Entry) (found : List (Bool × Verdict)) (entry : Entry) (one : Bool × Verdict) → AllZip (IsFound g) entries found → IsFound g entry one → AllZip (IsFound g) (entries ++ entry ∷ []) (found ++ one ∷ [])
found_more g [] [] entry one all is = (is, tt)
found_more g [] (f ∷ fs) entry one all is = absurd all
found_more g (e ∷ es) [] entry one all is = absurd all
found_more g (e ∷ es) (f ∷ fs) entry one (first, all) is = (first, found_more g es fs entry one all is)

-- one more, added by the cells of its shape
pub tallied_more : (g : Geometry) (before after : List Entry) (entry : Entry) (cells : List Cell) (old new : Counts) (so_far : AreCountsOf g before old)
    → after ≡ before ++ entry ∷ [] → entry.cells ≡ cells
    → (holed : Bool) × IsHoled g cells holed × (new ≡ counts_of (so_far.found ++ (holed, entry.verdict) ∷ []))
    → AreCountsOf g after new
tallied_more g before after entry cells old new so_far more same (holed, is_holed, counts) =
    let one : IsFound g entry (holed, entry.verdict) = record { holed = subst (λ cs. IsHoled g cs holed) (sym same) is_holed; verdict = refl } in
    record {
      found = so_far.found ++ (holed, entry.verdict) ∷ [];
      are_found = subst (λ es. AllZip (IsFound g) es (so_far.found ++ (holed, entry.verdict) ∷ [])) (sym more) (found_more g before so_far.found entry (holed, entry.verdict) so_far.are_found one);
      counts_are = counts;
    }

-- the entry at a place is of the shape at that place
pub cells_at : (entries : List Entry) (shapes : List (List Cell)) (i : ℕ) (entry : Entry) (cells : List Cell) → map (λ (e : Entry). e.cells) entries ≡ shapes → i < length entries → i < length shapes
    → entry ≡ get_or entries i entry → cells ≡ get_or shapes i cells → entry.cells ≡ cells
cells_at entries shapes i entry cells of_shapes less low is_entry is_cells =
    ap (λ (e : Entry). e.cells) is_entry
    ∙ sym (get_or-map (λ (e : Entry). e.cells) entries i entry cells less)
    ∙ ap (λ ss. get_or ss i cells) of_shapes
    ∙ sym is_cells

-- the items of a round are entries of its shapes
pub entries_between : (g : Geometry) (limits : Limits) (shapes : List (List Cell)) (entries : List Entry) (from until : ℕ) → All (λ s. IsCanonicalListOf g s s) shapes
    → AllZip (IsEntryOf g limits) (take (until - from) (drop from shapes)) entries → AreEntries g limits (take (until - from) (drop from shapes)) entries
entries_between g limits shapes entries from until canonical zip =
    entries_of_shapes g limits (take (until - from) (drop from shapes)) entries zip
    (All-take (λ s. IsCanonicalListOf g s s) (until - from) (drop from shapes) (All-drop (λ s. IsCanonicalListOf g s s) from shapes canonical))

-- as many as the places of the round
pub round_length : (g : Geometry) (limits : Limits) (shapes : List (List Cell)) (entries : List Entry) (from until : ℕ) → until ≤ length shapes → AreEntries g limits (take (until - from) (drop from shapes)) entries
    → length entries ≡ until - from
round_length g limits shapes entries from until within are =
    omega (arith, within, as_many g limits (take (until - from) (drop from shapes)) entries are, length-take (until - from) (drop from shapes), length-drop from shapes)

-- the entries of a round behind those before it
pub round_counted : (g : Geometry) (limits : Limits) (shapes : List (List Cell)) (from until : ℕ) (new : Counts) → from ≤ until
    → HaveCounts g limits (take from shapes ++ take (until - from) (drop from shapes)) new → HaveCounts g limits (take until shapes) new
round_counted g limits shapes from until new le have = subst (λ ss. HaveCounts g limits ss new) (rounds_meet shapes from until le) have

-- the tally of no entry
pub none_counted : (g : Geometry) (limits : Limits) (counts : Counts) → counts ≡ counts_of [] → HaveCounts g limits [] counts
none_counted g limits counts is = ([], no_entries g limits, record { found = []; are_found = tt; counts_are = is })

-- the tally of all entries, written
pub tally_written : (g : Geometry) (entries : List Entry) (tally : Counts) (old new : List ℕ) → AreCountsOf g entries tally → old ≡ [] → new ≡ old ++ counts_text tally → IsTallyOf g entries new
tally_written g entries tally old new are empty written =
    (are.found, are.are_found, written ∙ ap (λ o. o ++ counts_text tally) empty ∙ ap counts_text are.counts_are)
