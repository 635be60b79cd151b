-- The records that `outer` wrote of all shapes that are asked for are good, each in its place.
use Rattle.std.proofs.Common.{◌≡◌, ℕ, ◌+◌, ◌≤◌, ◌<◌, List, [], ◌∷◌, ◌++◌, map, length, refl, sym, ap, subst, ◌∙◌, append_assoc, arith}
use Rattle.std.specs.Prelude.{Some, slice_get}
use Rattle.std.specs.List.{AllByRecursion}
use Rattle.std.proofs.lemmas.List.{length-map}
use Rattle.std.proofs.lemmas.List.Elements.{recursion_from_All}
use Rattle.heesch_grid.specs.declared.Cell.{Cell}
use Rattle.heesch_grid.specs.declared.GridName.{GridName}
use Rattle.heesch_grid.specs.Names.{geometry_of}
use Rattle.heesch_grid.specs.Polyform.{IsFreeList}
use Rattle.heesch_cert.specs.declared.entry.Entry.{Entry}
use Rattle.heesch_cert.specs.declared.header.Header.{Header}
use Rattle.heesch_cert.specs.declared.header.Subject.{Subject}
use Rattle.heesch_cert.specs.declared.header.Subject.TheVariants.{Size, Given}
use Rattle.heesch_cert.specs.TrueEntry.{IsTrueEntry}
use Rattle.heesch_line.specs.Forms.{IsLine}
use Rattle.heesch_text.specs.Catalogue.{entry_lines}
use Rattle.heesch_check.specs.Catalogues.{AreAll, IsInPlace}
use Rattle.heesch_outer.specs.declared.answers.OuterEntry.{OuterEntry}
use Rattle.heesch_outer.specs.Outers.{AreOuterEntries, AreReadable, HasOuterAnswer, entries_in}
use Rattle.heesch_outer.specs.Record.{answer_lines}
use Rattle.heesch_outer_check.specs.Records.{AreGoodRecords, IsGoodRecord}

-- the shapes are all that the subject asks for: the free list of a size; of given shapes any, at most 10,000
abbrev pub AreAsked : GridName → Subject → List (List Cell) → Type 0
AreAsked grid (Size n) shapes = IsFreeList (geometry_of grid) n shapes
AreAsked grid Given shapes = length shapes ≤ 10000

cells_of : List OuterEntry → List (List Cell)
cells_of es = map (λ (e : OuterEntry). e.entry.cells) es

-- ---- each in its place

-- what is known of each beside its place
record IsSound (header : Header) (e : OuterEntry) : Type 0 where
  is_true : IsTrueEntry (geometry_of header.grid) header.limits e.entry
  has : HasOuterAnswer (geometry_of header.grid) header.limits e

good_at : (header : Header) (before : ℕ) (e : OuterEntry) → IsSound header e → IsInPlace (geometry_of header.grid) header.subject before e.entry.cells → AllByRecursion IsLine (entry_lines e.entry) × AllByRecursion IsLine (answer_lines e.answer)
    → IsGoodRecord header before e
good_at header before e sound place forms = record {
  is_true = sound.is_true;
  in_place = place;
  is_answer = sound.has.is_answer;
  entry_forms = forms.0;
  answer_forms = forms.1;
}

get_behind : {X : Type 0} (xs ys : List X) (y : X) → slice_get (xs ++ y ∷ ys) (length xs) ≡ Some y
get_behind [] ys y = refl
get_behind (x ∷ xs) ys y = get_behind xs ys y

length_push : {X : Type 0} (xs : List X) (x : X) → length (xs ++ x ∷ []) ≡ length xs + 1
length_push [] x = refl
length_push (y ∷ xs) x = omega (arith, length_push xs x)

module _ (header : Header) where
  sized : (n : ℕ) (shapes before : List (List Cell)) (es : List OuterEntry) → header.subject ≡ Size n → IsFreeList (geometry_of header.grid) n shapes → before ++ cells_of es ≡ shapes → AllByRecursion (IsSound header) es → AreReadable es
      → AreGoodRecords header (length before) es
  unfolding cells_of
  sized n shapes before [] is free all sound read = tt
  sized n shapes before (e ∷ es) is free all sound read =
      let here : slice_get shapes (length before) ≡ Some e.entry.cells = subst (λ ss. slice_get ss (length before) ≡ Some e.entry.cells) all (get_behind before (cells_of es) e.entry.cells) in
      let longer : length (before ++ e.entry.cells ∷ []) ≡ length before + 1 = length_push before e.entry.cells in
      let further : (before ++ e.entry.cells ∷ []) ++ cells_of es ≡ shapes = append_assoc before (e.entry.cells ∷ []) (cells_of es) ∙ all in
      let place : IsInPlace (geometry_of header.grid) header.subject (length before) e.entry.cells = subst (λ s. IsInPlace (geometry_of header.grid) s (length before) e.entry.cells) (sym is) (shapes, free, here) in (
        good_at header (length before) e sound.0 place read.0,
        subst (λ k. AreGoodRecords header k es) longer (sized n shapes (before ++ e.entry.cells ∷ []) es is free further sound.1 read.1),
      )

  any_given : (before : ℕ) (es : List OuterEntry) → header.subject ≡ Given → before + length es ≤ 10000 → AllByRecursion (IsSound header) es → AreReadable es → AreGoodRecords header before es
  any_given before [] is few sound read = tt
  any_given before (e ∷ es) is few sound read =
      let low : before < 10000 = omega (arith, few) in (
        good_at header before e sound.0 (subst (λ s. IsInPlace (geometry_of header.grid) s before e.entry.cells) (sym is) low) read.0,
        any_given (before + 1) es is (omega (arith, few)) sound.1 read.1,
      )

  good : (shapes : List (List Cell)) (es : List OuterEntry) → AreAsked header.grid header.subject shapes → length es ≡ length shapes → cells_of es ≡ shapes → AllByRecursion (IsSound header) es → AreReadable es → AreGoodRecords header 0 es
  good shapes es asked many all sound read = by_subject header.subject refl asked
    where
      by_subject : (subject : Subject) → header.subject ≡ subject → AreAsked header.grid subject shapes → AreGoodRecords header 0 es
      by_subject (Size n) is free = sized n shapes [] es is free all sound read
      by_subject Given is few = any_given 0 es is (omega (arith, many, few)) sound read

  all_there : (shapes : List (List Cell)) (count : ℕ) → AreAsked header.grid header.subject shapes → count ≡ length shapes → AreAll header header.subject count
  all_there shapes count asked many = by_subject header.subject asked
    where
      by_subject : (subject : Subject) → AreAsked header.grid subject shapes → AreAll header subject count
      by_subject (Size n) free = (shapes, free, many)
      by_subject Given few = tt

sounds : (header : Header) (es : List OuterEntry) → AllByRecursion (IsTrueEntry (geometry_of header.grid) header.limits) (entries_in es) → AllByRecursion (HasOuterAnswer (geometry_of header.grid) header.limits) es → AllByRecursion (IsSound header) es
sounds header [] true answers = tt
sounds header (e ∷ es) true answers = (record { is_true = true.0; has = answers.0 }, sounds header es true.1 answers.1)

same_cells : (es : List OuterEntry) → cells_of es ≡ map (λ (e : Entry). e.cells) (entries_in es)
unfolding cells_of
same_cells [] = refl
same_cells (e ∷ es) = ap (λ (x : List (List Cell)). e.entry.cells ∷ x) (same_cells es)

-- the records of an outer text of all shapes that are asked for are good and all
pub records_good : (header : Header) → (shapes : List (List Cell)) → AreAsked header.grid header.subject shapes → (es : List OuterEntry) → AreOuterEntries (geometry_of header.grid) header.limits shapes es → AreReadable es
    → AreGoodRecords header 0 es × AreAll header header.subject (length es)
unfolding cells_of
records_good header shapes asked es are read =
    let g = geometry_of header.grid in
    let all : cells_of es ≡ shapes = same_cells es ∙ are.entries.of_shapes in
    let many : length es ≡ length shapes = sym (length-map es (λ (e : OuterEntry). e.entry.cells)) ∙ ap length all in
    let sound = sounds header es (recursion_from_All (IsTrueEntry g header.limits) (entries_in es) are.entries.are_true) (recursion_from_All (HasOuterAnswer g header.limits) es are.answers) in
    (good header shapes es asked many all sound read, all_there header shapes (length es) asked many)
