-- The entries of a list of shapes.
use Rattle.std.proofs.Common.{◌≡◌, ℕ, suc, List, [], ◌∷◌, ◌++◌, map, get_or, Result, Ok, Err, IfOk, refl, ap, ◌∙◌, arith}
use Rattle.std.specs.Prelude.{All}
use Rattle.std.specs.List.{AllZip}
use Rattle.std.proofs.lemmas.List.{map-append}
use Rattle.std.proofs.lemmas.List.Elements.{All-append, All-cons, All-nil}
use Rattle.heesch_grid.specs.declared.Cell.{Cell}
use Rattle.heesch_grid.specs.Geometry.{Geometry, IsGrid}
use Rattle.heesch_grid.specs.Polyform.{IsCanonicalListOf, IsFreePolyform}
use Rattle.heesch_grid.proofs.GrowthOfLists.{canonical_of_image}
use Rattle.heesch_grid.proofs.Pinned.{one_canonical_list}
use Rattle.heesch_cert.specs.declared.entry.Entry.{Entry}
use Rattle.heesch_cert.specs.declared.limits.Limits.{Limits}
use Rattle.heesch_cert.specs.Reduced.{HasReducedCover}
use Rattle.heesch_cert.specs.RightVerdict.{HasRightVerdict}
use Rattle.heesch_cert.specs.TrueEntry.{IsTrueEntry}
use Rattle.heesch_catalogue.specs.Catalogues.{AreEntries}
use Rattle.heesch_catalogue.specs.Entries.{IsEntryOf}

-- two facts of an answer give a third
pub if_both : {T E : Type 0} {P Q S : T → Type 0} (r : Result T E) → ((x : T) → P x → Q x → S x) → IfOk r P → IfOk r Q → IfOk r S
if_both (Ok x) f p q = f x p q
if_both (Err e) f p q = p

-- a free polyform is its own canonical list
pub free_are_canonical : (g : Geometry) (law : IsGrid g) (n : ℕ) (shapes : List (List Cell)) → All (IsFreePolyform g n) shapes → All (λ s. IsCanonicalListOf g s s) shapes
free_are_canonical g law n shapes free i d lt =
    let f = free i d lt in
    let s = get_or shapes i d in
    canonical_of_image g law f.cells s s f.polyform.is_set.rising f.canonical.is_image f.canonical

-- no shape has no entry
pub no_entries : (g : Geometry) (limits : Limits) → AreEntries g limits [] []
no_entries g limits = record {
  of_shapes = refl;
  are_true = λ i d lt. absurd (omega (arith, lt));
  are_reduced = λ i d lt. absurd (omega (arith, lt));
  are_right = λ i d lt. absurd (omega (arith, lt));
}

-- the entries of some shapes, and those of others behind them
pub entries_both : (g : Geometry) (limits : Limits) (xs ys : List (List Cell)) (es fs : List Entry) → AreEntries g limits xs es → AreEntries g limits ys fs
    → AreEntries g limits (xs ++ ys) (es ++ fs)
entries_both g limits xs ys es fs are are_too = record {
  of_shapes = map-append (λ (e : Entry). e.cells) es fs ∙ ap (λ ss. ss ++ map (λ (e : Entry). e.cells) fs) are.of_shapes ∙ ap (λ ss. xs ++ ss) are_too.of_shapes;
  are_true = All-append (IsTrueEntry g limits) es fs are.are_true are_too.are_true;
  are_reduced = All-append (λ (e : Entry). HasReducedCover g e.evidence) es fs are.are_reduced are_too.are_reduced;
  are_right = All-append (HasRightVerdict g limits) es fs are.are_right are_too.are_right;
}

-- one entry of each of these shapes, which are canonical
pub entries_of_shapes : (g : Geometry) (limits : Limits) (shapes : List (List Cell)) (entries : List Entry) → AllZip (IsEntryOf g limits) shapes entries
    → All (λ s. IsCanonicalListOf g s s) shapes → AreEntries g limits shapes entries
entries_of_shapes g limits [] [] of canonical = no_entries g limits
entries_of_shapes g limits [] (e ∷ es) of canonical = absurd of
entries_of_shapes g limits (s ∷ ss) [] of canonical = absurd of
entries_of_shapes g limits (s ∷ ss) (e ∷ es) (is, of) canonical =
    let same : e.cells ≡ s = one_canonical_list g s e.cells s is.canonical (canonical 0 [] (omega arith)) in
    let one : AreEntries g limits (s ∷ []) (e ∷ []) = record {
      of_shapes = ap (λ (c : List Cell). c ∷ []) same;
      are_true = All-cons (IsTrueEntry g limits) e [] is.is_true (All-nil (IsTrueEntry g limits));
      are_reduced = All-cons (λ (e : Entry). HasReducedCover g e.evidence) e [] is.is_reduced (All-nil (λ (e : Entry). HasReducedCover g e.evidence));
      are_right = All-cons (HasRightVerdict g limits) e [] is.is_right (All-nil (HasRightVerdict g limits));
    } in
    entries_both g limits (s ∷ []) ss (e ∷ []) es one (entries_of_shapes g limits ss es of (λ i d lt. canonical (suc i) d (omega (arith, lt))))
