-- Whether a shape is in its place, and whether entries are all, by the list of shapes.
use Rattle.std.proofs.Common.{◌≡◌, ◌≤◌, Bool, true, ℕ, ◌<◌, ◌^◌, List, length, Option, Some, None, ◌↔◌, sym, ap, subst, ◌∙◌}
use Rattle.std.specs.Prelude.{slice_get}
use Rattle.std.specs.Cmp.Lexicographic.{pointwise}
use Rattle.std.proofs.lemmas.Slice.Eq.{slice_eq-Decides}
use Rattle.std.proofs.lemmas.Option.{slice_get_past}
use Rattle.heesch_grid.specs.declared.Cell.{Cell}
use Rattle.heesch_grid.specs.Cells.{same_cell}
use Rattle.heesch_grid.specs.Pairs.{same_cell-is, same_cell-true}
use Rattle.heesch_grid.specs.Names.{geometry_of}
use Rattle.heesch_grid.proofs.Pinned.{one_free_list}
use Rattle.heesch_cert.specs.declared.header.Header.{Header}
use Rattle.heesch_cert.specs.declared.header.Subject.{Subject}
use Rattle.heesch_cert.specs.declared.header.Subject.TheVariants.{Size, Given}
use Rattle.heesch_check.specs.Catalogues.{IsInPlace, AreAll}
use Rattle.heesch_check.specs.Judging.{HasShapes}

-- of given shapes
pub given_place : (header : Header) (subject : Subject) (shapes : Option (List (List Cell))) → HasShapes header subject shapes → shapes ≡ None → (before : ℕ) (cells : List Cell) → (before < 10000) ↔ IsInPlace (geometry_of header.grid) subject before cells
given_place header (Size n) None has none before cells = absurd has
given_place header (Size n) (Some shapes) has none before cells = absurd cc
given_place header Given None has none before cells = (λ h. h, λ h. h)
given_place header Given (Some shapes) has none before cells = absurd has

pub given_all : (header : Header) (subject : Subject) (shapes : Option (List (List Cell))) → HasShapes header subject shapes → shapes ≡ None → (count : ℕ) → AreAll header subject count
given_all header (Size n) None has none count = absurd has
given_all header (Size n) (Some shapes) has none count = absurd cc
given_all header Given None has none count = tt
given_all header Given (Some shapes) has none count = absurd has

-- of the shapes of a size
pub listed_place : (header : Header) (subject : Subject) (shapes : Option (List (List Cell))) (xs : List (List Cell)) → HasShapes header subject shapes → shapes ≡ Some xs → (before : ℕ) (cells : List Cell) → (slice_get xs before ≡ Some cells) ↔ IsInPlace (geometry_of header.grid) subject before cells
listed_place header (Size n) None xs has some before cells = absurd has
listed_place header (Size n) (Some shapes) xs has some before cells =
    let same : shapes ≡ xs = cc in (
      λ h. (shapes, has.0, ap (λ (x : List (List Cell)). slice_get x before) same ∙ h),
      λ p. ap (λ (x : List (List Cell)). slice_get x before) (sym same ∙ sym (one_free_list (geometry_of header.grid) n p.0 shapes p.1 has.0)) ∙ p.2,
    )
listed_place header Given None xs has some before cells = absurd cc
listed_place header Given (Some shapes) xs has some before cells = absurd has

pub listed_all : (header : Header) (subject : Subject) (shapes : Option (List (List Cell))) (xs : List (List Cell)) → HasShapes header subject shapes → shapes ≡ Some xs → (count : ℕ) → (length xs ≡ count) ↔ AreAll header subject count
listed_all header (Size n) None xs has some count = absurd has
listed_all header (Size n) (Some shapes) xs has some count =
    let same : shapes ≡ xs = cc in (
      λ h. (shapes, has.0, sym h ∙ ap length (sym same)),
      λ p. ap length (sym same ∙ sym (one_free_list (geometry_of header.grid) n p.0 shapes p.1 has.0)) ∙ sym p.2,
    )
listed_all header Given None xs has some count = absurd cc
listed_all header Given (Some shapes) xs has some count = absurd has

pub few_listed : (header : Header) (subject : Subject) (shapes : Option (List (List Cell))) (xs : List (List Cell)) → HasShapes header subject shapes → shapes ≡ Some xs → length xs < 2 ^ 32
few_listed header (Size n) None xs has some = absurd has
few_listed header (Size n) (Some shapes) xs has some = let same : shapes ≡ xs = cc in subst (λ (x : List (List Cell)). length x < 2 ^ 32) same has.1
few_listed header Given None xs has some = absurd cc
few_listed header Given (Some shapes) xs has some = absurd has

-- a test of the shape that stands there tells whether this one is in its place
pub tests_place : (header : Header) (subject : Subject) (shapes : Option (List (List Cell))) (xs : List (List Cell)) → HasShapes header subject shapes → shapes ≡ Some xs → (before : ℕ) (there here cells : List Cell) (r : Bool)
    → slice_get xs before ≡ Some there → here ≡ there → r ≡ pointwise same_cell here cells → (r ≡ true) ↔ IsInPlace (geometry_of header.grid) subject before cells
tests_place header subject shapes xs has some before there here cells r at is tests =
    let decides = slice_eq-Decides (λ c d. (same_cell-true c d, same_cell-is c d)) here cells r tests in
    let place = listed_place header subject shapes xs has some before cells in (
      λ e. place.0 (at ∙ ap (λ (x : List Cell). Some x) (sym is ∙ decides.0 e)),
      λ p. decides.1 (is ∙ one_some (sym at ∙ place.1 p)),
    )
  where
    one_some : {a b : List Cell} → Some a ≡ Some b → a ≡ b
    one_some e = cc

-- nothing is in place beyond the list
pub past_place : (header : Header) (subject : Subject) (shapes : Option (List (List Cell))) (xs : List (List Cell)) → HasShapes header subject shapes → shapes ≡ Some xs → (before : ℕ) (cells : List Cell) → length xs ≤ before → IsInPlace (geometry_of header.grid) subject before cells → ⊥
past_place header subject shapes xs has some before cells past p =
    let none = slice_get_past xs before past in
    let there = (listed_place header subject shapes xs has some before cells).1 p in
    let bad = sym none ∙ there in
    absurd cc
