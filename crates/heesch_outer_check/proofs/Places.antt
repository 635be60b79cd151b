-- Which shapes stand in their places, and how many there are.
use Rattle.std.proofs.Common.{◌≡◌, ◌↔◌, ◌⊎◌, inl, inr, ℕ, ◌≤◌, Bool, true, false, List, length, codes, sym, ap, subst, ◌∙◌, arith}
use Rattle.std.specs.Prelude.{Some, slice_get}
use Rattle.std.specs.Cmp.Lexicographic.{pointwise}
use Rattle.std.proofs.lemmas.Slice.Eq.{slice_eq-Decides}
use Rattle.std.proofs.lemmas.Option.{slice_get_past}
use Rattle.heesch_grid.specs.declared.Cell.{Cell}
use Rattle.heesch_grid.specs.Cells.{same_cell}
use Rattle.heesch_grid.specs.Geometry.{Geometry}
use Rattle.heesch_grid.specs.Pairs.{same_cell-is, same_cell-true}
use Rattle.heesch_grid.specs.Names.{geometry_of}
use Rattle.heesch_grid.specs.Polyform.{IsFreeList}
use Rattle.heesch_grid.proofs.Pinned.{one_free_list}
use Rattle.heesch_cert.specs.declared.header.Header.{Header}
use Rattle.heesch_cert.specs.declared.header.Subject.{Subject}
use Rattle.heesch_cert.specs.declared.header.Subject.TheVariants.{Size, Given}
use Rattle.std.proofs.lemmas.Bool.{false≢true}
use Rattle.heesch_reader.specs.Faults.{begins}
use Rattle.heesch_check.specs.Catalogues.{AreAll, IsInPlace, block_of}
use Rattle.heesch_outer_check.specs.Records.{IsGoodBlock}
use Rattle.heesch_outer_check.specs.Rounds.{AreListed, most_of}

-- the shape that stands next in the list is in its place, and no other
pub listed_place : (g : Geometry) (n : ℕ) (shapes : List (List Cell)) → IsFreeList g n shapes → (before : ℕ) (cells : List Cell) → (slice_get shapes before ≡ Some cells) ↔ IsInPlace g (Size n) before cells
listed_place g n shapes free before cells = (
  λ h. (shapes, free, h),
  λ p. ap (λ (x : List (List Cell)). slice_get x before) (one_free_list g n shapes p.0 free p.1) ∙ p.2,
)

-- nothing is in place beyond the most that there may be
pub past_place : (g : Geometry) (subject : Subject) (shapes : List (List Cell)) → AreListed g subject shapes → (before : ℕ) (cells : List Cell) → most_of subject shapes ≤ before → IsInPlace g subject before cells → ⊥
past_place g (Size n) shapes listed before cells past p =
    let none = slice_get_past shapes before past in
    let there = (listed_place g n shapes listed.0 before cells).1 p in
    let bad = sym none ∙ there in
    absurd cc
past_place g Given shapes listed before cells past p = omega (arith, past, p)

-- those of a size are all exactly where they are as many as the list has
pub listed_all : (header : Header) (n : ℕ) (shapes : List (List Cell)) → IsFreeList (geometry_of header.grid) n shapes → (count : ℕ) → (length shapes ≡ count) ↔ AreAll header (Size n) count
listed_all header n shapes free count = (
  λ h. (shapes, free, sym h),
  λ p. ap length (one_free_list (geometry_of header.grid) n shapes p.0 free p.1) ∙ sym p.2,
)

-- the same where the subject is told to be that size
pub all_of_size : (header : Header) (g : Geometry) → geometry_of header.grid ≡ g → (shapes : List (List Cell)) (n : ℕ) → header.subject ≡ Size n → AreListed g header.subject shapes → (count : ℕ) → (length shapes ≡ count) ↔ AreAll header header.subject count
all_of_size header g same shapes n is listed count =
    let free : IsFreeList (geometry_of header.grid) n shapes = subst (λ (x : Geometry). IsFreeList x n shapes) (sym same) (subst (λ (s : Subject). AreListed g s shapes) is listed).0 in
    let all = listed_all header n shapes free count in
    (λ h. subst (λ (s : Subject). AreAll header s count) (sym is) (all.0 h), λ a. all.1 (subst (λ (s : Subject). AreAll header s count) is a))

pub place_of_size : (g : Geometry) (subject : Subject) (shapes : List (List Cell)) (n : ℕ) → subject ≡ Size n → AreListed g subject shapes → (before : ℕ) (cells : List Cell) → (slice_get shapes before ≡ Some cells) ↔ IsInPlace g subject before cells
place_of_size g subject shapes n is listed before cells =
    let place = listed_place g n shapes (subst (λ (s : Subject). AreListed g s shapes) is listed).0 before cells in
    (λ h. subst (λ (s : Subject). IsInPlace g s before cells) (sym is) (place.0 h), λ p. place.1 (subst (λ (s : Subject). IsInPlace g s before cells) is p))

-- a test of the cells of the shape that stands there
pub tests_listed : (shapes : List (List Cell)) (before : ℕ) (there here cells : List Cell) (r : Bool) → slice_get shapes before ≡ Some there → here ≡ there → r ≡ pointwise same_cell here cells → (r ≡ true) ↔ (slice_get shapes before ≡ Some cells)
tests_listed shapes before there here cells r at is tests =
    let decides = slice_eq-Decides (λ c d. (same_cell-true c d, same_cell-is c d)) here cells r tests in (
      λ e. at ∙ ap (λ (x : List Cell). Some x) (sym is ∙ decides.0 e),
      λ p. decides.1 (is ∙ one_some (sym at ∙ p)),
    )
  where
    one_some : {a b : List Cell} → Some a ≡ Some b → a ≡ b
    one_some e = cc

-- no cells stand beyond the list
pub past_listed : (shapes : List (List Cell)) (before : ℕ) (cells : List Cell) → length shapes ≤ before → slice_get shapes before ≡ Some cells → ⊥
past_listed shapes before cells past at = let none = slice_get_past shapes before past in let bad = sym none ∙ at in absurd cc

-- where no further record may stand, or none begins, no good one does
pub no_more : (header : Header) (g : Geometry) → geometry_of header.grid ≡ g → (shapes : List (List Cell)) → AreListed g header.subject shapes → (count : ℕ) (rest : List ℕ) → (most_of header.subject shapes ≤ count) ⊎ (begins rest (codes "shape ") ≡ false)
    → begins rest (codes "shape ") ≡ true → IsGoodBlock header count (block_of rest) → ⊥
no_more header g same shapes listed count rest (inl past) b good =
    past_place g header.subject shapes listed count good.record_is.entry.cells past (subst (λ (x : Geometry). IsInPlace x header.subject count good.record_is.entry.cells) same good.good.in_place)
no_more header g same shapes listed count rest (inr other) b good = false≢true (sym other ∙ b)
