use Rattle.std.proofs.Common.{◌≡◌, ◌≤◌, ◌<◌, ◌+◌, List, ℕ, All, length, map, refl, sym, subst, ◌∙◌, w64}
use Rattle.std.specs.Prelude.{slice_index}
use Rattle.std.specs.Int.{bit_not}
use Rattle.std.specs.Int.Bits.{bit_and}
use Rattle.heesch_exact.specs.Covers.{IsExactCover, IsAnswer, partial_covers, without}
use Rattle.heesch_torus.specs.Beside.{AreBeside, CountsChoices}
use Rattle.heesch_torus.proofs.Beside.{cover_fills, none_fills}
use Rattle.heesch_torus.proofs.filling.fill_beside.Goals as goal

-- the choices of the masks beside the first, and what was spent on them
spent : (masks : List ℕ) (first full old new : ℕ) (left given : List ℕ) → given ≡ left → AreBeside masks first left → old ≤ new + partial_covers given (without full first) → (count : ℕ) × CountsChoices masks first full count × (old ≤ new + count)
spent masks first full old new left given e are h =
    (partial_covers left (without full first), record { beside = left; are = are; count_is = refl }, subst (λ (xs : List ℕ). old ≤ new + partial_covers xs (without full first)) e h)

pub numbered-requires : goal.numbered-requires
numbered-requires c =
    let cover : IsExactCover c.as_slice.result.now (bit_and c.args.full (bit_not w64 c.args.first)) c.in-Cover.chosen = subst (IsAnswer c.as_slice.result.now (bit_and c.args.full (bit_not w64 c.args.first)) c.args.nodes.now c.exact_cover.new.nodes) c.in-Cover.is c.in_ok-answer.ensures.answer in
    subst (λ (xs : List ℕ). All (λ i. i < length c.as_slice-in-Cover.result.now) xs) (sym c.as_slice-in-Cover-2.ensures)
    (subst (λ (ys : List ℕ). All (λ i. i < length ys) c.in-Cover.chosen) (c.as_slice.ensures.value ∙ sym c.as_slice-in-Cover.ensures.value) cover.within)

pub returns-in-Cover-clause-answer : goal.returns-in-Cover-clause-answer
returns-in-Cover-clause-answer c =
    let left : List ℕ = c.in_ok-beside.beside.items in
    let cover : IsExactCover c.in_ok-beside.beside.items (bit_and c.args.full (bit_not w64 c.args.first)) c.in-Cover.chosen = subst (λ (xs : List ℕ). IsExactCover xs (bit_and c.args.full (bit_not w64 c.args.first)) c.in-Cover.chosen) c.as_slice.ensures.value
    (subst (IsAnswer c.as_slice.result.now (bit_and c.args.full (bit_not w64 c.args.first)) c.args.nodes.now c.exact_cover.new.nodes) c.in-Cover.is c.in_ok-answer.ensures.answer) in
    cover_fills c.args.masks.now c.args.first c.args.full c.ranges.first.fits c.requires.within left c.in_ok-beside.ensures c.in-Cover.chosen c.in_ok-masks-in-Cover.masks
    (c.in_ok-masks-in-Cover.ensures ∙ (λ j. map (λ i. slice_index (c.as_slice-in-Cover.ensures.value j) i) (c.as_slice-in-Cover-2.ensures j))) cover

pub returns-in-Cover-clause-spent : goal.returns-in-Cover-clause-spent
returns-in-Cover-clause-spent c =
    spent c.args.masks.now c.args.first c.args.full c.args.nodes.now c.exact_cover.new.nodes c.in_ok-beside.beside.items c.as_slice.result.now c.as_slice.ensures.value c.in_ok-beside.ensures c.in_ok-answer.ensures.spent

pub returns-in-None-clause-answer : goal.returns-in-None-clause-answer
returns-in-None-clause-answer c =
    let none : (chosen : List ℕ) → ¬ IsExactCover c.in_ok-beside.beside.items (bit_and c.args.full (bit_not w64 c.args.first)) chosen = subst (λ (xs : List ℕ). (chosen : List ℕ) → ¬ IsExactCover xs (bit_and c.args.full (bit_not w64 c.args.first)) chosen) c.as_slice.ensures.value
    (subst (IsAnswer c.as_slice.result.now (bit_and c.args.full (bit_not w64 c.args.first)) c.args.nodes.now c.exact_cover.new.nodes) c.in-None.is c.in_ok-answer.ensures.answer) in
    none_fills c.args.masks.now c.args.first c.args.full c.ranges.first.fits c.requires.within c.in_ok-beside.beside.items c.in_ok-beside.ensures none

pub returns-in-None-clause-spent : goal.returns-in-None-clause-spent
returns-in-None-clause-spent c =
    spent c.args.masks.now c.args.first c.args.full c.args.nodes.now c.exact_cover.new.nodes c.in_ok-beside.beside.items c.as_slice.result.now c.as_slice.ensures.value c.in_ok-beside.ensures c.in_ok-answer.ensures.spent

pub returns-clause-answer : goal.returns-clause-answer
returns-clause-answer c =
    let points = without c.args.full c.args.first in
    let few : c.args.nodes.now < partial_covers c.in_ok-beside.beside.items points = subst (λ (xs : List ℕ). c.args.nodes.now < partial_covers xs points) c.as_slice.ensures.value
    (subst (IsAnswer c.as_slice.result.now points c.args.nodes.now c.exact_cover.new.nodes) c.in-Open.is c.in_ok-answer.ensures.answer).1 in
    (partial_covers c.in_ok-beside.beside.items points, record { beside = c.in_ok-beside.beside.items; are = c.in_ok-beside.ensures; count_is = refl }, few)

pub returns-clause-spent : goal.returns-clause-spent
returns-clause-spent c =
    spent c.args.masks.now c.args.first c.args.full c.args.nodes.now c.exact_cover.new.nodes c.in_ok-beside.beside.items c.as_slice.result.now c.as_slice.ensures.value c.in_ok-beside.ensures c.in_ok-answer.ensures.spent
