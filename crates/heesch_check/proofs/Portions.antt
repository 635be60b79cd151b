-- The portions of the entries of a round: the turns at which they come, and audits from their answers.
use Rattle.std.proofs.Common.{◌≡◌, ◌↔◌, ℕ, zero, suc, ◌+◌, ◌-◌, ◌*◌, ◌/◌, ◌%◌, ◌<◌, inl, inr, Bool, true, IsTrue, List, [], ◌∷◌, length, get_or, Some, ap, subst, ◌∙◌, suc-mul, div-add-mod', arith}
use Rattle.std.specs.Prelude.{slice_get}
use Rattle.std.specs.List.{AllByRecursion}
use Rattle.std.proofs.lemmas.Bool.{cases_lt}
use Rattle.std.proofs.lemmas.Nat.{div-mul-add, mod-mul-add, mod_below, mul-add-lt}
use Rattle.std.proofs.lemmas.Option.{slice_get-get_or, slice_get_within}
use Rattle.heesch_cert.specs.declared.entry.Entry.{Entry}
use Rattle.heesch_cert.specs.declared.limits.Limits.{Limits}
use Rattle.heesch_cert.specs.declared.verdict.Verdict.{Verdict}
use Rattle.heesch_grid.specs.Geometry.{Geometry}
use Rattle.heesch_reader.specs.declared.item.Item.{Item}
use Rattle.heesch_reader.specs.declared.item.Item.TheVariants as items
use Rattle.heesch_audit.specs.Near.{IsNearEntry}
use Rattle.heesch_audit.specs.Portions.{PortionHolds}
use Rattle.heesch_audit.proofs.Portions.{portions_make_the_entry}
use Rattle.heesch_check.specs.Judging.{AreAudits, AreTrueOf, IsFit, IsPortionOf, levels_sought, portion_at}
use Rattle.heesch_check.proofs.Near.{entry_near}

-- ---- items

-- the coordinates of an entry among fit items lie near 0
pub item_near : (found : List Item) (i line : ℕ) (e : Entry) → AllByRecursion IsFit found → slice_get found i ≡ Some (items.Entry line e) → IsNearEntry e
item_near [] i line e fit at = absurd cc
item_near (item ∷ found) zero line e fit at =
    let is : item ≡ items.Entry line e = cc in
    let own : IsFit (items.Entry line e) = subst IsFit is fit.0 in
    entry_near e own.holds own.forms
item_near (item ∷ found) (suc i) line e fit at = item_near found i line e fit.1 at

-- ---- turns

-- counted around from any number on, each number below n comes at a turn below n
turn_of : (from n q : ℕ) → q < n → (turn : ℕ) × (turn < n) × ((turn + from) % n ≡ q)
turn_of from n q lt =
    let split : from / n * n + from % n ≡ from = div-add-mod' from n in
    let below : from % n < n = mod_below from n (omega (arith, lt)) in
    elim (cases_lt q (from % n)) [
      | inr le ↦
          let at : q - from % n + from ≡ from / n * n + q = omega (arith, split, le) in
          (q - from % n, omega (arith, lt), ap (λ (x : ℕ). x % n) at ∙ mod-mul-add (from / n) n q lt)
      | inl gt ↦
          let more = suc-mul (from / n) n in
          let at : (q + n - from % n) + from ≡ suc (from / n) * n + q = omega (arith, split, gt, below, more) in
          (q + n - from % n, omega (arith, gt, below), ap (λ (x : ℕ). x % n) at ∙ mod-mul-add (suc (from / n)) n q lt)
    ]

-- so does each portion of an entry
portion_turn : (verdict : Verdict) (portions q : ℕ) → q < portions → (turn : ℕ) × (turn < portions) × (portion_at verdict turn portions ≡ q)
portion_turn verdict portions q lt =
    let t = turn_of (levels_sought verdict + 1) portions q lt in
    let at : t.0 + levels_sought verdict + 1 ≡ t.0 + (levels_sought verdict + 1) = omega arith in
    (t.0, t.1, ap (λ (x : ℕ). x % portions) at ∙ t.2)

-- ---- answers

-- where the answers on each item are joined, these are audits
pub audits_from : (g : Geometry) (limits own : Limits) (found these : List Item) (first from count many portions each : ℕ) (answers audits : List Bool) → own ≡ limits → these ≡ found → first ≡ from → many ≡ count → each ≡ portions → 0 < portions
    → length answers ≡ count * portions → ((k : ℕ) (holds : Bool) → slice_get answers k ≡ Some holds → IsPortionOf g own these many each ((from + k) - first) holds) → length audits ≡ count
    → ((i : ℕ) (holds : Bool) → slice_get audits i ≡ Some holds → IsTrue holds ↔ AreTrueOf answers count i) → AreAudits g limits found audits
audits_from g limits own found these first from count many portions each answers audits same all at counted so_many some long told marks joined i holds is line e here =
    let below : i < count = omega (arith, slice_get_within audits i holds is, marks) in
    let law = portions_make_the_entry g limits e portions some in
    let j = joined i holds is in (
      λ yes. law.1 (λ q lt.
          let t = portion_turn e.verdict portions q lt in
          let k : ℕ = t.0 * count + i in
          let within : k < length answers = omega (arith, mul-add-lt t.0 count i portions t.1 below, long) in
          let place : k % count ≡ i = mod-mul-add t.0 count i below in
          let b : Bool = get_or answers k true in
          let answer : slice_get answers k ≡ Some b = slice_get-get_or answers k true within in
          let portion : portion_at e.verdict (k / count) portions ≡ q = ap (λ (x : ℕ). portion_at e.verdict x portions) (div-mul-add t.0 count i below) ∙ t.2 in
          subst (λ (p : ℕ). PortionHolds g limits e p portions) portion ((tells k b answer line e (ap (slice_get found) place ∙ here)).0 (j.0 yes k b answer place))),
      λ true. j.1 (λ k b answer place. (tells k b answer line e (ap (slice_get found) place ∙ here)).1 (law.0 true (portion_at e.verdict (k / count) portions) (mod_below (k / count + levels_sought e.verdict + 1) portions some))),
    )
  where
    tells : (k : ℕ) (b : Bool) → slice_get answers k ≡ Some b → IsPortionOf g limits found count portions k b
    tells k b got =
        let number : (from + k) - first ≡ k = omega (arith, at) in
        subst (λ (n : ℕ). IsPortionOf g limits found count portions n b) number
        (subst (λ (n : ℕ). IsPortionOf g limits found count n ((from + k) - first) b) so_many
        (subst (λ (n : ℕ). IsPortionOf g limits found n each ((from + k) - first) b) counted
        (subst (λ (x : List Item). IsPortionOf g limits x many each ((from + k) - first) b) all
        (subst (λ (x : Limits). IsPortionOf g x these many each ((from + k) - first) b) same (told k b got)))))
