-- The classes of a cover are determined: their numbers by their first tiles, and each symmetry by its turn.
use Rattle.std.proofs.Common.{◌≡◌, refl, sym, ap, subst, ◌∙◌, ℕ, zero, suc, ◌+◌, ◌<◌, ◌≤◌, List, [], ◌∷◌, ◌++◌, length, max, take, get_or, Some, None, inl, inr, arith, not-suc-le-zero, le_of_suc-le-suc}
use Rattle.std.specs.List.{slice_get}
use Rattle.std.specs.Prelude.{◌↔◌}
use Rattle.std.proofs.lemmas.Bool.{cases_lt}
use Rattle.std.proofs.lemmas.List.{take_more}
use Rattle.std.proofs.lemmas.List.Sums.{fold-append}
use Rattle.std.proofs.lemmas.Option.{slice_get_within, slice_get-get_or}
use Rattle.heesch_grid.specs.declared.Cell.{Cell}
use Rattle.heesch_grid.specs.declared.isometries.Iso.{Iso}
use Rattle.heesch_grid.specs.Cells.{SameCells}
use Rattle.heesch_grid.specs.Geometry.{Geometry, IsGrid, apply, image}
use Rattle.heesch_grid.specs.Lattice.{Triple}
use Rattle.heesch_grid.specs.Symmetry.{TakesExactly, Member, IsRepresentative, greatest_class, AreClasses}
use Rattle.heesch_grid.proofs.GrowthOfLists.{map_length}
use Rattle.heesch_grid.proofs.SymmetryFacts.{translations_are_determined}
use Rattle.heesch_orbit.proofs.Lists.{one_value}

-- ---- lists by their elements

some_at : {X : Type 0} (xs : List X) (k : ℕ) → k < length xs → (x : X) × (slice_get xs k ≡ Some x)
some_at [] k l = absurd (not-suc-le-zero l)
some_at (x ∷ xs) zero l = (x, refl)
some_at (x ∷ xs) (suc k) l = some_at xs k (le_of_suc-le-suc l)

same_by_elements : {X : Type 0} (xs ys : List X) → length xs ≡ length ys → ((k : ℕ) (x y : X) → slice_get xs k ≡ Some x → slice_get ys k ≡ Some y → x ≡ y) → xs ≡ ys
same_by_elements [] [] e h = refl
same_by_elements [] (y ∷ ys) e h = absurd (omega (arith, e))
same_by_elements (x ∷ xs) [] e h = absurd (omega (arith, e))
same_by_elements (x ∷ xs) (y ∷ ys) e h = λ i. h 0 x y refl refl i ∷ same_by_elements xs ys (omega (arith, e)) (λ k v w p q. h (suc k) v w p q) i

-- ---- the greatest class of the first members

greatest_next : (xs : List Member) (n : ℕ) (x : Member) → slice_get xs n ≡ Some x → greatest_class (take (n + 1) xs) ≡ max (greatest_class (take n xs)) x.class
greatest_next xs n x e =
    ap greatest_class (take_more xs n x (slice_get_within xs n x e) ∙ ap (λ (y : Member). take n xs ++ y ∷ []) (here xs n x e)) ∙ fold-append (λ m (member : Member). max m member.class) 0 (take n xs) (x ∷ [])
  where
    here : (xs : List Member) (n : ℕ) (x : Member) → slice_get xs n ≡ Some x → get_or xs n x ≡ x
    here xs n x e = one_value (slice_get xs n) (get_or xs n x) x (slice_get-get_or xs n x (slice_get_within xs n x e)) e

-- a member's class is at most the greatest
within_greatest : (xs : List Member) (n k : ℕ) (x : Member) → n ≤ length xs → k < n → slice_get xs k ≡ Some x → x.class ≤ greatest_class (take n xs)
within_greatest xs zero k x long l e = absurd (not-suc-le-zero l)
within_greatest xs (suc n) k x long l e =
    let last : (y : Member) × (slice_get xs n ≡ Some y) = some_at xs n long in
    let more : greatest_class (take (n + 1) xs) ≡ max (greatest_class (take n xs)) last.0.class = greatest_next xs n last.0 last.1 in
    let next : n + 1 ≡ suc n = omega arith in
    subst (λ m. x.class ≤ greatest_class (take m xs)) next (subst (λ m. x.class ≤ m) (sym more)
    (elim (cases_lt k n) [
      | inl low ↦ left x.class (greatest_class (take n xs)) last.0.class (within_greatest xs n k x (omega arith) low e)
      | inr top ↦
          let is : n ≡ k = omega arith in
          let one : last.0 ≡ x = one_value (slice_get xs n) last.0 x last.1 (ap (slice_get xs) is ∙ e) in
          right x.class (greatest_class (take n xs)) last.0.class (ap (λ (m : Member). m.class) one)
    ]))
  where
    left : (a b c : ℕ) → a ≤ b → a ≤ max b c
    left a b c l = omega arith

    right : (a b c : ℕ) → c ≡ a → a ≤ max b c
    right a b c e = omega arith

-- ---- the first member of a class

first_of : (xs : List Member) (class k : ℕ) (x : Member) → slice_get xs k ≡ Some x → x.class ≡ class → (r : ℕ) × IsRepresentative xs class r
first_of [] class k x e c = absurd (none-here e)
  where
    none-here : None ≡ Some x → ⊥
    none-here e = cc
first_of (y ∷ ys) class zero x e c = (0, ((y, refl, ap (λ (m : Member). m.class) (one_value (Some y) y x refl e) ∙ c), (λ k member l f. absurd (not-suc-le-zero l))))
first_of (y ∷ ys) class (suc k) x e c =
    let rest : (r : ℕ) × IsRepresentative ys class r = first_of ys class k x e c in
    elim (cases_lt y.class class) [
      | inl l ↦ later rest (λ same. omega (arith, same, l))
      | inr m ↦ elim (cases_lt class y.class) [
        | inl l ↦ later rest (λ same. omega (arith, same, l))
        | inr n ↦ (0, ((y, refl, omega (arith, m, n)), (λ j member l f. absurd (not-suc-le-zero l))))
      ]
    ]
  where
    later : (r : ℕ) × IsRepresentative ys class r → (¬ (y.class ≡ class)) → (r : ℕ) × IsRepresentative (y ∷ ys) class r
    later (r, (first, before)) other = (suc r, (first, (λ j member l f. not_before j member l f)))
      where
        not_before : (j : ℕ) (member : Member) → j < suc r → slice_get (y ∷ ys) j ≡ Some member → ¬ (member.class ≡ class)
        not_before zero member l f same = other (ap (λ (m : Member). m.class) (one_value (Some y) y member refl f) ∙ same)
        not_before (suc j) member l f same = before j member (le_of_suc-le-suc l) f same

-- ---- two divisions into classes

module _ (g : Geometry) (law : IsGrid g) (shape : List Cell) (some : 0 < length shape) (t : Triple) (places : List Iso) where
  -- each number up to the greatest class is one
  covered : (xs : List Member) (count : ℕ) → AreClasses g shape t places count xs → (n class : ℕ) → n ≤ length xs → 1 ≤ class → class ≤ greatest_class (take n xs) → (k : ℕ) × (k < n) × (x : Member) × (slice_get xs k ≡ Some x) × (x.class ≡ class)
  covered xs count p zero class long low high = absurd (let h : class ≤ 0 = nothing xs high in omega (arith, h, low))
    where
      nothing : (xs : List Member) → class ≤ greatest_class (take 0 xs) → class ≤ 0
      nothing [] h = h
      nothing (x ∷ xs) h = h
  covered xs count p (suc n) class long low high =
      let last : (y : Member) × (slice_get xs n ≡ Some y) = some_at xs n long in
      let next : suc n ≡ n + 1 = omega arith in
      let more : greatest_class (take (n + 1) xs) ≡ max (greatest_class (take n xs)) last.0.class = greatest_next xs n last.0 last.1 in
      let up : class ≤ max (greatest_class (take n xs)) last.0.class = subst (λ m. class ≤ m) more (subst (λ m. class ≤ greatest_class (take m xs)) next high) in
      let bound : last.0.class ≤ greatest_class (take n xs) + 1 = (p.numbered n last.0 last.1).1 in
      elim (cases_lt (greatest_class (take n xs)) class) [
        | inl above ↦ (n, omega arith, last.0, last.1, top (greatest_class (take n xs)) last.0.class up bound above)
        | inr below ↦ let found = covered xs count p n class (omega arith) low below in (found.0, (let l = found.1 in omega arith), found.2, found.3, found.4)
      ]
    where
      top : (m c : ℕ) → class ≤ max m c → c ≤ m + 1 → m < class → c ≡ class
      top m c u b a = omega arith

  -- the first n members agree
  abbrev AgreeBelow : List Member → List Member → ℕ → Type 0
  AgreeBelow xs ys n = (k : ℕ) (x y : Member) → k < n → slice_get xs k ≡ Some x → slice_get ys k ≡ Some y → x.class ≡ y.class

  back : (xs ys : List Member) (n : ℕ) → AgreeBelow xs ys n → AgreeBelow ys xs n
  back xs ys n h k y x l f e = sym (h k x y l e f)

  -- a member of an old class has the same class in the other division
  old_class : (xs ys : List Member) (count other : ℕ) → AreClasses g shape t places count xs → AreClasses g shape t places other ys → (n : ℕ) (x y : Member) → AgreeBelow xs ys n → slice_get xs n ≡ Some x → slice_get ys n ≡ Some y → x.class ≤ greatest_class (take n xs) → x.class ≡ y.class
  old_class xs ys count other p q n x y below e f high =
      let inside : n < length xs = slice_get_within xs n x e in
      let found = covered xs count p n x.class (omega arith) (p.numbered n x e).0 high in
      let k : ℕ = found.0 in
      let less : k < n = found.1 in
      let from : (by : Iso) × (slice_get places k ≡ Some by) = some_at places k (let l = p.one_each in omega arith) in
      let to : (by : Iso) × (slice_get places n ≡ Some by) = some_at places n (let l = p.one_each in omega arith) in
      let partner : (v : Member) × (slice_get ys k ≡ Some v) = some_at ys k (let l = p.one_each in let m = q.one_each in omega arith) in
      let together = (p.together k n found.2 x from.0 to.0 found.3 e from.1 to.1).0 found.4 in
      let same : partner.0.class ≡ y.class = (q.together k n partner.0 y from.0 to.0 partner.1 f from.1 to.1).1 together in
      sym found.4 ∙ (below k found.2 partner.0 less found.3 partner.1 ∙ same)

  -- the greatest class of the one is at most that of the other
  greatest_below : (xs ys : List Member) (count other : ℕ) → AreClasses g shape t places count xs → AreClasses g shape t places other ys → (n : ℕ) → n ≤ length xs → n ≤ length ys → AgreeBelow xs ys n → greatest_class (take n xs) ≤ greatest_class (take n ys)
  greatest_below xs ys count other p q n long wide below =
      elim (cases_lt 0 (greatest_class (take n xs))) [
        | inr none ↦ omega (arith, none)
        | inl some ↦
            let found = covered xs count p n (greatest_class (take n xs)) long some (itself (greatest_class (take n xs))) in
            let less : found.0 < n = found.1 in
            let partner : (v : Member) × (slice_get ys found.0 ≡ Some v) = some_at ys found.0 (omega arith) in
            let same : found.2.class ≡ partner.0.class = below found.0 found.2 partner.0 less found.3 partner.1 in
            let low : partner.0.class ≤ greatest_class (take n ys) = within_greatest ys n found.0 partner.0 wide less partner.1 in
            subst (λ m. m ≤ greatest_class (take n ys)) (sym same ∙ found.4) low
      ]
    where
      itself : (m : ℕ) → m ≤ m
      itself m = omega arith

  module _ (xs ys : List Member) (count other : ℕ) (p : AreClasses g shape t places count xs) (q : AreClasses g shape t places other ys) where
    agree : (n : ℕ) → AgreeBelow xs ys n
    agree zero k x y l e f = absurd (not-suc-le-zero l)
    agree (suc n) k x y l e f =
        elim (cases_lt k n) [
          | inl low ↦ agree n k x y low e f
          | inr top ↦
              let is : k ≡ n = omega (arith, top, l) in
              here (agree n) x y (ap (slice_get xs) (sym is) ∙ e) (ap (slice_get ys) (sym is) ∙ f)
        ]
      where
        here : AgreeBelow xs ys n → (x y : Member) → slice_get xs n ≡ Some x → slice_get ys n ≡ Some y → x.class ≡ y.class
        here below x y e f =
            elim (cases_lt (greatest_class (take n xs)) x.class) [
              | inr old ↦ old_class xs ys count other p q n x y below e f old
              | inl new ↦ elim (cases_lt (greatest_class (take n ys)) y.class) [
                | inr old ↦ sym (old_class ys xs other count q p n y x (back xs ys n below) f e old)
                | inl also ↦
                    let inside : n < length xs = slice_get_within xs n x e in
                    let within : n < length ys = slice_get_within ys n y f in
                    let one = greatest_below xs ys count other p q n (omega arith) (omega arith) below in
                    let two = greatest_below ys xs other count q p n (omega arith) (omega arith) (back xs ys n below) in
                    equal (greatest_class (take n xs)) (greatest_class (take n ys)) x.class y.class one two new also (p.numbered n x e).1 (q.numbered n y f).1
              ]
            ]
          where
            equal : (a b c d : ℕ) → a ≤ b → b ≤ a → a < c → b < d → c ≤ a + 1 → d ≤ b + 1 → c ≡ d
            equal a b c d h k l m u v = omega arith

    same_class : (n : ℕ) (x y : Member) → slice_get xs n ≡ Some x → slice_get ys n ≡ Some y → x.class ≡ y.class
    same_class n x y e f = agree (suc n) n x y (omega arith) e f

    same_member : (n : ℕ) (x y : Member) → slice_get xs n ≡ Some x → slice_get ys n ≡ Some y → x ≡ y
    same_member n x y e f =
        let first : (r : ℕ) × IsRepresentative xs x.class r = first_of xs x.class n x e refl in
        let r : ℕ = first.0 in
        let here : r < length xs = slice_get_within xs r first.1.0.0 first.1.0.1 in
        let inside : n < length xs = slice_get_within xs n x e in
        let from : (by : Iso) × (slice_get places r ≡ Some by) = some_at places r (let l = p.one_each in omega arith) in
        let to : (by : Iso) × (slice_get places n ≡ Some by) = some_at places n (let l = p.one_each in omega arith) in
        let one : TakesExactly g shape t places from.0 to.0 x.by = p.by_exact n r x from.0 to.0 e first.1 from.1 to.1 in
        let also : IsRepresentative ys y.class r = moved r here first.1 in
        let two : TakesExactly g shape t places from.0 to.0 y.by = q.by_exact n r y from.0 to.0 f also from.1 to.1 in
        let turn : x.by.turn ≡ y.by.turn = both (p.by_least n r x from.0 to.0 y.by e first.1 from.1 to.1 two) (q.by_least n r y from.0 to.0 x.by f also from.1 to.1 one) in
        let same : SameCells (image g x.by (image g from.0 shape)) (image g y.by (image g from.0 shape)) = λ c. ((λ m. (two.same c).1 ((one.same c).0 m)), (λ m. (one.same c).1 ((two.same c).0 m))) in
        let by : x.by ≡ y.by = translations_are_determined g (image g from.0 shape) x.by y.by law (subst (λ m. 0 < m) (sym (map_length (apply g from.0) shape)) some) turn same in
        let class : x.class ≡ y.class = same_class n x y e f in
        λ i. record { class = class i; by = by i }
      where
        both : {a b : ℕ} → a ≤ b → b ≤ a → a ≡ b
        both h k = omega (arith, h, k)

        moved : (r : ℕ) → r < length xs → IsRepresentative xs x.class r → IsRepresentative ys y.class r
        moved r here (first, before) =
            let long : length xs ≡ length ys = p.one_each ∙ sym q.one_each in
            let at : (v : Member) × (slice_get ys r ≡ Some v) = some_at ys r (omega arith) in
            let class : x.class ≡ y.class = same_class n x y e f in (
              (at.0, at.1, sym (same_class r first.0 at.0 first.1 at.1) ∙ (first.2 ∙ class)),
              (λ k v l h same.
                  let less : k < length xs = omega arith in
                  let partner : (u : Member) × (slice_get xs k ≡ Some u) = some_at xs k less in
                  before k partner.0 l partner.1 (same_class k partner.0 v partner.1 h ∙ (same ∙ sym class))),
            )

    pub one_classes : (count ≡ other) × (xs ≡ ys)
    one_classes =
        let members : xs ≡ ys = same_by_elements xs ys (p.one_each ∙ sym q.one_each) same_member in
        (p.count_is ∙ (ap greatest_class members ∙ sym q.count_is), members)

  -- as many members as those of one division are those of another exactly where they are the same
  pub same_classes : (xs ys : List Member) (count other : ℕ) → count ≡ other → AreClasses g shape t places count xs → (xs ≡ ys) ↔ AreClasses g shape t places other ys
  same_classes xs ys count other e p = (
    (λ same. subst (λ (ms : List Member). AreClasses g shape t places other ms) same (subst (λ (n : ℕ). AreClasses g shape t places n xs) e p)),
    (λ q. (one_classes xs ys count other p q).1),
  )
