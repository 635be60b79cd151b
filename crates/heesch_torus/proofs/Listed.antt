-- The triples of the domains, one domain after the other.
use Rattle.std.proofs.Common.{◌≡◌, sym, ap, ◌∙◌, ℕ, ◌+◌, ◌*◌, ◌<◌, ◌≤◌, List, [], ◌∷◌, ◌++◌, true, false, ◌&&◌, ◌==◌, inl, inr, arith, ◌⊎◌, All, Contains, eq-eqb, eqb-true, lt-ltb, ltb-true}
use Rattle.std.specs.Prelude.{IsTrue, nat_lt}
use Rattle.std.proofs.lemmas.Bool.{and_from, and_parts, or_cases, cases_lt, cases_Bool}
use Rattle.std.proofs.lemmas.List.Elements.{All-append, All-nil, All-contains, All-tail, All-weaker, Contains-append_left, Contains-append_right}
use Rattle.std.proofs.Math.Nat.{mul-le-mul_left}
use Rattle.heesch_grid.specs.Geometry.{Geometry, IsGrid}
use Rattle.heesch_grid.specs.Lattice.{Triple, triple_before}
use Rattle.heesch_grid.specs.Listing.{IsRising}
use Rattle.heesch_grid.specs.Pairs.{or-left, or-right}
use Rattle.heesch_grid.proofs.ListFacts.{member_here, member_there, All-from_members}
use Rattle.heesch_lattice.specs.Listed.{AreTriples, IsTripleOfArea}
use Rattle.heesch_cert.specs.TrueEntry.{area_before}
use Rattle.heesch_tiling.proofs.Searching.{exact_quotient}
use Rattle.heesch_tiling.specs.Search.{IsAreaOf, NoAreaOf}
use Rattle.heesch_torus.specs.Domains.{AreUpTo, IsTripleUpTo}

-- ---- the order of triples, by area first
less_area : (t u : Triple) → t.p * t.q < u.p * u.q → area_before t u ≡ true
less_area t u l = or-left (nat_lt (t.p * t.q) (u.p * u.q)) (t.p * t.q == u.p * u.q && triple_before t u) (lt-ltb (t.p * t.q) (u.p * u.q) l)

same_area : (t u : Triple) → t.p * t.q ≡ u.p * u.q → triple_before t u ≡ true → area_before t u ≡ true
same_area t u e b = or-right (nat_lt (t.p * t.q) (u.p * u.q)) (t.p * t.q == u.p * u.q && triple_before t u) (and_from (t.p * t.q == u.p * u.q) (triple_before t u) (eq-eqb (t.p * t.q) (u.p * u.q) e) b)

rising_by_area : (area : ℕ) (ts : List Triple) → All (IsTripleOfArea area) ts → IsRising triple_before ts → IsRising area_before ts
rising_by_area area [] a r = tt
rising_by_area area (t ∷ ts) a r = (
  All-from_members (λ u. IsTrue (area_before t u)) ts (λ u m. same_area t u ((All-contains (IsTripleOfArea area) (t ∷ ts) t a (member_here t ts)).product ∙ sym (All-contains (IsTripleOfArea area) (t ∷ ts) u a (member_there t ts u m)).product) (All-contains (λ v. IsTrue (triple_before t v)) ts u r.0 m)),
  rising_by_area area ts (All-tail (IsTripleOfArea area) t ts a) r.1,
)

append_rising : (xs ys : List Triple) → IsRising area_before xs → IsRising area_before ys → ((t u : Triple) → Contains xs t → Contains ys u → area_before t u ≡ true) → IsRising area_before (xs ++ ys)
append_rising [] ys r s f = s
append_rising (x ∷ xs) ys r s f = (
  All-append (λ t. IsTrue (area_before x t)) xs ys r.0 (All-from_members (λ t. IsTrue (area_before x t)) ys (λ u m. f x u (member_here x xs) m)),
  append_rising xs ys r.1 s (λ t u m k. f t u (member_there x xs t m) k),
)

smaller : (per x y n m most tiles : ℕ) → tiles ≡ most + 1 → per * x ≡ n * m → per * y ≡ tiles * n → m ≤ most → 1 ≤ n → x < y
smaller per x y n m most tiles next first second low some =
    elim (cases_lt x y) [
      | inl l ↦ l
      | inr l ↦
          let k : per * y ≤ per * x = mul-le-mul_left per l in
          let h : n * m ≤ n * most = mul-le-mul_left n low in
          let e : tiles * n ≡ n * most + n = ap (λ z. z * n) next ∙ spread n most in
          absurd (omega (arith, first, second, k, h, e, some))
    ]
  where
    spread : (n most : ℕ) → (most + 1) * n ≡ n * most + n
    spread n most = omega arith

turn_product : (m n : ℕ) → m * n ≡ n * m
turn_product m n = omega arith

-- the order is strict
abbrev Before : Triple → Triple → Type 0
Before t u = (t.p * t.q < u.p * u.q) ⊎ ((t.p * t.q ≡ u.p * u.q) × ((t.p < u.p) ⊎ ((t.p ≡ u.p) × (t.s < u.s))))

before_parts : (t u : Triple) → area_before t u ≡ true → Before t u
before_parts t u h =
    elim (or_cases (nat_lt (t.p * t.q) (u.p * u.q)) (t.p * t.q == u.p * u.q && triple_before t u) h) [
      | inl l ↦ inl (ltb-true (t.p * t.q) (u.p * u.q) l)
      | inr r ↦
          let both = and_parts (t.p * t.q == u.p * u.q) (triple_before t u) r in
          inr (
            eqb-true (t.p * t.q) (u.p * u.q) both.0,
            elim (or_cases (nat_lt t.p u.p) (t.p == u.p && nat_lt t.s u.s) both.1) [
              | inl l ↦ inl (ltb-true t.p u.p l)
              | inr k ↦ let more = and_parts (t.p == u.p) (nat_lt t.s u.s) k in inr (eqb-true t.p u.p more.0, ltb-true t.s u.s more.1)
            ],
          )
    ]

not_both : (a b c d e f : ℕ) → (a < b) ⊎ ((a ≡ b) × ((c < d) ⊎ ((c ≡ d) × (e < f)))) → (b < a) ⊎ ((b ≡ a) × ((d < c) ⊎ ((d ≡ c) × (f < e)))) → ⊥
not_both a b c d e f h k =
    elim h [
      | inl l ↦ elim k [ inl m ↦ omega (arith, l, m) | inr m ↦ let same = m.0 in omega (arith, l, same) ]
      | inr l ↦ let same = l.0 in elim k [
        | inl m ↦ omega (arith, m, same)
        | inr m ↦ elim l.1 [
          | inl p ↦ elim m.1 [ inl q ↦ omega (arith, p, q) | inr q ↦ let also = q.0 in omega (arith, p, also) ]
          | inr p ↦ let equal = p.0 in let less = p.1 in elim m.1 [ inl q ↦ omega (arith, equal, q) | inr q ↦ let more = q.1 in omega (arith, less, more) ]
        ]
      ]
    ]

-- of two triples one comes first at most
pub not_before_both : (t u : Triple) → area_before t u ≡ true → area_before u t ≡ true → ⊥
not_before_both t u h k = not_both (t.p * t.q) (u.p * u.q) t.p u.p t.s u.s (before_parts t u h) (before_parts u t k)

pub area_before-asymmetric : (t u : Triple) → area_before t u ≡ true → area_before u t ≡ false
area_before-asymmetric t u h =
    elim (cases_Bool (area_before u t)) [
      | inl k ↦ absurd (not_before_both t u h k)
      | inr k ↦ k
    ]

pub area_before-irreflexive : (t : Triple) → area_before t t ≡ false
area_before-irreflexive t =
    elim (cases_Bool (area_before t t)) [
      | inl k ↦ absurd (not_before_both t t k k)
      | inr k ↦ k
    ]

-- no triple is of a domain below 2
pub none_yet : (g : Geometry) (n most : ℕ) → most ≤ 1 → AreUpTo g n most []
none_yet g n most few = record { rising = tt; only = All-nil (IsTripleUpTo g n most); every = λ t h. let low = h.1 in let high = h.2 in absurd (omega (arith, low, high, few)) }

-- ---- the triples of one domain more
module _ (g : Geometry) (law : IsGrid g) (n : ℕ) (some : 1 ≤ n) (most tiles : ℕ) (next : tiles ≡ most + 1) (all : List Triple) (listed : AreUpTo g n most all) where
  raised : (t : Triple) → IsTripleUpTo g n most t → IsTripleUpTo g n tiles t
  raised t h = let low = h.2 in (h.0, h.1, omega (arith, low, next), h.3)

  -- no triple has a domain of so many tiles
  pub skipped : NoAreaOf g (tiles * n) → AreUpTo g n tiles all
  skipped none = record {
    rising = listed.rising;
    only = All-weaker (IsTripleUpTo g n most) (IsTripleUpTo g n tiles) raised all listed.only;
    every = λ t h. listed.every t (lowered t h);
  }
    where
      lowered : (t : Triple) → IsTripleUpTo g n tiles t → IsTripleUpTo g n most t
      lowered t h =
          elim (cases_lt h.0 tiles) [
            | inl l ↦ let m : ℕ = h.0 in (m, h.1, omega (arith, l, next), h.3)
            | inr l ↦
                let top = h.2 in
                let e : h.0 ≡ tiles = omega (arith, l, top) in
                absurd (none (t.p * t.q) (h.3.area ∙ (ap (λ m. n * m) e ∙ turn_product n tiles)))
          ]

  module _ (area : ℕ) (is : IsAreaOf g (tiles * n) area) (left : List Triple) (a : AreTriples area left) where
    of_area : (t : Triple) → IsTripleOfArea area t → g.per * (t.p * t.q) ≡ tiles * n
    of_area t h = ap (λ m. g.per * m) h.product ∙ is.is

    -- with those of the domain
    pub begun : 1 ≤ most → AreUpTo g n tiles (all ++ left)
    begun two = record {
      rising = append_rising all left listed.rising (rising_by_area area left a.only a.rising) (λ t u m k. less_area t u (apart t u (All-contains (IsTripleUpTo g n most) all t listed.only m) (All-contains (IsTripleOfArea area) left u a.only k)));
      only = All-append (IsTripleUpTo g n tiles) all left (All-weaker (IsTripleUpTo g n most) (IsTripleUpTo g n tiles) raised all listed.only) (All-weaker (IsTripleOfArea area) (IsTripleUpTo g n tiles) top left a.only);
      every = λ t h. found t h;
    }
      where
        apart : (t u : Triple) → IsTripleUpTo g n most t → IsTripleOfArea area u → t.p * t.q < u.p * u.q
        apart t u h k = smaller g.per (t.p * t.q) (u.p * u.q) n h.0 most tiles next h.3.area (of_area u k) h.2 some

        top : (t : Triple) → IsTripleOfArea area t → IsTripleUpTo g n tiles t
        top t h = (tiles, omega (arith, next, two), omega arith, record { is_triple = h.is_triple; area = of_area t h ∙ turn_product tiles n })

        found : (t : Triple) → IsTripleUpTo g n tiles t → Contains (all ++ left) t
        found t h =
            elim (cases_lt h.0 tiles) [
              | inl l ↦ Contains-append_left all left t (listed.every t (h.0, h.1, omega (arith, l, next), h.3))
              | inr l ↦
                  let up = h.2 in
                  let e : h.0 ≡ tiles = omega (arith, l, up) in
                  Contains-append_right all left t (a.every t (record { is_triple = h.3.is_triple; product = exact_quotient g.per (t.p * t.q) area law.per_range.0 (h.3.area ∙ (ap (λ m. n * m) e ∙ (turn_product n tiles ∙ sym is.is))) }))
            ]
