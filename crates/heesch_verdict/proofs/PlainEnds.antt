-- Plain tilings that the limit on domains admits, as tilings.
use Rattle.std.proofs.Common.{◌≡◌, ◌<◌, ◌≤◌, refl, sym, subst, ℕ, ℤ, pos, ◌≤ℤ◌, ◌<ℤ◌, List, [], ◌∷◌, length, arith, All}
use Rattle.std.specs.Prelude.{Some, None}
use Rattle.std.proofs.lemmas.Int.{ints}
use Rattle.std.proofs.lemmas.List.Elements.{All-cons, All-nil}
use Rattle.heesch_grid.specs.declared.Cell.{Cell}
use Rattle.heesch_grid.specs.declared.isometries.Iso.{Iso}
use Rattle.heesch_grid.specs.Geometry.{Geometry, IsGrid}
use Rattle.heesch_grid.specs.Lattice.{Triple}
use Rattle.heesch_grid.specs.Tiling.{Translation as PlainTranslation, HalfTurn as PlainHalfTurn, IsPlain, no_move, half_turned}
use Rattle.heesch_cert.specs.declared.limits.Limits.{Limits}
use Rattle.heesch_cert.specs.declared.verdict.Kind.TheVariants.{Translation, HalfTurn}
use Rattle.heesch_cert.specs.Limits.{AreLimits}
use Rattle.heesch_cert.specs.Reduced.{IsReducedPlace}
use Rattle.heesch_cert.specs.TrueEntry.{HasNoPlain}
use Rattle.heesch_verdict.specs.Shapes.{IsCanonicalShape}
use Rattle.heesch_verdict.specs.Tilings.{IsTiled}
use Rattle.heesch_verdict.proofs.Nearby.{sides_of, still_reduced, half_turn_reduced, places_in_range}

module _ (g : Geometry) (law : IsGrid g) (limits : Limits) (ranges : AreLimits limits) (shape : List Cell) (s : IsCanonicalShape g shape) where
  pub by_translation : (t : Triple) (places : List Iso) → places ≡ no_move ∷ [] → IsPlain g shape (Some (PlainTranslation t)) → IsTiled g limits shape (record { kind = Translation; tiling = record { triple = t; places = places } })
  by_translation t places is p =
      let h = p.holds in
      let reduced : All (IsReducedPlace g t) (no_move ∷ []) = All-cons (IsReducedPlace g t) no_move [] (still_reduced g law t h.of_domain.is_triple) (All-nil (IsReducedPlace g t)) in
      subst (λ (ps : List Iso). IsTiled g limits shape (record { kind = Translation; tiling = record { triple = t; places = ps } })) (sym is)
      (record {
        is_cover = record {
          cover = h.cover;
          of_domain = h.of_domain;
          near = places_in_range g law (length shape) 1 s.is_shape.few (omega arith) t h.of_domain (no_move ∷ []) reduced;
          reduced = reduced;
        };
        few = ranges.domain_range.0;
        of_kind = (p, refl);
        earliest = tt;
      })

  pub by_half_turn : (t : Triple) (da db : ℤ) (places : List Iso) → places ≡ no_move ∷ half_turned g da db ∷ [] → 2 ≤ limits.domain → IsPlain g shape (Some (PlainHalfTurn t da db)) → IsTiled g limits shape (record { kind = HalfTurn; tiling = record { triple = t; places = places } })
  by_half_turn t da db places is admitted p =
      let h = p.1.holds in
      let turned : IsReducedPlace g t (half_turned g da db) = half_turn_reduced g law t da db h.da_from h.da_below h.db_from h.db_below in
      let reduced : All (IsReducedPlace g t) (no_move ∷ half_turned g da db ∷ []) = All-cons (IsReducedPlace g t) no_move (half_turned g da db ∷ []) (still_reduced g law t h.of_domain.is_triple) (All-cons (IsReducedPlace g t) (half_turned g da db) [] turned (All-nil (IsReducedPlace g t))) in
      subst (λ (ps : List Iso). IsTiled g limits shape (record { kind = HalfTurn; tiling = record { triple = t; places = ps } })) (sym is)
      (record {
        is_cover = record {
          cover = h.cover;
          of_domain = h.of_domain;
          near = places_in_range g law (length shape) 2 s.is_shape.few (omega arith) t h.of_domain (no_move ∷ half_turned g da db ∷ []) reduced;
          reduced = reduced;
        };
        few = admitted;
        of_kind = ((da, db), (p, admitted, refl));
        earliest = tt;
      })

  -- the translation of the half-turn is short
  pub half_turn_small : (t : Triple) (da db : ℤ) → IsPlain g shape (Some (PlainHalfTurn t da db)) → (pos 0 ≤ℤ da) × (da <ℤ pos 384) × (pos 0 ≤ℤ db) × (db <ℤ pos 384)
  half_turn_small t da db p =
      let h = p.1.holds in
      let small = sides_of g law (length shape) 2 s.is_shape.few (omega arith) t h.of_domain in
      (h.da_from, below_more da t.p small.0 h.da_below, h.db_from, below_more db t.q small.1 h.db_below)
    where
      below_more : (z : ℤ) (p : ℕ) → p ≤ 384 → z <ℤ pos p → z <ℤ pos 384
      below_more z p few below = omega (arith, ints)

-- no answer, and one by half-turns that isn't admitted
pub none_plain : (g : Geometry) (limits : Limits) (shape : List Cell) → IsPlain g shape None → HasNoPlain g limits shape
none_plain g limits shape n (PlainTranslation t) p a = n.0 t p.holds
none_plain g limits shape n (PlainHalfTurn t da db) p a = n.1 (t, da, db) p.1.holds

pub none_admitted : (g : Geometry) (limits : Limits) (shape : List Cell) (t : Triple) (da db : ℤ) → IsPlain g shape (Some (PlainHalfTurn t da db)) → limits.domain < 2 → HasNoPlain g limits shape
none_admitted g limits shape t da db n below (PlainTranslation u) p a = n.0 u p.holds
none_admitted g limits shape t da db n below (PlainHalfTurn u ea eb) p a = let two : 2 ≤ limits.domain = a in omega (arith, two, below)
