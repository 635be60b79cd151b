-- The lines of a search: its layers, the proofs of its ends, and its triples.
use Rattle.std.proofs.Common.{◌≡◌, ◌≢◌, ℕ, ◌+◌, ◌≤◌, ◌⊎◌, inl, inr, List, [], ◌∷◌, map, length, Option, Some, None, sym, subst, arith}
use Rattle.std.specs.Prelude.{⊤}
use Rattle.std.specs.List.{AllByRecursion, flat_map}
use Rattle.std.proofs.lemmas.List.Elements.{recursion_from_All}
use Rattle.heesch_grid.specs.declared.Cell.{Cell}
use Rattle.heesch_grid.specs.declared.isometries.Iso.{Iso}
use Rattle.heesch_grid.specs.Geometry.{Geometry, IsGrid}
use Rattle.heesch_grid.specs.Lattice.{Triple}
use Rattle.heesch_grid.specs.Polyform.{IsFreePolyform}
use Rattle.heesch_lattice.specs.Reduction.{IsSmallTriple}
use Rattle.heesch_cert.specs.declared.limits.Limits.{Limits}
use Rattle.heesch_cert.specs.declared.verdict.Phase.TheVariants as phases
use Rattle.heesch_cert.specs.declared.verdict.Verdict.{Verdict}
use Rattle.heesch_cert.specs.declared.verdict.Verdict.TheVariants as verdicts
use Rattle.heesch_cert.specs.declared.entry.Layers.{Layers}
use Rattle.heesch_cert.specs.declared.entry.Wall.{Wall}
use Rattle.heesch_cert.specs.declared.entry.Wall.TheVariants as walls
use Rattle.heesch_cert.specs.declared.entry.Bare.{Bare}
use Rattle.heesch_cert.specs.declared.entry.Bare.TheVariants as bares
use Rattle.heesch_cert.specs.declared.entry.TripleProof.{TripleProof}
use Rattle.heesch_cert.specs.Limits.{AreLimits}
use Rattle.heesch_cert.specs.Proofs.{SettlesTriple}
use Rattle.heesch_cert.specs.TrueEntry.{IsUndecided, IsBareRefuted, IsBelow, FitsVerdict, first_number, WallShows, OpenShows, BareShows, IsSearchedTriple, TriplesShow}
use Rattle.heesch_written.specs.Near.{IsNearPlace, IsNearLayer, CoronasAreNear, HolesAreNear}
use Rattle.heesch_text.specs.Catalogue.{proof_lines, layer_lines, wall_lines, bare_lines, wider_lines, triple_lines}
use Rattle.heesch_line.specs.Forms.{IsVerdict, IsPlace}
use Rattle.heesch_written.proofs.Lists.{all_append, all_weaker, all_of_map}
use Rattle.heesch_written.proofs.Proven.{IsLineIf, refuted, spent, refuted_without, spent_without, settled}
use Rattle.heesch_written.proofs.Covers.{small_triple, near_place}

-- ---- what a verdict bounds

-- the layers, where there are any, are at most six
abbrev pub AreFew : Option Layers → Type 0
AreFew None = ⊤
AreFew (Some wider) = length wider.layers ≤ 6

-- the verdict has small numbers, and no more coronas are sought or found than the limits allow
pub record IsBounded (verdict : Verdict) (wall : Wall) (wider : Option Layers) : Type 0 where
  pub numbers : IsVerdict verdict
  pub first : first_number verdict ≤ 6
  pub next : wall ≢ walls.Absent → first_number verdict + 1 ≤ 6
  pub few : AreFew wider

none_few : (wider : Option Layers) → wider ≡ None → AreFew wider
none_few None e = tt
none_few (Some wider) e = absurd cc

below_few : (h m : ℕ) (wider : Option Layers) → m ≤ 6 → IsBelow h m wider → AreFew wider
below_few h m None l b = tt
below_few h m (Some wider) l b = let e = b.1 in omega arith

pub bounded : (limits : Limits) → AreLimits limits → (wall : Wall) (bare : Bare) (wider : Option Layers) (verdict : Verdict) → FitsVerdict limits wall bare wider verdict → IsBounded verdict wall wider
bounded limits are wall bare wider (verdicts.Tiles kind domain classes) f = absurd f
bounded limits are wall bare wider (verdicts.Levels h) f =
    let l = are.levels_range.1 in let e = f.0 in
    record { numbers = omega arith; first = omega arith; next = λ n. absurd (n f.1); few = none_few wider f.3 }
bounded limits are wall bare wider (verdicts.Turns h phases.Free at) f =
    let l = are.levels_range.1 in let e = f.0 in let k = f.1 in
    record { numbers = (omega arith, omega arith); first = omega arith; next = λ n. omega arith; few = none_few wider f.4 }
bounded limits are wall bare wider (verdicts.Size h phases.Free at) f =
    let l = are.levels_range.1 in let e = f.0 in let k = f.1 in
    record { numbers = (omega arith, omega arith); first = omega arith; next = λ n. omega arith; few = none_few wider f.4 }
bounded limits are wall bare wider (verdicts.Heesch h m) f =
    let l = are.levels_range.1 in let e = f.0 in let k = f.1 in
    record { numbers = (omega arith, omega arith); first = omega arith; next = λ n. omega arith; few = by_end f.3 }
  where
    by_end : ((m ≡ h + 1) × (bare ≡ bares.Same) × (wider ≡ None)) ⊎ (IsBareRefuted bare × IsBelow h m wider) → AreFew wider
    by_end (inl x) = none_few wider x.2
    by_end (inr x) = below_few h m wider (let l = are.levels_range.1 in let k = f.1 in omega arith) x.1
bounded limits are wall bare wider (verdicts.Turns h phases.Bare at) f =
    let l = are.levels_range.1 in let e = f.0 in let k = f.1 in
    record { numbers = (omega arith, omega arith); first = omega arith; next = λ n. omega arith; few = below_few h at wider (omega arith) f.4 }
bounded limits are wall bare wider (verdicts.Size h phases.Bare at) f =
    let l = are.levels_range.1 in let e = f.0 in let k = f.1 in
    record { numbers = (omega arith, omega arith); first = omega arith; next = λ n. omega arith; few = below_few h at wider (omega arith) f.4 }
bounded limits are wall bare wider (verdicts.Holes h) f =
    let l = are.levels_range.1 in let e = f.0 in
    record { numbers = omega arith; first = omega arith; next = λ n. omega arith; few = by_layers f.3 }
  where
    by_layers : ((layers : Layers) × (wider ≡ Some layers) × (length layers.layers ≡ limits.levels)) → AreFew wider
    by_layers x = subst AreFew (sym x.1) (let l = are.levels_range.1 in let e = x.2 in omega arith)

-- ---- layers

pub layers_hold : (g : Geometry) → IsGrid g → (ls : List (List Iso)) → AllByRecursion (IsNearLayer g) ls → AllByRecursion IsLineIf (layer_lines ls)
layers_hold g law [] h = tt
layers_hold g law (l ∷ ls) h = (λ n. record { some = h.0.some; each = all_weaker (IsNearPlace g) IsPlace (near_place g law) l h.0.near }, layers_hold g law ls h.1)

-- ---- triples

written_triples : (g : Geometry) (shape : List Cell) (turns : ℕ) (ts : List TripleProof) → AllByRecursion (λ (x : TripleProof). IsSmallTriple x.triple) ts → AllByRecursion (λ (x : TripleProof). SettlesTriple g shape turns x.triple x.proof) ts → AllByRecursion IsLineIf (flat_map triple_lines ts)
written_triples g shape turns [] h k = tt
written_triples g shape turns (t ∷ ts) h k =
    (λ n. h.0, all_append IsLineIf (proof_lines t.proof) (flat_map triple_lines ts) (settled g shape turns t.triple t.proof k.0) (written_triples g shape turns ts h.1 k.1))

decided : (verdict : Verdict) → IsUndecided verdict ⊎ (¬ IsUndecided verdict)
decided (verdicts.Tiles kind domain classes) = inr (λ x. x)
decided (verdicts.Heesch h m) = inr (λ x. x)
decided (verdicts.Levels h) = inl tt
decided (verdicts.Holes h) = inl tt
decided (verdicts.Turns h phase at) = inl tt
decided (verdicts.Size h phase at) = inl tt

module _ (g : Geometry) (law : IsGrid g) (limits : Limits) (are : AreLimits limits) (shape : List Cell) (cells_few : length shape ≤ 32) where
  searched_small : (t : Triple) → IsSearchedTriple g limits (length shape) t → IsSmallTriple t
  searched_small t s = small_triple g law t (length shape) s.0 s.3.is_triple s.3.area cells_few (let l = s.2 in let d = are.domain_range.1 in omega arith)

  pub triples_hold : (verdict : Verdict) (ts : List TripleProof) → TriplesShow g limits shape verdict ts → AllByRecursion IsLineIf (flat_map triple_lines ts)
  triples_hold verdict ts s = by_kind (decided verdict)
    where
      by_kind : IsUndecided verdict ⊎ (¬ IsUndecided verdict) → AllByRecursion IsLineIf (flat_map triple_lines ts)
      by_kind (inl u) =
          let all : AllByRecursion (IsSearchedTriple g limits (length shape)) (map (λ (x : TripleProof). x.triple) ts) = recursion_from_All (IsSearchedTriple g limits (length shape)) _ (s.all_searched u).only in
          let small : AllByRecursion IsSmallTriple (map (λ (x : TripleProof). x.triple) ts) = all_weaker (IsSearchedTriple g limits (length shape)) IsSmallTriple searched_small _ all in
          written_triples g shape limits.turns ts (all_of_map IsSmallTriple (λ (x : TripleProof). x.triple) ts small) (recursion_from_All (λ (x : TripleProof). SettlesTriple g shape limits.turns x.triple x.proof) ts s.settled)
      by_kind (inr n) = subst (λ (x : List TripleProof). AllByRecursion IsLineIf (flat_map triple_lines x)) (sym (s.none_else n)) tt

-- ---- the ends of the searches

pub bare_holds : (g : Geometry) (limits : Limits) (shape : List Cell) (m level found last : ℕ) (bare : Bare) → BareShows g limits shape m bare → AllByRecursion IsLineIf (bare_lines level found last bare)
bare_holds g limits shape m level found last bares.Absent s = tt
bare_holds g limits shape m level found last bares.Same s = (λ n. n, tt)
bare_holds g limits shape m level found last (bares.Refuted proof) s = (λ n. n, refuted_without limits.version g shape m limits.size proof s.0 s.1)
bare_holds g limits shape m level found last (bares.Spent proof) s = (λ n. n, spent_without limits.version g shape m limits.turns limits.size proof s.0 s.1)
bare_holds g limits shape m level found last bares.Size s = (λ n. n, tt)
bare_holds g limits shape m level found last bares.Open s = (λ n. n, tt)

module _ (g : Geometry) (law : IsGrid g) (n : ℕ) (shape : List Cell) (low : 1 ≤ n) (high : n ≤ 32) (free : IsFreePolyform g n shape) where
  pub wall_holds : HolesAreNear → (limits : Limits) (j : ℕ) → 1 ≤ j → (level : ℕ) (wall : Wall) → (wall ≢ walls.Absent → j ≤ 6) → WallShows g limits shape j wall → AllByRecursion IsLineIf (wall_lines level wall)
  wall_holds near limits j j_low level walls.Absent j_high s = tt
  wall_holds near limits j j_low level (walls.Refuted proof) j_high s = (λ n. n, refuted near limits.version g law n shape low high free j j_low (j_high (λ e. cc)) limits.size proof s)
  wall_holds near limits j j_low level (walls.Spent proof) j_high s = (λ n. n, spent near limits.version g law n shape low high free j j_low (j_high (λ e. cc)) limits.turns limits.size proof s)
  wall_holds near limits j j_low level walls.Size j_high s = (λ n. n, tt)

  pub wider_holds : CoronasAreNear → (wider : Option Layers) → AreFew wider → OpenShows g shape wider → AllByRecursion IsLineIf (wider_lines wider)
  wider_holds near None few o = tt
  wider_holds near (Some wider) few o = (λ n. n, layers_hold g law wider.layers (near g law n shape wider.layers o.0 low high free few o.1 o.2))
