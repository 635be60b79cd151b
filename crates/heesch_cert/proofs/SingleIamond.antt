-- A true entry of searches: the single iamond with the limits of domain, levels, turns and size at 1, undecided by its size.
use Rattle.std.proofs.Common.{◌≡◌, refl, sym, ap, subst, ◌∙◌, ℕ, zero, suc, ◌*◌, ◌<◌, ◌≤◌, ltb-true, List, [], ◌∷◌, map, Bool, true, false, not, ◌||◌, inl, inr, arith, Contains, true≢false}
use Rattle.std.specs.Prelude.{ℤ, pos, negsuc, ◌*ℤ◌, ◌≤ℤ◌, ◌<ℤ◌, nat_abs, nat_lt, int_le, IsTrue}
use Rattle.std.specs.List.{list_all}
use Rattle.std.proofs.lemmas.Int.{ints}
use Rattle.std.proofs.lemmas.List.Elements.{All-contains, All-nil}
use Rattle.std.proofs.lemmas.Bool.{cases_Bool, not-true}
use Rattle.heesch_cnf.specs.declared.literal.Lit.{Lit}
use Rattle.heesch_grid.specs.declared.Cell.{Cell}
use Rattle.heesch_grid.specs.declared.isometries.Iso.{Iso}
use Rattle.heesch_grid.specs.Cells.{cell_before, cells_before}
use Rattle.heesch_grid.specs.Geometry.{IsCell, Touching, apply}
use Rattle.heesch_grid.specs.GridTests.{iamond_laws}
use Rattle.heesch_grid.specs.Lists.{All-by_test, rising_by_test}
use Rattle.heesch_grid.specs.Pairs.{within_abs}
use Rattle.heesch_grid.specs.Vectors.{IsWithin}
use Rattle.heesch_grid.specs.Listing.{IsRising}
use Rattle.heesch_grid.specs.Polyform.{floor_div, IsFreePolyform}
use Rattle.heesch_grid.specs.Placement.{touch}
use Rattle.heesch_grid.specs.Tiling.{Translation, HalfTurn}
use Rattle.heesch_grid.specs.Clauses.{formula_size}
use Rattle.heesch_grid.specs.CoronaFormula.{Variable, variable_before, IsAtLevel, IsVariable, IsUniverse, corona_clauses, IsCoronaFormula}
use Rattle.heesch_grid.proofs.Computed.{window}
use Rattle.heesch_grid.proofs.WindowFacts.{member_map, map_member, member_window}
use Rattle.heesch_grid.proofs.ListFacts.{All-from_members}
use Rattle.heesch_grid.proofs.CanonicalFacts.{Rounds, floor_rounds}
use Rattle.heesch_grid.proofs.SortFacts.{sorted, placed_in}
use Rattle.heesch_grid.proofs.AroundFacts.{cells_around, around_given}
use Rattle.heesch_cert.specs.Literals.{literals}
use Rattle.heesch_cert.specs.declared.entry.TripleProof.{TripleProof}
use Rattle.heesch_cnf.specs.declared.version.Version.TheVariants.{One}
use Rattle.heesch_cert.specs.Limits.{AreLimits}
use Rattle.heesch_cert.specs.Proofs.{IsTooLarge, SettlesTriple}
use Rattle.heesch_cert.specs.TrueEntry.{HasNoPlain, IsSearchedTriple, IsTrueEntry}
use Rattle.heesch_cert.specs.RightVerdict.{HasRightVerdict}
use Rattle.heesch_cert.specs.Examples.{iamond, up, one_up, iamond_limits, iamond_entry}
use Rattle.heesch_cert.proofs.OneCell.{one_tile, one_polyform, one_canonical, touching_of, itself, one_rises}
use Rattle.heesch_cert.proofs.EntryRight.{true_entries_are_right}

-- ---- it is a free polyform

floor_zero : (z : ℤ) → floor_div z 3 ≡ pos 0 → (pos 0 ≤ℤ z) × (z <ℤ pos 3)
floor_zero z e =
    let r : Rounds z 3 (pos 0) = subst (λ q. Rounds z 3 q) e (floor_rounds z 3 (omega arith)) in
    let low : (pos 3 *ℤ pos 0) ≤ℤ z = r.low in
    let high = r.high in
    (omega (arith, ints), omega (arith, ints))

abs_small : (z : ℤ) → pos 0 ≤ℤ z → z <ℤ pos 3 → nat_abs z ≤ 3
abs_small (pos n) l h = omega (arith, ints)
abs_small (negsuc n) l h = absurd (omega (arith, ints))

-- a cell near 0 isn't one with both coordinates at least 0, or isn't before the cell 1,1
abbrev is_late : Cell → Bool
is_late c = not (iamond.is_cell c) || (not (int_le (pos 0) c.a) || (not (int_le (pos 0) c.b) || not (cell_before c up)))

none_before : (c : Cell) → IsCell iamond c → floor_div c.a 3 ≡ pos 0 → floor_div c.b 3 ≡ pos 0 → cell_before c up ≡ false
none_before c k ea eb =
    let a = floor_zero c.a ea in
    let b = floor_zero c.b eb in
    let within : IsWithin 3 c = within_abs 3 c (abs_small c.a a.0 a.1) (abs_small c.b b.0 b.1) in
    let t : is_late c ≡ true = All-contains (λ c. IsTrue (is_late c)) (window 3) c (All-by_test is_late (window 3) refl) (member_window 3 c within) in
    last (iamond.is_cell c) (int_le (pos 0) c.a) (int_le (pos 0) c.b) (cell_before c up) k (from_zero c.a a.0) (from_zero c.b b.0) t
  where
    from_zero : (z : ℤ) → pos 0 ≤ℤ z → int_le (pos 0) z ≡ true
    from_zero z l = elim (cases_Bool (int_le (pos 0) z)) [ inl t ↦ t | inr f ↦ absurd (omega (arith, ints)) ]

    last : (p q r s : Bool) → p ≡ true → q ≡ true → r ≡ true → (not p || (not q || (not r || not s))) ≡ true → s ≡ false
    last true true true s e f g t = not-true s t
    last false q r s e f g t = absurd (true≢false (sym e))
    last true false r s e f g t = absurd (true≢false (sym f))
    last true true false s e f g t = absurd (true≢false (sym g))

pub single_free : IsFreePolyform iamond 1 one_up
single_free = record { cells = one_up; polyform = one_polyform iamond iamond_laws up refl; size = refl; canonical = one_canonical iamond iamond_laws up refl refl refl none_before }

-- ---- the twelve cells that touch it, and its corona formula at level 1

abbrev up_by : ℤ → ℤ → Iso
up_by da db = record { turn = 0; da = da; db = db }

abbrev down_by : ℤ → ℤ → Iso
down_by da db = record { turn = 3; da = da; db = db }

abbrev places : List Iso
places =
    up_by (pos 0) (negsuc 0) ∷ up_by (pos 1) (negsuc 0) ∷ down_by (pos 0) (pos 0) ∷ down_by (pos 1) (pos 0) ∷ down_by (pos 2) (pos 0) ∷ up_by (negsuc 0) (pos 0) ∷
    up_by (pos 1) (pos 0) ∷ down_by (pos 0) (pos 1) ∷ down_by (pos 1) (pos 1) ∷ up_by (negsuc 0) (pos 1) ∷ up_by (pos 0) (pos 1) ∷ down_by (pos 0) (pos 2) ∷ []

abbrev at_place : Iso → Cell
at_place by = apply iamond by up

abbrev variable_at : Iso → Variable
variable_at by = record { level = 1; tile = at_place by ∷ [] }

abbrev variables : List Variable
variables = map variable_at places

variable_is : (by : Iso) → Contains places by → IsVariable iamond one_up 1 (variable_at by)
variable_is by m = record {
  level_from = omega arith;
  level_to = omega arith;
  at_level = (
    record { by = by; is_isometry = ltb-true by.turn 12 (passes (λ (x : Iso). nat_lt x.turn 12) refl); is_list = itself (at_place by ∷ []) (one_rises (at_place by)) },
    passes (λ x. touch iamond one_up (at_place x ∷ [])) refl,
  );
}
  where
    passes : (p : Iso → Bool) → list_all p places ≡ true → p by ≡ true
    passes p t = All-contains (λ x. IsTrue (p x)) places by (All-by_test p places t) m

first_variable : (tile : List Cell) → IsAtLevel iamond one_up 1 tile → Contains variables (record { level = 1; tile = tile })
first_variable tile h =
    let s = one_tile iamond iamond_laws up refl tile h.0 in
    let t : Touching iamond up s.0 = touching_of iamond iamond_laws up refl up s.0 (subst (λ z. touch iamond one_up z ≡ true) s.1 h.1) in
    let m : Contains (map at_place places) s.0 = (iamond_laws.touching_listed up refl).0.every s.0 t in
    let k = map_member at_place places s.0 m in
    subst (λ z. Contains variables (record { level = 1; tile = z })) (ap (λ c. c ∷ []) k.2 ∙ sym s.1) (member_map variable_at places k.0 k.1)

every_variable : (level : ℕ) (tile : List Cell) → 1 ≤ level → level ≤ 1 → IsAtLevel iamond one_up level tile → Contains variables (record { level = level; tile = tile })
every_variable zero tile l u h = absurd h
every_variable (suc zero) tile l u h = first_variable tile h
every_variable (suc (suc n)) tile l u h = absurd (omega arith)

pub single_universe : IsUniverse iamond one_up 1 variables
single_universe = record {
  rising = rising_by_test variable_before variables refl;
  only = All-from_members (IsVariable iamond one_up 1) variables (λ x m. let r = map_member variable_at places x m in subst (IsVariable iamond one_up 1) r.2 (variable_is r.0 r.1));
  every = λ x h. every_variable x.level x.tile h.level_from h.level_to h.at_level;
}

abbrev clauses : List (List Lit)
clauses = corona_clauses literals iamond (cells_around iamond) one_up 1 variables

pub single_formula : IsCoronaFormula literals iamond one_up 1 variables clauses
single_formula = record { is_universe = single_universe; around = cells_around iamond; gives_around = around_given iamond iamond_laws; is = refl }

pub single_size : formula_size clauses ≡ 12
unfolding sorted placed_in
single_size = refl

-- ---- the entry

pub too_large : IsTooLarge One iamond one_up 1 1
too_large = record { vars = variables; count = 12; clauses = clauses; formula = (single_formula, refl); above = subst (λ n. 1 < n) (sym single_size) (omega arith) }

-- a domain of one tile would have half a unit
no_plain : HasNoPlain iamond iamond_limits one_up
no_plain (Translation t) is admitted = odd (t.p * t.q) is.holds.of_domain.area
  where
    odd : (n : ℕ) → 2 * n ≡ 1 → ⊥
    odd n e = omega arith
no_plain (HalfTurn t da db) is admitted = let two : 2 ≤ 1 = admitted in omega arith

pub iamond_entry_true : IsTrueEntry iamond iamond_limits iamond_entry
iamond_entry_true = record {
  shape = (1, omega arith, omega arith, single_free);
  form = (no_plain, (refl, omega arith, refl, refl, refl));
  cover = tt;
  classes = tt;
  free = (refl, ([], record { isometries = tt; rising = All-nil (IsRising cells_before) }, (tt, tt)));
  wall = too_large;
  wider = tt;
  bare = (tt, tt);
  triples = record {
    all_searched = λ u. record { rising = tt; only = All-nil (IsSearchedTriple iamond iamond_limits 1); every = λ t h. let low = h.1 in let high : h.0 ≤ 1 = h.2 in absurd (omega arith) };
    settled = All-nil (λ (x : TripleProof). SettlesTriple iamond one_up 1 x.triple x.proof);
    none_else = λ n. absurd (n tt);
  };
}

ranges : AreLimits iamond_limits
ranges = record { turns_range = (omega arith, omega arith); levels_range = (omega arith, omega arith); domain_range = (omega arith, omega arith); size_range = (omega arith, omega arith) }

pub iamond_entry_right : HasRightVerdict iamond iamond_limits iamond_entry
iamond_entry_right = true_entries_are_right iamond iamond_limits iamond_entry iamond_laws ranges iamond_entry_true
