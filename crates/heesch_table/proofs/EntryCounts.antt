-- Counting entries.
use Rattle.std.proofs.Common.{◌≡◌, inl, inr, ℕ, ◌+◌, ◌<◌, ◌^◌, Bool, true, false, List, [], ◌∷◌, ◌++◌, length, take, drop, get_or, Option, Some, None, refl, sym, ap, subst, ◌∙◌, append_assoc, arith}
use Rattle.std.specs.Prelude.{Contains, Result, Ok, Err, IfOk}
use Rattle.std.specs.List.{AllByRecursion, AllZip}
use Rattle.std.proofs.lemmas.List.{length-append, drop_more, take_more, take-append-drop}
use Rattle.std.proofs.lemmas.List.Elements.{All-contains}
use Rattle.heesch_grid.specs.declared.Cell.{Cell}
use Rattle.heesch_grid.specs.declared.GridName.{GridName}
use Rattle.heesch_grid.specs.Cells.{IsCellListOf}
use Rattle.heesch_grid.specs.Geometry.{Geometry}
use Rattle.heesch_grid.specs.Hole.{IsHole}
use Rattle.heesch_grid.specs.Names.{geometry_of}
use Rattle.heesch_cert.specs.declared.verdict.Verdict.{Verdict}
use Rattle.heesch_shape.specs.Faults.{IsFaultless}
use Rattle.heesch_reader.specs.declared.item.Item.{Item}
use Rattle.heesch_reader.specs.declared.item.Item.TheVariants as items
use Rattle.heesch_table.specs.Counts.{Counts, counts_of}
use Rattle.heesch_table.specs.Holed.{IsHoled}
use Rattle.heesch_table.specs.declared.answers.EntryFault.{EntryFault}
use Rattle.heesch_table.specs.declared.table.Table.{Table}
use Rattle.heesch_table.specs.Entries.{entry_in, entries_of, IsOfGrid, AreShapes, IsCounted}
use Rattle.heesch_table.specs.TableSteps.{grid_in, HasTable, AreWithin, IsHeaded, AreReady, HasFirstFault, CountsOne, CountsAll, CountsEntries, CountsItem, CountsItems, StopsAtFault}
use Rattle.heesch_table.proofs.Standing.{all_back, all_front, all_both, zip_both, zip_length, entries_append}

-- ---- the hole of a set

hole_there : (g : Geometry) (xs ys hole : List Cell) → ((c : Cell) → Contains xs c → Contains ys c) → ((c : Cell) → Contains ys c → Contains xs c) → IsHole g xs hole → IsHole g ys hole
hole_there g xs ys hole to from h = record {
  some = h.some;
  in_grid = h.in_grid;
  outside = λ c k m. h.outside c k (from c m);
  enclosed = λ c d k a. elim (h.enclosed c d k a) [ inl x ↦ inl x | inr y ↦ inr (to d y) ];
}

holed_same : (g : Geometry) (xs cells : List Cell) (b : Bool) → IsCellListOf xs cells → IsHoled g cells b → IsHoled g xs b
holed_same g xs cells true l h = λ free. h (λ hole k. free hole (hole_there g cells xs hole (λ c m. All-contains (Contains xs) cells c l.only m) l.every k))
holed_same g xs cells false l h = λ hole k. h hole (hole_there g xs cells hole l.every (λ c m. All-contains (Contains xs) cells c l.only m) k)

pub counts_one : (g : Geometry) (old new : Counts) (cells shape : List Cell) (verdict : Verdict) → IsFaultless g cells → IsCellListOf cells shape → new.shapes ≡ old.shapes + 1
    → ((found : List (Bool × Verdict)) → old ≡ counts_of found → (holed : Bool) × IsHoled g shape holed × (new ≡ counts_of (found ++ (holed, verdict) ∷ []))) → CountsOne g old new cells verdict
counts_one g old new cells shape verdict f l n h = record {
  shape = f;
  one_more = n;
  counts = λ counted e. let r = h counted e in (r.0, holed_same g cells shape r.0 l r.1, r.2);
}

-- ---- items

pub counts_both : (g : Geometry) (a b c : Counts) (xs ys : List Item) → CountsAll g a b xs → CountsAll g b c ys → CountsAll g a c (xs ++ ys)
counts_both g a b c xs ys h k =
    let both = entries_append xs ys in
    record {
      shapes = subst (λ (x : List (List Cell × Verdict)). AreShapes g x) (sym both) (all_both (λ (e : List Cell × Verdict). IsFaultless g e.0) (entries_of xs) (entries_of ys) h.shapes k.shapes);
      as_many = omega (arith, h.as_many, k.as_many, ap length both, length-append (entries_of xs) (entries_of ys));
      counts = λ counted e.
          let r = h.counts counted e in
          let s = k.counts (counted ++ r.0) r.2 in (
            r.0 ++ s.0,
            subst (λ (x : List (List Cell × Verdict)). AllZip (IsCounted g) x (r.0 ++ s.0)) (sym both) (zip_both (IsCounted g) (entries_of xs) (entries_of ys) r.0 s.0 r.1 s.1),
            s.2 ∙ ap counts_of (append_assoc counted r.0 s.0),
          );
    }

-- an item at its place
pub split_at : (xs : List Item) (i : ℕ) (x : Item) → i < length xs → x ≡ get_or xs i x → xs ≡ take i xs ++ x ∷ drop (i + 1) xs
split_at xs i x lt e = sym (take-append-drop i xs) ∙ ap (λ (r : List Item). take i xs ++ r) (drop_more xs i x lt ∙ ap (λ (y : Item). y ∷ drop (i + 1) xs) (sym e))

pub take_one : (xs : List Item) (i : ℕ) (x : Item) → i < length xs → x ≡ get_or xs i x → take (i + 1) xs ≡ take i xs ++ x ∷ []
take_one xs i x lt e = take_more xs i x lt ∙ ap (λ (y : Item). take i xs ++ y ∷ []) (sym e)

entries_split : (xs : List Item) (i : ℕ) (x : Item) → i < length xs → x ≡ get_or xs i x → entries_of xs ≡ entries_of (take i xs) ++ (entry_in x ++ entries_of (drop (i + 1) xs))
entries_split xs i x lt e = ap entries_of (split_at xs i x lt e) ∙ entries_append (take i xs) (x ∷ drop (i + 1) xs)

pub within_at : (xs : List Item) (i : ℕ) (x : Item) → i < length xs → x ≡ get_or xs i x → AllByRecursion AreWithin (entries_of xs) → AllByRecursion AreWithin (entry_in x)
within_at xs i x lt e h =
    let rest = entry_in x ++ entries_of (drop (i + 1) xs) in
    all_front AreWithin (entry_in x) (entries_of (drop (i + 1) xs)) (all_back AreWithin (entries_of (take i xs)) rest (subst (λ (y : List (List Cell × Verdict)). AllByRecursion AreWithin y) (entries_split xs i x lt e) h))

pub few_at : (g : Geometry) (a b : Counts) (xs : List Item) (i : ℕ) (x : Item) → i < length xs → x ≡ get_or xs i x → CountsAll g a b (take i xs) → a.shapes + length (entries_of xs) < 2 ^ 32 → b.shapes + length (entry_in x) < 2 ^ 32
few_at g a b xs i x lt e h few =
    omega (arith, few, h.as_many, ap length (entries_split xs i x lt e), length-append (entries_of (take i xs)) (entry_in x ++ entries_of (drop (i + 1) xs)), length-append (entry_in x) (entries_of (drop (i + 1) xs)))

pub counts_on : (g : Geometry) (a b c : Counts) (xs : List Item) (i : ℕ) (x : Item) → i < length xs → x ≡ get_or xs i x → CountsAll g a b (take i xs) → CountsAll g b c (x ∷ []) → CountsAll g a c (take (i + 1) xs)
counts_on g a b c xs i x lt e h k = subst (λ (y : List Item). CountsAll g a c y) (sym (take_one xs i x lt e)) (counts_both g a b c (take i xs) (x ∷ []) h k)

pub stops_on : (g : Geometry) (a b : Counts) (xs : List Item) (i : ℕ) (x : Item) (told : EntryFault) (new : Counts) → i < length xs → x ≡ get_or xs i x → CountsAll g a b (take i xs) → CountsItem g b new x (Some told) → HasFirstFault g xs told.line told.number
stops_on g a b xs i x told new lt e h k = record {
  before = take i xs;
  item = x;
  behind = drop (i + 1) xs;
  split = split_at xs i x lt e;
  shapes = h.shapes;
  cells = k.0;
  entry = k.1;
  fault = k.2.0;
  is_fault = k.2.1;
  number_is = k.2.2;
}

-- ---- the grid

of_grid : (all : List Item) (grid : GridName) → grid_in all ≡ Some grid → IsOfGrid grid all
of_grid [] grid e = absurd cc
of_grid (items.Header header ∷ all) grid e = cc
of_grid (items.Entry line entry ∷ all) grid e = absurd cc
of_grid (items.Brief line cells verdict ∷ all) grid e = absurd cc
of_grid (items.End count ∷ all) grid e = absurd cc

-- the entries so far, under the grid of all items
record Under (grid : GridName) (found : List Item) (t : Table) : Type 0 where
  shapes : AreShapes (geometry_of grid) (entries_of found)
  counted : List (Bool × Verdict)
  counts : AllZip (IsCounted (geometry_of grid)) (entries_of found) counted
  tally_is : t.tally ≡ counts_of counted

no_counted : (g : Geometry) (counted : List (Bool × Verdict)) → AllZip (IsCounted g) [] counted → counted ≡ []
no_counted g [] h = refl
no_counted g (c ∷ counted) h = absurd h

under : (grid : GridName) (found more : List Item) (t : Table) → HasTable found t → IsOfGrid grid (found ++ more) → Under grid found t
under grid [] more t h o = record { shapes = tt; counted = []; counts = tt; tally_is = h.tally_is ∙ ap counts_of (no_counted (geometry_of h.grid) h.counted h.counts) }
under grid (items.Header header ∷ found) more t h o =
    let same : h.grid ≡ grid = sym h.of_grid ∙ o in
    record {
      shapes = subst (λ (x : GridName). AreShapes (geometry_of x) (entries_of (items.Header header ∷ found))) same h.shapes;
      counted = h.counted;
      counts = subst (λ (x : GridName). AllZip (IsCounted (geometry_of x)) (entries_of (items.Header header ∷ found)) h.counted) same h.counts;
      tally_is = h.tally_is;
    }
under grid (items.Entry line entry ∷ found) more t h o = absurd o
under grid (items.Brief line cells verdict ∷ found) more t h o = absurd o
under grid (items.End count ∷ found) more t h o = absurd o

pub table_more : (grid : GridName) (found more : List Item) (old new : Table) → HasTable found old → grid_in (found ++ more) ≡ Some grid → new.grid ≡ grid_in (found ++ more) → CountsAll (geometry_of grid) old.tally new.tally more → HasTable (found ++ more) new
table_more grid found more old new h e n k =
    let o = of_grid (found ++ more) grid e in
    let u = under grid found more old h o in
    let g = geometry_of grid in
    let both = entries_append found more in
    let r = k.counts u.counted u.tally_is in
    record {
      grid = grid;
      of_grid = o;
      grid_is = n;
      shapes = subst (λ (x : List (List Cell × Verdict)). AreShapes g x) (sym both) (all_both (λ (e : List Cell × Verdict). IsFaultless g e.0) (entries_of found) (entries_of more) u.shapes k.shapes);
      counted = u.counted ++ r.0;
      counts = subst (λ (x : List (List Cell × Verdict)). AllZip (IsCounted g) x (u.counted ++ r.0)) (sym both) (zip_both (IsCounted g) (entries_of found) (entries_of more) u.counted r.0 u.counts r.1);
      tally_is = r.2;
    }

pub table_stops : (grid : GridName) (found more : List Item) (old : Table) (line number : ℕ) → HasTable found old → grid_in (found ++ more) ≡ Some grid → HasFirstFault (geometry_of grid) more line number → StopsAtFault found more line number
table_stops grid found more old line number h e f =
    let o = of_grid (found ++ more) grid e in
    record { grid = grid; of_grid = o; shapes = (under grid found more old h o).shapes; first = f }

pub few_more : (found more : List Item) (t : Table) → HasTable found t → AreReady found more → t.tally.shapes + length (entries_of more) < 2 ^ 32
few_more found more t h r =
    let n : t.tally.shapes ≡ length h.counted = ap (λ (x : Counts). x.shapes) h.tally_is in
    omega (arith, n, r.few, zip_length (IsCounted (geometry_of h.grid)) (entries_of found) h.counted h.counts, ap length (entries_append found more), length-append (entries_of found) (entries_of more))

-- ---- the answers

-- what the entries behind a header of this grid tell
pub counted_items : (old new : Table) (more : List Item) (grid : GridName) (told : Option EntryFault) → new.grid ≡ Some grid → ((found : List Item) → old.grid ≡ grid_in found → IsHeaded (found ++ more) → new.grid ≡ grid_in (found ++ more))
    → CountsEntries (geometry_of grid) old.tally new.tally more told → CountsItems old new more told
counted_items old new more grid None e n k = λ found h r. let g = n found h.grid_is r.headed in table_more grid found more old new h (sym g ∙ e) g k
counted_items old new more grid (Some told) e n k = λ found h r. table_stops grid found more old told.line told.number h (sym (n found h.grid_is r.headed) ∙ e) k

pub if_ok_more : {A E : Type 0} (r : Result A E) (P Q : A → Type 0) → ((x : A) → P x → Q x) → IfOk r P → IfOk r Q
if_ok_more (Ok x) P Q f h = f x h
if_ok_more (Err e) P Q f h = tt
