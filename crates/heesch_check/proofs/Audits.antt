-- The entries that stand first among the items of a round, and what their audits say.
use Rattle.std.proofs.Common.{IfOk, Result, Ok, Err, ◌≡◌, ◌↔◌, ℕ, suc, ◌+◌, ◌-◌, ◌<◌, ◌≤◌, Bool, true, false, not, IsTrue, List, [], ◌∷◌, ◌++◌, length, get_or, take, drop, Option, Some, None, refl, sym, ap, subst, ◌∙◌, arith}
use Rattle.std.specs.List.{AllByRecursion, position_or_len}
use Rattle.std.proofs.lemmas.Bool.{false≢true}
use Rattle.std.proofs.lemmas.List.{take_more, take_all, take-append-drop, length-take-le, length-drop}
use Rattle.std.proofs.lemmas.List.Sums.{prefix_len-le-length}
use Rattle.heesch_cert.specs.declared.entry.Entry.{Entry}
use Rattle.heesch_cert.specs.declared.header.Header.{Header}
use Rattle.heesch_cert.specs.declared.limits.Limits.{Limits}
use Rattle.heesch_grid.specs.Geometry.{Geometry}
use Rattle.heesch_grid.specs.Names.{geometry_of}
use Rattle.heesch_reader.specs.declared.item.Item.{Item}
use Rattle.heesch_reader.specs.declared.item.Item.TheVariants as items
use Rattle.heesch_check.specs.declared.answers.Checked.{Checked}
use Rattle.heesch_check.specs.declared.answers.Checked.TheVariants as answers
use Rattle.heesch_check.specs.Catalogues.{IsInPlace, IsGoodEntry}
use Rattle.heesch_check.specs.Judging.{IsFit, Judges, AreAllGood, StopsIn, JudgesAll, ArePlaced, AreAudits, AreAuditsBehind}

-- ---- entries in their places

-- entries in their places, and others in their places behind them
pub placed_append : (header : Header) (before : ℕ) (xs ys : List Item) → ArePlaced header before xs → ArePlaced header (before + length xs) ys → ArePlaced header before (xs ++ ys)
placed_append header before [] ys placed behind = subst (λ (n : ℕ). ArePlaced header n ys) (omega arith) behind
placed_append header before (items.Entry at x ∷ xs) ys placed behind =
    (placed.0, placed_append header (before + 1) xs ys placed.1 (subst (λ (n : ℕ). ArePlaced header n ys) (omega arith) behind))
placed_append header before (items.Header other ∷ xs) ys placed behind = absurd placed
placed_append header before (items.Brief at cells verdict ∷ xs) ys placed behind = absurd placed
placed_append header before (items.End count ∷ xs) ys placed behind = absurd placed

-- one more entry is in its place
pub placed_on : (header : Header) (before entries i : ℕ) (found : List Item) (item : Item) (line : ℕ) (e : Entry) → ArePlaced header before (take i found) → entries ≡ before + i → i < length found → item ≡ get_or found i item → item ≡ items.Entry line e
    → IsInPlace (geometry_of header.grid) header.subject entries e.cells → ArePlaced header before (take (i + 1) found)
placed_on header before entries i found item line e placed is lt at kind here =
    let many : length (take i found) ≡ i = length-take-le i found (omega (arith, lt)) in
    let more : take (i + 1) found ≡ take i found ++ items.Entry line e ∷ [] = take_more found i item lt ∙ ap (λ (x : Item). take i found ++ x ∷ []) (sym at ∙ kind) in
    subst (ArePlaced header before) (sym more)
    (placed_append header before (take i found) (items.Entry line e ∷ []) placed (subst (λ (n : ℕ). IsInPlace (geometry_of header.grid) header.subject n e.cells) (omega (arith, is, many)) here, tt))

-- so far the entries are those behind which the first ones stand
pub placed_far : (header : Header) (before entries i : ℕ) (found : List Item) → ArePlaced header before (take i found) → entries ≡ before + i → ArePlaced header before (take (entries - before) found)
placed_far header before entries i found placed is = let n : i ≡ entries - before = omega (arith, is) in subst (λ (k : ℕ). ArePlaced header before (take k found)) n placed

-- ---- items behind others

-- what is judged behind good items is judged behind those before them
pub good_then : (header : Header) (before middle after : ℕ) (front back : List Item) (result : Option Checked) → AreAllGood header before middle front → JudgesAll header middle after back result → JudgesAll header before after (front ++ back) result
good_then header before middle after [] back result good judges = subst (λ (n : ℕ). JudgesAll header n after back result) good judges
good_then header before middle after (item ∷ front) back None good judges = (good.0, good.1, good_then header good.0 middle after front back None good.2 judges)
good_then header before middle after (item ∷ front) back (Some answer) good judges =
    let stop : StopsIn header good.0 after (front ++ back) answer = good_then header good.0 middle after front back (Some answer) good.2 judges in
    record {
      front = item ∷ stop.front;
      item = stop.item;
      back = stop.back;
      middle = stop.middle;
      split = ap (λ (x : List Item). item ∷ x) stop.split;
      good = (good.0, good.1, stop.good);
      judges = stop.judges;
    }

-- ---- audits

take_one : (k : ℕ) (x : Item) (xs : List Item) → take (1 + k) (x ∷ xs) ≡ x ∷ take k xs
take_one k x xs = let one : suc k ≡ 1 + k = omega arith in subst (λ (n : ℕ). take n (x ∷ xs) ≡ x ∷ take k xs) one refl

drop_one : (k : ℕ) (x : Item) (xs : List Item) → drop (1 + k) (x ∷ xs) ≡ drop k xs
drop_one k x xs = let one : suc k ≡ 1 + k = omega arith in subst (λ (n : ℕ). drop n (x ∷ xs) ≡ drop k xs) one refl

-- the audits of the items behind the first
others : (g : Geometry) (limits : Limits) (item : Item) (found : List Item) (holds : Bool) (audits : List Bool) → AreAudits g limits (item ∷ found) (holds ∷ audits) → AreAudits g limits found audits
others g limits item found holds audits a = λ i h at line e is. a (suc i) h at line e is

-- an entry in its place, whose audit says so, is good, and no other is
audit_tells : (header : Header) (before line : ℕ) (e : Entry) (found : List Item) (holds : Bool) (audits : List Bool) → IsInPlace (geometry_of header.grid) header.subject before e.cells → IsFit (items.Entry line e)
    → AreAudits (geometry_of header.grid) header.limits (items.Entry line e ∷ found) (holds ∷ audits) → IsTrue holds ↔ IsGoodEntry header before e
audit_tells header before line e found holds audits place fit a =
    let tells = a 0 holds refl line e refl in (
      λ yes. record { is_true = tells.0 yes; in_place = place; forms = fit.forms },
      λ good. tells.1 good.is_true,
    )

-- the entries of the first audits that all say so are good
pub led : (header : Header) (before : ℕ) (found : List Item) (audits : List Bool) → ArePlaced header before (take (length audits) found) → length audits ≤ length found → AllByRecursion IsFit found
    → AreAudits (geometry_of header.grid) header.limits found audits → AreAllGood header before (before + position_or_len not audits) (take (position_or_len not audits) found)
led header before found [] placed many fit a = omega arith
led header before [] (holds ∷ audits) placed many fit a = absurd (omega (arith, many))
led header before (items.Entry line e ∷ found) (false ∷ audits) placed many fit a = omega arith
led header before (items.Entry line e ∷ found) (true ∷ audits) placed many fit a =
    let rest = led header (before + 1) found audits placed.1 (omega (arith, many)) fit.1 (others (geometry_of header.grid) header.limits (items.Entry line e) found true audits a) in
    let k = position_or_len not audits in
    let far : (before + 1) + k ≡ before + (1 + k) = omega arith in
    let good : Judges header before (before + 1) (items.Entry line e) None = ((audit_tells header before line e found true audits placed.0 fit.0 a).0 refl, refl) in
    subst (AreAllGood header before (before + (1 + k))) (sym (take_one k (items.Entry line e) found)) (before + 1, good, subst (λ (n : ℕ). AreAllGood header (before + 1) n (take k found)) far rest)
led header before (items.Header other ∷ found) (holds ∷ audits) placed many fit a = absurd placed
led header before (items.Brief line cells verdict ∷ found) (holds ∷ audits) placed many fit a = absurd placed
led header before (items.End count ∷ found) (holds ∷ audits) placed many fit a = absurd placed

-- the entry of the first audit that doesn't say so is the first item at fault
pub first_bad : (header : Header) (before : ℕ) (found : List Item) (audits : List Bool) → ArePlaced header before (take (length audits) found) → length audits ≤ length found → AllByRecursion IsFit found
    → AreAudits (geometry_of header.grid) header.limits found audits → position_or_len not audits < length audits
    → JudgesAll header (before + position_or_len not audits) (before + position_or_len not audits) (drop (position_or_len not audits) found) (Some (answers.InvalidEntry ((before + position_or_len not audits) + 1)))
first_bad header before found [] placed many fit a lt = absurd (omega (arith, lt))
first_bad header before [] (holds ∷ audits) placed many fit a lt = absurd (omega (arith, many))
first_bad header before (items.Entry line e ∷ found) (false ∷ audits) placed many fit a lt =
    let here : before ≡ before + 0 = omega arith in
    subst (λ (n : ℕ). JudgesAll header n n (items.Entry line e ∷ found) (Some (answers.InvalidEntry (n + 1)))) here (record {
      front = [];
      item = items.Entry line e;
      back = found;
      middle = before;
      split = refl;
      good = refl;
      judges = (refl, λ good. false≢true ((audit_tells header before line e found false audits placed.0 fit.0 a).1 good));
    })
first_bad header before (items.Entry line e ∷ found) (true ∷ audits) placed many fit a lt =
    let k = position_or_len not audits in
    let rest = first_bad header (before + 1) found audits placed.1 (omega (arith, many)) fit.1 (others (geometry_of header.grid) header.limits (items.Entry line e) found true audits a) (omega (arith, lt)) in
    let far : (before + 1) + k ≡ before + (1 + k) = omega arith in
    subst (λ (xs : List Item). JudgesAll header (before + (1 + k)) (before + (1 + k)) xs (Some (answers.InvalidEntry ((before + (1 + k)) + 1)))) (sym (drop_one k (items.Entry line e) found))
    (subst (λ (n : ℕ). JudgesAll header n n (drop k found) (Some (answers.InvalidEntry (n + 1)))) far rest)
first_bad header before (items.Header other ∷ found) (holds ∷ audits) placed many fit a lt = absurd placed
first_bad header before (items.Brief line cells verdict ∷ found) (holds ∷ audits) placed many fit a lt = absurd placed
first_bad header before (items.End count ∷ found) (holds ∷ audits) placed many fit a lt = absurd placed

-- ---- a round

rest_from : (found : List Item) (k : ℕ) → k ≤ length found → take (length found - k) (drop k found) ≡ drop k found
rest_from found k le = let d : length (drop k found) ≡ length found - k = length-drop k found in take_all (length found - k) (drop k found) (omega (arith, d))

-- an audit that doesn't say so settles the round
pub round_stops : (header : Header) (before good : ℕ) (found : List Item) (audits : List Bool) (answer : Checked) → AreAuditsBehind header before found audits → AllByRecursion IsFit found
    → good ≡ position_or_len not audits → good < length audits → answer ≡ answers.InvalidEntry ((before + good) + 1) → JudgesAll header before (before + good) found (Some answer)
round_stops header before good found audits answer behind fit is lt told =
    let k = position_or_len not audits in
    let g = led header before found audits behind.placed behind.few fit behind.are in
    let b = first_bad header before found audits behind.placed behind.few fit behind.are (subst (λ (x : ℕ). x < length audits) is lt) in
    let all = good_then header before (before + k) (before + k) (take k found) (drop k found) (Some (answers.InvalidEntry ((before + k) + 1))) g b in
    let at : before + good ≡ before + k = ap (λ (x : ℕ). before + x) is in
    subst (λ (x : List Item). JudgesAll header before (before + good) x (Some answer)) (take-append-drop k found)
    (subst (λ (x : Checked). JudgesAll header before (before + good) (take k found ++ drop k found) (Some x)) (sym told)
    (subst (λ (x : ℕ). JudgesAll header before x (take k found ++ drop k found) (Some (answers.InvalidEntry (x + 1)))) (sym at) all))

-- the items behind the entries whose audits say so settle it
pub round_goes_on : (header : Header) (before good after : ℕ) (found : List Item) (audits : List Bool) (result : Option Checked) → AreAuditsBehind header before found audits → AllByRecursion IsFit found
    → good ≡ position_or_len not audits → JudgesAll header (before + good) after (take (length found - good) (drop good found)) result → JudgesAll header before after found result
round_goes_on header before good after found audits result behind fit is judges =
    let k = position_or_len not audits in
    let few : k ≤ length audits = prefix_len-le-length (λ (x : Bool). not (not x)) audits in
    let most = behind.few in
    let within : k ≤ length found = omega (arith, few, most) in
    let back : JudgesAll header (before + k) after (drop k found) result =
    subst (λ (x : List Item). JudgesAll header (before + k) after x result) (rest_from found k within)
    (subst (λ (x : ℕ). JudgesAll header (before + x) after (take (length found - x) (drop x found)) result) is judges) in
    subst (λ (x : List Item). JudgesAll header before after x result) (take-append-drop k found)
    (good_then header before (before + k) after (take k found) (drop k found) result (led header before found audits behind.placed behind.few fit behind.are) back)

-- what both clauses on an answer give
pub if_both : {X E : Type 0} {P Q R : X → Type 0} (r : Result X E) → ((x : X) → P x → Q x → R x) → IfOk r P → IfOk r Q → IfOk r R
if_both (Ok x) both p q = both x p q
if_both (Err e) both p q = tt
