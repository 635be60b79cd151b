-- Each step of a board keeps its rule.
use Rattle.std.proofs.Common.{◌≡◌, ◌≢◌, ℕ, zero, suc, ◌+◌, ◌-◌, ◌%◌, ◌^◌, ◌<◌, ◌≤◌, Bool, true, false, ◌||◌, List, [], ◌∷◌, ◌++◌, map, length, set, get_or, refl, sym, ap, ◌∙◌, arith, length-set, get_or-set_same}
use Rattle.std.specs.Prelude.{Option, Some, None, nat_lt, if◌then◌else◌}
use mathlib.Core.Option.{some, none, some-injective, some-ne-none}
use mathlib.Core.List.{map-append}
use lib.ListN.{get_elem?}
use lib.Seq.{map-set}
use mathlib.Core.Logic.{dite}
use native.Mathlib.Decide.{dec_le, ℕ_discrete}
use borrow.Author.Tests.{ltb-true, lt-ltb, le-ltb}
use Rattle.atomic_table.specs.Table.{Me, step, keeps, stepped, opening, Allows, Splits, Joins}
use Rattle.atomic_table.proofs.Lists.{set_else, set_again}
use Rattle.heesch_claims.specs.declared.event.Event.TheVariants.{Split, Draw, Join}
use Rattle.heesch_claims.specs.declared.event.Told.TheVariants.{Ticket, End}
use Rattle.heesch_claims.specs.declared.view.View.{View}
use Rattle.heesch_claims.specs.Machine.{Worker, worker, Claims, claims, worker_at, if_live, merged, after, told, told_by_draw, IsLawful, times, ALL_SHARES}
use Rattle.heesch_claims.specs.Views.{view, first_view, spent_view, lesser_view, newcomer_view, joined_view, drawn_view, shown, shown_claims, worker_of, sum_views, stands, EachView, IsSpentOrLive, CountsPast, TableState, word_of, IsBoard, split_at, drawn_at, joined_at, shown_by, MovesBy, DrawsFrom, drawn, looked}
use Rattle.heesch_claims.specs.Board.{EachOnceBelow}
use Rattle.heesch_claims.proofs.Sound.{lawful, reached_first, reached_by, reached_is_sound}
use Rattle.heesch_claims.proofs.Steps.{split_is, join_is, draw_is, took_is, stopped_is}
use Rattle.heesch_claims.proofs.Views.{sum_set, sum_snoc, each_set, each_snoc, each_none, sum_at, set_there, shown_at, shown_live, board_of}

abbrev Agrees : ℕ → View → Type 0
Agrees n v = 0 < v.shares → v.count ≡ n

-- a board begins as the machine does
pub starts : (n : ℕ) → n < 2 ^ 32 → IsBoard n (opening (0 ∷ []) [] (first_view n))
starts n small = board_of n 0 (opening (0 ∷ []) [] (first_view n)) refl refl small
    (each_snoc (Agrees n) [] (first_view n) (each_none (Agrees n)) (λ _. refl))
    (reached_first n)
    (each_snoc IsSpentOrLive [] (first_view n) (each_none IsSpentOrLive) (λ z. absurd (omega arith)))
    (each_snoc CountsPast [] (first_view n) (each_none CountsPast) (omega arith, λ _. refl))
    (omega arith)

-- a seat that gives a share splits its worker
pub split_moves : (n id : ℕ) (v : View) (s : TableState) → IsBoard n s → get_elem? s.views id ≡ some v → v.ended ≡ false → 2 ≤ v.shares → MovesBy n s (Split id) (split_at s id v)
split_moves n id v s r at still two =
    let m : ℕ = get_or s.words 0 0 in
    let some_shares : 0 < v.shares = omega arith in
    let less_shares : 0 < v.shares - 1 = omega arith in
    let lesser : View = lesser_view v in
    let newcomer : View = newcomer_view v in
    let set_views : List View = set s.views id lesser in
    let place : worker_at (map shown s.views) id ≡ Some (worker_of v) = shown_at s.views id v at ∙ shown_live v some_shares in
    let law : IsLawful (shown_claims n m s.views) (Split id) = lawful (shown_claims n m s.views) (Split id) (worker_of v, place, still, two) in
    let shows : map shown (set_views ++ newcomer ∷ []) ≡ set (map shown s.views) id (Some (worker_of lesser)) ++ Some (worker [] 1 false) ∷ [] =
    map-append shown set_views (newcomer ∷ [])
    ∙ ap (λ (l : List (Option Worker)). l ++ Some (worker [] 1 false) ∷ []) (map-set shown s.views id lesser ∙ ap (λ (o : Option Worker). set (map shown s.views) id o) (shown_live lesser less_shares)) in
    let leads : after (shown_claims n m s.views) (Split id) ≡ shown_claims n m (set_views ++ newcomer ∷ []) = split_is (shown_claims n m s.views) id (worker_of v) place ∙ ap (claims n m) (sym shows) in
    let counted = r.points.past.0 id v at in
    let none_past : v.past ≡ 0 = counted.1 still in
    record {
      lawful = law;
      leads = leads;
      keeps_rule = board_of n m (split_at s id v) r.one_word refl r.small
          (each_snoc (Agrees n) set_views newcomer (each_set (Agrees n) s.views id lesser r.same_count (λ h. r.same_count id v at some_shares)) (λ h. r.same_count id v at some_shares))
          (reached_by (shown_claims n m s.views) (shown_claims n m (set_views ++ newcomer ∷ [])) (Split id) law r.reached leads)
          (each_snoc IsSpentOrLive set_views newcomer (each_set IsSpentOrLive s.views id lesser r.points.shares.0 (λ z. absurd (omega arith))) (λ z. absurd (omega arith)))
          (each_snoc CountsPast set_views newcomer (each_set CountsPast s.views id lesser r.points.past.0 (omega arith, λ _. none_past)) (omega arith, λ _. refl))
          (let a : sum_views (λ u. u.past) (set_views ++ newcomer ∷ []) ≡ sum_views (λ u. u.past) set_views + 0 = sum_snoc (λ u. u.past) set_views newcomer in
          let b : sum_views (λ u. u.past) set_views + v.past ≡ sum_views (λ u. u.past) s.views + v.past = sum_set (λ u. u.past) s.views id v lesser at in
          let p = r.points.past.1 in omega arith);
    }

pub gives : (n id : ℕ) (v : View) → v.ended ≡ false → 2 ≤ v.shares → Splits (IsBoard n) id v (lesser_view v) (newcomer_view v)
gives n id v still two s r at = (split_moves n id v s r at still two).keeps_rule

or_past : (a b : Bool) (x y : ℕ) → (a ≡ false → x ≡ 0) → (b ≡ false → y ≡ 0) → (a || b) ≡ false → x + y ≡ 0
or_past true true x y p q e = absurd (let n : ⊥ = cc in n)
or_past true false x y p q e = absurd (let n : ⊥ = cc in n)
or_past false true x y p q e = absurd (let n : ⊥ = cc in n)
or_past false false x y p q e = let a = p refl in let b = q refl in omega arith

-- a seat that takes in another joins their workers
pub join_moves : (n id other : ℕ) (v w : View) (s : TableState) → IsBoard n s → get_elem? s.views id ≡ some v → get_elem? s.views other ≡ some w → id ≢ other → 0 < v.shares → 0 < w.shares → MovesBy n s (Join id other) (joined_at s id v other w)
join_moves n id other v w s r at before apart some_v some_w =
    let m : ℕ = get_or s.words 0 0 in
    let both : View = joined_view v w in
    let set_views : List View = set s.views id both in
    let last_views : List View = set set_views other spent_view in
    let there : get_elem? (set s.views id both) other ≡ some w = set_else s.views id other both (λ e. apart (sym e)) ∙ before in
    let place_v : worker_at (map shown s.views) id ≡ Some (worker_of v) = shown_at s.views id v at ∙ shown_live v some_v in
    let place_w : worker_at (map shown s.views) other ≡ Some (worker_of w) = shown_at s.views other w before ∙ shown_live w some_w in
    let law : IsLawful (shown_claims n m s.views) (Join id other) = lawful (shown_claims n m s.views) (Join id other) ((worker_of v, place_v), (worker_of w, place_w), apart) in
    let shows : map shown last_views ≡ set (set (map shown s.views) id (Some (merged (worker_of v) (worker_of w)))) other None =
    map-set shown set_views other spent_view
    ∙ ap (λ (l : List (Option Worker)). set l other None) (map-set shown s.views id both ∙ ap (λ (o : Option Worker). set (map shown s.views) id o) (shown_live both (omega arith))) in
    let leads : after (shown_claims n m s.views) (Join id other) ≡ shown_claims n m last_views = join_is (shown_claims n m s.views) id other (worker_of v) (worker_of w) place_v place_w ∙ ap (claims n m) (sym shows) in
    let counted_v = r.points.past.0 id v at in
    let counted_w = r.points.past.0 other w before in
    record {
      lawful = law;
      leads = leads;
      keeps_rule = board_of n m (joined_at s id v other w) r.one_word refl r.small
          (each_set (Agrees n) set_views other spent_view (each_set (Agrees n) s.views id both r.same_count (λ h. r.same_count id v at some_v)) (λ h. absurd (omega arith)))
          (reached_by (shown_claims n m s.views) (shown_claims n m last_views) (Join id other) law r.reached leads)
          (each_set IsSpentOrLive set_views other spent_view (each_set IsSpentOrLive s.views id both r.points.shares.0 (λ z. absurd (omega arith))) (λ z. refl))
          (each_set CountsPast set_views other spent_view (each_set CountsPast s.views id both r.points.past.0 (omega (arith, counted_v.0, counted_w.0), or_past v.ended w.ended v.past w.past counted_v.1 counted_w.1)) (omega arith, λ _. refl))
          (let a : sum_views (λ u. u.past) last_views + w.past ≡ sum_views (λ u. u.past) set_views + 0 = sum_set (λ u. u.past) set_views other w spent_view there in
          let b : sum_views (λ u. u.past) set_views + v.past ≡ sum_views (λ u. u.past) s.views + (v.past + w.past) = sum_set (λ u. u.past) s.views id v both at in
          let p = r.points.past.1 in omega arith);
    }

pub takes_in : (n id : ℕ) (v : View) (other : ℕ) (w : View) → 0 < v.shares → 0 < w.shares → Joins (IsBoard n) id v other w (joined_view v w) spent_view
takes_in n id v other w some_v some_w s r at apart there =
    (join_moves n id other v w s r at (sym (set_else s.views id other (joined_view v w) apart) ∙ there) (λ e. apart (sym e)) some_v some_w).keeps_rule

module _ (n : ℕ) (s : TableState) (r : IsBoard n s) (id : ℕ) (v : View) (at : get_elem? s.views id ≡ some v) (live : 0 < v.shares) (still : v.ended ≡ false) where
  abbrev m : ℕ
  m = get_or s.words 0 0

  abbrev c : Claims
  c = shown_claims n m s.views

  place : worker_at (map shown s.views) id ≡ Some (worker_of v)
  place = shown_at s.views id v at ∙ shown_live v live

  law : IsLawful c (Draw id)
  law = lawful c (Draw id) (worker_of v, place)

  abbrev later : Bool → View
  later room = if room then view v.count (v.tickets ++ m ∷ []) v.shares v.ended v.past else view v.count v.tickets v.shares true (v.past + 1)

  abbrev drawn_board : Bool → TableState
  drawn_board room = stepped s 0 ((m + 1) % 2 ^ 64) id [] (later room) keeps

  -- the word has room for one step more
  fits : (m + 1) % 2 ^ 64 ≡ m + 1
  fits = let k = (reached_is_sound c r.reached).1.past in let t = r.small in omega arith

  one_word : length (set s.words 0 ((m + 1) % 2 ^ 64)) ≡ 1
  one_word = length-set s.words 0 ((m + 1) % 2 ^ 64) ∙ r.one_word

  next_word : get_or (set s.words 0 ((m + 1) % 2 ^ 64)) 0 0 ≡ m + 1
  next_word = let w = r.one_word in get_or-set_same s.words 0 ((m + 1) % 2 ^ 64) 0 (omega arith) ∙ fits

  shows : (w : View) → 0 < w.shares → map shown (set s.views id w) ≡ set (map shown s.views) id (Some (worker_of w))
  shows w some_shares = map-set shown s.views id w ∙ ap (λ (o : Option Worker). set (map shown s.views) id o) (shown_live w some_shares)

  leads : (room : Bool) → nat_lt m v.count ≡ room → after c (Draw id) ≡ shown_claims n (m + 1) (set s.views id (later room))
  leads true e = draw_is c id (worker_of v) place ∙ (took_is c id (worker_of v) still (ap (nat_lt m) (sym (r.same_count id v at live)) ∙ e) ∙ ap (claims n (m + 1)) (sym (shows (later true) live)))
  leads false e = draw_is c id (worker_of v) place ∙ (stopped_is c id (worker_of v) still (ap (nat_lt m) (sym (r.same_count id v at live)) ∙ e) ∙ ap (claims n (m + 1)) (sym (shows (later false) live)))

  sum_past : (w : View) → sum_views (λ u. u.past) (set s.views id w) + v.past ≡ sum_views (λ u. u.past) s.views + w.past
  sum_past w = sum_set (λ u. u.past) s.views id v w at

  board_after : (room : Bool) → nat_lt m v.count ≡ room → IsBoard n (drawn_board room)
  board_after true e = board_of n (m + 1) (drawn_board true) one_word next_word r.small
      (each_set (Agrees n) s.views id (later true) r.same_count (r.same_count id v at))
      (reached_by c (shown_claims n (m + 1) (set s.views id (later true))) (Draw id) law r.reached (leads true e))
      (each_set IsSpentOrLive s.views id (later true) r.points.shares.0 (λ z. absurd (omega arith)))
      (each_set CountsPast s.views id (later true) r.points.past.0 (r.points.past.0 id v at))
      (let p = sum_past (later true) in let q = ltb-true m v.count e in let t = r.same_count id v at live in omega arith)
  board_after false e = board_of n (m + 1) (drawn_board false) one_word next_word r.small
      (each_set (Agrees n) s.views id (later false) r.same_count (r.same_count id v at))
      (reached_by c (shown_claims n (m + 1) (set s.views id (later false))) (Draw id) law r.reached (leads false e))
      (each_set IsSpentOrLive s.views id (later false) r.points.shares.0 (λ z. absurd (omega arith)))
      (each_set CountsPast s.views id (later false) r.points.past.0 (let k = (r.points.past.0 id v at).1 still in (omega arith, λ f. absurd (let x : ⊥ = cc in x))))
      (let p = sum_past (later false) in let q = r.points.past.1 in omega arith)

  later_live : (room : Bool) → 0 < (later room).shares
  later_live true = live
  later_live false = live

  draws_from : (room : Bool) → nat_lt m v.count ≡ room → DrawsFrom v.count m (worker_of v) (worker_of (later room))
  draws_from room e = record {
    state = c;
    who = id;
    reached = r.reached;
    count_is = sym (r.same_count id v at live);
    found_is = refl;
    before_is = place;
    later_is = ap (λ (d : Claims). worker_at d.workers id) (leads room e) ∙ (shown_at (set s.views id (later room)) id (later room) (set_there s.views id v (later room) at) ∙ shown_live (later room) (later_live room));
  }

  above : (x : ℕ) → 0 < times x v.tickets → x < m
  above x h = (r.points.below id v at x h).0

  tells : told c (Draw id) ≡ (if nat_lt m n then Ticket m else End)
  tells =
      ap (λ (o : Option Worker). if_live o End (λ u. told_by_draw c u)) place
      ∙ ap (λ (b : Bool). if b then End else if nat_lt m n then Ticket m else End) still

  moves : (room : Bool) → nat_lt m v.count ≡ room → MovesBy n s (Draw id) (drawn_board room)
  moves room e = record { lawful = law; leads = leads room e ∙ ap (λ (k : ℕ). shown_claims n k (set s.views id (later room))) (sym next_word); keeps_rule = board_after room e }

pub draw_moves : (n id : ℕ) (v : View) (s : TableState) → IsBoard n s → get_elem? s.views id ≡ some v → 0 < v.shares → v.ended ≡ false
    → MovesBy n s (Draw id) (drawn_at s id v) × (told (shown_by n s) (Draw id) ≡ (if nat_lt (word_of s) n then Ticket (word_of s) else End))
draw_moves n id v s r at live still = (moves n s r id v at live still (nat_lt (word_of s) v.count) refl, tells n s r id v at live still)

-- a seat that isn't ended draws for its worker
pub claims_next : (n slots id : ℕ) (me : Me (Unit {0}) View) → 0 < me.0.shares → me.0.ended ≡ false → Allows (IsBoard n) slots id me 0 (λ x. (x + 1) % 2 ^ 64) (drawn (step slots 0 1 0 none) me)
claims_next n slots id me live still s r _ at small = let m : ℕ = get_or s.words 0 0 in let room : Bool = nat_lt m me.0.count in (
  drawn_view me.0 m,
  keeps,
  tt,
  board_after n s r id me.0 at live still room refl,
  (refl, refl, above n s r id me.0 at live still, draws_from n s r id me.0 at live still room refl),
)

-- a look changes nothing
pub looks : (n slots id : ℕ) (me : Me (Unit {0}) View) → Allows (IsBoard n) slots id me 0 (λ x. x) (looked (step slots 0 0 0 none) me)
looks n slots id me s r _ at small = (
  me.0,
  keeps,
  tt,
  rw (set_again s.views id me.0 at, set_word s.words r.one_word) r,
  (refl, refl, let a : me.0.shares ≤ sum_views (λ v. v.shares) s.views = sum_at (λ v. v.shares) s.views id me.0 at in let w = r.points.shares.1 in omega arith),
)
  where
    set_word : (ws : List ℕ) → length ws ≡ 1 → set ws 0 (get_or ws 0 0) ≡ ws
    set_word [] e = refl
    set_word (x ∷ xs) e = refl

-- a seat with all shares that is ended has all numbers

others_empty : (l : List View) (i : ℕ) (v : View) (f : View → ℕ) → get_elem? l i ≡ some v → sum_views (λ u. u.shares) l ≡ v.shares → EachView (λ u. u.shares ≡ 0 → f u ≡ 0) l → sum_views f l ≡ f v
others_empty [] i v f e sum h = absurd (some-ne-none v (sym e))
others_empty (y ∷ ys) zero v f e sum h =
    let is : y ≡ v = some-injective y v e in
    let same : y.shares ≡ v.shares = ap (λ (u : View). u.shares) is in
    let none_else : sum_views f ys ≡ 0 = all_empty ys f (omega arith) (λ j u t. h (suc j) u t) in
    let here : f y ≡ f v = ap f is in omega arith
  where
    all_empty : (l : List View) (f : View → ℕ) → sum_views (λ u. u.shares) l ≡ 0 → EachView (λ u. u.shares ≡ 0 → f u ≡ 0) l → sum_views f l ≡ 0
    all_empty [] f sum h = refl
    all_empty (y ∷ ys) f sum h = let a : f y ≡ 0 = h 0 y refl (omega arith) in let b : sum_views f ys ≡ 0 = all_empty ys f (omega arith) (λ j u t. h (suc j) u t) in omega arith
others_empty (y ∷ ys) (suc i) v f e sum h =
    let p : v.shares ≤ sum_views (λ u. u.shares) ys = sum_at (λ u. u.shares) ys i v e in
    let a : f y ≡ 0 = h 0 y refl (omega arith) in
    let b : sum_views f ys ≡ f v = others_empty ys i v f e (omega arith) (λ j u t. h (suc j) u t) in omega arith

pub all_drawn : (n : ℕ) (s : TableState) (id : ℕ) (v : View) → IsBoard n s → get_elem? s.views id ≡ some v → v.shares ≡ ALL_SHARES → v.ended ≡ true → EachOnceBelow n v.tickets
all_drawn n s id v r at all over x =
    let p = r.points in
    let is : stands x s.views ≡ times x v.tickets = others_empty s.views id v (λ u. times x u.tickets) at (p.shares.1 ∙ sym all) (λ j u e z. ap (λ (w : View). times x w.tickets) (p.shares.0 j u e z)) in
    let past : n ≤ get_or s.words 0 0 = p.ended id v at over in
    let once = p.once x in
    dite (dec_le n x)
    (λ h. let none_there : times x v.tickets ≡ 0 = dite (ℕ_discrete (times x v.tickets) 0) (λ z. z) (λ k. absurd (let b : x < n = (p.below id v at x (omega arith)).1 in omega arith)) in none_there ∙ sym (ap (λ (b : Bool). if b then 1 else 0) (le-ltb x n h)))
    (λ h. let some_there = p.every x (omega arith) (omega arith) in let one : times x v.tickets ≡ 1 = omega arith in one ∙ sym (ap (λ (b : Bool). if b then 1 else 0) (lt-ltb x n (omega arith))))
