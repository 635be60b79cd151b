-- One candidate of a node is looked at.
use Rattle.std.proofs.Common.{◌≡◌, refl, sym, ap, ◌∙◌, subst, ℕ, ◌+◌, ◌-◌, ◌^◌, ◌/◌, ◌<◌, ◌≤◌, cond, nat_eq, eq-eqb, List, [], ◌∷◌, ◌++◌, length, get_or, slice_index, take, drop, filter, min, Bool, All, arith}
use Rattle.std.specs.Int.{bit_at}
use lib.Bits.{bit_and}
use Rattle.std.specs.List.{sum_by}
use Rattle.std.proofs.lemmas.Nat.Bits.{bit_at-lt, shr_and_one}
use Rattle.std.proofs.lemmas.List.{append-nil, length-append, length-drop, length_push, drop_at, take_all, take_at, take_rest}
use Rattle.std.proofs.lemmas.List.Sums.{sum_by_more, sum_by_more_le, sum_by-take-le}
use Rattle.std.proofs.lemmas.List.Elements.{All-more}
use Rattle.heesch_exact.specs.declared.search.Ending.{Ending}
use Rattle.heesch_exact.specs.declared.search.Ending.TheVariants.{Covered, Failed, Open}
use Rattle.heesch_exact.specs.Covers.{is_within, without}
use Rattle.heesch_exact.specs.Branches.{times, is_apart, IsPart, AreCandidates, HasNoCover, IsTried, IsEnding, ways}
use Rattle.heesch_exact.proofs.Nodes.{apart_candidates, fewer_apart, added_with}
use Rattle.heesch_exact.proofs.Listing.{candidate_at, within_drop}
use Rattle.heesch_exact.proofs.Bits.{part_within}
use Rattle.heesch_exact.proofs.Partial.{through, by_point, fewer_ways, not_both, are_both}

-- the candidate at this place has this number
pub record IsCandidateAt (masks : List ℕ) (left : ℕ) (here : List ℕ) (place number : ℕ) : Type 0 where
  pub small : (i : ℕ) → slice_index masks i < 2 ^ 64
  pub fits : left < 2 ^ 64
  pub candidates : AreCandidates masks left here
  pub below : place < length here
  pub at : number ≡ get_or here place 0

module _ (masks : List ℕ) (left : ℕ) (here : List ℕ) (place number : ℕ) (c : IsCandidateAt masks left here place number) where
  pub is_part : (number < length masks) × IsPart (slice_index masks number) left
  is_part = subst (λ i. (i < length masks) × IsPart (slice_index masks i) left) (sym c.at) (c.candidates place 0 c.below)

  -- it doesn't have the point
  pub tried_without : (point : ℕ) → bit_at (slice_index masks number) point ≡ 0 → All (IsTried masks left here point) (take place here) → All (IsTried masks left here point) (take (place + 1) here)
  tried_without point none was =
      All-more (IsTried masks left here point) here place 0 c.below was (subst (IsTried masks left here point) c.at (λ e. absurd (omega (arith, e, none))))

  tried_more : (point : ℕ) → sum_by (through masks point here left) (take (place + 1) here) ≡ sum_by (through masks point here left) (take place here) + through masks point here left number
  tried_more point =
      sum_by_more (through masks point here left) here place 0 c.below
      ∙ ap (λ i. sum_by (through masks point here left) (take place here) + through masks point here left i) (sym c.at)

  pub spent_without : (point : ℕ) → bit_at (slice_index masks number) point ≡ 0 → (before now : ℕ) → before ≤ now + sum_by (through masks point here left) (take place here) → before ≤ now + sum_by (through masks point here left) (take (place + 1) here)
  spent_without point none before now h =
      let e = tried_more point in
      let z = ap (λ b. cond b (ways masks here (without left (slice_index masks number))) 0) (not_both (is_within left (slice_index masks number)) (nat_eq (bit_at (slice_index masks number) point) 1) (ap (λ b. nat_eq b 1) none)) in
      omega (arith, e, z, h)

  -- it has the point
  module _ (point : ℕ) (has : bit_at (slice_index masks number) point ≡ 1) where
    abbrev pub apart : List ℕ
    apart = filter (is_apart masks (slice_index masks number)) here

    pub fewer : length apart + times masks here point ≤ length here
    fewer = fewer_apart masks (slice_index masks number) point here has

    pub one_tried : times masks (take place here) point + 1 ≤ times masks here point
    one_tried =
        let l = sum_by_more_le (λ i. bit_at (slice_index masks i) point) here place 0 c.below in
        let e : bit_at (slice_index masks (get_or here place 0)) point ≡ 1 = ap (λ i. bit_at (slice_index masks i) point) (sym c.at) ∙ has in
        omega (arith, l, e)

    pub rest : AreCandidates masks (without left (slice_index masks number)) apart
    rest = apart_candidates masks left (slice_index masks number) here c.fits (c.small number) is_part.1 c.candidates

    pub tried_with : HasNoCover masks (without left (slice_index masks number)) apart → All (IsTried masks left here point) (take place here) → All (IsTried masks left here point) (take (place + 1) here)
    tried_with none was =
        All-more (IsTried masks left here point) here place 0 c.below was (subst (IsTried masks left here point) c.at (λ _. none))

    tried_here : through masks point here left number ≡ ways masks here (without left (slice_index masks number))
    tried_here =
        let fit = part_within left (slice_index masks number) c.fits (c.small number) (λ k _. is_part.1 k) in
        ap (λ b. cond b (ways masks here (without left (slice_index masks number))) 0) (are_both (is_within left (slice_index masks number)) (nat_eq (bit_at (slice_index masks number) point) 1) fit (eq-eqb (bit_at (slice_index masks number) point) 1 has))

    fewer_here : ways masks apart (without left (slice_index masks number)) ≤ through masks point here left number
    fewer_here = subst (λ n. ways masks apart (without left (slice_index masks number)) ≤ n) (sym tried_here) (fewer_ways masks (is_apart masks (slice_index masks number)) here (without left (slice_index masks number)))

    pub spent_with : (before now after : ℕ) → before ≤ now + sum_by (through masks point here left) (take place here) → now ≤ after + ways masks apart (without left (slice_index masks number)) → before ≤ after + sum_by (through masks point here left) (take (place + 1) here)
    spent_with before now after h l =
        let e = tried_more point in
        let f = fewer_here in
        omega (arith, e, f, h, l)

    within_whole : sum_by (through masks point here left) (take place here) + ways masks apart (without left (slice_index masks number)) + 1 ≤ ways masks here left
    within_whole =
        let e = tried_more point in
        let f = fewer_here in
        let t = sum_by-take-le (through masks point here left) here (place + 1) in
        let w = by_point masks c.small point here left c.fits in
        omega (arith, e, f, t, w)

    pub spent_covered : (before now after : ℕ) → before ≤ now + sum_by (through masks point here left) (take place here) → now ≤ after + ways masks apart (without left (slice_index masks number)) → before + 1 ≤ after + ways masks here left
    spent_covered before now after h l = let w = within_whole in omega (arith, w, h, l)

    pub ending_with : (ending : Ending) (before after : List ℕ) (first now last : ℕ) → (ending ≡ Failed → ⊥) → first ≤ now + sum_by (through masks point here left) (take place here) → IsEnding masks (without left (slice_index masks number)) apart (before ++ (number ∷ [])) after now last ending → IsEnding masks left here before after (first + 1) last ending
    ending_with Covered before after first now last not h is = added_with masks left before after number point c.fits (c.small number) is_part.0 is_part.1 has is
    ending_with Failed before after first now last not h is = absurd (not refl)
    ending_with Open before after first now last not h is = let w = within_whole in let few = is.1 in (is.0, omega (arith, w, h, few))

-- the same ending, of lists that are the same
pub ending_inside : (masks : List ℕ) (points : ℕ) (given candidates pushed first last : List ℕ) (nodes left : ℕ) (ending : Ending) → given ≡ candidates → pushed ≡ first → IsEnding masks points given pushed last nodes left ending → IsEnding masks points candidates first last nodes left ending
ending_inside masks points given candidates pushed first last nodes left ending e f h =
    subst (λ xs. IsEnding masks points xs first last nodes left ending) e (subst (λ xs. IsEnding masks points given xs last nodes left ending) f h)

-- all candidates with the point were tried
pub spent_all : (masks : List ℕ) (small : (i : ℕ) → slice_index masks i < 2 ^ 64) (point : ℕ) (here : List ℕ) (left : ℕ) → left < 2 ^ 64 → (before after : ℕ) → before ≤ after + sum_by (through masks point here left) here → before + 1 ≤ after + ways masks here left
spent_all masks small point here left fits before after h = let w = by_point masks small point here left fits in omega (arith, w, h)

-- the test of a bit
pub has_from_test : (mask point : ℕ) → (bit_and (mask / 2 ^ point) 1 ≡ 0 → ⊥) → bit_at mask point ≡ 1
has_from_test mask point not = let e = shr_and_one mask point in let l = bit_at-lt mask point in last (bit_and (mask / 2 ^ point) 1) (bit_at mask point) e l not
  where
    last : (a b : ℕ) → a ≡ b → b < 2 → (a ≡ 0 → ⊥) → b ≡ 1
    last a b e l not = omega arith

pub lacks_from_test : (mask point : ℕ) → bit_and (mask / 2 ^ point) 1 ≡ 0 → bit_at mask point ≡ 0
lacks_from_test mask point e = sym (shr_and_one mask point) ∙ e

-- ---- the lists of candidates, one level behind the other

pub candidate_here : (masks : List ℕ) (left : ℕ) (old now : List ℕ) (from k number : ℕ) → ((i : ℕ) → slice_index masks i < 2 ^ 64) → left < 2 ^ 64 → AreCandidates masks left (drop from old) → now ≡ old → from ≤ k → k < length old → number ≡ get_or now k number → IsCandidateAt masks left (drop from old) (k - from) number
candidate_here masks left old now from k number small fits candidates same low less read = record {
  small = small;
  fits = fits;
  candidates = candidates;
  below = within_drop old from k low less;
  at = candidate_at old now [] from k number (same ∙ sym (append-nil old)) low less read;
}

-- the candidates that were pushed behind the others
module _ (test : ℕ → Bool) (old now new : List ℕ) (from to : ℕ) (same : now ≡ old) (pushed : new ≡ now ++ filter test (drop from now)) (long : to ≡ length old) where
  pub pushed_items : new ≡ old ++ filter test (drop from old)
  pushed_items = pushed ∙ ap (λ xs. xs ++ filter test (drop from xs)) same

  pub pushed_length : length new ≡ length old + length (filter test (drop from old))
  pushed_length = ap length pushed_items ∙ length-append old (filter test (drop from old))

  pub behind : drop to new ≡ filter test (drop from old)
  behind = ap (drop to) pushed_items ∙ drop_at old (filter test (drop from old)) to (sym long)

  pub before : take to new ≡ old
  before = ap (take to) pushed_items ∙ take_at old (filter test (drop from old)) to (sym long)

pub popped : (before after rest : List ℕ) (x n : ℕ) → after ≡ before ++ (x ∷ []) → n ≡ length after → rest ≡ take (n - 1) after → rest ≡ before
popped before after rest x n pushed long is =
    is ∙ ap (take (n - 1)) pushed ∙ take_at before (x ∷ []) (n - 1) (last n (length before) (long ∙ ap length pushed ∙ length_push before x))
  where
    last : (n m : ℕ) → n ≡ m + 1 → m ≡ n - 1
    last n m e = omega arith

-- no candidate from this place on has the point
pub none_from_counts : (masks items now : List ℕ) (from one point : ℕ) → now ≡ items → bit_at one point ≡ min 1 (times masks (take (length now - from) (drop from now)) point) → bit_at one point ≡ 0 → times masks (drop from items) point ≡ 0
none_from_counts masks items now from one point same counted none =
    let e : take (length now - from) (drop from now) ≡ drop from items = take_rest now from ∙ ap (drop from) same in
    last (bit_at one point) (times masks (drop from items) point) (counted ∙ ap (λ xs. min 1 (times masks xs point)) e) none
  where
    last : (b n : ℕ) → b ≡ min 1 n → b ≡ 0 → n ≡ 0
    last b n e z = omega arith

-- ---- a candidate that has the point is taken, and those that are apart from it stand behind the others

pub record IsTaken (masks : List ℕ) (left point : ℕ) (old new : List ℕ) (from k to number : ℕ) : Type 0 where
  pub at : IsCandidateAt masks left (drop from old) (k - from) number
  pub has : bit_at (slice_index masks number) point ≡ 1
  pub end : to ≡ length old
  pub longer : length new ≡ length old + length (filter (is_apart masks (slice_index masks number)) (drop from old))
  pub added : drop to new ≡ filter (is_apart masks (slice_index masks number)) (drop from old)
  pub kept : take to new ≡ old

pub taken : (masks : List ℕ) (left point : ℕ) (old now new : List ℕ) (from k to number : ℕ) → IsCandidateAt masks left (drop from old) (k - from) number → (bit_and (slice_index masks number / 2 ^ point) 1 ≡ 0 → ⊥) →
    now ≡ old → new ≡ now ++ filter (is_apart masks (slice_index masks number)) (drop from now) → to ≡ length old → IsTaken masks left point old new from k to number
taken masks left point old now new from k to number at not same pushed long =
    let test : ℕ → Bool = is_apart masks (slice_index masks number) in
    record {
      at = at;
      has = has_from_test (slice_index masks number) point not;
      end = long;
      longer = pushed_length test old now new from to same pushed long;
      added = behind test old now new from to same pushed long;
      kept = before test old now new from to same pushed long;
    }

module _ (masks : List ℕ) (left point : ℕ) (old new : List ℕ) (from k to number : ℕ) (x : IsTaken masks left point old new from k to number) where
  -- how the search behind it ended
  pub taken_end : (first mid last : List ℕ) (nodes after : ℕ) (ending : Ending) → mid ≡ first ++ (number ∷ []) → IsEnding masks (without left (slice_index masks number)) (drop to new) mid last nodes after ending →
      IsEnding masks (without left (slice_index masks number)) (filter (is_apart masks (slice_index masks number)) (drop from old)) (first ++ (number ∷ [])) last nodes after ending
  taken_end first mid last nodes after ending pushed h =
      ending_inside masks (without left (slice_index masks number)) (drop to new) (filter (is_apart masks (slice_index masks number)) (drop from old)) mid (first ++ (number ∷ [])) last nodes after ending x.added pushed h

  -- and how many nodes it took
  pub taken_spent : (now after : ℕ) → now ≤ after + ways masks (drop to new) (without left (slice_index masks number)) → now ≤ after + ways masks (filter (is_apart masks (slice_index masks number)) (drop from old)) (without left (slice_index masks number))
  taken_spent now after h = subst (λ xs. now ≤ after + ways masks xs (without left (slice_index masks number))) x.added h

-- all candidates were tried
pub all_tried : (old : List ℕ) (from k : ℕ) → length old ≤ k → take (k - from) (drop from old) ≡ drop from old
all_tried old from k le = let shorter = length-drop from old in take_all (k - from) (drop from old) (omega (arith, shorter, le))
