-- Steps of loops that add what each member of a list gives, and what is sorted and kept once.
use Rattle.std.proofs.Common.{◌≡◌, ℕ, zero, suc, ◌+◌, ◌<◌, Bool, true, false, ◌||◌, List, [], ◌∷◌, ◌++◌, filter, length, take, get_or, Contains, All, IsPermutation, IsSorted, Ordering, refl, sym, ap, ◌∙◌, subst, arith, inl, inr}
use Rattle.std.specs.Prelude.{IsTrue, Some, slice_get}
use Rattle.std.specs.declared.cmp.Ordering.TheVariants.{Less}
use Rattle.std.specs.Cmp.{IsEquivalence, IsTotalOrder}
use Rattle.std.specs.List.{AllByRecursion, dedup, list_any}
use Rattle.std.specs.List.Sorted.{IsStrictlySortedBy}
use Rattle.std.specs.Ordering.{is_lt, eq_by_cmp}
use Rattle.std.proofs.Math.Seq.{take-length}
use Rattle.std.proofs.lemmas.Bool.{cases_lt}
use Rattle.std.proofs.lemmas.List.{take_more, length-append, get_or_append_left, get_or_push}
use Rattle.std.proofs.lemmas.List.Folds.{list_any_at, list_any_more}
use Rattle.std.proofs.lemmas.Option.{get_or_from_slice_get}
use Rattle.std.proofs.lemmas.List.Elements.{All-cons, All-nil, All-contains, Contains-append_cases, Contains-append_left, Contains-append_right}
use Rattle.std.proofs.lemmas.List.Kept.{Contains-dedup, Contains-from_dedup, IsStrictlySortedBy-dedup}
use Rattle.std.proofs.lemmas.List.Sorted.{Contains-permutation, IsPermutation-sym}
use Rattle.heesch_grid.specs.Listing.{IsRising, ListsExactly}
use Rattle.heesch_grid.proofs.ListFacts.{member_cases, member_here, member_there, no_member, All-from_members, rising_filter, filter_member, member_filter}
use Rattle.heesch_place.specs.Found.{Adds, FromOne, Joins}
use Rattle.heesch_place.specs.Spots.{AreNumbers}

pub member_at : {X : Type 0} (xs : List X) (i : ℕ) (d : X) → i < length xs → Contains xs (get_or xs i d)
member_at xs i d l = (i, l, default xs i d (get_or xs i d) l)
  where
    default : {X : Type 0} (xs : List X) (i : ℕ) (d e : X) → i < length xs → get_or xs i e ≡ get_or xs i d
    default [] i d e l = absurd (omega arith)
    default (x ∷ xs) zero d e l = refl
    default (x ∷ xs) (suc i) d e l = default xs i d e (omega arith)

-- at a place of the list the default doesn't matter
pub any_default : {X : Type 0} (xs : List X) (n : ℕ) (d e : X) → n < length xs → get_or xs n d ≡ get_or xs n e
any_default [] n d e l = absurd (omega arith)
any_default (x ∷ xs) zero d e l = refl
any_default (x ∷ xs) (suc n) d e l = any_default xs n d e (omega arith)

-- ---- loops
module _ {X : Type 0} where
  pub joins_same : (P Q old new : X → Type 0) → ((x : X) → P x → Q x) → ((x : X) → Q x → P x) → Joins P old new → Joins Q old new
  joins_same P Q old new f h a = record { kept = a.kept; all = λ x q. a.all x (h x q); only = λ x m. elim (a.only x m) [ inl k ↦ inl k | inr k ↦ inr (f x k) ] }

  pub joins_nothing : (P old : X → Type 0) → ((x : X) → P x → ⊥) → Joins P old old
  joins_nothing P old none = record { kept = λ x m. m; all = λ x p. absurd (none x p); only = λ x m. inl m }

  pub adds_one : (P : X → Type 0) (old new : List X) (y : X) → new ≡ old ++ y ∷ [] → P y → ((x : X) → P x → x ≡ y) → Adds P old new
  adds_one P old new y is holds one = record {
    kept = λ x m. subst (λ zs. Contains zs x) (sym is) (Contains-append_left old (y ∷ []) x m);
    all = λ x p. subst (λ z. Contains new z) (sym (one x p)) (subst (λ zs. Contains zs y) (sym is) (Contains-append_right old (y ∷ []) y (member_here y [])));
    only = λ x m. elim (Contains-append_cases old (y ∷ []) x (subst (λ zs. Contains zs x) is m)) [
      | inl k ↦ inl k
      | inr k ↦ elim (member_cases y [] x k) [ inl e ↦ inr (subst P e holds) | inr none ↦ absurd (no_member x none) ]
    ];
  }

  -- what the members of a front have, and the next member, the members of the longer front have
  pub taken_kept : (P : X → Type 0) (xs : List X) (i : ℕ) (d : X) → i < length xs → ((x : X) → Contains (take i xs) x → P x) → P (get_or xs i d) → (x : X) → Contains (take (i + 1) xs) x → P x
  taken_kept P xs i d less f here x m = elim (Contains-append_cases (take i xs) (get_or xs i d ∷ []) x (subst (λ zs. Contains zs x) (take_more xs i d less) m)) [
    | inl k ↦ f x k
    | inr k ↦ elim (member_cases (get_or xs i d) [] x k) [ inl e ↦ subst P e here | inr none ↦ absurd (no_member x none) ]
  ]

  pub taken_whole : (P : X → Type 0) (xs : List X) (i : ℕ) → i ≡ length xs → ((x : X) → Contains (take i xs) x → P x) → (x : X) → Contains xs x → P x
  taken_whole P xs i e f x m = f x (subst (λ zs. Contains zs x) (sym (ap (λ n. take n xs) e ∙ take-length xs)) m)

  module _ {Y : Type 0} (R : Y → X → Type 0) (ys : List Y) where
    pub from_none : (old : X → Type 0) → Joins (FromOne R []) old old
    from_none old = joins_nothing (FromOne R []) old (λ x h. no_member h.source h.inside)

    pub from_more : (i : ℕ) (d : Y) (old mid new : X → Type 0) → i < length ys → Joins (FromOne R (take i ys)) old mid → Joins (R (get_or ys i d)) mid new → Joins (FromOne R (take (i + 1) ys)) old new
    from_more i d old mid new less a b = record {
      kept = λ x m. b.kept x (a.kept x m);
      all = λ x h. elim (Contains-append_cases (take i ys) (get_or ys i d ∷ []) h.source (subst (λ zs. Contains zs h.source) (take_more ys i d less) h.inside)) [
        | inl k ↦ b.kept x (a.all x (record { source = h.source; inside = k; gives = h.gives }))
        | inr k ↦ elim (member_cases (get_or ys i d) [] h.source k) [ inl e ↦ b.all x (subst (λ z. R z x) (sym e) h.gives) | inr none ↦ absurd (no_member h.source none) ]
      ];
      only = λ x m. elim (b.only x m) [
        | inl k ↦ elim (a.only x k) [
          | inl o ↦ inl o
          | inr h ↦ inr (record { source = h.source; inside = subst (λ zs. Contains zs h.source) (sym (take_more ys i d less)) (Contains-append_left (take i ys) (get_or ys i d ∷ []) h.source h.inside); gives = h.gives })
        ]
        | inr r ↦ inr (record { source = get_or ys i d; inside = subst (λ zs. Contains zs (get_or ys i d)) (sym (take_more ys i d less)) (Contains-append_right (take i ys) (get_or ys i d ∷ []) (get_or ys i d) (member_here (get_or ys i d) [])); gives = r })
      ];
    }

    pub from_all : (i : ℕ) (old new : X → Type 0) → i ≡ length ys → Joins (FromOne R (take i ys)) old new → Joins (FromOne R ys) old new
    from_all i old new e a = subst (λ zs. Joins (FromOne R zs) old new) (ap (λ n. take n ys) e ∙ take-length ys) a

  -- a loop over the places of a list
  pub taken_more : (ys : List X) (i : ℕ) (y : X) (old mid new : List X) → i < length ys → slice_get ys i ≡ Some y → Adds (Contains (take i ys)) old mid → new ≡ mid ++ y ∷ [] → Adds (Contains (take (i + 1) ys)) old new
  taken_more ys i y old mid new less at a is =
      let b : Adds (λ x. x ≡ get_or ys i y) mid new = adds_one (λ x. x ≡ get_or ys i y) mid new y is (sym (get_or_from_slice_get ys i y y at)) (λ x e. e ∙ get_or_from_slice_get ys i y y at) in
      let both = from_more (λ y x. x ≡ y) ys i y (Contains old) (Contains mid) (Contains new) less (joins_same (Contains (take i ys)) (FromOne (λ y x. x ≡ y) (take i ys)) (Contains old) (Contains mid) (λ x m. record { source = x; inside = m; gives = refl }) (λ x h. subst (Contains (take i ys)) (sym h.gives) h.inside) a) b in
      joins_same (FromOne (λ y x. x ≡ y) (take (i + 1) ys)) (Contains (take (i + 1) ys)) (Contains old) (Contains new) (λ x h. subst (Contains (take (i + 1) ys)) (sym h.gives) h.inside) (λ x m. record { source = x; inside = m; gives = refl }) both

  pub taken_all : (P : X → Type 0) (ys : List X) (i : ℕ) (old new : List X) → i ≡ length ys → ((x : X) → P x → Contains ys x) → ((x : X) → Contains ys x → P x) → Adds (Contains (take i ys)) old new → Adds P old new
  taken_all P ys i old new e f h a =
      joins_same (Contains ys) P (Contains old) (Contains new) h f (subst (λ zs. Adds (Contains zs) old new) (ap (λ n. take n ys) e ∙ take-length ys) a)

  pub numbers_same : (P Q : X → Type 0) (number : X → ℕ) (numbers : List ℕ) → ((x : X) → P x → Q x) → ((x : X) → Q x → P x) → AreNumbers P number numbers → AreNumbers Q number numbers
  numbers_same P Q number numbers f h a = record { only = λ n m. let o = a.only n m in (o.0, f o.0 o.1, o.2); every = λ x q. a.every x (h x q) }

  -- numbers of the members of a list, one after another
  module _ (number : X → ℕ) (xs : List X) where
    pub numbers_none : AreNumbers (Contains (take 0 xs)) number []
    numbers_none = record { only = λ n m. absurd (no_member n m); every = λ x m. absurd (no_member x m) }

    pub numbers_more : (i : ℕ) (d : X) (old new : List ℕ) → i < length xs → AreNumbers (Contains (take i xs)) number old → new ≡ old ++ number (get_or xs i d) ∷ [] → AreNumbers (Contains (take (i + 1) xs)) number new
    numbers_more i d old new less a is = record {
      only = λ n m. elim (Contains-append_cases old (number (get_or xs i d) ∷ []) n (subst (λ zs. Contains zs n) is m)) [
        | inl k ↦ let o = a.only n k in (o.0, subst (λ zs. Contains zs o.0) (sym (take_more xs i d less)) (Contains-append_left (take i xs) (get_or xs i d ∷ []) o.0 o.1), o.2)
        | inr k ↦ elim (member_cases (number (get_or xs i d)) [] n k) [
          | inl e ↦ (get_or xs i d, subst (λ zs. Contains zs (get_or xs i d)) (sym (take_more xs i d less)) (Contains-append_right (take i xs) (get_or xs i d ∷ []) (get_or xs i d) (member_here (get_or xs i d) [])), sym e)
          | inr none ↦ absurd (no_member n none)
        ]
      ];
      every = taken_kept (λ x. Contains new (number x)) xs i d less
          (λ x m. subst (λ zs. Contains zs (number x)) (sym is) (Contains-append_left old (number (get_or xs i d) ∷ []) (number x) (a.every x m)))
          (subst (λ zs. Contains zs (number (get_or xs i d))) (sym is) (Contains-append_right old (number (get_or xs i d) ∷ []) (number (get_or xs i d)) (member_here (number (get_or xs i d)) [])));
    }

    pub numbers_all : (i : ℕ) (numbers : List ℕ) → i ≡ length xs → AreNumbers (Contains (take i xs)) number numbers → AreNumbers (Contains xs) number numbers
    numbers_all i numbers e a = subst (λ zs. AreNumbers (Contains zs) number numbers) (ap (λ n. take n xs) e ∙ take-length xs) a

-- one more item of a list of which each has a property that goes by its place
pub each_more : {X : Type 0} (P : ℕ → X → Type 0) (d : X) (n : ℕ) (old new : List X) (x : X) → length old ≡ n → ((k : ℕ) → k < n → P k (get_or old k d)) → P n x → new ≡ old ++ x ∷ [] → (length new ≡ n + 1) × ((k : ℕ) → k < n + 1 → P k (get_or new k d))
each_more P d n old new x long f here is = (
  ap length is ∙ length-append old (x ∷ []) ∙ omega (arith, long),
  λ k less. elim (cases_lt k n) [
    | inl low ↦ subst (P k) (sym (ap (λ zs. get_or zs k d) is ∙ get_or_append_left old (x ∷ []) d k (omega (arith, long, low)))) (f k low)
    | inr high ↦
        let e : k ≡ n = omega arith in
        subst (λ m. P m (get_or new k d)) (sym e) (subst (P n) (sym (ap (λ zs. get_or zs k d) is ∙ get_or_push old x d k (omega (arith, long, e)))) here)
  ],
)

-- ---- loops that look for one
module _ {X : Type 0} (p : X → Bool) (xs : List X) (i : ℕ) (d : X) where
  pub some_here : i < length xs → p (get_or xs i d) ≡ true → list_any p xs ≡ true
  some_here less h = list_any_at p xs i d less h

  pub none_more : i < length xs → p (get_or xs i d) ≡ false → list_any p (take i xs) ≡ false → list_any p (take (i + 1) xs) ≡ false
  none_more less h old = list_any_more p xs i d less ∙ both_false (list_any p (take i xs)) (p (get_or xs i d)) old h
    where
      both_false : (a b : Bool) → a ≡ false → b ≡ false → (a || b) ≡ false
      both_false true b e f = e
      both_false false b e f = f

pub none_all : {X : Type 0} (p : X → Bool) (xs : List X) (i : ℕ) → i ≡ length xs → list_any p (take i xs) ≡ false → list_any p xs ≡ false
none_all p xs i e h = ap (list_any p) (sym (take-length xs) ∙ ap (λ n. take n xs) (sym e)) ∙ h

-- ---- what is sorted, and then kept once
module _ {K : Type 0} (cmp : K → K → Ordering) (before : K → K → Bool) (same : K → K → Bool) (less : (x y : K) → is_lt (cmp x y) ≡ before x y) (tied : (x y : K) → same x y ≡ true → x ≡ y) (total : IsTotalOrder cmp) (equivalence : IsEquivalence same) (ties : (x y : K) → same x y ≡ eq_by_cmp cmp x y) where
  before_all : (x : K) (xs : List K) → AllByRecursion (λ y. cmp x y ≡ Less) xs → All (λ y. IsTrue (before x y)) xs
  before_all x [] h = All-nil (λ y. IsTrue (before x y))
  before_all x (y ∷ ys) h = All-cons (λ y. IsTrue (before x y)) y ys (sym (less x y) ∙ ap is_lt h.0) (before_all x ys h.1)

  rising_of : (xs : List K) → IsStrictlySortedBy cmp xs → IsRising before xs
  unfolding IsStrictlySortedBy
  rising_of [] h = tt
  rising_of (x ∷ xs) h = (before_all x xs h.0, rising_of xs h.1)

  pub listed : (all ys zs : List K) → IsPermutation all ys → IsSorted cmp ys → zs ≡ dedup same ys → ListsExactly before (Contains all) zs
  listed all ys zs p sorted is = record {
    rising = subst (IsRising before) (sym is) (rising_of (dedup same ys) (IsStrictlySortedBy-dedup total ties ys sorted));
    only = All-from_members (Contains all) zs (λ r m. Contains-permutation ys all r (IsPermutation-sym all ys p) (Contains-from_dedup same ys r (subst (λ ws. Contains ws r) is m)));
    every = λ r h. subst (λ ws. Contains ws r) (sym is) (Contains-dedup equivalence tied ys r (Contains-permutation all ys r p h));
  }

-- what lists exactly what has a property lists exactly what has an equivalent one
pub relisted : {X : Type 0} (before : X → X → Bool) (P Q : X → Type 0) (xs : List X) → ListsExactly before P xs → ((x : X) → P x → Q x) → ((x : X) → Q x → P x) → ListsExactly before Q xs
relisted before P Q xs l f h = record {
  rising = l.rising;
  only = All-from_members Q xs (λ x m. f x (All-contains P xs x l.only m));
  every = λ x q. l.every x (h x q);
}

-- what passes a test of a list of exactly what has a property
pub filtered : {X : Type 0} (before : X → X → Bool) (P Q : X → Type 0) (test : X → Bool) (xs ys : List X) → ys ≡ filter test xs → ListsExactly before P xs → ((x : X) → P x → test x ≡ true → Q x) → ((x : X) → Q x → P x × (test x ≡ true)) → ListsExactly before Q ys
filtered {X} before P Q test xs ys is l f h =
    subst (ListsExactly before Q) (sym is) (record {
      rising = rising_filter before test xs l.rising;
      only = All-from_members Q (filter test xs) (λ x m. let k = filter_member test xs x m in f x (All-contains P xs x l.only k.0) k.1);
      every = λ x q. let k = h x q in member_filter test xs x (l.every x k.0) k.1;
    })

-- rising lists, one after the other
single_rising : {X : Type 0} (before : X → X → Bool) (y : X) → IsRising before (y ∷ [])
single_rising before y = (All-nil (λ z. IsTrue (before y z)), tt)

pub rising_append : {X : Type 0} (before : X → X → Bool) (xs ys : List X) → IsRising before xs → IsRising before ys → ((x y : X) → Contains xs x → Contains ys y → before x y ≡ true) → IsRising before (xs ++ ys)
rising_append before [] ys r s h = s
rising_append {X} before (x ∷ xs) ys r s h =
    (All-from_members (λ y. IsTrue (before x y)) (xs ++ ys) first, rising_append before xs ys r.1 s (λ z y m n. h z y (member_there x xs z m) n))
  where
    first : (y : X) → Contains (xs ++ ys) y → before x y ≡ true
    first y m = elim (Contains-append_cases xs ys y m) [ inl k ↦ All-contains (λ y. IsTrue (before x y)) xs y r.0 k | inr k ↦ h x y (member_here x xs) k ]

pub rising_push : {X : Type 0} (before : X → X → Bool) (xs : List X) (y : X) → IsRising before xs → ((x : X) → Contains xs x → before x y ≡ true) → IsRising before (xs ++ y ∷ [])
rising_push before xs y r h =
    rising_append before xs (y ∷ []) r (single_rising before y) (λ x z m n. elim (member_cases y [] z n) [ inl e ↦ subst (λ w. before x w ≡ true) e (h x m) | inr none ↦ absurd (no_member z none) ])
