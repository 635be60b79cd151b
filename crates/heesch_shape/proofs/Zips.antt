-- Lists whose items are related place by place.
use Rattle.std.proofs.Common.{◌≡◌, refl, List, [], ◌∷◌}
use Rattle.std.specs.List.{AllZip}

-- where each item has one other, so have items their others
pub one_zip : {X Y : Type 0} (R : X → Y → Type 0) → ((x : X) (y z : Y) → R x y → R x z → y ≡ z) → (xs : List X) (ys zs : List Y) → AllZip R xs ys → AllZip R xs zs → ys ≡ zs
one_zip R one [] [] [] p q = refl
one_zip R one [] [] (z ∷ zs) p q = absurd q
one_zip R one [] (y ∷ ys) zs p q = absurd p
one_zip R one (x ∷ xs) [] zs p q = absurd p
one_zip R one (x ∷ xs) (y ∷ ys) [] p q = absurd q
one_zip R one (x ∷ xs) (y ∷ ys) (z ∷ zs) p q =
    let first : y ≡ z = one x y z p.0 q.0 in
    let rest : ys ≡ zs = one_zip R one xs ys zs p.1 q.1 in
    λ i. first i ∷ rest i
