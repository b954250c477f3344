-- Lists that are split in two ways.
use Rattle.std.proofs.Common.{◌≡◌, ℕ, ◌≤◌, List, [], ◌∷◌, ◌++◌, length, refl, arith}

-- of two ways to split a list the longer front begins with the shorter
pub split_front : (front xs agreed ys : List ℕ) → front ++ xs ≡ agreed ++ ys → length front ≤ length agreed → (more : List ℕ) × (agreed ≡ front ++ more)
split_front [] xs agreed ys e le = (agreed, refl)
split_front (f ∷ front) xs [] ys e le = absurd (omega (arith, le))
split_front (f ∷ front) xs (a ∷ agreed) ys e le =
    let behind = split_front front xs agreed ys (cc) (omega (arith, le)) in
    let head : f ≡ a = cc in
    (behind.0, cc (behind.1, head))
