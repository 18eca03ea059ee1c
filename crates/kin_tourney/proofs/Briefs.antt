-- Lists whose elements are written in few bytes.
use Rattle.std.proofs.Common.{◌≡◌, refl, ap, ◌∷◌, ℕ, zero, suc, map, replicate}

-- what is written in each element
pub map_replicate : {A B : Type 0} (f : A → B) (n : ℕ) (a : A) → map f (replicate n a) ≡ replicate n (f a)
map_replicate f zero a = refl
map_replicate f (suc n) a = ap (λ bs. f a ∷ bs) (map_replicate f n a)
