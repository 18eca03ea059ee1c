-- A vector after its whole slice was written.
use Rattle.std.proofs.Common.{◌≡◌, ℕ, List, ◌++◌, length, take, ap, ◌∙◌}
use Rattle.std.proofs.Math.Seq.{take-append_seam}

pub take_whole : {A : Type 0} (n : ℕ) (ys zs : List A) → n ≡ length ys → take n (ys ++ zs) ≡ ys
take_whole {A} n ys zs e = ap (λ (m : ℕ). take m (ys ++ zs)) e ∙ take-append_seam ys zs
