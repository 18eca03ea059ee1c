-- The pieces of a moment are its text.
use Rattle.std.proofs.Common.{◌≡◌, ℕ, ℤ, pos, negsuc, ◌<ℤ◌, Bool, false, List, [], ◌++◌, ap, append_assoc, arith, codes, unsigned_abs, ◌==◌, append-nil}
use Rattle.std.specs.Fmt.{signed_decimal}
use Rattle.std.proofs.lemmas.Bool.Decides.{nat_tests}
use Rattle.std.proofs.lemmas.Int.{ints}
use Rattle.kin_script.specs.Printed.{ratio_text, root_text, side_text}

pub root_pieces : (a b c : ℤ) (upper : Bool) (x y z side : List ℕ)
    → x ≡ signed_decimal a → y ≡ signed_decimal b → z ≡ signed_decimal c → side ≡ side_text upper
    → codes "r(" ++ (x ++ (codes "," ++ (y ++ (codes "," ++ (z ++ (codes "," ++ (side ++ codes ")"))))))) ≡ root_text a b c upper
root_pieces a b c upper x y z side p q r s = rw (p, q, r, s) (simp append_assoc)

not_one : (d : ℤ) → pos 0 <ℤ d → (d ≡ pos 1 → ⊥) → (unsigned_abs d == 1) ≡ false
not_one (pos n) low other = let more : n ≡ 1 → ⊥ = λ e. other (ap pos e) in grind (arith, nat_tests)
not_one (negsuc n) low other = absurd (omega (arith, ints))

pub ratio_pieces : (n d : ℤ) (over under : List ℕ) → over ≡ signed_decimal n → under ≡ signed_decimal d → pos 0 <ℤ d → (d ≡ pos 1 → ⊥)
    → over ++ (codes "/" ++ (under ++ [])) ≡ ratio_text n d
ratio_pieces n d over under p q low other = rw (append-nil under, p, q, not_one d low other) (simp append_assoc)
