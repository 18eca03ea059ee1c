-- Laws on which a look-up and the offers rest.
use Rattle.std.specs.Prelude.{◌≡◌, ◌≢◌, ◌⊎◌, ℕ, true, List, Some, slice_get}
use Rattle.kin_list.specs.Rows.{exchanged}
use Rattle.kin_motion.specs.Records.{stands_before}
use Rattle.kin_motion.specs.Octants.{Octant, octants, is_in_octant, comes_after}
use Rattle.kin_motion.specs.Scene.{Scene, IsReal}
use Rattle.kin_wedge.specs.Rows.{WereExchanged}

-- a member of an octant comes after the apex in the octant's third order
abbrev pub MembersComeAfter : Type 0
MembersComeAfter = (s : Scene) (w : ℕ) (o : Octant) (p q : ℕ) → IsReal s → slice_get octants w ≡ Some o → p ≢ q → is_in_octant s o p q ≡ true → comes_after s o.third p q ≡ true

-- after some exchanges of neighbours two numbers are in the order that they had before, or they were exchanged with each other
abbrev pub ExchangesTell : Type 0
ExchangesTell = (places row : List ℕ) (a b : ℕ) → (stands_before (exchanged places row) a b ≡ stands_before row a b) ⊎ (WereExchanged places row a b ⊎ WereExchanged places row b a)
