-- The replay of a script: the plans and the moment after each command, and why a command is refused.
use Rattle.std.specs.Prelude.{◌≡◌, ◌⊎◌, ℕ, pos, ◌<ℤ◌, Bool, true, false, Option, slice_set, unwrap_or}
use Rattle.kin_algebra.specs.declared.sign.Sign.TheVariants.{Zero}
use Rattle.kin_num.specs.declared.instant.Shape.{Shape}
use Rattle.kin_num.specs.Quadratic.{Quadratic}
use Rattle.kin_num.specs.Canonical.{IsCanonical, discriminant}
use Rattle.kin_num.specs.Instants.{sign_at_instant}
use Rattle.kin_num.specs.Order.{IsLess, IsEarlier}
use Rattle.kin_motion.specs.Plans.{Plan}
use Rattle.kin_motion.specs.Turning.{just_at}
use Rattle.kin_legs.specs.Nexts.{Next, IsNext, comes_at}
use Rattle.kin_legs.specs.Paths.{plan_of}
use Rattle.kin_script.specs.Changes.{PointChange, IsRefusedChange, ChangesTo}
use Rattle.kin_script.specs.Deeds.{Deed, changes, goes_to, goes_on, asks}
use Rattle.kin_script.specs.Questions.{IsRefusedQuestion}
use Rattle.kin_script.specs.declared.refusal.Refusal.{Refusal}
use Rattle.kin_script.specs.declared.refusal.Refusal.TheVariants.{NoRoot, Past}
use Rattle.kin_script.specs.States.{State, state_view}

-- the polynomial is 0 at the instant
pub record IsRootOf (p : Quadratic) (w : Shape) : Type 0 where
  pub canonical : IsCanonical w
  pub zero : sign_at_instant p w ≡ Zero

-- the root that `hi` names, or `lo`: no root is greater, or none is less
abbrev pub IsNamedRoot : Bool → Quadratic → Shape → Type 0
IsNamedRoot true p w = IsRootOf p w × ((v : Shape) → IsRootOf p v → ¬ (IsLess w v))
IsNamedRoot false p w = IsRootOf p w × ((v : Shape) → IsRootOf p v → ¬ (IsLess v w))

-- the polynomial has no real root
abbrev pub HasNoRoot : Quadratic → Type 0
HasNoRoot p = discriminant p.a p.b p.c <ℤ pos 0

-- the asked moment is before now
abbrev pub IsPast : State → Bool → Quadratic → Type 0
IsPast s upper p = (w : Shape) × IsNamedRoot upper p w × IsEarlier (just_at w) s.moment

-- why a deed is refused: a number can't be changed so, there is no such root, its moment is past, or what is asked has no answer
abbrev pub IsRefused : State → Deed → Refusal → Type 0
IsRefused s (changes number change) r = IsRefusedChange s.moment (plan_of s.plans number) change r
IsRefused s (goes_to upper p) r = ((r ≡ NoRoot) × HasNoRoot p) ⊎ ((r ≡ Past) × IsPast s upper p)
IsRefused s goes_on r = ⊥
IsRefused s (asks q) r = IsRefusedQuestion s q r

-- it isn't refused
abbrev pub IsAllowed : State → Deed → Type 0
IsAllowed s d = (r : Refusal) → ¬ (IsRefused s d r)

-- to the moment of what comes next; where nothing does, the moment stays
abbrev pub LeadsToNext : State → State → Type 0
LeadsToNext s t = (n : Next) × IsNext (state_view s) n × (t ≡ record s { moment = unwrap_or (comes_at n) s.moment })

-- the number has the plan that it changes to, or none, and all others have theirs
abbrev pub LeadsToChanged : State → ℕ → PointChange → State → Type 0
LeadsToChanged s number change t = (next : Option Plan) × ChangesTo s.moment (plan_of s.plans number) change next × (t ≡ record s { plans = slice_set s.plans number next })

-- the state after a deed that is not refused
abbrev pub LeadsTo : State → Deed → State → Type 0
LeadsTo s (changes number change) t = LeadsToChanged s number change t
LeadsTo s (goes_to upper p) t = (w : Shape) × IsNamedRoot upper p w × (t ≡ record s { moment = just_at w })
LeadsTo s goes_on t = LeadsToNext s t
LeadsTo s (asks q) t = t ≡ s
