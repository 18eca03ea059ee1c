-- What may be kept together.
use Rattle.std.specs.Prelude.{ℕ, zero, suc, Bool, true, ◌&&◌, nat_eq, nat_lt, nat_le, List, [], ◌∷◌, ◌++◌, count_by, Option, Some, None}
use Rattle.std.specs.List.{list_all}
use Rattle.kin_motion.specs.declared.keep.Keep.{Keep}
use Rattle.kin_motion.specs.declared.keep.Keep.TheVariants.{Order, Extreme, Hull, Closest, Range, Nearest, Diameter, Boxes}

-- keeps of one group are counted together: orders and extreme points are, and otherwise those of one kind
abbrev pub group : Keep → ℕ
group (Order dx dy) = 0
group (Extreme dx dy) = 0
group Hull = 1
group Closest = 2
group Range = 3
group Nearest = 4
group Diameter = 5
group (Boxes width height) = 6

-- how many of a group may be kept: 16 orders and extreme points, and one of each other kind
abbrev pub limit : ℕ → ℕ
limit zero = 16
limit (suc g) = 1

-- how many of these are of the group
abbrev pub count_of : ℕ → List Keep → ℕ
count_of g keeps = count_by (λ keep. nat_eq (group keep) g) keeps

-- of no group there are more than its limit
abbrev pub are_few : List Keep → Bool
are_few keeps = list_all (λ keep. nat_le (count_of (group keep) keeps) (limit (group keep))) keeps

-- the kind that a keep is made of, if it is made of another one: a farthest pair is made of the chains of a hull
abbrev pub needs : Keep → Option Keep
needs Diameter = Some Hull
needs _ = None

-- such a kind is among these
abbrev pub have_kind : List Keep → Option Keep → Bool
have_kind keeps None = true
have_kind keeps (Some kind) = nat_lt 0 (count_of (group kind) keeps)

-- each has what it is made of before it, in its list or in the list before
abbrev pub follow : List Keep → List Keep → Bool
follow before [] = true
follow before (keep ∷ keeps) = have_kind before (needs keep) && follow (before ++ keep ∷ []) keeps

-- a world may keep these: they are few, and each has what it is made of before it
abbrev pub may_keep : List Keep → Bool
may_keep keeps = are_few keeps && follow [] keeps
