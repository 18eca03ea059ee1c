-- Structures to be kept, as plain numbers.
use Rattle.std.specs.Prelude.{◌≡◌, ◌⊎◌, ℕ, ◌==◌, List, Option, Some, None, map, take, slice_get, IsSomeAnd, if◌then◌else◌}
use Rattle.kin_motion.specs.declared.keep.Keep.{Keep}
use Rattle.kin_motion.specs.declared.keep.Keep.TheVariants.{Order, Extreme, Hull, Closest, Range, Nearest, Diameter, Boxes}
use Rattle.kin_tracker.specs.declared.refusal.Refusal.{Refusal}
use Rattle.kin_tracker.specs.declared.refusal.Refusal.TheVariants.{BadKeep, NoMemory}
use Rattle.kin_tracker.specs.Keeping.{IsRefusedStart, MayStart}
use Rattle.kin_world.specs.Worlds.{World, empty}
use Rattle.kin_c.specs.declared.keep.KinKeep.{KinKeep}
use Rattle.kin_c.specs.declared.status.Status.{Status}
use Rattle.kin_c.specs.declared.status.Status.TheVariants.{Done, NoWorld, Refused, TooSmall}

-- the structure of a kind, if there is such a kind
abbrev pub keep_of : KinKeep → Option Keep
keep_of k =
    if k.kind == 0 then Some (Order k.dx k.dy) else
    if k.kind == 1 then Some (Extreme k.dx k.dy) else
    if k.kind == 2 then Some Hull else
    if k.kind == 3 then Some Closest else
    if k.kind == 4 then Some Range else
    if k.kind == 5 then Some Nearest else
    if k.kind == 6 then Some Diameter else
    if k.kind == 7 then Some (Boxes k.dx k.dy) else None

-- each is the structure that the numbers name
abbrev pub AreKeeps : List KinKeep → List Keep → Type 0
AreKeeps given keeps = map keep_of given ≡ map Some keeps

-- there is no such kind as at this place, and there are all before it
pub record IsFirstUnknown (given : List KinKeep) (place : ℕ) : Type 0 where
  pub keep : KinKeep
  pub there : slice_get given place ≡ Some keep
  pub unknown : keep_of keep ≡ None
  pub keeps : List Keep
  pub before : AreKeeps (take place given) keeps

-- a structure has an unknown kind
abbrev pub IsUnread : List KinKeep → Refusal → Type 0
IsUnread given (BadKeep place) = IsFirstUnknown given place
IsUnread given _ = ⊥

-- or memory is wanting
abbrev pub IsUnreadOrNoMemory : List KinKeep → Refusal → Type 0
IsUnreadOrNoMemory given NoMemory = Unit {0}
IsUnreadOrNoMemory given r = IsUnread given r

-- why there is no tracker; memory may be wanting before anything is tested
abbrev pub IsRefusedWorld : ℕ → List KinKeep → Refusal → Type 0
IsRefusedWorld size given NoMemory = Unit {0}
IsRefusedWorld size given r = ((keeps : List Keep) × AreKeeps given keeps × IsRefusedStart size keeps r) ⊎ IsUnread given r

-- the tracker keeps what the numbers name, and has no points yet
abbrev pub IsStarted : ℕ → List KinKeep → World → Type 0
IsStarted size given w = (keeps : List Keep) × AreKeeps given keeps × MayStart size keeps × (w ≡ empty size keeps)

-- the place of a structure that can't be kept is said
abbrev pub place_said : Refusal → ℕ → ℕ
place_said (BadKeep place) before = place
place_said _ before = before

-- a world is made of these, in the place of one that may have been there, or that one stays
abbrev pub Starts : ℕ → List KinKeep → ℕ → ℕ → Option World → Option World → Status → Type 0
Starts size given before after old new Done = (after ≡ before) × IsSomeAnd new (IsStarted size given)
Starts size given before after old new (Refused r) = IsRefusedWorld size given r × (new ≡ old) × (after ≡ place_said r before)
Starts size given before after old new NoWorld = ⊥
Starts size given before after old new TooSmall = ⊥
