-- What a call comes to, whatever it does.
use Rattle.std.specs.Prelude.{◌≡◌, ◌⊎◌, Option, Some, None}
use Rattle.kin_tracker.specs.declared.refusal.Refusal.{Refusal}
use Rattle.kin_tracker.specs.Trackers.{Leaves}
use Rattle.kin_world.specs.Worlds.{World}
use Rattle.kin_c.specs.declared.status.Status.{Status}
use Rattle.kin_c.specs.declared.status.Status.TheVariants.{Done, NoWorld, Refused, TooSmall}

-- ---- with the tracker that is there

-- the tracker may do it and has done it, or it is refused for a cause, which the tracker leaves as a refusal does
abbrev pub Changes : World → World → Type 0 → Type 0 → (Refusal → Type 0) → Status → Type 0
Changes old new may did refused Done = may × did
Changes old new may did refused (Refused r) = refused r × Leaves old new r
Changes old new may did refused NoWorld = ⊥
Changes old new may did refused TooSmall = ⊥

-- the answer is given, or it is refused for a cause, and nothing is given
abbrev pub Tells : {A : Type 0} → (A → Type 0) → (A → Status → Type 0) → (Refusal → Type 0) → Type 0 → Status → Type 0
Tells {A} answer given refused same Done = (x : A) × answer x × given x Done
Tells {A} answer given refused same TooSmall = (x : A) × answer x × given x TooSmall
Tells {A} answer given refused same (Refused r) = refused r × same
Tells {A} answer given refused same NoWorld = ⊥

-- the numbers that are given name something, with which the call goes on; or they don't, and nothing changes
abbrev pub Reads : {A : Type 0} → (A → Type 0) → (Refusal → Type 0) → Type 0 → (A → Status → Type 0) → Status → Type 0
Reads {A} names isnt same goes_on status = ((x : A) × names x × goes_on x status) ⊎ ((r : Refusal) × isnt r × (status ≡ Refused r) × same)

-- ---- with a world or none

-- a call that changes the world, if there is one
abbrev pub Changing : (World → World → Status → Type 0) → Option World → Option World → Status → Type 0
Changing call None None status = status ≡ NoWorld
Changing call None (Some new) status = ⊥
Changing call (Some old) None status = ⊥
Changing call (Some old) (Some new) status = call old new status

-- one that changes the world, and gives what came of it
abbrev pub Going : {A : Type 0} → (A → A → World → World → Status → Type 0) → A → A → Option World → Option World → Status → Type 0
Going call before after None None status = (status ≡ NoWorld) × (after ≡ before)
Going call before after None (Some new) status = ⊥
Going call before after (Some old) None status = ⊥
Going call before after (Some old) (Some new) status = call before after old new status

-- one that asks the world, and gives the answer
abbrev pub Asking : {A : Type 0} → (A → A → World → Status → Type 0) → A → A → Option World → Option World → Status → Type 0
Asking call before after None None status = (status ≡ NoWorld) × (after ≡ before)
Asking call before after None (Some new) status = ⊥
Asking call before after (Some old) None status = ⊥
Asking call before after (Some old) (Some new) status = (new ≡ old) × call before after old status

-- the world is freed, if there is one
abbrev pub Frees : Option World → Option World → Status → Type 0
Frees None new status = (status ≡ NoWorld) × (new ≡ None)
Frees (Some old) new status = (status ≡ Done) × (new ≡ None)
