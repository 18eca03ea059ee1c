-- One structure has become another, and the table is told.
use Rattle.kin_world.proofs.Vocabulary.{subst, ◌≡◌, sym, ℕ, ◌+◌, ◌-◌, ◌^◌, ◌<◌, min, true, List, length, slice_get, Some, Contains, get_within, scene_at, Course, Option, Keep, MayTell, nothing, HasUpdated, IsInOrder, IsInPlace, IsSettledFor, Facts, LiveFact}
use Rattle.kin_world.proofs.Vocabulary.{Stage, sight, placed_facts, Structure}
use Rattle.kin_motion.specs.Deltas.{Change}
use Rattle.kin_cert.specs.Cost.{TakesAtMost, change_cost}
use Rattle.kin_cert.specs.Told.{IsTold}
use Rattle.kin_world.specs.Kinds.{IsFor}
use Rattle.kin_world.specs.Paid.{HasPaid}
use Rattle.kin_world.specs.Structures.{HasChangedAt}
use Rattle.kin_world.proofs.InOrder.{may_tell}
use Rattle.kin_world.proofs.PaidLaws.{has_paid}

-- Failures may be seen over other motions than those of the stage.
module _ (s : Stage) {is_fine : ℕ → Keep → Structure → Type 0} {motions : List (Option Course)} (o : IsInOrder is_fine (record s { motions = motions })) {may : List ℕ → Type 0} {k : ℕ} {new : List Structure} {out : Change} {count halfway : ℕ}
    (h : HasChangedAt k may (sight s) s.structures new nothing out count halfway) (within : k < length s.structures) where
  -- the keep of the structure, and where it is
  pub keep_here : (keep : Keep) × (slice_get s.keeps k ≡ Some keep)
  keep_here = get_within s.keeps k (subst (λ n. k < n) o.count within)

  pub place_here : IsInPlace is_fine s.table.live k keep_here.0 h.was
  place_here = o.each k keep_here.0 h.was keep_here.1 h.here

  module _ (kind : IsFor s.size keep_here.0 h.was) where
    pub settled_here : IsSettledFor s.size keep_here.0 (sight s) h.after
    settled_here = record { kind = h.become.kind s.size keep_here.0 kind; rest = h.become.rest; members = h.become.members; settled = h.become.settled }

    pub may_be_told : MayTell k out (sight s) s.table.live
    may_be_told = may_tell o (sight s) k keep_here.0 h.was h.after out keep_here.1 place_here settled_here h.become.delta

    module _ {table : Facts} (told : IsTold k out (scene_at s.motions) s.moment s.table.live table.live) where
      pub updated : table.made ≡ min (s.table.made + length out.born) (2 ^ 64 - 1) → HasUpdated k (sight s) s keep_here.0 h.was h.after table
      updated made = record { kept = keep_here.1; here = h.here; settled = settled_here; change = out; changed = h.become.delta; told = told; made = made }

      pub paid : ((l : LiveFact) → Contains s.table.live l → l.waits ≡ true → l.certificate.structure ≡ k → ¬ (Contains (placed_facts h.after) l.certificate.placed)) → (end : ℕ)
          → TakesAtMost (length s.table.live + length out.born) (change_cost k out s.table.live) halfway end → HasPaid may k s (record s { structures = new; table = table }) count end
      paid leave end takes =
          subst (λ (xs : List Structure). HasPaid may k s (record s { structures = xs; table = table }) count end) (sym h.written)
          (has_paid may h.after table o.once told place_here.tabled h.become.delta leave keep_here.1 h.here count halfway end
          (λ v live step. h.become.within s.size keep_here.0 v step.settled.kind step.step step.settled.settled step.settled.members live) takes)
