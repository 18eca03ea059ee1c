-- Why the world is watched at the start, and how an event leaves it.
use Rattle.std.proofs.Common.{◌≡◌, refl, rules, sym, ap, subst, ℕ, zero, suc, List, [], ◌∷◌, Option, Some, None}
use Rattle.std.specs.Prelude.{slice_get, ◌↔◌, true, IsTrue}
use Rattle.std.specs.Ordering.{is_lt}
use Rattle.std.specs.declared.cmp.Ordering.{Ordering}
use Rattle.std.specs.declared.cmp.Ordering.TheVariants.{Less, Equal, Greater}
use Rattle.std.proofs.lemmas.Option.{same_Some}
use Rattle.kin_num.specs.declared.instant.Moment.{Moment}
use Rattle.kin_num.specs.Order.{IsEarlier}
use Rattle.kin_num.proofs.Grains.{moments_run_out}
use Rattle.kin_motion.specs.declared.keep.Keep.{Keep}
use Rattle.kin_motion.specs.declared.keep.Keep.TheVariants.{Closest, Range}
use Rattle.kin_motion.specs.Journal.{Block}
use Rattle.kin_motion.specs.Keeps.{may_keep}
use Rattle.kin_motion.specs.Live.{IsSmallKeep}
use Rattle.kin_world.specs.Worlds.{World, IsWhole, AreKeepable, HasStepped, empty}
use Rattle.kin_proved_example.specs.Watched.{AreKept, IsWatched, CanGoOn, HasGoneOn}

-- ---- at the start
-- each direction is small
abbrev pub AreSmall : List Keep → Type 0
AreSmall [] = Unit {0}
AreSmall (keep ∷ keeps) = IsSmallKeep keep × AreSmall keeps

each_small : (keeps : List Keep) → AreSmall keeps → (k : ℕ) (keep : Keep) → slice_get keeps k ≡ Some keep → IsSmallKeep keep
each_small [] small k keep e = absurd cc
each_small (first ∷ rest) small zero keep e = subst IsSmallKeep (same_Some _ _ e) small.0
each_small (first ∷ rest) small (suc k) keep e = each_small rest small.1 k keep e

-- such keeps may be kept
pub are_keepable : (keeps : List Keep) → IsTrue (may_keep keeps) → AreSmall keeps → AreKeepable keeps
are_keepable keeps may small = record { few = may; small = each_small keeps small }

-- what is kept stands in its places
are_kept : AreKept (Closest ∷ Range ∷ [])
are_kept = search rules

pub starts : (size : ℕ) (w : World) → w ≡ empty size (Closest ∷ Range ∷ []) → IsWhole w → IsWatched w
starts size w e whole = record { whole = whole; kept = subst AreKept (sym (ap (λ (v : World). v.keeps) e)) are_kept }

-- ---- from event to event
-- a test by `compare_moments` says that the limit is later
pub can_go_on : (order : Ordering) (limit here : Moment) (w : World) → IsWatched w → here ≡ w.moment → is_lt order ≡ true → (order ≡ Less) ↔ IsEarlier here limit → (order ≡ Greater) ↔ IsEarlier limit here → CanGoOn limit w
can_go_on Less limit here w watched same test less greater = record {
  watched = watched;
  ahead = subst (λ m. IsEarlier m limit) same (less.0 refl);
  not_past = subst (λ m. ¬ (IsEarlier limit m)) same (λ h. let e = greater.1 h in cc);
}
can_go_on Equal limit here w watched same test less greater = absurd cc
can_go_on Greater limit here w watched same test less greater = absurd cc

-- the next event is later, and so is the limit
pub goes_on : (limit : Moment) (b : Option Block) (old new : World) → CanGoOn limit old → HasStepped limit b old new → HasGoneOn old new
goes_on limit b old new can stepped = at b stepped
  where
    later : (m : Moment) → IsWhole new → new.keeps ≡ old.keeps → new.moment ≡ m → IsEarlier old.moment m → HasGoneOn old new
    later m whole same here after = record {
      watched = record { whole = whole; kept = subst AreKept (sym same) can.watched.kept };
      fewer = moments_run_out old.moment new.moment can.watched.whole.canonical whole.canonical (subst (IsEarlier old.moment) (sym here) after);
    }

    at : (b : Option Block) → HasStepped limit b old new → HasGoneOn old new
    at None h = later limit h.gone.whole (ap (λ (w : World). w.keeps) h.gone.state) (ap (λ (w : World). w.moment) h.gone.state) can.ahead
    at (Some b) h = later b.moment h.gone.whole (ap (λ (w : World). w.keeps) h.gone.state) (ap (λ (w : World). w.moment) h.gone.state) h.next.later
