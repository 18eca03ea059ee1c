-- What a call that goes on comes to, once its event is reported.
use Rattle.kin_tracker.specs.declared.refusal.Refusal.{Refusal}
use Rattle.kin_tracker.specs.declared.time.Event.{Event}
use Rattle.kin_world.specs.Worlds.{World}
use Rattle.kin_c.specs.declared.status.Status.{Status}
use Rattle.kin_c.specs.declared.status.Status.TheVariants.{Done, NoWorld, Refused, TooSmall}
use Rattle.kin_c.specs.Times.{Comes, Report, Reports}

pub comes : (old new : World) (came : Event → Type 0) (refused : Refusal → Type 0) (before after : Report) (event : Event) (status : Status)
    → came event → Reports event before after status → Comes old new came refused before after status
comes old new came refused before after event Done is reported = (event, is, reported)
comes old new came refused before after event TooSmall is reported = (event, is, reported)
comes old new came refused before after event NoWorld is reported = absurd reported.1
comes old new came refused before after event (Refused r) is reported = absurd reported.1
