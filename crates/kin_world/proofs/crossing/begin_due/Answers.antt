use Rattle.std.proofs.Common.{arith}
use Rattle.std.proofs.lemmas.Bool.{both_ways}
use Rattle.kin_world.proofs.Vocabulary.{refl, sym, ap, ◌∙◌, Leg, begins_at}
use Rattle.kin_algebra.proofs.Results.{on_err}
use Rattle.kin_legs.proofs.FollowedLaws.{leg_fair}
use Rattle.kin_world.proofs.Beginnings.{no_legs, same_first}
use Rattle.kin_world.proofs.CrossingLaws.{crossed_nothing, none_begins}
use Rattle.kin_world.proofs.NextStops.{as_first, first_in}
use Rattle.kin_world.proofs.crossing.begin_due.Goals as goal

pub loop-leg-init : goal.loop-leg-init
loop-leg-init g c = record { ready = c.requires.ready; begun = λ more start h. h; moment = refl; fewer = λ k h. h; shorter = omega arith; some = λ e. absurd cc; none = λ e. refl; keeps = refl }

pub begins-requires : goal.begins-requires
begins-requires g c = record { soon = (leg_fair c.loop-leg.invariant.ready.followed c.in-Some.leg (first_in c.loop-leg.legs.legs c.first.result c.in-Some.leg c.first.ensures.0 c.first.ensures.1 c.in-Some.is)).soon }

pub begin_first-requires : goal.begin_first-requires
begin_first-requires g c = record {
  ready = c.loop-leg.invariant.ready;
  begins = c.begins.ensures.0 c.if-begins.true;
  first = (c.first.ensures.0, as_first c.loop-leg.legs.legs c.first.result c.in-Some.leg c.first.ensures.0 c.first.ensures.1 c.in-Some.is);
}

pub loop-leg-preserved : goal.loop-leg-preserved
loop-leg-preserved g c =
    let h = c.loop-leg.invariant in
    let did = c.in_ok-begin_first.ensures in
    let shorter = h.shorter in
    let less = c.begin_first.ensures.shorter in
    record {
      ready = (did.begun 0 _ (crossed_nothing h.ready)).ready;
      begun = λ more start x. did.begun more start (h.begun more start x);
      moment = did.moment ∙ h.moment;
      fewer = λ k there. h.fewer k (c.begin_first.ensures.fewer k there);
      shorter = omega (arith, shorter, less);
      some = λ e. omega (arith, shorter, less);
      none = λ e. absurd cc;
      keeps = c.begin_first.ensures.keeps ∙ h.keeps;
    }

pub returns-else-begins-clause-ahead : goal.returns-else-begins-clause-ahead
returns-else-begins-clause-ahead g c =
    none_begins (crossed_nothing c.loop-leg.invariant.ready)
    (λ l rest first is. both_ways c.begins.result c.if-begins.false
    (c.begins.ensures.1 (sym is ∙ ap (λ (k : Leg). begins_at k) (same_first c.loop-leg.legs.legs l c.in-Some.leg rest c.first.ensures.0 first (as_first c.loop-leg.legs.legs c.first.result c.in-Some.leg c.first.ensures.0 c.first.ensures.1 c.in-Some.is)))))

pub returns-clause-ahead : goal.returns-clause-ahead
returns-clause-ahead g c = none_begins (crossed_nothing c.loop-leg.invariant.ready) (λ l rest first is. no_legs l rest (c.first.ensures.2 c.in_default.is) first)

pub returns-in_err-begin_first-clause-cause : goal.returns-in_err-begin_first-clause-cause
returns-in_err-begin_first-clause-cause g c =
    let h = c.loop-leg.invariant in
    on_err c.from_residual.result (c.in-Some.leg, h.fewer c.in-Some.leg (first_in c.loop-leg.legs.legs c.first.result c.in-Some.leg c.first.ensures.0 c.first.ensures.1 c.in-Some.is), sym h.moment ∙ c.begins.ensures.0 c.if-begins.true)
