-- A number turns: what is seen now is as before, so every structure stays settled, and the facts that don't name it fail as before.
use Rattle.std.proofs.Common.{rules, ◌≡◌, inl, inr, refl, sym, ap, ◌∙◌, subst, arith, ℕ, true, List, length, slice_set, Result, Err, IfOk, Option, Some, ℤ, Contains, ◌↔◌, IsTrue, length-set}
use Rattle.std.proofs.lemmas.List.Folds.{fold-map}
use Rattle.std.proofs.lemmas.Result.{IfOk-weaker}
use Rattle.kin_world.proofs.Vocabulary.{cases_Bool, same_Some, IsCanonical, Moment, At, AreSlow, Course, IsSlow, is_live, live_of, motion_of, IsAskable, Holds, Scene, scene_at, IsNotWhole, IsOutOfBounds, TurnsTo}
use Rattle.kin_world.proofs.Vocabulary.{NotWhole, OutOfBounds, Facts, LiveFact, NoneAlike, IsTimed, timed_holds, IsSettledFor, IsSound, Stage, meaning, sight, AreAhead, AreFollowed, CanTurn, HasTakenUp, HasTurned, IsAtEase, Leg, MayTakeUp, Planning, World, filter-sound, without}
use Rattle.kin_motion.proofs.TurningLaws.{turn_keeps_scene, one_turn}
use Rattle.kin_cert.specs.Remade.{HasRemade, names_number}
use Rattle.kin_turn.specs.declared.turned.TurnError.{TurnError}
use Rattle.kin_world.proofs.Certificates.{HaveSameCertificates, same_listed}
use Rattle.kin_world.proofs.InOrder.{retimed, timed, timely_from_timed}
use Rattle.kin_world.proofs.MarkLaws.{motion_there}
use Rattle.kin_world.proofs.SoundLaws.{live_askable, whole}
use Rattle.std.specs.Prelude.{not}
use Rattle.kin_legs.specs.Planning.{is_of}
use Rattle.kin_legs.proofs.FollowedLaws.{followed_with}
use Rattle.kin_world.proofs.OneMore.{timed_other}

-- what is so at the moment and of the motion inside is so as they are seen
pub seen_so : (P : Moment → Course → Type 0) (inner seen : World) (n : ℕ) (motion : Course) → inner ≡ seen → motion_of inner.motions n ≡ Some motion → P inner.moment motion
    → (had : Course) → motion_of seen.motions n ≡ Some had → P seen.moment had
seen_so P inner seen n motion is there so had shown = search (rules, same_Some)

-- a motion that a live number turns to may be taken up
pub can_turn : {E : Type 0} (w : World) (n : ℕ) (u v : ℤ) → is_live w.motions n ≡ true → (r : Result Course E)
    → ((had : Course) → motion_of w.motions n ≡ Some had → IfOk r (λ new. (w.moment.phase ≡ At) × TurnsTo w.moment.at u v had new × IsSlow new))
    → IfOk r (CanTurn n u v w)
can_turn w n u v live r turns =
    let had = motion_there (motion_of w.motions n) live in
    IfOk-weaker r _ _ (λ new t. record { before = had.0; had = had.1; at = t.0; turns = t.1; slow = t.2 }) (turns had.0 had.1)

-- where a number may turn nothing speaks against it
pub no_cause : (w : World) (n : ℕ) (u v : ℤ) (motion : Course) → CanTurn n u v w motion → IsCanonical w.moment.at → (r : Result Course TurnError)
    → ((had : Course) → motion_of w.motions n ≡ Some had → (r ≡ Err NotWhole) ↔ IsNotWhole w.moment u v had)
    → ((had : Course) → motion_of w.motions n ≡ Some had → (r ≡ Err OutOfBounds) ↔ IsOutOfBounds w.moment u v had)
    → (e : TurnError) → r ≡ Err e → ⊥
no_cause w n u v motion can canonical r not_whole outside NotWhole is = search (rules, arith, can.turns)
no_cause w n u v motion can canonical r not_whole outside OutOfBounds is =
    let far = (outside can.before can.had).0 is in
    far.1.2 (subst IsSlow (one_turn w.moment.at u v can.before motion far.1.0 canonical can.turns far.1.1) can.slow)

-- the legs of the other numbers are ahead, too
pub ahead_without : (now : Moment) (legs : List Leg) (n : ℕ) → AreAhead now legs → AreAhead now (without n legs)
ahead_without now legs n ahead l there = ahead l (filter-sound (λ (k : Leg). not (is_of n k)) legs l there).0

module _ {s : Stage} (sound : IsSound s) (n : ℕ) (motion : Course) (may : MayTakeUp n motion s) (motions : List (Option Course)) (written : motions ≡ slice_set s.motions n (Some motion)) where
  -- what is seen now is as before
  pub same_sight : scene_at motions s.moment ≡ sight s
  same_sight =
      ap (λ (ms : List (Option Course)). scene_at ms s.moment) written
      ∙ subst (λ m. scene_at (slice_set s.motions n (Some motion)) m ≡ scene_at s.motions m) (λ i. record { at = s.moment.at; phase = sym may.at i })
      (turn_keeps_scene s.motions n motion.u motion.v may.before motion s.moment.at sound.in_order.canonical may.had may.turns)

  -- so each live fact may still be asked for, and holds
  pub askable_still : (l : LiveFact) → Contains s.table.live l → IsTrue (names_number n l) → IsAskable (live_of motions) l.certificate.placed.fact.form
  askable_still l there named = subst (λ (live : List ℕ). IsAskable live l.certificate.placed.fact.form) (sym (ap (λ (x : Scene). x.live) same_sight)) (live_askable sound l there)

  pub holds_still : (l : LiveFact) → Contains s.table.live l → IsTrue (names_number n l) → Holds (scene_at motions s.moment) l.certificate.placed.fact
  holds_still l there named =
      subst (λ (x : Scene). Holds x l.certificate.placed.fact) (sym same_sight)
      (timed_holds (scene_at s.motions) s.moment sound.in_order.canonical l (timed sound.in_order sound.none_waits l there))

  module _ {table : Facts} (remade : HasRemade n (scene_at motions) s.moment s.table table) (once : NoneAlike table.live) (slow : AreSlow motions) where
    -- each certificate was live and stays so
    same : HaveSameCertificates s.table.live table.live
    same = record {
      stay = λ l there. elim (cases_Bool (names_number n l)) [
        | inl e ↦ let k = remade.remade l there e in (k.0, k.1, k.2.certificate)
        | inr e ↦ (l, remade.kept l there e, refl)
      ];
      only = λ l there. elim (remade.only l there) [
        | inl old ↦ (l, old.0, refl)
        | inr anew ↦ (anew.0, anew.1, sym anew.3.certificate)
      ];
    }

    -- each has its first failure
    timed_now : (l : LiveFact) → Contains table.live l → IsTimed (scene_at motions) s.moment l
    timed_now l there = elim (remade.only l there) [
      | inl old ↦ rw written ((timed_other s.motions n (Some motion) s.moment l old.1).0 (timed sound.in_order sound.none_waits l old.0))
      | inr anew ↦ record { waits_not = anew.3.waits_not; fails = anew.3.fails }
    ]

    pub sound_turned : IsSound (record s { motions = motions; table = table })
    sound_turned = record {
      in_order = retimed sound.in_order motions s.moment table (ap length written ∙ length-set s.motions n (Some motion)) slow sound.in_order.canonical once (omega (arith, remade.made)) same
          (λ j keep st kept there place. subst (λ (x : Scene). IsSettledFor s.size keep x st) (sym same_sight) place.fine)
          (λ l there. timely_from_timed (scene_at motions) s.moment l (timed_now l there));
      none_waits = λ l there. (timed_now l there).waits_not;
    }

    pub taken_up : HasTakenUp n motion s (record s { motions = motions; table = table })
    taken_up = record {
      state = ap (λ (ms : List (Option Course)). record s { motions = ms; table = table }) written;
      sound = sound_turned;
      same_sight = same_sight;
      stay = λ c. let both = same_listed same c in (both.1, both.0);
      count = remade.count;
      made = rw fold-map remade.made;
    }

-- a number that may turn may take the motion up, and has turned then
module _ {s : Stage} {legs : List Leg} {n : ℕ} {u v : ℤ} {motion : Course} (can : CanTurn n u v (meaning s legs true) motion) where
  pub may_take_up : MayTakeUp n motion s
  may_take_up = record {
    before = can.before;
    had = can.had;
    at = can.at;
    turns =
        subst (λ p. TurnsTo s.moment.at p motion.v can.before motion) (sym can.turns.u_is)
        (subst (λ q. TurnsTo s.moment.at u q can.before motion) (sym can.turns.v_is) can.turns);
    slow = can.slow;
  }

  pub has_turned : {t : Stage} → AreFollowed s.motions legs → AreAhead s.moment legs → HasTakenUp n motion s t → HasTurned n u v (meaning s legs true) (meaning t (without n legs) true)
  has_turned {t} followed ahead taken = record {
    motion = motion;
    turned = can;
    state = ap (λ (x : Stage). meaning x (without n legs) true) taken.state;
    whole = whole taken.sound
        (subst (λ (ms : List (Option Course)). AreFollowed ms (without n legs)) (sym (ap (λ (x : Stage). x.motions) taken.state)) (followed_with followed n (Some motion) (λ m is. subst IsSlow (same_Some motion m is) can.slow)))
        (subst (λ (m : Moment). AreAhead m (without n legs)) (sym (ap (λ (x : Stage). x.moment) taken.state)) (ahead_without s.moment legs n ahead));
    stay = taken.stay;
    made = taken.made;
  }

  pub ease_turned : {t : Stage} {plan : Planning} → IsAtEase s plan → HasTakenUp n motion s t → {next : Planning} → next ≡ record plan { legs = without n plan.legs } → IsAtEase t next
  ease_turned {t} {plan} ease taken {next} is = subst (IsAtEase t) (sym is) (record {
    sound = taken.sound;
    size = ease.size ∙ sym (ap (λ (x : Stage). x.size) taken.state);
    followed = subst (λ (ms : List (Option Course)). AreFollowed ms (without n plan.legs)) (sym (ap (λ (x : Stage). x.motions) taken.state)) (followed_with ease.followed n (Some motion) (λ m is. subst IsSlow (same_Some motion m is) can.slow));
    ahead = subst (λ (m : Moment). AreAhead m (without n plan.legs)) (sym (ap (λ (x : Stage). x.moment) taken.state)) (ahead_without s.moment plan.legs n ease.ahead);
  })
