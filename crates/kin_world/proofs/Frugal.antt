-- What the calls of a world cost, by what its repairs cost.
use Rattle.std.proofs.lemmas.List.Folds.{fold-map}
use Rattle.std.proofs.lemmas.List.Sums.{length-filter, sum_by-cons}
use Rattle.std.proofs.lemmas.Nat.{mul-le}
use Rattle.std.specs.Prelude.{◌*◌, Bool, cond, count_by, filter, sum}
use Rattle.kin_world.proofs.Vocabulary.{◌≡◌, ◌↔◌, refl, sym, ap, ◌∙◌, subst, arith, ℕ, ◌+◌, ◌≤◌, true, List, [], ◌∷◌, map, length, length-map, slice_get, Some, Option, Contains}
use Rattle.kin_world.proofs.Vocabulary.{Moment, Course, Certificate, IsNextBlock, Block, IsReal, Keep, Scene, scene_at, live_fits, contains_map, contains_mapped, exactly_in_words, filter-complete}
use Rattle.kin_world.proofs.Vocabulary.{AreWaiting, Facts, HasGivenOut, HasSameFrame, IsMarked, IsSound, LiveFact, NoneWaits, Owned, Stage, Structure, certificate_of, certificates_of, meaning, owned_by, setting, sight, AreLiveAfter}
use Rattle.kin_motion.specs.declared.keep.Keep.TheVariants.{Order, Extreme, Hull, Closest, Range, Nearest, Diameter, Boxes}
use Rattle.kin_motion.specs.Agreements.{FitsSize}
use Rattle.kin_motion.specs.KeptOrder.{KeptHullKeepsOrder, TreesKeepOrder}
use Rattle.kin_motion.proofs.SetLaws.{contains_head, contains_tail, distinct_mapped}
use Rattle.kin_motion.proofs.SetSizes.{no_longer}
use Rattle.kin_cert.specs.Cost.{IsEnough, TakesAtMost, waiting_count}
use Rattle.kin_cert.specs.Remade.{names_number}
use Rattle.kin_cert.proofs.Costs.{enough}
use Rattle.kin_world.specs.declared.structure.Mark.{Mark}
use Rattle.kin_world.specs.Costs.{AreAsked, IsRepairCost, IsTurnCost}
use Rattle.kin_world.specs.Paid.{HavePaid, IsInStep, IsPaid, IsRepaid, IsSeenBefore}
use Rattle.kin_world.proofs.Certificates.{same_listed}
use Rattle.kin_world.proofs.ChainOrder.{blocks_keep_order, kept_since}
use Rattle.kin_world.proofs.MarkLaws.{live_after}
use Rattle.kin_legs.specs.declared.leg.Leg.{Leg}
use Rattle.kin_world.proofs.SoundLaws.{fit_proper, fits, live_holds, real}
use Rattle.kin_world.proofs.TakeLaws.{same_facts}

-- ---- what waits
waiting-cons : (l : LiveFact) (ls : List LiveFact) → waiting_count (l ∷ ls) ≡ cond l.waits 1 0 + waiting_count ls
waiting-cons l ls = sum_by-cons (λ (k : LiveFact). cond k.waits 1 0) l ls

-- where no fact waits there are none
none_waiting : (live : List LiveFact) → NoneWaits live → waiting_count live ≡ 0
none_waiting [] none = refl
none_waiting (l ∷ ls) none =
    let e : waiting_count (l ∷ ls) ≡ 0 + waiting_count ls = waiting-cons l ls ∙ ap (λ (b : Bool). cond b 1 0 + waiting_count ls) (none l (contains_head l ls)) in
    let rest = none_waiting ls (λ k there. none k (contains_tail l k ls there)) in
    omega (arith, e, rest)

-- the facts that were given out wait
given_wait : (live : List LiveFact) (given : List Owned) → AreWaiting live given → length given ≤ waiting_count live
given_wait live given h =
    let waits : LiveFact → Bool = λ l. l.waits in
    let same : (o p : Owned) → certificate_of o ≡ certificate_of p → o ≡ p = λ o p e. ap (λ (c : Certificate). record { structure = c.structure; part = c.placed.part; fact = c.placed.fact }) e in
    let there : (c : Certificate) → Contains (map certificate_of given) c → Contains (map (λ (l : LiveFact). l.certificate) (filter waits live)) c = λ c k.
    let o = contains_mapped certificate_of given c k in
    let l = h.only o.0 o.1 in
    subst (λ (x : Certificate). Contains (map (λ (l : LiveFact). l.certificate) (filter waits live)) x) (l.3 ∙ sym o.2) (contains_map (λ (l : LiveFact). l.certificate) (filter waits live) l.0 (filter-complete waits live l.0 l.1 l.2)) in
    let few = no_longer (map certificate_of given) (map (λ (l : LiveFact). l.certificate) (filter waits live)) (distinct_mapped certificate_of given same h.once) there in
    omega (arith, few, length-map given certificate_of, length-map (filter waits live) (λ (l : LiveFact). l.certificate), length-filter waits live)

-- ---- a call that repairs
-- The facts given out are paid for, and the table that they were given out of has the certificates of the start.
pub frugal_of : (v : Scene) (s t : Stage) (start : List LiveFact) (asked : List ℕ) (given failures before halfway after : ℕ) → ((c : Certificate) → Contains (certificates_of s.table.live) c ↔ Contains (certificates_of start) c)
    → length start ≡ length s.table.live → AreAsked s.size s.keeps v (sight t) asked → NoneWaits t.table.live → IsPaid start t.table.live (sum asked) halfway after → given ≤ waiting_count start
    → ((r : ℕ) → IsEnough (length s.table.live) r → halfway ≤ before + (given * r + 2 * failures + 1)) → IsRepaid v s t failures before after
frugal_of v s t start asked given failures before halfway after same count asks none paid wait first = record {
  asked = asked;
  asks = asks;
  dropped = paid.dropped;
  gone = exactly_in_words paid.dropped _ _ (λ c. (λ h. ((same c).1 h.0, h.1), λ h. ((same c).0 h.0, h.1))) paid.gone;
  born = paid.born;
  come = exactly_in_words paid.born _ _ (λ c. (λ h. (h.0, λ k. h.1 ((same c).0 k)), λ h. (h.0, λ k. h.1 ((same c).1 k)))) paid.come;
  few = let few = paid.few in omega (arith, few, count);
  bound = λ r e.
      let one = paid.bound r (enough (length start + length paid.born) (length s.table.live + length paid.born) r (omega (arith, count)) e) in
      let two = first r (enough (length s.table.live) (length s.table.live + length paid.born) r (omega arith) e) in
      let times : given * r ≤ waiting_count start * r = mul-le given r (waiting_count start) r wait (omega arith) in
      let zero : waiting_count t.table.live * r ≡ 0 * r = ap (λ n. n * r) (none_waiting t.table.live none) in
      omega (arith, one, two, times, zero);
}

-- what a repair at one moment cost
as_cost : {s t : Stage} {failures before after : ℕ} → IsRepaid (sight s) s t failures before after → (legs others : List Leg) → IsRepairCost (meaning s legs true) (meaning t others true) failures before after
as_cost {s} {t} {failures} {before} {after} paid legs others = record {
  asked = paid.asked;
  asks = paid.asks;
  dropped = paid.dropped;
  gone = paid.gone;
  born = paid.born;
  come = paid.come;
  bound = λ r e.
      let bound = paid.bound r (enough (length s.table.live + length paid.born) (length (certificates_of s.table.live) + length paid.born) r (omega (arith, length-map s.table.live (λ (l : LiveFact). l.certificate))) e) in
      omega (arith, bound);
}

-- the chains of a kept hull keep their order
chains_kept : (size : ℕ) (keep : Keep) (v w : Scene) → (keep ≡ Hull → TreesKeepOrder size v w) → KeptHullKeepsOrder size keep v w
chains_kept size (Order dx dy) v w trees = tt
chains_kept size (Extreme dx dy) v w trees = tt
chains_kept size Hull v w trees = trees refl
chains_kept size Closest v w trees = tt
chains_kept size Range v w trees = tt
chains_kept size Nearest v w trees = tt
chains_kept size Diameter v w trees = tt
chains_kept size (Boxes width height) v w trees = tt

-- what was seen just now
pub seen_now : {s : Stage} → IsSound s → IsSeenBefore (sight s) s
seen_now {s} sound = record {
  real = real sound;
  fits = fits sound;
  same_live = refl;
  settled = λ j keep st kept here. (sound.in_order.each j keep st kept here).fine;
  hold = live_holds sound;
}

module _ {s : Stage} (sound : IsSound s) {v : Scene} (before_now : IsSeenBefore v s) where
  -- every structure is in step with another real scene
  in_step : (w : Scene) → IsReal w → FitsSize s.size w → ((hull : ℕ) → slice_get s.keeps hull ≡ Some Hull → TreesKeepOrder s.size v w)
      → (j : ℕ) (keep : Keep) (st : Structure) → slice_get s.keeps j ≡ Some keep → slice_get s.structures j ≡ Some st → IsInStep s.size keep v w st
  in_step w there fit trees j keep st kept here = record {
    settled = before_now.settled j keep st kept here;
    step = record {
      old_real = before_now.real;
      new_real = there;
      old_fits = before_now.fits;
      new_fits = fit;
      chains = chains_kept s.size keep v w (λ e. trees j (subst (λ (x : Keep). slice_get s.keeps j ≡ Some x) e kept));
    };
  }

  -- a block
  pub block_frugal : (table : Facts) {given : List Owned} (out : HasGivenOut s.table.live table.live given) → AreWaiting table.live given → (m : Moment) (b : Block) → IsNextBlock (setting s) s.moment b → b.moment ≡ m
      → {t : Stage} {before halfway after : ℕ} → HasSameFrame (record s { moment = m; table = table }) t → IsSound t → HavePaid (λ live. live ≡ (scene_at s.motions m).live) (length s.keeps) (record s { moment = m; table = table }) t halfway after
      → ((r : ℕ) → IsEnough (length s.table.live) r → halfway ≤ before + (length given * r + 2 * length given + 1)) → IsRepaid v s t (length given) before after
  block_frugal table {given} out waits m b next at {t} {before} {halfway} {after} frame sound' paid first =
      let w = scene_at s.motions m in
      let sees : sight t ≡ w = ap (λ (x : Stage). sight x) frame in
      let done = paid.paid v before_now.same_live (in_step w (subst (λ (x : Scene). IsReal x) sees (real sound')) (live_fits s.size s.motions m sound.in_order.fit.room) trees) in
      let asks : AreAsked s.size s.keeps v (sight t) done.asked = subst (λ (x : Scene). AreAsked s.size s.keeps v x done.asked) (sym sees) (record { count = done.count; each = done.each }) in
      frugal_of v s t table.live done.asked (length given) (length given) before halfway after (same_listed (same_facts sound table out)) out.has_taken.count asks sound'.none_waits done.paid (given_wait table.live given waits) first
    where
      trees : (hull : ℕ) → slice_get s.keeps hull ≡ Some Hull → TreesKeepOrder s.size v (scene_at s.motions m)
      trees hull kept =
          kept_since s.size v (sight s) (scene_at s.motions m) before_now.real (real sound) before_now.fits before_now.same_live
          (λ p fact. before_now.hold (owned_by hull p) (record { keep = Hull; kept = kept; fact = fact }))
          (subst (λ (n : Moment). TreesKeepOrder s.size (sight s) (scene_at s.motions n)) at (blocks_keep_order s.motions s.size s.keeps hull s.moment b (fit_proper sound) kept sound.in_order.canonical next))

-- a number has entered or left
pub marked_frugal : {s : Stage} (sound : IsSound s) (mark : Mark) (motions : List (Option Course)) → IsMarked mark 0 s.motions (record s { motions = motions }) → TreesKeepOrder s.size (sight s) (scene_at motions s.moment) → {t : Stage} {before after : ℕ}
    → HasSameFrame (record s { motions = motions }) t → IsSound t → HavePaid (λ live. AreLiveAfter mark live (scene_at motions s.moment).live) (length s.keeps) (record s { motions = motions }) t before after
    → (legs others : List Leg) → IsRepairCost (meaning s legs true) (meaning t others true) 0 before after
marked_frugal {s} sound mark motions marked trees {t} {before} {after} frame sound' paid legs others =
    let w = scene_at motions s.moment in
    let sees : sight t ≡ w = ap (λ (x : Stage). sight x) frame in
    let fit : FitsSize s.size w = subst (λ (x : Stage). FitsSize x.size (sight x)) frame (fits sound') in
    let done = paid.paid (sight s) (live_after mark marked) (in_step sound (seen_now sound) w (subst (λ (x : Scene). IsReal x) sees (real sound')) fit (λ hull kept. trees)) in
    let asks : AreAsked s.size s.keeps (sight s) (sight t) done.asked = subst (λ (x : Scene). AreAsked s.size s.keeps (sight s) x done.asked) (sym sees) (record { count = done.count; each = done.each }) in
    as_cost (frugal_of (sight s) s t s.table.live done.asked 0 0 before before after (λ c. (λ h. h, λ h. h)) refl asks sound'.none_waits done.paid (omega arith) (λ r e. omega arith)) legs others

-- ---- a turn
pub turn_frugal : (s : Stage) (legs : List Leg) (number before after : ℕ) → TakesAtMost (length s.table.live) (λ r. count_by (names_number number) s.table.live * (2 * r + 1)) before after
    → IsTurnCost number (meaning s legs true) before after
turn_frugal s legs number before after takes r e =
    let part = takes r (enough (length s.table.live) (length (certificates_of s.table.live)) r (omega (arith, length-map s.table.live (λ (l : LiveFact). l.certificate))) e) in
    rw fold-map (omega (arith, part))
