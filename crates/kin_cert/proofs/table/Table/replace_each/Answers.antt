use Rattle.std.proofs.Common.{◌≡◌, ◌∙◌, Bool, false, ◌∷◌, length, sym, ap, subst, arith, rules}
use Rattle.std.specs.Prelude.{IsTrue}
use Rattle.std.proofs.lemmas.List.Elements.{All-head, All-tail}
use Rattle.kin_motion.specs.declared.fact.Placed.{Placed}
use Rattle.kin_motion.specs.Course.{live_of}
use Rattle.kin_motion.specs.Forms.{IsAskable}
use Rattle.kin_motion.specs.Scene.{scene_at, Holds}
use Rattle.kin_cert.specs.Applied.{IsLiveIn, MayApply}
use Rattle.kin_cert.specs.Facts.{Facts}
use Rattle.kin_cert.proofs.Alone.{dropped-may, dropped-did, dropped-paid, born-may, born-did, born-paid}
use Rattle.kin_cert.proofs.Replacing.{rest-may, rest-did}
use Rattle.kin_cert.specs.Layout.{HasTriedToReplace}
use Rattle.kin_cert.proofs.Paying.{rest-paid}
use Rattle.kin_cert.proofs.table.Table.replace_each.Given as given
use Rattle.kin_cert.proofs.table.Table.replace_each.Goals as goal
use Rattle.kin_cert.proofs.table.Table.replace_each.Goals.{In-Some-split_first, Joined-is_line, then-is_line+then-is_line-2+in_ok-is_replaced, else-is_line+in_ok-is_replaced-2}

is_not : (b : Bool) → b ≡ false → ¬ (IsTrue b)
is_not b f t = cc

-- the first dropped fact is live
dropped-live : (g : given.Over) (c : In-Some-split_first g) → IsLiveIn c.loop-dropped.self.live c.args.structure c.in-Some.dropped.now
dropped-live g c = let d_is = c.in-Some.ensures.cases.0 in (rw d_is at c.loop-dropped.invariant.may.dropped_live) 0 c.in-Some.dropped.now (omega arith)

-- the first born fact may be asked for, and holds
askable : (g : given.Over) (c : In-Some-split_first g) → IsAskable (live_of c.args.motions.now) c.in-Some-split_first.born.now.fact.form
askable g c =
    let b_is = c.in-Some-split_first.ensures.cases.0 in
    All-head (λ (p : Placed). IsAskable (live_of c.args.motions.now) p.fact.form) _ _ (rw b_is at c.loop-dropped.invariant.askable)

holding : (g : given.Over) (c : In-Some-split_first g) → Holds (scene_at c.args.motions.now c.args.now.now) c.in-Some-split_first.born.now.fact
holding g c =
    let b_is = c.in-Some-split_first.ensures.cases.0 in
    All-head (λ (p : Placed). Holds (scene_at c.args.motions.now c.args.now.now) p.fact) _ _ (rw b_is at c.loop-dropped.invariant.holds)

-- what either call did
tried : (g : given.Over) (c : Joined-is_line g) → HasTriedToReplace c.args.structure (scene_at c.args.motions.now) c.args.now.now c.in-Some.dropped.now c.in-Some-split_first.born.now c.if-is_line.is_replaced c.loop-dropped.self c.if-is_line.self c.loop-dropped.steps c.if-is_line.steps
tried g c = elim c.if-is_line.branch [
  | then-is_line+then-is_line-2+in_ok-is_replaced w ↦ rw (w.is_replaced-is, w.self-is, w.steps-is) w.in_ok-is_replaced.ensures
  | else-is_line+in_ok-is_replaced-2 w ↦ rw (w.is_replaced-is, w.self-is, w.steps-is) w.in_ok-is_replaced-2.ensures
]

pub replace-requires : goal.replace-requires
replace-requires g c = let b = (goal.at.replace-requires g c).In-Some-split_first in record { live = dropped-live g b; askable = askable g b; holds = holding g b }

pub replace_curve-requires : goal.replace_curve-requires
replace_curve-requires g c = let b = (goal.at.replace_curve-requires g c).In-Some-split_first in record { live = dropped-live g b; askable = askable g b; holds = holding g b }

pub loop-dropped-preserved-then-is_replaced : goal.loop-dropped-preserved-then-is_replaced
loop-dropped-preserved-then-is_replaced g c =
    let t = tried g (goal.at.loop-dropped-preserved-then-is_replaced g c).Joined-is_line in
    let s = c.args.structure in
    let scene = scene_at c.args.motions.now in
    let inv = c.loop-dropped.invariant in
    let d = c.in-Some.dropped.now in
    let b = c.in-Some-split_first.born.now in
    let ds = c.in-Some.later_dropped.now in
    let bs = c.in-Some-split_first.later_born.now in
    let d_is : c.loop-dropped.rest.dropped.now ≡ d ∷ ds = c.in-Some.ensures.cases.0 in
    let b_is : c.loop-dropped.rest.born.now ≡ b ∷ bs = c.in-Some-split_first.ensures.cases.0 in
    let may : MayApply s (record { dropped = d ∷ ds; born = b ∷ bs }) c.loop-dropped.self.live = rw (d_is, b_is) at inv.may in
    let did = t.yes c.if-is_replaced.true in
    record {
      may = rest-may s scene c.args.now.now d b ds bs c.loop-dropped.self.live c.if-is_line.self.live may did;
      did = λ after app. inv.did after (rw (d_is, b_is) (rest-did s scene c.args.now.now d b ds bs c.loop-dropped.self.live c.if-is_line.self.live may did after app));
      askable = All-tail (λ (p : Placed). IsAskable (live_of c.args.motions.now) p.fact.form) b bs (rw b_is at inv.askable);
      holds = All-tail (λ (p : Placed). Holds (scene c.args.now.now) p.fact) b bs (rw b_is at inv.holds);
      made = t.made ∙ inv.made;
      count =
          let live = inv.count.live in
          let fewer = inv.count.fewer in
          record { live = omega (arith, live, did.count, ap length d_is, ap length b_is); fewer = omega (arith, fewer, ap length d_is) };
      cost = rest-paid s scene c.args.now.now d b ds bs c.loop-dropped.self.live c.if-is_line.self.live may did _ _ _ _ _ (omega (arith, inv.count.live, inv.count.fewer)) (rw (d_is, b_is) at inv.cost) (t.cost c.if-is_replaced.true);
    }

pub drop_one-requires : goal.drop_one-requires
drop_one-requires g c =
    let t = tried g (goal.at.drop_one-requires g c).Joined-is_line in
    let s = c.args.structure in
    let same = t.no (is_not _ c.if-is_replaced.false) in
    record { live = subst (λ (t : Facts). IsLiveIn t.live s c.in-Some.dropped.now) (sym same) (dropped-live g (goal.at.drop_one-requires g c).In-Some-split_first) }

pub loop-dropped-preserved : goal.loop-dropped-preserved
loop-dropped-preserved g c =
    let t = tried g (goal.at.loop-dropped-preserved g c).Joined-is_line in
    let s = c.args.structure in
    let scene = scene_at c.args.motions.now in
    let now = c.args.now.now in
    let inv = c.loop-dropped.invariant in
    let d = c.in-Some.dropped.now in
    let ds = c.in-Some.later_dropped.now in
    let bs = c.loop-dropped.rest.born.now in
    let mid = c.if-is_line.self.live in
    let new = c.drop_one.new.self.live in
    let d_is : c.loop-dropped.rest.dropped.now ≡ d ∷ ds = c.in-Some.ensures.cases.0 in
    let same : c.if-is_line.self ≡ c.loop-dropped.self = t.no (is_not _ c.if-is_replaced.false) in
    let idle : c.if-is_line.steps ≡ c.loop-dropped.steps = t.idle (is_not _ c.if-is_replaced.false) in
    let may : MayApply s (record { dropped = d ∷ ds; born = bs }) mid = rw (d_is, sym same) at inv.may in
    let once = c.drop_one.ensures.once in
    let gone = c.drop_one.ensures.rest in
    let count = c.drop_one.ensures.count in
    let same_count : length mid ≡ length c.loop-dropped.self.live = ap (λ (t : Facts). length t.live) same in
    record {
      may = dropped-may s d ds bs mid new may once gone count;
      did = λ after app. inv.did after (rw (d_is, sym same) (dropped-did s d ds bs mid new may once gone count scene now after app));
      askable = inv.askable;
      holds = inv.holds;
      made = c.drop_one.ensures.made ∙ ap (λ (t : Facts). t.made) same ∙ inv.made;
      count =
          let live = inv.count.live in
          let fewer = inv.count.fewer in
          record { live = omega (arith, live, count, same_count, ap length d_is); fewer = omega (arith, fewer, ap length d_is) };
      cost = dropped-paid s d ds bs mid new may once gone count _ _ _ _ _ (omega (arith, inv.count.live, inv.count.fewer, same_count)) (rw (sym same, sym idle, d_is) at inv.cost) c.drop_one.ensures.cost;
    }

pub bear_one-requires : goal.bear_one-requires
bear_one-requires g c = let b = (goal.at.bear_one-requires g c).In-Some-split_first in record { free = c.is_free.ensures c.if-is_free.true; askable = askable g b; holds = holding g b }

pub loop-dropped-preserved-then-is_free : goal.loop-dropped-preserved-then-is_free
loop-dropped-preserved-then-is_free g c =
    let t = tried g (goal.at.loop-dropped-preserved-then-is_free g c).Joined-is_line in
    let s = c.args.structure in
    let scene = scene_at c.args.motions.now in
    let now = c.args.now.now in
    let inv = c.loop-dropped.invariant in
    let ds = c.loop-dropped.rest.dropped.now in
    let b = c.in-Some-split_first.born.now in
    let bs = c.in-Some-split_first.later_born.now in
    let mid = c.if-is_line.self.live in
    let new = c.bear_one.new.self.live in
    let b_is : c.loop-dropped.rest.born.now ≡ b ∷ bs = c.in-Some-split_first.ensures.cases.0 in
    let same : c.if-is_line.self ≡ c.loop-dropped.self = t.no (is_not _ c.if-is_replaced.false) in
    let idle : c.if-is_line.steps ≡ c.loop-dropped.steps = t.idle (is_not _ c.if-is_replaced.false) in
    let may : MayApply s (record { dropped = ds; born = b ∷ bs }) mid = rw (b_is, sym same) at inv.may in
    let free = c.is_free.ensures c.if-is_free.true in
    let did = c.in_ok-bear_one.ensures.gained in
    let count = c.in_ok-bear_one.ensures.count in
    let same_count : length mid ≡ length c.loop-dropped.self.live = ap (λ (t : Facts). length t.live) same in
    record {
      may = born-may s scene now b ds bs mid new may free did count;
      did = λ after app. inv.did after (rw (b_is, sym same) (born-did s scene now b ds bs mid new may free did count after app));
      askable = All-tail (λ (p : Placed). IsAskable (live_of c.args.motions.now) p.fact.form) b bs (rw b_is at inv.askable);
      holds = All-tail (λ (p : Placed). Holds (scene c.args.now.now) p.fact) b bs (rw b_is at inv.holds);
      made = c.bear_one.ensures.made ∙ ap (λ (t : Facts). t.made) same ∙ inv.made;
      count =
          let live = inv.count.live in
          let fewer = inv.count.fewer in
          record { live = omega (arith, live, count, same_count, ap length b_is); fewer = fewer };
      cost = born-paid s scene now b ds bs mid new may free did count _ _ _ _ _ (omega (arith, inv.count.live, inv.count.fewer, same_count)) (rw (b_is, sym same, sym idle) at inv.cost) c.in_ok-bear_one.ensures.cost;
    }

pub loop-dropped-smaller : goal.loop-dropped-smaller
loop-dropped-smaller g c = search rules
