use Rattle.std.proofs.Common.{◌≡◌, sym, ap, ap₂, subst, arith, List, ℕ, ◌-◌}
use Rattle.kin_motion.specs.Merges.{IsInterleaving}
use Rattle.kin_motion.specs.Numbers.{IsOnce}
use Rattle.kin_overlay.specs.declared.draft.Draft.{Draft}
use Rattle.kin_overlay.specs.declared.record.Record.{Record}
use Rattle.kin_overlay.specs.declared.shared.Shared.{Shared}
use Rattle.kin_overlay.specs.Reports.{AreShared}
use Rattle.kin_overlay.specs.Spans.{whole_sketch, AreClean}
use Rattle.kin_overlay.specs.Filling.{lefts}
use Rattle.kin_overlay.specs.Remembered.{Remembered}
use Rattle.kin_overlay.specs.Sketches.{spots, AreFit}
use Rattle.kin_overlay.proofs.MadeLaws.{IsMade, IsListed, sort, made-merged, made-few, made-paid}
use Rattle.kin_overlay.proofs.MergedLaws.{first_live, interleaved, once_left}
use Rattle.kin_overlay.proofs.CleanLaws.{clean-less}
use Rattle.kin_overlay.proofs.SharedLaws.{taken-shared}
use Rattle.kin_overlay.proofs.list.BreakpointList.merge.Goals as goal

-- what is drawn, in other words
drawn-is : (span : Shared) (old records : List Record) (sketch drawn : List Draft) → old ≡ records → sketch ≡ drawn → whole_sketch span old sketch ≡ whole_sketch span records drawn
drawn-is span old records sketch drawn eo es = ap₂ (λ (l : List Record) (ds : List Draft). whole_sketch span l ds) eo es

pub sketch-requires : goal.sketch-requires
sketch-requires g c = record { a_some = c.requires.a_some; b_some = c.requires.b_some; a_once = c.requires.a_once; b_once = c.requires.b_once; linked = c.requires.linked }

pub resort-requires : goal.resort-requires
resort-requires g c =
    let s = g.O.Signs.scene c.args.now.now in
    let span = c.in_ok-clean.clean in
    let clean = subst (λ (l : List Record). AreClean span l c.args.a.now c.args.b.now) (sym c.records-old.ensures.value) c.in_ok-clean.ensures.clean in
    record {
      real = c.requires.real;
      within = clean.within;
      front_linked = clean.front_linked;
      back_linked = clean.back_linked;
      fit = subst (AreFit s) (sym (drawn-is span _ _ _ _ c.records-old.ensures.value c.deref.ensures.value)) (c.in_ok-clean.ensures.fit s c.requires.standing c.requires.a_live c.requires.b_live);
    }

pub fill-requires : goal.fill-requires
fill-requires g c =
    let s = g.O.Signs.scene c.args.now.now in
    let a = c.args.a.now in
    let b = c.args.b.now in
    let old = c.records-old.result.now in
    let span = c.in_ok-clean.clean in
    let kept = c.in_ok-kept.kept in
    let p = whole_sketch span old c.deref.result.now in
    let r = whole_sketch kept old c.resort.new.buffers.done in
    let less = c.in_ok-kept.ensures.less in
    let clean = subst (λ (l : List Record). AreClean span l a b) (sym c.records-old.ensures.value) c.in_ok-clean.ensures.clean in
    let i = subst (λ (l : List Draft). IsInterleaving a b (spots l)) (sym (drawn-is span _ _ _ _ c.records-old.ensures.value c.deref.ensures.value)) c.in_ok-clean.ensures.interleaved in
    let same : r ≡ whole_sketch kept old c.done.result.now = ap (whole_sketch kept old) (sym c.done.ensures) in
    record {
      a_some = c.requires.a_some;
      b_some = c.requires.b_some;
      a_live = c.requires.a_live;
      b_live = c.requires.b_live;
      clean = clean-less span kept old a b clean less.0 less.1;
      fit = subst (AreFit s) same c.in_ok-kept.ensures.fit;
      interleaved = subst (λ (l : List Draft). IsInterleaving a b (spots l)) same (interleaved a b p r i c.in_ok-kept.ensures.halves);
      once = subst (λ (l : List Draft). IsOnce (lefts (spots l))) same (once_left a b p r i c.in_ok-kept.ensures.halves c.requires.a_once c.requires.b_once c.requires.less);
      empty = ap (λ (m : Remembered). m.records) c.clear.ensures;
    }

pub end_of-left-requires : goal.end_of-left-requires
end_of-left-requires g c =
    let live = (g.O.Signs.scene c.args.now.now).live in
    record {
      standing = c.requires.standing;
      a_live = first_live live c.args.a.now c.requires.a_some c.requires.a_live;
      b_live = first_live live c.args.b.now c.requires.b_some c.requires.b_live;
    }

pub right_end-right-requires : goal.right_end-right-requires
right_end-right-requires g c = record { standing = c.requires.standing; a_some = c.requires.a_some; b_some = c.requires.b_some; a_live = c.requires.a_live; b_live = c.requires.b_live }

pub returns : goal.returns
returns g c =
    let s = g.O.Signs.scene c.args.now.now in
    let w = c.args.standing.now in
    let puts = c.args.puts in
    let a = c.args.a.now in
    let b = c.args.b.now in
    let old = c.records-old.result.now in
    let span = c.in_ok-clean.clean in
    let kept = c.in_ok-kept.kept in
    let p = whole_sketch span old c.deref.result.now in
    let r = whole_sketch kept old c.resort.new.buffers.done in
    let new = c.set_ends.new.self in
    let before = c.args.steps.now in
    let after = c.right_end-right.new.steps in
    let drawn = c.in_ok-clean.ensures in
    let sorted = c.in_ok-kept.ensures in
    let filled = c.in_ok-fill.ensures in
    let same : whole_sketch kept old c.done.result.now ≡ r = ap (whole_sketch kept old) c.done.ensures in
    let made : IsMade s w puts a b new before after = record {
      given = record { a_some = c.requires.a_some; b_some = c.requires.b_some; a_once = c.requires.a_once; b_once = c.requires.b_once; less = c.requires.less };
      sorted = r;
      records = c.fill.new.self.records;
      left = c.end_of-left.result;
      right = c.right_end-right.result;
      at_sort = c.resort.new.steps;
      at_fill = c.fill.new.steps;
      at_left = c.end_of-left.new.steps;
      sort = sort s w puts a b r before c.resort.new.steps (whole_sketch span w.list.now.records c.sketch.new.out.items) p (drawn-is span _ _ _ _ c.records-old.ensures.value c.deref.ensures.value) drawn.interleaved drawn.seated drawn.retained sorted.row sorted.halves sorted.cost;
      list = subst (λ (l : List Draft). IsListed s a b l c.fill.new.self.records c.resort.new.steps c.fill.new.steps) same (record { places = filled.places; noted = filled.noted; count = filled.count });
      left_is = c.end_of-left.ensures.value;
      right_is = c.right_end-right.ensures.value;
      left_asked = record { few = c.end_of-left.ensures.count; asked = c.end_of-left.ensures.asked };
      right_asked = record { few = c.right_end-right.ensures.count; asked = c.right_end-right.ensures.asked };
      new_is = c.set_ends.ensures;
    } in
    let clean = subst (λ (l : List Record). AreClean span l a b) (sym c.records-old.ensures.value) drawn.clean in
    let room = (clean-less span kept old a b clean sorted.less.0 sorted.less.1).within in
    let first : c.saturating_sub.result ≡ kept.front - 1 = omega (arith, c.saturating_sub.ensures) in
    let made_is : new.records ≡ c.fill.new.self.records = ap (λ (m : Remembered). m.records) c.set_ends.ensures in
    let taken = taken-shared kept old c.fill.new.self.records room filled.kept in
    record {
      merged = made-merged s w puts a b new before after made;
      few = made-few s w puts a b new before after made;
      tests = made-paid s w puts a b new before after made;
      shared = subst (λ (n : ℕ). AreShared (record { front = n; back = kept.back }) w.list.now.records new.records) (sym first)
          (subst (λ (l : List Record). AreShared (record { front = kept.front - 1; back = kept.back }) l new.records) c.records-old.ensures.value
          (subst (λ (l : List Record). AreShared (record { front = kept.front - 1; back = kept.back }) old l) (sym made_is) taken));
    }
