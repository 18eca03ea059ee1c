use Rattle.std.proofs.Common.{◌≡◌, sym, ap, ◌∙◌, subst, arith, List, [], ◌∷◌, ◌++◌, ℕ, ◌-◌, take, get_or, Option}
use Rattle.std.specs.Prelude.{IfSome}
use Rattle.std.proofs.lemmas.List.{append_assoc, nil_from_length}
use Rattle.kin_motion.specs.Numbers.{is_in, IsOnce}
use Rattle.kin_motion.specs.Scene.{Scene}
use Rattle.kin_overlay.specs.declared.breakpoint.Breakpoint.{Breakpoint as Pair}
use Rattle.kin_overlay.specs.declared.draft.Draft.{Draft}
use Rattle.kin_overlay.specs.declared.record.Record.{Record}
use Rattle.kin_overlay.specs.Filling.{IsFronted, IsFillingAt}
use Rattle.kin_overlay.specs.Fingers.{AreNoted}
use Rattle.kin_overlay.specs.Lists.{first_of, front}
use Rattle.kin_overlay.specs.Remembered.{Remembered, breakpoints, left_points}
use Rattle.kin_overlay.specs.Sketches.{IsFit, AreFit}
use Rattle.kin_overlay.specs.Spans.{drafts, front_part, back_part, whole_sketch}
use Rattle.kin_overlay.proofs.FillLaws.{filled-new}
use Rattle.kin_overlay.proofs.MergedLaws.{first_is}
use Rattle.kin_overlay.proofs.TakenOverLaws.{first-fit, fit-left, fit-right, once-fronts, AreFilledFrom, fronted-filled, fronted-begins, filling-more, once-taken, filled-whole}
use Rattle.kin_overlay.proofs.list.BreakpointList.fill.Goals as goal

-- the same, in other words
fronted : (s : Scene) (fs gs : List Record) (o p : Option Draft) (a a' b b' : ℕ) (rs : List Record) (x y before steps : ℕ) → fs ≡ gs → o ≡ p → a ≡ a' → b ≡ b' → IsFronted s fs o a b rs x y before steps → IsFronted s gs p a' b' rs x y before steps
fronted s fs gs o p a a' b b' rs x y before steps ef eo ea eb f =
    subst (λ (l : List Record). IsFronted s l p a' b' rs x y before steps) ef
    (subst (λ (q : Option Draft). IsFronted s fs q a' b' rs x y before steps) eo
    (subst (λ (n : ℕ). IsFronted s fs o n b' rs x y before steps) ea (subst (λ (n : ℕ). IsFronted s fs o a n rs x y before steps) eb f)))

filling : (s : Scene) (a b : List ℕ) (n n' m m' : ℕ) (all : List Draft) (x y : ℕ) (rest rest' : List Draft) (rs : List Record) (before steps : ℕ) → n ≡ n' → m ≡ m' → rest ≡ rest' → IsFillingAt s a b n m all x y rest rs before steps → IsFillingAt s a b n' m' all x y rest' rs before steps
filling s a b n n' m m' all x y rest rest' rs before steps en em er f =
    subst (λ (k : ℕ). IsFillingAt s a b k m' all x y rest' rs before steps) en
    (subst (λ (k : ℕ). IsFillingAt s a b n k all x y rest' rs before steps) em (subst (λ (l : List Draft). IsFillingAt s a b n m all x y l rs before steps) er f))

pub take_front-requires-clause-fit : goal.take_front-requires-clause-fit
take_front-requires-clause-fit g c =
    let s = g.O.Signs.scene c.args.now.now in
    let fronts = front_part c.args.span c.args.old.now in
    let rest = c.args.between.now ++ drafts (back_part c.args.span c.args.old.now) in
    subst (λ (l : List Record). AreFit s (drafts l)) (sym c.split_at.ensures.front) (fit-left s (drafts fronts) rest c.requires.fit)

pub take_front-requires-clause-next : goal.take_front-requires-clause-next
take_front-requires-clause-next g c =
    let s = g.O.Signs.scene c.args.now.now in
    let fronts = front_part c.args.span c.args.old.now in
    let rest = c.args.between.now ++ drafts (back_part c.args.span c.args.old.now) in
    let back = c.split_at-2.result.1.now in
    let fit = subst (λ (l : List Record). AreFit s (c.args.between.now ++ drafts l)) (sym c.split_at-2.ensures.back) (fit-right s (drafts fronts) rest c.requires.fit) in
    subst (λ (o : Option Draft). IfSome o (IsFit s)) (sym c.coming-next.ensures) (first-fit s (c.args.between.now ++ drafts back) fit)

pub take_front-requires-clause-once : goal.take_front-requires-clause-once
take_front-requires-clause-once g c =
    let fronts = front_part c.args.span c.args.old.now in
    let rest = c.args.between.now ++ drafts (back_part c.args.span c.args.old.now) in
    subst (λ (l : List Record). IsOnce (left_points l)) (sym c.split_at.ensures.front) (once-fronts fronts rest c.requires.once)

pub loop-draft-init : goal.loop-draft-init
loop-draft-init g c =
    let s = g.O.Signs.scene c.args.now.now in
    let a = c.args.a.now in
    let b = c.args.b.now in
    let old = c.args.old.now in
    let fronts = front_part c.args.span old in
    let back = back_part c.args.span old in
    let rest = c.args.between.now ++ drafts back in
    let rs = c.take_front.new.self.records in
    let x = c.in_ok-first.first in
    let y = c.in_ok-first.second in
    let before = c.args.steps.now in
    let steps = c.take_front.new.steps in
    let rest_is : rest ≡ c.args.between.now ++ drafts c.split_at-2.result.1.now = ap (λ (l : List Record). c.args.between.now ++ drafts l) (sym c.split_at-2.ensures.back) in
    let next_is : c.coming-next.result ≡ first_of rest = c.coming-next.ensures ∙ ap first_of (sym rest_is) in
    let room = c.requires.clean.within in
    let from : AreFilledFrom s a b fronts rest = record {
      a_some = c.requires.a_some;
      b_some = c.requires.b_some;
      a_live = c.requires.a_live;
      b_live = c.requires.b_live;
      fit = c.requires.fit;
      of_a = c.requires.interleaved.of_a;
      of_b = c.requires.interleaved.of_b;
      first = c.requires.clean.first;
      second = c.requires.clean.second;
      passed = c.requires.clean.in_front;
      linked = c.requires.clean.front_linked;
    } in
    let f = fronted s c.split_at.result.0.now fronts c.coming-next.result (first_of rest) (get_or a 0 0) (front a) (get_or b 0 0) (front b) rs x y before steps c.split_at.ensures.front next_is (first_is a) (first_is b) c.in_ok-first.ensures in
    record {
      filling = filling s a b (front a) (get_or a 0 0) (front b) (get_or b 0 0) (drafts fronts ++ rest) x y rest (c.args.between.now ++ drafts c.split_at-2.result.1.now) rs before steps (sym (first_is a)) (sym (first_is b)) rest_is
          (fronted-filled s a b fronts rest rs x y before steps from f);
      begins = fronted-begins s old c.args.span.front (first_of rest) (front a) (front b) rs x y before steps (omega (arith, room)) f;
    }

pub push-requires : goal.push-requires
push-requires g c =
    let s = g.O.Signs.scene c.args.now.now in
    let a0 = get_or c.args.a.now 0 0 in
    let b0 = get_or c.args.b.now 0 0 in
    let all = whole_sketch c.args.span c.args.old.now c.args.between.now in
    let back = drafts c.split_at-2.result.1.now in
    let x = c.loop-draft.first in
    let y = c.loop-draft.second in
    let rs = c.loop-draft.self.records in
    let f = subst (λ (l : List Draft). IsFillingAt s c.args.a.now c.args.b.now a0 b0 all x y (l ++ back) rs c.args.steps.now c.loop-draft.steps) c.in-Some.ensures.cases.0 c.loop-draft.invariant.filling in
    record {
      new = ap (λ (p : Pair). is_in p.left (left_points rs)) c.note.ensures.at ∙ filled-new s a0 b0 all x y c.in-Some.draft.now (c.in-Some.more.now ++ back) rs c.args.steps.now c.loop-draft.steps c.requires.once f.filled;
    }

pub loop-draft-preserved : goal.loop-draft-preserved
loop-draft-preserved g c =
    let s = g.O.Signs.scene c.args.now.now in
    let a = c.args.a.now in
    let b = c.args.b.now in
    let a0 = get_or a 0 0 in
    let b0 = get_or b 0 0 in
    let old = c.args.old.now in
    let all = whole_sketch c.args.span old c.args.between.now in
    let back = drafts c.split_at-2.result.1.now in
    let x = c.loop-draft.first in
    let y = c.loop-draft.second in
    let rs = c.loop-draft.self.records in
    let before = c.args.steps.now in
    let d = c.in-Some.draft.now in
    let more = c.in-Some.more.now ++ back in
    let f = subst (λ (l : List Draft). IsFillingAt s a b a0 b0 all x y (l ++ back) rs before c.loop-draft.steps) c.in-Some.ensures.cases.0 c.loop-draft.invariant.filling in
    let w = c.loop-draft.invariant.begins in
    let begun = take (c.args.span.front - 1) old in
    record {
      filling = subst (λ (m : Remembered). IsFillingAt s a b a0 b0 all c.behind.result.0 c.behind.result.1 more m.records before c.note.new.steps) (sym c.in_ok-push.ensures.pushed)
          (filling-more s a b a0 b0 all x y d more rs before c.loop-draft.steps c.note.new.steps c.note.result c.coming-next-in-Some.result c.behind.result.0 c.behind.result.1
          c.coming-next-in-Some.ensures c.note.ensures.at c.note.ensures.noted c.note.ensures.count c.behind.ensures.a c.behind.ensures.b f);
      begins = (w.0 ++ c.note.result ∷ [], ap (λ (m : Remembered). m.records) c.in_ok-push.ensures.pushed ∙ ap (λ (l : List Record). l ++ c.note.result ∷ []) w.1 ∙ append_assoc begun w.0 (c.note.result ∷ []));
    }

pub take-requires : goal.take-requires
take-requires g c =
    let all = whole_sketch c.args.span c.args.old.now c.args.between.now in
    let back = c.split_at-2.result.1.now in
    let none = nil_from_length c.loop-draft.rest.now c.in_default.ensures.cases in
    record {
      new = once-taken all (c.loop-draft.rest.now ++ drafts back) c.loop-draft.self.records back c.requires.once (ap (λ (l : List Draft). l ++ drafts back) none) c.loop-draft.invariant.filling.filled.places;
    }

pub returns : goal.returns
returns g c =
    let s = g.O.Signs.scene c.args.now.now in
    let a = c.args.a.now in
    let b = c.args.b.now in
    let a0 = get_or a 0 0 in
    let b0 = get_or b 0 0 in
    let old = c.args.old.now in
    let all = whole_sketch c.args.span old c.args.between.now in
    let back = back_part c.args.span old in
    let x = c.loop-draft.first in
    let y = c.loop-draft.second in
    let rs = c.loop-draft.self.records in
    let before = c.args.steps.now in
    let clean = c.requires.clean in
    let none = nil_from_length c.loop-draft.rest.now c.in_default.ensures.cases in
    let rest_is : c.loop-draft.rest.now ++ drafts c.split_at-2.result.1.now ≡ drafts back = ap (λ (l : List Draft). l ++ drafts c.split_at-2.result.1.now) none ∙ ap drafts c.split_at-2.ensures.back in
    let f = subst (λ (l : List Draft). IsFillingAt s a b a0 b0 all x y l rs before c.loop-draft.steps) rest_is c.loop-draft.invariant.filling in
    let done = filled-whole s a b a0 b0 all x y rs before c.loop-draft.steps back clean.m clean.n clean.x clean.y f clean.at_end clean.back_linked clean.closed in
    let records : c.take.new.self.records ≡ rs ++ back = ap (λ (m : Remembered). m.records) c.in_ok-take.ensures.taken ∙ ap (λ (l : List Record). rs ++ l) c.split_at-2.ensures.back in
    let w = c.loop-draft.invariant.begins in
    let begun = take (c.args.span.front - 1) old in
    record {
      places = ap breakpoints records ∙ done.1;
      noted = subst (λ (l : List Record). AreNoted s a0 b0 l) (sym records) done.0;
      count = done.2;
      kept = (w.0, records ∙ ap (λ (l : List Record). l ++ back) w.1 ∙ append_assoc begun w.0 back);
    }
