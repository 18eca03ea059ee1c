use Rattle.std.proofs.Common.{◌≡◌, ◌∷◌, inl, inr, refl, sym, ap, ◌∙◌, subst, arith, List, ℕ, ◌++◌, true, false, ◌≤◌, length, get_or, None}
use Rattle.kin_motion.specs.Merges.{Half}
use Rattle.kin_overlay.specs.Seen.{half_of}
use Rattle.kin_overlay.specs.declared.draft.Draft.{Draft}
use Rattle.kin_overlay.specs.declared.breakpoint.Breakpoint.{Breakpoint as Pair}
use Rattle.kin_overlay.specs.Sketching.{IsDrawn, put_blanks, after_put}
use Rattle.kin_overlay.proofs.SketchLaws.{drawn-none, drawn-more, new_fit}
use Rattle.kin_overlay.proofs.TraceLaws.{put-more, after-more, put-none, after-none, found, pushed-more, pushed-all}
use Rattle.kin_overlay.proofs.sketch.draw_each_put.Goals as goal
use Rattle.kin_overlay.proofs.sketch.draw_each_put.Goals.{then-loop-left-test+else-contains, else-loop-left-test}

pub loop-left-init : goal.loop-left-init
loop-left-init c = record { drawn = λ w. drawn-none w (half_of c.args.half) c.args.chain.now c.args.out.now.items; some = c.requires.some; rest = refl; pushed = refl }

pub loop-left-preserved : goal.loop-left-preserved
loop-left-preserved c =
    let chain = c.loop-left.left.now in
    let left = c.in_ok-left.left.now in
    let old = c.loop-left.out.items in
    let new = c.draw.new.out.items in
    let put = c.args.put.now in
    let two : 2 ≤ length chain = omega arith in
    let is-put = found (get_or chain 0 0) put c.contains.result true c.contains.ensures.value c.if-contains.true in
    let is : c.new.result ≡ record { at = record { half = c.args.half; left = get_or chain 0 0; right = get_or chain 1 0 }; across = None; next = None } = c.new.ensures ∙ ap (λ (p : Pair). record { at = p; across = None; next = None }) c.front_of.ensures in
    record {
      drawn = λ w. drawn-more w (half_of c.args.half) c.args.chain.now chain left c.args.out.now.items old new (c.loop-left.invariant.drawn w)
          (subst (λ (h : Half). IsDrawn w h chain left old new) (ap (λ (d : Draft). half_of d.at.half) is) (c.in_ok-left.ensures.drawn w (λ s stand k. new_fit s c.new.result c.args.half chain two is k)));
      some = omega (arith, c.in_ok-left.ensures.shorter, two);
      rest = ap (after_put put) c.in_ok-left.ensures.rest ∙ sym (after-more put chain two is-put) ∙ c.loop-left.invariant.rest;
      pushed = pushed-more (c.args.out.now.items ++ put_blanks c.args.half put c.args.chain.now) old new (put_blanks c.args.half put chain) (put_blanks c.args.half put left) c.new.result (record { at = record { half = c.args.half; left = get_or chain 0 0; right = get_or chain 1 0 }; across = None; next = None }) c.loop-left.invariant.pushed c.in_ok-left.ensures.pushed is
          (put-more c.args.half put chain two is-put ∙ ap (λ (l : List ℕ). record { at = record { half = c.args.half; left = get_or chain 0 0; right = get_or chain 1 0 }; across = None; next = None } ∷ put_blanks c.args.half put l) (sym c.in_ok-left.ensures.rest));
    }

pub returns-clause-rest : goal.returns-clause-rest
returns-clause-rest c =
    let put = c.args.put.now in
    let left = c.loop-left.left.now in
    elim c.loop-left-test.branch [
      | then-loop-left-test+else-contains w ↦ sym (after-none put left (inr (found (get_or left 0 0) put w.contains.result false w.contains.ensures.value w.if-contains.false))) ∙ c.loop-left.invariant.rest
      | else-loop-left-test w ↦ sym (after-none put left (inl (omega arith))) ∙ c.loop-left.invariant.rest
    ]

pub returns-clause-pushed : goal.returns-clause-pushed
returns-clause-pushed c =
    let put = c.args.put.now in
    let left = c.loop-left.left.now in
    let h = c.args.half in
    elim c.loop-left-test.branch [
      | then-loop-left-test+else-contains w ↦ pushed-all _ _ _ c.loop-left.invariant.pushed (put-none h put left (inr (found (get_or left 0 0) put w.contains.result false w.contains.ensures.value w.if-contains.false)))
      | else-loop-left-test w ↦ pushed-all _ _ _ c.loop-left.invariant.pushed (put-none h put left (inl (omega arith)))
    ]
