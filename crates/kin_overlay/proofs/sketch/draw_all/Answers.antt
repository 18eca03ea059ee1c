use Rattle.std.proofs.Common.{◌≡◌, ◌∷◌, refl, sym, ap, ◌∙◌, subst, arith, List, ℕ, ◌++◌, ◌≤◌, length, get_or, None}
use Rattle.kin_motion.specs.Merges.{Half}
use Rattle.kin_overlay.specs.Seen.{half_of}
use Rattle.kin_overlay.specs.declared.draft.Draft.{Draft}
use Rattle.kin_overlay.specs.declared.breakpoint.Breakpoint.{Breakpoint as Pair}
use Rattle.kin_overlay.specs.Sketching.{IsDrawn, blanks}
use Rattle.kin_overlay.proofs.SketchLaws.{drawn-none, drawn-more, new_fit, single}
use Rattle.kin_overlay.proofs.TraceLaws.{blanks-more, blanks-none, pushed-more, pushed-all}
use Rattle.kin_overlay.proofs.sketch.draw_all.Goals as goal

pub loop-left-init : goal.loop-left-init
loop-left-init c = record { drawn = λ w. drawn-none w (half_of c.args.half) c.args.chain.now c.args.out.now.items; some = c.requires.some; pushed = refl }

pub loop-left-preserved : goal.loop-left-preserved
loop-left-preserved c =
    let chain = c.loop-left.left.now in
    let left = c.in_ok-left.left.now in
    let old = c.loop-left.out.items in
    let new = c.draw.new.out.items in
    let two : 2 ≤ length chain = omega arith in
    let is : c.new.result ≡ record { at = record { half = c.args.half; left = get_or chain 0 0; right = get_or chain 1 0 }; across = None; next = None } = c.new.ensures ∙ ap (λ (p : Pair). record { at = p; across = None; next = None }) c.front_of.ensures in
    record {
      drawn = λ w. drawn-more w (half_of c.args.half) c.args.chain.now chain left c.args.out.now.items old new (c.loop-left.invariant.drawn w)
          (subst (λ (h : Half). IsDrawn w h chain left old new) (ap (λ (d : Draft). half_of d.at.half) is) (c.in_ok-left.ensures.drawn w (λ s stand k. new_fit s c.new.result c.args.half chain two is k)));
      some = omega (arith, c.in_ok-left.ensures.shorter, two);
      pushed = pushed-more (c.args.out.now.items ++ blanks c.args.half c.args.chain.now) old new (blanks c.args.half chain) (blanks c.args.half left) c.new.result (record { at = record { half = c.args.half; left = get_or chain 0 0; right = get_or chain 1 0 }; across = None; next = None }) c.loop-left.invariant.pushed c.in_ok-left.ensures.pushed is
          (blanks-more c.args.half chain two ∙ ap (λ (l : List ℕ). record { at = record { half = c.args.half; left = get_or chain 0 0; right = get_or chain 1 0 }; across = None; next = None } ∷ blanks c.args.half l) (sym c.in_ok-left.ensures.rest));
    }

pub returns : goal.returns
returns c = record { drawn = λ w. (c.loop-left.left.now, c.loop-left.invariant.some, single (half_of c.args.half) c.loop-left.left.now (omega arith), c.loop-left.invariant.drawn w); pushed = pushed-all _ _ _ c.loop-left.invariant.pushed (blanks-none c.args.half c.loop-left.left.now (omega arith)) }
