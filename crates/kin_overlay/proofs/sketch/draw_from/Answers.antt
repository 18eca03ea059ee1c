use Rattle.std.proofs.Common.{◌≡◌, inl, inr, refl, sym, ap, ◌∙◌, subst, arith, List, [], ◌∷◌, ℕ, ◌++◌, drop, append_assoc}
use Rattle.std.proofs.lemmas.List.{append-nil}
use Rattle.kin_overlay.specs.declared.draft.Draft.{Draft}
use Rattle.kin_motion.specs.Merges.{Half}
use Rattle.kin_overlay.specs.declared.breakpoint.Breakpoint.{Breakpoint as Pair}
use Rattle.kin_overlay.specs.Sketching.{IsDrawn, put_blanks, after_put}
use Rattle.kin_overlay.specs.Seen.{half_of}
use Rattle.kin_overlay.proofs.SketchLaws.{drawn-none, drawn-more}
use Rattle.kin_overlay.proofs.sketch.draw_from.Goals as goal

pub returns-then-chain-lt2-clause-drawn : goal.returns-then-chain-lt2-clause-drawn
returns-then-chain-lt2-clause-drawn c = drawn-none c.args.standing.now (half_of c.args.noted.now.at.half) c.args.chain.now c.args.out.now.items

pub returns-then-chain-noted-clause-drawn : goal.returns-then-chain-noted-clause-drawn
returns-then-chain-noted-clause-drawn c = drawn-none c.args.standing.now (half_of c.args.noted.now.at.half) c.args.chain.now c.args.out.now.items

pub returns-clause-drawn : goal.returns-clause-drawn
returns-clause-drawn c =
    let w = c.args.standing.now in
    let h = half_of c.args.noted.now.at.half in
    let d = c.draft_of-draft.result in
    let chain = c.args.chain.now in
    let same : half_of d.at.half ≡ h = ap (λ (p : Pair). half_of p.half) c.draft_of-draft.ensures.at in
    drawn-more w h chain c.in_ok-left.left.now c.in_ok-rest.rest.now c.args.out.now.items c.draw.new.out.items c.draw_put.new.out.items
    (subst (λ (g : Half). IsDrawn w g chain c.in_ok-left.left.now c.args.out.now.items c.draw.new.out.items) same (c.in_ok-left.ensures.drawn w (λ s k l. c.draft_of-draft.ensures.fit s k l))) (c.in_ok-rest.ensures.drawn w)

pub returns-then-chain-lt2-clause-step : goal.returns-then-chain-lt2-clause-step
returns-then-chain-lt2-clause-step c = ([], sym (append-nil c.args.out.now.items), inl (record { begins = λ two b. omega arith; left_is = refl; part_is = refl }))

pub returns-then-chain-noted-clause-step : goal.returns-then-chain-noted-clause-step
returns-then-chain-noted-clause-step c = ([], sym (append-nil c.args.out.now.items), inl (record { begins = λ two b. omega arith; left_is = refl; part_is = refl }))

pub returns-clause-step : goal.returns-clause-step
returns-clause-step c =
    let r = c.args.noted.now in
    let put = c.args.put.now in
    let d = c.draft_of-draft.result in
    let chain = c.args.chain.now in
    let left = c.in_ok-left.left.now in
    let out = c.args.out.now.items in (
      d ∷ put_blanks r.at.half put (drop 1 chain),
      c.in_ok-rest.ensures.pushed ∙ ap (λ (l : List Draft). l ++ put_blanks r.at.half put left) c.in_ok-left.ensures.pushed ∙ append_assoc out (d ∷ []) (put_blanks r.at.half put left)
          ∙ ap (λ (l : List ℕ). out ++ d ∷ put_blanks r.at.half put l) c.in_ok-left.ensures.rest,
      inr
          (record {
            two = omega arith;
            begins = omega arith;
            draft = d;
            at = c.draft_of-draft.ensures.at;
            recalled = c.draft_of-draft.ensures.recalled;
            left_is = c.in_ok-rest.ensures.rest ∙ ap (λ (l : List ℕ). after_put put l) c.in_ok-left.ensures.rest;
            part_is = refl;
          }),
    )
